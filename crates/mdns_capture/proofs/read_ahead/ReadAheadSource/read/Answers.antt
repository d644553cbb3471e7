use Rattle.std.proofs.{lemmas.Grind.{common_steps}, KnownBytes.{prepend_known-nil, prepend_known-read, Keeps-refl}}
use Rattle.std.proofs.Common.{◌≡◌, [], slice_range, sym, arith}
use Rattle.mdns_capture.proofs.ReadAheadLemmas.{slice_range-empty, ReadConsumes-err}
use Rattle.mdns_capture.proofs.read_ahead.ReadAheadSource.read.Goals.{then-self+else-len-to+in_ok-fill, else-self}
use Rattle.mdns_capture.proofs.read_ahead.ReadAheadSource.read.Goals as goal

pub returns-then-len-to-clause-bytes : goal.returns-then-len-to-clause-bytes
returns-then-len-to-clause-bytes g c =
    let now = c.args.self.now in
    let next = c.allocate.new.self in
    let known = g.R.Source.remaining in
    let before : slice_range now.buffer.items now.start now.end ≡ [] = slice_range-empty now.buffer.items now.start now.end (omega arith) in
    let after : slice_range next.buffer.items next.start next.end ≡ [] =
    slice_range-empty next.buffer.items next.start next.end (omega arith) in
    let no_bytes = prepend_known-nil (known now.inner) in
    rw (before, after, no_bytes, prepend_known-nil (known c.read.new.self), sym c.allocate.ensures.inner) c.read.ensures.bytes

pub returns-in_err-fill-clause-bytes : goal.returns-in_err-fill-clause-bytes
returns-in_err-fill-clause-bytes g c =
    let now = c.args.self.now in
    let before : slice_range now.buffer.items now.start now.end ≡ [] = slice_range-empty now.buffer.items now.start now.end (omega arith) in
    let no_bytes = prepend_known-nil (g.R.Source.remaining now.inner) in
    ReadConsumes-err _ _ _ _ c.from_residual.ensures.0 (rw (before, no_bytes, sym c.allocate.ensures.inner) c.fill.ensures.bytes)

pub returns-clause-bytes : goal.returns-clause-bytes
returns-clause-bytes g c =
    grind (arith, common_steps, slice_range, prepend_known-nil, slice_range-empty, else-self, Keeps-refl, prepend_known-read)
