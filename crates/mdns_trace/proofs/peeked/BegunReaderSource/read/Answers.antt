use Rattle.std.proofs.Common.{◌-◌, arith, drop, length, length-drop, take_all}
use Rattle.mdns_trace.proofs.FlawLemmas.{header-read, nothing-left}
use Rattle.mdns_trace.proofs.peeked.BegunReaderSource.read.Goals as goal

pub returns-then-self-header-clause-bytes : goal.returns-then-self-header-clause-bytes
returns-then-self-header-clause-bytes g c =
    nothing-left c.args.self.now.header c.args.self.now.at _ _ _ _ c.if-self-header.true c.read.ensures.bytes

pub returns-clause-bytes : goal.returns-clause-bytes
returns-clause-bytes g c =
    let header = c.args.self.now.header in
    let at = c.args.self.now.at in
    let whole = take_all (length header - at) (drop at header) (omega (arith, length-drop at header)) in
    header-read header _ c.args.to.now c.copy_from_slice.new.self at c.min-count.result _ whole c.if-self-header.false
    c.min-count.ensures c.copy_from_slice.ensures.after
