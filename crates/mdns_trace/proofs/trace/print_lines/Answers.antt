use Rattle.std.proofs.lemmas.Bool.{false≢true}
use Rattle.mdns_trace.proofs.TraceLemmas.{lines-cut, lines-written}
use Rattle.mdns_trace.proofs.trace.print_lines.Goals as goal

pub returns-in-Ok-write_all-clause-written : goal.returns-in-Ok-write_all-clause-written
returns-in-Ok-write_all-clause-written g c =
    (lines-written g.R.Source g.W.Sink c.args.reader c.args.lines.now c.read_capture.new.consumer c.write_all.new.out
    c.in-Ok.reading c.requires.empty c.in-Ok.ensures.read c.in-Ok.ensures.over
    (rw c.as_bytes.ensures.value at c.in-Ok-write_all.ensures.whole)
    c.in-Ok-write_all.ensures.well.unfailed c.in-Ok-write_all.ensures.well.stays).1

pub returns-in-Err-write_all-clause-stops : goal.returns-in-Err-write_all-clause-stops
returns-in-Err-write_all-clause-stops g c =
    (lines-cut g.R.Source g.W.Sink c.args.reader c.args.lines.now c.read_capture.new.consumer c.write_all.new.out
    c.in-Ok.reading c.requires.empty c.in-Ok.ensures.read c.in-Ok.ensures.sound
    (rw c.as_bytes.ensures.value at c.in-Err-write_all.ensures.prefix) c.in-Err-write_all.ensures.well.failed
    (λ steady. false≢true (c.in-Err-write_all.ensures.well.answers steady))).1
