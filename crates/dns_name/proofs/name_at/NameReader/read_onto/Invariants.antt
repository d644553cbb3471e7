use Rattle.std.proofs.Common.{◌+◌, ◌-◌}
use Rattle.dns_name.proofs.{PointerLemmas.{Knowing}, ReadNameLemmas.{ReadingRun}}
use Rattle.dns_name.proofs.name_at.NameReader.read_onto.Given as goal

abbrev pub invariant-loop-bytes : goal.invariant-loop-bytes
invariant-loop-bytes l =
    Knowing (ReadingRun l.message l.at l.offset l.start l.used l.fn.bytes.items l.bytes.items l.after)
    l.message l.self.pointers.ends.items

abbrev pub decreases-loop-bytes : goal.decreases-loop-bytes
decreases-loop-bytes l = l.start + (256 - l.used)
