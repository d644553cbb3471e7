use Rattle.std.proofs.Common.{arith}
use Rattle.memory.proofs.SameLemmas.{last_same, more_same}
use Rattle.memory.proofs.same.same_bytes.Goals as goal

pub loop-at-preserved : goal.loop-at-preserved
loop-at-preserved c =
    more_same c.args.one.now c.args.other.now c.loop-at.at c.loop-at.invariant (c.same_word.ensures.0 c.if-not-same_word.false)

pub returns : goal.returns
returns c = grind (arith, last_same)
