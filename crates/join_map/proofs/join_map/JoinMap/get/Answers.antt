use Rattle.std.proofs.Common.{arith, sym}
use Rattle.join_map.specs.{Blocks.{entries_of}, laws.Entries.{IsJoinMap-value}}
use Rattle.join_map.proofs.SpotLemmas.{value_at-spot, value_at-gap}
use Rattle.join_map.proofs.join_map.JoinMap.get.Goals as goal

pub returns-in-Ok-clause-value : goal.returns-in-Ok-clause-value
returns-in-Ok-clause-value g c =
    rw (← c.self.view_is)
    (sym (value_at-spot g.met.K.Ord.total g.met.K.Copied.exact c.self.inside.blocks c.args.key.now c.in-Ok.spot
    c.entry.result.now c.self.invariant.sorted c.in-Ok.ensures.found c.entry.ensures))

pub returns-in-Ok-clause-valid : goal.returns-in-Ok-clause-valid
returns-in-Ok-clause-valid g c =
    IsJoinMap-value g.met.K.Ord.total g.met.K.Copied.exact g.met.V.Semilattice.laws c.args.key.now c.entry.result.now.1
    (entries_of c.self.inside.blocks) c.self.invariant
    (value_at-spot g.met.K.Ord.total g.met.K.Copied.exact c.self.inside.blocks c.args.key.now c.in-Ok.spot
    c.entry.result.now c.self.invariant.sorted c.in-Ok.ensures.found c.entry.ensures)

pub returns-in-Err-clause-value : goal.returns-in-Err-clause-value
returns-in-Err-clause-value g c = grind (arith, value_at-gap)
