use Rattle.std.proofs.Common.{arith}
use Rattle.join_map.proofs.PutLemmas.{leads_first, leads_more, leads_part, on_err}
use Rattle.join_map.proofs.join_map.JoinMapJoin.join_with.Goals as goal

pub loop-key-init : goal.loop-key-init
loop-key-init g c = grind (
  arith,
  leads_first g.met.K.Ord.total g.met.K.Copied.exact g.met.V.Semilattice.laws c.args.self.now c.args.other.now c.valid.ensures c.walk-key-items.ensures.valid,
)

pub loop-key-preserved : goal.loop-key-preserved
loop-key-preserved g c = grind (
  arith,
  leads_more g.met.K.Ord.total g.met.K.Copied.exact g.met.V.Semilattice.laws c.args.self.now c.args.other.now c.loop-key.self c.join_near.new.self c.next.new.self (c.in-Some.key.now, c.in-Some.value.now) c.loop-key.key-iterator c.valid.ensures c.in_ok-join_near.ensures.valid c.in-Some.ensures.steps c.loop-key.invariant c.in_ok-join_near.ensures.ok,
)

pub returns-in_err-join_near-clause-err : goal.returns-in_err-join_near-clause-err
returns-in_err-join_near-clause-err g c = grind (
  arith,
  on_err c.from_residual.result _ (leads_part g.met.K.Ord.total g.met.K.Copied.exact g.met.V.Semilattice.laws c.args.self.now c.args.other.now c.loop-key.self c.join_near.new.self c.next.new.self (c.in-Some.key.now, c.in-Some.value.now) c.loop-key.key-iterator c.valid.ensures c.walk-key-items.ensures.valid c.in_err-join_near.ensures.valid c.in-Some.ensures.steps c.loop-key.invariant c.in_err-join_near.ensures.err),
  leads_part g.met.K.Ord.total g.met.K.Copied.exact g.met.V.Semilattice.laws c.args.self.now c.args.other.now c.loop-key.self c.join_near.new.self c.next.new.self (c.in-Some.key.now, c.in-Some.value.now) c.loop-key.key-iterator c.valid.ensures c.walk-key-items.ensures.valid c.in_err-join_near.ensures.valid c.in-Some.ensures.steps c.loop-key.invariant c.in_err-join_near.ensures.err,
)
