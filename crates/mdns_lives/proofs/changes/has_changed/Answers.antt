use Rattle.std.proofs.Common.{◌∙◌, ap, arith}
use Rattle.mdns_join.specs.{Kept.{ascending}, Nanos.{nanos_of}, laws.Kept.{IsAscending-ascending}}
use Rattle.mdns_lives.proofs.ChosenLemmas.{kept-set}
use Rattle.mdns_lives.proofs.changes.has_changed.Goals as goal

pub any_comes_back-requires-clause-sorted : goal.any_comes_back-requires-clause-sorted
any_comes_back-requires-clause-sorted c = grind (arith, IsAscending-ascending)

pub returns : goal.returns
returns c = record {
  ok =
      kept-set c.args.window c.args.set.now (nanos_of c.as_slice.result.now) c.any_comes_back.result c.requires
      (ap nanos_of c.as_slice.ensures.value ∙ c.sort.ensures ∙ ap ascending c.in_ok-begun.ensures) c.any_comes_back.ensures;
}
