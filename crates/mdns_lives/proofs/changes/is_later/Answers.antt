use Rattle.std.proofs.{Common.{◌≡◌, ◌∙◌, ap, rules, arith}, lemmas.Grind.{common_steps}}
use Rattle.std.specs.Prelude.{nat_lt}
use Rattle.mdns_join.specs.Nanos.{nanos_of}
use Rattle.mdns_lives.proofs.ChangesLemmas.{first-less, no-less}
use Rattle.mdns_lives.proofs.changes.is_later.Goals as goal

pub returns-in-Some : goal.returns-in-Some
returns-in-Some c =
    let less : c.lt.result ≡ nat_lt c.in-Some.first.now.nanos c.args.from.nanos = search rules in
    less ∙ first-less c.args.from.nanos c.in-Some.first.now.nanos _ (nanos_of c.args.begun.now)
    (ap nanos_of c.in-Some.ensures.cases.0) c.requires

pub returns-in-None : goal.returns-in-None
returns-in-None c = grind (arith, common_steps, no-less)
