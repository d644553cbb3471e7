use Rattle.std.proofs.Common.{arith, ◌∙◌, ap, map}
use Rattle.std.specs.List.{filter}
use Rattle.mdns_browse.specs.{About.{keeps_instance}, Given.{given_lent}, Services.{InstanceRow, given_of, gives_instance, lasts_in}}
use Rattle.mdns_browse.proofs.InstanceLemmas.{given_in, shown-again, shown_in}
use Rattle.mdns_browse.proofs.instance_pointers.pointers_about.Goals as goal

pub returns-clause-given : goal.returns-clause-given
returns-clause-given c ascending = grind (arith, given_in)

pub returns-clause-shown : goal.returns-clause-shown
returns-clause-shown c ascending =
    ap (λ rows. shown_in rows (map given_lent c.in_ok-given.given.items)) c.in_ok-gathered.ensures.rows
    ∙ ap (shown_in (lasts_in c.args.walk)) (returns-clause-given c ascending)
    ∙ shown-again (lasts_in c.args.walk) (λ (row : InstanceRow). keeps_instance c.args.about.now row.instance)
    (filter gives_instance (map given_of c.args.walk))
