use Rattle.mdns_survey.specs.Request.{plain_request}
use Rattle.uses.proofs.surveys.reports_in_any_order.Goals as goal

pub returns : goal.returns
returns g c ones more known known_more same =
    c.same_text.ensures.same ones more (plain_request c.args.ask c.args.at) _ _ _ _ same
    ((c.plain_survey.ensures ones c.args.ask c.args.at _ _).0 (c.in_ok-first.ensures ones known))
    ((c.plain_survey.ensures more c.args.ask c.args.at _ _).0 (c.in_ok-second.ensures more known_more))
