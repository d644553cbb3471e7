use Rattle.std.proofs.Common.{ap, ◌∙◌}
use Rattle.mdns_lives.specs.Heard.{seconds_walked}
use Rattle.mdns_lives.proofs.HeardLemmas.{seconds_listed}
use Rattle.mdns_lives.proofs.seconds_heard.seconds_by.Goals as goal

pub returns-in-Some : goal.returns-in-Some
returns-in-Some c =
    c.in_ok-seconds.ensures
    ∙ seconds_listed c.in-Some.heard.now c.args.history.now c.in-Some.ensures.in_order c.in-Some.ensures.same

pub returns : goal.returns
returns c =
    c.in_ok-seconds-2.ensures ∙ ap seconds_walked c.as_slice.ensures.value
    ∙ seconds_listed c.in_ok-heard.heard.items c.args.history.now c.in_ok-heard.ensures.in_order c.in_ok-heard.ensures.same
