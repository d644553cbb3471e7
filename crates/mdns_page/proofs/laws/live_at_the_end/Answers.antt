use Rattle.mdns_page.proofs.SurveyLemmas.{live-since}
use Rattle.mdns_page.proofs.laws.live_at_the_end.Goals as goal

pub returns : goal.returns
returns c heard axis rows latest are =
    live-since heard axis rows (c.live_lives_are_since.ensures heard rows axis.now.nanos latest are)
