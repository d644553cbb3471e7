use Rattle.std.proofs.Common.{◌≤◌, Some, rules}
use Rattle.mdns_survey.proofs.SurveyLemmas.{none-later}
use Rattle.mdns_survey.proofs.lives_answer.newest_after.Goals as goal

pub returns-then-lt-clause-some : goal.returns-then-lt-clause-some
returns-then-lt-clause-some c = (search rules, c.in_ok-newest.ensures.stands)

pub returns-else-lt-clause-none : goal.returns-else-lt-clause-none
returns-else-lt-clause-none c = λ heard stands.
    let no_later : c.in_ok-newest.newest.nanos ≤ c.args.end_of_captures.nanos = search rules in
    none-later (Some c.in_ok-newest.newest) heard c.args.end_of_captures (c.in_ok-newest.ensures.stands heard stands) no_later
