use Rattle.std.proofs.Common.{◌≡◌, [], false, rules, subst}
use Rattle.mdns_lives.specs.Chronicle.{AreAllLives, rows_of}
use Rattle.mdns_survey.proofs.UnmatchedLemmas.{any-none, found-in-lives, keeps_row}
use Rattle.mdns_survey.proofs.unmatched.is_in_lives.Goals as goal

pub returns : goal.returns
returns c = λ heard chronicles.
    let about = c.args.about.now in
    let rows = rows_of c.args.lives.now in
    let none : c.loop-record.records ≡ [] = search rules in
    found-in-lives about rows false (any-none (keeps_row about) rows c.loop-record.records c.loop-record.invariant none)
    heard (subst (AreAllLives heard) c.walk-records.ensures.left (c.walk-records.ensures.all heard chronicles))
