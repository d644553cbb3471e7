use Rattle.std.proofs.Common.{◌≡◌, [], false, rules}
use Rattle.mdns_survey.proofs.UnmatchedLemmas.{any-none, found-in-cache, keeps_entry}
use Rattle.mdns_survey.proofs.unmatched.is_in_cache.Goals as goal

pub returns : goal.returns
returns c =
    let about = c.args.about.now in
    let none : c.loop-latest.records ≡ [] = search rules in
    found-in-cache about c.args.cache.now false
    (any-none (keeps_entry about) c.args.cache.now.lasts c.loop-latest.records c.loop-latest.invariant none)
