use Rattle.std.proofs.Common.{◌≡◌, length}
use Rattle.std.specs.List.{list_any}
use Rattle.mdns_survey.proofs.UnmatchedLemmas.{keeps_entry}
use Rattle.mdns_survey.proofs.unmatched.is_in_cache.Given as goal

-- no record so far is about a subject
abbrev pub invariant-loop-latest : goal.invariant-loop-latest
invariant-loop-latest l = list_any (keeps_entry l.about) l.records ≡ list_any (keeps_entry l.about) l.cache.lasts

abbrev pub decreases-loop-latest : goal.decreases-loop-latest
decreases-loop-latest l = length l.records
