use Rattle.std.proofs.Common.{◌≡◌, length}
use Rattle.std.specs.List.{list_any}
use Rattle.mdns_lives.specs.Chronicle.{rows_of}
use Rattle.mdns_survey.proofs.UnmatchedLemmas.{keeps_row}
use Rattle.mdns_survey.proofs.unmatched.is_in_lives.Given as goal

-- no record so far is about a subject
abbrev pub invariant-loop-record : goal.invariant-loop-record
invariant-loop-record l = list_any (keeps_row l.about) l.records ≡ list_any (keeps_row l.about) (rows_of l.lives)

abbrev pub decreases-loop-record : goal.decreases-loop-record
decreases-loop-record l = length l.records
