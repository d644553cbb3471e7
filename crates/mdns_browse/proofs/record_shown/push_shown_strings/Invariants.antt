use Rattle.std.proofs.Common.{◌≡◌, ◌++◌, length}
use Rattle.std.specs.String.{string_bytes}
use Rattle.mdns_browse.specs.RecordShown.{shown_strings, spaced_by}
use Rattle.mdns_browse.proofs.record_shown.push_shown_strings.Given as goal

-- what is written, with what the rest gives, is the whole text
abbrev pub invariant-loop-string : goal.invariant-loop-string
invariant-loop-string l =
    string_bytes l.to ++ spaced_by l.gap (shown_strings l.rest) ≡ string_bytes l.initial.to ++ spaced_by l.gap (shown_strings l.bytes)

abbrev pub decreases-loop-string : goal.decreases-loop-string
decreases-loop-string l = length l.rest
