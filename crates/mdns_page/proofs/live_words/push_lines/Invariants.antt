use Rattle.std.proofs.Common.{◌≡◌, ◌++◌, true, length}
use Rattle.std.specs.String.{string_bytes}
use Rattle.mdns_browse.specs.{Json.{first_after}, RecordShown.{shown_strings}}
use Rattle.mdns_page.specs.LiveSheet.{lines}
use Rattle.mdns_page.proofs.live_words.push_lines.Given as goal

-- what is written, with what the rest gives, is the whole text, and whether there is a word shows at the end
abbrev pub invariant-loop-string : goal.invariant-loop-string
invariant-loop-string l =
    (string_bytes l.to ++ lines l.first (shown_strings l.rest) ≡ string_bytes l.initial.to ++ lines true (shown_strings l.text))
    × (first_after l.first (shown_strings l.rest) ≡ first_after true (shown_strings l.text))

abbrev pub decreases-loop-string : goal.decreases-loop-string
decreases-loop-string l = length l.rest
