use Rattle.std.proofs.Common.{◌≡◌, length}
use Rattle.std.specs.List.{flat_map}
use Rattle.mdns_message.specs.TextData.{strings_of}
use Rattle.mdns_browse.specs.About.{asks_for_any, string_terms}
use Rattle.mdns_browse.proofs.about_data.is_in_text.Given as goal

-- no subject is a string before the rest
abbrev pub invariant-loop-string : goal.invariant-loop-string
invariant-loop-string l =
    asks_for_any l.about (flat_map string_terms (strings_of l.rest)) ≡ asks_for_any l.about (flat_map string_terms (strings_of l.bytes))

abbrev pub decreases-loop-string : goal.decreases-loop-string
decreases-loop-string l = length l.rest
