use Rattle.std.proofs.Common.{◌≡◌, ◌++◌}
use Rattle.std.specs.{Str.Iter.{chars_rest}, String.{string_bytes}}
use Rattle.mdns_browse.specs.Json.{marked}
use Rattle.mdns_browse.proofs.json.push_marked.Given as goal

-- what is written, with what the rest gives, is the whole text
abbrev pub invariant-loop-character : goal.invariant-loop-character
invariant-loop-character l =
    string_bytes l.to ++ marked l.mark (chars_rest l.character-iterator) ≡ string_bytes l.initial.to ++ marked l.mark l.text
