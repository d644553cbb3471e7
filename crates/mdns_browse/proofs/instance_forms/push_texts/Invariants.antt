use Rattle.std.proofs.Common.{◌≡◌, ◌++◌, take}
use Rattle.std.specs.{List.{flat_map}, String.{string_bytes}}
use Rattle.mdns_browse.specs.{RecordShown.{shown_strings}, RecordText.{spaced}}
use Rattle.mdns_browse.proofs.instance_forms.push_texts.Given as goal

abbrev pub invariant-loop-text : goal.invariant-loop-text
invariant-loop-text l =
    string_bytes l.to ≡ string_bytes l.initial.to ++ spaced (flat_map shown_strings (take l.text-index l.texts))
