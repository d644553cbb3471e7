use Rattle.std.proofs.Common.{◌≡◌, ◌++◌, take}
use Rattle.std.specs.{List.{flat_map}, String.{string_bytes}}
use Rattle.mdns_browse.specs.{RecordShown.{shown_words}, RecordText.{spaced}}
use Rattle.mdns_browse.proofs.instance_forms.push_addresses.Given as goal

abbrev pub invariant-loop-address : goal.invariant-loop-address
invariant-loop-address l =
    string_bytes l.to ≡ string_bytes l.initial.to ++ spaced (flat_map shown_words (take l.address-index l.addresses))
