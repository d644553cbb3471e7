use Rattle.std.proofs.{Common.{arith}, lemmas.{List.{append_assoc}, Grind.{flat_map-append}}}
use Rattle.mdns_browse.specs.{laws.JsonPieces.{strings-append}}
use Rattle.mdns_browse.proofs.host_forms.push_addresses.Goals as goal

pub returns : goal.returns
returns c = grind (arith, append_assoc, strings-append, flat_map-append)
