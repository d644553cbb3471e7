use Rattle.std.proofs.Common.{arith}
use Rattle.mdns_browse.proofs.JsonLemmas.{character_marked, character_plain}
use Rattle.mdns_browse.proofs.json.push_character.Goals.{then-is_marked+in_ok-push, else-is_marked}
use Rattle.mdns_browse.proofs.json.push_character.Goals as goal

pub returns : goal.returns
returns c = grind (arith, character_marked, else-is_marked, character_plain)
