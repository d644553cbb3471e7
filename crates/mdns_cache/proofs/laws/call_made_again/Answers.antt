use Rattle.join_map.specs.laws.Join.{join-again}
use Rattle.mdns_cache.proofs.ContentsLemmas.{join_of_laws}
use Rattle.mdns_cache.proofs.laws.call_made_again.Goals as goal

pub returns : goal.returns
returns c = join-again (join_of_laws c.map_laws.ensures)
