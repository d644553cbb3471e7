use Rattle.mdns_cache.proofs.{LawLemmas.{some_last}, StandsPartLemmas.{same-itself, IsLast-same}}
use Rattle.mdns_cache.proofs.laws.one_last_hearing.Goals as goal

pub returns : goal.returns
returns c = record {
  some = some_last c.map_laws.ensures;
  same = λ heard key l m p q. IsLast-same heard heard (same-itself heard) key l m p q;
}
