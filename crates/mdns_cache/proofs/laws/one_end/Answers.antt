use Rattle.mdns_cache.proofs.{EndLemmas.{some_end, end_among, same_end}, LawLemmas.{some_last}}
use Rattle.mdns_cache.proofs.laws.one_end.Goals as goal

pub returns : goal.returns
returns c = record {
  some = λ heard key h. let last = some_last c.map_laws.ensures heard key h in some_end heard key last.0 last.1;
  shared = end_among;
  same = same_end;
}
