use Rattle.mdns_cache.proofs.{StandsPartLemmas.{IsFlushedAt-from_has, has-from_flushed}, MeaningLemmas.{struck-kept_heard}}
use Rattle.mdns_cache.proofs.laws.no_flush_is_missed.Goals as goal

pub returns : goal.returns
returns c = record {
  moments = λ heard set m. (IsFlushedAt-from_has heard set m, has-from_flushed heard set m);
  strikes = λ heard key t now before. struck-kept_heard heard now key t before;
}
