use Rattle.std.proofs.Common.{map, take}
use Rattle.mdns_cache.specs.LentRecords.{last_lent}
use Rattle.mdns_browse.specs.Hosts.{address_words}
use Rattle.mdns_browse.proofs.host_forms.push_address_words.Given as goal

abbrev pub invariant-loop-row : goal.invariant-loop-row
invariant-loop-row g l = g.W.WordSink.takes_words l.initial.to (address_words (map last_lent (take l.row-index l.rows))) l.to
