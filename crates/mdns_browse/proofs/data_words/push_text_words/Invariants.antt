use Rattle.std.proofs.Common.{length}
use Rattle.mdns_browse.specs.RecordText.{text_words}
use Rattle.mdns_browse.proofs.ReachLemmas.{Reaches}
use Rattle.mdns_browse.proofs.data_words.push_text_words.Given as goal

abbrev pub invariant-loop-string : goal.invariant-loop-string
invariant-loop-string g l = Reaches g.W.WordSink.takes_words l.initial.to (text_words l.bytes) l.to (text_words l.rest)

abbrev pub decreases-loop-string : goal.decreases-loop-string
decreases-loop-string g l = length l.rest
