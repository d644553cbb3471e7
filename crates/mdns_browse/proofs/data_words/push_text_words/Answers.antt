use Rattle.mdns_browse.proofs.{ReachLemmas.{reaches-more}, TextLemmas.{text_words-cons}}
use Rattle.mdns_browse.proofs.data_words.push_text_words.Goals as goal

pub loop-string-preserved : goal.loop-string-preserved
loop-string-preserved g c =
    reaches-more g.met.W.WordSink.word_laws c.loop-string.invariant (text_words-cons _ _ _ c.in-Some.ensures.first)
    c.in_ok-push_string_word.ensures
