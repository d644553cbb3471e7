use Rattle.std.proofs.{Common.{sym, subst, [], ◌∷◌}, lemmas.Result.{on_ok_weaker}}
use Rattle.std.specs.Fmt.{decimal}
use Rattle.dns_name.specs.Name.{name_text}
use Rattle.mdns_message.specs.Parts.{content_lent}
use Rattle.mdns_browse.specs.RecordText.{content_words}
use Rattle.mdns_browse.proofs.data_words.push_content.Goals as goal

pub returns-in_ok-word-in-Srv-3 : goal.returns-in_ok-word-in-Srv-3
returns-in_ok-word-in-Srv-3 g c =
    let more = g.met.W.WordSink.word_laws.more in
    let service = c.in-Srv.service in
    let weight = decimal service.weight in
    let port = decimal service.port in
    let target = name_text service.target.now in
    on_ok_weaker c.word-in-Srv-4.result
    (λ last.
    subst (λ content. g.W.WordSink.takes_words c.args.to.now (content_words (content_lent content)) c.word-in-Srv-4.new.self)
    (sym c.in-Srv.is)
    (more _ _ _ (decimal service.priority ∷ []) (weight ∷ port ∷ target ∷ []) c.in_ok-word-in-Srv.ensures
    (more _ _ _ (weight ∷ []) (port ∷ target ∷ []) c.in_ok-word-in-Srv-2.ensures
    (more _ _ _ (port ∷ []) (target ∷ []) c.in_ok-word-in-Srv-3.ensures last))))
    c.word-in-Srv-4.ensures
