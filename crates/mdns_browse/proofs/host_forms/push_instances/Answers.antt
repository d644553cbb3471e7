use Rattle.std.proofs.Common.{◌∙◌, ap, arith, rules, sym, drop, ◌+◌, ◌∷◌}
use Rattle.dns_name.specs.Name.{name_text}
use Rattle.mdns_browse.proofs.{HostLemmas.{names-more, names_left}, ReachLemmas.{reaches-more}}
use Rattle.mdns_browse.proofs.host_forms.push_instances.Goals as goal

pub loop-service-preserved : goal.loop-service-preserved
loop-service-preserved g c =
    let services = c.args.services.now in
    let name = c.service-item.result.instance.now in
    reaches-more g.met.W.WordSink.word_laws c.loop-service.invariant
    (names-more c.loop-service.before.now services c.loop-service.service-index c.service-item.result (omega arith) c.service-item.is
    (search rules)
    ∙ ap (λ own. name_text name ∷ names_left own (drop (c.loop-service.service-index + 1) services)) (sym c.wire-before.ensures.bytes))
    (rw c.borrowed.ensures at c.in_ok-word.ensures)
