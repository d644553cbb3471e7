use Rattle.std.proofs.Common.{ap, rules, subst, refl, sym}
use Rattle.mdns_capture.specs.{Capture.{packet_lent}, Source.{IsSourceOf}}
use Rattle.mdns_message.specs.Message.{MessageReads}
use Rattle.mdns_cache.proofs.MemoryLemmas.{IfSome-weaker}
use Rattle.mdns_listeners.specs.declared.{heard_message.HeardAt.{HeardAt}, listeners.MessageCollector.{MessageCollector}}
use Rattle.mdns_listeners.specs.{HeardMessage.{message_bytes}, KeptMessage.{HeardSoFar, HearsMessage}}
use Rattle.mdns_listeners.proofs.ListenersLemmas.{gathers-told}
use Rattle.mdns_listeners.proofs.listeners.MessageCollector.hear_again.Goals as goal

pub returns-clause-took : goal.returns-clause-took
returns-clause-took c =
    let payload = c.args.payload.now in
    let source = c.in_ok-source.source in
    let old = c.args.self.now in
    let new : MessageCollector = record { by_file = old.by_file; place = old.place; messages = c.hear_again.new.self } in
    let sent : IsSourceOf c.args.packet.now.frame.now source = search rules in
    IfSome-weaker c.hear_again.result _ _ (λ count hears hearings reads begun packets outcomes took.
    let heard = hears hearings
    (subst (λ (at : HeardAt). MessageReads at.moment payload hearings) (sym c.heard_at-at.ensures) reads) in
    gathers-told begun old new packets outcomes (packet_lent c.args.packet.now) source payload hearings took refl refl
    (subst (λ at. HearsMessage source payload at hearings old.messages new.messages) c.heard_at-at.ensures heard.1) sent c.requires
    heard.0) c.hear_again.ensures.hears

pub returns-clause-notes : goal.returns-clause-notes
returns-clause-notes c = IfSome-weaker c.hear_again.result _ _ (λ count is. record {
  by_file = refl;
  place = refl;
  one = record {
    message = message_bytes c.in_ok-source.source c.args.payload.now;
    at = c.heard_at-at.result;
  };
  told = ap (λ (s : HeardSoFar). s.told) is;
  names = ap (λ (s : HeardSoFar). s.names) is;
}) c.hear_again.ensures.adds
