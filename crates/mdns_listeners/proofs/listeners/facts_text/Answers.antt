use Rattle.std.proofs.{Common.{◌∙◌, List, ap, map, subst}, lemmas.Result.{IfOk-weaker}}
use Rattle.mdns_listeners.specs.{declared.senders.SenderRow.{SenderRow}, AllRows.{listeners_text}, Listeners.{AreNamed}, NamedSender.{sender_lent}}
use Rattle.mdns_listeners.proofs.listeners.facts_text.Goals as goal

pub returns : goal.returns
returns c = IfOk-weaker c.listeners_text.result _ _ (λ text written hearings listed. record {
  senders = map sender_lent c.in_ok-senders-2.senders.items;
  are_named = subst (λ (rows : List SenderRow). AreNamed hearings rows (map sender_lent c.in_ok-senders-2.senders.items))
      (c.as_slice.ensures.value ∙ c.in_ok-senders.ensures) (c.in_ok-senders-2.ensures hearings listed);
  lines = written ∙ ap (listeners_text c.args.form) (λ k. record {
    listener_names = c.names.ensures k;
    listeners = (c.as_slice-2.ensures.value ∙ c.in_ok-listeners.ensures) k;
    pairs = (c.as_slice-3.ensures.value ∙ c.in_ok-pairs.ensures) k;
    senders = ap (map sender_lent) c.as_slice-4.ensures.value k;
  });
}) c.listeners_text.ensures
