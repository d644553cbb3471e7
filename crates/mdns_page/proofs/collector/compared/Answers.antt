use Rattle.std.proofs.{Common.{Option, inr, subst}, lemmas.Result.{IfOk-weaker}}
use Rattle.mdns_listeners.specs.declared.listeners.MessageCollector.{MessageCollector}
use Rattle.mdns_page.specs.Collected.{AreGathered}
use Rattle.mdns_page.proofs.collector.compared.Goals as goal

pub returns-in-Some : goal.returns-in-Some
returns-in-Some c =
    IfOk-weaker c.compared_by.result _ _ (λ rows are packets outcomes gathered spans.
    let some = subst (λ (messages : Option MessageCollector). AreGathered c.args.groups.now messages packets outcomes) c.in-Some.is gathered in
    inr (some.0, are packets outcomes some.1 spans)) c.compared_by.ensures
