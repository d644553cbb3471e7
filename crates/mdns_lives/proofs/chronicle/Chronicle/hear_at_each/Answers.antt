use Rattle.std.proofs.{Common.{List, ap, ◌∙◌, arith, append-nil}, lemmas.Result.{on_ok_weaker}}
use Rattle.mdns_capture.specs.declared.moment.Moment.{Moment}
use Rattle.mdns_message.specs.Borrowed.{hearing_lent}
use Rattle.mdns_lives.specs.{Chronicle.{join_accounts}, Each.{accounts_each}}
use Rattle.mdns_lives.proofs.{EachLemmas.{chronicles-at_each}, HearingLemmas.{heard_at}}
use Rattle.mdns_lives.proofs.chronicle.Chronicle.hear_at_each.Goals as goal

pub returns-in_default : goal.returns-in_default
returns-in_default c = grind (arith, append-nil)

pub returns : goal.returns
returns c = on_ok_weaker c.join_at_each.result
    (λ is heard s.
    let h = heard_at c.in-Some.latest (hearing_lent c.args.hearing) in
    chronicles-at_each h c.args.waiting.now c.in-Some.ensures.some c.args.self.now c.join_at_each.new.self
    (is ∙ ap (λ (ts : List Moment). join_accounts c.args.self.now (accounts_each h ts)) c.few.ensures) heard s)
    c.join_at_each.ensures.ok
