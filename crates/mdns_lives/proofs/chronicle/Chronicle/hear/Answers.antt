use Rattle.std.proofs.Common.{◌≡◌, List, ◌∷◌, [], ap, ◌∙◌, subst, arith}
use Rattle.mdns_capture.specs.declared.moment.Moment.{Moment}
use Rattle.mdns_lives.specs.{Each.{accounts_each}, Chronicle.{Accounts, join_accounts}}
use Rattle.join_map.specs.{laws.Join.{join-again}}
use Rattle.mdns_message.specs.Borrowed.{hearing_lent}
use Rattle.mdns_cache.proofs.BetweenLemmas.{on_err_any}
use Rattle.mdns_lives.proofs.EachLemmas.{accounts_each-one, accounts_each-valid, chronicles-at_each, latest-one}
use Rattle.mdns_lives.proofs.PartLemmas.{accounts-laws}
use Rattle.mdns_lives.proofs.chronicle.Chronicle.hear.Goals as goal

pub returns-in_err-join_at_each-clause-err : goal.returns-in_err-join_at_each-clause-err
returns-in_err-join_at_each-clause-err c = grind (arith, on_err_any, accounts_each-one (hearing_lent c.args.hearing.now))

pub returns-in_err-join_at_each-clause-again : goal.returns-in_err-join_at_each-clause-again
returns-in_err-join_at_each-clause-again c =
    let h = hearing_lent c.args.hearing.now in
    on_err_any c.from_residual.result
    (subst (λ (one : Accounts). join_accounts c.join_at_each.new.self one ≡ join_accounts c.args.self.now one)
    (ap (accounts_each h) c.new.ensures ∙ accounts_each-one h)
    (join-again accounts-laws c.args.self.now (accounts_each h c.new.result) c.join_at_each.new.self c.join_at_each.ensures.was
    (accounts_each-valid h c.new.result) c.join_at_each.ensures.held c.in_err-join_at_each.ensures.err))

pub returns-clause-ok : goal.returns-clause-ok
returns-clause-ok c = grind (arith, accounts_each-one (hearing_lent c.args.hearing.now))

pub returns-clause-stands : goal.returns-clause-stands
returns-clause-stands c =
    let h = hearing_lent c.args.hearing.now in
    chronicles-at_each h (h.moment ∷ []) (latest-one h.moment) c.args.self.now c.join_at_each.new.self
    (c.in_ok-join_at_each.ensures.ok
    ∙ ap (λ (ts : List Moment). join_accounts c.args.self.now (accounts_each h ts)) c.new.ensures)
