use Rattle.std.proofs.{Common.{◌≡◌, List, None, Option, Some, [], ap, subst, sym, unwrap_or, ◌∙◌}, lemmas.Result.{IfOk-weaker}}
use Rattle.join_map.specs.Entries.{value_at}
use Rattle.mdns_message.specs.{declared.key.Key.{Key}, Resource.{key_of, key_cmp}}
use Rattle.mdns_lives.specs.{declared.account.Account.{Account}, Chronicle.{Accounts, Chronicles, accounts, history_in}}
use Rattle.mdns_lives.specs.Heard.{AreSecondsHeard, seconds_held, seconds_walked}
use Rattle.mdns_lives.specs.{declared.seconds_heard.SecondHeard.{SecondHeard}, Seconds.{listed_ends}}
use Rattle.mdns_lives.proofs.HeardLemmas.{heard-held}
use Rattle.mdns_lives.proofs.lives.Lives.seconds_heard.Goals as goal

pub returns-in_default : goal.returns-in_default
returns-in_default c =
    let held = accounts c.self.inside.records c.self.inside.flushes c.self.inside.newest in
    let key = key_of c.args.resource.now in
    let own = c.in_ok-key.ensures ∙ ap key_of c.borrowed.ensures in
    let none : value_at key_cmp key c.self.inside.records ≡ None =
    ap (λ (k : Key). value_at key_cmp k c.self.inside.records) (sym own) ∙ sym c.in_default.ensures.value in
    let are : c.new.result.items ≡ seconds_held held key =
    c.new.ensures.items ∙ ap (λ (o : Option Account). seconds_walked (listed_ends (unwrap_or (history_in o) []))) (sym none) in
    record {
      value = are ∙ ap (λ (a : Accounts). seconds_held a key) c.self.view_is;
      stands = λ heard stands.
          subst (λ (seconds : List SecondHeard). AreSecondsHeard heard key seconds) (sym are)
          (heard-held held heard (subst (λ (a : Accounts). Chronicles a heard) (sym c.self.view_is) stands) key);
    }

pub returns : goal.returns
returns c =
    let held = accounts c.self.inside.records c.self.inside.flushes c.self.inside.newest in
    let key = key_of c.args.resource.now in
    let own = c.in_ok-key.ensures ∙ ap key_of c.borrowed.ensures in
    let found : value_at key_cmp key c.self.inside.records ≡ Some c.in-Some.account.now =
    ap (λ (k : Key). value_at key_cmp k c.self.inside.records) (sym own) ∙ sym c.in-Some.ensures.value in
    let same : seconds_walked (listed_ends c.in-Some.account.now.history) ≡ seconds_held held key =
    ap (λ (o : Option Account). seconds_walked (listed_ends (unwrap_or (history_in o) []))) (sym found) in
    record {
      value = IfOk-weaker c.seconds_by.result _ _
          (λ seconds are. are ∙ same ∙ ap (λ (a : Accounts). seconds_held a key) c.self.view_is) c.seconds_by.ensures;
      stands = IfOk-weaker c.seconds_by.result _ _
          (λ seconds are heard stands.
          subst (λ (seconds : List SecondHeard). AreSecondsHeard heard key seconds) (sym (are ∙ same))
          (heard-held held heard (subst (λ (a : Accounts). Chronicles a heard) (sym c.self.view_is) stands) key)) c.seconds_by.ensures;
    }
