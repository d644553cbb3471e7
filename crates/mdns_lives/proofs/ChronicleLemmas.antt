-- The hearings that the contents of a chronicle stand for.
use Rattle.std.proofs.Common.{rules, arith, ◌≡◌, ◌↔◌, ◌⊎◌, ℕ, List, [], ◌++◌, Option, None, Some, refl, sym, ap, ◌∙◌, subst, inl, inr}
use Rattle.std.proofs.lemmas.List.Elements.{Contains-append_left, Contains-append_right, Contains-append_cases, filter-append}
use Rattle.std.specs.{Ordering.{nat_cmp}}
use Rattle.mdns_message.specs.{declared.hearing.Hearing.{Hearing}, declared.key.Key.{Key}, RecordSet.{RecordSet}, Resource.{key_cmp}}
use Rattle.mdns_message.specs.{Resource.{set_key_cmp}, laws.Resource.{key_cmp-total, key_cmp-exact, set_key_cmp-total, set_key_cmp-exact}}
use Rattle.join_map.specs.Entries.{value_at, joined, joined_at, IsJoinMap}
use Rattle.join_map.specs.laws.Entries.{joined_at-None, ValidAt, valid_at, value_at-join, IsJoinMap-none, IsJoinMap-join}
use Rattle.mdns_join.specs.{Latest.{later}, Kept.{union}, laws.Kept.{union_parts, union_left, union_right}}
use Rattle.mdns_cache.specs.{Contents.{later_moment}, Live.{IsFlushedAt}}
use Rattle.mdns_cache.proofs.{StandsPartLemmas.{Contains-nil, lasts-append}, StandsForLemmas.{newest-append}}
use Rattle.mdns_lives.specs.{declared.account.Account.{Account}, declared.life.RecordHearing.{RecordHearing}, Account.{join_account}}
use Rattle.mdns_lives.specs.{Account.{IsAccount}, History.{IsHeardAs}, Seconds.{Ends, AreEndsIn, Seconds, join_ends, IsSeconds}}
use Rattle.mdns_lives.specs.{Seconds.{join_seconds, ends_at}, laws.Account.{account-laws}, laws.Flushes.{union-laws}, Chronicle.{Accounts}}
use Rattle.mdns_lives.specs.{Chronicle.{join_accounts, no_accounts, latest_in, history_in, goodbye_in, ends_held}, Lives.{goodbyes_of}}
use Rattle.mdns_lives.specs.Chronicle.{goodbye_held, IsFlushIn, Chronicles}
use Rattle.mdns_lives.proofs.SecondsLemmas.{ends-joined, at-join}

-- ---- hearings of lists

IsHeardAs-left : (gs hs : List Hearing) (key : Key) (h : RecordHearing) → IsHeardAs gs key h → IsHeardAs (gs ++ hs) key h
IsHeardAs-left gs hs key h w = search (arith, Contains-append_left)

IsHeardAs-right : (gs hs : List Hearing) (key : Key) (h : RecordHearing) → IsHeardAs hs key h → IsHeardAs (gs ++ hs) key h
IsHeardAs-right gs hs key h w = search (arith, Contains-append_right)

IsHeardAs-cases : (gs hs : List Hearing) (key : Key) (h : RecordHearing) → IsHeardAs (gs ++ hs) key h → IsHeardAs gs key h ⊎ IsHeardAs hs key h
IsHeardAs-cases gs hs key h w = elim (Contains-append_cases gs hs w.hearing w.among) [
  | inl a ↦ inl (record { hearing = w.hearing; among = a; of_record = w.of_record; gives = w.gives })
  | inr b ↦ inr (record { hearing = w.hearing; among = b; of_record = w.of_record; gives = w.gives })
]

IsFlushedAt-left : (gs hs : List Hearing) (set : RecordSet) (m : ℕ) → IsFlushedAt gs set m → IsFlushedAt (gs ++ hs) set m
IsFlushedAt-left gs hs set m w = search (arith, Contains-append_left)

IsFlushedAt-right : (gs hs : List Hearing) (set : RecordSet) (m : ℕ) → IsFlushedAt hs set m → IsFlushedAt (gs ++ hs) set m
IsFlushedAt-right gs hs set m w = search (arith, Contains-append_right)

IsFlushedAt-cases : (gs hs : List Hearing) (set : RecordSet) (m : ℕ) → IsFlushedAt (gs ++ hs) set m
    → IsFlushedAt gs set m ⊎ IsFlushedAt hs set m
IsFlushedAt-cases gs hs set m w = elim (Contains-append_cases gs hs w.flush w.among) [
  | inl a ↦ inl (record { flush = w.flush; among = a; of_set = w.of_set; at_it = w.at_it })
  | inr b ↦ inr (record { flush = w.flush; among = b; of_set = w.of_set; at_it = w.at_it })
]

-- ---- accounts that may be there

latest_in-joined : (o p : Option Account) → latest_in (joined_at join_account o p) ≡ joined_at later (latest_in o) (latest_in p)
latest_in-joined None p = refl
latest_in-joined (Some a) None = refl
latest_in-joined (Some a) (Some b) = refl

history_in-joined : (o p : Option Account)
    → history_in (joined_at join_account o p) ≡ joined_at join_seconds (history_in o) (history_in p)
history_in-joined None p = refl
history_in-joined (Some a) None = refl
history_in-joined (Some a) (Some b) = refl

goodbye_in-joined : (o p : Option Account)
    → goodbye_in (joined_at join_account o p) ≡ joined_at later_moment (goodbye_in o) (goodbye_in p)
goodbye_in-joined None p = refl
goodbye_in-joined (Some a) None = sym (joined_at-None later_moment a.goodbye)
goodbye_in-joined (Some a) (Some b) = refl

history_in-valid : (o : Option Account) → ValidAt IsAccount o → ValidAt IsSeconds (history_in o)
history_in-valid None v = tt
history_in-valid (Some a) v = v

-- what seconds that may be there hold together
ends_at-joined : (s : ℕ) (o p : Option Seconds) → ValidAt IsSeconds o → ValidAt IsSeconds p
    → ends_at s (joined_at join_seconds o p) ≡ joined_at join_ends (ends_at s o) (ends_at s p)
ends_at-joined s None p u v = refl
ends_at-joined s (Some a) None u v = sym (joined_at-None join_ends (value_at nat_cmp s a))
ends_at-joined s (Some a) (Some b) u v = at-join s a b u v

abbrev Records : Type 0
Records = List (Key × Account)

module _ (xs ys : List (Key × Account)) (sorted : IsJoinMap key_cmp IsAccount xs)
    (others : IsJoinMap key_cmp IsAccount ys) where
  at_key : (key : Key) → value_at key_cmp key (joined key_cmp join_account xs ys)
      ≡ joined_at join_account (value_at key_cmp key xs) (value_at key_cmp key ys)
  at_key key = value_at-join key_cmp-total key_cmp-exact join_account key xs ys sorted.sorted others.sorted

  lasts-joined : (key : Key) → latest_in (value_at key_cmp key (joined key_cmp join_account xs ys))
      ≡ joined_at later (latest_in (value_at key_cmp key xs)) (latest_in (value_at key_cmp key ys))
  lasts-joined key = ap latest_in (at_key key) ∙ latest_in-joined (value_at key_cmp key xs) (value_at key_cmp key ys)

  goodbyes-joined : (key : Key) → goodbye_in (value_at key_cmp key (joined key_cmp join_account xs ys))
      ≡ joined_at later_moment (goodbye_in (value_at key_cmp key xs)) (goodbye_in (value_at key_cmp key ys))
  goodbyes-joined key = ap goodbye_in (at_key key) ∙ goodbye_in-joined (value_at key_cmp key xs) (value_at key_cmp key ys)

  histories-joined : (key : Key) (s : ℕ) → ends_at s (history_in (value_at key_cmp key (joined key_cmp join_account xs ys)))
      ≡ joined_at join_ends (ends_at s (history_in (value_at key_cmp key xs))) (ends_at s (history_in (value_at key_cmp key ys)))
  histories-joined key s =
      search (rules, at_key, history_in-joined, ends_at-joined, history_in-valid, valid_at, key_cmp-total, key_cmp-exact, account-laws)

flush_in-joined : (o p : Option (List ℕ)) (m : ℕ) → IsFlushIn (joined_at union o p) m ↔ (IsFlushIn o m ⊎ IsFlushIn p m)
flush_in-joined None p m = (λ h. inr h, λ w. elim w [ inl h ↦ absurd h | inr h ↦ h ])
flush_in-joined (Some a) None m = (λ h. inl h, λ w. elim w [ inl h ↦ h | inr h ↦ absurd h ])
flush_in-joined (Some a) (Some b) m = grind (arith, union_parts, union_left, union_right)

-- ---- contents

pub chronicles_none : Chronicles no_accounts []
chronicles_none = record {
  accounts =
      grind (arith, IsJoinMap-none key_cmp-total key_cmp-exact account-laws, IsJoinMap-none set_key_cmp-total set_key_cmp-exact union-laws);
  lasts = λ key h m o. Contains-nil h m;
  histories = λ key s h w _. Contains-nil w.hearing w.among;
  goodbyes = λ key. refl;
  flushes = λ set m. (λ e. absurd e, λ w. absurd (Contains-nil w.flush w.among));
  newest = refl;
}

module _ (c d : Accounts) (gs hs : List Hearing) (u : Chronicles c gs) (v : Chronicles d hs) where
  flushes-joined : (set : RecordSet) → value_at set_key_cmp set (joined set_key_cmp union c.flushes d.flushes)
      ≡ joined_at union (value_at set_key_cmp set c.flushes) (value_at set_key_cmp set d.flushes)
  flushes-joined set = search (arith, value_at-join, set_key_cmp-total, set_key_cmp-exact)

  pub chronicles-join : Chronicles (join_accounts c d) (gs ++ hs)
  chronicles-join = record {
    accounts = record {
      records = IsJoinMap-join key_cmp-total key_cmp-exact account-laws c.records d.records u.accounts.records v.accounts.records;
      flushes = IsJoinMap-join set_key_cmp-total set_key_cmp-exact union-laws c.flushes d.flushes u.accounts.flushes v.accounts.flushes;
    };
    lasts = grind (arith, lasts-joined, lasts-append);
    histories = λ key s. subst (λ (o : Option Ends). AreEndsIn (IsHeardAs (gs ++ hs) key) s o)
        (sym (histories-joined c.records d.records u.accounts.records v.accounts.records key s))
        (ends-joined {P = IsHeardAs gs key} {Q = IsHeardAs hs key} (IsHeardAs-left gs hs key) (IsHeardAs-right gs hs key)
        (IsHeardAs-cases gs hs key) s (ends_held c key s) (ends_held d key s) (u.histories key s) (v.histories key s));
    goodbyes = λ key. rw (goodbyes-joined c.records d.records u.accounts.records v.accounts.records key, filter-append)
        (newest-append (goodbyes_of gs key) (goodbyes_of hs key) (goodbye_held c key) (goodbye_held d key) (u.goodbyes key)
        (v.goodbyes key));
    flushes = λ set m.
        let both = flush_in-joined (value_at set_key_cmp set c.flushes) (value_at set_key_cmp set d.flushes) m in (
          λ f. elim (both.0 (subst (λ (o : Option (List ℕ)). IsFlushIn o m) (flushes-joined set) f)) [
            | inl a ↦ IsFlushedAt-left gs hs set m ((u.flushes set m).0 a)
            | inr b ↦ IsFlushedAt-right gs hs set m ((v.flushes set m).0 b)
          ],
          λ w. subst (λ (o : Option (List ℕ)). IsFlushIn o m) (sym (flushes-joined set))
              (both.1 (elim (IsFlushedAt-cases gs hs set m w) [
                | inl a ↦ inl ((u.flushes set m).1 a)
                | inr b ↦ inr ((v.flushes set m).1 b)
              ])),
        );
    newest = newest-append gs hs c.newest d.newest u.newest v.newest;
  }

-- contents that are those of both tell of the hearings of both
pub chronicles-both : (old other c d new : Accounts) → c ≡ old → d ≡ other → new ≡ join_accounts c d
    → (heard others : List Hearing) → Chronicles old heard → Chronicles other others → Chronicles new (heard ++ others)
chronicles-both old other c d new is others_is joined heard others u v = grind (arith, chronicles-join)

-- WHAT FUNCTIONS ARE PROVED BY

pub ruleset for_join_with = (chronicles-both)
