-- The hearings of a message at some moments, and that contents depend only on which hearings there are.
use Rattle.std.proofs.Common.{◌≡◌, ◌↔◌, ℕ, List, [], ◌∷◌, ◌++◌, Option, None, Some, Contains, refl, ap, ◌∙◌, subst, map, MatchOption, arith}
use Rattle.mdns_capture.specs.declared.moment.Moment.{Moment}
use Rattle.mdns_message.specs.{declared.hearing.Hearing.{Hearing}, declared.key.Key.{Key}, Message.{MessageReads, hearing_of}}
use Rattle.mdns_message.specs.RecordAt.{HeardRecord}
use Rattle.mdns_join.specs.declared.latest.Latest.{Latest}
use Rattle.mdns_cache.specs.{Live.{IsUnheard, IsLast, SameHearings}, Repeats.{at_each, all_at_each}}
use Rattle.mdns_cache.proofs.{RepeatLemmas.{moment_in}, StandsPartLemmas.{Contains-head, Contains-map}}
use Rattle.mdns_cache.proofs.StandsPartLemmas.{Contains-flat_map, from_flat_map, from_map, IsLast-among}
use Rattle.mdns_lives.specs.{History.{IsHeardAs}, Chronicle.{Accounts, Chronicles, ends_held, goodbye_held, last_held}}
use Rattle.mdns_lives.specs.MessageChronicle.{IsHearingAt, ChroniclesAt}
use Rattle.mdns_lives.proofs.{GoodbyeLemmas.{goodbye-same, newest-same}, SecondsLemmas.{ends-alike}}

-- ---- the same hearings

module _ (gs hs : List Hearing) (same : SameHearings gs hs) where
  lasts-same : (key : Key) (o : Option Latest) → MatchOption o (IsUnheard gs key) (IsLast gs key)
      → MatchOption o (IsUnheard hs key) (IsLast hs key)
  lasts-same key None n = λ h m o. n h (same.back h m) o
  lasts-same key (Some l) p = IsLast-among gs hs same key l p

  -- contents depend only on which hearings there are
  pub chronicles-same : (c : Accounts) → Chronicles c gs → Chronicles c hs
  chronicles-same c s = record {
    accounts = s.accounts;
    lasts = λ key. lasts-same key (last_held c key) (s.lasts key);
    histories = λ key n. ends-alike {P = IsHeardAs gs key} {Q = IsHeardAs hs key}
        (λ h w. record { hearing = w.hearing; among = same.into w.hearing w.among; of_record = w.of_record; gives = w.gives })
        (λ h w. record { hearing = w.hearing; among = same.back w.hearing w.among; of_record = w.of_record; gives = w.gives })
        n (ends_held c key n) (s.histories key n);
    goodbyes = λ key. goodbye-same gs hs key (goodbye_held c key) same (s.goodbyes key);
    flushes = λ set m. (
      λ e. (let w = (s.flushes set m).0 e in
          record { flush = w.flush; among = same.into w.flush w.among; of_set = w.of_set; at_it = w.at_it }),
      λ w. (s.flushes set m).1 (record { flush = w.flush; among = same.back w.flush w.among; of_set = w.of_set; at_it = w.at_it }),
    );
    newest = newest-same gs hs same c.newest s.newest;
  }

-- ---- the hearings of a message at some moments

-- a message has one list of hearings at each moment
abbrev pub ReadsOnce : Type 0
ReadsOnce = (t : Moment) (message : List ℕ) (heard others : List Hearing) → MessageReads t message heard
    → MessageReads t message others → heard ≡ others

-- the hearing as of another moment
abbrev pub heard_at : Moment → Hearing → Hearing
heard_at t h = record { moment = t; heard = h.heard; ttl = h.ttl; flush = h.flush }

-- reading doesn't look at the moment
reads-at : (t u : Moment) (message : List ℕ) (hs : List Hearing) → MessageReads t message hs
    → MessageReads u message (map (heard_at u) hs)
reads-at t u message hs r = record {
  header = r.header;
  told = r.told;
  next = r.next;
  sections = r.sections;
  heard = ap (map (heard_at u)) r.heard ∙ told_at r.told;
}
  where
    told_at : (told : List HeardRecord) → map (heard_at u) (map (hearing_of t) told) ≡ map (hearing_of u) told
    told_at [] = refl
    told_at (r ∷ rs) = ap (λ hs. hearing_of u r ∷ hs) (told_at rs)

module _ (t : Moment) (message : List ℕ) (hs : List Hearing) (reads : MessageReads t message hs) where
  pub IsHearingAt-read : (ts : List Moment) → Contains ts t → (h : Hearing) → Contains hs h → IsHearingAt message ts h
  IsHearingAt-read ts came h m = grind (arith, moment_in t message hs reads h m)

  pub read-IsHearingAt : ReadsOnce → (ts : List Moment) (h : Hearing) → IsHearingAt message ts h → t ≡ h.moment → Contains hs h
  read-IsHearingAt once ts h w e = subst (λ (xs : List Hearing). Contains xs h)
      (once h.moment message w.hearings hs w.reads (subst (λ (u : Moment). MessageReads u message hs) e reads)) w.among

from-all : (ts : List Moment) (hs : List Hearing) (g : Hearing) → Contains (all_at_each ts hs) g
    → (h : Hearing) × (t : Moment) × (heard_at t h ≡ g) × Contains hs h × Contains ts t
from-all ts hs g m =
    let w = from_flat_map (at_each ts) hs g m in
    let v = from_map (λ (t : Moment). heard_at t w.0) ts g w.2 in (w.0, v.0, v.1, w.1, v.2)

Contains-all : (ts : List Moment) (hs : List Hearing) (h : Hearing) (t : Moment) → Contains hs h → Contains ts t
    → Contains (all_at_each ts hs) (heard_at t h)
Contains-all ts hs h t m n = Contains-flat_map (at_each ts) hs h (heard_at t h) m (Contains-map (λ (u : Moment). heard_at u h) ts t n)

-- a message that was read at one moment has these hearings at others
pub all-exactly : ReadsOnce → (t : Moment) (message : List ℕ) (hs : List Hearing) → MessageReads t message hs
    → (ts : List Moment) (h : Hearing) → Contains (all_at_each ts hs) h ↔ IsHearingAt message ts h
all-exactly once t message hs reads ts h = (
  λ m. (let w = from-all ts hs h m in
      subst (IsHearingAt message ts) w.2
      (IsHearingAt-read w.1 message (map (heard_at w.1) hs) (reads-at t w.1 message hs reads) ts w.4 (heard_at w.1 w.0)
      (Contains-map (heard_at w.1) hs w.0 w.3))),
  λ w. (let there = read-IsHearingAt t message hs reads once (t ∷ []) (heard_at t h)
      (IsHearingAt-read t message (map (heard_at t) w.hearings) (reads-at h.moment t message w.hearings w.reads) (t ∷ [])
      (Contains-head t []) (heard_at t h) (Contains-map (heard_at t) w.hearings h w.among)) refl in
      Contains-all ts hs (heard_at t h) h.moment there w.came),
)

pub chronicles-each : ReadsOnce → (new : Accounts) (message : List ℕ) (ts : List Moment) (t : Moment) (hs before : List Hearing)
    → MessageReads t message hs → Chronicles new (before ++ all_at_each ts hs) → ChroniclesAt new message ts before
chronicles-each once new message ts t hs before reads s = grind (arith, all-exactly once t message hs reads ts)

-- WHAT FUNCTIONS ARE PROVED BY

pub ruleset for_hear_at_each = (chronicles-each)
