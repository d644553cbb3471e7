-- Contents that stand for hearings: those of nothing, of one hearing, of both sides of a join; and only one each.
use Rattle.std.proofs.Common.{◌≡◌, ◌≤◌, List, [], ◌++◌, Option, None, Some, Contains, MatchOption, refl, sym, ap, ◌∙◌}
use Rattle.std.proofs.Common.{subst, inl, inr, arith, append-nil}
use Rattle.std.proofs.lemmas.{Bool.{cases_lt}, List.Elements.{Contains-append_left, Contains-append_right, Contains-append_cases}}
use Rattle.mdns_capture.specs.declared.moment.Moment.{Moment}
use Rattle.mdns_message.specs.{declared.hearing.Hearing.{Hearing}, RecordSet.{RecordSet}}
use Rattle.mdns_message.specs.laws.Resource.{key_cmp-exact, key_cmp-total, set_key_cmp-total, set_key_cmp-exact}
use Rattle.mdns_join.specs.{declared.latest.Latest.{Latest}, laws.Latest.{moment-same}, Kept.{kept_union}}
use Rattle.join_map.specs.{Entries.{joined_at}, laws.Entries.{same_entries}}
use Rattle.mdns_cache.specs.Live.{IsUnheard, IsLast, IsNewest, SameHearings, flush_moments}
use Rattle.mdns_cache.specs.Contents.{Contents, MapLaws, later_moment, join_of, last_at, flushes_at, kept_of, StandsFor}
use Rattle.mdns_cache.proofs.StandsPartLemmas.{lasts-append, lasts-same, kept_of-append, kept_of-same, Contains-nil}
use Rattle.mdns_cache.proofs.StandsPartLemmas.{flush_moments-append, IsFlushedAt-in, IsFlushedAt-from_has, has-from_flushed}
use Rattle.mdns_cache.proofs.ContentsLemmas.{newer, last_at-join, flushes_at-join, newest-join, IsContents-join, same_contents, nanos-later}

-- ---- newest moments

pub newest-append : (gs hs : List Hearing) (o p : Option Moment) → MatchOption o (gs ≡ []) (IsNewest gs)
    → MatchOption p (hs ≡ []) (IsNewest hs) → MatchOption (newer o p) (gs ++ hs ≡ []) (IsNewest (gs ++ hs))
newest-append gs hs None None u v = rw (u, v) refl
newest-append gs hs None (Some b) u v = rw u v
newest-append gs hs (Some a) None u v = rw (v, append-nil) u
newest-append gs hs (Some a) (Some b) u v =
    let e = nanos-later a b in
    let latest : (h : Hearing) → Contains (gs ++ hs) h → h.moment.nanos ≤ (later_moment a b).nanos =
    λ h m. elim (Contains-append_cases gs hs h m) [ inl x ↦ omega (arith, e, u.latest h x) | inr y ↦ omega (arith, e, v.latest h y) ] in
    elim (cases_lt a.nanos b.nanos) [
      | inl l ↦ record {
        hearing = v.hearing;
        among = Contains-append_right gs hs v.hearing v.among;
        at_it = v.at_it ∙ moment-same b (later_moment a b) (omega (arith, e));
        latest = latest;
      }
      | inr l ↦ record {
        hearing = u.hearing;
        among = Contains-append_left gs hs u.hearing u.among;
        at_it = u.at_it ∙ moment-same a (later_moment a b) (omega (arith, e));
        latest = latest;
      }
    ]

module _ (gs hs : List Hearing) (same : SameHearings gs hs) where
  IsNewest-same : (a b : Moment) → IsNewest gs a → IsNewest hs b → a ≡ b
  IsNewest-same a b u v =
      let below : v.hearing.moment.nanos ≤ a.nanos = u.latest v.hearing (same.back v.hearing v.among) in
      let above : u.hearing.moment.nanos ≤ b.nanos = v.latest u.hearing (same.into u.hearing u.among) in
      let p : u.hearing.moment.nanos ≡ a.nanos = ap (λ (m : Moment). m.nanos) u.at_it in
      let q : v.hearing.moment.nanos ≡ b.nanos = ap (λ (m : Moment). m.nanos) v.at_it in
      moment-same a b (omega arith)

  newest-same : (o p : Option Moment) → MatchOption o (gs ≡ []) (IsNewest gs) → MatchOption p (hs ≡ []) (IsNewest hs) → o ≡ p
  newest-same None None u v = refl
  newest-same None (Some b) u v =
      absurd (Contains-nil v.hearing (subst (λ (xs : List Hearing). Contains xs v.hearing) u
      (same.back v.hearing v.among)))
  newest-same (Some a) None u v =
      absurd (Contains-nil u.hearing (subst (λ (xs : List Hearing). Contains xs u.hearing) v
      (same.into u.hearing u.among)))
  newest-same (Some a) (Some b) u v = ap Some (IsNewest-same a b u v)

  flush_moments-same : (set : RecordSet) → kept_of (flush_moments gs set) ≡ kept_of (flush_moments hs set)
  flush_moments-same set = kept_of-same (flush_moments gs set) (flush_moments hs set)
      (λ m h. let f = IsFlushedAt-from_has gs set m h in
      has-from_flushed hs set m (IsFlushedAt-in gs hs set m f (same.into f.flush f.among)))
      (λ m h. let f = IsFlushedAt-from_has hs set m h in
      has-from_flushed gs set m (IsFlushedAt-in hs gs set m f (same.back f.flush f.among)))

-- contents that stand for the same hearings are equal
pub stands_same : (gs hs : List Hearing) (c d : Contents) → SameHearings gs hs → StandsFor c gs → StandsFor d hs → c ≡ d
stands_same gs hs c d same u v =
    same_contents c d
    (same_entries key_cmp-total key_cmp-exact c.lasts d.lasts u.contents.lasts.sorted v.contents.lasts.sorted
    (λ key. lasts-same gs hs same key (last_at key c) (last_at key d) (u.lasts key) (v.lasts key)))
    (same_entries set_key_cmp-total set_key_cmp-exact c.flushes d.flushes u.contents.flushes.sorted
    v.contents.flushes.sorted (λ set. u.flushes set ∙ flush_moments-same gs hs same set ∙ sym (v.flushes set)))
    (newest-same gs hs same c.newest d.newest u.newest v.newest)

-- the join stands for the hearings of both sides
pub stands-join : MapLaws → (gs hs : List Hearing) (c d : Contents) → StandsFor c gs → StandsFor d hs → StandsFor (join_of c d) (gs ++ hs)
stands-join laws gs hs c d u v = record {
  contents = IsContents-join laws c d u.contents v.contents;
  lasts = λ key. subst (λ (o : Option Latest). MatchOption o (IsUnheard (gs ++ hs) key) (IsLast (gs ++ hs) key))
      (sym (last_at-join c d u.contents v.contents key))
      (lasts-append gs hs key (last_at key c) (last_at key d) (u.lasts key) (v.lasts key));
  flushes = λ set. flushes_at-join c d u.contents v.contents set
      ∙ ap (λ o. joined_at kept_union o (flushes_at set d)) (u.flushes set)
      ∙ ap (joined_at kept_union (kept_of (flush_moments gs set))) (v.flushes set)
      ∙ kept_of-append (flush_moments gs set) (flush_moments hs set)
      ∙ ap kept_of (sym (flush_moments-append gs hs set));
  newest = subst (λ (o : Option Moment). MatchOption o (gs ++ hs ≡ []) (IsNewest (gs ++ hs))) (sym (newest-join c d))
      (newest-append gs hs c.newest d.newest u.newest v.newest);
}

-- WHAT FUNCTIONS ARE PROVED BY

pub ruleset for_contents_of_union = (stands-join)
