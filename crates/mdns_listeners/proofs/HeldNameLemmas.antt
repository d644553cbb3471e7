-- Names that are held suffice for those that hearings tell: one more name, and sorted names of which each is kept once.
use Rattle.std.proofs.lemmas.{Bool.Decides.{nat_tests}, Bool.{false≢true}, Cmp.{nat_list_cmp_total, on_total, then_total}}
use Rattle.std.proofs.lemmas.{Cmp.{tied_itself, upto}}
use Rattle.std.proofs.lemmas.List.Elements.{Contains-append_left, Contains-append_right, Contains-append_cases, Contains-push}
use Rattle.std.proofs.lemmas.{List.Elements.{Contains-push_cases, Contains-get_or, All-head, All-tail}, List.Concat.{flat_map-append}}
use Rattle.std.proofs.lemmas.List.{Kept.{IsStrictlySortedBy-dedup, Contains-from_dedup}, Sorted.{IsPermutation-sym, Contains-permutation}}
use Rattle.std.proofs.{lemmas.List.Sorted.{sorted_far, ranks_by}, Common.{◌≡◌, ◌≢◌, ℕ, suc, ◌<◌, ◌≤◌, ◌⊎◌}}
use Rattle.std.proofs.Common.{⊎_elim, Bool, true, false, cond, List, [], ◌∷◌, ◌++◌, length, get_or, Contains, None}
use Rattle.std.proofs.Common.{append-nil, append_assoc, refl, sym, ap, subst, ◌∙◌, arith}
use Rattle.std.specs.{List.{All, dedup, dedup_from}, declared.cmp.Ordering.TheVariants.{Less, Equal, Greater}}
use Rattle.std.specs.{List.Sorted.{IsPermutation, IsSorted, IsStrictlySortedBy}, Cmp.{IsTotalOrder}, Cmp.Lexicographic.{slice_cmp}}
use Rattle.std.specs.{Ordering.{nat_cmp, is_lt, is_gt, is_eq, ordering_then, ordering_reverse}, declared.cmp.Ordering.{Ordering}}
use Rattle.mdns_capture.specs.declared.source_address.{SourceAddress.{SourceAddress}, SourceAddress.TheVariants.{V4, V6}}
use Rattle.dns_name.specs.Name.{folded}
use Rattle.mdns_message.specs.{declared.hearing.Hearing.{Hearing}, laws.Resource.{bytes_cmp-exact, both_tie}}
use Rattle.mdns_browse.proofs.SearchLemmas.{eq_is}
use Rattle.mdns_cache.proofs.StandsPartLemmas.{not_greater as never_greater, Contains-nil, Contains-head, Contains-later, Contains-cases}
use Rattle.mdns_listeners.specs.declared.sender_names.SenderAddressName.{SenderAddressName}
use Rattle.mdns_listeners.specs.SenderNames.{AddsNames, Covers, HoldsNames, IsAtMost, SufficeFor, told_in, address_in}
use Rattle.mdns_listeners.specs.SenderNames.{address_bytes, address_cmp, by_name, by_spelling}
use Rattle.std.proofs.lemmas.Result.{IfOk-weaker, on_ok_weaker}

-- ---- orders

pub address_cmp-total : IsTotalOrder address_cmp
address_cmp-total = on_total address_bytes nat_list_cmp_total

pub by_name-total : IsTotalOrder by_name
by_name-total = search (arith, then_total, on_total, address_cmp-total, nat_list_cmp_total)

pub by_spelling-total : IsTotalOrder by_spelling
by_spelling-total = then_total by_name-total (on_total (λ (one : SenderAddressName). one.name) nat_list_cmp_total)

pub address-same : (a b : SourceAddress) → address_bytes a ≡ address_bytes b → a ≡ b
address-same (V4 a) (V4 b) e = ap V4 (let same : a ≡ b = cc in same)
address-same (V4 a) (V6 b) e = absurd (let no : ◌≡◌ {A = ℕ} 4 6 = cc in omega (arith, no))
address-same (V6 a) (V4 b) e = absurd (let no : ◌≡◌ {A = ℕ} 6 4 = cc in omega (arith, no))
address-same (V6 a) (V6 b) e = ap V6 (let same : a ≡ b = cc in same)

pub address_cmp-exact : (a b : SourceAddress) → address_cmp a b ≡ Equal → a ≡ b
address_cmp-exact a b e = address-same a b (bytes_cmp-exact (address_bytes a) (address_bytes b) e)

not_greater : (o : Ordering) → o ≢ Greater → is_gt o ≡ false
not_greater Less n = refl
not_greater Equal n = refl
not_greater Greater n = absurd (n refl)

not_less : (a b : List ℕ) → is_lt (slice_cmp nat_cmp a b) ≡ false → slice_cmp nat_cmp b a ≢ Greater
not_less a b n e = absurd (false≢true (sym n ∙ ap is_lt (nat_list_cmp_total.antisymm a b ∙ ap ordering_reverse e)))

pub bytes_upto : (a b c : List ℕ) → slice_cmp nat_cmp a b ≢ Greater → slice_cmp nat_cmp b c ≢ Greater → slice_cmp nat_cmp a c ≢ Greater
bytes_upto a b c p q = never_greater _ (upto nat_list_cmp_total a b c (not_greater _ p) (not_greater _ q))

pub IsAtMost-itself : (one : SenderAddressName) → IsAtMost one one
IsAtMost-itself one = grind (arith, tied_itself, nat_list_cmp_total)

pub IsAtMost-onward : (a b c : SenderAddressName) → IsAtMost a b → IsAtMost b c → IsAtMost a c
IsAtMost-onward a b c p q = grind (arith, bytes_upto)

-- ---- one more name

pub Covers-push : (held told : List SenderAddressName) (one : SenderAddressName) → Covers held told → Covers (held ++ one ∷ []) (told ++ one ∷ [])
Covers-push held told one covers = record {
  among = λ x m. ⊎_elim (λ h. Contains-append_left told (one ∷ []) x (covers.among x h))
      (λ e. subst (Contains (told ++ one ∷ [])) e (Contains-push told one)) (Contains-push_cases held one x m);
  each = λ x m. ⊎_elim (λ h. (let w = covers.each x h in (w.0, Contains-append_left held (one ∷ []) w.0 w.1, w.2)))
      (λ e. (one, Contains-push held one, subst (IsAtMost one) e (IsAtMost-itself one))) (Contains-push_cases told one x m);
}

pub Covers-onward : (a b c : List SenderAddressName) → Covers a b → Covers b c → Covers a c
Covers-onward a b c p q = record {
  among = λ x m. q.among x (p.among x m);
  each = λ x m. (let w = q.each x m in let v = p.each w.0 w.1 in (v.0, v.1, IsAtMost-onward v.0 w.0 x v.2 w.2));
}

-- ---- sorted names, of which the first of each is kept

abbrev same_name : SenderAddressName → SenderAddressName → Bool
same_name x y = is_eq (by_name x y)

abbrev Ascend : List SenderAddressName → Type 0
Ascend [] = Unit {0}
Ascend (x ∷ xs) = All (λ y. is_lt (by_spelling y x) ≡ false) xs × Ascend xs

Ascend-from_sorted : (xs : List SenderAddressName) → ((i j : ℕ) (d : SenderAddressName) → i ≤ j → j < length xs
    → is_lt (by_spelling (get_or xs j d) (get_or xs i d)) ≡ false) → Ascend xs
Ascend-from_sorted [] far = tt
Ascend-from_sorted (x ∷ xs) far = (
  λ k d within. far 0 (suc k) d (omega arith) (omega (arith, within)),
  Ascend-from_sorted xs (λ i j d le within. far (suc i) (suc j) d (omega (arith, le)) (omega (arith, within))),
)

-- a name that isn't below another one of the same address and folded name
later_spelling : (x k : SenderAddressName) → same_name x k ≡ true → is_lt (by_spelling x k) ≡ false → IsAtMost k x
later_spelling x k same not =
    let equal = eq_is (by_name x k) same in
    let parts = both_tie _ _ equal in
    grind (arith, address_cmp-exact x.source k.source parts.0, bytes_cmp-exact x.folded k.folded parts.1, not_less)

kept_first : (xs : List SenderAddressName) (k : SenderAddressName) → Ascend (k ∷ xs) → (e : SenderAddressName) → Contains (k ∷ xs) e
    → (f : SenderAddressName) × Contains (dedup_from same_name k xs) f × IsAtMost f e
kept_first [] k up e m = grind (arith, Contains-head, IsAtMost-itself, Contains-nil, Contains-cases)
kept_first (x ∷ xs) k up e m =
    elim (same_name x k) as (λ b. same_name x k ≡ b
    → (f : SenderAddressName) × Contains (cond b (dedup_from same_name k xs) (k ∷ dedup_from same_name x xs)) f × IsAtMost f e) [
      | true ↦ λ same. (
          let rest : Ascend (k ∷ xs) = (All-tail (λ y. is_lt (by_spelling y k) ≡ false) x xs up.0, up.1.1) in
          let onward = λ (w : (f : SenderAddressName) × Contains (dedup_from same_name k xs) f × IsAtMost f k).
          let r : (f : SenderAddressName) × Contains (dedup_from same_name k xs) f × IsAtMost f x = (
            w.0,
            w.1,
            IsAtMost-onward w.0 k x w.2
                (later_spelling x k same (All-head (λ y. is_lt (by_spelling y k) ≡ false) x xs up.0)),
          ) in r in
          ⊎_elim (λ here. kept_first xs k rest e (subst (Contains (k ∷ xs)) here (Contains-head k xs)))
          (λ later. ⊎_elim
          (λ next. subst (λ (y : SenderAddressName). (f : SenderAddressName) × Contains (dedup_from same_name k xs) f × IsAtMost f y) next
          (onward (kept_first xs k rest k (Contains-head k xs))))
          (λ there. kept_first xs k rest e (Contains-later k xs e there)) (Contains-cases x xs e later))
          (Contains-cases k (x ∷ xs) e m))
      | false ↦ λ apart. ⊎_elim
          (λ here. (k, Contains-head k (dedup_from same_name x xs), subst (IsAtMost k) here (IsAtMost-itself k)))
          (λ later. (let w = kept_first xs x up.1 e later in (w.0, Contains-later k (dedup_from same_name x xs) w.0 w.1, w.2)))
          (Contains-cases k (x ∷ xs) e m)
    ] refl

kept_each : (xs : List SenderAddressName) → Ascend xs → (e : SenderAddressName) → Contains xs e → (f : SenderAddressName) × Contains (dedup same_name xs) f × IsAtMost f e
kept_each [] up e m = absurd (Contains-nil e m)
kept_each (x ∷ xs) up e m = kept_first xs x up e m

module _ (names sorted kept : List SenderAddressName) (moved : IsPermutation names sorted) (up : IsSorted by_spelling sorted)
    (are : kept ≡ dedup same_name sorted) where
  pub kept_covers : Covers kept names
  kept_covers = record {
    among = λ x m. Contains-permutation sorted names x (IsPermutation-sym names sorted moved)
        (Contains-from_dedup same_name sorted x (subst (λ (xs : List SenderAddressName). Contains xs x) are m));
    each = λ x m. subst (λ (xs : List SenderAddressName). (f : SenderAddressName) × Contains xs f × IsAtMost f x) (sym are)
        (kept_each sorted (Ascend-from_sorted sorted
        (sorted_far (λ x y. is_lt (by_spelling x y)) (ranks_by by_spelling-total (λ x. x)) sorted up))
        x (Contains-permutation names sorted x moved m));
  }

  weaker : (o p : Ordering) → is_lt (ordering_then o p) ≡ false → is_lt o ≡ false
  weaker Less p e = e
  weaker Equal p e = refl
  weaker Greater p e = refl

  pub kept_ascend : IsStrictlySortedBy by_name kept
  kept_ascend = grind (arith, IsStrictlySortedBy-dedup, by_name-total, weaker)

-- ---- hearings

Covers-itself : (names : List SenderAddressName) → Covers names names
Covers-itself names = record { among = λ x m. m; each = λ x m. (x, m, IsAtMost-itself x) }

adds-none : (held : List SenderAddressName) → AddsNames held held []
adds-none held told covers = subst (Covers held) (sym (append-nil told)) covers

-- the name that a hearing tells, if any
pub adds_untold : (held : List SenderAddressName) (h : Hearing) → address_in h.heard.body ≡ None → AddsNames held held (told_in (h ∷ []))
adds_untold held h none = grind (arith, adds-none)

pub adds_next : (a b c : List SenderAddressName) (heard : List Hearing) (h : Hearing) → AddsNames a b (told_in heard)
    → AddsNames b c (told_in (h ∷ [])) → AddsNames a c (told_in (heard ++ h ∷ []))
adds_next a b c heard h p q told covers = grind (arith, nat_tests, append_assoc, flat_map-append)

-- names suffice for those that were held before, and for those that were added
pub adds_keeps : (old new more : List SenderAddressName) → AddsNames old new more → SufficeFor new old
adds_keeps old new more adds x m = (adds old (Covers-itself old)).each x (Contains-append_left old more x m)

pub adds-suffice : (old new more : List SenderAddressName) → AddsNames old new more → SufficeFor new more
adds-suffice old new more adds x m = (adds old (Covers-itself old)).each x (Contains-append_right old more x m)

pub suffice-onward : (a b c : List SenderAddressName) → SufficeFor a b → SufficeFor b c → SufficeFor a c
suffice-onward a b c p q x m = let w = q x m in let v = p w.0 w.1 in (v.0, v.1, IsAtMost-onward v.0 w.0 x v.2 w.2)

pub suffice-adds : (held more : List SenderAddressName) → SufficeFor held more → AddsNames held held more
suffice-adds held more suffice told covers = record {
  among = λ x m. Contains-append_left told more x (covers.among x m);
  each = λ x m. ⊎_elim (covers.each x) (suffice x) (Contains-append_cases told more x m);
}

pub HoldsNames-more : (old new : List SenderAddressName) (heard more : List Hearing) → AddsNames old new (told_in more) → HoldsNames old heard
    → HoldsNames new (heard ++ more)
HoldsNames-more old new heard more adds holds = grind (arith, flat_map-append)

pub HoldsNames-kept : (kept held : List SenderAddressName) (heard : List Hearing) → Covers kept held → HoldsNames held heard → HoldsNames kept heard
HoldsNames-kept kept held heard covers holds = record { covers = Covers-onward kept held (told_in heard) covers holds.covers }

-- a name that is held in a spelling no greater suffices
pub at_most_suffices : (held : List SenderAddressName) (place : ℕ) (d other : SenderAddressName) → place < length held
    → IsAtMost (get_or held place d) other → SufficeFor held (other ∷ [])
at_most_suffices held place d other within le x m =
    grind (arith, Contains-get_or held place d within, Contains-cases, Contains-nil)

-- WHAT FUNCTIONS ARE PROVED BY

pub ruleset for_put = (suffice-adds, Covers-push, on_ok_weaker)

pub ruleset for_finish = (HoldsNames-kept, IfOk-weaker)
