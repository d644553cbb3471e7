-- The names of one sender: those beside its address among the names of all senders.
use Rattle.std.proofs.{lemmas.Bool.Decides.{nat_tests}, Math.ListN.{get_or-map}, lemmas.Bool.{cases_lt}}
use Rattle.std.proofs.lemmas.Cmp.{nat_list_cmp_total, tied_itself, tied_back}
use Rattle.std.proofs.lemmas.{List.{get_or_default, take-map, get_or-drop, length-drop, length-map}, List.Kept.{IsStrictlySortedBy-filter}}
use Rattle.std.proofs.{lemmas.Map.Keys.{Less-from_sorted, sorted_from_all_adjacent}, Common.{◌≡◌, ◌≢◌, ℕ}}
use Rattle.std.proofs.Common.{◌+◌, ◌<◌, ◌≤◌, ◌⊎◌, ⊎_elim, inl, inr, Bool, true, false, List, []}
use Rattle.std.proofs.Common.{◌∷◌, length, map, take, drop, get_or, None, Some, Contains, Option, refl, sym, ap, subst, ◌∙◌, arith}
use Rattle.std.proofs.lemmas.List.Elements.{Contains-get_or}
use Rattle.std.specs.List.{filter, drop-map}
use Rattle.std.specs.{List.Sorted.{IsStrictlySortedBy, IsPartitionPoint, IsPartitionedBy}, Option.{option_to_list}}
use Rattle.std.specs.{Cmp.Lexicographic.{slice_cmp}, Ordering.{nat_cmp, is_lt, is_le, is_eq, ordering_then, ordering_reverse}}
use Rattle.std.specs.declared.cmp.{Ordering.{Ordering}, Ordering.TheVariants.{Less, Equal, Greater}}
use Rattle.mdns_capture.specs.declared.source_address.SourceAddress.{SourceAddress}
use Rattle.dns_name.specs.Name.{folded}
use Rattle.mdns_message.specs.{declared.hearing.Hearing.{Hearing}, laws.Resource.{bytes_cmp-exact}}
use Rattle.mdns_cache.proofs.StandsPartLemmas.{Contains-nil, Contains-head, Contains-cases, Contains-map, Contains-flat_map}
use Rattle.mdns_cache.proofs.StandsPartLemmas.{from_flat_map, from_map}
use Rattle.mdns_lives.proofs.FilterLemmas.{from-filter, to-filter}
use Rattle.mdns_browse.proofs.SearchLemmas.{NotAbove, below-before, eq_is, filter-rest, not_above-before}
use Rattle.mdns_listeners.specs.{declared.sender_names.SenderAddressName.{SenderAddressName}, SenderNames.{IsNameOf, IsLeastName, AreNames, HoldsNames}}
use Rattle.mdns_listeners.specs.SenderNames.{address_in, by_folded, named, named_in, told_in, address_cmp, by_name}
use Rattle.mdns_listeners.proofs.{HeldNameLemmas.{address_cmp-total, address_cmp-exact, by_name-total}, NameLawLemmas.{by_folded-total}}

-- ---- what hearings tell

-- what a hearing tells is the name of its address, beside the folded name
pub record Tells (heard : List Hearing) (e : SenderAddressName) : Type 0 where
  pub is_name : IsNameOf e.source heard e.name
  pub folded_is : e.folded ≡ folded e.name

listed : (o : Option SourceAddress) (source : SourceAddress) → Contains (option_to_list o) source → o ≡ Some source
listed None source m = absurd (Contains-nil source m)
listed (Some own) source m = grind (arith, Contains-cases, Contains-nil)

pub Tells-from_told : (heard : List Hearing) (e : SenderAddressName) → Contains (told_in heard) e → Tells heard e
Tells-from_told heard e m =
    let (h, among, told) = from_flat_map named_in heard e m in
    let (source, same, in_body) = from_map (λ source. named source h.heard.owner) (option_to_list (address_in h.heard.body)) e told in
    subst (Tells heard) same (record {
      is_name = record { hearing = h; among = among; address = listed (address_in h.heard.body) source in_body; owner = refl };
      folded_is = refl;
    })

pub told-name : (sender : SourceAddress) (heard : List Hearing) (name : List ℕ) → IsNameOf sender heard name
    → Contains (told_in heard) (named sender name)
told-name sender heard name is = Contains-flat_map named_in heard is.hearing (named sender name) is.among
    (subst (λ o. Contains (map (λ source. named source is.hearing.heard.owner) (option_to_list o)) (named sender name)) (sym is.address)
    (subst (λ owner. Contains (named sender owner ∷ []) (named sender name)) (sym is.owner) (Contains-head (named sender name) [])))

-- ---- elements of sorted and of filtered lists

less-not_equal : (o : Ordering) → o ≡ Less → o ≡ Equal → ⊥
less-not_equal o less equal = absurd (let no : Less ≡ Equal = sym less ∙ equal in cc)

one_of_tied : (xs : List SenderAddressName) (a b : SenderAddressName) → IsStrictlySortedBy by_name xs → Contains xs a → Contains xs b
    → by_name a b ≡ Equal → a ≡ b
one_of_tied xs a b sorted m n tied = ⊎_elim (λ before. absurd (less-not_equal _ (less a b m n before) tied))
    (λ not. ⊎_elim (λ after. absurd (less-not_equal _ (less b a n m after) (tied_back by_name-total a b tied)))
    (λ nor. (let same : m.0 ≡ n.0 = omega (arith, not, nor) in
    sym m.2 ∙ ap (λ k. get_or xs k a) same ∙ get_or_default xs n.0 a b n.1 ∙ n.2)) (cases_lt n.0 m.0)) (cases_lt m.0 n.0)
  where
    less : (x y : SenderAddressName) (p : Contains xs x) (q : Contains xs y) → p.0 < q.0 → by_name x y ≡ Less
    less x y p q before =
        (λ k. by_name (sym p.2 k) ((sym q.2 ∙ get_or_default xs q.0 y x q.1) k)) ∙ Less-from_sorted by_name xs p.0 q.0 x sorted before q.1

-- ---- the names of one sender

abbrev source_in : SenderAddressName → SourceAddress
source_in one = one.source

abbrev name_in : SenderAddressName → List ℕ
name_in one = one.name

module _ (sender : SourceAddress) where
  abbrev pub is_of : SenderAddressName → Bool
  is_of one = is_eq (address_cmp one.source sender)

  is_of-same : (one : SenderAddressName) → is_of one ≡ true → one.source ≡ sender
  is_of-same one passes = address_cmp-exact one.source sender (eq_is _ passes)

  same-is_of : (one : SenderAddressName) → one.source ≡ sender → is_of one ≡ true
  same-is_of one same = ap (λ source. is_eq (address_cmp source sender)) same ∙ ap is_eq (tied_itself address_cmp-total sender)

  -- names of the sender, each beside itself folded
  abbrev AreOf : SenderAddressName → Type 0
  AreOf one = (one.source ≡ sender) × (one.folded ≡ folded one.name)

  folded_order : (x y : SenderAddressName) → AreOf x → AreOf y → by_name x y ≡ Less → by_folded x.name y.name ≡ Less
  folded_order x y p q less = grind (arith, nat_tests, address_cmp-total, less, tied_itself)

  names_ascend : (xs : List SenderAddressName) → ((y : SenderAddressName) → Contains xs y → AreOf y) → IsStrictlySortedBy by_name xs
      → IsStrictlySortedBy by_folded (map name_in xs)
  names_ascend xs each up = sorted_from_all_adjacent by_folded-total (map name_in xs) [] (λ k within.
      let d : SenderAddressName = record { source = sender; folded = []; name = [] } in
      let inside : k + 1 < length xs = omega (arith, within, length-map xs name_in) in
      (λ i. by_folded (get_or-map name_in xs k d i) (get_or-map name_in xs (k + 1) d i))
      ∙ folded_order _ _ (each _ (Contains-get_or xs k d (omega (arith, inside)))) (each _ (Contains-get_or xs (k + 1) d inside))
      (Less-from_sorted by_name xs k (k + 1) d up (omega arith) inside))

  module _ (heard : List Hearing) (held : List SenderAddressName) (up : IsStrictlySortedBy by_name held) (holds : HoldsNames held heard) where
    abbrev own : List SenderAddressName
    own = filter is_of held

    of_own : (one : SenderAddressName) → Contains own one → AreOf one
    of_own one m =
        let w = from-filter is_of held one m in
        (is_of-same one w.1, (Tells-from_told heard one (holds.covers.among one w.0)).folded_is)

    name_own : (one : SenderAddressName) → Contains held one → one.source ≡ sender → IsNameOf sender heard one.name
    name_own one m same = grind (arith, Tells-from_told heard one (holds.covers.among one m))

    least_own : (one : SenderAddressName) → Contains own one → IsLeastName sender heard one.name
    least_own one m =
        let w = from-filter is_of held one m in
        let of = of_own one m in
        record {
          is_name = name_own one w.0 of.0;
          least = λ other is same. (
              let v = holds.covers.each (named sender other) (told-name sender heard other is) in
              let tied : by_name v.0 one ≡ Equal =
              ap (λ o. ordering_then o (slice_cmp nat_cmp v.0.folded one.folded))
              (ap (address_cmp v.0.source) (of.0 ∙ sym v.2.source) ∙ tied_itself address_cmp-total v.0.source)
              ∙ ap (slice_cmp nat_cmp v.0.folded) (of.1 ∙ sym same ∙ sym v.2.folded) ∙ tied_itself nat_list_cmp_total v.0.folded in
              subst (λ (x : SenderAddressName). slice_cmp nat_cmp x.name other ≢ Greater) (one_of_tied held v.0 one up v.1 w.0 tied) v.2.name);
        }

    both_least : (a b : List ℕ) → slice_cmp nat_cmp a b ≢ Greater → slice_cmp nat_cmp b a ≢ Greater → a ≡ b
    both_least a b p q = elim (slice_cmp nat_cmp a b) as (λ o. slice_cmp nat_cmp a b ≡ o → a ≡ b) [
      | Less ↦ λ e. absurd (q (nat_list_cmp_total.antisymm b a ∙ ap ordering_reverse e))
      | Equal ↦ λ e. bytes_cmp-exact a b e
      | Greater ↦ λ e. absurd (p e)
    ] refl

    own_least : (name : List ℕ) → IsLeastName sender heard name → Contains (map name_in own) name
    own_least name least =
        let v = holds.covers.each (named sender name) (told-name sender heard name least.is_name) in
        let tells = Tells-from_told heard v.0 (holds.covers.among v.0 v.1) in
        let back = least.least v.0.name (name_own v.0 v.1 v.2.source) (sym tells.folded_is ∙ v.2.folded) in
        subst (Contains (map name_in own)) (both_least v.0.name name v.2.name back)
        (Contains-map name_in own v.0 (to-filter is_of held v.0 v.1 (same-is_of v.0 v.2.source)))

    pub own_names : AreNames sender heard (map name_in own)
    own_names = record {
      ascending = names_ascend own of_own (IsStrictlySortedBy-filter by_name is_of held up);
      exactly = λ name. (
        λ m. (let w = from_map name_in own name m in subst (IsLeastName sender heard) w.1 (least_own w.0 w.2)),
        own_least name,
      );
    }

-- ---- where they are

first_part : (o p : Ordering) → ordering_then o p ≡ Less → (o ≡ Less) ⊎ (o ≡ Equal)
first_part Less p e = inl refl
first_part Equal p e = inr refl
first_part Greater p e = absurd (let no : Greater ≡ Less = e in cc)

points : (test : SourceAddress → Bool) (xs : List SourceAddress) (held : List SenderAddressName) (n : ℕ) → xs ≡ map source_in held
    → IsPartitionPoint (λ source. test source ≡ true) (λ source. test source ≡ false) xs n
    → IsPartitionPoint (λ (one : SenderAddressName). test one.source ≡ true) (λ one. test one.source ≡ false) held n
points test xs held n are at = (
  λ k d low high. ap test (sym (at_one k d)) ∙ at.0 k d.source low high,
  λ k d low high. ap test (sym (at_one k d)) ∙ at.1 k d.source low (omega (arith, high, ap length are, length-map held source_in)),
)
  where
    at_one : (k : ℕ) (d : SenderAddressName) → get_or xs k d.source ≡ (get_or held k d).source
    at_one k d = ap (λ ys. get_or ys k d.source) are ∙ get_or-map source_in held k d

module _ (sender : SourceAddress) (sources : List SourceAddress) (held : List SenderAddressName) (are : sources ≡ map source_in held)
    (up : IsStrictlySortedBy by_name held) where
  rising : (i j : ℕ) (d : SenderAddressName) → i ≤ j → j < length held
      → NotAbove address_cmp address_cmp-total (get_or held i d).source (get_or held j d).source
  rising i j d le within = ⊎_elim (λ less. first_part _ _ (Less-from_sorted by_name held i j d up less within))
      (λ more. (let same : j ≡ i = omega (arith, le, more) in
      inr (ap (λ k. address_cmp (get_or held i d).source (get_or held k d).source) same
      ∙ tied_itself address_cmp-total (get_or held i d).source))) (cases_lt i j)

  parted : (p : SourceAddress → Bool) → ((a b : SourceAddress) → NotAbove address_cmp address_cmp-total a b → p b ≡ true → p a ≡ true)
      → IsPartitionedBy p sources
  parted p lower = subst (IsPartitionedBy p) (sym are) (λ i j d le within passes.
      let blank : SenderAddressName = record { source = d; folded = []; name = [] } in
      subst (λ a. p a ≡ true) (sym (get_or-map source_in held i blank)) (lower _ _
      (rising i j blank le (omega (arith, within, length-map held source_in)))
      (subst (λ b. p b ≡ true) (get_or-map source_in held j blank) passes)))

  pub parted_below : IsPartitionedBy (λ source. is_lt (address_cmp source sender)) sources
  parted_below = parted _ (λ a b. below-before address_cmp address_cmp-total a b sender)

  pub parted_after : (after : List SourceAddress) (first : ℕ) → after ≡ drop first sources
      → IsPartitionedBy (λ source. is_le (address_cmp source sender)) after
  parted_after after first rest =
      grind (arith, length-drop, get_or-drop, parted _ (λ a b. not_above-before address_cmp address_cmp-total a b sender))

  -- what is found is the names of the sender
  pub names_found : (heard : List Hearing) (names : List (List ℕ)) (after : List SourceAddress) (first count : ℕ) → HoldsNames held heard
      → names ≡ map name_in held → after ≡ drop first sources → count ≤ length after
      → IsPartitionPoint (λ source. is_lt (address_cmp source sender) ≡ true)
      (λ source. is_lt (address_cmp source sender) ≡ false) sources first
      → IsPartitionPoint (λ source. is_le (address_cmp source sender) ≡ true)
      (λ source. is_le (address_cmp source sender) ≡ false) after count
      → AreNames sender heard (take count (drop first names))
  names_found heard names after first count holds named rest within below upto =
      subst (AreNames sender heard) (ap (map name_in) own ∙ sym (take-map name_in count (drop first held))
      ∙ ap (take count) (sym (drop-map name_in first held) ∙ ap (drop first) (sym named))) (own_names sender heard held up holds)
    where
      same : after ≡ map source_in (drop first held)
      same = rest ∙ ap (drop first) are ∙ drop-map source_in first held

      own : filter (is_of sender) held ≡ take count (drop first held)
      own = filter-rest (λ (one : SenderAddressName). address_cmp one.source sender) held (drop first held) first count refl
          (omega (arith, within, ap length same, length-map (drop first held) source_in))
          (points (λ source. is_lt (address_cmp source sender)) sources held first are below)
          (points (λ source. is_le (address_cmp source sender)) after (drop first held) count same upto)
