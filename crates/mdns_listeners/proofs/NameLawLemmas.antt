-- A sender has one list of names, whatever the order and the repeats of hearings.
use Rattle.std.proofs.{Common.{◌≡◌, ℕ, List, Contains, map, subst, sym, arith}, lemmas.{Cmp.{nat_list_cmp_total, on_total}, List.{map-id}}}
use Rattle.std.specs.{List.Sorted.{IsStrictlySortedBy}, Cmp.{IsTotalOrder}}
use Rattle.mdns_capture.specs.declared.source_address.SourceAddress.{SourceAddress}
use Rattle.dns_name.specs.Name.{folded}
use Rattle.mdns_message.specs.declared.hearing.Hearing.{Hearing}
use Rattle.mdns_cache.specs.Live.{SameHearings}
use Rattle.mdns_cache.proofs.StandsPartLemmas.{same-back}
use Rattle.mdns_browse.proofs.RowLemmas.{same_rows}
use Rattle.mdns_listeners.specs.SenderNames.{IsNameOf, IsLeastName, AreNames, by_folded}

pub by_folded-total : IsTotalOrder by_folded
by_folded-total = on_total folded nat_list_cmp_total

IsNameOf-among : (sender : SourceAddress) (heard others : List Hearing) (name : List ℕ)
    → ((h : Hearing) → Contains heard h → Contains others h) → IsNameOf sender heard name → IsNameOf sender others name
IsNameOf-among sender heard others name into is = search arith

IsLeastName-same : (sender : SourceAddress) (heard others : List Hearing) (name : List ℕ) → SameHearings heard others
    → IsLeastName sender heard name → IsLeastName sender others name
IsLeastName-same sender heard others name same least = record {
  is_name = IsNameOf-among sender heard others name same.into least.is_name;
  least = λ other is. least.least other (IsNameOf-among sender others heard other same.back is);
}

pub same_names : (sender : SourceAddress) (heard others : List Hearing) (names more : List (List ℕ)) → SameHearings heard others
    → AreNames sender heard names → AreNames sender others more → names ≡ more
same_names sender heard others names more same are also =
    same_rows by_folded by_folded-total (λ (name : List ℕ). name) names more (sorted names are.ascending) (sorted more also.ascending)
    (λ name m. (also.exactly name).1 (IsLeastName-same sender heard others name same ((are.exactly name).0 m)))
    (λ name m. (are.exactly name).1 (IsLeastName-same sender others heard name (same-back heard others same) ((also.exactly name).0 m)))
  where
    sorted : (xs : List (List ℕ)) → IsStrictlySortedBy by_folded xs → IsStrictlySortedBy by_folded (map (λ (name : List ℕ). name) xs)
    sorted xs = subst (IsStrictlySortedBy by_folded) (sym (map-id xs))
