-- The laws of the module `laws` that no other file needs.
use Rattle.std.proofs.Common.{arith, List, [], ◌∷◌, ◌++◌, Option, None, Some, Contains, MatchOption, inl, inr}
use Rattle.std.proofs.lemmas.List.Elements.{Contains-append_left, Contains-append_right, Contains-append_cases}
use Rattle.mdns_message.specs.{declared.hearing.Hearing.{Hearing}, declared.key.Key.{Key}, Resource.{key_cmp, set_key_cmp}}
use Rattle.mdns_join.specs.{declared.latest.Latest.{Latest}, Kept.{IsKeptList}, Latest.{IsLatest}}
use Rattle.mdns_cache.specs.Live.{IsUnheard, IsHeard, IsLast, SameHearings}
use Rattle.mdns_cache.specs.Contents.{Contents, MapLaws, last_at, StandsFor, no_contents, join_of, contents_of}
use Rattle.mdns_cache.proofs.{ContentsLemmas.{IsJoinMap-empty}, StandsPartLemmas.{Contains-nil}, StandsForLemmas.{stands-join}}
use Rattle.mdns_cache.proofs.MeaningLemmas.{stands-one}

pub same-onward : (heard others more : List Hearing) → SameHearings heard others → SameHearings others more → SameHearings heard more
same-onward heard others more s t = record { into = λ h m. t.into h (s.into h m); back = λ h m. s.back h (t.back h m) }

swap : (heard others : List Hearing) (h : Hearing) → Contains (heard ++ others) h → Contains (others ++ heard) h
swap heard others h m = grind (arith, Contains-append_cases heard others h m, Contains-append_right, Contains-append_left)

pub same-swapped : (heard others : List Hearing) → SameHearings (heard ++ others) (others ++ heard)
same-swapped heard others = record { into = swap heard others; back = swap others heard }

pub same-repeated : (heard : List Hearing) → SameHearings (heard ++ heard) heard
same-repeated heard = record {
  into = λ h m. elim (Contains-append_cases heard heard h m) [ inl a ↦ a | inr b ↦ b ];
  back = λ h m. Contains-append_left heard heard h m;
}

both : (heard others more rest : List Hearing) → ((h : Hearing) → Contains heard h → Contains others h)
    → ((h : Hearing) → Contains more h → Contains rest h) → (h : Hearing) → Contains (heard ++ more) h
    → Contains (others ++ rest) h
both heard others more rest s t h m = elim (Contains-append_cases heard more h m)
    [ inl a ↦ Contains-append_left others rest h (s h a) | inr b ↦ Contains-append_right others rest h (t h b) ]

pub same-joined : (heard others more rest : List Hearing) → SameHearings heard others → SameHearings more rest
    → SameHearings (heard ++ more) (others ++ rest)
same-joined heard others more rest s t = grind (arith, both heard others more rest s.into t.into, both others heard rest more s.back t.back)

-- nothing heard
pub stands_nothing : StandsFor no_contents []
stands_nothing = grind (arith, IsJoinMap-empty key_cmp IsLatest, IsJoinMap-empty set_key_cmp IsKeptList, Contains-nil)

-- each list of hearings has contents that stand for it
pub some_contents : MapLaws → (heard : List Hearing) → (c : Contents) × StandsFor c heard
some_contents laws [] = (no_contents, stands_nothing)
some_contents laws (h ∷ hs) = let rest = some_contents laws hs in
    (join_of (contents_of h) rest.0, stands-join laws (h ∷ []) hs (contents_of h) rest.0 (stands-one h) rest.1)

last_of : (heard : List Hearing) (key : Key) (o : Option Latest) → IsHeard heard key
    → MatchOption o (IsUnheard heard key) (IsLast heard key) → (l : Latest) × IsLast heard key l
last_of heard key None h u = absurd (u h.hearing h.among h.of_record)
last_of heard key (Some l) h u = (l, u)

-- a record that was heard has a last hearing
pub some_last : MapLaws → (heard : List Hearing) (key : Key) → IsHeard heard key → (l : Latest) × IsLast heard key l
some_last laws heard key h = let c = some_contents laws heard in last_of heard key (last_at key c.0) h (c.1.lasts key)

-- WHAT FUNCTIONS ARE PROVED BY

pub ruleset for_contents_of_union = (stands_nothing)

pub ruleset for_order_and_repeats = (same-onward, same-swapped, same-repeated, same-joined)
