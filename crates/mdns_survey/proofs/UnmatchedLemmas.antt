-- What is asked about in vain.
use Rattle.std.proofs.Common.{◌≡◌, ◌∙◌, ◌↔◌, ◌||◌, Bool, true, false, IsTrue, List, [], ◌∷◌, Option, Some, None, refl, sym, ap}
use Rattle.std.proofs.Common.{Contains, MatchOption}
use Rattle.std.proofs.lemmas.{Cmp.{eq_by_cmp_equiv}, List.Folds.{Any-from_list_any, list_any-from_Any}, Map.Keys.{IsDistinct-from_sorted}}
use Rattle.std.proofs.lemmas.Map.Views.{Contains-from_lookup, lookup-from_Contains}
use Rattle.std.specs.{List.{list_any}, Map.{keys_of}}
use Rattle.mdns_message.specs.{declared.hearing.Hearing.{Hearing}, declared.key.Key.{Key}, Resource.{key_cmp}}
use Rattle.mdns_message.specs.laws.Resource.{key_cmp-total}
use Rattle.mdns_join.specs.declared.latest.Latest.{Latest}
use Rattle.mdns_cache.specs.{Contents.{Contents, StandsFor, last_at}, Live.{IsLast, IsUnheard, key_of_last}}
use Rattle.mdns_cache.proofs.{MeaningLemmas.{IsLast-held, key_eq-exact}, StandsPartLemmas.{IsLast-same, same-itself}}
use Rattle.mdns_lives.specs.{Chronicle.{AreAllLives}, declared.life.Life.{Life}}
use Rattle.mdns_browse.specs.{About.{keeps_record}, declared.about.Subject.{Subject}}
use Rattle.mdns_survey.specs.Unmatched.{IsHeardAbout}

-- A TEST OF ELEMENTS, ONE AFTER ANOTHER

module _ {X : Type 0} (p : X → Bool) where
  -- no element passed so far: one of all passes if one of those that are left does
  pub any-first : (all left more : List X) (first : X) → list_any p left ≡ list_any p all → left ≡ first ∷ more → p first ≡ true
      → list_any p all ≡ true
  any-first all left more first so_far is passes =
      sym so_far ∙ ap (list_any p) is ∙ ap (λ b. b || list_any p more) passes

  pub any-rest : (all left more : List X) (first : X) → list_any p left ≡ list_any p all → left ≡ first ∷ more → p first ≡ false
      → list_any p more ≡ list_any p all
  any-rest all left more first so_far is fails =
      sym (ap (list_any p) is ∙ ap (λ b. b || list_any p more) fails) ∙ so_far

  pub any-none : (all left : List X) → list_any p left ≡ list_any p all → left ≡ [] → list_any p all ≡ false
  any-none all left so_far none = sym so_far ∙ ap (list_any p) none

  -- an element that passes
  pub some-passes : (xs : List X) → list_any p xs ≡ true → (x : X) × Contains xs x × (p x ≡ true)
  some-passes xs any = let (place, x, within, at, passes) = Any-from_list_any p xs any in (x, (place, within, at), passes)

  pub any-passes : (xs : List X) (y : X) → Contains xs y → p y ≡ true → list_any p xs ≡ true
  any-passes xs y (place, within, at) passes = list_any-from_Any p xs (place, y, within, at, passes)

-- RECORDS IN A CACHE

-- the record of an entry is about one of the subjects
abbrev pub keeps_entry : List Subject → Key × Latest → Bool
keeps_entry about entry = keeps_record about entry.1.resource

pub found-in-cache : (about : List Subject) (c : Contents) (found : Bool) → list_any (keeps_entry about) c.lasts ≡ found
    → (heard : List Hearing) → StandsFor c heard → (IsTrue found ↔ IsHeardAbout about heard)
found-in-cache about c found is heard stands = (into, back)
  where
    into : IsTrue found → IsHeardAbout about heard
    into passes =
        let some = some-passes (keeps_entry about) c.lasts (is ∙ passes) in
        let key = some.0.0 in
        let last = some.0.1 in
        record {
          key = key;
          last = last;
          is_last = IsLast-held c heard key last (lookup-from_Contains (eq_by_cmp_equiv key_cmp-total) key last c.lasts
              (IsDistinct-from_sorted key_cmp (keys_of c.lasts) stands.contents.lasts.sorted) some.1) stands;
          keeps = some.2;
        }

    held : (key : Key) (last : Latest) (o : Option Latest) → IsLast heard key last
        → MatchOption o (IsUnheard heard key) (IsLast heard key) → o ≡ Some last
    held key last None is_last unheard = absurd (unheard is_last.hearing is_last.among is_last.of_record)
    held key last (Some other) is_last others = ap Some (IsLast-same heard heard (same-itself heard) key other last others is_last)

    back : IsHeardAbout about heard → IsTrue found
    back some =
        sym is ∙ any-passes (keeps_entry about) c.lasts (some.key, some.last)
        (Contains-from_lookup key_eq-exact some.key some.last c.lasts
        (held some.key some.last (last_at some.key c) some.is_last (stands.lasts some.key))) some.keeps

-- RECORDS WITH LIVES

-- the record of a row is about one of the subjects
abbrev pub keeps_row : List Subject → Latest × List Life → Bool
keeps_row about row = keeps_record about row.0.resource

pub found-in-lives : (about : List Subject) (rows : List (Latest × List Life)) (found : Bool) → list_any (keeps_row about) rows ≡ found
    → (heard : List Hearing) → AreAllLives heard rows → (IsTrue found ↔ IsHeardAbout about heard)
found-in-lives about rows found is heard are = (into, back)
  where
    into : IsTrue found → IsHeardAbout about heard
    into passes =
        let some = some-passes (keeps_row about) rows (is ∙ passes) in
        record {
          key = key_of_last some.0.0;
          last = some.0.0;
          is_last = (are.each some.0.0 some.0.1 some.1).0;
          keeps = some.2;
        }

    back : IsHeardAbout about heard → IsTrue found
    back some =
        let held = are.all some.key some.last some.is_last in
        sym is ∙ any-passes (keeps_row about) rows (some.last, held.0) held.1 some.keeps

-- WHAT FUNCTIONS ARE PROVED BY

pub ruleset for_is_in_cache = (any-first, any-none, found-in-cache, keeps_entry)

pub ruleset for_is_in_lives = (any-first, any-none, any-rest, found-in-lives, keeps_row)
