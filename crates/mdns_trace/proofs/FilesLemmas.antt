-- One file more is written about.
use Rattle.std.proofs.Common.{◌≡◌, ℕ, ◌+◌, ◌<◌, List, [], ◌∷◌, ◌++◌, String, Global, get_or, map, length, drop, take}
use Rattle.std.proofs.Common.{take-append-drop, string_bytes, refl, arith, sym, ap, ◌∙◌, length-append}
use Rattle.std.proofs.lemmas.List.{drop_more, map-append, take_more}
use Rattle.mdns_trace.specs.{declared.trace.TraceFault.{TraceFault}, EachFile.{StopsAt, WritesEach, WritesFirst, more}}
use Rattle.mdns_survey.proofs.SurveyLemmas.{counted-more}
use Rattle.mdns_survey.proofs.SurveyLemmas.{left-more}

-- another file is left, so its index is one of a name
pub is-within : {X Y : Type 0} (names : List X) (all done rest after : List Y) (one : Y) → length names ≡ length all
    → all ≡ done ++ rest → rest ≡ one ∷ after → length done < length names
is-within {X} {Y} names all done rest after one same parts first = grind (arith, length-append)

module _ {R W S : Type 0} (Writes : List ℕ → R → W → W → S → Type 0) (names : List (String Global)) where
  -- these first files were written about
  abbrev pub WritesDone : List R → W → W → List S → Type 0
  WritesDone done old new found = WritesEach Writes old (map string_bytes (take (length done) names)) done new found

  -- and one file more
  pub written-more : (default : String Global) (name : List ℕ) (done : List R) (reader : R) (old middle new : W) (found : List S)
      (one : S) (index : ℕ) → index ≡ length done → length done < length names → name ≡ string_bytes (get_or names index default)
      → WritesDone done old middle found → Writes name reader middle new one
      → WritesDone (done ++ reader ∷ []) old new (found ++ one ∷ [])
  written-more default name done reader old middle new found one index at within named written is =
      let one_more : length (done ++ reader ∷ []) ≡ length done + 1 = omega (arith, length-append done (reader ∷ [])) in
      more (map string_bytes (take (length done) names)) name done reader middle found one written is
      (ap (λ (n : ℕ). map string_bytes (take n names)) one_more ∙ ap (map string_bytes) (take_more names (length done) default within)
      ∙ map-append string_bytes (take (length done) names) (get_or names (length done) default ∷ [])
      ∙ ap (λ (n : List ℕ). map string_bytes (take (length done) names) ++ n ∷ [])
      (sym (named ∙ ap (λ (n : ℕ). string_bytes (get_or names n default)) at)))
      refl refl

  pub first-written : (all done rest : List R) (old new : W) (found : List S) → all ≡ done ++ rest → WritesDone done old new found
      → WritesFirst Writes (map string_bytes names) all old new
  first-written all done rest old new found parts written = record {
    first_names = map string_bytes (take (length done) names);
    names_left = map string_bytes (drop (length done) names);
    first_readers = done;
    readers_left = rest;
    of_names = ap (map string_bytes) (sym (take-append-drop (length done) names))
        ∙ map-append string_bytes (take (length done) names) (drop (length done) names);
    of_readers = parts;
    found = found;
    all = written;
  }

  pub stops-at : (Stops : List ℕ → R → W → W → TraceFault → Type 0) (default : String Global) (name : List ℕ)
      (all done rest after : List R) (reader : R) (old middle new : W) (found : List S) (index : ℕ) (fault : TraceFault)
      → all ≡ done ++ rest → rest ≡ reader ∷ after → index ≡ length done → length done < length names
      → name ≡ string_bytes (get_or names index default) → WritesDone done old middle found → Stops name reader middle new fault
      → StopsAt Writes Stops (map string_bytes names) all old new index fault
  unfolding first-written
  stops-at Stops default name all done rest after reader old middle new found index fault parts first at within named written
      stops = record {
        middle = middle;
        first = first-written all done rest old middle found parts written;
        at_index = sym at;
        name = name;
        names_after = map string_bytes (drop (length done + 1) names);
        reader = reader;
        readers_after = after;
        of_name = grind (arith, drop_more);
        of_reader = first;
        stops = stops;
      }

-- WHAT FUNCTIONS ARE PROVED BY

pub ruleset for_write_each = (first-written, is-within, stops-at, written-more, counted-more, left-more)
