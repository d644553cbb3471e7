-- Texts for people, one string at a time.
use Rattle.std.proofs.Common.{arith, ◌≡◌, refl, sym, ◌∙◌, ap, ℕ, List, [], ◌∷◌, ◌++◌}
use Rattle.std.proofs.lemmas.{List.{append-nil, append_assoc}, Grind.{flat_map-append}}
use Rattle.mdns_message.specs.TextData.{strings_of}
use Rattle.mdns_browse.specs.RecordShown.{shown_string, shown_strings, spaced_by}

-- the words of one string, and those of the others
pub strings-cons : (bytes string after : List ℕ) → strings_of bytes ≡ string ∷ strings_of after
    → shown_strings bytes ≡ shown_string string ++ shown_strings after
unfolding shown_strings
strings-cons bytes string after split = rw split refl

-- a string written takes its words from what is left to write
pub shown_left-step : (gap old new total bytes string after : List ℕ) → strings_of bytes ≡ string ∷ strings_of after
    → new ≡ old ++ spaced_by gap (shown_string string) → old ++ spaced_by gap (shown_strings bytes) ≡ total
    → new ++ spaced_by gap (shown_strings after) ≡ total
shown_left-step gap old new total bytes string after split written left = grind (
  arith,
  append_assoc old (spaced_by gap (shown_string string)) (spaced_by gap (shown_strings after)),
  strings-cons bytes string after split,
  flat_map-append,
)

-- with no bytes left nothing is left to write
pub shown_left-end : (gap old total bytes : List ℕ) → bytes ≡ [] → old ++ spaced_by gap (shown_strings bytes) ≡ total → old ≡ total
unfolding shown_strings
shown_left-end gap old total bytes none left = sym (append-nil old) ∙ ap (λ bytes. old ++ spaced_by gap (shown_strings bytes)) (sym none) ∙ left
