-- Bytes as text, one sequence at a time.
use Rattle.std.proofs.Common.{◌≡◌, refl, sym, subst, ◌∙◌, ap, one-add, ℕ, ◌+◌, ◌<◌, ◌≤◌, Bool, true, false}
use Rattle.std.proofs.Common.{◌&&◌, ◌||◌, nat_le, nat_lt, List, [], ◌∷◌, ◌++◌, take, drop, arith, append_assoc}
use Rattle.std.proofs.lemmas.{Bool.{cond_both}, Bool.Decides.{nat_tests}, Str.{IsUtf8-append, IsUtf8-encode, IsUtf8-nil, encode_ascii}}
use Rattle.std.specs.{Char.{IsScalar, encode_utf8}, List.{flat_map, list_any, prefix_len}, Str.{IsUtf8}}
use Rattle.people_text.specs.Shown.{bytes_shown, hidden_ranges, is_hidden, is_marked, is_plain_byte, scalar_text}
use Rattle.people_text.proofs.ScalarLemmas.{scalar_shown}

-- ---- printing ASCII is not hidden

-- the number is in one of the ranges
abbrev pub in_ranges : List (ℕ × ℕ) → ℕ → Bool
in_ranges ranges n = list_any (λ (range : ℕ × ℕ). nat_le range.0 n && nat_le n range.1) ranges

-- no range has a printing ASCII scalar
apart : List (ℕ × ℕ) → Bool
apart [] = true
apart (range ∷ ranges) = (nat_lt range.1 32 || nat_le 127 range.0) && apart ranges

one_apart : (lo hi c : ℕ) (others more : Bool) → ((nat_lt hi 32 || nat_le 127 lo) && others) ≡ true → 32 ≤ c → c < 127 → more ≡ false
    → ((nat_le lo c && nat_le c hi) || more) ≡ false
one_apart lo hi c others more is low high rest = grind (arith, nat_tests)

others_apart : (one others : Bool) → (one && others) ≡ true → others ≡ true
others_apart true others is = is
others_apart false others is = cc

in_ranges-apart : (ranges : List (ℕ × ℕ)) (c : ℕ) → apart ranges ≡ true → 32 ≤ c → c < 127 → in_ranges ranges c ≡ false
unfolding apart
in_ranges-apart [] c is low high = refl
in_ranges-apart (range ∷ ranges) c is low high =
    grind (arith, others_apart, apart, one_apart, in_ranges-apart ranges c (others_apart _ (apart ranges) is) low high)

pub ascii_shown : (c : ℕ) → 32 ≤ c → c < 127 → is_hidden c ≡ false
unfolding is_hidden apart hidden_ranges
ascii_shown c low high = in_ranges-apart hidden_ranges c refl low high

-- ---- labels, one after another

-- the labels that follow another one, each after a `.`
abbrev pub further : List (List ℕ) → List ℕ
further labels = flat_map (λ label. 46 ∷ bytes_shown true label) labels

-- one label more, after its dot
pub label_moved : (old dotted new label whole : List ℕ) (labels : List (List ℕ)) → old ++ further labels ≡ whole
    → (after : List (List ℕ)) → labels ≡ label ∷ after → dotted ≡ old ++ 46 ∷ [] → new ≡ dotted ++ bytes_shown true label
    → new ++ further after ≡ whole
label_moved old dotted new label whole labels at after first dot more = grind (arith, append_assoc)

-- ---- plain ASCII

plain_more : (dots : Bool) (b : ℕ) (rest : List ℕ) → is_plain_byte dots b ≡ true
    → (encode_utf8 b ≡ b ∷ []) × IsScalar b × (bytes_shown dots (b ∷ rest) ≡ b ∷ bytes_shown dots rest)
unfolding scalar_text
plain_more dots b rest plain =
    let scalar : IsScalar b = grind (arith, nat_tests) in
    let low : 32 ≤ b = grind (arith, nat_tests) in
    let high : b < 127 = grind (arith, nat_tests) in
    let unmarked : is_marked dots b ≡ false = grind (arith, nat_tests) in
    let ascii = encode_ascii b (omega arith) in
    let text : scalar_text dots b ≡ b ∷ [] = rw (ascii_shown b low high, unmarked) ascii in (
      ascii,
      scalar,
      ap (λ bytes. bytes_shown dots (bytes ++ rest)) (sym ascii) ∙ scalar_shown dots b rest scalar
          ∙ ap (λ bytes. bytes ++ bytes_shown dots rest) text,
    )

-- plain bytes at the front are UTF-8, and are shown as they are
pub plain-front : (dots : Bool) (bytes : List ℕ) → let n = prefix_len (is_plain_byte dots) bytes in
    IsUtf8 (take n bytes) × (take n bytes ++ bytes_shown dots (drop n bytes) ≡ bytes_shown dots bytes)
plain-front dots [] = (IsUtf8-nil, refl)
plain-front dots (b ∷ bytes) =
    let more = plain-front dots bytes in
    cond_both (is_plain_byte dots b) (1 + prefix_len (is_plain_byte dots) bytes) 0
    (λ n. IsUtf8 (take n (b ∷ bytes)) × (take n (b ∷ bytes) ++ bytes_shown dots (drop n (b ∷ bytes)) ≡ bytes_shown dots (b ∷ bytes)))
    (λ plain.
    let first = plain_more dots b bytes plain in
    rw one-add (
      IsUtf8-append (b ∷ []) _ (subst IsUtf8 first.0 (IsUtf8-encode b first.1)) more.0,
      ap (λ text. b ∷ text) more.1 ∙ sym first.2,
    ))
    (λ not. (IsUtf8-nil, refl))
