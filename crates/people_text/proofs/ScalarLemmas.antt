-- Bytes as text, one scalar, byte or chunk at a time.
use Rattle.std.proofs.Common.{◌≡◌, refl, sym, ◌∙◌, ap, subst, ℕ, zero, suc, ◌+◌, ◌-◌, ◌<◌, ◌≤◌, ◌==◌, Bool, true, false, inl, inr}
use Rattle.std.proofs.Common.{List, [], ◌∷◌, ◌++◌, length, take, drop, get_or, arith, append_assoc, flat_map}
use Rattle.std.proofs.lemmas.{Bool.{and_parts, cases_eq, cond_both}, Bool.Decides.{nat_tests}, Grind.{common_steps}}
use Rattle.std.proofs.lemmas.List.{append-nil, drop_at, get_or_append_left, length-append, length-take-le, take-append-drop, take_at}
use Rattle.std.proofs.lemmas.Str.{IsCharBoundary-start, IsUtf8-append, IsUtf8-encode, IsUtf8-from_is_utf8, IsUtf8-nil, chars-append}
use Rattle.std.proofs.lemmas.Str.{chars_from_encodes, chars_past_char, drop_past_char, is_utf8-from_IsUtf8, len_utf8_bounds, length-encode}
use Rattle.std.proofs.lemmas.Str.{utf8_valid_len_le}
use Rattle.std.specs.{Char.{IsScalar, encode_utf8, len_utf8}, Int.{IsInRange}, Str.{IsUtf8, StartsWithNoChar, all_scalars, chars}}
use Rattle.std.specs.{Str.{encode_utf8_all, is_utf8}, Str.Lossy.{error_len_after_two, utf8_error_len, utf8_invalid_len, utf8_valid_len}}
use Rattle.std.specs.{Str.Lossy.{valid_len_up_to}, Prelude.{unwrap_or}}
use Rattle.people_text.specs.Shown.{bytes_shown, escaped_byte, scalar_text, text_after}

-- ---- the longest front that is UTF-8

valid_up_to-utf8 : (bs : List ℕ) (n : ℕ) → IsUtf8 (take (valid_len_up_to bs n) bs)
valid_up_to-utf8 bs zero = IsUtf8-nil
valid_up_to-utf8 bs (suc n) =
    cond_both (is_utf8 (take (suc n) bs)) (suc n) (valid_len_up_to bs n) (λ m. IsUtf8 (take m bs)) (λ is. IsUtf8-from_is_utf8 _ is)
    (λ not. valid_up_to-utf8 bs n)

valid-utf8 : (bs : List ℕ) → IsUtf8 (take (utf8_valid_len bs) bs)
unfolding utf8_valid_len
valid-utf8 bs = valid_up_to-utf8 bs (length bs)

valid_up_to-most : (bs : List ℕ) (k n : ℕ) → k ≤ n → IsUtf8 (take k bs) → k ≤ valid_len_up_to bs n
valid_up_to-most bs k zero within is = omega arith
valid_up_to-most bs k (suc n) within is =
    elim (cases_eq k (suc n)) as (λ _. k ≤ valid_len_up_to bs (suc n)) [
      | inl same ↦ rw (is_utf8-from_IsUtf8 _ (subst (λ m. IsUtf8 (take m bs)) same is)) within
      | inr less ↦ (let more = valid_up_to-most bs k n (omega arith) is in
          cond_both (is_utf8 (take (suc n) bs)) (suc n) (valid_len_up_to bs n) (λ m. k ≤ m) (λ _. within) (λ _. more))
    ]

valid-most : (bs : List ℕ) (k : ℕ) → k ≤ length bs → IsUtf8 (take k bs) → k ≤ utf8_valid_len bs
unfolding utf8_valid_len
valid-most bs k within is = valid_up_to-most bs k (length bs) within is

-- ---- a scalar or a byte at the front

encode-some : (c : ℕ) → 0 < length (encode_utf8 c)
encode-some c = rw (length-encode c) (len_utf8_bounds c).0

valid-scalar : (c : ℕ) (rest : List ℕ) → IsScalar c → 0 < utf8_valid_len (encode_utf8 c ++ rest)
valid-scalar c rest is =
    let front : take (length (encode_utf8 c)) (encode_utf8 c ++ rest) ≡ encode_utf8 c = take_at (encode_utf8 c) rest _ refl in
    let most = valid-most (encode_utf8 c ++ rest) (length (encode_utf8 c)) (omega (arith, length-append (encode_utf8 c) rest))
    (subst IsUtf8 (sym front) (IsUtf8-encode c is)) in
    omega (arith, encode-some c)

-- text at the front begins with a scalar
pub first-scalar : (bs : List ℕ) → 0 < utf8_valid_len bs → (c : ℕ) × (rest : List ℕ) × IsScalar c × (bs ≡ encode_utf8 c ++ rest)
first-scalar bs some = (let text = valid-utf8 bs in go text.0 text.1.0 text.1.1)
  where
    n : ℕ
    n = utf8_valid_len bs

    go : (cs : List ℕ) → all_scalars cs ≡ true → encode_utf8_all cs ≡ take n bs
        → (c : ℕ) × (rest : List ℕ) × IsScalar c × (bs ≡ encode_utf8 c ++ rest)
    go [] valid same = absurd (omega (arith, ap length same, length-take-le n bs (utf8_valid_len_le bs), some))
    go (c ∷ cs) valid same = (
      c,
      encode_utf8_all cs ++ drop n bs,
      (and_parts _ _ valid).0,
      sym (take-append-drop n bs) ∙ ap (λ text. text ++ drop n bs) (sym same)
          ∙ append_assoc (encode_utf8 c) (encode_utf8_all cs) (drop n bs),
    )

pub first-char : (c : ℕ) (rest : List ℕ) → IsScalar c → get_or (chars (encode_utf8 c ++ rest)) 0 0 ≡ c
first-char c rest is = grind (arith, IsUtf8-encode c is, chars-append, chars_past_char, append-nil (encode_utf8 c))

text_after-drop : (dots : Bool) (taken : ℕ) (bytes : List ℕ) → text_after dots taken bytes ≡ text_after dots 0 (drop taken bytes)
text_after-drop dots zero bytes = refl
text_after-drop dots (suc taken) [] = refl
text_after-drop dots (suc taken) (b ∷ bytes) = text_after-drop dots taken bytes

pub scalar_shown : (dots : Bool) (c : ℕ) (rest : List ℕ) → IsScalar c
    → bytes_shown dots (encode_utf8 c ++ rest) ≡ scalar_text dots c ++ bytes_shown dots rest
unfolding bytes_shown
scalar_shown dots c rest is = go (encode_utf8 c ++ rest) refl
  where
    go : (bytes : List ℕ) → bytes ≡ encode_utf8 c ++ rest → text_after dots 0 bytes ≡ scalar_text dots c ++ text_after dots 0 rest
    go [] same = absurd (omega (arith, encode-some c, length-append (encode_utf8 c) rest, ap length same))
    go (b ∷ bytes) same =
        let valid = valid-scalar c rest is in
        let test : (utf8_valid_len (b ∷ bytes) == 0) ≡ false = rw same (grind (arith, nat_tests)) in
        let first : get_or (chars (b ∷ bytes)) 0 0 ≡ c = rw same (first-char c rest is) in
        let back : suc (len_utf8 c - 1) ≡ 0 + len_utf8 c = omega (arith, (len_utf8_bounds c).0) in
        let after : drop (len_utf8 c - 1) bytes ≡ rest = ap (λ n. drop n (b ∷ bytes)) back ∙ drop_past_char (b ∷ bytes) rest 0 c same in
        rw (test, first, text_after-drop dots (len_utf8 c - 1) bytes, after) refl

pub byte_shown : (dots : Bool) (b : ℕ) (rest : List ℕ) → StartsWithNoChar (b ∷ rest)
    → bytes_shown dots (b ∷ rest) ≡ escaped_byte b ++ bytes_shown dots rest
unfolding bytes_shown
byte_shown dots b rest none = grind (arith, nat_tests, first-scalar)

pub shown_none : (dots : Bool) (bs : List ℕ) → length bs ≡ 0 → bytes_shown dots bs ≡ []
unfolding bytes_shown
shown_none dots [] none = refl
shown_none dots (b ∷ bs) none = absurd (omega arith)

-- ---- a chunk at the front

text-shown : (dots : Bool) (cs rest : List ℕ) → all_scalars cs ≡ true
    → bytes_shown dots (encode_utf8_all cs ++ rest) ≡ flat_map (scalar_text dots) cs ++ bytes_shown dots rest
text-shown dots [] rest are = refl
text-shown dots (c ∷ cs) rest are =
    let parts = and_parts _ _ are in
    ap (bytes_shown dots) (append_assoc (encode_utf8 c) (encode_utf8_all cs) rest)
    ∙ scalar_shown dots c (encode_utf8_all cs ++ rest) parts.0
    ∙ ap (λ text. scalar_text dots c ++ text) (text-shown dots cs rest parts.1)
    ∙ sym (append_assoc (scalar_text dots c) (flat_map (scalar_text dots) cs) (bytes_shown dots rest))

-- a byte that can only go on a scalar's UTF-8 begins none
goes_on-none : (bs : List ℕ) → IsInRange 0x80 0xBF (get_or bs 0 0) → StartsWithNoChar bs
goes_on-none bs on c rest is same = grind (arith, get_or_append_left, encode-some, IsCharBoundary-start, IsUtf8-encode)

run-shown : (dots : Bool) (run rest : List ℕ) → ((k : ℕ) → k < length run → IsInRange 0x80 0xBF (get_or (run ++ rest) k 0))
    → bytes_shown dots (run ++ rest) ≡ flat_map escaped_byte run ++ bytes_shown dots rest
run-shown dots [] rest on = refl
run-shown dots (b ∷ run) rest on =
    byte_shown dots b (run ++ rest) (goes_on-none (b ∷ run ++ rest) (on 0 (omega arith)))
    ∙ ap (λ text. escaped_byte b ++ text) (run-shown dots run rest (λ k below. on (suc k) (omega arith)))

second_goes_on : (bs : List ℕ) → 1 < utf8_invalid_len bs → IsInRange 0x80 0xBF (get_or bs 1 0)
unfolding utf8_error_len
second_goes_on bs long = grind (arith, common_steps, nat_tests)

-- of a first byte and one that goes on: so may the third
after_two : (bs : List ℕ) → 2 < unwrap_or (error_len_after_two bs) (length bs) → IsInRange 0x80 0xBF (get_or bs 2 0)
after_two bs long = grind (arith, common_steps, nat_tests)

third_goes_on : (bs : List ℕ) → 2 < utf8_invalid_len bs → IsInRange 0x80 0xBF (get_or bs 2 0)
unfolding utf8_error_len
third_goes_on bs long = after_two bs (grind (arith, common_steps, nat_tests))

invalid_few : (bs : List ℕ) → utf8_invalid_len bs < 4
unfolding utf8_error_len
invalid_few bs = grind (arith, common_steps, nat_tests)

-- bytes that could begin a scalar's UTF-8 and don't
invalid-shown : (dots : Bool) (invalid rest : List ℕ) → length invalid ≡ utf8_invalid_len (invalid ++ rest)
    → StartsWithNoChar (invalid ++ rest) → bytes_shown dots (invalid ++ rest) ≡ flat_map escaped_byte invalid ++ bytes_shown dots rest
invalid-shown dots [] rest size none = refl
invalid-shown dots (b ∷ run) rest size none =
    byte_shown dots b (run ++ rest) none ∙ ap (λ text. escaped_byte b ++ text) (run-shown dots run rest on)
  where
    on : (k : ℕ) → k < length run → IsInRange 0x80 0xBF (get_or (run ++ rest) k 0)
    on zero below = second_goes_on (b ∷ run ++ rest) (omega (arith, size))
    on (suc zero) below = third_goes_on (b ∷ run ++ rest) (omega (arith, size))
    on (suc (suc k)) below = absurd (omega (arith, size, invalid_few (b ∷ run ++ rest)))

pub chunk_shown : (dots : Bool) (bs valid invalid rest : List ℕ) → IsUtf8 valid → bs ≡ valid ++ (invalid ++ rest)
    → length valid ≡ utf8_valid_len bs → length invalid ≡ utf8_invalid_len (drop (utf8_valid_len bs) bs)
    → bytes_shown dots bs ≡ flat_map (scalar_text dots) (chars valid) ++ (flat_map escaped_byte invalid ++ bytes_shown dots rest)
chunk_shown dots bs valid invalid rest text whole size after_size =
    let more : List ℕ = invalid ++ rest in
    let after : drop (utf8_valid_len bs) bs ≡ more = ap (drop (utf8_valid_len bs)) whole ∙ drop_at valid more (utf8_valid_len bs) size in
    let none : StartsWithNoChar more = λ c r is same.
    let front : List ℕ = valid ++ encode_utf8 c in
    let parts : bs ≡ front ++ r = whole ∙ ap (λ t. valid ++ t) same ∙ sym (append_assoc valid (encode_utf8 c) r) in
    let utf8 : IsUtf8 (take (length front) bs) = subst IsUtf8 (sym (ap (take (length front)) parts ∙ take_at front r _ refl))
    (IsUtf8-append valid (encode_utf8 c) text (IsUtf8-encode c is)) in
    let most = valid-most bs (length front) (omega (arith, ap length parts, length-append front r)) utf8 in
    absurd (omega (arith, most, size, length-append valid (encode_utf8 c), encode-some c)) in
    ap (bytes_shown dots) whole ∙ ap (λ t. bytes_shown dots (t ++ more)) (sym text.1.1) ∙ text-shown dots text.0 more text.1.0
    ∙ ap (λ cs. flat_map (scalar_text dots) cs ++ bytes_shown dots more) (chars_from_encodes text.0 valid text text.1.1)
    ∙ ap (λ t. flat_map (scalar_text dots) (chars valid) ++ t) (invalid-shown dots invalid rest (rw after at after_size) none)

-- WHAT FUNCTIONS ARE PROVED BY

pub ruleset pieces_shown = (byte_shown, scalar_shown, shown_none)
