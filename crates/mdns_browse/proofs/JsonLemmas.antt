-- Texts whose marks stand after a mark, one character at a time.
use Rattle.std.proofs.Common.{◌≡◌, sym, ◌∙◌, ap, ℕ, ◌<◌, ◌≤◌, ◌==◌, ◌||◌, Bool, true}
use Rattle.std.proofs.Common.{false, cond, if◌then◌else◌, List, [], ◌∷◌, ◌++◌, length, nat_lt, arith}
use Rattle.std.proofs.lemmas.{Bool.Decides.{nat_tests}, List.{append-nil, append_assoc}, Grind.{flat_map-append}, Str.{encode_ascii}}
use Rattle.std.specs.Char.{encode_utf8}
use Rattle.mdns_browse.specs.Json.{marked}

module _ (mark : ℕ) (ascii : mark < 128) where
  -- a byte of a text
  abbrev marked_byte : ℕ → List ℕ
  marked_byte b = if (b == 34) || (b == mark) then mark ∷ b ∷ [] else b ∷ []

  plain_byte : (b : ℕ) → 128 ≤ b → marked_byte b ≡ b ∷ []
  plain_byte b big = grind (arith, nat_tests)

  marked-two : (a b : ℕ) → 128 ≤ a → 128 ≤ b → marked mark (a ∷ b ∷ []) ≡ a ∷ b ∷ []
  marked-two a b p q = rw (plain_byte a p, plain_byte b q)

  marked-three : (a b c : ℕ) → 128 ≤ a → 128 ≤ b → 128 ≤ c → marked mark (a ∷ b ∷ c ∷ []) ≡ a ∷ b ∷ c ∷ []
  marked-three a b c p q r = rw (plain_byte a p, plain_byte b q, plain_byte c r)

  marked-four : (a b c d : ℕ) → 128 ≤ a → 128 ≤ b → 128 ≤ c → 128 ≤ d → marked mark (a ∷ b ∷ c ∷ d ∷ []) ≡ a ∷ b ∷ c ∷ d ∷ []
  marked-four a b c d p q r s = rw (plain_byte a p, plain_byte b q, plain_byte c r, plain_byte d s)

  one_of_three : (y z : Bool) (q r s : List ℕ) → marked mark q ≡ q → marked mark r ≡ r → marked mark s ≡ s
      → marked mark (cond y q (cond z r s)) ≡ cond y q (cond z r s)
  one_of_three true z q r s a b c = a
  one_of_three false true q r s a b c = b
  one_of_three false false q r s a b c = c

  -- the bytes of a character beyond ASCII stand as they are
  marked-wide : (c : ℕ) → 128 ≤ c → marked mark (encode_utf8 c) ≡ encode_utf8 c
  unfolding encode_utf8
  marked-wide c big = grind (arith, nat_lt, nat_tests, one_of_three, marked-two, marked-three, marked-four)

  -- a character after a mark, and one that isn't
  marked-mark : (c : ℕ) → ((c == 34) || (c == mark)) ≡ true → marked mark (encode_utf8 c) ≡ mark ∷ encode_utf8 c
  marked-mark c is = grind (arith, nat_tests, encode_ascii)

  marked-plain : (c : ℕ) → ((c == 34) || (c == mark)) ≡ false → marked mark (encode_utf8 c) ≡ encode_utf8 c
  marked-plain c is = grind (arith, nat_lt, nat_tests, encode_ascii, marked-wide)

  -- a character written, with a mark before it or without
  pub character_marked : (c : ℕ) (old a new : List ℕ) → ((c == 34) || (c == mark)) ≡ true → a ≡ old ++ encode_utf8 mark
      → new ≡ a ++ encode_utf8 c → new ≡ old ++ marked mark (encode_utf8 c)
  character_marked c old a new is before written = grind (arith, append_assoc, marked-mark, encode_ascii)

  pub character_plain : (c : ℕ) (old new : List ℕ) → ((c == 34) || (c == mark)) ≡ false → new ≡ old ++ encode_utf8 c
      → new ≡ old ++ marked mark (encode_utf8 c)
  character_plain c old new is written = written ∙ ap (λ text. old ++ text) (sym (marked-plain c is))

-- a character written takes its bytes from what is left to write
pub marked_left_step : (mark c : ℕ) (old new total text rest : List ℕ) → text ≡ encode_utf8 c ++ rest
    → new ≡ old ++ marked mark (encode_utf8 c) → old ++ marked mark text ≡ total → new ++ marked mark rest ≡ total
marked_left_step mark c old new total text rest split written left = grind (arith, append_assoc, flat_map-append)

-- with no bytes left nothing is left to write
pub marked_left_end : (mark : ℕ) (old total rest : List ℕ) → length rest ≡ 0 → old ++ marked mark rest ≡ total → old ≡ total
marked_left_end mark old total [] none left = sym (append-nil old) ∙ left
marked_left_end mark old total (b ∷ rest) none left = absurd (omega (arith, none))
