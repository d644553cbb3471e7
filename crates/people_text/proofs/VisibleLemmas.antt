-- Shown text has visible scalars alone.
use Rattle.std.proofs.Common.{◌≡◌, ◌≢◌, refl, ◌∙◌, ap, subst, ℕ, zero, suc, ◌+◌, ◌-◌, ◌/◌, ◌%◌, ◌<◌, ◌≤◌, Bool, true, false, cond}
use Rattle.std.proofs.Common.{◌==◌, ◌||◌, List, [], ◌∷◌, ◌++◌, flat_map, get_or, length, take, arith, append-nil, inl, inr}
use Rattle.std.proofs.lemmas.{Bool.{cases_lt, cond_both}, Bool.Decides.{nat_tests}, List.{take_at}}
use Rattle.std.proofs.lemmas.List.Elements.{All-append, All-cons, All-from_get_or, All-head, All-nil, All-tail, All-take}
use Rattle.std.proofs.lemmas.Str.{NoCharPasses-byte, encode_ascii, encodes-append}
use Rattle.std.specs.{Char.{IsScalar, encode_utf8, len_utf8}, List.{All}}
use Rattle.std.specs.{Str.{IsUtf8, NoCharPasses, NonePass, all_scalars, chars, encode_utf8_all}, Str.Lossy.{utf8_valid_len}}
use Rattle.dns_name.specs.Name.{labels_of, pieces_of}
use Rattle.people_text.specs.Shown.{AreBytes, IsPrinted, IsVisible, IsVisibleText, bytes_shown, escaped_byte}
use Rattle.people_text.specs.Shown.{dotted, hidden_ranges, is_hidden, is_marked, name_shown, scalar_text, text_after}
use Rattle.people_text.proofs.{ScalarLemmas.{first-char, first-scalar, scalar_shown}, ShownLemmas.{ascii_shown, further}}

-- ---- texts that are appended

text-nil : IsVisibleText []
text-nil = record { scalars = []; visible = All-nil IsVisible; encoded = refl }

text-append : (xs ys : List ℕ) → IsVisibleText xs → IsVisibleText ys → IsVisibleText (xs ++ ys)
text-append xs ys one other =
    grind (arith, All-append IsVisible one.scalars other.scalars one.visible other.visible, encodes-append one.scalars other.scalars)

text-ascii : (c : ℕ) → 32 ≤ c → c < 127 → IsVisibleText (c ∷ [])
text-ascii c low high =
    let scalar : IsScalar c = grind (arith, nat_tests) in
    record {
      scalars = c ∷ [];
      visible = All-cons IsVisible c [] (scalar, ascii_shown c low high) (All-nil IsVisible);
      encoded = ap (λ text. text ++ []) (encode_ascii c (omega arith));
    }

-- ---- escaped bytes

escaped_byte-visible : (b : ℕ) → b < 256 → IsVisibleText (escaped_byte b)
escaped_byte-visible b small =
    text-append (92 ∷ []) _ (text-ascii 92 (omega arith) (omega arith))
    (text-append ((48 + b / 100) ∷ []) _ (text-ascii (48 + b / 100) (omega arith) (omega arith))
    (text-append ((48 + b / 10 % 10) ∷ []) _ (text-ascii (48 + b / 10 % 10) (omega arith) (omega arith))
    (text-ascii (48 + b % 10) (omega arith) (omega arith))))

escaped-visible : (bytes : List ℕ) → AreBytes bytes → IsVisibleText (flat_map escaped_byte bytes)
escaped-visible [] are = text-nil
escaped-visible (b ∷ bytes) are =
    text-append (escaped_byte b) (flat_map escaped_byte bytes) (escaped_byte-visible b (All-head (λ byte. byte < 256) b bytes are))
    (escaped-visible bytes (All-tail (λ byte. byte < 256) b bytes are))

-- ---- scalars

marked-visible : (t : Bool) (s : List ℕ) → IsVisibleText s → IsVisibleText (cond t (92 ∷ s) s)
marked-visible true s is = text-append (92 ∷ []) s (text-ascii 92 (omega arith) (omega arith)) is
marked-visible false s is = is

scalar-visible : (dots : Bool) (c : ℕ) → IsScalar c → AreBytes (encode_utf8 c) → IsVisibleText (scalar_text dots c)
unfolding scalar_text
scalar-visible dots c scalar are = go (is_hidden c) refl
  where
    text : List ℕ
    text = encode_utf8 c

    go : (t : Bool) → is_hidden c ≡ t → IsVisibleText (cond t (flat_map escaped_byte text) (cond (is_marked dots c) (92 ∷ text) text))
    go true is = escaped-visible text are
    go false is = marked-visible (is_marked dots c) text (record {
      scalars = c ∷ [];
      visible = All-cons IsVisible c [] (scalar, is) (All-nil IsVisible);
      encoded = append-nil text;
    })

first-visible : (dots : Bool) (bytes : List ℕ) → 0 < utf8_valid_len bytes → AreBytes bytes
    → IsVisibleText (scalar_text dots (get_or (chars bytes) 0 0))
first-visible dots bytes some are =
    let first = first-scalar bytes some in
    let front = All-take (λ byte. byte < 256) (length (encode_utf8 first.0)) bytes are in
    let text : take (length (encode_utf8 first.0)) bytes ≡ encode_utf8 first.0
    = ap (take (length (encode_utf8 first.0))) first.3 ∙ take_at (encode_utf8 first.0) first.1 _ refl in
    rw (first.3, first-char first.0 first.1 first.2) (scalar-visible dots first.0 first.2 (subst AreBytes text front))

after-visible : (dots : Bool) (taken : ℕ) (bytes : List ℕ) → AreBytes bytes → IsVisibleText (text_after dots taken bytes)
after-visible dots taken [] are = text-nil
after-visible dots zero (b ∷ bytes) are =
    let more = All-tail (λ byte. byte < 256) b bytes are in
    let scalar : ℕ = get_or (chars (b ∷ bytes)) 0 0 in
    cond_both (utf8_valid_len (b ∷ bytes) == 0) _ _ IsVisibleText
    (λ _. text-append (escaped_byte b) _ (escaped_byte-visible b (All-head (λ byte. byte < 256) b bytes are))
    (after-visible dots 0 bytes more))
    (λ some. text-append (scalar_text dots scalar) _ (first-visible dots (b ∷ bytes) (grind (arith, nat_tests)) are)
    (after-visible dots (len_utf8 scalar - 1) bytes more))
after-visible dots (suc taken) (b ∷ bytes) are = after-visible dots taken bytes (All-tail (λ byte. byte < 256) b bytes are)

pub shown_visible : (dots : Bool) (bytes : List ℕ) → AreBytes bytes → IsVisibleText (bytes_shown dots bytes)
unfolding bytes_shown
shown_visible dots bytes are = after-visible dots 0 bytes are

-- ---- names

AreLabelBytes : List (List ℕ) → Type 0
AreLabelBytes [] = Unit {0}
AreLabelBytes (label ∷ labels) = AreBytes label × AreLabelBytes labels

pieces-bytes : (left : ℕ) (bytes : List ℕ) → AreBytes bytes → AreBytes (pieces_of left bytes).0 × AreLabelBytes (pieces_of left bytes).1
unfolding AreLabelBytes
pieces-bytes zero [] are = (All-nil (λ byte. byte < 256), tt)
pieces-bytes (suc left) [] are = (All-nil (λ byte. byte < 256), tt)
pieces-bytes zero (zero ∷ bytes) are = (All-nil (λ byte. byte < 256), tt)
pieces-bytes zero (suc count ∷ bytes) are =
    let more = pieces-bytes (suc count) bytes (All-tail (λ byte. byte < 256) (suc count) bytes are) in
    (All-nil (λ byte. byte < 256), more)
pieces-bytes (suc left) (b ∷ bytes) are =
    let more = pieces-bytes left bytes (All-tail (λ byte. byte < 256) b bytes are) in
    (All-cons (λ byte. byte < 256) b _ (All-head (λ byte. byte < 256) b bytes are) more.0, more.1)

further-visible : (labels : List (List ℕ)) → AreLabelBytes labels → IsVisibleText (further labels)
unfolding AreLabelBytes
further-visible [] are = text-nil
further-visible (label ∷ labels) are =
    text-append (46 ∷ bytes_shown true label) (further labels)
    (text-append (46 ∷ []) (bytes_shown true label) (text-ascii 46 (omega arith) (omega arith)) (shown_visible true label are.0))
    (further-visible labels are.1)

labels-visible : (labels : List (List ℕ)) → AreLabelBytes labels → IsVisibleText (dotted (bytes_shown true) labels)
unfolding AreLabelBytes
labels-visible [] are = text-ascii 46 (omega arith) (omega arith)
labels-visible (label ∷ labels) are =
    text-append (bytes_shown true label) (further labels) (shown_visible true label are.0) (further-visible labels are.1)

pub name_visible : (name : List ℕ) → AreBytes name → IsVisibleText (name_shown name)
name_visible name are = labels-visible (labels_of name) (pieces-bytes 0 name are).1

-- ---- plain text is shown as it is

-- a visible scalar other than `\`
abbrev IsPlain : ℕ → Type 0
IsPlain c = IsVisible c × (c ≢ 92)

plain-text : (c : ℕ) → IsPlain c → scalar_text false c ≡ encode_utf8 c
unfolding scalar_text
plain-text c plain = grind (arith, nat_tests)

pub plain_shown : (cs : List ℕ) → All IsPlain cs → bytes_shown false (encode_utf8_all cs) ≡ encode_utf8_all cs
unfolding bytes_shown
plain_shown [] are = refl
plain_shown (c ∷ cs) are = grind (arith, All-head, scalar_shown, plain-text, All-tail, plain_shown cs (All-tail IsPlain c cs are))

-- ---- what visible text has

scalars-all : (cs : List ℕ) → All IsVisible cs → all_scalars cs ≡ true
scalars-all [] are = refl
scalars-all (c ∷ cs) are = rw ((All-head IsVisible c cs are).0, scalars-all cs (All-tail IsVisible c cs are)) refl

pub visible_utf8 : (text : List ℕ) → IsVisibleText text → IsUtf8 text
visible_utf8 text is = (is.scalars, (scalars-all is.scalars is.visible, is.encoded))

or_false : (a b : Bool) → (a || b) ≡ false → (a ≡ false) × (b ≡ false)
or_false true b is = cc
or_false false b is = (refl, is)

no_control : (c : ℕ) → is_hidden c ≡ false → IsPrinted c
unfolding is_hidden hidden_ranges
no_control c shown = grind (arith, or_false, nat_tests)

none-hidden : (cs : List ℕ) → All IsVisible cs → NonePass is_hidden cs
none-hidden [] are = tt
none-hidden (c ∷ cs) are = ((All-head IsVisible c cs are).1, none-hidden cs (All-tail IsVisible c cs are))

-- a byte below 128 is a scalar by itself
pub visible_printed : (text : List ℕ) → IsVisibleText text → All IsPrinted text
visible_printed text is =
    let none : NoCharPasses is_hidden text = (is.scalars, is.encoded, none-hidden is.scalars is.visible) in
    All-from_get_or IsPrinted text 0
    (λ i within. elim (cases_lt (get_or text i 0) 128) as (λ _. IsPrinted (get_or text i 0)) [
      | inl low ↦ no_control (get_or text i 0) (NoCharPasses-byte is_hidden text i none within low)
      | inr high ↦ (omega arith, λ same. omega arith)
    ])

-- WHAT FUNCTIONS ARE PROVED BY

pub ruleset texts_visible = (name_visible, plain_shown, shown_visible, visible_printed, visible_utf8)
