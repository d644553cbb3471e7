-- Objects obey the laws of sheets and of sinks of words.
use Rattle.std.specs.Prelude.{◌≡◌, refl, ℕ, Bool, false, List, [], ◌∷◌, ◌++◌, string_bytes}
use Rattle.std.proofs.Common.{sym, ap, ◌∙◌, append_assoc, append-nil}
use Rattle.mdns_browse.specs.{Sheet.{Piece, TakeLaws}, Json.{comma_unless, parted, first_after, json_string}}
use Rattle.mdns_browse.specs.JsonPieces.{piece_json, piece_next, pieces_json, pieces_next, strings_json, Grows}

grows-laws : {P : Type 0} (text_of : Bool → List P → List ℕ) (next : Bool → List P → Bool) → ((first : Bool) → text_of first [] ≡ [])
    → ((first : Bool) → next first [] ≡ first)
    → ((first : Bool) (a b : List P) → text_of first (a ++ b) ≡ text_of first a ++ text_of (next first a) b)
    → ((first : Bool) (a b : List P) → next first (a ++ b) ≡ next (next first a) b) → TakeLaws (Grows text_of next)
grows-laws text_of next none same both then = record {
  nothing = λ s. record {
    written = sym (ap (λ text. string_bytes s.text ++ text) (none s.first) ∙ append-nil (string_bytes s.text));
    flag = sym (same s.first);
  };
  more = λ s t u a b one two. record {
    written =
        two.written ∙ ap (λ text. text ++ text_of t.first b) one.written
        ∙ append_assoc (string_bytes s.text) (text_of s.first a) (text_of t.first b)
        ∙ ap (λ first. string_bytes s.text ++ (text_of s.first a ++ text_of first b)) one.flag
        ∙ ap (λ text. string_bytes s.text ++ text) (sym (both s.first a b));
    flag = two.flag ∙ ap (λ first. next first b) one.flag ∙ sym (then s.first a b);
  };
}

first_after-false : {X : Type 0} (xs : List X) → first_after false xs ≡ false
first_after-false [] = refl
first_after-false (x ∷ xs) = refl

pub first_after-append : {X : Type 0} (first : Bool) (xs ys : List X)
    → first_after first (xs ++ ys) ≡ first_after (first_after first xs) ys
first_after-append first [] ys = refl
first_after-append first (x ∷ xs) ys = sym (first_after-false ys)

pub strings-append : (first : Bool) (xs ys : List (List ℕ))
    → strings_json first (xs ++ ys) ≡ strings_json first xs ++ strings_json (first_after first xs) ys
unfolding parted
strings-append first [] ys = refl
strings-append first (x ∷ xs) ys =
    ap (λ text. comma_unless first ++ json_string x ++ text)
    (strings-append false xs ys ∙ ap (λ next. strings_json false xs ++ strings_json next ys) (first_after-false xs))
    ∙ sym (append_assoc (comma_unless first ++ json_string x) (strings_json false xs) (strings_json false ys))

strings-nil : (first : Bool) → strings_json first [] ≡ []
unfolding parted
strings-nil first = refl

pub strings-laws : TakeLaws (Grows strings_json first_after)
strings-laws = grows-laws strings_json first_after strings-nil (λ first. refl) strings-append first_after-append

pub pieces-append : (first : Bool) (a b : List Piece) → pieces_json first (a ++ b) ≡ pieces_json first a ++ pieces_json
    (pieces_next first a) b
pieces-append first [] b = refl
pieces-append first (piece ∷ a) b =
    ap (λ text. piece_json first piece ++ text) (pieces-append (piece_next first piece) a b)
    ∙ sym (append_assoc (piece_json first piece) (pieces_json (piece_next first piece) a)
    (pieces_json (pieces_next (piece_next first piece) a) b))

pub next-append : (first : Bool) (a b : List Piece) → pieces_next first (a ++ b) ≡ pieces_next (pieces_next first a) b
next-append first [] b = refl
next-append first (piece ∷ a) b = next-append (piece_next first piece) a b

pub pieces-laws : TakeLaws (Grows pieces_json pieces_next)
pieces-laws = grows-laws pieces_json pieces_next (λ first. refl) (λ first. refl) pieces-append next-append
