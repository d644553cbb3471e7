-- Rows of instances obey the laws of sheets.
use Rattle.std.specs.Prelude.{◌≡◌, refl, ℕ, Bool, List, [], ◌∷◌, ◌++◌, string_bytes}
use Rattle.std.proofs.Common.{sym, ap, ◌∙◌, append_assoc, append-nil}
use Rattle.mdns_browse.specs.Sheet.{Piece, TakeLaws}
use Rattle.mdns_page.specs.{declared.axis.Axis.{Axis}, Html.{isolated}, LiveSheet.{Grows, piece_html, piece_next, pieces_html, pieces_next}}

pub pieces-append : (say : List ℕ → List ℕ) (axis : Axis) (first : Bool) (a b : List Piece)
    → pieces_html say axis first (a ++ b) ≡ pieces_html say axis first a ++ pieces_html say axis (pieces_next first a) b
pieces-append say axis first [] b = refl
pieces-append say axis first (piece ∷ a) b =
    ap (λ text. piece_html say axis first piece ++ text) (pieces-append say axis (piece_next first piece) a b)
    ∙ sym (append_assoc (piece_html say axis first piece) (pieces_html say axis (piece_next first piece) a)
    (pieces_html say axis (pieces_next (piece_next first piece) a) b))

pub next-append : (first : Bool) (a b : List Piece) → pieces_next first (a ++ b) ≡ pieces_next (pieces_next first a) b
next-append first [] b = refl
next-append first (piece ∷ a) b = next-append (piece_next first piece) a b

pub grows-laws : TakeLaws Grows
grows-laws = record {
  nothing = λ s. record { axis = refl; written = sym (append-nil (string_bytes s.text)); flag = refl };
  more = λ s t u a b one two. record {
    axis = two.axis ∙ one.axis;
    written =
        two.written ∙ ap (λ text. text ++ pieces_html isolated t.axis t.first b) one.written
        ∙ append_assoc (string_bytes s.text) (pieces_html isolated s.axis s.first a) (pieces_html isolated t.axis t.first b)
        ∙ ap (λ axis. string_bytes s.text ++ (pieces_html isolated s.axis s.first a ++ pieces_html isolated axis t.first b)) one.axis
        ∙ ap (λ first. string_bytes s.text ++ (pieces_html isolated s.axis s.first a ++ pieces_html isolated s.axis first b)) one.flag
        ∙ ap (λ text. string_bytes s.text ++ text) (sym (pieces-append isolated s.axis s.first a b));
    flag = two.flag ∙ ap (λ first. pieces_next first b) one.flag ∙ sym (next-append s.first a b);
  };
}
