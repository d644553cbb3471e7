-- Forms, one label at a time.
use Rattle.std.proofs.Common.{◌≡◌, ℕ, zero, suc, ◌+◌, List, [], ◌∷◌, ◌++◌, length, drop, refl, sym, ap, ◌∙◌}
use Rattle.std.proofs.{Common.{subst, arith, length-append, slice_get, Some, ◌-◌}, Math.Seq.{drop-append_seam}}
use Rattle.dns_name.specs.Name.{IsForm, IsLabel, AreLabels, wire_of, pieces_of, labels_of}
use Rattle.std.proofs.Common.{rules}

-- the zero octet alone is a form
pub IsForm-root : IsForm (0 ∷ [])
IsForm-root = record { labels = []; sized = tt; wire = refl }

-- a label before a form gives a form
pub IsForm-more : (label rest : List ℕ) → IsLabel label → IsForm rest → IsForm (length label ∷ (label ++ rest))
IsForm-more label rest is form = record {
  labels = label ∷ form.labels;
  sized = (is, form.sized);
  wire = ap (λ bytes. length label ∷ (label ++ bytes)) form.wire;
}

pub same_back : (a b x y : List ℕ) → length a ≡ length b → a ++ x ≡ b ++ y → x ≡ y
same_back a b x y n e = grind (arith, drop-append_seam a x, drop-append_seam b y)

less_of : (label rest : List ℕ) → IsLabel label → (labels : List (List ℕ)) → AreLabels labels
    → length label ∷ (label ++ rest) ≡ wire_of labels → IsForm rest
less_of label rest is [] sized e = let n : length label ≡ 0 = cc in let some = is.some_bytes in absurd (omega arith)
less_of label rest is (first ∷ labels) sized e = grind (arith, same_back)

-- what follows a label of a form is a form
pub IsForm-less : (label rest : List ℕ) → IsLabel label → IsForm (length label ∷ (label ++ rest)) → IsForm rest
IsForm-less label rest is form = less_of label rest is form.labels form.sized form.wire

-- bytes that begin with a label are a form exactly where what follows it is one
pub IsForm-before : (label rest bytes : List ℕ) → IsLabel label × (bytes ≡ length label ∷ (label ++ rest)) → IsForm rest → IsForm bytes
IsForm-before label rest bytes head form = subst (λ xs. IsForm xs) (sym head.1) (IsForm-more label rest head.0 form)

pub IsForm-after : (label rest bytes : List ℕ) → IsLabel label × (bytes ≡ length label ∷ (label ++ rest)) → IsForm bytes → IsForm rest
IsForm-after label rest bytes head form = IsForm-less label rest head.0 (subst (λ xs. IsForm xs) head.1 form)

last_of : (bytes : List ℕ) → ((label rest : List ℕ) → IsLabel label → (bytes ≡ length label ∷ (label ++ rest)) → ⊥)
    → (labels : List (List ℕ)) → AreLabels labels → bytes ≡ wire_of labels → bytes ≡ 0 ∷ []
last_of bytes none [] sized e = e
last_of bytes none (label ∷ labels) sized e = absurd (none label (wire_of labels) sized.0 e)

-- a form without a label is the zero octet
pub IsForm-last : (bytes : List ℕ)
    → ((label rest : List ℕ) → IsLabel label → (bytes ≡ length label ∷ (label ++ rest)) → ⊥)
    → IsForm bytes → bytes ≡ 0 ∷ []
IsForm-last bytes none form = last_of bytes none form.labels form.sized form.wire

no_piece : (bytes : List ℕ) → (pieces_of 0 bytes).0 ≡ []
no_piece [] = refl
no_piece (zero ∷ bytes) = refl
no_piece (suc count ∷ bytes) = refl

pieces_of-label : (label rest : List ℕ) → pieces_of (length label) (label ++ rest) ≡ (label, labels_of rest)
pieces_of-label [] rest = ap (λ piece. (piece, labels_of rest)) (no_piece rest)
pieces_of-label (byte ∷ label) rest = ap (λ pieces. (byte ∷ pieces.0, pieces.1)) (pieces_of-label label rest)

-- the labels of a form that begins with a label
pub labels_of-more : (label rest : List ℕ) → IsLabel label → labels_of (length label ∷ (label ++ rest)) ≡ label ∷ labels_of rest
labels_of-more [] rest is = let some = is.some_bytes in absurd (omega arith)
labels_of-more (byte ∷ label) rest is = ap (λ pieces. pieces.0 ∷ pieces.1) (pieces_of-label (byte ∷ label) rest)

labels_back : (labels : List (List ℕ)) → AreLabels labels → labels_of (wire_of labels) ≡ labels
labels_back [] sized = refl
labels_back (label ∷ labels) sized = labels_of-more label (wire_of labels) sized.0 ∙ ap (λ rest. label ∷ rest) (labels_back labels sized.1)

-- the labels of a form, which spell it
pub labels_of_form : (bytes : List ℕ) → IsForm bytes → AreLabels (labels_of bytes) × (wire_of (labels_of bytes) ≡ bytes)
labels_of_form bytes form = grind (arith, labels_back)

-- the labels of a form are those that it was made of
pub labels_of_wire_of : (labels : List (List ℕ)) → AreLabels labels → labels_of (wire_of labels) ≡ labels
labels_of_wire_of = labels_back

pub labels_of-after : (label rest bytes : List ℕ) → IsLabel label × (bytes ≡ length label ∷ (label ++ rest))
    → labels_of bytes ≡ label ∷ labels_of rest
labels_of-after label rest bytes head = ap labels_of head.1 ∙ labels_of-more label rest head.0

-- a label and its octet take some bytes
pub length-after : (label rest bytes : List ℕ) → IsLabel label × (bytes ≡ length label ∷ (label ++ rest))
    → length bytes ≡ suc (length label + length rest)
length-after label rest bytes head = ap length head.1 ∙ ap suc (length-append label rest)

-- the first label, and a later one among the labels after the first
pub first_label : (label : List ℕ) (labels all : List (List ℕ)) (index : ℕ) → all ≡ label ∷ labels → index ≡ 0
    → slice_get all index ≡ Some label
first_label label labels all index at zeroth = ap (slice_get all) zeroth ∙ ap (λ some. slice_get some 0) at

pub later_label : (label : List ℕ) (labels all : List (List ℕ)) (index : ℕ) → all ≡ label ∷ labels → (index ≡ 0 → ⊥)
    → slice_get labels (index - 1) ≡ slice_get all index
later_label label labels all zero at later = absurd (later refl)
later_label label labels all (suc index) at later = grind (arith, slice_get)
