-- Rows whose lines are written piece by piece, after a text that stands before them.
use Rattle.std.proofs.{lemmas.Grind.{common_steps}, KnownBytes.{Appends-trans}, lemmas.List.Concat.{flat_map-append}}
use Rattle.std.proofs.Common.{arith, ◌≡◌, ◌∙◌, ℕ, List, [], ◌∷◌, ◌++◌, Option, ◌⊎◌, refl, sym, ap, subst, inl, inr}
use Rattle.std.proofs.Common.{append_assoc, append-nil}
use Rattle.std.specs.{List.{flat_map}, Io.KnownBytes.{Appends}}
use Rattle.mdns_capture.specs.Output.{AppendsPrefix}
use Rattle.mdns_survey.specs.Chronicling.{IsTextOut}
use Rattle.mdns_survey.proofs.SaidLemmas.{prefix-after, prefix-of-more}

module _ {X : Type 0} (head : List ℕ) (f : X → List ℕ) where
  -- nothing was written: the text that stands before the rows waits, and the lines of those that were taken
  abbrev pub Waits : List X → Option (List ℕ) → Option (List ℕ) → List ℕ → Type 0
  Waits taken old now text = (now ≡ old) × (text ≡ head ++ flat_map f taken)

  -- it was written, and the lines of some of those rows; those of the others wait
  pub record WaitsInPart (taken : List X) (old now : Option (List ℕ)) (text : List ℕ) : Type 0 where
    pub front : List X
    pub waiting : List X
    pub parts : taken ≡ front ++ waiting
    pub written : Appends old now (head ++ flat_map f front)
    pub waits : text ≡ flat_map f waiting

  -- Of rows some were taken, and the others are left.
  pub record RowsSoFar (rows left : List X) (old now : Option (List ℕ)) (text : List ℕ) : Type 0 where
    pub taken : List X
    pub parts : rows ≡ taken ++ left
    pub out : Waits taken old now text ⊎ WaitsInPart taken old now text

  -- what stands before them was written, and all lines of some first rows
  abbrev pub FirstRows : List X → Option (List ℕ) → Option (List ℕ) → Type 0
  FirstRows rows old now =
      (first : List X) × ((later : List X) × (rows ≡ first ++ later) × Appends old now (head ++ flat_map f first))

  pub rows-none : (rows : List X) (old : Option (List ℕ)) (text : List ℕ) → text ≡ head → RowsSoFar rows rows old old text
  rows-none rows old text is = record { taken = []; parts = refl; out = inl (refl, is ∙ sym (append-nil head)) }

  lines_more : (rows : List X) (row : X) → flat_map f (rows ++ row ∷ []) ≡ flat_map f rows ++ f row
  lines_more rows row = flat_map-append f rows (row ∷ []) ∙ ap (λ (t : List ℕ). flat_map f rows ++ t) (append-nil (f row))

  out-more : (taken : List X) (row : X) (old now : Option (List ℕ)) (text new : List ℕ) → new ≡ text ++ f row
      → Waits taken old now text ⊎ WaitsInPart taken old now text
      → Waits (taken ++ row ∷ []) old now new ⊎ WaitsInPart (taken ++ row ∷ []) old now new
  out-more taken row old now text new added (inl waits) = grind (arith, append_assoc, lines_more)
  out-more taken row old now text new added (inr out) = grind (arith, append_assoc, lines_more)

  -- the lines of one row more wait
  pub rows-more : (rows left : List X) (row : X) (more : List X) (old now : Option (List ℕ)) (text new : List ℕ)
      → RowsSoFar rows left old now text → left ≡ row ∷ more → new ≡ text ++ f row → RowsSoFar rows more old now new
  rows-more rows left row more old now text new far first added =
      grind (arith, append_assoc far.taken (row ∷ []) more, out-more far.taken row old now text new added far.out)

  -- the lines of some rows and of those after them
  lines_parts : (taken front waiting : List X) → taken ≡ front ++ waiting
      → (head ++ flat_map f front) ++ flat_map f waiting ≡ head ++ flat_map f taken
  lines_parts taken front waiting parts = grind (arith, append_assoc, flat_map-append)

  -- what waits was written after what was before
  all-out : (taken : List X) (old now next : Option (List ℕ)) (text : List ℕ)
      → Waits taken old now text ⊎ WaitsInPart taken old now text → Appends now next text
      → Appends old next (head ++ flat_map f taken)
  all-out taken old now next text (inl waits) gone =
      subst (Appends old next) waits.1 (subst (λ (o : Option (List ℕ)). Appends o next text) waits.0 gone)
  all-out taken old now next text (inr out) gone = grind (arith, common_steps, lines_parts, Appends-trans)

  -- what waited was written, or goes on waiting
  out-out : (taken : List X) (old now next : Option (List ℕ)) (text new : List ℕ)
      → Waits taken old now text ⊎ WaitsInPart taken old now text → IsTextOut now next text new
      → Waits taken old next new ⊎ WaitsInPart taken old next new
  out-out taken old now next text new (inl waits) (inl same) = inl (same.0 ∙ waits.0, same.1 ∙ waits.1)
  out-out taken old now next text new (inr out) (inl same) = grind arith
  out-out taken old now next text new out (inr gone) = grind (arith, append-nil taken, all-out taken old now next text out gone.0)

  pub rows-out : (rows left : List X) (old now next : Option (List ℕ)) (text new : List ℕ)
      → RowsSoFar rows left old now text → IsTextOut now next text new → RowsSoFar rows left old next new
  rows-out rows left old now next text new far is =
      record { taken = far.taken; parts = far.parts; out = out-out far.taken old now next text new far.out is }

  -- nothing more is written
  pub rows-stop : (rows left : List X) (old now : Option (List ℕ)) (text : List ℕ)
      → RowsSoFar rows left old now text → (now ≡ old) ⊎ FirstRows rows old now
  rows-stop rows left old now text far = grind (arith, append_assoc)

  -- of what waits a prefix was written
  out-cut : (taken : List X) (rest : List ℕ) (old now next : Option (List ℕ)) (text : List ℕ)
      → Waits taken old now text ⊎ WaitsInPart taken old now text → AppendsPrefix now next text
      → AppendsPrefix old next ((head ++ flat_map f taken) ++ rest)
  out-cut taken rest old now next text (inl waits) prefix = grind (arith, prefix-of-more)
  out-cut taken rest old now next text (inr out) prefix =
      prefix-of-more old next (head ++ flat_map f taken) rest
      (subst (AppendsPrefix old next) (lines_parts taken out.front out.waiting out.parts)
      (prefix-after old now next (head ++ flat_map f out.front) (flat_map f out.waiting) out.written
      (subst (AppendsPrefix now next) out.waits prefix)))

  pub rows-cut : (rows left : List X) (old now next : Option (List ℕ)) (text : List ℕ)
      → RowsSoFar rows left old now text → AppendsPrefix now next text → AppendsPrefix old next (head ++ flat_map f rows)
  rows-cut rows left old now next text far prefix =
      grind (arith, lines_parts rows far.taken left far.parts, out-cut far.taken (flat_map f left) old now next text far.out prefix)

  -- no row is left, and all that waits was written
  pub rows-all : (rows left : List X) (old now next : Option (List ℕ)) (text : List ℕ)
      → RowsSoFar rows left old now text → left ≡ [] → Appends now next text → Appends old next (head ++ flat_map f rows)
  rows-all rows left old now next text far none gone = grind (arith, append-nil far.taken, all-out far.taken old now next text far.out gone)

-- WHAT FUNCTIONS ARE PROVED BY

pub ruleset for_write_rows = (rows-all, rows-cut, rows-more, rows-none, rows-out)
