-- The rows of the records that are about the subjects.
use Rattle.std.proofs.Common.{◌≡◌, ◌∙◌, ℕ, true, false, List, [], ◌∷◌, ◌++◌, ◌⊎◌, Option, refl, sym, ap}
use Rattle.std.proofs.{Common.{subst, inl, inr, append_assoc}, lemmas.List.Concat.{flat_map-append}, lemmas.List.Elements.{filter-append}}
use Rattle.std.specs.{List.{flat_map}, Io.KnownBytes.{Appends}}
use Rattle.mdns_join.specs.declared.latest.Latest.{Latest}
use Rattle.mdns_lives.specs.declared.life.Life.{Life}
use Rattle.mdns_browse.specs.{declared.about.Subject.{Subject}, declared.life_text.Layout.{Layout}, About.{keeps_record}}
use Rattle.mdns_browse.specs.LifeText.{IsLayout}
use Rattle.mdns_survey.specs.LivesAnswer.{kept_rows}
use Rattle.mdns_survey.proofs.RowsLemmas.{FirstRows, RowsSoFar, rows-stop}

abbrev pub Row : Type 0
Row = Latest × List Life

module _ (about : List Subject) where
  -- rows, one after the other
  kept-append : (rows more : List Row) → kept_rows about (rows ++ more) ≡ kept_rows about rows ++ kept_rows about more
  kept-append rows more = filter-append (λ (row : Row). keeps_record about row.0.resource) rows more

  -- a row of a record about the subjects, and one of another record
  pub kept-one : (row : Row) → keeps_record about row.0.resource ≡ true → kept_rows about (row ∷ []) ≡ row ∷ []
  kept-one row keeps = rw keeps refl

  pub kept-none : (row : Row) → keeps_record about row.0.resource ≡ false → kept_rows about (row ∷ []) ≡ []
  kept-none row keeps = rw keeps refl

  -- THE TEXT OF ROWS

  module _ (f : Row → List ℕ) where
    -- the text of a row, or nothing
    abbrev pub kept_text : Row → List ℕ
    kept_text row = flat_map f (kept_rows about (row ∷ []))

    pub kept-texts : (rows : List Row) → flat_map kept_text rows ≡ flat_map f (kept_rows about rows)
    kept-texts [] = refl
    kept-texts (row ∷ rows) =
        ap (λ (t : List ℕ). kept_text row ++ t) (kept-texts rows)
        ∙ sym (ap (flat_map f) (kept-append (row ∷ []) rows) ∙ flat_map-append f (kept_rows about (row ∷ [])) (kept_rows about rows))

    -- nothing more is written
    pub kept-stop : (head : List ℕ) (rows left : List Row) (old now : Option (List ℕ)) (text : List ℕ)
        → RowsSoFar head kept_text rows left old now text → (now ≡ old) ⊎ FirstRows head f (kept_rows about rows) old now
    kept-stop head rows left old now text far = stop (rows-stop head kept_text rows left old now text far)
      where
        stop : (now ≡ old) ⊎ FirstRows head kept_text rows old now → (now ≡ old) ⊎ FirstRows head f (kept_rows about rows) old now
        stop (inl same) = inl same
        stop (inr first) = inr (
          kept_rows about first.0,
          (
            kept_rows about first.1.0,
            ap (kept_rows about) first.1.1 ∙ kept-append first.0 first.1.0,
            subst (λ (t : List ℕ). Appends old now (head ++ t)) (kept-texts first.0) first.1.2,
          ),
        )

-- THE LAYOUT OF ROWS

-- of rows some were taken, of which this is the layout, and the others are left
pub record LaidOut (about : List Subject) (end : ℕ) (rows left : List Row) (layout : Layout) : Type 0 where
  pub taken : List Row
  pub parts : rows ≡ taken ++ left
  pub fits : IsLayout end (kept_rows about taken) layout

module _ (about : List Subject) (end : ℕ) where
  pub laid-more : (rows left : List Row) (row : Row) (more : List Row) (layout new : Layout) → LaidOut about end rows left layout
      → left ≡ row ∷ more
      → ((taken : List Row) → IsLayout end (kept_rows about taken) layout → IsLayout end (kept_rows about (taken ++ row ∷ [])) new)
      → LaidOut about end rows more new
  laid-more rows left row more layout new laid first one = record {
    taken = laid.taken ++ row ∷ [];
    parts = laid.parts ∙ ap (λ (xs : List Row). laid.taken ++ xs) first ∙ sym (append_assoc laid.taken (row ∷ []) more);
    fits = one laid.taken laid.fits;
  }

-- WHAT FUNCTIONS ARE PROVED BY

pub ruleset for_write_rows = (kept-stop, kept-texts, kept_text)
