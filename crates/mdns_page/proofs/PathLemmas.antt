-- Strokes as one path.
use Rattle.std.proofs.Common.{◌≡◌, ◌∙◌, refl, ap, sym, Bool, true, false, if◌then◌else◌, Option, None, Some, List, [], ◌∷◌, arith}
use Rattle.std.proofs.{Common.{◌++◌, ℕ, ◌+◌, ◌<◌, ◌≤◌, append_assoc, codes, drop, get_or, length}, lemmas.List.{drop_all, drop_more}}
use Rattle.std.specs.List.{cons_option, filter_map, flat_map}
use Rattle.mdns_page.specs.Picture.{differing, is_same, mark_text, path_begin, path_last, path_rest}
use Rattle.mdns_page.specs.declared.picture.StrokeSpan.{StrokeSpan}
use Rattle.mdns_page.specs.declared.picture.Stroke.{Stroke}

in_pairs : (a b c d : List ℕ) → a ++ (b ++ c) ++ d ≡ (a ++ b) ++ (c ++ d)
in_pairs a b c d = simp append_assoc

-- the first stroke
path-first : (stroke : Stroke) (mark : StrokeSpan) (marks : List StrokeSpan)
    → path_rest stroke None (mark ∷ marks) ≡ path_begin stroke ++ mark_text stroke mark ++ path_rest stroke (Some mark) marks
unfolding path_rest
path-first stroke mark marks = grind (arith, in_pairs)

-- the rest of a path with one mark more, which may be the same as the one before
rest_by : (stroke : Stroke) (before mark : StrokeSpan) (marks : List StrokeSpan) (same : Bool) → is_same before mark ≡ same
    → path_rest stroke (Some before) (mark ∷ marks)
    ≡ flat_map (mark_text stroke) (if same then differing (Some before) marks else mark ∷ differing (Some mark) marks) ++ codes "\"/>"
unfolding path_rest
rest_by stroke before mark marks same is =
    ap (λ (b : Bool). flat_map (mark_text stroke) (if b then differing (Some before) marks else mark ∷ differing (Some mark) marks)
    ++ codes "\"/>") is

path-same : (stroke : Stroke) (before mark : StrokeSpan) (marks : List StrokeSpan) → is_same before mark ≡ true
    → path_rest stroke (Some before) (mark ∷ marks) ≡ path_rest stroke (Some before) marks
unfolding path_rest
path-same stroke before mark marks same = rest_by stroke before mark marks true same

path-other : (stroke : Stroke) (before mark : StrokeSpan) (marks : List StrokeSpan) → is_same before mark ≡ false
    → path_rest stroke (Some before) (mark ∷ marks) ≡ mark_text stroke mark ++ path_rest stroke (Some mark) marks
unfolding path_rest
path-other stroke before mark marks other =
    rest_by stroke before mark marks false other
    ∙ append_assoc (mark_text stroke mark) (flat_map (mark_text stroke) (differing (Some mark) marks)) (codes "\"/>")

-- ---- what was written

pub none_if : (found is : Option StrokeSpan) → found ≡ is → ((mark : StrokeSpan) → found ≡ Some mark → ⊥) → is ≡ None
none_if None is same not = sym same
none_if (Some mark) is same not = absurd (not mark refl)

after_old : (old a b c : List ℕ) → ((old ++ a) ++ b) ++ c ≡ old ++ (a ++ b ++ c)
after_old old a b c = simp append_assoc

module _ (stroke : Stroke) (before next : Option StrokeSpan) (marks : List StrokeSpan) where
  -- with what the next one is
  abbrev Rest : Option StrokeSpan → Option StrokeSpan → List ℕ
  Rest b n = path_rest stroke b (cons_option n marks)

  pub path-passed : (old : List ℕ) → next ≡ None → old ++ path_rest stroke before marks ≡ old ++ Rest before next
  path-passed old none = ap (λ n. old ++ Rest before n) (sym none)

  pub path-begins : (mark : StrokeSpan) (old mid new : List ℕ) → before ≡ None → next ≡ Some mark → mid ≡ old ++ path_begin stroke
      → new ≡ mid ++ mark_text stroke mark → new ++ path_rest stroke (Some mark) marks ≡ old ++ Rest before next
  path-begins mark old mid new none is begun written = grind (arith, after_old, path-first)

  pub path-keeps : (last mark : StrokeSpan) (old : List ℕ) → before ≡ Some last → next ≡ Some mark → is_same last mark ≡ true
      → old ++ path_rest stroke (Some last) marks ≡ old ++ Rest before next
  path-keeps last mark old some is same = grind (arith, path-same)

  pub path-goes_on : (last mark : StrokeSpan) (old new : List ℕ) → before ≡ Some last → next ≡ Some mark → is_same last mark ≡ false
      → new ≡ old ++ mark_text stroke mark → new ++ path_rest stroke (Some mark) marks ≡ old ++ Rest before next
  path-goes_on last mark old new some is other written = grind (arith, append_assoc, path-other)

-- ---- a loop over what has marks

rest-last : (stroke : Stroke) (last : Option StrokeSpan) → path_rest stroke last [] ≡ path_last last
unfolding path_rest
rest-last stroke None = refl
rest-last stroke (Some mark) = refl

module _ {X : Type 0} (mark_of : X → Option StrokeSpan) (stroke : Stroke) (xs : List X) (i : ℕ) where
  -- one more
  pub path-more : (x : X) (before last next : Option StrokeSpan) (old now new : List ℕ) → i < length xs → x ≡ get_or xs i x
      → next ≡ mark_of x
      → ((marks : List StrokeSpan) → new ++ path_rest stroke last marks ≡ now ++ path_rest stroke before (cons_option next marks))
      → now ++ path_rest stroke before (filter_map mark_of (drop i xs)) ≡ old ++ path_rest stroke None (filter_map mark_of xs)
      → new ++ path_rest stroke last (filter_map mark_of (drop (i + 1) xs)) ≡ old ++ path_rest stroke None (filter_map mark_of xs)
  path-more x before last next old now new within at is pushed so_far = grind (arith, drop_more)

  -- all of them
  pub path-all : (before : Option StrokeSpan) (old now new : List ℕ) → length xs ≤ i
      → now ++ path_rest stroke before (filter_map mark_of (drop i xs)) ≡ old ++ path_rest stroke None (filter_map mark_of xs)
      → new ≡ now ++ path_last before → new ≡ old ++ path_rest stroke None (filter_map mark_of xs)
  path-all before old now new past so_far written = grind (arith, rest-last, drop_all)

-- WHAT FUNCTIONS ARE PROVED BY

pub ruleset for_push_path = (path-all, path-more)

pub ruleset for_push_next = (none_if, path-begins, path-goes_on, path-keeps, path-passed)
