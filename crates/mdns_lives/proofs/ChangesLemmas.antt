-- Whether a life of a record is a change, by when the lives of its set began.
use Rattle.std.proofs.Common.{◌≡◌, ◌∙◌, ℕ, zero, suc, ◌+◌, ◌<◌, ◌≤◌, Bool, true, false, ◌&&◌, ◌||◌, ◌==◌, nat_le, nat_lt}
use Rattle.std.proofs.Common.{List, [], ◌∷◌, length, get_or, map, drop, refl, sym, ap, subst, arith, le-leb}
use Rattle.std.specs.{List.{list_all, list_any}, List.Sorted.{IsNonDecreasingBy, IsPartitionPoint}}
use Rattle.std.proofs.lemmas.{Bool.Decides.{nat_tests}, List.{drop_more}}
use Rattle.mdns_capture.specs.declared.moment.Moment.{Moment}
use Rattle.mdns_join.specs.{Kept.{IsAscending, IsAscendingAbove}, laws.Kept.{IsAscending-from_above}, Nanos.{nanos_of}}
use Rattle.mdns_join.specs.declared.latest.Latest.{Latest}
use Rattle.mdns_lives.specs.{declared.life.Life.{Life}, declared.lives.RecordLives.{RecordLives}, declared.window.Window.{Window}}
use Rattle.mdns_lives.specs.{Lives.{AreApart, AreApartAfter}, Changes.{AreOf, AreOfOne, after, comes_back, is_between}}
use Rattle.mdns_lives.specs.{LentLives.{row_lent}, Window.{in_window}}
use Rattle.mdns_message.specs.RecordSet.{RecordSet}

-- ---- those of ascending moments that are later

-- moments that ascend above one are later
later-all : (from low : ℕ) (ms : List ℕ) → from ≤ low → IsAscendingAbove low ms → ms ≡ after from ms
later-all from low [] l a = refl
later-all from low (m ∷ ms) l a = grind (arith, nat_tests, later-all from m ms (omega (arith, l, a.0)) a.1)

pub later-first : (m from : ℕ) (ms begun : List ℕ) → begun ≡ m ∷ ms → (m == from) ≡ true → IsAscending begun
    → ms ≡ after from begun
later-first m from ms begun is same a = grind (arith, nat_tests, later-all from m ms)

above-at : (low : ℕ) (ms : List Moment) (j : ℕ) (d : Moment) → IsAscendingAbove low (nanos_of ms) → j < length ms
    → low < (get_or ms j d).nanos
above-at low [] j d a l = absurd (omega arith)
above-at low (m ∷ ms) zero d a l = a.0
above-at low (m ∷ ms) (suc j) d a l = let later = above-at m.nanos ms j d a.1 (omega arith) in omega (arith, a.0, later)

pub rising : (ms : List Moment) → IsAscending (nanos_of ms) → IsNonDecreasingBy (λ (m : Moment). m.nanos) ms
rising [] a i j d h l = absurd (omega arith)
rising (m ∷ ms) a zero zero d h l = omega arith
rising (m ∷ ms) a zero (suc j) d h l = let later = above-at m.nanos ms j d a (omega arith) in omega (arith, later)
rising (m ∷ ms) a (suc i) zero d h l = absurd (omega arith)
rising (m ∷ ms) a (suc i) (suc j) d h l =
    rising ms (IsAscending-from_above m.nanos (nanos_of ms) a) i j d (omega arith) (omega arith)

pub later-rest : (from : ℕ) (ms : List Moment) (i : ℕ)
    → IsPartitionPoint (λ (m : Moment). nat_le m.nanos from ≡ true) (λ (m : Moment). nat_le m.nanos from ≡ false) ms i
    → nanos_of (drop i ms) ≡ after from (nanos_of ms)
later-rest from [] zero point = refl
later-rest from [] (suc i) point = refl
later-rest from (m ∷ ms) zero point =
    let rest = later-rest from ms zero ((λ k d l h. absurd (omega arith)), (λ k d l h. point.1 (suc k) d (omega arith) (omega arith))) in
    grind (arith, nat_tests, point.1 zero m (omega arith) (omega arith), rest)
later-rest from (m ∷ ms) (suc i) point =
    let rest = later-rest from ms i (
      (λ k d l h. point.0 (suc k) d (omega arith) (omega arith)),
      (λ k d l h. point.1 (suc k) d (omega (arith, l)) (omega (arith, h))),
    ) in
    grind (arith, nat_tests, point.0 zero m (omega arith) (omega arith), rest)

-- only the first of ascending moments decides whether one is earlier
none-less : (from low : ℕ) (begun : List ℕ) → from ≤ low → IsAscendingAbove low begun → list_any (λ m. nat_lt m from) begun ≡ false
none-less from low [] l a = refl
none-less from low (m ∷ begun) l a = grind (arith, nat_tests, none-less from m begun (omega (arith, l, a.0)) a.1)

pub first-less : (from m : ℕ) (rest begun : List ℕ) → begun ≡ m ∷ rest → IsAscending begun
    → nat_lt m from ≡ list_any (λ n. nat_lt n from) begun
first-less from m rest begun is a = grind (arith, nat_tests, none-less from m rest)

pub no-less : (from : ℕ) (begun : List Moment) → length begun ≡ 0 → false ≡ list_any (λ n. nat_lt n from) (nanos_of begun)
no-less from [] none = refl
no-less from (m ∷ begun) none = absurd (omega (arith, none))

-- ---- the first life, and those after it

-- lives that begin later don't count
all-later : (from m low : ℕ) (lives : List Life) → from ≤ low → AreApartAfter low lives
    → list_all (λ (own : Life). nat_le from own.from.nanos || nat_lt own.from.nanos m) lives ≡ true
all-later from m low [] l a = refl
all-later from m low (own ∷ lives) l a = grind (arith, le-leb, all-later from m own.until lives (omega (arith, l, a.0, a.1)) a.2)

module _ (life : Life) (lives : List Life) where
  -- the first life is a change where a life of the set began before it
  first-change : AreApart (life ∷ lives) → (begun : List ℕ)
      → list_any (is_between (life ∷ lives) life) begun ≡ list_any (λ m. nat_lt m life.from.nanos) begun
  first-change apart [] = refl
  first-change apart (m ∷ begun) =
      grind (arith, all-later life.from.nanos m life.until lives (omega (arith, apart.0)) apart.1, nat_tests, first-change apart begun)

  -- for a later life only those count that began after the first
  later-change : (later : Life) → life.from.nanos < later.from.nanos → (begun : List ℕ)
      → list_any (is_between (life ∷ lives) later) begun ≡ list_any (is_between lives later) (after life.from.nanos begun)
  later-change later l [] = refl
  later-change later l (m ∷ begun) = grind (arith, nat_tests, later-change later l begun)

  later-changes : (window : Window) (begun : List ℕ) (low : ℕ) (some : List Life) → life.from.nanos ≤ low → AreApartAfter low some
      → list_any (λ (later : Life). in_window window later.from && list_any (is_between (life ∷ lives) later) begun) some
      ≡ list_any (λ (later : Life). in_window window later.from && list_any (is_between lives later) (after life.from.nanos begun)) some
  later-changes window begun low [] l apart = refl
  later-changes window begun low (later ∷ some) l apart =
      grind (arith, later-change, later-changes window begun later.until some (omega (arith, l, apart.0, apart.1)) apart.2)

-- one of the lives is a change that began in the window: the first is, or one of those after it
pub changes-on : (window : Window) (begun : List ℕ) (last : Latest) (life : Life) (lives : List Life) → AreApart (life ∷ lives)
    → comes_back window begun (last, life ∷ lives)
    ≡ ((in_window window life.from && list_any (λ m. nat_lt m life.from.nanos) begun)
    || comes_back window (after life.from.nanos begun) (last, lives))
changes-on window begun last life lives apart =
    let here = first-change life lives apart begun in
    let rest = later-changes life lives window begun life.until lives (omega (arith, apart.0)) apart.1 in
    λ i. (in_window window life.from && here i) || rest i

apart-rest : (life : Life) (lives : List Life) → AreApart (life ∷ lives) → AreApart lives
apart-rest life [] apart = tt
apart-rest life (next ∷ lives) apart = (apart.1.1, apart.1.2)

-- the lives of a record that are left, of which the first decides, or those after it
module _ (window : Window) (begun : List ℕ) (last : Latest) (lives : List Life) (k : ℕ) (life : Life) (within : k < length lives)
    (is : life ≡ get_or lives k life) (apart : AreApart (drop k lives)) (changed : Bool)
    (change : changed ≡ (in_window window life.from && list_any (λ m. nat_lt m life.from.nanos) begun)) where
  abbrev rest : List Life
  rest = drop (k + 1) lives

  both : drop k lives ≡ life ∷ rest
  both = drop_more lives k life within ∙ ap (λ (first : Life). first ∷ rest) (sym is)

  decides : comes_back window begun (last, drop k lives) ≡ (changed || comes_back window (after life.from.nanos begun) (last, rest))
  decides = grind (arith, both, changes-on)

  pub left-change : changed ≡ true → true ≡ comes_back window begun (last, drop k lives)
  left-change some = sym (decides ∙ ap (λ b. b || comes_back window (after life.from.nanos begun) (last, rest)) some)

  pub later-apart : AreApart (drop (k + 1) lives)
  later-apart = apart-rest life rest (subst AreApart both apart)

  pub left-on : (later : List ℕ) → changed ≡ false → later ≡ after life.from.nanos begun
      → comes_back window later (last, drop (k + 1) lives) ≡ comes_back window begun (last, drop k lives)
  left-on later none is_after = grind (arith, decides)

-- ---- the records of a set

-- the lives of each are apart
pub row_apart : (set : List RecordLives) (k : ℕ) (row : RecordLives) → AreOfOne (map row_lent set) → k < length set
    → row ≡ get_or set k row → AreApart row.lives.items
row_apart [] k row one within is = absurd one
row_apart (x ∷ set) k row one within is = go _ (x ∷ set) k one.1 within is
  where
    go : (set : RecordSet) (rows : List RecordLives) (k : ℕ) → AreOf set (map row_lent rows) → k < length rows → row ≡ get_or rows k row
        → AreApart row.lives.items
    go set [] k of within is = absurd (omega arith)
    go set (y ∷ rows) zero of within is = subst (λ (r : RecordLives). AreApart r.lives.items) (sym is) of.1
    go set (y ∷ rows) (suc k) of within is = go set rows k of.2 (omega (arith, within)) is
