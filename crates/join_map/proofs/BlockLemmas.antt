-- Entries in blocks: what a change of one block changes of the entries.
use Rattle.std.proofs.lemmas.{Grind.{common_steps}, List.{take-append-drop, take_all, drop_all, append-nil, take_at, take-take, drop_at}}
use Rattle.std.proofs.lemmas.List.{drop-drop, drop-append-le, drop-set-lt, drop_more, take_more_set, set_split, get_or_at, get_or_read}
use Rattle.std.proofs.{lemmas.List.{length-take-le, length_push}, lemmas.Bool.Decides.{nat_tests}, Math.Seq.{take-add}, Common.{Bool, true}}
use Rattle.std.proofs.Common.{◌==◌, ◌≡◌, ℕ, zero, suc, ◌+◌, ◌-◌, ◌<◌, ◌≤◌, List, [], ◌∷◌, length-append}
use Rattle.std.proofs.Common.{length-drop, ◌++◌, length, get_or, take, drop, set, refl, sym, ap, ◌∙◌, subst, arith, append_assoc}
use Rattle.std.specs.List.{insert}
use Rattle.join_map.specs.{Blocks.{entries_of, AllFilled, block_at, before, after, IsGap, IsMoved}, declared.blocks.Spot.{Spot}}

-- a vector with room isn't full
pub no_room : {P : Type 0} (count room : ℕ) → count + 1 ≤ room → room ≤ count → P
no_room count room some none = absurd (omega (arith, some, none))

-- an empty vector has no items
pub none_from : (len count : ℕ) (empty : Bool) → len ≡ count → empty ≡ (len == 0) → empty ≡ true → count ≡ 0
none_from len count empty same is tested = grind (arith, nat_tests)

module _ {E : Type 0} where
  pub entries_of-append : (xs ys : List (List E)) → entries_of (xs ++ ys) ≡ entries_of xs ++ entries_of ys
  entries_of-append [] ys = refl
  entries_of-append (x ∷ xs) ys = ap (λ zs. x ++ zs) (entries_of-append xs ys) ∙ sym (append_assoc x (entries_of xs) (entries_of ys))

  pub entries_of-cut : (n : ℕ) (bs : List (List E)) → entries_of bs ≡ entries_of (take n bs) ++ entries_of (drop n bs)
  entries_of-cut n bs = ap entries_of (sym (take-append-drop n bs)) ∙ entries_of-append (take n bs) (drop n bs)

  pub entries_of-from : (n : ℕ) (bs : List (List E)) → n < length bs
      → entries_of (drop n bs) ≡ block_at bs n ++ entries_of (drop (n + 1) bs)
  entries_of-from n bs l = ap entries_of (drop_more bs n [] l)

  -- a list with its middle cut in two
  regroup : (xs ys zs ws : List E) → xs ++ ((ys ++ zs) ++ ws) ≡ (xs ++ ys) ++ (zs ++ ws)
  regroup xs ys zs ws = ap (λ es. xs ++ es) (append_assoc ys zs ws) ∙ sym (append_assoc xs ys (zs ++ ws))

  -- the entries are those before a spot and those after it
  pub entries_of-split : (bs : List (List E)) (s : Spot) → s.block < length bs → entries_of bs ≡ before bs s ++ after bs s
  entries_of-split bs s l =
      grind (arith, entries_of-cut s.block bs, entries_of-from s.block bs l, take-append-drop s.offset (block_at bs s.block), regroup)

  entries_of-set : (bs : List (List E)) (n : ℕ) (y : List E) → n < length bs
      → entries_of (set bs n y) ≡ entries_of (take n bs) ++ (y ++ entries_of (drop (n + 1) bs))
  entries_of-set bs n y l = grind (arith, set_split, entries_of-append)

  -- after an entry was inserted into a block
  pub entries_of-inserted : (bs : List (List E)) (s : Spot) (e : E) (y : List E) → s.block < length bs
      → y ≡ insert (block_at bs s.block) s.offset e
      → entries_of (set bs s.block y) ≡ before bs s ++ e ∷ after bs s
  entries_of-inserted bs s e y l is = grind (arith, entries_of-set, regroup)

  -- a block written as it was
  pub entries_of-same : (bs : List (List E)) (s : Spot) (y : List E) → s.block < length bs → y ≡ block_at bs s.block
      → entries_of (set bs s.block y) ≡ entries_of bs
  entries_of-same bs s y l is = grind (arith, entries_of-set bs s.block y l, entries_of-from s.block bs l, entries_of-cut s.block bs)

  -- a block written as it was read
  pub entries_of-read : (bs rs : List (List E)) (s : Spot) (was y : List E) → s.block < length bs → rs ≡ bs
      → was ≡ get_or rs s.block was → y ≡ was → entries_of (set rs s.block y) ≡ entries_of bs
  entries_of-read bs rs s was y l same is kept = grind (arith, entries_of-same, get_or_read)

  before_none : (s : Spot) → before {E = E} [] s ≡ []
  before_none s = ap (λ zs. entries_of zs ++ take s.offset (block_at {E = E} [] s.block))
      (take_all s.block [] (omega arith)) ∙ take_all s.offset [] (omega arith)

  after_none : (s : Spot) → after {E = E} [] s ≡ []
  after_none s = ap (λ zs. drop s.offset (block_at {E = E} [] s.block) ++ entries_of zs) (drop_all (s.block + 1)
      [] (omega arith)) ∙ ap (λ es. es ++ []) (drop_all s.offset [] (omega arith))

  -- where there are no blocks, an entry at any spot is the only one
  pub first_at : (bs : List (List E)) (s : Spot) (e : E) → length bs ≡ 0 → e ∷ [] ≡ before bs s ++ e ∷ after bs s
  first_at [] s e none = sym (ap (λ es. es ++ e ∷ after [] s) (before_none s) ∙ ap (λ es. e ∷ es) (after_none s))
  first_at (b ∷ bs) s e none = absurd (omega (arith, none))

  pub entries_of_first : (bs rs : List (List E)) (e : E) (block : List E) → length bs ≡ 0 → rs ≡ bs → block ≡ e ∷ []
      → entries_of (rs ++ block ∷ []) ≡ e ∷ []
  entries_of_first [] rs e block none same one = ap (λ zs. entries_of (zs ++ block ∷ [])) same ∙ ap (λ b. b ++ []) one
  entries_of_first (b ∷ bs) rs e block none same one = absurd (omega (arith, none))

  -- ---- no block is empty

  pub filled_at : (bs : List (List E)) (n : ℕ) → AllFilled bs → n < length bs → 0 < length (block_at bs n)
  filled_at [] n f l = absurd (omega (arith, l))
  filled_at (b ∷ bs) zero f l = f.0
  filled_at (b ∷ bs) (suc n) f l = filled_at bs n f.1 (omega (arith, l))

  pub filled_first : (bs rs : List (List E)) (e : E) (block : List E) → length bs ≡ 0 → rs ≡ bs → block ≡ e ∷ []
      → AllFilled (rs ++ block ∷ [])
  filled_first [] rs e block none same one = subst (λ zs. AllFilled (zs ++ block ∷ [])) (sym same) (omega (arith, ap length one), tt)
  filled_first (b ∷ bs) rs e block none same one = absurd (omega (arith, none))

  pub filled-set : (bs : List (List E)) (n : ℕ) (y : List E) → AllFilled bs → 0 < length y → AllFilled (set bs n y)
  filled-set [] n y f l = tt
  filled-set (b ∷ bs) zero y f l = (l, f.1)
  filled-set (b ∷ bs) (suc n) y f l = (f.0, filled-set bs n y f.1 l)

  pub filled-read : (bs rs : List (List E)) (n : ℕ) (was y : List E) → n < length bs → rs ≡ bs → was ≡ get_or rs n was
      → y ≡ was → AllFilled bs → AllFilled (set rs n y)
  filled-read bs rs n was y l same is kept f = grind (arith, common_steps, filled-set, get_or_read, filled_at)

  pub filled-append : (xs ys : List (List E)) → AllFilled xs → AllFilled ys → AllFilled (xs ++ ys)
  filled-append [] ys f g = g
  filled-append (x ∷ xs) ys f g = (f.0, filled-append xs ys f.1 g)

  filled-take : (n : ℕ) (bs : List (List E)) → AllFilled bs → AllFilled (take n bs)
  filled-take zero bs f = tt
  filled-take (suc n) [] f = tt
  filled-take (suc n) (b ∷ bs) f = (f.0, filled-take n bs f.1)

  filled-drop : (n : ℕ) (bs : List (List E)) → AllFilled bs → AllFilled (drop n bs)
  filled-drop zero bs f = f
  filled-drop (suc n) [] f = tt
  filled-drop (suc n) (b ∷ bs) f = filled-drop n bs f.1

  -- ---- a block split in two

  split_parts : (bs cs : List (List E)) (n : ℕ) (xs ys : List E) → n < length bs
      → cs ≡ insert (set bs n xs) (n + 1) ys → cs ≡ (take n bs ++ xs ∷ []) ++ ys ∷ drop (n + 1) bs
  split_parts bs cs n xs ys l is = grind (arith, take_more_set, drop-set-lt)

  pub filled-split : (bs cs : List (List E)) (n : ℕ) (xs ys : List E) → n < length bs
      → cs ≡ insert (set bs n xs) (n + 1) ys → AllFilled bs → 0 < length xs → 0 < length ys → AllFilled cs
  filled-split bs cs n xs ys l is f some more = grind (arith, common_steps, split_parts, filled-append, filled-take, filled-drop)

  -- a spot in the half that stays
  pub moved_first : (bs cs : List (List E)) (s : Spot) (half : ℕ) (xs ys : List E) → s.block < length bs
      → half ≤ length (block_at bs s.block) → s.offset ≤ half
      → xs ≡ take half (block_at bs s.block) → ys ≡ drop half (block_at bs s.block)
      → cs ≡ insert (set bs s.block xs) (s.block + 1) ys → IsMoved bs s cs s
  moved_first bs cs s half xs ys l h o first second is =
      let n = s.block in
      let block = block_at bs n in
      let rest = drop (n + 1) bs in
      let parts = split_parts bs cs n xs ys l is in
      let long : length (take n bs) ≡ n = length-take-le n bs (omega (arith, l)) in
      let longer : length (take n bs ++ xs ∷ []) ≡ n + 1 = length_push (take n bs) xs ∙ ap (λ m. m + 1) long in
      let grouped : cs ≡ take n bs ++ xs ∷ ys ∷ rest = parts ∙ append_assoc (take n bs) (xs ∷ []) (ys ∷ rest) in
      let front : take n cs ≡ take n bs = ap (take n) grouped ∙ take_at (take n bs) (xs ∷ ys ∷ rest) n long in
      let at : block_at cs n ≡ xs = ap (λ zs. block_at zs n) grouped ∙ get_or_at (take n bs) xs (ys ∷ rest) [] n long in
      let back : drop (n + 1) cs ≡ ys ∷ rest = ap (drop (n + 1)) parts ∙ drop_at (take n bs ++ xs ∷ []) (ys ∷ rest) (n + 1) longer in
      let size : length (take half block) ≡ half = length-take-le half block h in
      record {
        block = omega (arith, ap length grouped, length-append (take n bs) (xs ∷ ys ∷ rest), long);
        offset = omega (arith, ap length (at ∙ first), size, o);
        before = grind (arith, front, at, first, take-take s.offset half block);
        after = grind (
          arith,
          at,
          back,
          first,
          second,
          append_assoc (drop s.offset (take half block)) ys (entries_of rest),
          drop-append-le s.offset (take half block) (drop half block),
          take-append-drop half block,
          size,
        );
      }

  -- a spot in the half that moves
  pub moved_second : (bs cs : List (List E)) (s t : Spot) (half : ℕ) (xs ys : List E) → s.block < length bs
      → half ≤ s.offset → s.offset ≤ length (block_at bs s.block)
      → t.block ≡ s.block + 1 → t.offset ≡ s.offset - half
      → xs ≡ take half (block_at bs s.block) → ys ≡ drop half (block_at bs s.block)
      → cs ≡ insert (set bs s.block xs) (s.block + 1) ys → IsMoved bs s cs t
  moved_second bs cs s t half xs ys l o in_block next moved first second is =
      let n = s.block in
      let block = block_at bs n in
      let rest = drop (n + 1) bs in
      let parts = split_parts bs cs n xs ys l is in
      let long : length (take n bs) ≡ n = length-take-le n bs (omega (arith, l)) in
      let front : List (List E) = take n bs ++ xs ∷ [] in
      let longer : length front ≡ t.block = length_push (take n bs) xs ∙ ap (λ m. m + 1) long ∙ sym next in
      let whole : cs ≡ (front ++ ys ∷ []) ++ rest = parts ∙ sym (append_assoc front (ys ∷ []) rest) in
      let longest : length (front ++ ys ∷ []) ≡ t.block + 1 = length_push front ys ∙ ap (λ m. m + 1) longer in
      let head : take t.block cs ≡ front = ap (take t.block) parts ∙ take_at front (ys ∷ rest) t.block longer in
      let at : block_at cs t.block ≡ ys = ap (λ zs. block_at zs t.block) parts ∙ get_or_at front ys rest [] t.block longer in
      let back : drop (t.block + 1) cs ≡ rest = ap (drop (t.block + 1)) whole ∙ drop_at (front ++ ys ∷ []) rest (t.block + 1) longest in
      let whole : half + t.offset ≡ s.offset = omega (arith, moved, o) in
      let heads : entries_of front ≡ entries_of (take n bs) ++ take half block =
      entries_of-append (take n bs) (xs ∷ []) ∙ ap (λ es. entries_of (take n bs) ++ es) (append-nil xs ∙ first) in
      record {
        block = omega (arith, ap length parts, length-append front (ys ∷ rest), longer);
        offset = omega (arith, ap length (at ∙ second), length-drop half block, moved, in_block);
        before = grind (
          arith,
          head,
          at,
          heads,
          second,
          append_assoc (entries_of (take n bs)) (take half block),
          take-add half t.offset block,
        );
        after = grind (arith, at, back, second, drop-drop t.offset half block);
      }

  -- what a full block was cut into
  pub record AreParts (bs cs : List (List E)) (n at : ℕ) (xs ys : List E) : Type 0 where
    pub some : 0 < at
    pub long : at < length (block_at bs n)
    pub first : xs ≡ take at (block_at bs n)
    pub second : ys ≡ drop at (block_at bs n)
    pub is : cs ≡ insert (set bs n xs) (n + 1) ys

  pub AreParts-from : (bs rs cs : List (List E)) (n at : ℕ) (read shown was inside xs ys : List E) → n < length bs
      → read ≡ get_or bs n read → shown ≡ read → 256 ≤ length shown
      → 0 < at → at < 256 → rs ≡ bs → was ≡ get_or rs n was → inside ≡ was → xs ≡ take at inside → ys ≡ drop at inside
      → cs ≡ insert (set rs n xs) (n + 1) ys → AreParts bs cs n at xs ys
  AreParts-from bs rs cs n at read shown was inside xs ys l is_read is_shown full some less same is_was is_inside first second is =
      grind (arith, get_or_read)

  pub filled-parts : (bs cs : List (List E)) (n at : ℕ) (xs ys : List E) → n < length bs → AllFilled bs
      → AreParts bs cs n at xs ys → AllFilled cs
  filled-parts bs cs n at xs ys l f h = grind (arith, filled-split, length-take-le, length-drop)

  -- where a spot was moved to, an entry comes in the same place
  pub entries_of-moved : (bs cs : List (List E)) (s t : Spot) (e : E) → IsMoved bs s cs t
      → before cs t ++ e ∷ after cs t ≡ before bs s ++ e ∷ after bs s
  entries_of-moved bs cs s t e m = ap (λ es. es ++ e ∷ after cs t) m.before ∙ ap (λ es. before bs s ++ e ∷ es) m.after

  -- moving a spot changes no entries
  pub entries_of-kept : (bs cs : List (List E)) (s t : Spot) → s.block < length bs → IsMoved bs s cs t → entries_of cs ≡ entries_of bs
  entries_of-kept bs cs s t l m = grind (arith, entries_of-split cs t m.block, entries_of-split bs s l)

  pub entries_of-gap : (bs : List (List E)) (s : Spot) → IsGap bs s → entries_of bs ≡ before bs s ++ after bs s
  entries_of-gap [] s g = sym (ap (λ es. es ++ after [] s) (before_none s) ∙ after_none s)
  entries_of-gap (b ∷ bs) s g = entries_of-split (b ∷ bs) s (g.0 (omega arith))

  pub length-inserted : (bs : List (List E)) (s : Spot) (e : E) (es : List E) → IsGap bs s
      → es ≡ before bs s ++ e ∷ after bs s → length es ≡ length (entries_of bs) + 1
  length-inserted [] s e es g is = ap length (is ∙ ap (λ xs. xs ++ e ∷ after [] s) (before_none s)
      ∙ ap (λ xs. e ∷ xs) (after_none s)) ∙ omega arith
  length-inserted (b ∷ bs) s e es g is = grind (arith, length-append, entries_of-split (b ∷ bs) s)

  pub some-inserted : (xs : List E) (n : ℕ) (e : E) (ys : List E) → ys ≡ insert xs n e → 0 < length ys
  some-inserted xs n e ys is = omega (arith, ap length is, length-append (take n xs) (e ∷ drop n xs))

-- ---- a value rewritten

-- WHAT FUNCTIONS ARE PROVED BY

pub ruleset for_insert_at = (entries_of-kept, entries_of-moved, first_at, none_from)

pub ruleset for_insert_in = (entries_of-inserted, entries_of-same, filled-read, filled-set, some-inserted)

pub ruleset for_make_room = (AreParts-from, entries_of-read, filled-parts, filled-read, moved_first, moved_second, no_room)
