-- A buffer that is filled read by read.
use Rattle.std.proofs.{lemmas.Grind.{common_steps}, lemmas.Slice.{take-put_mid_below}, KnownBytes.{Consumes-trans}}
use Rattle.std.proofs.Common.{◌≡◌, ℕ, ◌+◌, ◌-◌, ◌≤◌, List, ◌++◌, Option, arith, length, take, slice_range, sym, ap}
use Rattle.std.proofs.Common.{◌∙◌, subst, le_refl, drop_at, length-take-le}
use Rattle.std.specs.Io.KnownBytes.{Consumes}
use borrow.Rule.Slice.PartMut.{put_mid}
use lib.Seq.{take-add}

take_split : (a b : ℕ) (old new : List ℕ) → a ≤ b → take a new ≡ take a old → take a old ++ slice_range new a b ≡ take b new
take_split a b old new h front =
    let same : a + (b - a) ≡ b = omega arith in
    ap (λ l. l ++ slice_range new a b) (sym front) ∙ sym (take-add a (b - a) new) ∙ ap (λ n. take n new) same

slice_range-put_mid : (a k n : ℕ) (xs ys : List ℕ) → a ≤ length xs → n ≤ length ys → slice_range (put_mid a k xs ys) a (a + n) ≡ take n ys
slice_range-put_mid a k n xs ys within fits = grind (arith, common_steps, drop_at, length-take-le)

-- a read of n bytes after a bytes goes on where they end
pub Consumes-filled : (old mid new : Option (List ℕ)) (a k n : ℕ) (xs ys : List ℕ) → a ≤ length xs → n ≤ length ys
    → Consumes old mid (take a xs) → Consumes mid new (take n ys) → Consumes old new (take (a + n) (put_mid a k xs ys))
Consumes-filled old mid new a k n xs ys within fits before now =
    let joined = take_split a (a + n) xs (put_mid a k xs ys) (omega arith) (take-put_mid_below _ _ _ _ _ (le_refl _) within) in
    subst (Consumes _ _) (ap (λ l. take a xs ++ l) (sym (slice_range-put_mid a k n xs ys within fits)) ∙ joined)
    (Consumes-trans _ _ _ _ _ before now)

pub ruleset for_fill = (Consumes-filled)
