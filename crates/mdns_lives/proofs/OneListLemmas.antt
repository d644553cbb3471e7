-- A record has one list of lives.
use Rattle.std.proofs.{Common.{◌≡◌, ℕ, ◌<◌, ◌≤◌, List, [], ◌∷◌, None, Contains, refl, sym, subst, inl, inr, arith}, lemmas.Bool.{cases_lt}}
use Rattle.mdns_join.specs.laws.Latest.{moment-same}
use Rattle.mdns_lives.specs.declared.life.{RecordHearing.{RecordHearing}, Life.{Life}, EndReason.{EndReason}}
use Rattle.mdns_lives.specs.{History.{IsEndBy, EndsBy, AreLivesBy}, Lives.{IsInOne, AreApartAfter, AreApart}}
use Rattle.mdns_cache.proofs.StandsPartLemmas.{Contains-head, Contains-later}
use Rattle.mdns_lives.proofs.OrderLemmas.{heard-same, same_moment, same_ttl}

-- the last hearing of a life, why it ends, and the goodbye that it tells
abbrev pub IsEndAlike : Life → Life → Type 0
IsEndAlike x y = (x.last ≡ y.last) × (x.reason ≡ y.reason) × (x.taken_back ≡ y.taken_back)

life-same : (x y : Life) → x.from.nanos ≡ y.from.nanos → x.until ≡ y.until → IsEndAlike x y → x ≡ y
life-same x y e f alike = grind (arith, moment-same x.from y.from e)

-- ---- the moments in lives that are apart

pub after_low : (low : ℕ) (xs : List Life) (now : ℕ) → AreApartAfter low xs → IsInOne xs now → low < now
after_low low [] now a w = absurd w
after_low low (x ∷ xs) now a (inl d) = omega (arith, a.0, d.0)
after_low low (x ∷ xs) now a (inr r) = grind (arith, after_low x.until xs now a.2 r)

pub apart-rest : (low : ℕ) (xs : List Life) → AreApartAfter low xs → AreApart xs
apart-rest low [] a = tt
apart-rest low (x ∷ xs) a = (a.1, a.2)

-- the first life begins at the least moment
first-least : (x : Life) (xs : List Life) (now : ℕ) → AreApart (x ∷ xs) → IsInOne (x ∷ xs) now → x.from.nanos ≤ now
first-least x xs now a (inl d) = d.0
first-least x xs now a (inr r) = let rest : x.until < now = after_low x.until xs now a.1 r in omega (arith, a.0, rest)

begins : (x : Life) (xs : List Life) → AreApart (x ∷ xs) → IsInOne (x ∷ xs) x.from.nanos
begins x xs a = inl (omega arith, a.0)

-- the end of a life isn't in any
pub end-out : (x : Life) (xs : List Life) → AreApart (x ∷ xs) → IsInOne (x ∷ xs) x.until → ⊥
end-out x xs a (inl d) = let no : x.until < x.until = d.1 in absurd (omega (arith, no))
end-out x xs a (inr r) = let rest : x.until < x.until = after_low x.until xs x.until a.1 r in absurd (omega (arith, rest))

-- every moment in the first is in the second
abbrev AreWithin : List Life → List Life → Type 0
AreWithin xs ys = (now : ℕ) → IsInOne xs now → IsInOne ys now

end-no_later : (x y : Life) (xs ys : List Life) → AreApart (x ∷ xs) → AreApart (y ∷ ys) → AreWithin (y ∷ ys) (x ∷ xs)
    → x.from.nanos ≡ y.from.nanos → y.until ≤ x.until
end-no_later x y xs ys a b back e = grind (arith, cases_lt, end-out)

rest-within : (x y : Life) (xs ys : List Life) → AreApart (x ∷ xs) → x.until ≡ y.until → AreWithin (x ∷ xs) (y ∷ ys) → AreWithin xs ys
rest-within x y xs ys a e into now w = grind (arith, after_low)

-- ---- the reason of an end

same_reason : (flushes : List ℕ) (a b : RecordHearing) (end : ℕ) (r s : EndReason) → a.moment.nanos ≡ b.moment.nanos → a.ttl ≡ b.ttl
    → IsEndBy flushes a end r → IsEndBy flushes b end s → r ≡ s
same_reason flushes a b end r s e f p q = grind arith

-- what its history says of a life
abbrev EndsUntold : List RecordHearing → List ℕ → Life → Type 0
EndsUntold heard flushes life = EndsBy heard flushes life × (life.taken_back ≡ None)

one_ending : (heard : List RecordHearing) (flushes : List ℕ) (x y : Life) → x.from.nanos ≡ y.from.nanos → x.until ≡ y.until
    → EndsUntold heard flushes x → EndsUntold heard flushes y → IsEndAlike x y
one_ending heard flushes x y f e (p, u) (q, v) =
    let up = q.is_last.greatest x.last p.is_last.among (subst (λ n. x.last.moment.nanos ≤ n) e p.is_last.by_then) in
    let down = p.is_last.greatest y.last q.is_last.among (subst (λ n. y.last.moment.nanos ≤ n) (sym e) q.is_last.by_then) in
    let moment = same_moment x.last y.last up down in
    let ttl = same_ttl x.last y.last up down in grind (arith, heard-same, same_reason)

-- lists of the same moments whose lives end for the same reasons are one list
module _ (Ends Others : Life → Type 0)
    (one : (x y : Life) → x.from.nanos ≡ y.from.nanos → x.until ≡ y.until → Ends x → Others y → IsEndAlike x y) where
  pub same_lives : (xs ys : List Life) → AreApart xs → AreApart ys → ((now : ℕ) → IsInOne xs now → IsInOne ys now)
      → ((now : ℕ) → IsInOne ys now → IsInOne xs now)
      → ((life : Life) → Contains xs life → Ends life) → ((life : Life) → Contains ys life → Others life) → xs ≡ ys
  same_lives [] [] a b into back p q = refl
  same_lives [] (y ∷ ys) a b into back p q = absurd (back y.from.nanos (begins y ys b))
  same_lives (x ∷ xs) [] a b into back p q = absurd (into x.from.nanos (begins x xs a))
  same_lives (x ∷ xs) (y ∷ ys) a b into back p q =
      let up : y.from.nanos ≤ x.from.nanos = first-least y ys x.from.nanos b (into x.from.nanos (begins x xs a)) in
      let down : x.from.nanos ≤ y.from.nanos = first-least x xs y.from.nanos a (back y.from.nanos (begins y ys b)) in
      let from : x.from.nanos ≡ y.from.nanos = omega (arith, up, down) in
      let no_later = end-no_later x y xs ys a b back from in
      let no_earlier = end-no_later y x ys xs b a into (sym from) in
      let until : x.until ≡ y.until = omega (arith, no_later, no_earlier) in
      let alike = one x y from until (p x (Contains-head x xs)) (q y (Contains-head y ys)) in
      let first : x ≡ y = life-same x y from until alike in
      let rest : xs ≡ ys = same_lives xs ys (apart-rest x.until xs a.1) (apart-rest y.until ys b.1)
      (rest-within x y xs ys a until into) (rest-within y x ys xs b (sym until) back)
      (λ life m. p life (Contains-later x xs life m)) (λ life m. q life (Contains-later y ys life m)) in
      cc

pub one_list : (heard : List RecordHearing) (flushes : List ℕ) (xs ys : List Life) → AreLivesBy heard flushes xs
    → AreLivesBy heard flushes ys → xs ≡ ys
one_list heard flushes xs ys p q =
    same_lives (EndsUntold heard flushes) (EndsUntold heard flushes) (one_ending heard flushes) xs ys p.apart q.apart
    (λ now w. (q.exactly now).0 ((p.exactly now).1 w)) (λ now w. (p.exactly now).0 ((q.exactly now).1 w))
    (λ x m. (p.ends x m, p.untold x m)) (λ y m. (q.ends y m, q.untold y m))
