-- Items that read or fail, never both, each with one outcome; and runs and pairs of such items.
use Rattle.std.proofs.Common.{◌≡◌, ◌⊎◌, ◌∙◌, ℕ, zero, suc, ◌<◌, List, [], ◌++◌, refl, sym, subst, inl, inr, arith}
use Rattle.std.proofs.lemmas.Bool.{cases_lt}
use Rattle.mdns_message.specs.{declared.fault.MessageFault.{MessageFault}, Message.{Run, RunFails, Pair, PairFails}}

-- at each offset is an item, with one list of values and one end, or a fault of it, and never both
pub record IsDecided {A : Type 0} (Item : ℕ → List A → ℕ → Type 0) (Fails : ℕ → MessageFault → Type 0) : Type 0 where
  pub one : (p : ℕ) (xs ys : List A) (q r : ℕ) → Item p xs q → Item p ys r → (xs ≡ ys) × (q ≡ r)
  pub not_both : (p : ℕ) (xs : List A) (q : ℕ) (f : MessageFault) → Item p xs q → Fails p f → ⊥
  pub one_fault : (p : ℕ) (f g : MessageFault) → Fails p f → Fails p g → f ≡ g
  pub outcome : (p : ℕ) → ((xs : List A) × (q : ℕ) × Item p xs q) ⊎ ((f : MessageFault) × Fails p f)

module _ {A : Type 0} (Item : ℕ → List A → ℕ → Type 0) (Fails : ℕ → MessageFault → Type 0) (law : IsDecided Item Fails) where
  one_run : (n p : ℕ) (xs ys : List A) (q r : ℕ) → Run Item n p xs q → Run Item n p ys r → (xs ≡ ys) × (q ≡ r)
  one_run zero p xs ys q r a b = (a.0 ∙ sym b.0, a.1 ∙ sym b.1)
  one_run (suc n) p xs ys q r (f, s, l, run, item, e) (g, t, k, run2, item2, i) = grind (arith, one_run n p f g s t run run2)

  -- each item of a run is after those before it
  item_of_run : (n p : ℕ) (xs : List A) (q k : ℕ) → k < n → Run Item n p xs q
      → (f : List A) × (s : ℕ) × (l : List A) × (t : ℕ) × Run Item k p f s × Item s l t
  item_of_run zero p xs q k h run = absurd (omega arith)
  item_of_run (suc n) p xs q k h (f, s, l, run, item, e) =
      elim (cases_lt k n) [
        | inl less ↦ item_of_run n p f s k less run
        | inr more ↦
            let same : n ≡ k = omega arith in
            (f, s, l, q, subst (λ u. Run Item u p f s) same run, item)
      ]

  -- where an item fails after k others, there is no run of more items
  no_run : (n p : ℕ) (xs : List A) (q : ℕ) (k : ℕ) (g : List A) (t : ℕ) (f : MessageFault) → k < n → Run Item n p xs q
      → Run Item k p g t → Fails t f → ⊥
  no_run n p xs q k g t f h run before fails = grind (arith, item_of_run n p xs q k h run, one_run)

  run_outcome : (n p : ℕ) → ((xs : List A) × (q : ℕ) × Run Item n p xs q) ⊎ ((f : MessageFault) × RunFails Item Fails n p f)
  run_outcome zero p = inl ([], p, (refl, refl))
  run_outcome (suc n) p =
      elim (run_outcome n p) [
        | inr fails ↦
            let r = fails.1 in
            inr (fails.0, record { stand = r.stand; fewer = omega arith; told = r.told; offset = r.offset; run = r.run; fails = r.fails })
        | inl run ↦
            elim (law.outcome run.1) [
              | inl item ↦ inl (run.0 ++ item.0, item.1, (run.0, run.1, item.0, run.2, item.2, refl))
              | inr fails ↦
                  inr (fails.0, record { stand = n; fewer = omega arith; told = run.0; offset = run.1; run = run.2; fails = fails.1 })
            ]
      ]

  run_one_fault : (n p : ℕ) (f g : MessageFault) → RunFails Item Fails n p f → RunFails Item Fails n p g → f ≡ g
  run_one_fault n p f g a b = grind (arith, cases_lt, no_run, one_run)

  pub run_decided : (n : ℕ) → IsDecided (Run Item n) (RunFails Item Fails n)
  run_decided n = record {
    one = one_run n;
    not_both = λ p xs q f run fails. no_run n p xs q fails.stand fails.told fails.offset f fails.fewer run fails.run fails.fails;
    one_fault = run_one_fault n;
    outcome = run_outcome n;
  }

module _ {A : Type 0} (First Second : ℕ → List A → ℕ → Type 0) (FirstFails SecondFails : ℕ → MessageFault → Type 0)
    (one : IsDecided First FirstFails) (two : IsDecided Second SecondFails) where
  one_pair : (p : ℕ) (xs ys : List A) (q r : ℕ) → Pair First Second p xs q → Pair First Second p ys r → (xs ≡ ys) × (q ≡ r)
  one_pair p xs ys q r a b = grind (arith, one)

  pair_not_both : (p : ℕ) (xs : List A) (q : ℕ) (f : MessageFault) → Pair First Second p xs q
      → PairFails First FirstFails SecondFails p f → ⊥
  pair_not_both p xs q f a (inl fails) = one.not_both p a.front a.offset f a.first fails
  pair_not_both p xs q f a (inr (front, s, first, fails)) = grind (arith, one)

  pair_one_fault : (p : ℕ) (f g : MessageFault) → PairFails First FirstFails SecondFails p f
      → PairFails First FirstFails SecondFails p g → f ≡ g
  pair_one_fault p f g (inl a) (inl b) = one.one_fault p f g a b
  pair_one_fault p f g (inl a) (inr (front, s, first, b)) = absurd (one.not_both p front s f first a)
  pair_one_fault p f g (inr (front, s, first, a)) (inl b) = absurd (one.not_both p front s g first b)
  pair_one_fault p f g (inr (front, s, first, a)) (inr (front2, t, first2, b)) = grind (arith, one)

  pair_outcome : (p : ℕ) → ((xs : List A) × (q : ℕ) × Pair First Second p xs q)
      ⊎ ((f : MessageFault) × PairFails First FirstFails SecondFails p f)
  pair_outcome p =
      elim (one.outcome p) [
        | inr fails ↦ inr (fails.0, inl fails.1)
        | inl first ↦
            elim (two.outcome first.1) [
              | inr fails ↦ inr (fails.0, inr (first.0, first.1, first.2, fails.1))
              | inl second ↦
                  inl (
                    first.0 ++ second.0,
                    second.1,
                    record {
                      front = first.0;
                      offset = first.1;
                      rest = second.0;
                      first = first.2;
                      second = second.2;
                      all = refl;
                    },
                  )
            ]
      ]

  pub pair_decided : IsDecided (Pair First Second) (PairFails First FirstFails SecondFails)
  pair_decided = record { one = one_pair; not_both = pair_not_both; one_fault = pair_one_fault; outcome = pair_outcome }
