-- How runs and pairs of items grow, and what is added to the hearings meanwhile.
use Rattle.std.proofs.Common.{arith, ◌≡◌, ◌∙◌, ℕ, ◌+◌, ◌<◌, List, ◌++◌, map, refl, sym, ap, inl, inr, append_assoc, add-one}
use Rattle.std.proofs.lemmas.{List.{map-append}, Result.{err_from_is_err_and}}
use Rattle.mdns_capture.specs.declared.moment.Moment.{Moment}
use Rattle.mdns_message.specs.declared.{hearing.Hearing.{Hearing}, fault.MessageFault.{MessageFault}}
use Rattle.mdns_message.specs.{Message.{Run, RunFails, Pair, PairFails, Adds, hearing_of}, RecordAt.{HeardRecord, MemoryOr}}

-- one item more
pub Run-more : {A : Type 0} (Item : ℕ → List A → ℕ → Type 0) (count start offset next : ℕ) (front last : List A)
    → Run Item count start front offset → Item offset last next → Run Item (count + 1) start (front ++ last) next
Run-more Item count start offset next front last run item =
    rw add-one (front, offset, last, run, item, refl)

-- the values of two items are added in two steps
map_both : {A B : Type 0} (f : A → B) (old mid new : List B) (xs ys : List A) → mid ≡ old ++ map f xs
    → new ≡ mid ++ map f ys → new ≡ old ++ map f (xs ++ ys)
map_both f old mid new xs ys p q =
    q ∙ ap (λ zs. zs ++ map f ys) p ∙ append_assoc old (map f xs) (map f ys) ∙ ap (λ zs. old ++ zs) (sym (map-append f xs ys))

pub Adds-more : (moment : Moment) (Item : ℕ → List HeardRecord → ℕ → Type 0) (count start offset next : ℕ)
    (old mid new : List Hearing) → Adds moment (Run Item count) start old mid offset
    → Adds moment Item offset mid new next → Adds moment (Run Item (count + 1)) start old new next
Adds-more moment Item count start offset next old mid new some one = grind (arith, Run-more, map_both)

pub Adds-pair : (moment : Moment) (First Second : ℕ → List HeardRecord → ℕ → Type 0) (start offset next : ℕ)
    (old mid new : List Hearing) → Adds moment First start old mid offset → Adds moment Second offset mid new next
    → Adds moment (Pair First Second) start old new next
Adds-pair moment First Second start offset next old mid new one two =
    grind (arith, map_both (hearing_of moment) old mid new one.told two.told one.added two.added)

-- the item after some whole items fails
pub run_fails : {A : Type 0} (Item : ℕ → List A → ℕ → Type 0) (Fails : ℕ → MessageFault → Type 0)
    (stand count start offset : ℕ) (told : List A) (f : MessageFault) → stand < count
    → Run Item stand start told offset → MemoryOr (Fails offset) f → MemoryOr (RunFails Item Fails count start) f
run_fails Item Fails stand count start offset told f fewer run (inl memory) = inl memory
run_fails Item Fails stand count start offset told f fewer run (inr fails) =
    inr (record { stand = stand; fewer = fewer; told = told; offset = offset; run = run; fails = fails })

pub second_fails : {A : Type 0} (First : ℕ → List A → ℕ → Type 0) (FirstFails SecondFails : ℕ → MessageFault → Type 0)
    (start offset : ℕ) (front : List A) (f : MessageFault) → First start front offset
    → MemoryOr (SecondFails offset) f → MemoryOr (PairFails First FirstFails SecondFails start) f
second_fails First FirstFails SecondFails start offset front f first (inl memory) = inl memory
second_fails First FirstFails SecondFails start offset front f first (inr fails) = inr (inr (front, offset, first, fails))

pub ruleset for_questions = (Run-more, run_fails, err_from_is_err_and)
