-- Where chains of pointers lead, each pointer at the target of the one before.
use Rattle.std.proofs.Common.{◌≡◌, ℕ, ◌+◌, ◌≤◌, List, [], ◌∷◌, ◌++◌, length, refl, subst, arith, length-append}
use Rattle.std.proofs.Math.{ListN.{get_or-append}, Seq.{get_or-append_seam}}
use Rattle.dns_name.specs.{NameAt.{NameStands, PointerLeads}, NameAt.NameStands.{pointer}, FirstFault.{NameFailsUnder}}
use Rattle.dns_name.specs.{FirstFault.NameFailsUnder.{after_pointer}, declared.fault.NameReadFault.{NameReadFault}}
use Rattle.dns_name.specs.{Pointer.{PointersLead, PointersEnd, EndsHold}, Pointer.PointersLead.{there, along}}
use Rattle.std.proofs.Common.{rules}

-- a chain leads to no later offset
pub lead_before : (m : List ℕ) {p e : ℕ} → PointersLead m p e → e ≤ p
lead_before m (there h) = omega arith
lead_before m (along t a l d) = let h : _ ≤ t = lead_before m d in omega arith

-- a name where a chain leads is a name where it begins
pub name_along : (m : List ℕ) {p e : ℕ} (n : List ℕ) (q : ℕ) → PointersLead m p e → NameStands m e e n q
    → (after : ℕ) × NameStands m p p n after
name_along m n q (there h) d = let P : ℕ → Type 0 = λ i. NameStands m i i n q in (q, subst P h d)
name_along m {p} n q (along t a l d) s =
    let rest = name_along m n q d s in
    (p + 2, pointer t rest.0 a l rest.1 refl)

-- and so is a fault
pub fault_along : (m : List ℕ) {p e : ℕ} (u : ℕ) (f : NameReadFault) → PointersLead m p e → NameFailsUnder m e e u f
    → NameFailsUnder m p p u f
fault_along m u f (there h) d = let P : ℕ → Type 0 = λ i. NameFailsUnder m i i u f in subst P h d
fault_along m u f (along t a l d) s = after_pointer t a l (fault_along m u f d s)

-- where no pointer leads before its offset, pointers end
pub ends_here : (m : List ℕ) (p : ℕ) → ((t : ℕ) → PointerLeads m p p t → ⊥) → PointersEnd m p p
ends_here m p none = record { lead = there refl; last = none }

-- where a pointer leads before its offset, its chain ends where the chain from its target ends
pub ends_along : (m : List ℕ) (p t e : ℕ) → PointerLeads m p p t → PointersEnd m t e → PointersEnd m p e
ends_along m p t e (a, l) d = record { lead = along t a l d.lead; last = d.last }

-- one offset more
pub ends_more : (m ends longer : List ℕ) (e : ℕ) → EndsHold m ends → PointersEnd m (length ends) e
    → longer ≡ ends ++ e ∷ [] → EndsHold m longer
ends_more m ends longer e hold d same = grind (arith, length-append, get_or-append, get_or-append_seam ends e [] 0)

-- `ends` has an entry for each offset before p, and no other
pub record Remembered (m ends : List ℕ) (p : ℕ) : Type 0 where
  pub knows : EndsHold m ends
  pub next : p ≡ length ends

pub remembered_more : (m ends longer : List ℕ) (p e : ℕ) → Remembered m ends p → PointersEnd m p e
    → longer ≡ ends ++ e ∷ [] → Remembered m longer (p + 1)
remembered_more m ends longer p e r d same = record {
  knows = ends_more m ends longer e r.knows (let P : ℕ → Type 0 = λ i. PointersEnd m i e in subst P r.next d) same;
  next = let count : length longer ≡ length ends + 1 = rw (same, length-append) refl in let h : p ≡ length ends = r.next in omega arith;
}

-- a fact, and the correctness of `ends`
pub record Knowing (Fact : Type 0) (m ends : List ℕ) : Type 0 where
  pub fact : Fact
  pub knows : EndsHold m ends
