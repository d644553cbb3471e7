-- Faults of names as faults of their messages: each offset has a name or such a fault, never both, and one of them.
use Rattle.std.proofs.Common.{◌≡◌, ◌⊎◌, ◌∙◌, ℕ, List, ap, inl, inr, refl, sym}
use Rattle.dns_name.specs.NameAt.{NameReads}
use Rattle.dns_name.proofs.{NameFaultLemmas.{name_not_both, name_fault_unique}, NameOutcomeLemmas.{name_outcome}}
use Rattle.mdns_message.specs.{Fault.{HasNameFault, fault_of_name}, declared.fault.MessageFault.{MessageFault}}

pub name_fault_not_both : (m : List ℕ) (p : ℕ) (n : List ℕ) (q : ℕ) (f : MessageFault) → NameReads m p n q → HasNameFault m p f → ⊥
name_fault_not_both m p n q f reads (named, fails, e) = name_not_both m p n q named reads fails

pub one_name_fault : (m : List ℕ) (p : ℕ) (f g : MessageFault) → HasNameFault m p f → HasNameFault m p g → f ≡ g
one_name_fault m p f g (a, fails, e) (b, fails2, i) = e ∙ ap fault_of_name (name_fault_unique m p a b fails fails2) ∙ sym i

pub name_or_fault : (m : List ℕ) (p : ℕ) → ((n : List ℕ) × (q : ℕ) × NameReads m p n q) ⊎ ((f : MessageFault) × HasNameFault m p f)
name_or_fault m p =
    elim (name_outcome m p) [
      | inl read ↦ inl read
      | inr fault ↦ inr (fault_of_name fault.0, (fault.0, fault.1, refl))
    ]
