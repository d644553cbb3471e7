-- Hearings of a record in order.
use Rattle.std.proofs.{Common.{◌≡◌, ◌≤◌, false, List, [], ◌∷◌, Contains, refl, inl, inr, ◌⊎◌, arith}, lemmas.Bool.{cases_lt}}
use Rattle.std.specs.Ordering.{is_lt}
use Rattle.mdns_cache.proofs.StandsPartLemmas.{Contains-nil, Contains-cases}
use Rattle.mdns_join.specs.laws.Latest.{moment-same}
use Rattle.mdns_lives.specs.{declared.life.RecordHearing.{RecordHearing}, History.{IsUpTo, AreInOrder}, Seconds.{heard_cmp}}

pub IsUpTo-itself : (h : RecordHearing) → IsUpTo h h
IsUpTo-itself h = inr (refl, omega arith)

pub IsUpTo-onward : (a b c : RecordHearing) → IsUpTo a b → IsUpTo b c → IsUpTo a c
IsUpTo-onward a b c (inl p) (inl q) = inl (omega (arith, p, q))
IsUpTo-onward a b c (inl p) (inr q) = inl (omega (arith, p, q.0))
IsUpTo-onward a b c (inr p) (inl q) = inl (omega (arith, p.0, q))
IsUpTo-onward a b c (inr p) (inr q) = inr (omega (arith, p.0, q.0), omega (arith, p.1, q.1))

pub no_later : (a b : RecordHearing) → IsUpTo a b → a.moment.nanos ≤ b.moment.nanos
no_later a b (inl p) = omega (arith, p)
no_later a b (inr p) = omega (arith, p.0)

pub same_moment : (a b : RecordHearing) → IsUpTo a b → IsUpTo b a → a.moment.nanos ≡ b.moment.nanos
same_moment a b p q = let up = no_later a b p in let down = no_later b a q in omega (arith, up, down)

pub same_ttl : (a b : RecordHearing) → IsUpTo a b → IsUpTo b a → a.ttl ≡ b.ttl
same_ttl a b (inl p) q = let down = no_later b a q in absurd (omega (arith, p, down))
same_ttl a b (inr p) (inl q) = absurd (omega (arith, p.0, q))
same_ttl a b (inr p) (inr q) = omega (arith, p.1, q.1)

pub heard-same : (g h : RecordHearing) → g.moment.nanos ≡ h.moment.nanos → g.ttl ≡ h.ttl → g ≡ h
heard-same g h e f = let moment = moment-same g.moment h.moment e in λ i. record { moment = moment i; ttl = f i }

pub same_heard : (a b : RecordHearing) → IsUpTo a b → IsUpTo b a → a ≡ b
same_heard a b p q = heard-same a b (same_moment a b p q) (same_ttl a b p q)

pub either_order : (g h : RecordHearing) → IsUpTo g h ⊎ IsUpTo h g
either_order g h = grind (arith, cases_lt)

pub IsUpTo-from_lt : (g h : RecordHearing) → is_lt (heard_cmp h g) ≡ false → IsUpTo g h
IsUpTo-from_lt g h n = grind (arith, cases_lt)

-- of hearings in order the first counts no more than any
pub first_least : (h : RecordHearing) (hs : List RecordHearing) → AreInOrder (h ∷ hs) → (x : RecordHearing) → Contains (h ∷ hs) x → IsUpTo h x
first_least h [] o x m = grind (arith, Contains-cases, IsUpTo-itself, Contains-nil)
first_least h (g ∷ hs) o x m = grind (arith, Contains-cases h (g ∷ hs) x m, IsUpTo-itself h, IsUpTo-onward, first_least g hs o.1 x)

pub in_order-rest : (h : RecordHearing) (hs : List RecordHearing) → AreInOrder (h ∷ hs) → AreInOrder hs
in_order-rest h [] o = tt
in_order-rest h (g ∷ hs) o = o.1
