-- A text by the parts that were written of it, one after another.
use Rattle.std.proofs.Common.{◌≡◌, ℕ, zero, suc, refl, List, [], ◌∷◌, ◌++◌, append_assoc, map, option_map, arith}
use Rattle.std.specs.Prelude.{slice_get}
use Rattle.mdns_page.specs.{Captures.{facts_lent}, declared.captures.CaptureFacts.{CaptureFacts}}

-- the facts of the capture with an index
pub get_lent : (captures : List CaptureFacts) (index : ℕ)
    → slice_get (map facts_lent captures) index ≡ option_map facts_lent (slice_get captures index)
get_lent [] index = refl
get_lent (capture ∷ captures) zero = refl
get_lent (capture ∷ captures) (suc index) = get_lent captures index

pub parts2 : (old p1 p2 s1 new : List ℕ)
    → s1 ≡ old ++ p1 → new ≡ s1 ++ p2
    → new ≡ old ++ (p1 ++ p2)
parts2 old p1 p2 s1 new e1 e2 = rw (e2, e1) (simp append_assoc)

pub parts3 : (old p1 p2 p3 s1 s2 new : List ℕ)
    → s1 ≡ old ++ p1 → s2 ≡ s1 ++ p2 → new ≡ s2 ++ p3
    → new ≡ old ++ (p1 ++ p2 ++ p3)
parts3 old p1 p2 p3 s1 s2 new e1 e2 e3 = rw (e3, e2, e1) (simp append_assoc)

pub parts6 : (old p1 p2 p3 p4 p5 p6 s1 s2 s3 s4 s5 new : List ℕ)
    → s1 ≡ old ++ p1 → s2 ≡ s1 ++ p2 → s3 ≡ s2 ++ p3 → s4 ≡ s3 ++ p4 → s5 ≡ s4 ++ p5 → new ≡ s5 ++ p6
    → new ≡ old ++ (p1 ++ p2 ++ p3 ++ p4 ++ p5 ++ p6)
parts6 old p1 p2 p3 p4 p5 p6 s1 s2 s3 s4 s5 new e1 e2 e3 e4 e5 e6 = rw (e6, e5, e4, e3, e2, e1) (simp append_assoc)

pub parts4 : (old p1 p2 p3 p4 s1 s2 s3 new : List ℕ)
    → s1 ≡ old ++ p1 → s2 ≡ s1 ++ p2 → s3 ≡ s2 ++ p3 → new ≡ s3 ++ p4
    → new ≡ old ++ (p1 ++ p2 ++ p3 ++ p4)
parts4 old p1 p2 p3 p4 s1 s2 s3 new e1 e2 e3 e4 = rw (e4, e3, e2, e1) (simp append_assoc)

pub parts5 : (old p1 p2 p3 p4 p5 s1 s2 s3 s4 new : List ℕ)
    → s1 ≡ old ++ p1 → s2 ≡ s1 ++ p2 → s3 ≡ s2 ++ p3 → s4 ≡ s3 ++ p4 → new ≡ s4 ++ p5
    → new ≡ old ++ (p1 ++ p2 ++ p3 ++ p4 ++ p5)
parts5 old p1 p2 p3 p4 p5 s1 s2 s3 s4 new e1 e2 e3 e4 e5 = rw (e5, e4, e3, e2, e1) (simp append_assoc)

pub parts7 : (old p1 p2 p3 p4 p5 p6 p7 s1 s2 s3 s4 s5 s6 new : List ℕ)
    → s1 ≡ old ++ p1 → s2 ≡ s1 ++ p2 → s3 ≡ s2 ++ p3 → s4 ≡ s3 ++ p4 → s5 ≡ s4 ++ p5 → s6 ≡ s5 ++ p6 → new ≡ s6 ++ p7
    → new ≡ old ++ (p1 ++ p2 ++ p3 ++ p4 ++ p5 ++ p6 ++ p7)
parts7 old p1 p2 p3 p4 p5 p6 p7 s1 s2 s3 s4 s5 s6 new e1 e2 e3 e4 e5 e6 e7 = rw (e7, e6, e5, e4, e3, e2, e1) (simp append_assoc)

pub parts8 : (old p1 p2 p3 p4 p5 p6 p7 p8 s1 s2 s3 s4 s5 s6 s7 new : List ℕ)
    → s1 ≡ old ++ p1 → s2 ≡ s1 ++ p2 → s3 ≡ s2 ++ p3 → s4 ≡ s3 ++ p4 → s5 ≡ s4 ++ p5 → s6 ≡ s5 ++ p6 → s7 ≡ s6 ++ p7
    → new ≡ s7 ++ p8
    → new ≡ old ++ (p1 ++ p2 ++ p3 ++ p4 ++ p5 ++ p6 ++ p7 ++ p8)
parts8 old p1 p2 p3 p4 p5 p6 p7 p8 s1 s2 s3 s4 s5 s6 s7 new e1 e2 e3 e4 e5 e6 e7 e8 = rw (e8, e7, e6, e5, e4, e3, e2, e1) (simp append_assoc)

pub parts9 : (old p1 p2 p3 p4 p5 p6 p7 p8 p9 s1 s2 s3 s4 s5 s6 s7 s8 new : List ℕ)
    → s1 ≡ old ++ p1 → s2 ≡ s1 ++ p2 → s3 ≡ s2 ++ p3 → s4 ≡ s3 ++ p4 → s5 ≡ s4 ++ p5 → s6 ≡ s5 ++ p6 → s7 ≡ s6 ++ p7
    → s8 ≡ s7 ++ p8 → new ≡ s8 ++ p9
    → new ≡ old ++ (p1 ++ p2 ++ p3 ++ p4 ++ p5 ++ p6 ++ p7 ++ p8 ++ p9)
parts9 old p1 p2 p3 p4 p5 p6 p7 p8 p9 s1 s2 s3 s4 s5 s6 s7 s8 new e1 e2 e3 e4 e5 e6 e7 e8 e9 = rw (e9, e8, e7, e6, e5, e4, e3, e2, e1) (simp append_assoc)

pub parts10 : (old p1 p2 p3 p4 p5 p6 p7 p8 p9 p10 s1 s2 s3 s4 s5 s6 s7 s8 s9 new : List ℕ)
    → s1 ≡ old ++ p1 → s2 ≡ s1 ++ p2 → s3 ≡ s2 ++ p3 → s4 ≡ s3 ++ p4 → s5 ≡ s4 ++ p5 → s6 ≡ s5 ++ p6 → s7 ≡ s6 ++ p7
    → s8 ≡ s7 ++ p8 → s9 ≡ s8 ++ p9 → new ≡ s9 ++ p10
    → new ≡ old ++ (p1 ++ p2 ++ p3 ++ p4 ++ p5 ++ p6 ++ p7 ++ p8 ++ p9 ++ p10)
parts10 old p1 p2 p3 p4 p5 p6 p7 p8 p9 p10 s1 s2 s3 s4 s5 s6 s7 s8 s9 new e1 e2 e3 e4 e5 e6 e7 e8 e9 e10 = grind (arith, append_assoc)
