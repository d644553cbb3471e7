-- Rows that were written one after another, by what they mean.
use Rattle.std.proofs.Common.{◌≡◌, ℕ, List, [], ◌++◌, append_assoc, append-nil}

pub ten-rows : (old r1 r2 r3 r4 r5 r6 r7 r8 r9 r10 s1 s2 s3 s4 s5 s6 s7 s8 s9 new : List ℕ) → s1 ≡ old ++ r1 → s2 ≡ s1 ++ r2
    → s3 ≡ s2 ++ r3 → s4 ≡ s3 ++ r4 → s5 ≡ s4 ++ r5 → s6 ≡ s5 ++ r6 → s7 ≡ s6 ++ r7 → s8 ≡ s7 ++ r8 → s9 ≡ s8 ++ r9 → new ≡ s9 ++ r10
    → new ≡ old ++ ((r1 ++ []) ++ ((r2 ++ (r3 ++ (r4 ++ []))) ++ ((r5 ++ (r6 ++ [])) ++ ((r7 ++ (r8 ++ (r9 ++ []))) ++ ((r10 ++ []) ++ [])))))
ten-rows old r1 r2 r3 r4 r5 r6 r7 r8 r9 r10 s1 s2 s3 s4 s5 s6 s7 s8 s9 new e1 e2 e3 e4 e5 e6 e7 e8 e9 e10 =
    rw (e10, e9, e8, e7, e6, e5, e4, e3, e2, e1) (simp (append_assoc, append-nil))
