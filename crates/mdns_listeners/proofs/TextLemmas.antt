-- Texts that were appended one after another.
use Rattle.std.proofs.Common.{◌≡◌, ℕ, List, ◌++◌, append_assoc}

pub three_appended : (old first second new a b c : List ℕ) → first ≡ old ++ a → second ≡ first ++ b → new ≡ second ++ c
    → new ≡ old ++ (a ++ b ++ c)
three_appended old first second new a b c one two three = rw (three, two, one) (simp append_assoc)
