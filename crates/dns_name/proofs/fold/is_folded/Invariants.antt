use Rattle.std.proofs.Common.{◌≡◌, ◌↔◌, IsTrue, ℕ, ◌<◌, length, get_or}
use Rattle.std.specs.Char.{to_ascii_lowercase}
use Rattle.dns_name.proofs.fold.is_folded.Given as goal

abbrev pub invariant-loop-at : goal.invariant-loop-at
invariant-loop-at l =
    (l.at-end ≡ length l.held)
    × (length l.held ≡ length l.name)
    × (IsTrue l.alike ↔ ((k : ℕ) → k < l.at → get_or l.held k 0 ≡ to_ascii_lowercase (get_or l.name k 0)))
