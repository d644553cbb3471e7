-- Lemmas on lines that are printed.
use Rattle.std.proofs.{lemmas.Grind.{common_steps}, Common.{◌≡◌, ◌≢◌, ◌++◌, ap, arith, refl, ℕ, List, [], ◌∷◌}}
use Rattle.command_line.specs.Program.{before_feeds, trimmed}
use Rattle.mdns_survey.proofs.SaidLemmas.{prefix-after, prefix-of-more}

-- one line feed more at the end
pub trimmed_feed : (text : List ℕ) → trimmed (text ++ 10 ∷ []) ≡ trimmed text
trimmed_feed [] = refl
trimmed_feed (x ∷ text) = ap (before_feeds x) (trimmed_feed text)

-- another byte at the end
pub trimmed_other : (text : List ℕ) (last : ℕ) → last ≢ 10 → trimmed (text ++ last ∷ []) ≡ text ++ last ∷ []
trimmed_other [] last other = grind arith
trimmed_other (x ∷ text) last other = grind (arith, common_steps, trimmed_other text last other)

pub ruleset for_print_line = (prefix-after, prefix-of-more)
