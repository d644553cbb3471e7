-- Lemmas on words that a dot ends, and on those that none does.
use Rattle.std.proofs.Common.{◌≡◌, ◌≢◌, ◌++◌, ◌∷◌, ap, arith, refl, List, [], Some, None, option_map}
use Rattle.clap.specs.Words.{Row, Text}
use Rattle.command_line.specs.{FinalDot.{asked_words, before_dot}, Line.{HasPrinters}}

-- a dot ends the text
pub before-dot : (front : Text) → before_dot (front ++ 46 ∷ []) ≡ Some front
before-dot [] = refl
before-dot (x ∷ []) = refl
before-dot (x ∷ y ∷ front) = ap (option_map (λ (f : Text). x ∷ f)) (before-dot (y ∷ front))

-- none does
pub no-dot : (text : Text) → ((front : Text) → text ≢ front ++ 46 ∷ []) → before_dot text ≡ None
no-dot [] never = refl
no-dot (x ∷ []) never = grind (arith, never [])
no-dot (x ∷ y ∷ rest) never =
    ap (option_map (λ (f : Text). x ∷ f)) (no-dot (y ∷ rest) (λ front same. never (x ∷ front) (ap (λ (r : Text). x ∷ r) same)))

-- no type of printers ends in a dot
pub printers-asked : (rows : List Row) (words : List Text) → HasPrinters rows words → asked_words words ≡ words
printers-asked rows words is = grind arith

pub ruleset for_without_final_dot = (before-dot, no-dot)
