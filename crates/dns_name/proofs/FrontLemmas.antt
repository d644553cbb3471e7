-- Text that is appended piece by piece.
use Rattle.std.proofs.Common.{◌≡◌, ℕ, List, [], ◌∷◌, ◌++◌, refl, sym, ap, ◌∙◌, append_assoc, append-nil, ◌+◌}
use Rattle.std.proofs.Common.{◌<◌, length, drop, get_or, add-one, drop-cons}
use Rattle.dns_name.specs.Name.{HasFront}
use Rattle.std.proofs.Common.{rules, arith}

-- the part of `text` before `rest` was appended
pub record Reaches (old text new rest : List ℕ) : Type 0 where
  pub front : List ℕ
  pub whole : text ≡ front ++ rest
  pub appended : new ≡ old ++ front

pub Reaches-start : (old text : List ℕ) → Reaches old text old text
Reaches-start old text = record { front = []; whole = refl; appended = sym (append-nil old) }

-- one piece more
pub Reaches-more : (old mid new text all piece rest : List ℕ) → Reaches old text mid all → all ≡ piece ++ rest
    → new ≡ mid ++ piece → Reaches old text new rest
Reaches-more old mid new text all piece rest at split more = record {
  front = at.front ++ piece;
  whole = at.whole ∙ ap (λ xs. at.front ++ xs) split ∙ sym (append_assoc at.front piece rest);
  appended = more ∙ ap (λ xs. xs ++ piece) at.appended ∙ append_assoc old at.front piece;
}

-- all of it
pub Reaches-all : (old text new : List ℕ) → Reaches old text new [] → new ≡ old ++ text
Reaches-all old text new at = at.appended ∙ ap (λ xs. old ++ xs) (sym (append-nil at.front) ∙ sym at.whole)

-- the last piece
pub Reaches-last : (old mid new text rest : List ℕ) → Reaches old text mid rest → new ≡ mid ++ rest → new ≡ old ++ text
Reaches-last old mid new text rest at more = search (rules, Reaches-all, Reaches-more, append-nil)

-- a failure within the next piece
pub stops-at : (old mid new text all piece rest : List ℕ) → Reaches old text mid all → all ≡ piece ++ rest
    → HasFront mid piece new → HasFront old text new
stops-at old mid new text all piece rest at split stopped = record {
  front = at.front ++ stopped.front;
  rest = stopped.rest ++ rest;
  whole =
      at.whole ∙ ap (λ xs. at.front ++ xs) (split ∙ ap (λ xs. xs ++ rest) stopped.whole ∙ append_assoc stopped.front stopped.rest rest)
      ∙ sym (append_assoc at.front stopped.front (stopped.rest ++ rest));
  appended = stopped.appended ∙ ap (λ xs. xs ++ stopped.front) at.appended ∙ append_assoc old at.front stopped.front;
}

-- a failure within the last piece
pub stops-last : (old mid new text rest : List ℕ) → Reaches old text mid rest → HasFront mid rest new → HasFront old text new
stops-last old mid new text rest at stopped = stops-at old mid new text rest rest [] at (sym (append-nil rest)) stopped

-- a list from one offset on
pub drop_one : (xs : List ℕ) (i : ℕ) → i < length xs → drop i xs ≡ (get_or xs i 0 ∷ []) ++ drop (i + 1) xs
drop_one xs i below = rw (add-one, drop-cons xs i 0)
