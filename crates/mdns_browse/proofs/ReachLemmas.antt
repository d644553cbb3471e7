-- Sheets that take pieces one after another.
use Rattle.std.proofs.{Common.{◌≡◌, refl, sym, ◌∙◌, ap, List, [], ◌++◌}, lemmas.List.{append-nil, append_assoc, drop_all, drop_more}}
use Rattle.mdns_browse.specs.Sheet.{TakeLaws}
use Rattle.std.proofs.Common.{arith}

-- a sheet has taken the pieces before the rest
pub record Reaches {S P : Type 0} (takes : S → List P → S → Type 0) (old : S) (all : List P) (new : S) (rest : List P) : Type 0 where
  pub front : List P
  pub whole : all ≡ front ++ rest
  pub taken : takes old front new

module _ {S P : Type 0} {takes : S → List P → S → Type 0} (laws : TakeLaws takes) where
  pub reaches-start : (old : S) (all : List P) → Reaches takes old all old all
  reaches-start old all = record { front = []; whole = refl; taken = laws.nothing old }

  pub reaches-more : {old mid new : S} {all rest piece after : List P} → Reaches takes old all mid rest → rest ≡ piece ++ after
      → takes mid piece new → Reaches takes old all new after
  reaches-more {old} {mid} {new} {all} {rest} {piece} {after} at split more = record {
    front = at.front ++ piece;
    whole = at.whole ∙ ap (λ ps. at.front ++ ps) split ∙ sym (append_assoc at.front piece after);
    taken = laws.more old mid new at.front piece at.taken more;
  }

  pub reaches-all : {old new : S} {all rest : List P} → Reaches takes old all new rest → rest ≡ [] → takes old all new
  reaches-all {old} {new} at none = grind (arith, append-nil)

-- WHAT FUNCTIONS ARE PROVED BY

pub ruleset for_walks = (drop_all, drop_more, reaches-start, reaches-more, reaches-all)

pub ruleset for_push_text_words = (reaches-start, reaches-more, reaches-all)
