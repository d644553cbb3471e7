-- Accounts that were joined, or joined in part.
use Rattle.std.proofs.{Common.{arith, ◌≡◌, Option, Result, OnErr, sym, ap, ◌∙◌, subst}, lemmas.Result.{on_err_weaker}}
use Rattle.mdns_capture.specs.declared.moment.Moment.{Moment}
use Rattle.join_map.specs.{Join.{IsPartOfJoin}, laws.Join.{IsPartOfJoin-old, IsPartOfJoin-join}}
use Rattle.mdns_join.specs.{declared.latest.Latest.{Latest}, Latest.{later}, laws.Latest.{later-laws}}
use Rattle.mdns_cache.proofs.{BetweenLemmas.{on_err_any}, ContentsLemmas.{newer, newer-same, newer-assoc}}
use Rattle.mdns_lives.specs.{declared.account.Account.{Account}, Account.{account, join_account, IsAccount}}
use Rattle.mdns_lives.specs.{Seconds.{Seconds, join_seconds}, laws.Seconds.{seconds-laws}}

-- the later of two moments is no earlier than the first
pub newer-within : (a b : Option Moment) → newer a (newer a b) ≡ newer a b
newer-within a b = sym (newer-assoc a a b) ∙ ap (λ n. newer n b) (newer-same a)

-- a part of the join of two accounts, by its parts, whose goodbyes weren't joined
part_of_both : (old other : Account) (l : Latest) (h : Seconds) → IsPartOfJoin later old.latest other.latest l
    → IsPartOfJoin join_seconds old.history other.history h → IsPartOfJoin join_account old other (account l h old.goodbye)
part_of_both old other l h p q = grind (arith, newer-same, newer-within)

module _ {T E : Type 0} (r : Result T E) (old other : Account) where
  -- the hearings were joined in part, and the last hearing wasn't
  pub part_history : (h : Seconds) → IsPartOfJoin join_seconds old.history other.history h
      → OnErr r (IsPartOfJoin join_account old other (account old.latest h old.goodbye))
  part_history h part = search (arith, on_err_any, part_of_both, IsPartOfJoin-old, later-laws)

  -- the hearings were joined, and the last hearing in part
  pub part_latest : (l : Latest) (h : Seconds) → IsAccount old → IsAccount other → h ≡ join_seconds old.history other.history
      → OnErr r (IsPartOfJoin later old.latest other.latest l)
      → OnErr r (IsPartOfJoin join_account old other (account l h old.goodbye))
  part_latest l h u v same part =
      on_err_weaker r
      (λ p. part_of_both old other l h p
      (subst (IsPartOfJoin join_seconds old.history other.history) (sym same)
      (IsPartOfJoin-join seconds-laws old.history other.history u v))) part
