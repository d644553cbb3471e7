-- Values that a refused join left as they were: they lie between the old ones and the join.
use Rattle.std.proofs.Common.{◌≡◌, Result, Ok, Err, OnErr, subst, sym}
use Rattle.std.proofs.lemmas.Result.{on_ok_weaker}
use Rattle.join_map.specs.{Join.{JoinLaws, IsPartOfJoin}, laws.Join.{IsPartOfJoin-old}}
use Rattle.mdns_join.specs.laws.{Kept.{kept-one, kept_union_laws}, Latest.{later-laws}}

module _ {A T E : Type 0} {Valid : A → Type 0} {join : A → A → A} (laws : JoinLaws Valid join) where
  pub part_nothing : (r : Result T E) (old other : A) → Valid old → Valid other → OnErr r (IsPartOfJoin join old other old)
  part_nothing (Ok x) old other k l = tt
  part_nothing (Err x) old other k l = IsPartOfJoin-old laws old other k l

  pub part_refused : (r : Result T E) (old other new : A) → Valid old → Valid other → OnErr r (new ≡ old)
      → OnErr r (IsPartOfJoin join old other new)
  part_refused (Ok x) old other new k l err = err
  part_refused (Err x) old other new k l err = subst (IsPartOfJoin join old other) (sym err) (IsPartOfJoin-old laws old other k l)

pub ruleset for_join_into = (part_refused, kept-one, kept_union_laws)

pub ruleset for_join_with = (part_nothing, part_refused, on_ok_weaker, kept_union_laws)

pub ruleset for_latest = (part_refused, later-laws)
