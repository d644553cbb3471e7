-- The contents after all steps of `hear` and of `merge`.
use Rattle.std.proofs.Common.{◌≡◌, ℕ, List, [], ◌∷◌, ◌++◌, sym, ap, ◌∙◌, subst}
use Rattle.mdns_capture.specs.declared.moment.Moment.{Moment}
use Rattle.mdns_message.specs.{declared.hearing.Hearing.{Hearing}, declared.key.Key.{Key}, RecordSet.{RecordSet}}
use Rattle.mdns_message.specs.Resource.{key_cmp, set_key_cmp}
use Rattle.mdns_join.specs.{declared.latest.Latest.{Latest}, Latest.{later}, Nanos.{nanos_of}, Kept.{kept_union, IsGreatest, IsKeptList}}
use Rattle.join_map.specs.{Join.{IsPartOfJoin}, laws.Join.{IsPartOfJoin-old, IsPartOfJoin-join, join-again}, Entries.{joined}}
use Rattle.mdns_cache.specs.Contents.{Contents, contents, IsContents, MapLaws, join_of, contents_of, StandsFor}
use Rattle.mdns_cache.specs.Repeats.{at_each, contents_at_each}
use Rattle.mdns_cache.proofs.{StandsForLemmas.{stands-join}, MeaningLemmas.{stands-each, stands-one}}
use Rattle.mdns_cache.proofs.{ContentsLemmas.{newer, lasts-laws, flushes-laws, same_contents, join_of_laws}, BetweenLemmas.{part_of_join}}
use Rattle.std.proofs.Common.{rules, arith}

-- ---- joining contents part by part: the newest moment, then the last hearings, then the flush moments

-- the last hearings lie between the old ones and the join
abbrev PartLasts : Contents → Contents → Contents → Type 0
PartLasts old other value = IsPartOfJoin (joined key_cmp later) old.lasts other.lasts value.lasts

abbrev PartFlushes : Contents → Contents → Contents → Type 0
PartFlushes old other value = IsPartOfJoin (joined set_key_cmp kept_union) old.flushes other.flushes value.flushes

module _ (laws : MapLaws) (old other raised : Contents) (u : IsContents old) (v : IsContents other)
    (r : raised ≡ contents old.lasts old.flushes (newer old.newest other.newest)) where
  newest_is : (value : Contents) → value.newest ≡ raised.newest → value.newest ≡ newer old.newest other.newest
  newest_is value e = e ∙ ap (λ (c : Contents). c.newest) r

  -- the last hearings were joined in part
  pub part_lasts : (value : Contents) → PartLasts raised other value
      → (value.flushes ≡ raised.flushes) × (value.newest ≡ raised.newest) → IsPartOfJoin join_of old other value
  part_lasts value part rest =
      part_of_join old other value u v
      (subst (λ (c : Contents). PartLasts c other value) r part)
      (subst (λ (fs : List (RecordSet × List ℕ)). IsPartOfJoin (joined set_key_cmp kept_union) old.flushes other.flushes
      fs) (sym (rest.0 ∙ ap (λ (c : Contents). c.flushes) r))
      (IsPartOfJoin-old (flushes-laws laws) old.flushes other.flushes u.flushes v.flushes))
      (newest_is value rest.1)

  -- nothing but the newest moment was joined
  pub part_raised : IsPartOfJoin join_of old other raised
  part_raised =
      let lasts = ap (λ (c : Contents). c.lasts) r in
      part_lasts raised (subst (λ (ls : List (Key × Latest)). IsPartOfJoin (joined key_cmp later) ls other.lasts ls) (sym lasts)
      (IsPartOfJoin-old (lasts-laws laws) old.lasts other.lasts u.lasts v.lasts)) (λ i. raised.flushes, λ i. raised.newest)

  module _ (middle : Contents) (m : middle.lasts ≡ joined key_cmp later raised.lasts other.lasts)
      (s : (middle.flushes ≡ raised.flushes) × (middle.newest ≡ raised.newest)) where
    lasts_are : (value : Contents) → value.lasts ≡ middle.lasts → value.lasts ≡ joined key_cmp later old.lasts other.lasts
    lasts_are value e = e ∙ m ∙ ap (λ (c : Contents). joined key_cmp later c.lasts other.lasts) r

    flushes_are : middle.flushes ≡ old.flushes
    flushes_are = s.0 ∙ ap (λ (c : Contents). c.flushes) r

    -- the last hearings were joined, the flush moments in part
    pub part_flushes : (value : Contents) → PartFlushes middle other value
        → (value.lasts ≡ middle.lasts) × (value.newest ≡ middle.newest) → IsPartOfJoin join_of old other value
    part_flushes value part rest =
        part_of_join old other value u v
        (subst (λ (ls : List (Key × Latest)). IsPartOfJoin (joined key_cmp later) old.lasts other.lasts ls)
        (sym (lasts_are value rest.0)) (IsPartOfJoin-join (lasts-laws laws) old.lasts other.lasts u.lasts
        v.lasts))
        (subst (λ (fs : List (RecordSet × List ℕ)). IsPartOfJoin (joined set_key_cmp kept_union) fs other.flushes
        value.flushes) flushes_are part)
        (newest_is value (rest.1 ∙ s.1))

    -- all was joined
    pub whole_join : (value : Contents) → value.flushes ≡ joined set_key_cmp kept_union middle.flushes other.flushes
        → (value.lasts ≡ middle.lasts) × (value.newest ≡ middle.newest) → value ≡ join_of old other
    unfolding join_of
    whole_join value e rest = grind (arith, same_contents, lasts_are, flushes_are, newest_is)

-- ---- hearing

-- the hearings of both sides
pub merge_stands : MapLaws → (old other value : Contents) → value ≡ join_of old other → (heard others : List Hearing)
    → StandsFor old heard → StandsFor other others → StandsFor value (heard ++ others)
merge_stands laws old other value e heard others s t = grind (arith, stands-join)

-- a hearing more at each of some moments, of which its own is the newest
pub hear_each_stands : MapLaws → (old value : Contents) (h : Hearing) (ms : List ℕ) → IsKeptList ms → IsGreatest ms h.moment.nanos
    → value ≡ join_of old (contents_at_each h ms) → (ts : List Moment) (heard : List Hearing) → nanos_of ts ≡ ms
    → StandsFor old heard → StandsFor value (heard ++ at_each ts h)
hear_each_stands laws old value h ms k top e ts heard are s = search (rules, merge_stands, stands-each)

-- one hearing more
pub hear_stands : MapLaws → (old value : Contents) (h : Hearing) → value ≡ join_of old (contents_of h)
    → (heard : List Hearing) → StandsFor old heard → StandsFor value (heard ++ h ∷ [])
hear_stands laws old value h e heard s = merge_stands laws old (contents_of h) value e heard (h ∷ []) s (stands-one h)

-- a refused call that is repeated gives the join
pub made_again : MapLaws → (old other value : Contents) → IsContents old → IsContents other → IsContents value
    → IsPartOfJoin join_of old other value → join_of value other ≡ join_of old other
made_again laws old other value u v w part = join-again (join_of_laws laws) old other value u v w part
