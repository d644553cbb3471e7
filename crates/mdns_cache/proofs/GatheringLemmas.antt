-- The contents of a gathering after one more hearing was joined into its entries, or was refused.
use Rattle.std.proofs.Common.{arith, ◌≡◌, ℕ, List, [], ◌∷◌, ◌++◌, None, Result, Ok, Err, OnOk, OnErr, subst, sym}
use Rattle.mdns_message.specs.{declared.key.Key.{Key}, RecordSet.{RecordSet}, Resource.{key_cmp, set_key_cmp}}
use Rattle.mdns_join.specs.{declared.latest.Latest.{Latest}, Latest.{later}, Kept.{newest, kept_union, IsKeptList}}
use Rattle.join_map.specs.{Join.{JoinLaws}, Entries.{AllFit, AllValid, joined, one_entry}}
use Rattle.mdns_join.proofs.RefusedLemmas.{part_refused}
use Rattle.mdns_cache.specs.{Contents.{Contents, contents, IsContents, IsUpTo, MapLaws}, Gathering.{IsGathering}}
use Rattle.mdns_cache.proofs.{LawLemmas.{stands_nothing}, ContentsLemmas.{IsJoinMap-single, lasts-laws, flushes-laws}}
use Rattle.mdns_cache.proofs.BetweenLemmas.{IsContents-put_last, IsContents-put_flushes, last_entry}

-- any key fits any value
pub any_fit : {K V : Type 0} (es : List (K × V)) → AllFit (λ k v. Unit {0}) es
any_fit [] = tt
any_fit (e ∷ es) = (tt, any_fit es)

-- one more value is valid
pub valid_pushed : {K V : Type 0} (Valid : V → Type 0) (es : List (K × V)) (k : K) (v : V) → AllValid Valid es → Valid v
    → AllValid Valid (es ++ (k, v) ∷ [])
valid_pushed Valid [] k v a h = (h, tt)
valid_pushed Valid (e ∷ es) k v a h = (a.0, valid_pushed Valid es k v a.1 h)

-- nothing was gathered
pub IsGathering_nothing : (lasts : List (Key × Latest)) (flushes : List (RecordSet × List ℕ)) → lasts ≡ [] → flushes ≡ []
    → IsGathering lasts flushes None
IsGathering_nothing lasts flushes p q = grind (arith, stands_nothing)

pub valid_after : {A U W : Type 0} {Valid : A → Type 0} {join : A → A → A} (laws : JoinLaws Valid join) (r : Result U W)
    (old other new : A) → Valid old → Valid other → OnOk r (new ≡ join old other) → OnErr r (new ≡ old) → Valid new
valid_after {Valid = Valid} laws (Ok x) old other new u v ok err = subst Valid (sym ok) (laws.keeps old other u v)
valid_after {Valid = Valid} laws (Err x) old other new u v ok err = subst Valid (sym err) u

module _ (laws : MapLaws) {V W : Type 0} (c : Contents) (answer : Result V W) (u : IsContents c) where
  pub IsContents-gathered_last : (key : Key) (l : Latest) (new : List (Key × Latest)) → IsUpTo c.newest l.moment.nanos
      → OnOk answer (new ≡ joined key_cmp later c.lasts (one_entry key l)) → OnErr answer (new ≡ c.lasts)
      → IsContents (contents new c.flushes c.newest)
  IsContents-gathered_last key l new bound ok err =
      let one = last_entry key l in
      IsContents-put_last laws c key l new answer u bound
      (valid_after (lasts-laws laws) answer c.lasts (one_entry key l) new u.lasts one ok err) ok
      (part_refused (lasts-laws laws) answer c.lasts (one_entry key l) new u.lasts one err)

  pub IsContents-gathered_flushes : (set : RecordSet) (ms : List ℕ) (new : List (RecordSet × List ℕ)) → IsKeptList ms
      → IsUpTo c.newest (newest ms) → OnOk answer (new ≡ joined set_key_cmp kept_union c.flushes (one_entry set ms))
      → OnErr answer (new ≡ c.flushes) → IsContents (contents c.lasts new c.newest)
  IsContents-gathered_flushes set ms new k bound ok err =
      let one = IsJoinMap-single set_key_cmp IsKeptList set ms k in
      IsContents-put_flushes laws c set ms new answer u k bound
      (valid_after (flushes-laws laws) answer c.flushes (one_entry set ms) new u.flushes one ok err) ok
      (part_refused (flushes-laws laws) answer c.flushes (one_entry set ms) new u.flushes one err)
