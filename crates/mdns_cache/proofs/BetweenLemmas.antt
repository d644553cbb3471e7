-- Contents between some contents and their join with others: the invariant holds of them, part by part.
use Rattle.std.proofs.Common.{◌≡◌, ◌≢◌, ℕ, ◌≤◌, ◌<◌, true, false, List, [], ◌∷◌, Option, None, Some, Result, Ok}
use Rattle.std.proofs.Common.{Err, OnOk, OnErr, refl, sym, ap, ◌∙◌, subst, arith, if◌then◌else◌}
use Rattle.std.specs.{declared.cmp.Ordering.TheVariants.{Greater}, Ordering.{nat_cmp, ordering_then}, declared.cmp.Ordering.{Ordering}}
use Rattle.std.proofs.lemmas.{Bool.{cases_lt}, Bool.Decides.{nat_tests}}
use Rattle.mdns_capture.specs.declared.moment.Moment.{Moment}
use Rattle.mdns_message.specs.{declared.hearing.Hearing.{Hearing}, declared.key.Key.{Key}, RecordSet.{RecordSet}}
use Rattle.mdns_message.specs.Resource.{key_of, set_key_of, key_cmp, set_key_cmp}
use Rattle.mdns_message.specs.laws.Resource.{key_cmp-total, key_cmp-exact, set_key_cmp-total, set_key_cmp-exact}
use Rattle.mdns_join.specs.{declared.latest.Latest.{Latest}, Latest.{latest_cmp, later, latest_of, IsLatest}}
use Rattle.mdns_join.specs.Kept.{has, newest, union, kept, kept_union, IsKeptList}
use Rattle.mdns_join.specs.laws.Kept.{has-le-newest, union_left, has-newest, kept_from_heard, kept-one}
use Rattle.join_map.specs.{Join.{JoinLaws, IsPartOfJoin}, laws.Join.{IsPartOfJoin-join}}
use Rattle.join_map.specs.{Entries.{value_at, joined_at, IsJoinMap, joined, one_entry}, laws.Entries.{value_at-join, sorted-joined}}
use Rattle.mdns_cache.specs.{Contents.{Contents, contents, IsContents, IsUpTo, MapLaws, join_of, contents_of}, Repeats.{contents_at_each}}
use Rattle.mdns_cache.proofs.StandsPartLemmas.{LaterIs, first, second, later-is}
use Rattle.mdns_cache.proofs.ContentsLemmas.{newer, newer-same, newer-assoc, IsJoinMap-empty, IsJoinMap-single}
use Rattle.mdns_cache.proofs.ContentsLemmas.{lasts-laws, flushes-laws, IsUpTo-left, later-bounded, flush-bounded, same_contents}
use Rattle.std.proofs.Common.{rules}

-- the last hearings are no later than the newest moment
abbrev pub LastsUpTo : Option Moment → List (Key × Latest) → Type 0
LastsUpTo n lasts = (key : Key) (l : Latest) → value_at key_cmp key lasts ≡ Some l → IsUpTo n l.moment.nanos

-- the flush moments are no later than the newest moment
abbrev pub FlushesUpTo : Option Moment → List (RecordSet × List ℕ) → Type 0
FlushesUpTo n flushes = (set : RecordSet) (ms : List ℕ) (m : ℕ) → value_at set_key_cmp set flushes ≡ Some ms → has ms m ≡ true → IsUpTo n m

-- ---- the last hearings between

pub IsUpTo-less : (n : Option Moment) (a b : ℕ) → a ≤ b → IsUpTo n b → IsUpTo n a
IsUpTo-less None a b h u = u
IsUpTo-less (Some n) a b h u = omega arith

nat_cmp-above : (x y : ℕ) → y < x → nat_cmp x y ≡ Greater
nat_cmp-above x y h = grind (arith, nat_tests)

then-greater : (o p : Ordering) → o ≡ Greater → ordering_then o p ≡ Greater
then-greater o p e = rw e refl

-- a last hearing that doesn't exceed another is no later
pub not_later : (a b : Latest) → latest_cmp a b ≢ Greater → a.moment.nanos ≤ b.moment.nanos
not_later a b n = grind (arith, cases_lt, then-greater, nat_cmp-above)

later-no_less : (a b c : Latest) → LaterIs a b c → c ≡ b → a.moment.nanos ≤ b.moment.nanos
later-no_less a b c (first _) e = subst (λ (x : Latest). a.moment.nanos ≤ x.moment.nanos) e (omega arith)
later-no_less a b c (second n) e = not_later a b n

-- a last hearing at most a bounded one is bounded
later-at_most : (n : Option Moment) (o p : Option Latest) → joined_at later o p ≡ p
    → ((b : Latest) → p ≡ Some b → IsUpTo n b.moment.nanos) → (a : Latest) → o ≡ Some a → IsUpTo n a.moment.nanos
later-at_most n None p e u a f = absurd (cc)
later-at_most n (Some x) None e u a f = absurd (cc)
later-at_most n (Some x) (Some y) e u a f =
    let same : later x y ≡ y = cc in
    let is : x ≡ a = cc in
    subst (λ (z : Latest). IsUpTo n z.moment.nanos) is
    (IsUpTo-less n x.moment.nanos y.moment.nanos (later-no_less x y (later x y) (later-is x y) same) (u y refl))

module _ (n : Option Moment) (old other value : List (Key × Latest)) (valid_old : IsJoinMap key_cmp IsLatest old)
    (valid_other : IsJoinMap key_cmp IsLatest other) (valid : IsJoinMap key_cmp IsLatest value) where
  LastsUpTo-joined : LastsUpTo n old → LastsUpTo n other → LastsUpTo n (joined key_cmp later old other)
  LastsUpTo-joined u v key l e =
      later-bounded (λ (x : Latest). IsUpTo n x.moment.nanos) (value_at key_cmp key old) (value_at key_cmp key other) (u key) (v key) l
      (sym (value_at-join key_cmp-total key_cmp-exact later key old other valid_old.sorted valid_other.sorted) ∙ e)

  pub LastsUpTo-between : LastsUpTo n old → LastsUpTo n other → IsPartOfJoin (joined key_cmp later) old other value → LastsUpTo n value
  LastsUpTo-between u v part key l e =
      let whole = joined key_cmp later old other in
      let sorted_whole = sorted-joined key_cmp-total key_cmp-exact later old other valid_old.sorted in
      later-at_most n (value_at key_cmp key value) (value_at key_cmp key whole)
      (sym (value_at-join key_cmp-total key_cmp-exact later key value whole valid.sorted sorted_whole)
      ∙ ap (value_at key_cmp key) part.to_join)
      (LastsUpTo-joined u v key) l e

-- ---- the flush moments between

-- the greatest moment is kept
pub has-kept_newest : (xs : List ℕ) (m : ℕ) → has xs m ≡ true → has (kept xs) (newest xs) ≡ true
has-kept_newest xs m h = kept_from_heard xs (newest xs) (has-newest xs m h)
    (λ s. absurd (omega (arith, s.after, has-le-newest xs s.next s.among)))

flush-at_most : (n : Option Moment) (o p : Option (List ℕ)) → joined_at kept_union o p ≡ p
    → ((ys : List ℕ) (m : ℕ) → p ≡ Some ys → has ys m ≡ true → IsUpTo n m) → (xs : List ℕ) (m : ℕ) → o ≡ Some xs
    → has xs m ≡ true → IsUpTo n m
flush-at_most n None p e u xs m f h = absurd (cc)
flush-at_most n (Some x) None e u xs m f h = absurd (cc)
flush-at_most n (Some x) (Some y) e u xs m f h =
    let same : kept_union x y ≡ y = cc in
    let is : xs ≡ x = cc in
    let both : has (union x y) m ≡ true = union_left x y m (subst (λ (zs : List ℕ). has zs m ≡ true) is h) in
    let there : has y (newest (union x y)) ≡ true =
    subst (λ (zs : List ℕ). has zs (newest (union x y)) ≡ true) same (has-kept_newest (union x y) m both) in
    IsUpTo-less n m (newest (union x y)) (has-le-newest (union x y) m both) (u y (newest (union x y)) refl there)

module _ (n : Option Moment) (old other value : List (RecordSet × List ℕ))
    (valid_old : IsJoinMap set_key_cmp IsKeptList old) (valid_other : IsJoinMap set_key_cmp IsKeptList other)
    (valid : IsJoinMap set_key_cmp IsKeptList value) where
  FlushesUpTo-joined : FlushesUpTo n old → FlushesUpTo n other → FlushesUpTo n (joined set_key_cmp kept_union old other)
  FlushesUpTo-joined u v set ms m e h =
      flush-bounded (IsUpTo n) (value_at set_key_cmp set old) (value_at set_key_cmp set other) (u set) (v set) ms m
      (sym (value_at-join set_key_cmp-total set_key_cmp-exact kept_union set old other valid_old.sorted valid_other.sorted) ∙ e) h

  pub FlushesUpTo-between : FlushesUpTo n old → FlushesUpTo n other
      → IsPartOfJoin (joined set_key_cmp kept_union) old other value → FlushesUpTo n value
  FlushesUpTo-between u v part set ms m e h =
      let whole = joined set_key_cmp kept_union old other in
      let sorted_whole = sorted-joined set_key_cmp-total set_key_cmp-exact kept_union old other valid_old.sorted in
      flush-at_most n (value_at set_key_cmp set value) (value_at set_key_cmp set whole)
      (sym (value_at-join set_key_cmp-total set_key_cmp-exact kept_union set value whole valid.sorted sorted_whole)
      ∙ ap (value_at set_key_cmp set) part.to_join)
      (FlushesUpTo-joined u v set) ms m e h

-- ---- one entry

pub LastsUpTo-one : (n : Option Moment) (key : Key) (l : Latest) → IsUpTo n l.moment.nanos → LastsUpTo n (one_entry key l)
LastsUpTo-one n key l u k x e = grind arith

pub FlushesUpTo-one : (n : Option Moment) (set : RecordSet) (fs : List ℕ) → IsUpTo n (newest fs)
    → FlushesUpTo n (one_entry set fs)
FlushesUpTo-one n set fs u k ms m e h = grind (arith, IsUpTo-less, has-le-newest)

-- ---- contents between

-- contents with a later newest moment
pub IsContents-raised : (c : Contents) (n : Option Moment) → IsContents c → IsContents (contents c.lasts c.flushes (newer c.newest n))
IsContents-raised c n u = grind (arith, IsUpTo-left)

-- contents with last hearings between the old ones and their join with others
pub IsContents-lasts : (c : Contents) (other value : List (Key × Latest)) → IsContents c
    → IsJoinMap key_cmp IsLatest other → LastsUpTo c.newest other → IsJoinMap key_cmp IsLatest value
    → IsPartOfJoin (joined key_cmp later) c.lasts other value → IsContents (contents value c.flushes c.newest)
IsContents-lasts c other value u valid_other bound valid part = search (rules, LastsUpTo-between)

-- contents with flush moments between the old ones and their join with others
pub IsContents-flushes : (c : Contents) (other value : List (RecordSet × List ℕ)) → IsContents c
    → IsJoinMap set_key_cmp IsKeptList other → FlushesUpTo c.newest other → IsJoinMap set_key_cmp IsKeptList value
    → IsPartOfJoin (joined set_key_cmp kept_union) c.flushes other value
    → IsContents (contents c.lasts value c.newest)
IsContents-flushes c other value u valid_other bound valid part = search (rules, FlushesUpTo-between)

-- contents that lie between in each part lie between
pub part_of_join : (old other value : Contents) → IsContents old → IsContents other
    → IsPartOfJoin (joined key_cmp later) old.lasts other.lasts value.lasts
    → IsPartOfJoin (joined set_key_cmp kept_union) old.flushes other.flushes value.flushes
    → value.newest ≡ newer old.newest other.newest → IsPartOfJoin join_of old other value
unfolding join_of
part_of_join old other value u v lasts flushes newest = grind (arith, same_contents, newer, newer-assoc, newer-same)

-- whatever a join answers, the value lies between
pub part_either : {A U W : Type 0} {Valid : A → Type 0} {join : A → A → A} (laws : JoinLaws Valid join)
    (old other value : A) (answer : Result U W) → Valid old → Valid other → OnOk answer (value ≡ join old other)
    → OnErr answer (IsPartOfJoin join old other value) → IsPartOfJoin join old other value
part_either {join = join} laws old other value (Ok x) u v ok err =
    subst (IsPartOfJoin join old other) (sym ok) (IsPartOfJoin-join laws old other u v)
part_either laws old other value (Err x) u v ok err = err

pub on_err_any : {T E P : Type 0} (r : Result T E) → P → OnErr r P
on_err_any (Ok x) p = tt
on_err_any (Err x) p = p

pub last_entry : (key : Key) (l : Latest) → IsJoinMap key_cmp IsLatest (one_entry key l)
last_entry key l = IsJoinMap-single key_cmp IsLatest key l tt

pub flush_entry : (set : RecordSet) (m : ℕ) → IsJoinMap set_key_cmp IsKeptList (one_entry set (m ∷ []))
flush_entry set m = IsJoinMap-single set_key_cmp IsKeptList set (m ∷ []) (kept-one m)

-- the contents of one hearing at each of some moments, of which its own is the newest
pub IsContents-each : (h : Hearing) (ms : List ℕ) → IsKeptList ms → newest ms ≡ h.moment.nanos
    → IsContents (contents_at_each h ms)
IsContents-each h ms k top = record {
  lasts = last_entry (key_of h.heard) (latest_of h);
  flushes = elim h.flush as (λ t. IsJoinMap set_key_cmp IsKeptList (if t then one_entry (set_key_of h.heard) ms else [])) [
    | true ↦ IsJoinMap-single set_key_cmp IsKeptList (set_key_of h.heard) ms k
    | false ↦ IsJoinMap-empty set_key_cmp IsKeptList
  ];
  lasts_by_newest = LastsUpTo-one (Some h.moment) (key_of h.heard) (latest_of h) (omega arith);
  flushes_by_newest =
      elim h.flush as (λ t. FlushesUpTo (Some h.moment) (if t then one_entry (set_key_of h.heard) ms else [])) [
        | true ↦ FlushesUpTo-one (Some h.moment) (set_key_of h.heard) ms (omega (arith, top))
        | false ↦ λ set ms m e h. absurd (cc)
      ];
}

-- the contents of one hearing
pub IsContents-one : (h : Hearing) → IsContents (contents_of h)
IsContents-one h = IsContents-each h (h.moment.nanos ∷ []) (kept-one h.moment.nanos) (omega arith)

module _ (laws : MapLaws) where
  -- a last hearing, put in whole or in part
  pub IsContents-put_last : {V W : Type 0} (c : Contents) (key : Key) (l : Latest) (value : List (Key × Latest))
      (answer : Result V W) → IsContents c → IsUpTo c.newest l.moment.nanos
      → IsJoinMap key_cmp IsLatest value → OnOk answer (value ≡ joined key_cmp later c.lasts (one_entry key l))
      → OnErr answer (IsPartOfJoin (joined key_cmp later) c.lasts (one_entry key l) value)
      → IsContents (contents value c.flushes c.newest)
  IsContents-put_last c key l value answer u bound valid ok err =
      IsContents-lasts c (one_entry key l) value u (last_entry key l) (LastsUpTo-one c.newest key l bound) valid
      (part_either (lasts-laws laws) c.lasts (one_entry key l) value answer u.lasts (last_entry key l) ok err)

  -- the last hearings of another side, joined in whole or in part
  pub IsContents-join_lasts : {V W : Type 0} (c d : Contents) (value : List (Key × Latest))
      (answer : Result V W) → IsContents c → IsContents d → ((m : ℕ) → IsUpTo d.newest m → IsUpTo c.newest m)
      → IsJoinMap key_cmp IsLatest value → OnOk answer (value ≡ joined key_cmp later c.lasts d.lasts)
      → OnErr answer (IsPartOfJoin (joined key_cmp later) c.lasts d.lasts value)
      → IsContents (contents value c.flushes c.newest)
  IsContents-join_lasts c d value answer u v raised valid ok err =
      IsContents-lasts c d.lasts value u v.lasts (λ key l e. raised l.moment.nanos (v.lasts_by_newest key l e)) valid
      (part_either (lasts-laws laws) c.lasts d.lasts value answer u.lasts v.lasts ok err)

  -- the flush moments of one set, put in whole or in part
  pub IsContents-put_flushes : {V W : Type 0} (c : Contents) (set : RecordSet) (ms : List ℕ) (value : List (RecordSet × List ℕ))
      (answer : Result V W) → IsContents c → IsKeptList ms → IsUpTo c.newest (newest ms) → IsJoinMap set_key_cmp IsKeptList value
      → OnOk answer (value ≡ joined set_key_cmp kept_union c.flushes (one_entry set ms))
      → OnErr answer (IsPartOfJoin (joined set_key_cmp kept_union) c.flushes (one_entry set ms) value)
      → IsContents (contents c.lasts value c.newest)
  IsContents-put_flushes c set ms value answer u k bound valid ok err =
      let one = IsJoinMap-single set_key_cmp IsKeptList set ms k in
      IsContents-flushes c (one_entry set ms) value u one (FlushesUpTo-one c.newest set ms bound) valid
      (part_either (flushes-laws laws) c.flushes (one_entry set ms) value answer u.flushes one ok err)

  -- the flush moments of another side, joined in whole or in part
  pub IsContents-join_flushes : {V W : Type 0} (c d : Contents) (value : List (RecordSet × List ℕ))
      (answer : Result V W) → IsContents c → IsContents d → ((m : ℕ) → IsUpTo d.newest m → IsUpTo c.newest m)
      → IsJoinMap set_key_cmp IsKeptList value
      → OnOk answer (value ≡ joined set_key_cmp kept_union c.flushes d.flushes)
      → OnErr answer (IsPartOfJoin (joined set_key_cmp kept_union) c.flushes d.flushes value)
      → IsContents (contents c.lasts value c.newest)
  IsContents-join_flushes c d value answer u v raised valid ok err =
      IsContents-flushes c d.flushes value u v.flushes (λ set ms m e h. raised m (v.flushes_by_newest set ms m e h)) valid
      (part_either (flushes-laws laws) c.flushes d.flushes value answer u.flushes v.flushes ok err)
