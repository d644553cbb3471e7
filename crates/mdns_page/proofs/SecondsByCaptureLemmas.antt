-- In which seconds captures heard records, where there are many captures.
use Rattle.std.proofs.Common.{◌≡◌, refl, sym, ap, ◌∙◌, subst, ℕ, zero, suc, ◌<◌, arith}
use Rattle.std.proofs.Common.{Bool, true, false, cond, ◌||◌, List, [], ◌∷◌, ◌++◌, get_or, length, map, Option, None, Some, unwrap_or}
use Rattle.std.specs.Cmp.{Equal-is}
use Rattle.std.proofs.lemmas.{Cmp.{tied_itself}, List.{append-nil}}
use Rattle.std.specs.{BTreeMap.{BTreeMap, get}, Global.{Vec}, Prelude.{MatchOption}, List.{AllByRecursion}, List.Sorted.{IsStrictlySortedBy}}
use Rattle.std.specs.{Map.{lookup}, Ordering.{is_eq, ordering_reverse}, declared.cmp.Ordering.{Ordering}}
use Rattle.std.specs.declared.cmp.Ordering.TheVariants.{Less}
use Rattle.mdns_message.specs.{declared.hearing.Hearing.{Hearing}, declared.key.Key.{Key}, Resource.{key_cmp}}
use Rattle.mdns_message.specs.laws.Resource.{key_cmp-exact, key_cmp-total}
use Rattle.mdns_join.specs.declared.latest.Latest.{Latest}
use Rattle.mdns_cache.proofs.StandsPartLemmas.{Contains-nil}
use Rattle.mdns_cache.specs.Live.{IsLast, IsUnheard, key_of_last}
use Rattle.mdns_lives.specs.declared.{life.Life.{Life}, seconds_heard.SecondHeard.{SecondHeard}}
use Rattle.mdns_lives.specs.{Chronicle.{Accounts, AreAllLives, Chronicles, last_held}, Heard.{AreSecondsHeard}}
use Rattle.mdns_browse.specs.Services.{AreEach}
use Rattle.mdns_page.specs.{TimelineRows.{AreShownBy, GivesSeconds, among}, Timeline.{seconds_lent, shown_seconds}}
use Rattle.mdns_page.proofs.CountedLemmas.{shown-next}

-- ---- keys that are left of a capture

abbrev pub keys_left : List (Latest × List Life) → List Key
keys_left rows = map (λ (row : Latest × List Life). key_of_last row.0) rows

pub apart-later : (key : Key) (keys : List Key) → AllByRecursion (λ k. key_cmp key k ≡ Less) keys → false ≡ among keys key
apart-later key [] later = refl
apart-later key (k ∷ keys) later =
    apart-later key keys later.1
    ∙ ap (λ (b : Bool). b || among keys key) (sym (ap is_eq (key_cmp-total.antisymm k key ∙ ap ordering_reverse later.0)))

contains-among : (rows : List (Latest × List Life)) (row : Latest × List Life) (k : ℕ) → k < length rows → get_or rows k row ≡ row
    → true ≡ among (keys_left rows) (key_of_last row.0)
contains-among [] row k within is = absurd (omega arith)
contains-among (first ∷ rows) row zero within is =
    ap (λ (o : Ordering). is_eq o || among (keys_left rows) (key_of_last row.0)) (sym (tied_itself key_cmp-total (key_of_last row.0)))
    ∙ ap (λ (r : Latest × List Life). is_eq (key_cmp (key_of_last r.0) (key_of_last row.0)) || among (keys_left rows) (key_of_last row.0)) (sym is)
contains-among (first ∷ rows) row (suc k) within is =
    let rest = contains-among rows row k (omega arith) is in grind (arith, rest)

-- the first that is left
pub left-next : (key : Key) (rows more : List (Latest × List Life)) (row : Latest × List Life) → rows ≡ row ∷ more → key ≡ key_of_last row.0
    → IsStrictlySortedBy key_cmp (keys_left rows)
    → IsStrictlySortedBy key_cmp (keys_left more) × (keys_left rows ≡ key ∷ keys_left more) × (false ≡ among (keys_left more) key)
unfolding IsStrictlySortedBy
left-next key rows more row first own sorted =
    let in_order = subst (λ (rs : List (Latest × List Life)). IsStrictlySortedBy key_cmp (keys_left rs)) first sorted in (
      in_order.1,
      ap keys_left first ∙ ap (λ (k : Key). k ∷ keys_left more) (sym own),
      subst (λ (k : Key). false ≡ among (keys_left more) k) (sym own) (apart-later (key_of_last row.0) (keys_left more) in_order.0),
    )

module _ (c : Accounts) (heard : List Hearing) (stands : Chronicles c heard) (rows : List (Latest × List Life))
    (lives : AreAllLives heard rows) where
  -- a record that isn't among those of a capture was heard in no second
  never-by : (key : Key) → false ≡ among (keys_left rows) key → (last : Option Latest)
      → MatchOption last (IsUnheard heard key) (IsLast heard key) → AreSecondsHeard heard key []
  unfolding IsStrictlySortedBy
  never-by key none None never = grind (arith, Contains-nil)
  never-by key none (Some last) is =
      let found = lives.all key last is in
      let own : key_of_last last ≡ key = ap key_of_last (sym is.gives) ∙ is.of_record in
      grind (arith, contains-among)

  start-by : (each : List (List Hearing)) (key : Key) (shown : List (List SecondHeard)) (left : Bool) → left ≡ among (keys_left rows) key
      → AreShownBy true each key shown → AreShownBy true (cond left each (each ++ heard ∷ [])) key shown
  start-by each key shown true is was = was
  start-by each key shown false is was =
      shown-next true each heard key shown [] shown (never-by key is (last_held c key) (stands.lasts key)) (sym (append-nil shown)) was

  pub gives-start : (each : List (List Hearing)) (by_record : BTreeMap Key (Vec (Vec SecondHeard)))
      → GivesSeconds true (λ key. each) by_record
      → GivesSeconds true (λ key. cond (among (keys_left rows) key) each (each ++ heard ∷ [])) by_record
  gives-start each by_record was key shown at = start-by each key (map seconds_lent shown.items) _ refl (was key shown at)

-- ---- one record

pub gives-none : (by_record : BTreeMap Key (Vec (Vec SecondHeard))) → GivesSeconds true (λ key. []) by_record
    → (each : List (List Hearing)) → AreEach Chronicles [] each → GivesSeconds true (λ key. each) by_record
gives-none by_record was [] are = was
gives-none by_record was (heard ∷ each) are = absurd are

pub gives-nothing : (many : Bool) (each : Key → List (List Hearing)) (by_record : BTreeMap Key (Vec (Vec SecondHeard)))
    → by_record.entries ≡ []
    → GivesSeconds many each by_record
gives-nothing many each by_record none key shown at =
    absurd (let no : None ≡ Some shown = ap (lookup (λ k. is_eq (key_cmp key k))) (sym none) ∙ at in cc)

pub none-shown : (key : Key) (none shown : Vec (Vec SecondHeard)) → none.items ≡ [] → Some none ≡ Some shown
    → AreShownBy true [] key (map seconds_lent shown.items)
none-shown key none shown empty same = record { all = []; are = tt; shown = grind arith }

module _ (many : Bool) (was is : Key → List (List Hearing)) (old new : BTreeMap Key (Vec (Vec SecondHeard))) (key : Key)
    (own : (shown : Vec (Vec SecondHeard)) → get key_cmp new key ≡ Some shown → AreShownBy many (is key) key (map seconds_lent shown.items))
    (others : (q : Key) → is_eq (key_cmp key q) ≡ false → (get key_cmp new q ≡ get key_cmp old q) × (was q ≡ is q))
    (gives : GivesSeconds many was old) where
  updated-by : (q : Key) (shown : Vec (Vec SecondHeard)) (same : Bool) → is_eq (key_cmp key q) ≡ same → get key_cmp new q ≡ Some shown
      → AreShownBy many (is q) q (map seconds_lent shown.items)
  updated-by q shown true e at =
      let equal = key_cmp-exact key q ((Equal-is (key_cmp key q)).0 e) in
      subst (λ (k : Key). AreShownBy many (is k) k (map seconds_lent shown.items)) equal
      (own shown (subst (λ (k : Key). get key_cmp new k ≡ Some shown) (sym equal) at))
  updated-by q shown false e at =
      subst (λ (each : List (List Hearing)). AreShownBy many each q (map seconds_lent shown.items)) (others q e).1
      (gives q shown (sym (others q e).0 ∙ at))

  pub gives-updated : GivesSeconds many is new
  gives-updated q shown at = updated-by q shown (is_eq (key_cmp key q)) refl at

-- nothing is given for that key any more
pub gives-without : (many : Bool) (was is : Key → List (List Hearing)) (old new : BTreeMap Key (Vec (Vec SecondHeard))) (key : Key)
    → get key_cmp new key ≡ None → ((q : Key) → is_eq (key_cmp key q) ≡ false → (get key_cmp new q ≡ get key_cmp old q) × (was q ≡ is q))
    → GivesSeconds many was old → GivesSeconds many is new
gives-without many was is old new key none others =
    gives-updated many was is old new key (λ shown at. absurd (let no : None ≡ Some shown = sym none ∙ at in cc)) others

-- a record of a capture that is taken
module _ (each : List (List Hearing)) (heard : List Hearing) (key : Key) (left : List Key) where
  abbrev pub captures_before : Key → List (List Hearing)
  captures_before q = cond (among (key ∷ left) q) each (each ++ heard ∷ [])

  abbrev pub captures_after : Key → List (List Hearing)
  captures_after q = cond (among left q) each (each ++ heard ∷ [])

  pub others-stay : (q : Key) → is_eq (key_cmp key q) ≡ false → captures_before q ≡ captures_after q
  others-stay q e = ap (λ (b : Bool). cond (b || among left q) each (each ++ heard ∷ [])) e

  pub gives-more : false ≡ among left key → (old new : BTreeMap Key (Vec (Vec SecondHeard))) (before after : Vec (Vec SecondHeard))
      (seconds : List SecondHeard) → get key_cmp old key ≡ Some before → get key_cmp new key ≡ Some after
      → ((q : Key) → is_eq (key_cmp key q) ≡ false → get key_cmp new q ≡ get key_cmp old q)
      → map seconds_lent after.items ≡ map seconds_lent before.items ++ shown_seconds true (seconds ∷ [])
      → AreSecondsHeard heard key seconds → GivesSeconds true captures_before old → GivesSeconds true captures_after new
  gives-more apart old new before after seconds had has others pushed are was =
      let at_first = subst (λ (o : Ordering). AreShownBy true (cond (is_eq o || among left key) each (each ++ heard ∷ [])) key (map seconds_lent before.items))
      (tied_itself key_cmp-total key) (was key before had) in
      let now = shown-next true each heard key (map seconds_lent before.items) seconds (map seconds_lent after.items) are pushed at_first in
      gives-updated true captures_before captures_after old new key
      (λ shown at. subst (λ (o : Option (Vec (Vec SecondHeard))). AreShownBy true (captures_after key) key
      (map seconds_lent (unwrap_or o after).items))
      (sym has ∙ at)
      (subst (λ (b : Bool). AreShownBy true (cond b each (each ++ heard ∷ [])) key (map seconds_lent after.items)) apart now))
      (λ q e. (others q e, others-stay q e)) was
