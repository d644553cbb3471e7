-- Files by listener, one more at a time.
use Rattle.std.proofs.Common.{◌≡◌, refl, sym, ◌∙◌, ap, subst, ℕ, zero, suc, ◌+◌, ◌<◌, ◌==◌, Bool, true, false}
use Rattle.std.proofs.Common.{if◌then◌else◌, arith, List, [], ◌∷◌, ◌++◌, append-nil, get_or, length, map}
use Rattle.std.proofs.lemmas.{Bool.Decides.{nat_tests}, List.{get_or_past, length-append, map-append}, List.Concat.{flat_map-append}}
use Rattle.std.proofs.lemmas.List.{Elements.{All-head, All-tail}, FromFn.{get_or-map-range_with_len, length-map-range_with_len}}
use Rattle.std.specs.{Prelude.{◌≢◌, min}, List.{All, flat_map, range_with_len}}
use Rattle.mdns_capture.specs.Savefile.{PacketAt}
use Rattle.mdns_message.specs.declared.hearing.Hearing.{Hearing}
use Rattle.mdns_lives.specs.Chronicle.{Accounts, Chronicles}
use Rattle.mdns_browse.specs.Services.{AreEach}
use Rattle.mdns_survey.specs.{Filter.{counted, counted_each, selected}, Outcomes.{Outcome, hearings_in}, declared.filter.Filter.{Filter}}
use Rattle.mdns_listeners.specs.Listeners.{listener_at}
use Rattle.mdns_page.specs.ByListener.{AddsAt, AddsFile, AddsTo, HearsFiles, HoldsLives, all_in, files_of, hearings_of}
use Rattle.mdns_page.specs.declared.listener_lives.ListenerLives.{ListenerLives}
use Rattle.mdns_page.proofs.LiveLemmas.{each-count}

-- ---- what there is of a listener's files

module _ {X : Type 0} (of : List ℕ) (listener : ℕ) where
  keeps : (b : Bool) (x : X) (front back more : List X) → more ≡ front ++ back
      → (if b then x ∷ more else more) ≡ (if b then x ∷ front else front) ++ back
  keeps true x front back more is = ap (λ (xs : List X). x ∷ xs) is
  keeps false x front back more is = is

  files-more : (place : ℕ) (xs : List X) (x : X) → files_of of place listener (xs ++ x ∷ [])
      ≡ files_of of place listener xs ++ (if listener_at of (place + length xs) == listener then x ∷ [] else [])
  files-more place [] x = grind arith
  files-more place (y ∷ xs) x = grind (arith, keeps, files-more (suc place) xs x)

-- where all files are of the first listener
single : {X : Type 0} (of : List ℕ) → ((place : ℕ) → listener_at of place ≡ 0) → (place : ℕ) (xs : List X) → files_of of place 0 xs ≡ xs
single of first place [] = refl
single of first place (x ∷ xs) = grind (arith, single of first (suc place) xs)

first-listener : (of : List ℕ) → All (λ listener. listener < 1) of → (place : ℕ) → listener_at of place ≡ 0
first-listener [] within place = refl
first-listener (listener ∷ of) within zero = grind (arith, All-head)
first-listener (listener ∷ of) within (suc place) = grind (arith, first-listener of (All-tail (λ (l : ℕ). l < 1) listener of within) place)

-- a place past the end has the same listener as the end
at-min : (of : List ℕ) (n : ℕ) → listener_at of (min n (length of)) ≡ listener_at of n
at-min of n = grind (arith, get_or_past)

-- ---- the hearings of listeners

abbrev flat : List (List Hearing) → List Hearing
flat each = flat_map (λ (hearings : List Hearing). hearings) each

flat-if : (b : Bool) (heard : List Hearing) → flat (if b then heard ∷ [] else []) ≡ (if b then heard else [])
flat-if true heard = append-nil heard
flat-if false heard = refl

flat-more : (each : List (List Hearing)) (heard : List Hearing) → flat (each ++ heard ∷ []) ≡ flat each ++ heard
flat-more each heard = grind (arith, flat_map-append, append-nil)

hearings-more : (of : List ℕ) (each : List (List Hearing)) (heard : List Hearing) (listener : ℕ)
    → hearings_of of (each ++ heard ∷ []) listener
    ≡ hearings_of of each listener ++ (if listener_at of (length each) == listener then heard else [])
hearings-more of each heard listener = grind (arith, files-more, flat_map-append, flat-if)

module _ {X Y : Type 0} (Is : X → Y → Type 0) where
  each-points : (xs : List X) (ys : List Y) → length xs ≡ length ys
      → ((i : ℕ) (d : X) (e : Y) → i < length xs → Is (get_or xs i d) (get_or ys i e)) → AreEach Is xs ys
  each-points [] [] many at = tt
  each-points [] (y ∷ ys) many at = absurd (omega (arith, many))
  each-points (x ∷ xs) [] many at = absurd (omega (arith, many))
  each-points (x ∷ xs) (y ∷ ys) many at =
      (at 0 x y (omega arith), each-points xs ys (omega (arith, many)) (λ i d e within. at (suc i) d e (omega (arith, within))))

  each-at : (xs : List X) (ys : List Y) → AreEach Is xs ys → (i : ℕ) (d : X) (e : Y) → i < length xs
      → Is (get_or xs i d) (get_or ys i e)
  each-at [] ys are i d e within = absurd (omega (arith, within))
  each-at (x ∷ xs) [] are i d e within = absurd are
  each-at (x ∷ xs) (y ∷ ys) are zero d e within = are.0
  each-at (x ∷ xs) (y ∷ ys) are (suc i) d e within = each-at xs ys are.1 i d e (omega (arith, within))

-- one more file was heard
module _ (of : List ℕ) (each : List (List Hearing)) (heard : List Hearing) (file : Accounts) (told : Chronicles file heard)
    (old new : List Accounts) (adds : AddsAt (listener_at of (length each)) old file new) (count : ℕ)
    (are : AreEach Chronicles old (map (hearings_of of each) (range_with_len 0 count))) where
  count-old : length old ≡ count
  count-old = grind (arith, each-count, length-map-range_with_len)

  was : (i : ℕ) (d : Accounts) → i < length old → Chronicles (get_or old i d) (hearings_of of each i)
  was i d within =
      let short : i < count = omega (arith, within, count-old) in
      grind (arith, get_or-map-range_with_len (hearings_of of each) 0 count i i [] short (omega arith), each-at)

  now : (i : ℕ) (d : Accounts) → i < length old → (b : Bool) → (listener_at of (length each) == i) ≡ b
      → Chronicles (get_or new i d) (hearings_of of each i ++ (if b then heard else []))
  now i d within true same =
      let is : listener_at of (length each) ≡ i = grind (arith, nat_tests, same) in
      let here : listener_at of (length each) < length old = omega (arith, within, is) in
      grind (arith, was (listener_at of (length each)) d here)
  now i d within false differs =
      let other : i ≢ listener_at of (length each) = λ (e : i ≡ listener_at of (length each)). grind (arith, nat_tests, differs, e) in
      grind (arith, append-nil (hearings_of of each i), was i d within)

  captures-more : AreEach Chronicles new (map (hearings_of of (each ++ heard ∷ [])) (range_with_len 0 count))
  captures-more =
      let after = hearings_of of (each ++ heard ∷ []) in
      each-points Chronicles new (map after (range_with_len 0 count))
      (adds.count ∙ count-old ∙ sym (length-map-range_with_len after 0 count))
      (λ i d e within.
      let inside : i < length old = omega (arith, within, adds.count) in
      let short : i < count = omega (arith, inside, count-old) in
      subst (Chronicles (get_or new i d))
      (sym (get_or-map-range_with_len after 0 count i i e short (omega arith) ∙ hearings-more of each heard i))
      (now i d inside (listener_at of (length each) == i) refl))

-- ---- those of all

all-in : (captures : List Accounts) (joined : Accounts) (of : List ℕ) (each : List (List Hearing))
    → All (λ listener. listener < length captures) of
    → AreEach Chronicles captures (map (hearings_of of each) (range_with_len 0 (length captures)))
    → (length captures ≢ 1 → Chronicles joined (flat each)) → Chronicles (all_in captures joined) (flat each)
all-in [] joined of each within are many = many (λ (e : 0 ≡ 1). omega (arith, e))
all-in (capture ∷ []) joined of each within are many = grind (arith, single, first-listener)
all-in (first ∷ second ∷ captures) joined of each within are many = many (λ e. omega (arith, e))

joined-in : (captures : List Accounts) (joined : Accounts) → length captures ≢ 1 → all_in captures joined ≡ joined
joined-in [] joined many = refl
joined-in (capture ∷ []) joined many = absurd (many refl)
joined-in (first ∷ second ∷ captures) joined many = refl

pub adds-file : (old new : ListenerLives) (file : Accounts) (heard : List Hearing) → Chronicles file heard
    → new.by_file ≡ old.by_file → new.place ≡ min (suc old.place) (length old.by_file.items)
    → (length old.captures.items ≢ 1 → AddsTo old.joined file new.joined)
    → AddsAt (listener_at old.by_file.items old.place) old.captures.items file new.captures.items → AddsFile heard old new
adds-file old new file heard told same counted joins adds = λ groups each holds.
    let count = length groups.names in
    let at : listener_at old.by_file.items old.place ≡ listener_at groups.by_file (length each) =
    ap (λ of. listener_at of old.place) holds.by_file ∙ ap (listener_at groups.by_file) holds.place ∙ at-min groups.by_file (length each) in
    let adds_at = subst (λ (l : ℕ). AddsAt l old.captures.items file new.captures.items) at adds in
    let captures = captures-more groups.by_file each heard file told old.captures.items new.captures.items adds_at count holds.captures in
    let long : length new.captures.items ≡ count =
    adds.count ∙ count-old groups.by_file each heard file told old.captures.items new.captures.items adds_at count holds.captures in
    let files : length old.by_file.items ≡ length groups.by_file = ap length holds.by_file in
    let more = length-append each (heard ∷ []) in
    record {
      within = holds.within;
      by_file = ap (λ of. of.items) same ∙ holds.by_file;
      place = omega (arith, counted, holds.place, files, more);
      captures = captures;
      all =
          all-in new.captures.items new.joined groups.by_file (each ++ heard ∷ [])
          (subst (λ (n : ℕ). All (λ l. l < n) groups.by_file) (sym long) holds.within)
          (subst (λ (n : ℕ). AreEach Chronicles new.captures.items
          (map (hearings_of groups.by_file (each ++ heard ∷ [])) (range_with_len 0 n))) (sym long) captures)
          (λ many.
          let was : length old.captures.items ≢ 1 = λ e. many (adds.count ∙ e) in
          subst (Chronicles new.joined) (sym (flat-more each heard))
          (joins was (flat each) heard
          (subst (λ (a : Accounts). Chronicles a (flat each)) (joined-in old.captures.items old.joined was) holds.all) told));
    }

-- nothing was heard
pub holds-nothing : (captures : List Accounts) (joined : Accounts) (of : List ℕ) → All (λ listener. listener < length captures) of
    → AreEach Chronicles captures (map (hearings_of of []) (range_with_len 0 (length captures))) → Chronicles joined []
    → Chronicles (all_in captures joined) []
holds-nothing captures joined of within are nothing = all-in captures joined of [] within are (λ many. nothing)

-- the hearings that count are those of all files
pub counted-in : (which : Filter) (before : List (List Outcome)) → counted which before ≡ flat (counted_each which before)
counted-in which [] = refl
counted-in which (outcomes ∷ before) = grind (arith, counted-in which before)

pub hears-more : (which : Filter) (begun old new : ListenerLives) (earlier : List (List PacketAt)) (before : List (List Outcome))
    (packets : List PacketAt) (outcomes : List Outcome) → AddsFile (selected which (hearings_in outcomes)) old new
    → HearsFiles which begun old earlier before → HearsFiles which begun new (earlier ++ packets ∷ []) (before ++ outcomes ∷ [])
hears-more which begun old new earlier before packets outcomes adds hears = λ groups nothing.
    subst (λ (each : List (List Hearing)). HoldsLives groups each new)
    (sym (map-append (λ (os : List Outcome). selected which (hearings_in os)) before (outcomes ∷ [])))
    (adds groups (counted_each which before) (hears groups nothing))
