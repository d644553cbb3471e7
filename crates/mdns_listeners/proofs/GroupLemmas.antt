-- Lemmas on the listeners of files.
use Rattle.std.proofs.lemmas.{Bool.Decides.{nat_tests}}
use Rattle.std.proofs.lemmas.List.{get_or-map, get_or-replicate, get_or-set_other, get_or-set_same, length-map, length-replicate, length-set}
use Rattle.std.proofs.{lemmas.List.Quantifiers.{position-Some}, lemmas.Option.{none-some}, Math.Seq.{take-append_seam}}
use Rattle.std.proofs.Common.{◌≡◌, ◌∙◌, ◌<◌, ◌++◌, ◌∷◌, refl, ap, arith, cond, true, false, ℕ, Bool, List, [], Option, Some, None}
use Rattle.std.proofs.Common.{drop, get_or, length, map, replicate, take, set, string_bytes, Global, String, append-nil, append_assoc, length-append}
use Rattle.std.specs.{List.{list_any, position, position_or_len}}
use Rattle.mdns_listeners.specs.Groups.{HasBegun, base_name, before_first, begun_by, fits, is_beside, is_same, is_slash, listener_names}
use Rattle.mdns_listeners.specs.Groups.{listener_positions, name_by, names_after, position_of, positions_after, prefix_of, takes}

-- a name is in no folder, or ends in one
pub base_or_whole : (name : List ℕ) → base_name name ≡ cond (list_any is_slash name) (base_name name) name
base_or_whole [] = refl
base_or_whole (byte ∷ rest) = grind arith

-- ---- names as texts

pub any_named : (test : List ℕ → Bool) (names : List (String Global))
    → list_any (λ name. test (string_bytes name)) names ≡ list_any test (map string_bytes names)
any_named test [] = refl
any_named test (name ∷ names) = grind (arith, any_named test names)

position-named : (test : List ℕ → Bool) (names : List (String Global))
    → position_or_len (λ name. test (string_bytes name)) names ≡ position_or_len test (map string_bytes names)
position-named test [] = refl
position-named test (name ∷ names) = grind (arith, position-named test names)

pub position_named : (test : List ℕ → Bool) (names : List (String Global))
    → position (λ name. test (string_bytes name)) names ≡ position test (map string_bytes names)
position_named test names = rw (position-named test names, length-map names string_bytes) refl

-- ---- the front of a list

front-none : {X : Type 0} (test : X → Bool) (xs ys : List X) → list_any test xs ≡ false
    → before_first test (xs ++ ys) ≡ xs ++ before_first test ys
front-none test [] ys none = refl
front-none test (x ∷ xs) ys none = grind (arith, front-none test xs ys)

front-any : {X : Type 0} (test : X → Bool) (xs ys : List X) → list_any test xs ≡ true
    → before_first test (xs ++ ys) ≡ before_first test xs
front-any test [] ys any = absurd cc
front-any test (x ∷ xs) ys any = grind (arith, front-any test xs ys)

front-whole : {X : Type 0} (test : X → Bool) (xs : List X) → list_any test xs ≡ false → before_first test xs ≡ xs
front-whole test [] none = refl
front-whole test (x ∷ xs) none = grind (arith, front-whole test xs)

any-never : {X : Type 0} (test : X → Bool) → ((x : X) → test x ≡ false) → (xs : List X) → list_any test xs ≡ false
any-never test never [] = refl
any-never test never (x ∷ xs) = rw (never x) (any-never test never xs)

any-more : {X : Type 0} (test : X → Bool) (xs : List X) (x : X) → list_any test (xs ++ x ∷ []) ≡ cond (list_any test xs) true (test x)
any-more test [] x = grind arith
any-more test (y ∷ xs) x = grind (arith, any-more test xs x)

-- ---- one file more

names-more : (prefixes earlier files more : List (List ℕ))
    → names_after prefixes earlier (files ++ more) ≡ names_after prefixes earlier files ++ names_after prefixes (earlier ++ files) more
names-more prefixes earlier [] more = rw (append-nil earlier) refl
names-more prefixes earlier (file ∷ files) more = grind (arith, append_assoc, names-more prefixes (earlier ++ file ∷ []) files more)

positions-more : (prefixes earlier files more : List (List ℕ))
    → positions_after prefixes earlier (files ++ more)
    ≡ positions_after prefixes earlier files ++ positions_after prefixes (earlier ++ files) more
positions-more prefixes earlier [] more = rw (append-nil earlier) refl
positions-more prefixes earlier (file ∷ files) more = grind (arith, append_assoc, positions-more prefixes (earlier ++ file ∷ []) files more)

positions-each : (prefixes earlier files : List (List ℕ)) → length (positions_after prefixes earlier files) ≡ length files
positions-each prefixes earlier [] = refl
positions-each prefixes earlier (file ∷ files) = grind (arith, positions-each prefixes (earlier ++ file ∷ []) files)

-- each file has one listener
pub one_each : (prefixes : List (List ℕ)) (files : List (String Global))
    → length (listener_positions prefixes (map string_bytes files)) ≡ length files
one_each prefixes files = grind (arith, positions-each prefixes [] (map string_bytes files), length-map files string_bytes)

pub names_push : (prefixes earlier : List (List ℕ)) (file : List ℕ)
    → listener_names prefixes (earlier ++ file ∷ [])
    ≡ listener_names prefixes earlier
    ++ cond (list_any (is_beside prefixes file) earlier) [] (name_by prefixes (prefix_of prefixes file) file ∷ [])
names_push prefixes earlier file = grind (arith, names-more prefixes [] earlier (file ∷ []), append-nil)

pub positions_push : (prefixes earlier : List (List ℕ)) (file : List ℕ)
    → listener_positions prefixes (earlier ++ file ∷ [])
    ≡ listener_positions prefixes earlier ++ position_of prefixes earlier file ∷ []
positions_push prefixes earlier file = positions-more prefixes [] earlier (file ∷ [])

-- ---- the listener of each prefix

begun-more : (prefixes earlier : List (List ℕ)) (file : List ℕ) (at : ℕ)
    → begun_by prefixes (earlier ++ file ∷ []) at
    ≡ cond (list_any (takes prefixes at) earlier) (begun_by prefixes earlier at)
    (cond (takes prefixes at file) (Some (length (listener_names prefixes earlier))) None)
begun-more prefixes earlier file at = grind (arith, nat_tests, any-more, front-any, front-none, append-nil)

-- before any file
pub nothing_begun : (prefixes : List (List ℕ)) → HasBegun prefixes [] [] (replicate (length prefixes) None)
nothing_begun prefixes = grind (arith, length-replicate, get_or-replicate, none-some)

module _ (prefixes earlier : List (List ℕ)) (file : List ℕ) (names : List (List ℕ)) (begun : List (Option ℕ))
    (has : HasBegun prefixes earlier names begun) where
  -- what a file does that takes this prefix, or none
  abbrev shares : Option ℕ → List ℕ → Bool
  shares own other = is_same own (prefix_of prefixes other)

  named_by : (own : Option ℕ) → prefix_of prefixes file ≡ own
      → (listener_names prefixes (earlier ++ file ∷ [])
      ≡ listener_names prefixes earlier ++ cond (list_any (shares own) earlier) [] (name_by prefixes own file ∷ []))
      × (position_of prefixes earlier file ≡ length (listener_names prefixes (before_first (shares own) earlier)))
  named_by own is = (
    names_push prefixes earlier file
        ∙ ap (λ o. listener_names prefixes earlier ++ cond (list_any (shares o) earlier) [] (name_by prefixes o file ∷ [])) is,
    ap (λ o. length (listener_names prefixes (before_first (shares o) earlier))) is,
  )

  -- a file that takes no prefix begins a listener
  pub begun_alone : prefix_of prefixes file ≡ None
      → (length names ≡ position_of prefixes earlier file)
      × HasBegun prefixes (earlier ++ file ∷ []) (names ++ file ∷ []) begun
  begun_alone none =
      let by = named_by None none in
      let nobody = any-never (shares None) (λ other. refl) earlier in
      grind (arith, nat_tests, front-whole, begun-more, has.each, has.inside, length-append)

  -- a file that takes a prefix whose listener has begun
  pub begun_again : (at listener : ℕ) → prefix_of prefixes file ≡ Some at → at < length prefixes → get_or begun at None ≡ Some listener
      → (listener ≡ position_of prefixes earlier file) × HasBegun prefixes (earlier ++ file ∷ []) names begun × (listener < length names)
  begun_again at listener own inside held =
      let by = named_by (Some at) own in
      let before = has.each at inside in
      let within = has.inside at listener inside held in
      grind (arith, nat_tests, begun-more, has.each, has.inside, append-nil)

  -- a file that takes a prefix whose listener begins with it
  pub begun_first : (at : ℕ) → prefix_of prefixes file ≡ Some at → at < length prefixes → get_or begun at None ≡ None
      → (length names ≡ position_of prefixes earlier file)
      × HasBegun prefixes (earlier ++ file ∷ []) (names ++ get_or prefixes at [] ∷ []) (set begun at (Some (length names)))
  begun_first at own inside held =
      let by = named_by (Some at) own in
      let before = has.each at inside in
      grind (arith, nat_tests, front-whole, begun-more, has.each, has.inside, length-append, length-set, get_or-set_same, get_or-set_other)

-- ---- what the code knows

pub get_or-named : (names : List (String Global)) (at : ℕ) (name : String Global) → at < length names
    → get_or (map string_bytes names) at [] ≡ string_bytes (get_or names at name)
get_or-named names at name inside = get_or-map string_bytes names at name [] inside

pub prefix-inside : (prefixes : List (List ℕ)) (file : List ℕ) (at : ℕ) → prefix_of prefixes file ≡ Some at → at < length prefixes
prefix-inside prefixes file at own = (position-Some (λ prefix. fits prefix file) prefixes at [] own).0

-- what is lent has as many elements when it comes back
pub take-back : (prefixes files more : List (List ℕ)) (count : ℕ) (begun after : List (Option ℕ)) (names all : List (List ℕ))
    → HasBegun prefixes files names begun → HasBegun prefixes more all after → count ≡ length begun
    → take count (after ++ drop (length after) begun) ≡ after
take-back prefixes files more count begun after names all has then counted = grind (arith, nat_tests, take-append_seam)
