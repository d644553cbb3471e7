-- The instances that records give among rows.
use Rattle.std.proofs.Common.{◌≡◌, refl, sym, ◌∙◌, ap, ℕ, ◌==◌, Bool, true, false, cond, Option, None, Some, is_some, option_map}
use Rattle.std.proofs.Common.{List, [], ◌∷◌, ◌++◌, length, map, arith}
use Rattle.std.proofs.lemmas.{Bool.{false≢true}, List.{append-nil, append_assoc, drop_all, drop_more, map-append}}
use Rattle.std.proofs.lemmas.{List.Elements.{filter-append, filter_map-append}, Option.{cond_some, none-some}}
use Rattle.std.specs.List.{cons_option, filter, filter_map}
use Rattle.mdns_message.specs.{Parts.{pointer_of, srv_of}, Resource.{Body, number_of}, laws.Resource.{set_key_cmp-exact}}
use Rattle.mdns_message.specs.declared.body.RecordData.TheVariants as body
use Rattle.mdns_join.specs.declared.latest.Latest.{Latest}
use Rattle.mdns_browse.specs.{About.{keeps_instance}, Given.{kept_given}, declared.about.Subject.{Subject}}
use Rattle.mdns_browse.specs.declared.instance.{Instance.{Instance}, Server.{Server}}
use Rattle.mdns_browse.specs.Services.{GivenRow, InstanceRow, body_of, given_of, gives_instance, instance_given, instance_in}
use Rattle.mdns_browse.specs.Services.{instance_row_in, instance_rows_in, lasts_in, name_if, rows_of_set, server_at, servers_of}
use Rattle.mdns_browse.proofs.SearchLemmas.{eq_is}

-- where each value is kept, all are
pub filter-all : {X : Type 0} (keep : X → Bool) → ((x : X) → keep x ≡ true) → (xs : List X) → filter keep xs ≡ xs
filter-all keep all [] = refl
filter-all keep all (x ∷ xs) = rw (all x) (ap (λ rest. x ∷ rest) (filter-all keep all xs))

-- ---- what a record gives

name_if-pointer : (test : List ℕ → Bool) (pointer : Option (List ℕ)) (name : List ℕ) → name_if test pointer ≡ Some name
    → pointer ≡ Some name
name_if-pointer test None name given = absurd (none-some name given)
name_if-pointer test (Some target) name given = ap Some (cond_some (test target) target name given).1

-- a record that gives an instance points to it
pub instance-points : (last : Latest) (name : List ℕ) → instance_given last ≡ Some name → pointer_of (body_of last) ≡ Some name
unfolding instance_given
instance-points last name given = name_if-pointer _ (pointer_of (body_of last)) name given

-- ---- instances with their records

-- the records that give instances
abbrev pub given_in : List InstanceRow → List GivenRow
given_in rows = map (λ (row : InstanceRow). row.given) rows

-- their instances
abbrev pub only : List InstanceRow → List Instance
only rows = map (λ (row : InstanceRow). row.instance) rows

module _ (rows : List Latest) where
  abbrev pub row_named : GivenRow → List ℕ → InstanceRow
  row_named given name = record { given = given; instance = instance_in rows name }

  abbrev pub shown_in : List GivenRow → List InstanceRow
  shown_in given = filter_map (instance_row_in rows) given

  -- what one record shows
  pub shown-one : (given : GivenRow) (o : Option (List ℕ)) → o ≡ pointer_of (body_of given.last)
      → shown_in (given ∷ []) ≡ cons_option (option_map (row_named given) o) []
  shown-one given o points = ap (λ o. cons_option (option_map (row_named given) o) []) (sym points)

  -- what a record that gives an instance shows
  shows : (given : GivenRow) (name : List ℕ) → instance_given given.last ≡ Some name
      → instance_row_in rows given ≡ Some (row_named given name)
  shows given name gives = ap (option_map (row_named given)) (instance-points given.last name gives)

  -- of records that give instances each shows one
  pub given-shown : (all : List GivenRow) → given_in (instance_rows_in rows all) ≡ filter gives_instance all
  given-shown [] = refl
  given-shown (given ∷ all) = by (instance_given given.last) refl (given-shown all)
    where
      by : (o : Option (List ℕ)) → instance_given given.last ≡ o → given_in (instance_rows_in rows all) ≡ filter gives_instance all
          → given_in (filter_map (instance_row_in rows) (cond (is_some o) (given ∷ filter gives_instance all) (filter gives_instance all)))
          ≡ cond (is_some o) (given ∷ filter gives_instance all) (filter gives_instance all)
      by None none rest = rest
      by (Some name) gives rest =
          ap (λ o. given_in (cons_option o (instance_rows_in rows all))) (shows given name gives) ∙ ap (λ others. given ∷ others) rest

  -- a row that is shown is the one that its record shows
  shown-by : (given : GivenRow) (row : InstanceRow) → instance_row_in rows given ≡ Some row → instance_row_in rows row.given ≡ Some row
  shown-by given row is = grind (arith, option_map, none-some)

  -- the records of rows that are kept show those rows
  pub shown-again : (keep : InstanceRow → Bool) (all : List GivenRow)
      → filter_map (instance_row_in rows) (given_in (filter keep (filter_map (instance_row_in rows) all)))
      ≡ filter keep (filter_map (instance_row_in rows) all)
  shown-again keep [] = refl
  shown-again keep (given ∷ all) = grind (arith, shown-by, shown-again keep all)

  -- without subjects all are kept
  pub kept-none : (about : List Subject) (all : List GivenRow) → (length about == 0) ≡ true
      → filter gives_instance all ≡ given_in (filter (λ (row : InstanceRow). keeps_instance about row.instance) (instance_rows_in rows all))
  unfolding keeps_instance
  kept-none [] all none = grind (arith, filter-all, given-shown)
  kept-none (subject ∷ about) all none = grind (arith, false≢true)

  -- one record more
  pub kept-more : (about : List Subject) (given : GivenRow) (others : List GivenRow)
      → kept_given about rows (given ∷ others) ≡ kept_given about rows (given ∷ []) ++ kept_given about rows others
  kept-more about given others =
      ap (λ shown. given_in (filter (λ (row : InstanceRow). keeps_instance about row.instance) shown))
      (filter_map-append (instance_row_in rows) (given ∷ []) others)
      ∙ ap given_in (filter-append (λ (row : InstanceRow). keeps_instance about row.instance) (shown_in (given ∷ [])) (shown_in others))
      ∙ map-append (λ (row : InstanceRow). row.given) _ _

  -- what is kept of one record
  pub kept-one : (about : List Subject) (given : GivenRow) (name : List ℕ) (b : Bool) → Some name ≡ pointer_of (body_of given.last)
      → keeps_instance about (instance_in rows name) ≡ b → kept_given about rows (given ∷ []) ≡ cond b (given ∷ []) []
  kept-one about given name b points keeps =
      ap (λ shown. given_in (filter (λ (row : InstanceRow). keeps_instance about row.instance) shown)) (shown-one given (Some name) points)
      ∙ by (keeps_instance about (instance_in rows name)) ∙ ap (λ b. cond b (given ∷ []) []) keeps
    where
      by : (b : Bool) → given_in (cond b (row_named given name ∷ []) []) ≡ cond b (given ∷ []) []
      by true = refl
      by false = refl

  pub kept-no_pointer : (about : List Subject) (given : GivenRow) → None ≡ pointer_of (body_of given.last)
      → kept_given about rows (given ∷ []) ≡ []
  kept-no_pointer about given none = grind (arith, shown-one)

  -- the instances by the records that give them
  pub instances-shown : (live : List (Latest × ℕ))
      → only (instance_rows_in rows (map given_of live))
      ≡ map (instance_in rows) (filter_map instance_given (lasts_in live))
  instances-shown [] = refl
  instances-shown (row ∷ live) = grind (arith, is_some, shows, instances-shown live)

-- ---- servers and texts

-- the server of SRV data
abbrev server_in : List Latest → Body → Option Server
server_in rows b = option_map (server_at rows) (srv_of b)

-- SRV data has a server
has_server : (all : List Latest) (held : Body) → number_of held ≡ 33 → (server : Server) × (server_in all held ≡ Some server)
has_server all (body.Srv priority weight port target) is = (_, refl)
has_server all (body.A octets) is = let other : 1 ≡ 33 = is in absurd (omega (arith, other))
has_server all (body.Aaaa octets) is = let other : 28 ≡ 33 = is in absurd (omega (arith, other))
has_server all (body.Ptr target) is = let other : 12 ≡ 33 = is in absurd (omega (arith, other))
has_server all (body.Txt text) is = let other : 16 ≡ 33 = is in absurd (omega (arith, other))

-- each SRV record of a name has one
pub served-each : (all rows : List Latest) (name : List ℕ)
    → length (servers_of all (rows_of_set rows name 33)) ≡ length (rows_of_set rows name 33)
served-each all [] name = refl
served-each all (row ∷ rows) name = grind (arith, set_key_cmp-exact, eq_is, has_server, served-each all rows name)

-- WHAT FUNCTIONS ARE PROVED BY

pub ruleset for_kept_of = (drop_all, drop_more, kept-more, kept-none, append-nil, append_assoc)

pub ruleset for_push_kept = (kept-no_pointer, kept-one, append-nil, map-append)
