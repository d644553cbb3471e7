-- Hosts among rows, and the services on them.
use Rattle.std.proofs.Common.{◌+◌, ◌<◌, drop, get_or, length, subst}
use Rattle.std.proofs.Common.{◌≡◌, refl, sym, ◌∙◌, ap, ℕ, Bool, false, not, ◌&&◌, cond, List, [], ◌∷◌, map}
use Rattle.std.proofs.lemmas.{List.{at_drop_more}, List.Elements.{filter_agree}}
use Rattle.std.specs.{Borrow.{Bor}, List.{filter, flat_map}, List.Sorted.{IsStable, ties}, Cmp.Lexicographic.{nat_list_cmp_total, slice_cmp}}
use Rattle.std.specs.{Ordering.{is_eq, is_lt, nat_cmp, ordering_reverse}, declared.cmp.Ordering.{Ordering}}
use Rattle.std.specs.declared.cmp.Ordering.TheVariants.{Less, Equal, Greater}
use Rattle.dns_name.specs.Name.{folded, name_text}
use Rattle.mdns_join.specs.declared.latest.Latest.{Latest}
use Rattle.mdns_browse.specs.Hosts.{AreByTarget, HostRow, ServedRow, host_in, is_on, keeps_host, once, owners_of_addresses, served_lent}
use Rattle.mdns_browse.specs.Hosts.{service_at, services_at, services_in, target_cmp}
use Rattle.mdns_browse.specs.Services.{AreAscending, GivenRow, instance_in, same_text, servers_of}
use Rattle.mdns_browse.specs.declared.{about.Subject.{Subject}, host.HostedInstance.{HostedInstance}}
use Rattle.mdns_browse.proofs.{InstanceLemmas.{only, shown_in}, SearchLemmas.{filter-map}}

-- ---- servers by target

tied : (o : Ordering) → is_eq o ≡ (not (is_lt (ordering_reverse o)) && not (is_lt o))
tied Less = refl
tied Equal = refl
tied Greater = refl

-- a stable sort leaves those of one target in their order
pub stable_on : (xs ys : List HostedInstance) → IsStable target_cmp xs ys → (name : Bor (List ℕ))
    → filter (is_on name.now) (map served_lent ys) ≡ filter (is_on name.now) (map served_lent xs)
unfolding same_text
stable_on xs ys stable name =
    filter-map served_lent (is_on name.now) ys
    ∙ ap (map served_lent)
    (filter_agree on ties_it like ys ∙ stable it ∙ sym (filter_agree on ties_it like xs)) ∙ sym (filter-map served_lent (is_on name.now) xs)
  where
    it : HostedInstance
    it = record { instance = name; target = name; port = 0 }

    on : HostedInstance → Bool
    on service = is_on name.now (served_lent service)

    ties_it : HostedInstance → Bool
    ties_it = ties (λ one other. is_lt (target_cmp one other)) it

    like : (service : HostedInstance) → on service ≡ ties_it service
    like service =
        tied (slice_cmp nat_cmp (folded service.target.now) (folded name.now))
        ∙ ap (λ o. not (is_lt o) && not (is_lt (slice_cmp nat_cmp (folded service.target.now) (folded name.now))))
        (sym (nat_list_cmp_total.antisymm (folded name.now) (folded service.target.now)))

-- ---- the servers of instances

module _ (rows : List Latest) where
  -- by the SRV records of an instance that were seen
  abbrev pub served_by : List ℕ → List Latest → List ServedRow
  served_by name found = map (service_at (instance_in rows name)) (servers_of rows found)

  -- by the records that give instances
  abbrev pub services_given : List GivenRow → List ServedRow
  services_given given = flat_map services_at (only (shown_in rows given))

-- ---- the hosts of the rows that are left

module _ (about : List Subject) (all : List Latest) (before : List ℕ) where
  abbrev pub hosts_left : List Latest → List HostRow
  hosts_left rows = filter (keeps_host about all) (map (host_in all) (once before (owners_of_addresses rows)))

-- the hosts that were found among rows and servers that are equal to these
pub found_hosts : (about : List Subject) {hosts : List HostRow} {seen rows : List Latest} {held services : List HostedInstance}
    → (AreAscending seen → AreByTarget (services_in seen) held → hosts ≡ hosts_left about seen [] seen) → seen ≡ rows → held ≡ services
    → AreAscending rows → AreByTarget (services_in rows) services → hosts ≡ hosts_left about rows [] rows
found_hosts about {hosts} {held = held} found same_rows same_services ascending by_target =
    subst (λ all. AreAscending all → AreByTarget (services_in all) held → hosts ≡ hosts_left about all [] all) same_rows found ascending
    (subst (AreByTarget _) (sym same_services) by_target)

-- ---- text

-- the names of the instances of the services that are left
abbrev pub names_left : List ℕ → List HostedInstance → List (List ℕ)
names_left before services = map name_text (once before (map (λ (service : ServedRow). service.instance) (map served_lent services)))

-- the name of the first of them, where it isn't the name before
pub names-more : (before : List ℕ) (services : List HostedInstance) (i : ℕ) (service : HostedInstance) → i < length services
    → service ≡ get_or services i service → same_text before service.instance.now ≡ false
    → names_left before (drop i services) ≡ name_text service.instance.now ∷ names_left service.instance.now (drop (i + 1) services)
names-more before services i service within at other =
    let left = map (λ (service : ServedRow). service.instance) (map served_lent (drop (i + 1) services)) in
    let name = service.instance.now in
    at_drop_more (names_left before) services i service within
    ∙ ap (λ first. names_left before (first ∷ drop (i + 1) services)) (sym at)
    ∙ ap (λ same. map name_text (cond same (once before left) (name ∷ once name left))) other
