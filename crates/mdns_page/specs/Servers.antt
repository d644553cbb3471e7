-- The servers of instances: their SRV records (RFC 6763, section 5).
use Rattle.std.specs.{Prelude.{ℕ, List, [], map, option_map, unwrap_or}, List.{filter}, Ordering.{is_eq}}
use Rattle.mdns_message.specs.{Resource.{Body, set_key_cmp, type_number}, Parts.{pointer_of}}
use Rattle.mdns_message.specs.declared.record_type.RecordType.TheVariants as kind
use Rattle.mdns_join.specs.declared.latest.Latest.{Latest}
use Rattle.mdns_cache.specs.Live.{key_of_last}
use Rattle.mdns_lives.specs.declared.life.Life.{Life}
use Rattle.mdns_browse.specs.Services.{set_for}

-- of records those that are SRV records of the name, in their order
abbrev pub servers_named : List (Latest × List Life) → List ℕ → List (Latest × List Life)
servers_named rows name = filter (λ row. is_eq (set_key_cmp (key_of_last row.0).set (set_for name (type_number kind.Srv)))) rows

-- of each SRV record of the instance that PTR data gives all its lives; none for other data
abbrev pub servers_of : List (Latest × List Life) → Body → List (List Life)
servers_of rows b =
    unwrap_or (option_map (λ name. map (λ (row : Latest × List Life). row.1) (servers_named rows name)) (pointer_of b)) []
