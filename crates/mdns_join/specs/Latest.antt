-- The last hearing of a record: the greatest by moment, then TTL, then spelling.
use Rattle.std.specs.{Prelude.{◌≡◌, ℕ}, declared.cmp.Ordering.{Ordering}, Ordering.{nat_cmp, on, then_cmp}}
use Rattle.mdns_capture.specs.declared.moment.Moment.{Moment}
use Rattle.mdns_message.specs.declared.{hearing.Hearing.{Hearing}, resource.Resource.{Resource}, key.Key.{Key}}
use Rattle.mdns_message.specs.Resource.{key_of, resource_cmp}
use Rattle.join_map.specs.Join.{greater_of}
use Rattle.mdns_join.specs.declared.latest.Latest.{Latest}

-- a last hearing by its parts
abbrev pub latest : Moment → ℕ → Resource → Latest
latest moment ttl resource = record { moment = moment; ttl = ttl; resource = resource }

-- the moment, TTL and resource of a hearing
abbrev pub latest_of : Hearing → Latest
latest_of h = record { moment = h.moment; ttl = h.ttl; resource = h.heard }

-- the last hearings in the order of their moments, then their TTLs, then their resources as spelled
abbrev pub latest_cmp : Latest → Latest → Ordering
latest_cmp = then_cmp (on (λ l. l.moment) (on (λ m. m.nanos) nat_cmp))
    (then_cmp (on (λ l. l.ttl) nat_cmp) (on (λ l. l.resource) resource_cmp))

-- the later of two
abbrev pub later : Latest → Latest → Latest
later = greater_of latest_cmp

-- any last hearing is valid, whatever its TTL, so that the laws hold for all contents
abbrev pub IsLatest : Latest → Type 0
IsLatest l = Unit {0}

-- the key is that of the record
abbrev pub IsKeyed : Key → Latest → Type 0
IsKeyed key l = key ≡ key_of l.resource
