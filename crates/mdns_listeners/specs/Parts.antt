-- The rows of what was told in two parts.
use Rattle.std.specs.{Prelude.{List, ◌++◌, map}, Cmp.Lexicographic.{slice_cmp}, Ordering.{nat_cmp}}
use Rattle.join_map.specs.Entries.{joined}
use Rattle.mdns_listeners.specs.{declared.heard_message.HeardAt.{HeardAt}, HeardMessage.{HeardRow}}

-- The rows of both lists, in order: a message that has a row in each has the times of the first, and then those of the second.
abbrev pub joined_rows : List HeardRow → List HeardRow → List HeardRow
joined_rows rows more =
    map (λ entry. record { message = entry.0; times = entry.1 })
    (joined (slice_cmp nat_cmp) (λ (one other : List HeardAt). one ++ other) (map (λ row. (row.message, row.times)) rows)
    (map (λ row. (row.message, row.times)) more))
