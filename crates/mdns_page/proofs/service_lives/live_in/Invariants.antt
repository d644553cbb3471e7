use Rattle.std.proofs.Common.{◌≡◌, map, take}
use Rattle.mdns_lives.specs.{LentLives.{row_lent}, declared.life.Life.{Life}}
use Rattle.mdns_page.specs.ServiceLives.{IsWithin, servers_in}
use Rattle.mdns_page.proofs.service_lives.live_in.Given as goal

-- a life has the same servers by the records so far
abbrev pub invariant-loop-record : goal.invariant-loop-record
invariant-loop-record l =
    (life : Life) → IsWithin l.span life
    → servers_in (map row_lent l.near.items) life ≡ servers_in (map row_lent (take l.record-index l.named)) life
