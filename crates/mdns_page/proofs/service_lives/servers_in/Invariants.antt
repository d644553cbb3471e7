use Rattle.std.proofs.Common.{◌≡◌, map, take}
use Rattle.mdns_message.specs.Parts.{srv_lent}
use Rattle.mdns_lives.specs.LentLives.{row_lent}
use Rattle.mdns_page.specs.ServiceLives.{servers_in}
use Rattle.mdns_page.proofs.service_lives.servers_in.Given as goal

-- those of the records so far
abbrev pub invariant-loop-record : goal.invariant-loop-record
invariant-loop-record l = map srv_lent l.servers.items ≡ servers_in (map row_lent (take l.record-index l.named)) l.life
