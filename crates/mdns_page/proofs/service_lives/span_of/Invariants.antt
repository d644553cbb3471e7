use Rattle.std.proofs.Common.{take}
use Rattle.std.specs.List.{All}
use Rattle.mdns_page.specs.ServiceLives.{IsWithin}
use Rattle.mdns_page.proofs.service_lives.span_of.Given as goal

-- the lives so far are within the span
abbrev pub invariant-loop-life : goal.invariant-loop-life
invariant-loop-life l = All (IsWithin (l.from, l.until)) (take l.life-index l.lives)
