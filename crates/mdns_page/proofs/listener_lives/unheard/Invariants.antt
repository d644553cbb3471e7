use Rattle.std.proofs.Common.{List, [], ℕ, map}
use Rattle.std.specs.List.{range_with_len}
use Rattle.mdns_message.specs.declared.hearing.Hearing.{Hearing}
use Rattle.mdns_lives.specs.Chronicle.{Chronicles}
use Rattle.mdns_browse.specs.Services.{AreEach}
use Rattle.mdns_page.proofs.listener_lives.unheard.Given as goal

-- the listeners before the index heard nothing
abbrev pub invariant-loop-listener : goal.invariant-loop-listener
invariant-loop-listener l =
    let nothing : List Hearing = [] in
    AreEach Chronicles l.captures.items (map (λ (listener : ℕ). nothing) (range_with_len 0 l.listener))
