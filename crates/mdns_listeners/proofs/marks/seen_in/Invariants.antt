use Rattle.std.proofs.Common.{◌≡◌, take}
use Rattle.std.specs.List.{filter}
use Rattle.mdns_listeners.specs.{Marks.{seen_of}, Numbers.{is_of}}
use Rattle.mdns_listeners.proofs.marks.seen_in.Given as goal

abbrev pub invariant-loop-at : goal.invariant-loop-at
invariant-loop-at l = l.seen ≡ seen_of (filter (is_of l.listener) (take l.at-index l.times))
