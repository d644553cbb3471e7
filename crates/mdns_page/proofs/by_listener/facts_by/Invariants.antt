use Rattle.std.proofs.Common.{◌≡◌, map}
use Rattle.std.specs.List.{range_with_len}
use Rattle.mdns_page.specs.{ByListener.{facts_at}, Captures.{facts_lent}}
use Rattle.mdns_page.proofs.by_listener.facts_by.Given as goal

-- the facts of the listeners before the index were added
abbrev pub invariant-loop-listener : goal.invariant-loop-listener
invariant-loop-listener l = map facts_lent l.facts.items ≡ map (facts_at l.groups l.readings) (range_with_len 0 l.listener)
