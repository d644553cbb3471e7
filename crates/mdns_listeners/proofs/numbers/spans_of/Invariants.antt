use Rattle.std.proofs.Common.{◌≡◌, map}
use Rattle.std.specs.List.{range_with_len}
use Rattle.mdns_listeners.specs.Numbers.{spans_of_listener}
use Rattle.mdns_listeners.proofs.numbers.spans_of.Given as goal

abbrev pub invariant-loop-listener : goal.invariant-loop-listener
invariant-loop-listener l = l.all.items ≡ map (spans_of_listener l.by_file l.spans_by_file) (range_with_len 0 l.listener)
