use Rattle.std.proofs.Common.{◌≡◌, ◌++◌, map}
use Rattle.mdns_listeners.specs.declared.sender_names.SenderAddressName.{SenderAddressName}
use Rattle.mdns_listeners.proofs.sender_names.split.Given as goal

-- the lists have what was taken of the names
abbrev pub invariant-loop-one : goal.invariant-loop-one
invariant-loop-one l = record {
  sources : l.sources.items ≡ map (λ (one : SenderAddressName). one.source) l.yielded;
  names : l.names.items ≡ map (λ (one : SenderAddressName). one.name) l.yielded;
  left : l.fn.held.items ≡ l.yielded ++ l.one-iterator.rest.items;
}
