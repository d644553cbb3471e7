use Rattle.std.proofs.Common.{List}
use Rattle.mdns_message.specs.declared.hearing.Hearing.{Hearing}
use Rattle.mdns_cache.specs.Repeats.{StandsWith}
use Rattle.mdns_cache.proofs.message_gathering.MessageGathering.finish.Given as goal

-- the messages before those that are left were heard
abbrev pub invariant-loop-message : goal.invariant-loop-message
invariant-loop-message l = (heard : List Hearing) → StandsWith l.fn.self.contents l.fn.self.memory heard
    → StandsWith l.gathering l.message-iterator.rest.items heard
