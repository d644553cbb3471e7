use Rattle.std.proofs.Common.{◌≡◌, ◌++◌, length}
use Rattle.std.specs.{Cmp.Lexicographic.{slice_cmp}, List.{All}, List.Sorted.{IsStrictlySortedBy}, Ordering.{nat_cmp}}
use Rattle.mdns_listeners.specs.{HeardMessage.{HasWholeAddress, messages_of}, Senders.{sender_rows}}
use Rattle.mdns_listeners.proofs.senders.sender_rows.Given as goal

-- the rows of the senders whose messages are before the rest were appended
abbrev pub invariant-loop-rest : goal.invariant-loop-rest
invariant-loop-rest l = record {
  rows : l.all.items ++ sender_rows l.rest l.spans ≡ sender_rows l.rows l.spans;
  ascending : IsStrictlySortedBy (slice_cmp nat_cmp) (messages_of l.rest);
  addressed : All (λ row. HasWholeAddress row.message) l.rest;
}

abbrev pub decreases-loop-rest : goal.decreases-loop-rest
decreases-loop-rest l = length l.rest
