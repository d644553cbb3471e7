use Rattle.std.proofs.Common.{rules}
use Rattle.mdns_message.proofs.{FlatLemmas.{name_held}, KnownLemmas.{known_more}}
use Rattle.mdns_message.proofs.known.new_name.Goals as goal

pub returns-in_ok-push-clause-holds : goal.returns-in_ok-push-clause-holds
returns-in_ok-push-clause-holds c = name_held _ _ _ _ _ _ c.in_ok-after.ensures.stands (search rules) (search rules)

pub returns-in_ok-push-clause-known : goal.returns-in_ok-push-clause-known
returns-in_ok-push-clause-known c =
    known_more _ _ _ _ _ _ _ _ _ c.read_onto.ensures.begins c.requires.known c.requires.begins
    (returns-in_ok-push-clause-holds c) c.in_ok-push.ensures.items

pub returns-else-len-lt-MOST_KNOWN-clause-holds : goal.returns-else-len-lt-MOST_KNOWN-clause-holds
returns-else-len-lt-MOST_KNOWN-clause-holds c = name_held _ _ _ _ _ _ c.in_ok-after.ensures.stands (search rules) (search rules)
