use Rattle.std.proofs.Common.{subst}
use Rattle.mdns_listeners.specs.HeardMessage.{AreHeardIn}
use Rattle.uses.proofs.listeners.rows_of_same_messages.Goals as goal

pub returns-clause-same : goal.returns-clause-same
returns-clause-same c same =
    c.one_list_of_rows.ensures c.args.other.told _ _
    (subst (λ told. AreHeardIn told c.in_ok-rows.rows.items) same c.in_ok-rows.ensures.heard) c.in_ok-others.ensures.heard
