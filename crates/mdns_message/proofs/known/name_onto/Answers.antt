use Rattle.mdns_message.proofs.KnownLemmas.{known_pointed}
use Rattle.mdns_message.proofs.known.name_onto.Goals as goal

pub returns-in-Some-known_at-clause-holds : goal.returns-in-Some-known_at-clause-holds
returns-in-Some-known_at-clause-holds c =
    known_pointed _ _ c.args.buffer.now.known.items _ c.in-Some.target _ c.requires.known c.in-Some.ensures.leads
    (rw (← c.as_slice.ensures.value) c.in-Some-known_at.ensures)
