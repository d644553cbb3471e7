use Rattle.std.proofs.Common.{[]}
use Rattle.mdns_message.specs.{Message.{Run}, RecordAt.{QuestionStands}}
use Rattle.dns_name.proofs.PointerLemmas.{Knowing}
use Rattle.mdns_message.proofs.message.questions.Given as goal

abbrev pub invariant-loop : goal.invariant-loop
invariant-loop l =
    Knowing (Run (QuestionStands l.message) l.counter l.start [] l.offset) l.message l.reader.names.pointers.ends.items
