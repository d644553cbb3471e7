use Rattle.std.proofs.Common.{[], ◌∷◌, ◌++◌, append_assoc, subst, sym, arith}
use Rattle.mdns_message.specs.Borrowed.{hearing_lent}
use Rattle.mdns_listeners.specs.SenderNames.{SufficeFor}
use Rattle.mdns_listeners.proofs.HeldNameLemmas.{adds_keeps, adds_next}
use Rattle.mdns_listeners.proofs.sender_names.SenderNameCollector.hear_all.Goals as goal

pub loop-hearing-preserved : goal.loop-hearing-preserved
loop-hearing-preserved c =
    let so_far = c.loop-hearing.invariant in
    let hearing = hearing_lent c.in-Some.hearing in (
      so_far.0 ++ hearing ∷ [],
      grind (arith, append_assoc),
      adds_next c.args.self.now c.loop-hearing.self c.hear.new.self so_far.0 hearing so_far.2 c.in_ok-hear.ensures.ok,
    )

pub returns-in_err-hear-clause-keeps : goal.returns-in_err-hear-clause-keeps
returns-in_err-hear-clause-keeps c =
    subst (λ names. SufficeFor names c.args.self.now) (sym c.in_err-hear.ensures.err)
    (adds_keeps c.args.self.now c.loop-hearing.self _ c.loop-hearing.invariant.2)

pub returns-clause-keeps : goal.returns-clause-keeps
returns-clause-keeps c = adds_keeps c.args.self.now c.loop-hearing.self _ c.loop-hearing.invariant.2
