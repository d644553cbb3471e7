use Rattle.std.proofs.Common.{◌≤◌, length, arith}
use Rattle.mdns_lives.proofs.MessageChronicleLemmas.{records-ended}
use Rattle.mdns_lives.proofs.message_chronicle.hear_messages.Goals as goal

pub returns : goal.returns
returns c = λ heard s.
    let past : length c.args.waiting.now ≤ c.loop-place.place = omega (arith, c.loop-place-test.false, c.loop-place.auto.place-end) in
    records-ended c.loop-place.chronicle c.args.messages.now c.args.waiting.now c.loop-place.place heard past
    (c.loop-place.invariant heard s)
