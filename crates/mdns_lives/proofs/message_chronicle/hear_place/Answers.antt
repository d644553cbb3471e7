use Rattle.std.proofs.{Common.{◌≡◌, ◌<◌, length, get_or, rules}, lemmas.Result.{on_ok_weaker}}
use Rattle.mdns_lives.proofs.MessageChronicleLemmas.{is_placed, records-placed}
use Rattle.mdns_lives.proofs.message_chronicle.hear_place.Goals as goal

pub returns : goal.returns
returns c =
    let ms = c.args.messages.now in
    let tss = c.args.waiting.now in
    let place = c.args.place in
    let message = c.in-Some.message.now in
    let ts = c.in-Some-get.moments.now in
    let within : place < length tss = search rules in
    let is : ts ≡ get_or tss place ts = search rules in
    on_ok_weaker c.hear_at_each.result
    (λ hears heard. records-placed c.args.chronicle.now c.hear_at_each.new.chronicle ms tss place message ts
    (is_placed ms tss place message ts c.in-Some.ensures.within c.in-Some.ensures.some within is)
    hears heard)
    c.hear_at_each.ensures
