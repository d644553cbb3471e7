use Rattle.std.proofs.Common.{◌≡◌, ◌+◌, ◌*◌, ◌/◌, ◌%◌, ap, arith}
use Rattle.mdns_capture.specs.{Limits.{second}, declared.moment.Moment.{Moment}}
use Rattle.mdns_join.specs.laws.Latest.{moment-same}
use Rattle.mdns_lives.specs.declared.life.RecordHearing.{RecordHearing}
use Rattle.mdns_lives.proofs.packed_hearing.PackedHearing.of.Goals as goal

pub returns : goal.returns
returns c =
    let heard = c.args.heard in
    let n = c.nanos-nanos.result in
    let heard_at : Moment → RecordHearing = λ m. record { moment = m; ttl = heard.ttl } in
    let again : n / second * second + n % second ≡ heard.moment.nanos = omega (arith, c.nanos-nanos.ensures) in
    ap heard_at (moment-same _ heard.moment again)
