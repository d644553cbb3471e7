use Rattle.std.proofs.Common.{◌∙◌}
use Rattle.mdns_join.specs.laws.Latest.{moment-same}
use Rattle.mdns_lives.specs.PackedHearing.{heard_in}
use Rattle.mdns_lives.proofs.packed_hearing.PackedHearing.heard.Goals as goal

pub returns : goal.returns
returns c =
    let kept = heard_in c.self.inside in
    (λ i. record { moment = moment-same c.in-Some.moment kept.moment c.in-Some.ensures.some i; ttl = kept.ttl }) ∙ c.self.view_is
