use Rattle.std.proofs.Common.{◌≡◌, length, map, take}
use Rattle.std.specs.Prelude.{nat_lt}
use Rattle.mdns_message.specs.Resource.{key_of}
use Rattle.mdns_lives.specs.Heard.{seconds_held}
use Rattle.mdns_page.specs.Timeline.{seconds_lent, shown_seconds}
use Rattle.mdns_page.proofs.seconds_by_capture.Hearers.look_up.Given as goal

-- the seconds of the captures so far
abbrev pub invariant-loop-chronicle : goal.invariant-loop-chronicle
invariant-loop-chronicle l =
    map seconds_lent l.heard.items ≡ shown_seconds (nat_lt 4 (length l.self.chronicles.now))
    (map (λ c. seconds_held c (key_of l.resource)) (take l.chronicle-index l.self.chronicles.now))
