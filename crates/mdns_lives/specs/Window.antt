-- The moments of which something is listed, and the lives that meet them.
use Rattle.std.specs.Prelude.{Bool, true, false, ◌&&◌, nat_le, nat_lt, Option, Some, option_map, unwrap_or}
use Rattle.mdns_capture.specs.declared.moment.Moment.{Moment}
use Rattle.mdns_lives.specs.declared.{life.Life.{Life}, window.Window.{Window}}

-- the moment is not before the beginning, and before the end
abbrev pub in_window : Window → Moment → Bool
in_window window moment = unwrap_or (option_map (λ (since : Moment). nat_le since.nanos moment.nanos) window.since) true
    && unwrap_or (option_map (λ (until : Moment). nat_lt moment.nanos until.nanos) window.until) true

-- there are both, and no moment is between them
abbrev pub is_reversed : Option Moment → Option Moment → Bool
is_reversed (Some since) (Some until) = nat_le until.nanos since.nanos
is_reversed since until = false

-- the life, which ends before the moment `until`, ends after the beginning, and begins before the end
abbrev pub meets : Window → Life → Bool
meets window life = unwrap_or (option_map (λ (since : Moment). nat_lt since.nanos life.until) window.since) true
    && unwrap_or (option_map (λ (until : Moment). nat_lt life.from.nanos until.nanos) window.until) true
