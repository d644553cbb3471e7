-- Moments as their nanoseconds.
use Rattle.std.specs.Prelude.{ℕ, List, map}
use Rattle.mdns_capture.specs.declared.moment.Moment.{Moment}

-- the nanoseconds of each moment
abbrev pub nanos_of : List Moment → List ℕ
nanos_of moments = map (λ (m : Moment). m.nanos) moments
