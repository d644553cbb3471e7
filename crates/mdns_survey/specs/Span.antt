-- The time span of packets.
use Rattle.std.specs.Prelude.{◌≡◌, ◌≤◌, nat_lt, if◌then◌else◌, List, [], ◌∷◌, All, Contains, Option, Some, None}
use Rattle.mdns_capture.specs.declared.moment.Moment.{Moment}
use Rattle.mdns_cache.specs.Contents.{later_moment}
use Rattle.mdns_survey.specs.declared.reading.Span.{Span}

-- the earlier of two moments
abbrev pub earlier_moment : Moment → Moment → Moment
earlier_moment a b = if nat_lt b.nanos a.nanos then b else a

-- the span from the earlier beginning to the later end, where there are both
abbrev pub joined_spans : Option Span → Option Span → Option Span
joined_spans None other = other
joined_spans (Some a) None = Some a
joined_spans (Some a) (Some b) =
    Some (record { first = earlier_moment a.first b.first; last = later_moment a.last b.last })

-- the span of one moment
abbrev pub span_at : Moment → Span
span_at moment = record { first = moment; last = moment }

-- the earliest and the latest of the moments; none where there are no moments
abbrev pub span_of : List Moment → Option Span
span_of [] = None
span_of (moment ∷ moments) = joined_spans (Some (span_at moment)) (span_of moments)

-- it is from one of the moments to another, and none of them is earlier or later
pub record AreEnds (moments : List Moment) (span : Span) : Type 0 where
  pub first : Contains moments span.first
  pub last : Contains moments span.last
  pub within : All (λ moment. (span.first.nanos ≤ moment.nanos) × (moment.nanos ≤ span.last.nanos)) moments

-- the same, and there are no moments where there is no span
abbrev pub HasEnds : List Moment → Option Span → Type 0
HasEnds moments None = moments ≡ []
HasEnds moments (Some span) = AreEnds moments span
