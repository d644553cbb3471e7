-- The axis of the pictures: moments become places, and are written with as much of their dates as the page needs.
use Rattle.std.specs.Prelude.{◌≡◌, ℕ, ◌+◌, ◌-◌, ◌/◌, ◌==◌, ◌&&◌, nat_le, min, max, Bool, if◌then◌else◌}
use Rattle.std.specs.Prelude.{Option, None, Some, option_map, unwrap_or, List, [], ◌∷◌, ◌++◌}
use Rattle.mdns_capture.specs.declared.moment.Moment.{Moment}
use Rattle.mdns_lives.specs.declared.window.Window.{Window}
use Rattle.mdns_survey.specs.declared.{reading.Span.{Span}, request.AsOf.{AsOf}}
use Rattle.mdns_survey.specs.LivesAnswer.{captures_end, earliest_nanos, latest_nanos}
use Rattle.people_text.specs.MomentText.{clock_text, date_text, month_day_text, seconds_of, year_at}
use Rattle.mdns_page.specs.declared.axis.{Axis.{Axis}, Dates.{Dates}, Dates.TheVariants.{Omitted, WithoutYear, Whole}}

-- the place of a moment, from 0 on, of fewer than 1000; one after the end has the place of the end, one before the start that of the start
unfoldable pub place : Axis → ℕ → ℕ
place axis nanos = (min nanos axis.end.nanos - axis.start.nanos) / ((axis.end.nanos - axis.start.nanos) / 1000 + 1)

-- where a bar ends: 3 places after its begin at least, so that a short life stays visible
unfoldable pub place_end : Axis → ℕ → ℕ → ℕ
place_end axis from until = max (place axis until) (place axis from + 3)

-- two moments are of one date
abbrev pub is_same_date : ℕ → ℕ → Bool
is_same_date a b = seconds_of a / 86400 == seconds_of b / 86400

-- what is drawn for the time that a capture recorded; nothing where it has no packets, or none from the start of the axis to its end
abbrev pub drawn_if : Axis → (Span → List ℕ) → Option Span → List ℕ
drawn_if axis draw None = []
drawn_if axis draw (Some span) = if nat_le span.first.nanos axis.end.nanos && nat_le axis.start.nanos span.last.nanos then draw span else []

-- ---- moments in words

-- how much of their dates moments from the first to the last need: nothing if these are of one date, and no year if of one year
abbrev pub dates_of : (first last : ℕ) → Dates
dates_of first last = if is_same_date first last then Omitted else (if year_at first == year_at last then WithoutYear else Whole)

-- the moment of a bound of a window, or this one where there is no such bound
abbrev pub bound_or : ℕ → Option Moment → ℕ
bound_or nanos bound = unwrap_or (option_map (λ (moment : Moment). moment.nanos) bound) nanos

-- The axis of captures with packets at these moments is the window; without its begin from the earliest packet, or the end of the axis
-- where that is earlier, and without its end to that of the captures, or the start of the axis where that is later. The moments that a
-- page writes go from the first of these to the last, or to the latest packet, where captures recorded past the moment that is asked for.
pub record IsAxis (as_of : AsOf) (window : Window) (moments : List Moment) (axis : Axis) : Type 0 where
  pub asked : axis.window ≡ window
  pub now : axis.now.nanos ≡ captures_end as_of moments
  pub begins : axis.start.nanos ≡ bound_or (earliest_nanos (bound_or axis.now.nanos window.until) moments) window.since
  pub ends : axis.end.nanos ≡ max axis.start.nanos (bound_or axis.now.nanos window.until)
  pub dates : axis.dates ≡ dates_of (earliest_nanos axis.start.nanos moments)
      (max axis.end.nanos (max axis.now.nanos (latest_nanos moments)))

-- a date, with its year where the page needs it: `11-22`, `2026-11-22`
abbrev pub day_text : Dates → ℕ → List ℕ
day_text Whole nanos = date_text nanos
day_text _ nanos = month_day_text nanos

-- a moment in words, to the second: `07:28:19`, `11-22 07:28:19` or `2026-11-22 07:28:19`, as the page needs it
unfoldable pub short_text : Dates → ℕ → List ℕ
short_text Omitted nanos = clock_text nanos
short_text dates nanos = day_text dates nanos ++ 32 ∷ clock_text nanos
