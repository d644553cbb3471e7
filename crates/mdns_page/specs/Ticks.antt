-- The ticks of the axis.
use Rattle.std.specs.Prelude.{ℕ, ◌+◌, ◌-◌, ◌*◌, ◌/◌, ◌%◌, ◌==◌, ◌&&◌, nat_le, nat_lt, Bool, false}
use Rattle.std.specs.{Prelude.{if◌then◌else◌, List, [], ◌∷◌, ◌++◌, map, codes}, Fmt.{decimal}, Int.{div_ceil}}
use Rattle.std.specs.List.{flat_map, range_with_len}
use Rattle.mdns_capture.specs.Limits.{second}
use Rattle.people_text.specs.MomentText.{clock_text, hours_text, seconds_of}
use Rattle.mdns_page.specs.{Axis.{day_text, place}, Captures.{Facts}, Lanes.{bases_text, height}, declared.axis.Axis.{Axis}}
use Rattle.mdns_page.specs.declared.axis.{Dates.{Dates}, Dates.TheVariants.{Whole}}

-- numbers of seconds between two ticks
unfoldable pub steps : List ℕ
steps = 1 ∷ 2 ∷ 5 ∷ 10 ∷ 15 ∷ 30 ∷ 60 ∷ 120 ∷ 300 ∷ 600 ∷ 900 ∷ 1800 ∷ 3600 ∷ 7200 ∷ 10800 ∷ 21600 ∷ 43200 ∷ []

-- the first step that is longer than a seventh of the span, in seconds; else the least number of whole days that is
abbrev pub first_step : ℕ → List ℕ → ℕ
first_step span [] = 86400 * (span / 604800 + 1)
first_step span (step ∷ steps) = if nat_lt span (7 * step) then step else first_step span steps

unfoldable pub step_of : Axis → ℕ
step_of axis = first_step ((axis.end.nanos - axis.start.nanos) / second) steps

-- the multiples of a number from `low` to `high`, in ascending order
unfoldable pub multiples : ℕ → ℕ → ℕ → List ℕ
multiples step low high = let first = div_ceil low step in map (λ k. k * step) (range_with_len first (high / step + 1 - first))

-- the moments that have a tick: each multiple of the step since 1970, from the start to the end
unfoldable pub ticks : Axis → List ℕ
ticks axis = multiples (step_of axis * second) axis.start.nanos axis.end.nanos

-- the line of a tick, through a picture of this height
abbrev pub tick_line : Axis → (high : ℕ) → ℕ → List ℕ
tick_line axis high tick = 77 ∷ decimal (place axis tick) ++ codes " 0V" ++ decimal high

-- a date at midnight, else a time of day, with seconds where the step isn't a whole number of minutes
unfoldable pub tick_text : Dates → ℕ → ℕ → List ℕ
tick_text dates step tick =
    if seconds_of tick % 86400 == 0 then day_text dates tick else (if nat_lt step 60 then clock_text tick else hours_text tick)

-- a date with its year takes so much room that narrow windows show each second one alone
abbrev pub is_long : Dates → ℕ → Bool
is_long Whole tick = seconds_of tick % 86400 == 0
is_long _ tick = false

-- the label of a tick; near an end of the axis it would stick out
unfoldable pub tick_label : Axis → ℕ → ℕ → List ℕ
tick_label axis step tick =
    let at = place axis tick in
    if nat_le 30 at && nat_le at 970
    then codes "<text" ++ (if is_long axis.dates tick then codes " class=\"y\"" else []) ++ codes " x=\"" ++ decimal (at / 10)
    ++ 46 ∷ decimal (at % 10) ++ codes "%\" y=\"12\">" ++ tick_text axis.dates step tick ++ codes "</text>"
    else []

-- what the pictures share: the labels, and the lines, `v` for captures and `g` for rows, with those of the lanes
unfoldable pub symbols_text : Axis → (lanes : ℕ) → List Facts → List ℕ
symbols_text axis lanes captures =
    let all = ticks axis in
    codes "<svg class=\"d\" width=\"0\" height=\"0\" aria-hidden=\"true\"><defs>" ++ codes "<symbol id=\"x\" overflow=\"visible\">"
    ++ flat_map (tick_label axis (step_of axis)) all ++ codes "</symbol>\n<g id=\"v\"><path class=\"v\" d=\""
    ++ flat_map (tick_line axis 24) all ++ codes "\"/></g>\n<g id=\"g\"><path class=\"v\" d=\""
    ++ flat_map (tick_line axis (height lanes)) all ++ codes "\"/>" ++ bases_text axis lanes captures
    ++ codes "</g>\n</defs></svg>\n"
