-- The strokes of pictures.
use Rattle.std.specs.Prelude.{◌≡◌, ◌≤◌, ℕ, ◌==◌, ◌&&◌, nat_lt, min, Bool, true, false, if◌then◌else◌, Option, None}
use Rattle.std.specs.{Prelude.{Some, List, [], ◌∷◌, ◌++◌, codes}, Fmt.{decimal}, List.{filter_map, flat_map}}
use Rattle.mdns_lives.specs.declared.life.{Life.{Life}, EndReason.{EndReason}, EndReason.TheVariants.{Expired, Goodbye, Flushed}}
use Rattle.mdns_lives.specs.Window.{meets}
use Rattle.mdns_page.specs.{Axis.{place, place_end}, BarTitles.{life_title}, declared.axis.Axis.{Axis}}
use Rattle.mdns_page.specs.declared.picture.StrokeSpan.{StrokeSpan}
use Rattle.mdns_page.specs.declared.picture.{Stroke.{Stroke}, Stroke.TheVariants.{Bar, Server, Pin, Head, Tick, GoodbyeTick}}

-- ---- marks

-- the life goes on after the end of the captures
abbrev pub goes_on : Axis → Life → Bool
goes_on axis life = nat_lt axis.now.nanos life.until

abbrev pub is_for : EndReason → EndReason → Bool
is_for Expired Expired = true
is_for Goodbye Goodbye = true
is_for Flushed Flushed = true
is_for _ _ = false

-- the life goes on after the end of the axis, or of the captures
abbrev pub outlasts : Axis → Life → Bool
outlasts axis life = nat_lt (min axis.end.nanos axis.now.nanos) life.until

-- where the life ended, if it did so for this reason
abbrev pub end_mark : Axis → EndReason → Life → Option StrokeSpan
end_mark axis reason life =
    let end = place_end axis life.from.nanos life.until in
    if outlasts axis life then None else (if is_for reason life.reason then Some (record { begin = end; end = end }) else None)

-- from where to where the life's bar is
abbrev pub bar_mark : Axis → Life → StrokeSpan
bar_mark axis life = record { begin = place axis life.from.nanos; end = place_end axis life.from.nanos life.until }

-- where a life that is drawn has a stroke of this kind, if it has one; ticks are those of hearings
abbrev pub drawn_mark : Axis → Stroke → Life → Option StrokeSpan
drawn_mark axis Bar life = Some (bar_mark axis life)
drawn_mark axis Server life = Some (bar_mark axis life)
drawn_mark axis (Pin reason) life = end_mark axis reason life
drawn_mark axis (Head reason) life = end_mark axis reason life
drawn_mark axis _ life = None

-- the same of any life: only those that meet the window are drawn
abbrev pub mark_of : Axis → Stroke → Life → Option StrokeSpan
mark_of axis stroke life = if meets axis.window life then drawn_mark axis stroke life else None

abbrev pub is_same : StrokeSpan → StrokeSpan → Bool
is_same a b = (a.begin == b.begin) && (a.end == b.end)

-- the marks without each that is the same as the one before it; marks that ascend are then there once
abbrev pub differing : Option StrokeSpan → List StrokeSpan → List StrokeSpan
differing before [] = []
differing None (mark ∷ marks) = mark ∷ differing (Some mark) marks
differing (Some before) (mark ∷ marks) =
    if is_same before mark then differing (Some before) marks else mark ∷ differing (Some mark) marks

-- a mark begins and ends no earlier than the one before it, and is another one
pub record IsNext (before mark : StrokeSpan) : Type 0 where
  pub begins : before.begin ≤ mark.begin
  pub ends : before.end ≤ mark.end
  pub another : is_same before mark ≡ false

-- the marks go from left to right, and each is there once
abbrev pub AreInOrder : List StrokeSpan → Type 0
AreInOrder [] = Unit {0}
AreInOrder (mark ∷ []) = Unit {0}
AreInOrder (before ∷ mark ∷ marks) = IsNext before mark × AreInOrder (mark ∷ marks)

-- ---- paths

-- the class by which the style draws strokes of this kind
abbrev pub class_of : Stroke → List ℕ
class_of Bar = codes "b"
class_of Server = codes "s"
class_of (Pin Goodbye) = codes "m1"
class_of (Pin Expired) = codes "m2"
class_of (Pin Flushed) = codes "m3"
class_of (Head Goodbye) = codes "h1"
class_of (Head Expired) = codes "h2"
class_of (Head Flushed) = codes "h3"
class_of (Tick top) = codes "t"
class_of (GoodbyeTick top) = codes "z"

-- a stroke as a part of a path: bars are at the height 12, those of servers at 19, pins between the heights 4 and 17, and ticks in
-- their lanes; a head has a length, since some programs don't draw lines without one
unfoldable pub mark_text : Stroke → StrokeSpan → List ℕ
mark_text Bar mark = codes "M" ++ decimal mark.begin ++ codes " 12H" ++ decimal mark.end
mark_text Server mark = codes "M" ++ decimal mark.begin ++ codes " 19H" ++ decimal mark.end
mark_text (Pin reason) mark = codes "M" ++ decimal mark.begin ++ codes " 4V17"
mark_text (Head reason) mark = codes "M" ++ decimal mark.begin ++ codes " 4h.01"
mark_text (Tick top) mark = codes "M" ++ decimal mark.begin ++ 32 ∷ decimal top ++ codes "v5"
mark_text (GoodbyeTick top) mark = codes "M" ++ decimal mark.begin ++ 32 ∷ decimal top ++ codes "v5"

unfoldable pub path_begin : Stroke → List ℕ
path_begin stroke = codes "<path class=\"" ++ class_of stroke ++ codes "\" d=\""

-- the strokes as one path; nothing where there is none
abbrev pub path_of : Stroke → List StrokeSpan → List ℕ
path_of stroke [] = []
path_of stroke (mark ∷ marks) = path_begin stroke ++ flat_map (mark_text stroke) (mark ∷ marks) ++ codes "\"/>"

-- the strokes of a kind that lives or seconds have, by where each has one; each place once
unfoldable pub path : {X : Type 0} → (Stroke → X → Option StrokeSpan) → Stroke → List X → List ℕ
path mark_of stroke xs = path_of stroke (differing None (filter_map (mark_of stroke) xs))

-- the rest of a path, after the last mark before these, if there was one
unfoldable pub path_rest : Stroke → Option StrokeSpan → List StrokeSpan → List ℕ
path_rest stroke None marks = path_of stroke (differing None marks)
path_rest stroke (Some before) marks = flat_map (mark_text stroke) (differing (Some before) marks) ++ codes "\"/>"

-- what is left of it after the last mark of all, if there was one
abbrev pub path_last : Option StrokeSpan → List ℕ
path_last None = []
path_last (Some before) = codes "\"/>"

-- ---- bars with titles

-- what a title says before the life: whose it is, unless it is that of the row's record
abbrev pub title_word : Stroke → List ℕ
title_word Server = codes "server "
title_word _ = []

-- the bar of a life as a path of its own, with a title
unfoldable pub drawn_bar : Axis → Stroke → Life → List ℕ
drawn_bar axis stroke life =
    path_begin stroke ++ mark_text stroke (bar_mark axis life) ++ codes "\"><title>" ++ title_word stroke
    ++ life_title (goes_on axis life) life ++ codes "</title></path>"

-- the same of any life; nothing of one that isn't drawn
abbrev pub titled_bar : Axis → Stroke → Life → List ℕ
titled_bar axis stroke life = if meets axis.window life then drawn_bar axis stroke life else []

-- the bars of lives: each with a title, or all as one path
unfoldable pub bars : Axis → Bool → Stroke → List Life → List ℕ
bars axis titled stroke lives = if titled then flat_map (titled_bar axis stroke) lives else path (mark_of axis) stroke lives
