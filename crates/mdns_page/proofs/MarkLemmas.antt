-- The marks of lives, and those of seconds, go from left to right, since both are in order of time.
use Rattle.std.proofs.Common.{◌≡◌, refl, ℕ, ◌+◌, ◌-◌, ◌*◌, ◌/◌, ◌<◌, ◌≤◌, ◌==◌, Bool, true, false, if◌then◌else◌}
use Rattle.std.proofs.{Common.{Option, None, Some, List, [], ◌∷◌, map, arith, div-mul-le_self}, lemmas.{Bool.{cond_both}, Nat.{le-div}}}
use Rattle.std.specs.{Prelude.{Contains}, List.{cons_option, filter_map}, List.Sorted.{IsStrictlySortedBy}, Ordering.{nat_cmp}}
use Rattle.mdns_capture.specs.Limits.{second}
use Rattle.mdns_cache.proofs.StandsPartLemmas.{Contains-head, Contains-later}
use Rattle.mdns_lives.proofs.HeardLemmas.{after-second}
use Rattle.mdns_lives.specs.{Heard.{number_of}, Lives.{AreApart, AreApartAfter}, Seconds.{second_of}, Window.{in_window, meets}}
use Rattle.mdns_lives.specs.declared.{life.{EndReason.{EndReason}, Life.{Life}, RecordHearing.{RecordHearing}}, seconds_heard.SecondHeard.{SecondHeard}}
use Rattle.mdns_page.specs.{Axis.{place, place_end}, Lanes.{goodbye_of, is_goodbye, point, second_mark}, Picture.{AreInOrder, bar_mark, differing, drawn_mark}}
use Rattle.mdns_page.specs.Picture.{end_mark, is_for, is_same, mark_of, outlasts}
use Rattle.mdns_page.specs.declared.{axis.Axis.{Axis}, picture.{StrokeSpan.{StrokeSpan}, Stroke.{Stroke}}}
use Rattle.mdns_page.specs.declared.picture.Stroke.TheVariants.{Bar, Server, Pin, Head, Tick, GoodbyeTick}

quotient-mono : (a b unit : ℕ) → 0 < unit → a ≤ b → a / unit ≤ b / unit
quotient-mono a b unit some low = le-div (a / unit) b unit some (let whole : a / unit * unit ≤ a = div-mul-le_self a unit in omega (arith, whole, low))

place-mono : (axis : Axis) (a b : ℕ) → a ≤ b → place axis a ≤ place axis b
unfolding place
place-mono axis a b low = grind (arith, quotient-mono)

-- ---- what has marks in order of time

-- the mark of what lasts from the one moment to the other, if it has one, lies between their places, moved by these distances
module _ (axis : Axis) (a b : ℕ) where
  record IsAt (from until : ℕ) (mark : StrokeSpan) : Type 0 where
    after : (place axis from + a ≤ mark.begin) × (place axis from + b ≤ mark.end)
    before : (mark.begin ≤ place axis until + a) × (mark.end ≤ place axis until + b)

  abbrev IsAtIf : (from until : ℕ) → Option StrokeSpan → Type 0
  IsAtIf from until None = Unit {0}
  IsAtIf from until (Some mark) = IsAt from until mark

  -- a mark of what ended by then
  abbrev IsBy : ℕ → StrokeSpan → Type 0
  IsBy by mark = (mark.begin ≤ place axis by + a) × (mark.end ≤ place axis by + b)

  by-later : (by later : ℕ) (mark : StrokeSpan) → by ≤ later → IsBy by mark → IsBy later mark
  by-later by later mark low is = let moved = place-mono axis by later low in (omega (arith, is.0, moved), omega (arith, is.1, moved))

  module _ {X : Type 0} (from until : X → ℕ) (mark_of : X → Option StrokeSpan) where
    -- each begins after the one before it has ended, and has such a mark
    abbrev Follow : ℕ → List X → Type 0
    Follow low [] = Unit {0}
    Follow low (x ∷ xs) = (low ≤ from x) × (from x ≤ until x) × IsAtIf (from x) (until x) (mark_of x) × Follow (until x) xs

    one-more : (before mark : StrokeSpan) (marks : List StrokeSpan) (same : Bool) → is_same before mark ≡ same → before.begin ≤ mark.begin
        → before.end ≤ mark.end → AreInOrder (before ∷ differing (Some before) marks) → AreInOrder (mark ∷ differing (Some mark) marks)
        → AreInOrder (before ∷ (if same then differing (Some before) marks else mark ∷ differing (Some mark) marks))
    one-more before mark marks true is begins ends without one = without
    one-more before mark marks false is begins ends without one = (record { begins = begins; ends = ends; another = is }, one)

    with-next : (low from until : ℕ) (before : StrokeSpan) (next : Option StrokeSpan) (marks : List StrokeSpan) → low ≤ from → from ≤ until
        → IsBy low before → IsAtIf from until next
        → ((mark : StrokeSpan) → IsBy until mark → AreInOrder (mark ∷ differing (Some mark) marks))
        → AreInOrder (before ∷ differing (Some before) (cons_option next marks))
    with-next low from until before None marks apart some is next rest = rest before (by-later low until before (omega arith) is)
    with-next low from until before (Some mark) marks apart some is next rest =
        let moved = place-mono axis low from apart in
        one-more before mark marks (is_same before mark) refl (omega (arith, moved, is.0, next.after.0)) (omega (arith, moved, is.1, next.after.1))
        (rest before (by-later low until before (omega arith) is)) (rest mark next.before)

    marks-after : (low : ℕ) (before : StrokeSpan) (xs : List X) → Follow low xs → IsBy low before
        → AreInOrder (before ∷ differing (Some before) (filter_map mark_of xs))
    marks-after low before [] follow is = tt
    marks-after low before (x ∷ xs) follow is =
        with-next low (from x) (until x) before (mark_of x) (filter_map mark_of xs) follow.0 follow.1 is follow.2
        (λ mark by. marks-after (until x) mark xs follow.3 by)

    with-first : (from until : ℕ) (next : Option StrokeSpan) (marks : List StrokeSpan) → IsAtIf from until next
        → AreInOrder (differing None marks)
        → ((mark : StrokeSpan) → IsBy until mark → AreInOrder (mark ∷ differing (Some mark) marks))
        → AreInOrder (differing None (cons_option next marks))
    with-first from until None marks next without rest = without
    with-first from until (Some mark) marks next without rest = rest mark next.before

    in-order : (low : ℕ) (xs : List X) → Follow low xs → AreInOrder (differing None (filter_map mark_of xs))
    in-order low [] follow = tt
    in-order low (x ∷ xs) follow =
        with-first (from x) (until x) (mark_of x) (filter_map mark_of xs) follow.2 (in-order (until x) xs follow.3)
        (λ mark by. marks-after (until x) mark xs follow.3 by)

-- ---- lives

-- a pin begins where it ends, which is 3 places after its life's begin at least; a tick of hearings is no mark of a life
abbrev begin_moved : Stroke → ℕ
begin_moved (Pin reason) = 3
begin_moved (Head reason) = 3
begin_moved _ = 0

ends-at : (axis : Axis) (from until : ℕ) → from ≤ until
    → (place axis from + 3 ≤ place_end axis from until) × (place_end axis from until ≤ place axis until + 3)
unfolding place_end
ends-at axis from until low = let moved = place-mono axis from until low in (omega arith, omega (arith, moved))

if-at : (axis : Axis) (a b from until : ℕ) (mark : Option StrokeSpan) (is : Bool) → IsAtIf axis a b from until mark
    → IsAtIf axis a b from until (if is then mark else None)
if-at axis a b from until mark is at = cond_both is mark None (IsAtIf axis a b from until) (λ _. at) (λ _. tt)

unless-at : (axis : Axis) (a b from until : ℕ) (mark : Option StrokeSpan) (is : Bool) → IsAtIf axis a b from until mark
    → IsAtIf axis a b from until (if is then None else mark)
unless-at axis a b from until mark is at = cond_both is None mark (IsAtIf axis a b from until) (λ _. tt) (λ _. at)

bar-at : (axis : Axis) (life : Life) → life.from.nanos ≤ life.until → IsAt axis 0 3 life.from.nanos life.until (bar_mark axis life)
bar-at axis life some =
    let ends = ends-at axis life.from.nanos life.until some in
    let moved = place-mono axis life.from.nanos life.until some in
    record { after = (omega arith, ends.0); before = (omega (arith, moved), ends.1) }

pin-at : (axis : Axis) (reason : EndReason) (life : Life) → life.from.nanos ≤ life.until
    → IsAtIf axis 3 3 life.from.nanos life.until (end_mark axis reason life)
pin-at axis reason life some =
    let ends = ends-at axis life.from.nanos life.until some in
    let end = place_end axis life.from.nanos life.until in
    let pin : StrokeSpan = record { begin = end; end = end } in
    let at : IsAt axis 3 3 life.from.nanos life.until pin = record { after = (ends.0, ends.0); before = (ends.1, ends.1) } in
    unless-at axis 3 3 life.from.nanos life.until (if is_for reason life.reason then Some pin else None) (outlasts axis life)
    (if-at axis 3 3 life.from.nanos life.until (Some pin) (is_for reason life.reason) at)

drawn-at : (axis : Axis) (stroke : Stroke) (life : Life) → life.from.nanos ≤ life.until
    → IsAtIf axis (begin_moved stroke) 3 life.from.nanos life.until (drawn_mark axis stroke life)
drawn-at axis Bar life some = bar-at axis life some
drawn-at axis Server life some = bar-at axis life some
drawn-at axis (Pin reason) life some = pin-at axis reason life some
drawn-at axis (Head reason) life some = pin-at axis reason life some
drawn-at axis (Tick top) life some = tt
drawn-at axis (GoodbyeTick top) life some = tt

lives-follow : (axis : Axis) (stroke : Stroke) (low : ℕ) (lives : List Life) → AreApartAfter low lives
    → Follow axis (begin_moved stroke) 3 (λ life. life.from.nanos) (λ life. life.until) (mark_of axis stroke) low lives
lives-follow axis stroke low [] apart = tt
lives-follow axis stroke low (life ∷ lives) apart =
    let first = apart.0 in
    let some = apart.1 in (
      omega (arith, first),
      omega (arith, some),
      if-at axis (begin_moved stroke) 3 life.from.nanos life.until (drawn_mark axis stroke life) (meets axis.window life) (drawn-at axis stroke life (omega (arith, some))),
      lives-follow axis stroke life.until lives apart.2,
    )

pub marks-in_order : (axis : Axis) (stroke : Stroke) (lives : List Life) → AreApart lives
    → AreInOrder (differing None (filter_map (mark_of axis stroke) lives))
marks-in_order axis stroke [] apart = tt
marks-in_order axis stroke (life ∷ lives) apart =
    let some = apart.0 in
    in-order axis (begin_moved stroke) 3 (λ life. life.from.nanos) (λ life. life.until) (mark_of axis stroke) 0 (life ∷ lives) (
      omega arith,
      omega (arith, some),
      if-at axis (begin_moved stroke) 3 life.from.nanos life.until (drawn_mark axis stroke life) (meets axis.window life) (drawn-at axis stroke life (omega (arith, some))),
      lives-follow axis stroke life.until lives apart.1,
    )

-- ---- seconds

-- the first moment of a second, and its last
abbrev begins_at : SecondHeard → ℕ
begins_at s = number_of s * second

abbrev ends_at : SecondHeard → ℕ
ends_at s = number_of s * second + second - 1

point-at : (axis : Axis) (n : ℕ) (heard : RecordHearing) → second_of heard ≡ n
    → IsAtIf axis 0 0 (n * second) (n * second + second - 1) (point axis heard)
point-at axis n heard within =
    let from = place-mono axis (n * second) heard.moment.nanos (omega (arith, within)) in
    let until = place-mono axis heard.moment.nanos (n * second + second - 1) (omega (arith, within)) in
    let at = place axis heard.moment.nanos in
    let tick : StrokeSpan = record { begin = at; end = at } in
    let is : IsAt axis 0 0 (n * second) (n * second + second - 1) tick = record {
      after = (omega (arith, from), omega (arith, from));
      before = (omega (arith, until), omega (arith, until));
    } in
    if-at axis 0 0 (n * second) (n * second + second - 1) (Some tick) (in_window axis.window heard.moment) is

goodbye-at : (axis : Axis) (s : SecondHeard) (last : Bool) → second_of s.last ≡ number_of s
    → IsAtIf axis 0 0 (begins_at s) (ends_at s) (point axis (if last then s.last else s.first))
goodbye-at axis s true same = point-at axis (number_of s) s.last same
goodbye-at axis s false same = point-at axis (number_of s) s.first refl

second-at : (axis : Axis) (stroke : Stroke) (s : SecondHeard) → second_of s.last ≡ number_of s
    → IsAtIf axis 0 0 (begins_at s) (ends_at s) (second_mark axis stroke s)
second-at axis (Tick top) s same =
    unless-at axis 0 0 (begins_at s) (ends_at s) (point axis s.first) (is_goodbye s) (point-at axis (number_of s) s.first refl)
second-at axis (GoodbyeTick top) s same =
    if-at axis 0 0 (begins_at s) (ends_at s) (point axis (goodbye_of s)) (is_goodbye s) (goodbye-at axis s (s.last.ttl == 0) same)
second-at axis Bar s same = tt
second-at axis Server s same = tt
second-at axis (Pin reason) s same = tt
second-at axis (Head reason) s same = tt

seconds-follow : (axis : Axis) (stroke : Stroke) (low : ℕ) (seconds : List SecondHeard) → IsStrictlySortedBy nat_cmp (map number_of seconds)
    → ((s : SecondHeard) → Contains seconds s → low ≤ begins_at s)
    → ((s : SecondHeard) → Contains seconds s → second_of s.last ≡ number_of s)
    → Follow axis 0 0 begins_at ends_at (second_mark axis stroke) low seconds
unfolding IsStrictlySortedBy
seconds-follow axis stroke low [] ascending after same = tt
seconds-follow axis stroke low (s ∷ seconds) ascending after same = (
  after s (Contains-head s seconds),
  omega arith,
  second-at axis stroke s (same s (Contains-head s seconds)),
  seconds-follow axis stroke (ends_at s) seconds ascending.1
      (λ t among. (let less = after-second (number_of s) seconds t ascending.0 among in omega (arith, less)))
      (λ t among. same t (Contains-later s seconds t among)),
)

pub ticks-in_order : (axis : Axis) (stroke : Stroke) (seconds : List SecondHeard) → IsStrictlySortedBy nat_cmp (map number_of seconds)
    → ((s : SecondHeard) → Contains seconds s → second_of s.last ≡ number_of s)
    → AreInOrder (differing None (filter_map (second_mark axis stroke) seconds))
ticks-in_order axis stroke seconds ascending same =
    in-order axis 0 0 begins_at ends_at (second_mark axis stroke) 0 seconds
    (seconds-follow axis stroke 0 seconds ascending (λ s among. omega arith) same)
