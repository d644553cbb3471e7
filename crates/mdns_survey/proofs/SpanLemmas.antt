-- Spans of packets, joined.
use Rattle.std.proofs.Common.{rules, ◌≡◌, ◌∙◌, ℕ, ◌≤◌, Bool, true, false, nat_lt, max, min, List, [], ◌∷◌, ◌++◌, Option, Some, None}
use Rattle.std.proofs.Common.{refl, sym, ap, arith, if◌then◌else◌, unwrap_or}
use Rattle.std.proofs.lemmas.{Bool.{ltb-false, ltb-true}, List.Elements.{All-cons, All-nil, All-weaker, Contains-append_right}}
use Rattle.std.specs.List.{Contains}
use Rattle.mdns_capture.specs.{declared.moment.Moment.{Moment}, Savefile.{PacketAt}}
use Rattle.mdns_capture.proofs.OneReadingLemmas.{same_moment}
use Rattle.mdns_cache.specs.Contents.{later_moment}
use Rattle.mdns_browse.specs.LifeText.{nanos_if_some}
use Rattle.mdns_cache.proofs.ContentsLemmas.{nanos-later}
use Rattle.mdns_survey.specs.declared.{reading.Reading.{Reading}, reading.Span.{Span}, request.AsOf.{AsOf}}
use Rattle.mdns_survey.specs.{declared.request.AsOf.TheVariants.{Newest, At, Before}, Listen.{packet_moments}}
use Rattle.mdns_survey.specs.{LivesAnswer.{captures_begin, earliest_nanos, captures_end, latest_nanos}, Readings.{HaveSpans, all_moments}}
use Rattle.mdns_survey.specs.{Request.{moment_of}, Span.{HasEnds, earlier_moment, joined_spans, span_at, span_of}}

-- BOTH SPANS

nanos-earlier : (a b : Moment) → (earlier_moment a b).nanos ≡ min a.nanos b.nanos
nanos-earlier a b = grind (arith, nat_lt, ltb-true, ltb-false)

abbrev span_from : Moment → Moment → Span
span_from first last = record { first = first; last = last }

same_span : (a b : Span) → a.first.nanos ≡ b.first.nanos → a.last.nanos ≡ b.last.nanos → a ≡ b
same_span a b first last = grind (arith, same_moment a.first b.first first, same_moment a.last b.last last)

-- the span from the earlier beginning to the later end
abbrev both_spans : Span → Span → Span
both_spans a b = record { first = earlier_moment a.first b.first; last = later_moment a.last b.last }

both-assoc : (a b c : Span) → both_spans (both_spans a b) c ≡ both_spans a (both_spans b c)
both-assoc a b c = search (rules, same_span, nanos-earlier, nanos-later)

joined-assoc : (a b c : Option Span) → joined_spans (joined_spans a b) c ≡ joined_spans a (joined_spans b c)
joined-assoc None b c = refl
joined-assoc (Some a) None c = refl
joined-assoc (Some a) (Some b) None = refl
joined-assoc (Some a) (Some b) (Some c) = ap (λ (s : Span). Some s) (both-assoc a b c)

pub joined-none : (a : Option Span) → joined_spans a None ≡ a
joined-none None = refl
joined-none (Some a) = refl

-- THE SPAN OF MOMENTS

pub span-both : (moments more : List Moment) → span_of (moments ++ more) ≡ joined_spans (span_of moments) (span_of more)
span-both [] more = refl
span-both (moment ∷ moments) more =
    grind (arith, span-both moments more, joined-assoc (Some (span_at moment)) (span_of moments) (span_of more))

-- one moment more
pub span-more : (span : Option Span) (moments : List Moment) (moment : Moment) → span ≡ span_of moments
    → joined_spans span (Some (span_at moment)) ≡ span_of (moments ++ moment ∷ [])
span-more span moments moment is =
    ap (λ (s : Option Span). joined_spans s (Some (span_at moment))) is ∙ sym (span-both moments (moment ∷ []))

abbrev IsWithin : Span → Moment → Type 0
IsWithin span moment = (span.first.nanos ≤ moment.nanos) × (moment.nanos ≤ span.last.nanos)

among : (moment held : Moment) (moments : List Moment) (is_held : Bool) → Contains moments held
    → Contains (moment ∷ moments) (if is_held then held else moment)
among moment held moments true has = Contains-append_right (moment ∷ []) moments held has
among moment held moments false has = (0, omega arith, refl)

ends-more : (moment : Moment) (moments : List Moment) (span : Option Span) → HasEnds moments span
    → HasEnds (moment ∷ moments) (joined_spans (Some (span_at moment)) span)
ends-more moment moments None none = grind (arith, All-cons, All-nil)
ends-more moment moments (Some span) ends = grind (arith, nanos-earlier, nanos-later, among, nat_lt, All-cons, All-weaker)

-- the span of moments has the earliest and the latest of them
pub has_ends : (moments : List Moment) → HasEnds moments (span_of moments)
has_ends [] = refl
has_ends (moment ∷ moments) = ends-more moment moments (span_of moments) (has_ends moments)

-- the latest moment, or 0 of none
abbrev pub last_of : Option Span → ℕ
last_of None = 0
last_of (Some span) = span.last.nanos

last-joined : (moment : Moment) (span : Option Span)
    → last_of (joined_spans (Some (span_at moment)) span) ≡ max moment.nanos (last_of span)
last-joined moment None = omega arith
last-joined moment (Some span) = nanos-later moment span.last

last-is : (moments : List Moment) → last_of (span_of moments) ≡ latest_nanos moments
last-is [] = refl
last-is (moment ∷ moments) = last-joined moment (span_of moments) ∙ ap (max moment.nanos) (last-is moments)

-- the earliest moment, or `end` where that is earlier
abbrev pub first_of : Option Span → ℕ → ℕ
first_of None end = end
first_of (Some span) end = min span.first.nanos end

first-joined : (moment : Moment) (span : Option Span) (end : ℕ)
    → first_of (joined_spans (Some (span_at moment)) span) end ≡ min moment.nanos (first_of span end)
first-joined moment None end = refl
first-joined moment (Some span) end = ap (λ n. min n end) (nanos-earlier moment span.first) ∙ omega arith

first-is : (end : ℕ) (moments : List Moment) → first_of (span_of moments) end ≡ earliest_nanos end moments
first-is end [] = refl
first-is end (moment ∷ moments) = first-joined moment (span_of moments) end ∙ ap (min moment.nanos) (first-is end moments)

-- the beginning of captures with this span, and without one
pub begin_is : (as_of : AsOf) (span : Span) (begin end : Moment) (moments : List Moment) → span_of moments ≡ Some span
    → end.nanos ≡ captures_end as_of moments → begin ≡ earlier_moment span.first end → nanos_if_some (Some begin) ≡ captures_begin as_of moments
begin_is as_of span begin end [] is is_end is_first = absurd cc
begin_is as_of span begin end (moment ∷ moments) is is_end is_first =
    let first = ap (λ (m : Moment). m.nanos) is_first ∙ nanos-earlier span.first end ∙ ap (first_of (Some span)) is_end
    ∙ ap (λ (s : Option Span). first_of s (captures_end as_of (moment ∷ moments))) (sym is)
    ∙ first-is (captures_end as_of (moment ∷ moments)) (moment ∷ moments) in
    ap (λ n. Some n) first

joined-some : (a : Span) (span : Option Span) → joined_spans (Some a) span ≡ None → ⊥
joined-some a None is = cc
joined-some a (Some span) is = cc

pub begin_none : (as_of : AsOf) (moments : List Moment) → span_of moments ≡ None → nanos_if_some None ≡ captures_begin as_of moments
begin_none as_of [] is = refl
begin_none as_of (moment ∷ moments) is = absurd (joined-some (span_at moment) (span_of moments) is)

-- up to a moment, which is the beginning where there is none
pub begin_or : (begin : Option Moment) (moment : Moment) (moments : List Moment) → nanos_if_some begin ≡ captures_begin (At moment) moments
    → (unwrap_or begin moment).nanos ≡ earliest_nanos moment.nanos moments
begin_or None moment [] is = refl
begin_or None moment (first ∷ moments) is = absurd cc
begin_or (Some begin) moment [] is = absurd cc
begin_or (Some begin) moment (first ∷ moments) is = cc

-- and their end, where a moment is given, and where none is
pub end_given : (as_of : AsOf) (end : Moment) (moments : List Moment) → moment_of as_of ≡ Some end → end.nanos ≡ captures_end as_of moments
end_given Newest end moments is = absurd cc
end_given (At moment) end moments is = let same : end ≡ moment = cc in ap (λ (m : Moment). m.nanos) same
end_given (Before moment) end moments is = let same : end ≡ moment = cc in ap (λ (m : Moment). m.nanos) same

pub end_latest : (as_of : AsOf) (span : Option Span) (end : ℕ) (moments : List Moment) → moment_of as_of ≡ None
    → span ≡ span_of moments → end ≡ last_of span → end ≡ captures_end as_of moments
end_latest Newest span end moments none is is_last = is_last ∙ ap last_of is ∙ last-is moments
end_latest (At moment) span end moments none is is_last = absurd cc
end_latest (Before moment) span end moments none is is_last = absurd cc

-- THE SPAN OF ALL CAPTURES

abbrev pub all_spans : List Reading → Option Span
all_spans [] = None
all_spans (reading ∷ readings) = joined_spans reading.span (all_spans readings)

-- one reading more
pub all_spans-more : (readings : List Reading) (reading : Reading)
    → all_spans (readings ++ reading ∷ []) ≡ joined_spans (all_spans readings) reading.span
all_spans-more [] reading = joined-none reading.span
all_spans-more (first ∷ readings) reading = grind (arith, joined-assoc, all_spans-more readings reading)

pub all_spans-are : (packets : List (List PacketAt)) (readings : List Reading) → HaveSpans packets readings
    → all_spans readings ≡ span_of (all_moments packets)
all_spans-are [] [] have = refl
all_spans-are [] (reading ∷ readings) have = absurd cc
all_spans-are (ps ∷ packets) [] have = absurd cc
all_spans-are (ps ∷ packets) (reading ∷ readings) have =
    let here : reading.span ≡ span_of (packet_moments ps) = cc in
    let after : HaveSpans packets readings = cc in
    ap (λ (s : Option Span). joined_spans s (all_spans readings)) here
    ∙ ap (joined_spans (span_of (packet_moments ps))) (all_spans-are packets readings after)
    ∙ sym (span-both (packet_moments ps) (all_moments packets))

-- WHAT FUNCTIONS ARE PROVED BY

pub ruleset for_span_of = (all_spans, all_spans-are, all_spans-more)
