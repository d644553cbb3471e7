-- The span of hearings, and what is written of it.
use Rattle.std.proofs.Common.{◌≡◌, ◌≢◌, ℕ, Bool, true, false, List, [], ◌∷◌, ◌++◌, map, Option, Some, None, arith}
use Rattle.std.proofs.{Common.{IfSome, refl, ap, append-nil, if◌then◌else◌}, lemmas.List.Concat.{flat_map-append}}
use Rattle.mdns_capture.specs.{Output.{AppendsPrefix}, declared.moment.Moment.{Moment}}
use Rattle.mdns_message.specs.{declared.hearing.Hearing.{Hearing}, Message.{hearing_of}, RecordAt.{HeardRecord}}
use Rattle.mdns_survey.specs.declared.{reading.Span.{Span}, summary.Summary.{Summary}}
use Rattle.mdns_survey.specs.{Outcomes.{Outcome, heard, ComesTo, hearings_in, hearings_of_outcome}, Span.{joined_spans, span_at, span_of}}
use Rattle.mdns_survey.proofs.SpanLemmas.{span-both}
use Rattle.mdns_browse.specs.declared.report.Form.{Form}
use Rattle.mdns_trace.specs.{declared.span_line.CaptureSpans.{CaptureSpans}, Entry.{span_entry}, EntryText.{entry_text}}
use Rattle.mdns_trace.specs.{SpanLine.{IsSpanned, hearing_moments}, SpanWritten.{SpansCapture}}

-- ONE PACKET

either-way : (t : Bool) (moment : Moment) → (if t then moment else moment) ≡ moment
either-way true moment = refl
either-way false moment = refl

abbrev span_from : Moment → Span
span_from moment = record { first = moment; last = moment }

told-at : (moment : Moment) (told : List HeardRecord) → map (hearing_of moment) told ≢ []
    → span_of (hearing_moments (map (hearing_of moment) told)) ≡ Some (span_at moment)
told-at moment [] some = absurd (some refl)
told-at moment (first ∷ []) some = refl
told-at moment (first ∷ second ∷ told) some = grind (arith, either-way, told-at moment (second ∷ told) (λ none. absurd cc))

-- the hearings of a packet are at its moment
pub hearings-at : (moment : Moment) (frame : List ℕ) (hearings : List Hearing) → ComesTo moment frame (heard hearings) → hearings ≢ []
    → span_of (hearing_moments hearings) ≡ Some (span_at moment)
hearings-at moment frame hearings comes some = grind (arith, told-at)

map-more : (hearings more : List Hearing) → hearing_moments (hearings ++ more) ≡ hearing_moments hearings ++ hearing_moments more
map-more [] more = refl
map-more (hearing ∷ hearings) more = ap (λ (ms : List Moment). hearing.moment ∷ ms) (map-more hearings more)

-- one packet more
pub hearings-more : (outcomes : List Outcome) (outcome : Outcome) (old more : Option Span)
    → old ≡ span_of (hearing_moments (hearings_in outcomes)) → more ≡ span_of (hearing_moments (hearings_of_outcome outcome))
    → joined_spans old more ≡ span_of (hearing_moments (hearings_in (outcomes ++ outcome ∷ [])))
hearings-more outcomes outcome old more so_far here = grind (arith, flat_map-append, append-nil, map-more, span-both)

-- THE LINE

-- the line that was made of a span is that of its capture
pub line-made : (form : Form) (file : List ℕ) (left : Option (List ℕ)) (spanned : CaptureSpans) (line : List ℕ) (P : List ℕ → Type 0)
    → IsSpanned left spanned → line ≡ entry_text form file (span_entry spanned) → P line
    → IfSome left (λ bytes. (text : List ℕ) × SpansCapture form file bytes spanned.reading.summary text × P text)
line-made form file None spanned line P is made holds = tt
line-made form file (Some bytes) spanned line P is made holds = search arith

-- of that line a prefix went out where the write failed
pub line-broken : (form : Form) (file : List ℕ) (left old new : Option (List ℕ)) (spanned : CaptureSpans) (line : List ℕ)
    → IsSpanned left spanned → line ≡ entry_text form file (span_entry spanned) → AppendsPrefix old new line
    → IfSome left
    (λ bytes. (summary : Summary) × ((text : List ℕ) × SpansCapture form file bytes summary text × AppendsPrefix old new text))
line-broken form file None old new spanned line is made written = tt
line-broken form file (Some bytes) old new spanned line is made written =
    (spanned.reading.summary, line-made form file (Some bytes) spanned line (AppendsPrefix old new) is made written)
