use Rattle.std.proofs.{Common.{◌≢◌, [], ◌∙◌, Some, ap, sym}, lemmas.Bool.{false≢true}}
use Rattle.mdns_survey.specs.{declared.reading.Span.{Span}, Outcomes.{ComesTo, heard}}
use Rattle.mdns_trace.proofs.SpanLemmas.{hearings-at}
use Rattle.mdns_trace.proofs.span_line.span_of_found.Goals as goal

pub returns-in-Heard : goal.returns-in-Heard
returns-in-Heard c = λ frame comes.
    let told = c.in-Heard.message.now in
    let some : told ≢ [] = λ none. false≢true (sym c.if-not-is_empty.true ∙ c.is_empty.ensures.1 none) in
    let comes_to : ComesTo c.args.moment frame (heard told) = rw c.in-Heard.is at comes in
    rw c.in-Heard.is (ap (λ (span : Span). Some span) c.at.ensures ∙ sym (hearings-at c.args.moment frame told comes_to some))
