use Rattle.std.proofs.Common.{◌∙◌, ◌++◌, List, ℕ, Option, ap, append_assoc, codes, string_bytes, sym}
use Rattle.std.proofs.lemmas.Result.{on_ok_weaker}
use Rattle.people_text.specs.MomentText.{exact_text}
use Rattle.mdns_survey.specs.declared.reading.Span.{Span}
use Rattle.mdns_trace.specs.Verdict.{early_cure}
use Rattle.mdns_trace.proofs.verdict.push_early_cure.Goals as goal

pub returns : goal.returns
returns c =
    let last = exact_text c.in-Some.span.last.nanos in
    on_ok_weaker c.push_exact.result (λ written. written
    ∙ ap (λ (n : ℕ). string_bytes c.push_str-2.new.self ++ exact_text n) c.nanos.ensures
    ∙ ap (λ (t : List ℕ). t ++ last) c.in_ok-push_str-2.ensures.bytes
    ∙ append_assoc (string_bytes c.args.to.now) (codes "later goodbyes are missing, so trust the answers --before ") last
    ∙ ap (λ (p : Option Span). string_bytes c.args.to.now ++ early_cure p) (sym c.in-Some.is)) c.push_exact.ensures
