use Rattle.std.specs.{Prelude.{ℕ, List, ◌++◌, codes, string_bytes}, List.{flat_map}}
use Rattle.mdns_browse.specs.declared.about.Subject.{Subject}
use Rattle.people_text.specs.Shown.{shown}
use Rattle.mdns_page.specs.Html.{isolated}
use Rattle.mdns_page.proofs.PartLemmas.{parts2, parts3}
use Rattle.mdns_page.proofs.lead.push_subjects_line.Goals as goal

pub returns : goal.returns
returns c =
    let first : List ℕ = isolated (shown (string_bytes c.args.first.now.text)) in
    let others : List ℕ =
    flat_map (λ (subject : Subject). codes ", " ++ isolated (shown (string_bytes subject.text))) c.args.others.now in
    parts3 _ _ (first ++ others) _ _ _ _ c.in_ok-push_str.ensures.bytes
    (parts2 _ first others _ _ c.in_ok-push_subject.ensures c.in_ok-push_other_subjects.ensures) c.in_ok-push_str-2.ensures.bytes
