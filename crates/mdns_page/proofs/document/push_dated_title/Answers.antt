use Rattle.std.proofs.Common.{◌∙◌, ap, [], ◌++◌, codes, if◌then◌else◌}
use Rattle.std.specs.String.{string_bytes}
use Rattle.people_text.specs.MomentText.{date_text}
use Rattle.mdns_page.specs.{Axis.{is_same_date}, Document.{dated_title}}
use Rattle.mdns_page.proofs.PartLemmas.{parts3}
use Rattle.mdns_page.proofs.document.push_dated_title.Goals as goal

pub returns : goal.returns
unfolding dated_title
returns c =
    let start = c.args.axis.start.nanos in
    let end = c.args.axis.end.nanos in
    parts3 _ (codes "Multicast DNS, ") (date_text start) (if is_same_date start end then [] else codes " to " ++ date_text end)
    _ _ _ c.in_ok-push_str.ensures.bytes
    (c.in_ok-push_date.ensures ∙ ap (λ nanos. string_bytes c.push_str.new.self ++ date_text nanos) c.nanos.ensures)
    c.in_ok-push_last_day.ensures
