use Rattle.std.proofs.{Common.{◌≡◌, ◌<◌, ◌++◌, arith, length, string_bytes}, lemmas.Bool.Decides.{nat_tests}}
use Rattle.mdns_page.specs.Html.{html_text}
use Rattle.mdns_page.proofs.HtmlLemmas.{run-marked, run-plain}
use Rattle.mdns_page.proofs.html.push_run.Goals as goal

pub returns-clause-text : goal.returns-clause-text
returns-clause-text c =
    let some : 0 < length c.split_at.result.1.now = grind (arith, nat_tests, c.is_empty.ensures, c.if-is_empty.false) in
    let before : string_bytes c.push_str.new.self ++ html_text c.split_at.result.1.now
    ≡ string_bytes c.args.to.now ++ html_text c.args.text.now
    = run-plain (string_bytes c.args.to.now) (string_bytes c.push_str.new.self) c.args.text.now c.as_bytes.result.now
    c.split_at.result.0.now c.split_at.result.1.now c.plain_len.result c.in_ok-push_str.ensures.bytes c.as_bytes.ensures.value
    c.plain_len.ensures.plain c.split_at.ensures.front c.split_at.ensures.back in
    run-marked (string_bytes c.args.to.now) (string_bytes c.push_str.new.self) (string_bytes c.push_str-2.new.self) c.args.text.now
    c.split_at.result.1.now c.as_bytes-2.result.now c.reference.result.now c.range_from.result.now before
    c.in_ok-push_str-2.ensures.bytes c.reference.ensures c.as_bytes-2.ensures.value c.range_from.ensures.value some
