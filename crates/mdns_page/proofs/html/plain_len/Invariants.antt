use Rattle.std.proofs.Common.{◌≡◌, take}
use Rattle.mdns_page.specs.Html.{html_text}
use Rattle.mdns_page.proofs.html.plain_len.Given as goal

abbrev pub invariant-loop-index : goal.invariant-loop-index
invariant-loop-index l = html_text (take l.index l.bytes) ≡ take l.index l.bytes
