use Rattle.std.proofs.Common.{◌≡◌, ◌∙◌, ◌++◌, ap, refl, rules, string_bytes}
use Rattle.people_text.specs.Shown.{name_shown}
use Rattle.mdns_page.specs.{Html.{isolated}, LiveSheet.{type_begin}}
use Rattle.mdns_page.proofs.PartLemmas.{parts6}
use Rattle.mdns_page.proofs.live_sheet.LiveSheet.begin_type.Goals as goal

pub returns : goal.returns
unfolding type_begin
returns c =
    let shown : c.as_str.result.now ≡ name_shown c.args.owner.now = search rules in
    record {
      axis = refl;
      written =
          parts6 _ _ _ _ _ _ _ _ _ _ _ _ _ c.in_ok-push_group_begin.ensures
          (c.in_ok-push_isolated.ensures ∙ ap (λ shown. string_bytes c.push_group_begin.new.to ++ isolated shown) shown)
          c.in_ok-push_str.ensures.bytes c.in_ok-push_str-2.ensures.bytes c.in_ok-push_str-3.ensures.bytes c.in_ok-push_str-4.ensures.bytes;
    }
