use Rattle.std.proofs.Common.{◌∙◌, append-nil, ap, refl, sym, ◌++◌, string_bytes}
use Rattle.mdns_page.proofs.PartLemmas.{parts3}
use Rattle.mdns_page.proofs.live_sheet.LiveSheetSheet.servers_end.Goals as goal

pub returns : goal.returns
returns c = record {
  axis = refl;
  written =
      parts3 _ _ _ _ _ _ _ c.in_ok-push_unresolved_if.ensures c.in_ok-push_str.ensures.bytes c.in_ok-push_str-2.ensures.bytes
      ∙ ap (λ text. string_bytes c.args.self.now.text ++ text) (sym (append-nil _));
  flag = refl;
}
