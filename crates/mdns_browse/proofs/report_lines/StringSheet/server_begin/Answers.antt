use Rattle.std.proofs.Common.{rules, ◌∷◌, codes}
use Rattle.std.specs.{Fmt.{decimal}, String.{string_bytes}}
use Rattle.dns_name.specs.Name.{name_text}
use Rattle.mdns_browse.proofs.LineLemmas.{begin_by_parts}
use Rattle.mdns_browse.proofs.report_lines.StringSheet.server_begin.Goals as goal

pub returns : goal.returns
returns c =
    begin_by_parts (string_bytes c.args.self.now) (codes "  server ") (name_text c.args.target.now) (32 ∷ decimal c.args.port)
    (codes " priority ") (decimal c.args.priority) (codes " weight ") (decimal c.args.weight) (string_bytes c.push_str.new.self)
    (string_bytes c.push_text.new.to) _ (search rules) c.in_ok-push_text.ensures.ok (search rules)
