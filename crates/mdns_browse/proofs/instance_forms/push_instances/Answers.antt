use Rattle.std.proofs.{Common.{List, ℕ, ◌≡◌, ◌∙◌, ◌++◌, ap, map, string_bytes, subst, sym}, lemmas.{List.{append_assoc}, Result.{on_ok_weaker}}}
use Rattle.std.specs.List.{flat_map}
use Rattle.mdns_cache.specs.LentRecords.{last_lent}
use Rattle.mdns_browse.specs.{Csv.{instance_csv, instances_header}, Forms.{listed_text}, Given.{given_lent}}
use Rattle.mdns_browse.proofs.{InstanceLemmas.{shown_in}}
use Rattle.mdns_browse.proofs.instance_forms.push_instances.Goals as goal

pub returns-in_ok-push_str-in-Csv : goal.returns-in_ok-push_str-in-Csv
returns-in_ok-push_str-in-Csv c =
    let old = string_bytes c.args.to.now.text in
    let shown = shown_in (map last_lent c.args.rows.now) (map given_lent c.args.given.now) in
    on_ok_weaker c.push_csv_instances.result
    (λ written ascending.
    subst (λ form. string_bytes c.push_csv_instances.new.to ≡ old ++ listed_text form shown) (sym c.in-Csv.is)
    (written ascending ∙ ap (λ (text : List ℕ). text ++ flat_map instance_csv shown) c.in_ok-push_str-in-Csv.ensures.bytes
    ∙ append_assoc old instances_header (flat_map instance_csv shown)))
    c.push_csv_instances.ensures
