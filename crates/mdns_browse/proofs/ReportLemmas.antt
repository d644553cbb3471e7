-- A report about no subjects lists all.
use Rattle.std.proofs.Common.{arith, ◌≡◌, ap, refl, ◌↔◌, ℕ, true, List, [], ◌∷◌, ◌++◌}
use Rattle.std.proofs.lemmas.List.Folds.{flat_map-map}
use Rattle.std.specs.List.{flat_map}
use Rattle.dns_name.specs.Name.{name_text}
use Rattle.mdns_message.specs.declared.hearing.Hearing.{Hearing}
use Rattle.mdns_join.specs.declared.latest.Latest.{Latest}
use Rattle.mdns_browse.specs.{About.{keeps_instance, keeps_record, keeps_type}, Report.{IsReport, IsReportIn, lines_in, text_about}}
use Rattle.mdns_browse.specs.Hosts.{HostRow, host_line, hosts_in, keeps_host}
use Rattle.mdns_browse.specs.{Services.{lasts_in, types_in}, RecordText.{record_line}, declared.report.Ask.{Ask}}
use Rattle.mdns_browse.specs.declared.report.{Ask.TheVariants.{Records, Types, Instances, Hosts}, Form.TheVariants.{Lines}}
use Rattle.mdns_browse.proofs.{InstanceLemmas.{filter-all, instances-shown}, RowLemmas.{like_value}}

all_lines : (ask : Ask) (now : ℕ) (rows : List (Latest × ℕ)) → text_about [] Lines now ask rows ≡ lines_in ask rows
unfolding keeps_record keeps_type keeps_instance keeps_host
all_lines Records now rows = ap (flat_map record_line) (filter-all (λ (row : Latest × ℕ). true) (λ row. refl) rows)
all_lines Types now rows = ap (flat_map (λ name. name_text name ++ 10 ∷ [])) (filter-all (λ (name : List ℕ). true) (λ name. refl) (types_in (lasts_in rows)))
all_lines Hosts now rows = ap (flat_map host_line) (filter-all (λ (host : HostRow). true) (λ host. refl) (hosts_in (lasts_in rows)))
all_lines Instances now rows = grind (arith, filter-all, flat_map-map, instances-shown (lasts_in rows) rows)

pub about_all : (ask : Ask) (heard : List Hearing) (now : ℕ) (text : List ℕ)
    → IsReportIn [] Lines ask heard now text ↔ IsReport ask heard now text
about_all ask heard now text = grind (arith, like_value, all_lines)
