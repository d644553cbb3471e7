use Rattle.std.proofs.{Common.{rules, ◌≡◌, ◌==◌, false, length, ◌++◌, codes}, lemmas.Result.{on_ok_weaker}}
use Rattle.std.specs.String.{string_bytes}
use Rattle.mdns_cache.specs.LentRecords.{live_record_lent}
use Rattle.mdns_browse.proofs.InstanceColumnLemmas.{others-some}
use Rattle.mdns_browse.proofs.other_names.push_others.Goals as goal

pub returns : goal.returns
returns c =
    let some : (length c.args.rows.now == 0) ≡ false = search rules in
    let line : string_bytes c.push_str.new.self ≡ string_bytes c.args.to.now ++ codes "\nnames that aren't one label and the type\n"
    = search rules in
    on_ok_weaker c.push_rows.result
    (λ written. others-some live_record_lent c.args.rows.now c.args.width c.args.now.nanos _ _ _ some line written) c.push_rows.ensures
