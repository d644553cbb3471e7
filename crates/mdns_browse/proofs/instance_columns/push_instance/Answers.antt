use Rattle.std.proofs.{Common.{map}, lemmas.Result.{on_ok_weaker}}
use Rattle.mdns_cache.specs.LentRecords.{last_lent}
use Rattle.mdns_browse.specs.Given.{given_lent}
use Rattle.mdns_browse.proofs.{InstanceColumnLemmas.{row_added}, InstanceLemmas.{row_named}}
use Rattle.mdns_browse.proofs.instance_columns.push_instance.Goals as goal

pub returns : goal.returns
returns c =
    on_ok_weaker c.walk_instance.result
    (λ taken ascending.
    row_added c.args.before.now (row_named (map last_lent c.args.rows.now) (given_lent c.args.given.now) c.args.name.now)
    c.in_ok-push_type.ensures (taken ascending))
    c.walk_instance.ensures
