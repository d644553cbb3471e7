use Rattle.std.proofs.Common.{rules, ◌≡◌, ◌∙◌, ◌==◌, true, length, map}
use Rattle.mdns_cache.specs.LentRecords.{last_lent}
use Rattle.mdns_browse.proofs.InstanceLemmas.{kept-none}
use Rattle.mdns_browse.proofs.instance_pointers.kept_of.Goals as goal

pub returns-then-is_empty : goal.returns-then-is_empty
returns-then-is_empty c ascending all gives =
    let none : (length c.args.about.now == 0) ≡ true = search rules in
    gives ∙ kept-none (map last_lent c.args.rows.now) c.args.about.now all none
