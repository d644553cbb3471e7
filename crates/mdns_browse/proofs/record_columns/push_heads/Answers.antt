use Rattle.std.proofs.{Common.{arith}, lemmas.Grind.{common_steps}}
use Rattle.mdns_browse.proofs.ColumnLemmas.{heads_by_parts}
use Rattle.mdns_browse.proofs.record_columns.push_heads.Goals as goal

pub returns : goal.returns
returns c = grind (arith, common_steps, heads_by_parts)
