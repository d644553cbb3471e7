use Rattle.std.proofs.Common.{rules}
use Rattle.mdns_browse.proofs.CsvLemmas.{joined-none, joined-some}
use Rattle.mdns_browse.proofs.report_csv.drop_first_space.Goals as goal

pub returns-then-not-is_empty : goal.returns-then-not-is_empty
returns-then-not-is_empty c texts is = joined-some texts _ _ (search rules) c.remove.ensures.ascii_bytes is

pub returns-else-not-is_empty : goal.returns-else-not-is_empty
returns-else-not-is_empty c texts is = joined-none texts _ (search rules) is
