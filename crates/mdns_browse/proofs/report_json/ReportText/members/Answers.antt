use Rattle.std.proofs.{Common.{arith}, lemmas.{List.{append_assoc, append-nil}, Result.{on_ok_weaker}}}
use Rattle.mdns_browse.specs.Json.{parted}
use Rattle.mdns_browse.proofs.report_json.ReportText.members.Goals as goal

pub returns : goal.returns
unfolding parted
returns c = grind (arith, on_ok_weaker, append_assoc, append-nil)
