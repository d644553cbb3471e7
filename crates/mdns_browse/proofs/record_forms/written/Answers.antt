use Rattle.std.proofs.Common.{arith}
use Rattle.mdns_browse.proofs.record_forms.written.Goals as goal

pub returns : goal.returns
returns c heard stands = record {
  rows = c.walk_live.result;
  are = c.walk_live.ensures heard stands;
  is = grind (arith, c.in_ok-push_walk.ensures, c.new-to.ensures);
}
