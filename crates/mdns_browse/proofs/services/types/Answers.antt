use Rattle.std.proofs.{Common.{arith}, lemmas.Result.{IfOk-weaker}}
use Rattle.mdns_browse.proofs.services.types.Goals as goal

pub returns : goal.returns
returns c = grind (arith, IfOk-weaker)
