use Rattle.std.proofs.Common.{arith, append_assoc}
use Rattle.mdns_browse.proofs.DigitLemmas.{decimal_pair, length_pair, shorter_front}
use Rattle.mdns_browse.proofs.digits.write_decimal.Goals as goal

pub loop-left-preserved : goal.loop-left-preserved
loop-left-preserved c = grind (arith, length_pair, decimal_pair, append_assoc, shorter_front)
