use Rattle.std.proofs.Common.{arith}
use Rattle.dns_name.proofs.{NameLemmas.{name_onward, name_within}, ReadNameLemmas.{run_label, run_pointer, run_ends}}
use Rattle.dns_name.proofs.name_at.NameReader.read_onto.Goals as goal

pub returns-in-Root-clause-stands : goal.returns-in-Root-clause-stands
returns-in-Root-clause-stands c = grind (arith, run_ends)

pub returns-in-Root-clause-onward : goal.returns-in-Root-clause-onward
returns-in-Root-clause-onward c = grind (arith, returns-in-Root-clause-stands c, name_onward)

pub returns-in-Root-clause-within : goal.returns-in-Root-clause-within
returns-in-Root-clause-within c = grind (arith, returns-in-Root-clause-stands c, name_within)

pub loop-bytes-preserved-in-Label : goal.loop-bytes-preserved-in-Label
loop-bytes-preserved-in-Label c = grind (arith, run_label)

pub loop-bytes-preserved : goal.loop-bytes-preserved
loop-bytes-preserved c = grind (arith, run_pointer)
