use Rattle.std.proofs.{Common.{arith, append_assoc, length-append}, lemmas.Fmt.{length-decimal-le}}
use Rattle.std.specs.Fmt.{decimal}
use Rattle.mdns_browse.proofs.DigitLemmas.{zeros_cut}
use Rattle.mdns_browse.proofs.short_text.ShortText.prepend_nine_digits.Goals as goal

pub overflow_sub-len : goal.overflow_sub-len
overflow_sub-len c = grind (
  arith,
  length-append (decimal c.args.number) c.args.self.now,
  length-decimal-le 9 c.args.number (omega arith) c.requires.0 (omega arith),
)

pub prepend-requires : goal.prepend-requires
prepend-requires c = grind (arith, length-append, length-decimal-le)

pub returns-clause-written : goal.returns-clause-written
returns-clause-written c = grind (arith, length-append, zeros_cut, append_assoc)

pub returns-clause-len : goal.returns-clause-len
returns-clause-len c = grind (
  arith,
  length-append c.range.result.now c.prepend_decimal.new.self,
  length-append (decimal c.args.number) c.args.self.now,
  length-decimal-le 9 c.args.number (omega arith) c.requires.0 (omega arith),
)
