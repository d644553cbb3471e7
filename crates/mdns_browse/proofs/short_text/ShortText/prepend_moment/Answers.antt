use Rattle.std.proofs.{Common.{◌/◌, length, ap, arith, append_assoc, length-append}, lemmas.Fmt.{length-decimal-le}}
use Rattle.std.specs.Fmt.{decimal}
use Rattle.mdns_capture.specs.{Limits.{second}, Text.{moment_text}}
use Rattle.mdns_browse.proofs.short_text.ShortText.prepend_moment.Goals as goal

pub returns-clause-written : goal.returns-clause-written
unfolding moment_text
returns-clause-written c = grind (arith, append_assoc)

pub returns-clause-len : goal.returns-clause-len
returns-clause-len c =
    let whole = c.args.nanos / second in
    omega (
      arith,
      ap length c.prepend_decimal.ensures.written,
      length-append (decimal whole) c.prepend.new.self,
      ap length c.prepend.ensures,
      length-decimal-le 11 whole (omega arith) (omega arith) (omega arith),
    )
