use Rattle.std.proofs.Common.{arith, length-drop}
use Rattle.std.proofs.lemmas.{Fmt.{IsAscii-decimal, length-decimal-le}, Str.{IsUtf8-append, IsUtf8-from_ascii}}
use Rattle.mdns_browse.proofs.short_text.ShortText.prepend_decimal.Goals as goal

pub write_decimal-self-inside-requires : goal.write_decimal-self-inside-requires
write_decimal-self-inside-requires c =
    grind (arith, length-decimal-le 20 c.args.number (omega arith) (omega arith) c.ranges.number.fits, length-drop)

pub invariant_of-self : goal.invariant_of-self
invariant_of-self c =
    let wrote = c.write_decimal-self-inside.ensures in
    let digits = IsUtf8-from_ascii _ (IsAscii-decimal c.args.number c.ranges.number.fits) in
    (omega (arith, wrote.start), rw wrote.written (IsUtf8-append _ _ digits c.self.invariant.1))

pub returns-clause-len : goal.returns-clause-len
returns-clause-len c = grind (arith, length-decimal-le 20 c.args.number (omega arith) (omega arith) c.ranges.number.fits, length-drop)
