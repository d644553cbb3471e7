use Rattle.std.proofs.{Common.{arith, length-drop}, lemmas.Str.{IsUtf8-append, IsUtf8-from_ascii}}
use Rattle.mdns_browse.specs.RecordText.{hex_octet}
use Rattle.mdns_browse.proofs.DigitLemmas.{IsAscii-hex_octet}
use Rattle.mdns_browse.proofs.short_text.ShortText.prepend_octet.Goals as goal

pub write_octet-self-inside-requires : goal.write_octet-self-inside-requires
write_octet-self-inside-requires c = grind (arith, length-drop)

pub invariant_of-self : goal.invariant_of-self
invariant_of-self c =
    let wrote = c.write_octet-self-inside.ensures in
    let digits = IsUtf8-from_ascii (hex_octet c.args.octet) (IsAscii-hex_octet c.args.octet c.ranges.octet.fits) in
    (omega (arith, wrote.start), rw wrote.written (IsUtf8-append _ _ digits c.self.invariant.1))
