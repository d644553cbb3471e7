use Rattle.std.proofs.{Common.{◌≡◌, ◌-◌, ◌++◌, length, drop, arith}, lemmas.Grind.{common_steps}, lemmas.Str.{IsUtf8-append}}
use borrow.Rule.Slice.PartMut.{put_mid}
use Rattle.mdns_browse.proofs.short_text.ShortText.prepend.Goals as goal

pub invariant_of-self : goal.invariant_of-self
invariant_of-self c =
    let end = c.self.inside.begin in
    let begin = end - length c.args.text.now in
    let written : drop begin (put_mid begin (end - begin) c.self.inside.bytes c.copy_from_slice.new.self)
    ≡ c.args.text.now ++ drop end c.self.inside.bytes = grind (arith, common_steps) in
    (omega arith, rw written (IsUtf8-append _ _ c.utf8.text c.self.invariant.1))
