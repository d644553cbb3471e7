use Rattle.std.proofs.{Common.{◌≡◌, ◌++◌, SFits, w64, string_bytes, arith}, lemmas.Int.{to_z-of_z}}
use Rattle.std.specs.Prelude.{neg_ℤ}
use Rattle.mdns_listeners.specs.{Clock.{shift_words}, Seconds.{signed_text}}
use Rattle.mdns_listeners.proofs.TextLemmas.{three_appended}
use Rattle.mdns_listeners.proofs.clock.push_shift.Goals as goal

pub returns : goal.returns
unfolding shift_words lib.Utf8.encode
returns c =
    let fits : SFits w64 c.args.ahead = c.ranges.ahead in
    let negated : string_bytes c.push_negated.new.to ≡ string_bytes c.push_words.new.to ++ signed_text (neg_ℤ c.args.ahead) =
    grind (arith, to_z-of_z) in
    three_appended _ _ _ _ _ _ _ c.in_ok-push_words.ensures negated c.in_ok-push_shifted_file.ensures
