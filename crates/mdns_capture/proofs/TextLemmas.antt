-- Numbers of nine digits.
use Rattle.std.proofs.{Common.{◌≡◌, ℕ, ◌-◌, ◌^◌, false, []}, Math.Nat.{sub-zero}, lemmas.List.{append-nil}}
use Rattle.std.specs.Fmt.{decimal, padded_integral, char_count, format_spec}
use Rattle.mdns_capture.specs.Text.{nine_digits}

pub nine_digits_padded : (n : ℕ) → padded_integral (format_spec 32 0 4 9 (2 ^ 64 - 1)) false [] (decimal n) ≡ nine_digits n
unfolding padded_integral char_count
nine_digits_padded n = simp (append-nil, sub-zero)
