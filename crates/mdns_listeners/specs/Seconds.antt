-- Signed durations as text: how far a clock is ahead.
use Rattle.std.specs.Prelude.{ℕ, suc, ℤ, pos, negsuc, List, ◌∷◌}
use Rattle.mdns_capture.specs.Text.{moment_text}

-- a number of nanoseconds in seconds, with nine digits after the dot, and a `-` before it if it is negative
unfoldable pub signed_text : ℤ → List ℕ
signed_text (pos nanos) = moment_text nanos
signed_text (negsuc n) = 45 ∷ moment_text (suc n)
