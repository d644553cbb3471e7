-- IPv6 addresses as text (RFC 5952, section 4).
use Rattle.std.specs.Prelude.{◌≡◌, ◌≤◌, ℕ, ◌+◌, List, drop, length, replicate, take}
use Rattle.std.specs.Net.{Addr.{segments_of}, Text.{hex_groups_text}}

-- the groups of 16 octets without leading zeros, in lower case, the first of the longest runs of two zero groups or more
-- as `::` (sections 4.1 to 4.3)
abbrev pub ipv6_short : List ℕ → List ℕ
ipv6_short octets = hex_groups_text (segments_of octets)

-- a run of zero groups
abbrev pub IsRun : List ℕ → ℕ → ℕ → Type 0
IsRun groups start len = (start + len ≤ length groups) × (take len (drop start groups) ≡ replicate len 0)
