-- Checks one after another.
use Rattle.std.proofs.Common.{◌≡◌, ℕ, Bool, true, false, cond, List, [], ◌∷◌, ◌++◌, Option, Some, None, refl}
use Rattle.mdns_capture.specs.declared.cause.Cause.{Cause}
use Rattle.mdns_capture.specs.Frame.{Check, first_failing, ip_checks, ip_data, ipv4_checks, ipv4_size_checks}
use Rattle.mdns_capture.specs.Frame.{ipv4_kind_checks, ipv6_checks, ipv6_size_checks, ipv6_kind_checks, udp_checks, cause_of}

-- a check that passes leaves the rest to decide, and one that fails decides
pub passed : (test : Bool) (cause : Cause) (later : Option Cause) → cond test later (Some cause) ≡ None → (test ≡ true) × (later ≡ None)
passed true cause later none = (refl, none)
passed false cause later none = absurd (cc)

pub pass : (test : Bool) (cause : Cause) (later : Option Cause) → test ≡ true → later ≡ None → cond test later (Some cause) ≡ None
pass test cause later holds none = rw holds none

-- where all pass, the first do and the others do
pub both_passed : (checks more : List Check) → first_failing (checks ++ more) ≡ None
    → (first_failing checks ≡ None) × (first_failing more ≡ None)
both_passed [] more none = (refl, none)
both_passed (check ∷ checks) more none =
    let here = passed check.0 check.1 (first_failing (checks ++ more)) none in
    let rest = both_passed checks more here.1 in
    (pass check.0 check.1 (first_failing checks) here.0 rest.0, rest.1)

-- the first of two answers
abbrev pub or_else : Option Cause → Option Cause → Option Cause
or_else (Some cause) later = Some cause
or_else None later = later

pub first_failing-append : (checks more : List Check) → first_failing (checks ++ more) ≡ or_else (first_failing checks) (first_failing more)
first_failing-append [] more = refl
first_failing-append ((true, why) ∷ checks) more = first_failing-append checks more
first_failing-append ((false, why) ∷ checks) more = refl

-- the checks up to the IP header decide, and then those of its data
pub cause_by_layer : (frame : List ℕ)
    → cause_of frame ≡ or_else (first_failing (ip_checks frame)) (first_failing (udp_checks (ip_data frame)))
unfolding cause_of
cause_by_layer frame = first_failing-append (ip_checks frame) (udp_checks (ip_data frame))

-- the checks of an IPv4 header's sizes decide, and then those of what it is for
pub ipv4_by_part : (frame : List ℕ)
    → first_failing (ipv4_checks frame) ≡ or_else (first_failing (ipv4_size_checks frame))
    (first_failing (ipv4_kind_checks frame))
unfolding ipv4_checks
ipv4_by_part frame = first_failing-append (ipv4_size_checks frame) (ipv4_kind_checks frame)

-- likewise of an IPv6 header
pub ipv6_by_part : (frame : List ℕ)
    → first_failing (ipv6_checks frame) ≡ or_else (first_failing (ipv6_size_checks frame))
    (first_failing (ipv6_kind_checks frame))
unfolding ipv6_checks
ipv6_by_part frame = first_failing-append (ipv6_size_checks frame) (ipv6_kind_checks frame)
