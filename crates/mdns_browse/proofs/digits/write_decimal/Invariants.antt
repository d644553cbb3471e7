use Rattle.std.proofs.Common.{◌+◌, ◌≡◌, ◌≤◌, ◌++◌, length, take, drop}
use Rattle.std.specs.Fmt.{decimal}
use Rattle.mdns_browse.proofs.digits.write_decimal.Given as goal

-- the digits still to be written, with those written, are the number's
abbrev pub invariant-loop-left : goal.invariant-loop-left
invariant-loop-left l =
    (length (decimal l.left) ≤ l.at) × (l.at ≤ l.end)
    × (l.at + length (decimal l.number) ≡ l.end + length (decimal l.left))
    × (decimal l.left ++ drop l.at l.text ≡ decimal l.number ++ drop l.end l.fn.text)
    × (take l.at l.text ≡ take l.at l.fn.text)

abbrev pub decreases-loop-left : goal.decreases-loop-left
decreases-loop-left l = l.left
