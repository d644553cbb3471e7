use Rattle.std.proofs.Common.{◌≡◌, ◌++◌, map, length, string_bytes}
use Rattle.mdns_page.specs.{Lead.{ended_lent}, Page.{endings_of}}
use Rattle.mdns_page.proofs.page.endings_of.Given as goal

-- the endings of the files so far, and of those that are left, are those of all
abbrev pub invariant-loop-name : goal.invariant-loop-name
invariant-loop-name l = map ended_lent l.endings.items ++ endings_of (map string_bytes l.names) l.readings
    ≡ endings_of (map string_bytes l.initial.names) l.initial.readings

abbrev pub decreases-loop-name : goal.decreases-loop-name
decreases-loop-name l = length l.names
