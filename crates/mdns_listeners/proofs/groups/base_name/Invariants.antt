use Rattle.std.proofs.Common.{◌≡◌, cond, length}
use Rattle.std.specs.List.{list_any}
use Rattle.mdns_listeners.specs.Groups.{base_name, is_slash}
use Rattle.mdns_listeners.proofs.groups.base_name.Given as goal

-- a `/` that is still to come begins the folder that counts; until then it is the last one
abbrev pub invariant-loop-byte : goal.invariant-loop-byte
invariant-loop-byte l = base_name l.file ≡ cond (list_any is_slash l.rest) (base_name l.rest) l.base

abbrev pub decreases-loop-byte : goal.decreases-loop-byte
decreases-loop-byte l = length l.rest
