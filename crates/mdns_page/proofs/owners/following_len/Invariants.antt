use Rattle.std.proofs.Common.{◌≡◌, ◌+◌, map, drop}
use Rattle.mdns_page.specs.Group.{following}
use Rattle.mdns_page.proofs.owners.following_len.Given as goal

-- the rows up to the one before are of its type
abbrev pub invariant-loop-other : goal.invariant-loop-other
invariant-loop-other g l =
    (l.len ≡ l.other-index)
    × (following (g.R.HasOwner.owner l.initial.before) (map g.R.HasOwner.owner l.others)
    ≡ l.other-index + following (g.R.HasOwner.owner l.before) (map g.R.HasOwner.owner (drop l.other-index l.others)))
