use Rattle.std.proofs.Common.{◌≡◌, drop}
use Rattle.mdns_join.specs.{Kept.{IsAscending}, Nanos.{nanos_of}}
use Rattle.mdns_cache.specs.LentRecords.{last_lent}
use Rattle.mdns_lives.specs.{Changes.{comes_back}, LentLives.{row_lent}, Lives.{AreApart}}
use Rattle.mdns_lives.proofs.changes.comes_back.Given as goal

-- the lives that are left decide, by the moments after the life before them
abbrev pub invariant-loop-life : goal.invariant-loop-life
invariant-loop-life l = record {
  sorted : IsAscending (nanos_of l.rest);
  apart : AreApart (drop l.life-index l.row.lives.items);
  left : comes_back l.window (nanos_of l.rest) (last_lent l.row.last, drop l.life-index l.row.lives.items)
      ≡ comes_back l.window (nanos_of l.begun) (row_lent l.row);
}
