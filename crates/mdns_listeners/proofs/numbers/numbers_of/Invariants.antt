use Rattle.std.proofs.Common.{◌≡◌, ◌*◌, ◌^◌, ◌≤◌, take}
use Rattle.mdns_listeners.specs.Numbers.{alone, heard, missed}
use Rattle.mdns_listeners.proofs.numbers.numbers_of.Given as goal

-- the numbers of the rows before the index
abbrev pub invariant-loop-row : goal.invariant-loop-row
invariant-loop-row l = record {
  heard : l.numbers.heard ≡ heard l.listener (take l.row-index l.rows);
  fits : l.numbers.heard ≤ l.row-index * 2 ^ 64;
  alone : l.numbers.alone ≡ alone l.listener (take l.row-index l.rows);
  missed : l.numbers.missed ≡ missed l.listener l.spans (take l.row-index l.rows);
  few : (l.numbers.alone ≤ l.row-index) × (l.numbers.missed ≤ l.row-index);
}
