use Rattle.std.proofs.Common.{◌≡◌, ◌*◌, ◌^◌, ◌≤◌, map, take}
use Rattle.std.specs.Borrow.{Bor}
use Rattle.mdns_survey.specs.declared.reading.Reading.{Reading}
use Rattle.mdns_page.specs.ByListener.{counts_of}
use Rattle.mdns_page.proofs.by_listener.counts_of.Given as goal

-- the counts of the readings before the index
abbrev pub invariant-loop-reading : goal.invariant-loop-reading
invariant-loop-reading l = record {
  value : l.counts ≡ counts_of (map (λ (reading : Bor Reading). reading.now) (take l.reading-index l.readings));
  few : (l.counts.packets ≤ l.reading-index * 2 ^ 32) × (l.counts.skipped ≤ l.reading-index * 2 ^ 32)
      × (l.counts.refused ≤ l.reading-index * 2 ^ 32) × (l.counts.messages ≤ l.reading-index * 2 ^ 32)
      × (l.counts.hearings ≤ l.reading-index * 2 ^ 64);
}
