use Rattle.std.proofs.Common.{◌≡◌, ◌<◌, get_or, length, rules, subst, sym, arith}
use Rattle.mdns_join.specs.{Kept.{IsAscending}, Nanos.{nanos_of}, laws.Kept.{IsAscending-filter}}
use Rattle.mdns_cache.specs.LentRecords.{last_lent}
use Rattle.mdns_lives.proofs.ChangesLemmas.{later-apart, left-change, left-on}
use Rattle.mdns_lives.proofs.changes.comes_back.Goals as goal

pub returns-then-is_change : goal.returns-then-is_change
returns-then-is_change c = grind (arith, left-change)

pub loop-life-preserved : goal.loop-life-preserved
loop-life-preserved c =
    let next = c.loop-life.life-index in
    let last = last_lent c.args.row.now.last in
    let lives = c.args.row.now.lives.items in
    let begun = nanos_of c.loop-life.rest.now in
    let within : next < length lives = search rules in
    let is : c.life-item.result ≡ get_or lives next c.life-item.result = search rules in
    record {
      sorted = subst IsAscending (sym c.after-rest.ensures) (IsAscending-filter _ begun c.loop-life.invariant.sorted);
      apart = later-apart c.args.window begun last lives next c.life-item.result within is c.loop-life.invariant.apart
          c.is_change.result c.is_change.ensures;
      left = grind (arith, left-on);
    }
