use Rattle.std.proofs.Common.{◌≡◌, ◌∙◌, false, true, ap, map, rules, sym, arith}
use Rattle.mdns_cache.specs.LentRecords.{last_lent}
use Rattle.mdns_cache.proofs.BetweenLemmas.{on_err_any}
use Rattle.mdns_lives.specs.{Changes.{by_sets, maybe_next}, LentLives.{row_lent}}
use Rattle.mdns_lives.proofs.ChosenLemmas.{goes-on-first, left-apart, left-from, sets-some}
use Rattle.mdns_lives.proofs.changes.ChosenWalk.next.Goals as goal

pub returns-then-not-is_held_with-clause-ok : goal.returns-then-not-is_held_with-clause-ok
returns-then-not-is_held_with-clause-ok c =
    let walk = c.self.inside in
    let first = c.in-Some-first_of.first in
    let second = c.in-Some-next_record.second in
    let empty = ap (map row_lent) c.in_default-take_row.ensures.none in
    let walks = sym c.take-in-Changes.ensures.value ∙ c.in-Some-take.is in
    let begun = ap (λ o. by_sets walk.window (maybe_next o) c.in-Some-take.rows) (sym c.take-in-Changes-2.ensures.value)
    ∙ c.in-Some-first_of.ensures.some in
    let off : c.is_held_with.result ≡ false = search rules in
    sym c.self.view_is
    ∙ left-from walk.window walk.which walk.changed (map row_lent walk.set.items) (map row_lent c.take_row.new.set.items) c.take_row.result
    walk.next walk.rows c.in-Some-take.rows first c.first_of.new.rows c.in-Changes.is c.take_row.ensures.first
    c.in_default-take_row.is empty walks begun
    ∙ left-apart walk.window walk.which walk.changed (map row_lent c.take_row.new.set.items) first second
    (row_lent c.alone-then-not-is_held_with.result) c.first_of.new.rows c.next_record.new.self c.in-Changes.is empty
    c.in-Some-next_record.ensures
    (goes-on-first first second (last_lent c.last.result.now) (last_lent c.last-in-Changes.result.now) c.is_held_with.result
    c.last.ensures c.last-in-Changes.ensures c.is_held_with.ensures ∙ off) c.alone-then-not-is_held_with.ensures

pub read_set-requires : goal.read_set-requires
read_set-requires c =
    let on : c.is_held_with.result ≡ true = search rules in
    goes-on-first c.in-Some-first_of.first c.in-Some-next_record.second (last_lent c.last.result.now)
    (last_lent c.last-in-Changes.result.now) c.is_held_with.result c.last.ensures c.last-in-Changes.ensures
    c.is_held_with.ensures ∙ on

pub returns-in_err-set-in-Changes-clause-some : goal.returns-in_err-set-in-Changes-clause-some
returns-in_err-set-in-Changes-clause-some c = grind (arith, left-from, sets-some, on_err_any)
