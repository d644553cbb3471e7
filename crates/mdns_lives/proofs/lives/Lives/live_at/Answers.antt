use Rattle.std.proofs.Common.{rules, ◌≡◌, ◌∙◌, ◌∷◌, ◌++◌, ap, map, subst, sym, List}
use Rattle.mdns_cache.specs.LentRecords.{last_lent}
use Rattle.mdns_lives.specs.{declared.life.Life.{Life}, Chronicle.{AreAllLives, rows_of}, LentLives.{row_lent}}
use Rattle.mdns_lives.specs.Since.{AreLiveSince, live_since_lent, since_rows}
use Rattle.mdns_lives.proofs.SinceLemmas.{none_later, none_left, tells-all, tells-more}
use Rattle.mdns_lives.proofs.lives.Lives.live_at.Goals as goal

pub loop-rows-preserved : goal.loop-rows-preserved
loop-rows-preserved c =
    let row = c.in-Some.row in
    let first : c.loop-rows.walk ≡ row_lent row ∷ c.next.new.self = rw c.in-Some.is at c.in_ok-row.ensures.ok in
    tells-more live_since_lent c.args.now.nanos (rows_of c.args.self.now) _ _ (row_lent row) _ _ c.loop-rows.invariant first
    (c.in_ok-push_live.ensures
    ∙ ap (λ (lives : List Life). map live_since_lent c.loop-rows.rows.items ++ since_rows c.args.now.nanos (last_lent row.last) lives)
    c.as_slice.ensures.value)

pub returns-clause-rows : goal.returns-clause-rows
returns-clause-rows c = search (rules, tells-all, none_left)

pub returns-clause-live : goal.returns-clause-live
returns-clause-live c heard stands =
    subst (AreLiveSince heard c.args.now.nanos) (sym (returns-clause-rows c))
    (c.live_lives_are_since.ensures heard (rows_of c.args.self.now) c.args.now.nanos
    (none_later c.args.self.now.newest heard c.args.now stands.newest c.requires)
    (subst (AreAllLives heard) c.walk-walk.ensures.left (c.walk-walk.ensures.all heard stands)))
