use Rattle.std.proofs.{Common.{◌++◌, ◌∷◌, [], ◌∙◌, List, ap, map, subst}}
use Rattle.mdns_lives.specs.{declared.lives.RecordLives.{RecordLives}, Lives.{AreApart}, LentLives.{row_lent}}
use Rattle.mdns_lives.proofs.{ChosenLemmas.{read-two}, LiveLifeLemmas.{Row}}
use Rattle.mdns_lives.proofs.changes.read_set.Goals as goal

pub loop-record-init : goal.loop-record-init
loop-record-init c =
    let first = c.in_ok-with_lives.field-0 in
    let second = c.in_ok-with_lives-2.field-0 in
    let one = c.in_ok-with_lives.ensures in
    let two = c.in_ok-with_lives-2.ensures in
    let pushed = c.in_ok-push-2.ensures.items ∙ ap (λ (set : List RecordLives). set ++ second ∷ [])
    (c.in_ok-push.ensures.items ∙ ap (λ (set : List RecordLives). set ++ first ∷ []) c.new-set.ensures.items) in
    read-two c.args.window c.args.first c.args.second c.args.rows.now (map row_lent c.push-2.new.self.items) c.requires
    (subst (λ (row : Row). AreApart row.1) one.row one.apart) (subst (λ (row : Row). AreApart row.1) two.row two.apart)
    (ap (map row_lent) pushed ∙ (λ i. one.row i ∷ two.row i ∷ []))
