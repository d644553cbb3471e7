use Rattle.std.proofs.Common.{arith, get_or, map}
use Rattle.std.proofs.lemmas.{Grind.{common_steps}, List.{map-append, take-append-drop}, Result.{on_ok_weaker}}
use Rattle.mdns_cache.specs.LentRecords.{last_lent}
use Rattle.mdns_lives.specs.LentLives.{row_lent}
use Rattle.mdns_page.proofs.ServedLemmas.{same-named}
use Rattle.mdns_page.proofs.service_lives.+push_lives.Goals as goal

pub returns-in_ok-push_lives-in_default : goal.returns-in_ok-push_lives-in_default
returns-in_ok-push_lives-in_default t c =
    on_ok_weaker c.push_lives-in_default.result (λ pushed. (
    let lives = c.args.lives.now in
    let same = same-named (last_lent c.args.«record».now.last) c.args.name.now (map row_lent c.args.named.now)
    (map row_lent c.in_ok-found-in_default.found.items) lives
    (λ k d within. c.in_ok-found-in_default.ensures (get_or lives k d) (c.span_of.ensures k d within)) in
    grind (arith, common_steps, map-append, take-append-drop))) c.push_lives-in_default.ensures
