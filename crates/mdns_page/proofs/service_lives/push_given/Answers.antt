use Rattle.std.proofs.{Common.{arith}, lemmas.{Grind.{common_steps}, Result.{on_ok_weaker}}}
use Rattle.mdns_page.proofs.service_lives.push_given.Goals as goal

pub returns : goal.returns
returns c =
    on_ok_weaker c.push_lives.result (λ pushed sorted. (
    let named = c.servers_named.ensures sorted in
    let given = c.in-Some.ensures.given in
    grind (arith, common_steps))) c.push_lives.ensures
