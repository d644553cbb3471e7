use Rattle.std.proofs.{Common.{sym, subst, ◌++◌, [], ◌∷◌, map}, lemmas.{List.{map-append}, Result.{on_ok_weaker}}}
use Rattle.mdns_cache.specs.LentRecords.{last_lent}
use Rattle.mdns_browse.specs.{Services.{body_of, data_of_set}, Sheet.{server_begin, server_address, server_end}}
use Rattle.mdns_browse.proofs.report_walk.walk_server.Goals as goal

pub returns : goal.returns
returns g c =
    let takes = g.S.Sheet.takes in
    let more = g.met.S.Sheet.laws.more in
    let rows = map last_lent c.args.rows.now in
    let service = c.args.service in
    let fours = data_of_set rows service.target.now 1 in
    let sixes = data_of_set rows service.target.now 28 in
    let begin = server_begin service.priority service.weight service.port service.target.now in
    on_ok_weaker c.server_end.result
    (λ end ascending.
    let four =
    subst (λ found. takes c.server_begin.new.self (map server_address (map body_of found)) c.walk_addresses.new.sheet)
    (c.of_set.ensures ascending) c.in_ok-walk_addresses.ensures in
    let six =
    subst (λ found. takes c.walk_addresses.new.sheet (map server_address (map body_of found)) c.walk_addresses-2.new.sheet)
    (c.of_set-2.ensures ascending) c.in_ok-walk_addresses-2.ensures in
    more _ _ _ (begin ∷ []) (map server_address (fours ++ sixes) ++ server_end ∷ []) c.in_ok-server_begin.ensures
    (more _ _ _ (map server_address (fours ++ sixes)) (server_end ∷ [])
    (subst (λ ps. takes c.server_begin.new.self ps c.walk_addresses-2.new.sheet) (sym (map-append server_address fours sixes))
    (more _ _ _ (map server_address fours) (map server_address sixes) four six)) end))
    c.server_end.ensures
