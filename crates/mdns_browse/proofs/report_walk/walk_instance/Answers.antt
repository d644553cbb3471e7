use Rattle.std.proofs.{Common.{◌++◌, [], ◌∷◌, map}, lemmas.Result.{on_ok_weaker}}
use Rattle.mdns_cache.specs.LentRecords.{last_lent}
use Rattle.mdns_browse.specs.{Given.{given_lent}, Services.{servers_in, texts_in}}
use Rattle.mdns_browse.specs.Sheet.{instance_begin, instance_text, instance_end, servers_pieces}
use Rattle.mdns_browse.proofs.report_walk.walk_instance.Goals as goal

pub returns : goal.returns
returns g c =
    let laws = g.met.S.Sheet.laws in
    let name = c.args.name.now in
    let rows = map last_lent c.args.rows.now in
    let servers = servers_pieces (servers_in rows name) in
    let texts = map instance_text (texts_in rows name) in
    on_ok_weaker c.instance_end.result
    (λ end ascending.
    laws.more _ _ _ (instance_begin (given_lent c.args.given.now) name ∷ []) (servers ++ (texts ++ instance_end ∷ []))
    c.in_ok-instance_begin.ensures
    (laws.more _ _ _ servers (texts ++ instance_end ∷ []) (c.in_ok-walk_servers.ensures ascending)
    (laws.more _ _ _ texts (instance_end ∷ []) (c.in_ok-walk_texts.ensures ascending) end)))
    c.instance_end.ensures
