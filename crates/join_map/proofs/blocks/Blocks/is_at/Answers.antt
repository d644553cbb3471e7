use Rattle.std.proofs.Common.{◌∙◌, sym, rules}
use Rattle.join_map.proofs.KeyLemmas.{is_at}
use Rattle.join_map.proofs.blocks.Blocks.is_at.Goals as goal

pub returns-in-Equal : goal.returns-in-Equal
returns-in-Equal g c _ =
    is_at g.K.Ord.cmp c.args.self.now c.args.key.now c.args.spot c.entry.result.now (search rules) c.entry.ensures
    (sym c.cmp.ensures ∙ c.in-Equal.is)
