use Rattle.std.proofs.{Common.{arith, rules}}
use Rattle.join_map.specs.Blocks.{entries_of}
use Rattle.join_map.proofs.SpotLemmas.{inserted_map, joined_err, joined_map}
use Rattle.join_map.proofs.join_map.join_found.Goals as goal

pub returns-in-Ok-clause-err : goal.returns-in-Ok-clause-err
returns-in-Ok-clause-err g c = grind (
  arith,
  joined_err g.met.K.Ord.total g.met.K.Copied.exact g.met.V.Semilattice.laws c.join_at.result c.args.blocks.now c.join_at.new.self
      c.args.key.now c.in-Ok.spot (g.O.ToValue.value c.args.other.now) c.requires.map (search rules) c.join_at.ensures,
)

pub returns-in-Ok-clause-valid : goal.returns-in-Ok-clause-valid
returns-in-Ok-clause-valid g c =
    joined_map g.met.K.Ord.total g.met.K.Copied.exact g.met.V.Semilattice.laws c.join_at.result c.args.blocks.now
    c.join_at.new.self c.args.key.now c.in-Ok.spot (g.O.ToValue.value c.args.other.now) c.requires.map
    (search rules) c.join_at.ensures

pub returns-in-Err-clause-valid : goal.returns-in-Err-clause-valid
returns-in-Err-clause-valid g c =
    inserted_map g.met.K.Ord.total g.met.K.Copied.exact g.met.V.Semilattice.laws c.insert_new.result c.args.blocks.now
    c.args.key.now c.in-Err.spot (g.O.ToValue.value c.args.other.now) (entries_of c.insert_new.new.blocks)
    c.requires.map c.insert_new.ensures.valid (search rules) c.insert_new.ensures.ok c.insert_new.ensures.err
