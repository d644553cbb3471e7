use Rattle.join_map.proofs.blocks.Blocks.walk.Goals as goal

pub new-requires : goal.new-requires
new-requires g c = rw c.as_slice.ensures.value (rw c.as_slice-2.ensures.value c.self.invariant)
