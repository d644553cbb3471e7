use Rattle.std.proofs.{Common.{arith, refl}}
use Rattle.mdns_lives.specs.Chronicle.{accounts}
use Rattle.mdns_lives.proofs.{ChronicleLemmas.{chronicles-both}}
use Rattle.mdns_lives.proofs.lives.Lives.join_with.Goals as goal

pub returns-clause-stands : goal.returns-clause-stands
returns-clause-stands c =
    let old = c.args.self.now in
    let other = c.args.other.now in
    chronicles-both old other old other (accounts c.self.inside.records c.self.inside.flushes c.newer-self-inside.result) refl refl
    (grind arith)
