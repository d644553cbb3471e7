use Rattle.std.proofs.Common.{◌≡◌, arith, length, length-take-le, refl, subst, take, take_all}
use Rattle.std.specs.Io.KnownBytes.{Consumes}
use Rattle.mdns_trace.proofs.{FlawLemmas.{begun-sound, flaw-came, given-again}, VerdictLemmas.{head-known}}
use Rattle.mdns_trace.proofs.peeked.begin.Goals as goal

pub returns-in-None-clause-begun : goal.returns-in-None-clause-begun
returns-in-None-clause-begun g c =
    let to = c.read_head.new.to in
    let count = c.in-Ok.count in
    let read = c.in-Ok.ensures in
    let known = head-known _ to count c.read_head.auto.to read.bound.0 read.end in
    let header = c.in-None.ensures.none refl in
    let long : length (take count to) ≡ count = length-take-le count to read.bound.0 in
    let whole : take count to ≡ to = take_all count to (omega (arith, c.read_head.auto.to, header.0, long)) in
    rw c.in-Some.is (record {
      sound = begun-sound _ _ (take count to) read.bytes known header.1;
      bytes = given-again _ _ to (subst (Consumes _ _) whole read.bytes);
      stays = read.well.stays;
    })

pub returns-in-Some-flaw_by-clause-verdict : goal.returns-in-Some-flaw_by-clause-verdict
returns-in-Some-flaw_by-clause-verdict g c =
    let to = c.read_head.new.to in
    let read = c.in-Ok.ensures in
    let known = head-known _ to c.in-Ok.count c.read_head.auto.to read.bound.0 read.end in
    let some = c.in-Some-flaw_by.ensures.some in
    rw c.in-Some.is (flaw-came _ _ (take c.in-Ok.count to) c.in-Some-flaw_by.flaw read.bytes known some.0 some.1)
