use Rattle.std.proofs.Common.{arith, rules, ◌≡◌, ℕ, ◌-◌, List, ◌++◌, length, take, drop, append_assoc, take-append-drop}
use Rattle.std.proofs.{lemmas.List.{take_rest}, KnownBytes.{Appends-trans}}
use Rattle.mdns_capture.proofs.all_bytes.write_all.Goals as goal

moves_prefix : (all done rest : List ℕ) (n : ℕ) → all ≡ done ++ rest → all ≡ (done ++ take n rest) ++ take (length rest - n) (drop n rest)
moves_prefix all done rest n e = grind (arith, take-append-drop, append_assoc, take_rest)

pub loop-rest-preserved : goal.loop-rest-preserved
loop-rest-preserved g c =
    let (done, split, appended) = c.loop-rest.invariant.moved in
    let rest = c.loop-rest.rest.now in
    let n = c.in_ok-count.count in
    record {
      moved = (done ++ take n rest, moves_prefix _ done rest n split, Appends-trans _ _ _ _ _ appended c.in_ok-count.ensures.bytes);
      well = search (rules, arith);
    }
