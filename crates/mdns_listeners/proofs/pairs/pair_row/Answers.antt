use Rattle.std.proofs.Common.{◌≡◌, ◌∙◌, ap, length}
use Rattle.mdns_listeners.specs.Pairs.{ascending_of, common, differences, quartiles_of}
use Rattle.mdns_listeners.proofs.{MarkLemmas.{common-marks, differences-marks}, SortLemmas.{length-ascending}}
use Rattle.mdns_listeners.proofs.pairs.pair_row.Goals as goal

pub returns : goal.returns
returns c = λ rows table marked.
    let one = c.args.one in
    let other = c.args.other in
    let ahead : c.as_slice-ahead.result.now ≡ ascending_of (differences one other rows) =
    c.as_slice-ahead.ensures.value ∙ (c.sort.ensures ∙ ap ascending_of
    (c.in_ok-ahead.ensures ∙ differences-marks one other rows c.args.seen.now c.args.marks.now table marked)) in
    let shared : c.common-common.result ≡ common one other rows =
    c.common-common.ensures ∙ common-marks one other rows c.args.seen.now c.args.marks.now table marked in
    let count : length c.as_slice-ahead.result.now ≡ length (differences one other rows) =
    ap length ahead ∙ length-ascending (differences one other rows) in
    let parts : c.quartiles_of.result ≡ quartiles_of (ascending_of (differences one other rows)) =
    c.quartiles_of.ensures ∙ ap quartiles_of ahead in
    λ k. record { one = one; other = other; common = shared k; by = count k; quartiles = parts k }
