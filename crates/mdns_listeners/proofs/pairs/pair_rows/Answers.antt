use Rattle.std.proofs.{Common.{◌∙◌, [], None, arith}, lemmas.List.FromFn.{length-map-range_with_len}}
use Rattle.mdns_listeners.specs.{Numbers.{FileSpans}, Pairs.{pair_rows}}
use Rattle.mdns_listeners.proofs.PairLemmas.{listener_more}
use Rattle.mdns_listeners.proofs.pairs.pair_rows.Goals as goal

pub push_pairs-requires-clause-marks : goal.push_pairs-requires-clause-marks
push_pairs-requires-clause-marks c = grind (arith, length-map-range_with_len)

pub loop-one-preserved : goal.loop-one-preserved
loop-one-preserved c =
    let rows = c.args.rows.now in
    let spans = c.args.spans.now in
    let d : FileSpans = record { spans = []; whole = None } in
    listener_more rows spans c.loop-one.one d c.loop-one.all.items c.push_pairs.new.all.items (pair_rows rows spans)
    c.loop-one-test.true
    (c.in_ok-push_pairs.ensures rows (c.as_slice.ensures.value ∙ c.in_ok-seen.ensures)
    (c.as_slice-in-loop-one.ensures.value ∙ c.in_ok-marks.ensures) d)
    c.loop-one.invariant
