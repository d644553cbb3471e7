use Rattle.std.proofs.Common.{◌≡◌, ◌∙◌, ◌<◌, ◌+◌, ◌||◌, ◌++◌, ◌∷◌, [], Vec}
use Rattle.std.proofs.Common.{Global, true, false, ltb, get_or, drop, length, ap, arith, sym, append-nil}
use Rattle.std.proofs.lemmas.{List.{get_or_default}, List.FromFn.{get_or-map-range_with_len}}
use Rattle.std.specs.List.{enumerate_from}
use Rattle.mdns_listeners.specs.{Marks.{marks_by}, Pairs.{is_pair, meet, pair_row, pair_rows_with}, declared.pairs.PairRow.{PairRow}}
use Rattle.mdns_listeners.proofs.{PairLemmas.{pair_more}, pairs.push_pairs.Goals.{then-is_pair+in_ok-push, else-is_pair}}
use Rattle.mdns_listeners.proofs.pairs.push_pairs.Goals as goal

pub loop-other-preserved : goal.loop-other-preserved
loop-other-preserved c = λ rows seen marks d.
    let one = c.args.one in
    let other = c.loop-other.other in
    let spans = c.args.spans.now in
    let before = c.loop-other.all.items in
    let short : other < length spans = c.loop-other-test.true in
    let marked : c.as_slice.result.now ≡ marks_by rows other =
    grind (arith, get_or-map-range_with_len) in
    let row_is : c.in_ok-row.row ≡ pair_row rows one other = c.in_ok-row.ensures rows seen marked in
    let shared = ap (λ (r : PairRow). r.common) row_is in
    let whole : c.whole.result ≡ (get_or spans one d).whole =
    grind (arith, get_or_default) in
    let other_whole : c.whole-in-loop-other.result ≡ (get_or spans other d).whole =
    grind (arith, get_or_default) in
    let judged : c.is_pair.result ≡ is_pair rows (one, get_or spans one d) (other, get_or spans other d) =
    c.is_pair.ensures ∙ (λ k. ltb 0 (shared k) || meet (whole k) (other_whole k)) in
    let total = c.args.all.now.items ++ pair_rows_with rows (one, get_or spans one d) (enumerate_from (one + 1) (drop (one + 1) spans)) in
    elim c.if-is_pair.branch [
      | then-is_pair+in_ok-push w ↦
          pair_more rows (one, get_or spans one d) spans other d true before c.if-is_pair.all.items total short
          (sym w.if-is_pair.true ∙ judged)
          (ap (λ (v : Vec PairRow Global). v.items) w.all-is
          ∙ (w.in_ok-push.ensures.items ∙ ap (λ (r : PairRow). before ++ r ∷ []) row_is))
          (c.loop-other.invariant rows seen marks d)
      | else-is_pair w ↦
          pair_more rows (one, get_or spans one d) spans other d false before c.if-is_pair.all.items total short
          (sym w.if-is_pair.false ∙ judged)
          (ap (λ (v : Vec PairRow Global). v.items) w.all-is ∙ sym (append-nil before))
          (c.loop-other.invariant rows seen marks d)
    ]
