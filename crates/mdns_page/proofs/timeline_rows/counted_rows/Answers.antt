use Rattle.std.proofs.Common.{◌≡◌, ◌∙◌, ◌++◌, ◌∷◌, [], ap, cond, map, sym}
use Rattle.std.proofs.lemmas.List.{map-append}
use Rattle.mdns_lives.specs.{LentLives.{row_lent}}
use Rattle.mdns_browse.specs.Services.{body_of}
use Rattle.mdns_page.specs.{TimelineRows.{IsCounted}, TimelineRecords.{has_row}, Servers.{servers_of}, Timeline.{Row, counted_lent}}
use Rattle.mdns_page.proofs.{CountedLemmas.{record_in, row-more}, KeptLemmas.{kept_more}}
use Rattle.mdns_page.proofs.timeline_rows.counted_rows.Goals as goal

pub loop-record-preserved : goal.loop-record-preserved
loop-record-preserved c =
    let keep = has_row c.args.part c.args.window in
    let rows = c.loop-record.rows.items in
    let so_far = c.loop-record.invariant in
    let row = c.counted_row.result in
    let made = c.counted_row.ensures in
    let pushed = c.in_ok-push.ensures.items in (
      ap (λ found. map record_in (map counted_lent found)) pushed ∙ ap (map record_in) (map-append counted_lent rows (row ∷ []))
          ∙ map-append record_in (map counted_lent rows) (counted_lent row ∷ [])
          ∙ ap (λ one. map record_in (map counted_lent rows) ++ one ∷ []) made.record
          ∙ ap (λ kept. map record_in (map counted_lent rows) ++ cond kept (row_lent c.record-item.result ∷ []) [])
          (sym c.if-not-has_row.false ∙ c.has_row.ensures)
          ∙ sym (kept_more keep row_lent c.args.records.now c.loop-record.record-index c.record-item.result _ c.loop-record-test.true
          c.record-item.is so_far.0),
      λ each are gives. row-more (IsCounted each) rows row _ pushed (so_far.1 each are gives) (made.heard each are gives),
      λ sorted. row-more (λ (row : Row). row.servers ≡ servers_of (map row_lent c.args.servers.now) (body_of row.last)) rows row _ pushed (so_far.2 sorted) (made.servers sorted),
    )
