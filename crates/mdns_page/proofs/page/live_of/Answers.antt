use Rattle.std.proofs.Common.{◌≡◌, ◌∙◌, ◌++◌, ℕ, List, ap, arith, map, subst, sym}
use Rattle.std.proofs.lemmas.{Simd.{map-map}}
use Rattle.std.specs.List.{filter}
use Rattle.mdns_cache.specs.LentRecords.{last_lent}
use Rattle.mdns_join.specs.declared.latest.Latest.{Latest}
use Rattle.mdns_lives.specs.{Chronicle.{rows_of}, declared.live_since.LiveSince.{LiveSince}}
use Rattle.mdns_lives.specs.Since.{AreLiveSince, all_since_rows, live_since_lent}
use Rattle.mdns_browse.specs.{Given.{given_lent}, Services.{AreAscending, GivenRow}}
use Rattle.mdns_page.specs.{Html.{isolated}, TimelineRecords.{is_drawn, looked_up}, LiveSection.{live_text}}
use Rattle.mdns_page.specs.Page.{given_of_since, live_given}
use Rattle.mdns_page.proofs.{KeptLemmas.{kept-all, map-whole}, SurveyLemmas.{live-ascending}}
use Rattle.mdns_page.proofs.page.live_of.Goals as goal

pub returns : goal.returns
returns c = λ heard stands sorted looked.
    let axis = c.args.axis in
    let live = c.in_ok-live.live.items in
    let since : map live_since_lent live ≡ all_since_rows axis.now.nanos (rows_of c.args.lives.now) = c.in_ok-live.ensures.rows in
    let given : map (λ (row : LiveSince). given_of_since (live_since_lent row)) live ≡ live_given axis (rows_of c.args.lives.now) =
    sym (map-map given_of_since live_since_lent live) ∙ ap (map given_of_since) since in
    let lasts : map last_lent c.as_slice.result.now ≡ map (λ (row : GivenRow). row.last) (live_given axis (rows_of c.args.lives.now)) =
    ap (map last_lent) c.as_slice.ensures.value
    ∙ map-whole (λ (row : LiveSince). last_lent row.last) c.deref-row-items.result.now live c.loop-row.row-index _ (omega arith)
    c.deref-row-items.ensures.value c.loop-row.invariant.0
    ∙ sym (map-map (λ (row : GivenRow). row.last) (λ (row : LiveSince). given_of_since (live_since_lent row)) live) ∙ ap (map (λ (row : GivenRow). row.last)) given in
    let keep = λ (row : GivenRow). is_drawn c.args.about.now (map last_lent c.args.heard.now) row.last in
    let drawn : map given_lent c.as_slice-2.result.now ≡ filter (λ (row : GivenRow). is_drawn c.args.about.now (looked_up c.args.about.now (rows_of c.args.lives.now)) row.last)
    (live_given axis (rows_of c.args.lives.now)) =
    ap (map given_lent) c.as_slice-2.ensures.value
    ∙ kept-all keep (λ (row : LiveSince). given_of_since (live_since_lent row)) c.deref-row-items.result.now live c.loop-row.row-index _
    (omega arith) c.deref-row-items.ensures.value (c.loop-row.invariant.1 sorted)
    ∙ ap (filter keep) given
    ∙ ap (λ (ls : List Latest). filter (λ (row : GivenRow). is_drawn c.args.about.now ls row.last)
    (live_given axis (rows_of c.args.lives.now))) looked in
    let ascending = subst AreAscending (sym lasts)
    (live-ascending heard axis (rows_of c.args.lives.now)
    (subst (λ rows. AreLiveSince heard axis.now.nanos rows) since (c.in_ok-live.ensures.live heard stands))) in
    c.in_ok-push_live.ensures ascending
    ∙ ap (λ (t : List ℕ). t ++ live_text isolated axis c.args.opened (map last_lent c.as_slice.result.now)
    (map given_lent c.as_slice-2.result.now)) c.new-text.ensures.bytes
    ∙ ap (λ (ls : List Latest). live_text isolated axis c.args.opened ls (map given_lent c.as_slice-2.result.now)) lasts
    ∙ ap (live_text isolated axis c.args.opened (map (λ (row : GivenRow). row.last) (live_given axis (rows_of c.args.lives.now)))) drawn
