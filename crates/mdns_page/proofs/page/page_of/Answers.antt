use Rattle.std.proofs.Common.{◌≡◌, ◌∙◌, ◌+◌, ◌++◌, [], Bool, if◌then◌else◌, List, ℕ, ap, length, map, string_bytes, subst, sym}
use Rattle.std.proofs.lemmas.{List.{length-map}, List.Sums.{length-filter}, Simd.{map-map}}
use Rattle.std.specs.{List.{filter}, List.Sorted.{IsStrictlySortedBy}}
use Rattle.mdns_message.specs.Resource.{key_cmp}
use Rattle.mdns_cache.specs.{Live.{key_of_last}, LentRecords.{last_lent}}
use Rattle.mdns_join.specs.declared.latest.Latest.{Latest}
use Rattle.mdns_lives.specs.{Chronicle.{Accounts, Chronicles}, LentLives.{row_lent}, declared.life.Life.{Life}}
use Rattle.mdns_browse.specs.{declared.about.Subject.{Subject}, Services.{AreEach}}
use Rattle.mdns_page.specs.{Captures.{comparison_lent, facts_lent}, Collected.{rows_lent}, Html.{isolated}, Lead.{ended_lent, known_lent, known_of}}
use Rattle.mdns_page.specs.{TimelineRecords.{AreRows, has_row, is_kept, kept_of, looked_up}, SkippedSection.{skipped_text}}
use Rattle.mdns_page.specs.{Document.{Shown, page}, Page.{WritesPage, live_at_end}, Timeline.{Row, counted_lent, is_large, is_open}}
use Rattle.mdns_page.specs.declared.timeline_records.{TimelinePart.{TimelinePart}, TimelinePart.TheVariants.{Addresses, Instances, Names}}
use Rattle.mdns_page.specs.declared.seconds_by_capture.Hearers.{Hearers}
use Rattle.mdns_page.proofs.{CountedLemmas.{record_in}, KeptLemmas.{few-sorted, looked_up-sorted, some-sorted}}
use Rattle.mdns_page.proofs.page.page_of.Goals as goal

pub returns : goal.returns
returns c = λ each heard chronicled held latest.
    let all = subst (λ (all : Accounts). Chronicles all heard) (sym c.all-all.ensures) held in
    let axis = c.args.axis in
    let about = c.as_slice-about.result.now in
    let walk = c.walk-2.result in
    let lives = c.walk-2.ensures.all heard all in
    let rows = map counted_lent c.in_ok-rows.rows.items in
    let addresses = map counted_lent c.in_ok-addresses.addresses.items in
    let others = map counted_lent c.in_ok-others.others.items in
    let found : map last_lent c.in_ok-heard.heard.items ≡ looked_up about walk =
    c.in_ok-heard.ensures ∙ ap (looked_up about) (c.walk.ensures.left ∙ sym c.walk-2.ensures.left) in
    let looked : map last_lent c.as_slice.result.now ≡ looked_up about walk = ap (map last_lent) c.as_slice.ensures.value ∙ found in
    let looked_live : map last_lent c.as_slice-2.result.now ≡ looked_up about walk =
    ap (map last_lent) c.as_slice-2.ensures.value ∙ found in
    let Sorted = λ (ls : List Latest). IsStrictlySortedBy key_cmp (map key_of_last ls) in
    let sorted = looked_up-sorted heard walk lives about in
    let records = map row_lent c.as_slice-records.result.now in
    let kept : records ≡ kept_of about walk =
    ap (map row_lent) c.as_slice-records.ensures.value ∙ c.in_ok-kept.ensures.rows (subst Sorted (sym looked) sorted)
    ∙ ap (λ (ls : List Latest). filter (λ (row : Latest × List Life). is_kept about ls row.0) walk) looked in
    let in_order = subst (λ (rs : List (Latest × List Life)). IsStrictlySortedBy key_cmp (map (λ (row : Latest × List Life). key_of_last row.0) rs))
    (sym kept)
    (some-sorted heard walk lives (λ (row : Latest × List Life). is_kept about (looked_up about walk) row.0)) in
    let by = λ (hearers : Hearers) (same : hearers.chronicles.now ≡ c.as_slice-chronicles.result.now).
    subst (λ (chronicles : List Accounts). AreEach Chronicles chronicles each) (sym (same ∙ c.as_slice-chronicles.ensures.value)) chronicled in
    let by_rows = by c.in_ok-of_rows.of_rows c.in_ok-of_rows.ensures.chronicles in
    let by_addresses = by c.in_ok-of_addresses.of_addresses c.in_ok-of_addresses.ensures.chronicles in
    let by_others = by c.in_ok-of_others.of_others c.in_ok-of_others.ensures.chronicles in
    let count : c.shown_count-count.result ≡ length rows =
    c.shown_count-count.ensures ∙ sym (length-filter (has_row Instances axis.window) records) ∙ ap length (sym c.in_ok-rows.ensures.records)
    ∙ length-map rows record_in in
    let few : map row_lent c.unless_large-few.result.now ≡ (if is_large (length rows) then [] else records) =
    c.unless_large-few.ensures
    ∙ ap (λ (large : Bool). if large then [] else records) (c.is_large.ensures ∙ ap is_large count) in
    let Ascending = λ (rs : List (Latest × List Life)).
    IsStrictlySortedBy key_cmp (map (λ (row : Latest × List Life). key_of_last row.0) rs) in
    let few_in_order = subst Ascending (sym few) (few-sorted (is_large (length rows)) records in_order) in
    let are = λ (part : TimelinePart) (large : Bool) (made : List Row) (own : AreRows part axis.window large each records made).
    subst (λ (rs : List (Latest × List Life)). AreRows part axis.window large each rs made) kept own in
    let filtered = λ (part : TimelinePart). ap (filter (has_row part axis.window)) few in
    let few_shown = λ (part : TimelinePart). sym (length-filter (has_row part axis.window) (map row_lent c.unless_large-few.result.now)) in
    let count_addresses : c.shown_count-address_count.result ≡ length addresses =
    c.shown_count-address_count.ensures ∙ few_shown Addresses ∙ ap length (sym c.in_ok-addresses.ensures.records) ∙ length-map addresses record_in in
    let count_others : c.shown_count.result ≡ length others =
    c.shown_count.ensures ∙ few_shown Names ∙ ap length (sym c.in_ok-others.ensures.records) ∙ length-map others record_in in
    let opened : c.is_open-opened.result ≡ is_open (length rows + length addresses + length others) =
    c.is_open-opened.ensures ∙ (λ i. is_open (count i + count_addresses i + count_others i)) in
    let live : string_bytes c.in_ok-live.live
    ≡ live_at_end about axis (is_open (length rows + length addresses + length others)) walk =
    c.in_ok-live.ensures heard all (subst Sorted (sym looked_live) sorted) (looked_live ∙ ap (looked_up about) c.walk-2.ensures.left)
    ∙ (λ i. live_at_end about axis (opened i) (sym c.walk-2.ensures.left i)) in
    let shown : Shown = record {
      axis = axis;
      about = about;
      captures = map facts_lent c.as_slice-3.result.now;
      files = map ended_lent c.as_slice-4.result.now;
      comparison = comparison_lent c.lent.result;
      lost = c.lost_packets.result;
      rows = map counted_lent c.as_slice-5.result.now;
      addresses = map counted_lent c.as_slice-6.result.now;
      names = map counted_lent c.as_slice-7.result.now;
      known = map known_lent c.as_slice-records.result.now;
      live = c.as_str.result.now;
      skipped = c.as_str-2.result.now;
    } in
    subst (λ (subjects : List Subject). WritesPage subjects (map string_bytes c.args.page.now.names.now) c.args.page.now.groups.now
    c.args.readings.now (rows_lent c.args.comparison.now) each heard axis (string_bytes c.push_page.new.to)) c.as_slice-about.ensures (record {
      latest = latest;
      rows = walk;
      lives = lives;
      instances = rows;
      are_instances = are Instances _ rows (record {
        are = c.in_ok-rows.ensures.records;
        counted = c.in_ok-rows.ensures.heard each by_rows (c.in_ok-of_rows.ensures.by_record each by_rows);
        served = c.in_ok-rows.ensures.servers in_order;
      });
      addresses = addresses;
      are_addresses = are Addresses _ addresses (record {
        are = c.in_ok-addresses.ensures.records ∙ filtered Addresses;
        counted = c.in_ok-addresses.ensures.heard each by_addresses (c.in_ok-of_addresses.ensures.by_record each by_addresses);
        served = c.in_ok-addresses.ensures.servers in_order;
      });
      others = others;
      are_others = are Names _ others (record {
        are = c.in_ok-others.ensures.records ∙ filtered Names;
        counted = c.in_ok-others.ensures.heard each by_others (c.in_ok-of_others.ensures.by_record each by_others);
        served = c.in_ok-others.ensures.servers in_order;
      });
      written = c.in_ok-push_page.ensures ∙ ap (λ (text : List ℕ). text ++ page isolated shown) c.new-text.ensures.bytes
          ∙ ap (page isolated) (λ i. record {
            axis = axis;
            about = about;
            captures = (ap (map facts_lent) c.as_slice-3.ensures.value ∙ c.in_ok-captures.ensures) i;
            files = (ap (map ended_lent) c.as_slice-4.ensures.value ∙ c.in_ok-files.ensures) i;
            comparison = c.lent.ensures i;
            lost = c.lost_packets.ensures.value i;
            rows = ap (map counted_lent) c.as_slice-5.ensures.value i;
            addresses = ap (map counted_lent) c.as_slice-6.ensures.value i;
            names = ap (map counted_lent) c.as_slice-7.ensures.value i;
            known = (sym (map-map known_of row_lent c.as_slice-records.result.now) ∙ ap (map known_of) kept) i;
            live = (c.as_str.ensures.value ∙ live) i;
            skipped = (c.as_str-2.ensures.value ∙ c.in_ok-push_skipped.ensures
                ∙ ap (λ (none : List ℕ). none ++ skipped_text c.args.readings.now) c.new-skipped.ensures.bytes) i;
          });
    })
