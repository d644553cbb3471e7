use Rattle.std.proofs.Common.{◌≡◌, ◌∙◌, List, ap, map, subst, sym}
use Rattle.std.specs.{List.{filter}, List.Sorted.{IsStrictlySortedBy}}
use Rattle.mdns_message.specs.Resource.{key_cmp}
use Rattle.mdns_cache.specs.{Live.{key_of_last}, LentRecords.{last_lent}}
use Rattle.mdns_join.specs.declared.latest.Latest.{Latest}
use Rattle.mdns_lives.specs.{LentLives.{row_lent}, declared.life.Life.{Life}}
use Rattle.mdns_browse.specs.{LifeText.{nanos_if_some}, ServiceLifeText.{service_life_lent, service_lives_text}, declared.about.Subject.{Subject}}
use Rattle.mdns_page.specs.{TimelineRecords.{is_kept, kept_of, looked_up}, ServiceLives.{service_lives}}
use Rattle.mdns_page.proofs.KeptLemmas.{looked_up-sorted, some-sorted}
use Rattle.mdns_page.proofs.service_lives.text_of.Goals as goal

pub returns : goal.returns
returns c = λ heard held latest.
    let request = c.args.request.now in
    let about = c.as_slice-about.result.now in
    let walk = c.walk-2.result in
    let lives = c.walk-2.ensures.all heard held in
    let found : map last_lent c.in_ok-heard.heard.items ≡ looked_up about walk =
    c.in_ok-heard.ensures ∙ ap (looked_up about) (c.walk.ensures.left ∙ sym c.walk-2.ensures.left) in
    let looked : map last_lent c.as_slice.result.now ≡ looked_up about walk = ap (map last_lent) c.as_slice.ensures.value ∙ found in
    let Sorted = λ (ls : List Latest). IsStrictlySortedBy key_cmp (map key_of_last ls) in
    let sorted = looked_up-sorted heard walk lives about in
    let records = map row_lent c.as_slice-2.result.now in
    let kept : records ≡ kept_of about walk =
    ap (map row_lent) c.as_slice-2.ensures.value ∙ c.in_ok-kept.ensures.rows (subst Sorted (sym looked) sorted)
    ∙ ap (λ (ls : List Latest). filter (λ (row : Latest × List Life). is_kept about ls row.0) walk) looked in
    let in_order = subst (λ (rs : List (Latest × List Life)). IsStrictlySortedBy key_cmp (map (λ (row : Latest × List Life). key_of_last row.0) rs))
    (sym kept)
    (some-sorted heard walk lives (λ (row : Latest × List Life). is_kept about (looked_up about walk) row.0)) in
    let services : map service_life_lent c.as_slice-3.result.now ≡ service_lives request.window (kept_of request.about walk) =
    ap (map service_life_lent) c.as_slice-3.ensures.value ∙ c.in_ok-services.ensures in_order
    ∙ ap (service_lives request.window) kept ∙ ap (λ (subjects : List Subject). service_lives request.window (kept_of subjects walk)) c.as_slice-about.ensures in
    record {
      latest = latest;
      rows = walk;
      lives = lives;
      written = c.in_ok-service_lives_text.ensures
          ∙ ap (service_lives_text request.form request.window (nanos_if_some c.args.begin) c.args.end_of_captures.nanos) services;
    }
