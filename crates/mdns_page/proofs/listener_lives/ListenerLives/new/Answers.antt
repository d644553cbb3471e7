use Rattle.std.proofs.Common.{◌≡◌, ◌∙◌, ◌<◌, List, [], ℕ, arith, ap, length, map, string_bytes, subst, sym}
use Rattle.std.proofs.lemmas.{List.{length-map}, List.FromFn.{length-map-range_with_len}}
use Rattle.std.specs.List.{All, range_with_len}
use Rattle.mdns_message.specs.declared.hearing.Hearing.{Hearing}
use Rattle.mdns_lives.specs.Chronicle.{Chronicles}
use Rattle.mdns_browse.specs.Services.{AreEach}
use Rattle.mdns_page.proofs.{ByListenerLemmas.{holds-nothing}, LiveLemmas.{each-count}}
use Rattle.mdns_page.proofs.listener_lives.ListenerLives.new.Goals as goal

pub returns : goal.returns
returns c =
    let groups = c.args.groups.now in
    let captures = c.in_ok-unheard.field-0.items in
    let none : ℕ → List Hearing = λ (listener : ℕ). [] in
    let count : length c.names.result.now ≡ length groups.names =
    sym (length-map c.names.result.now string_bytes) ∙ ap length c.names.ensures in
    let each : AreEach Chronicles captures (map none (range_with_len 0 (length groups.names))) =
    subst (λ (n : ℕ). AreEach Chronicles captures (map none (range_with_len 0 n))) count c.in_ok-unheard.ensures in
    let long : length captures ≡ length groups.names =
    each-count Chronicles captures (map none (range_with_len 0 (length groups.names))) each
    ∙ length-map-range_with_len none 0 (length groups.names) in
    let within : All (λ listener. listener < length groups.names) groups.by_file =
    subst (All (λ listener. listener < length groups.names)) c.by_file.ensures.by_file c.by_file.ensures.within in
    record {
      within = within;
      by_file = c.in_ok-from_slice.ensures.items ∙ c.by_file.ensures.by_file;
      place = omega arith;
      captures = each;
      all = holds-nothing captures c.in_ok-no_lives.field-0 groups.by_file
          (subst (λ (n : ℕ). All (λ listener. listener < n) groups.by_file) (sym long) within)
          (subst (λ (n : ℕ). AreEach Chronicles captures (map none (range_with_len 0 n))) (sym long) each) c.in_ok-no_lives.ensures;
    }
