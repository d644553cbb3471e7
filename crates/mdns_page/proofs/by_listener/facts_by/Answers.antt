use Rattle.std.proofs.Common.{◌≡◌, ◌∙◌, ◌++◌, ◌∷◌, [], List, arith, ap, get_or, map, string_bytes, sym, ℕ}
use Rattle.std.proofs.lemmas.{List.{get_or-map, map-append}, List.FromFn.{map-range_with_len_more}}
use Rattle.std.specs.Borrow.{Bor}
use Rattle.mdns_survey.specs.declared.reading.Reading.{Reading}
use Rattle.mdns_page.specs.{ByListener.{facts_at, facts_of, files_of}, Captures.{facts_lent}}
use Rattle.mdns_page.proofs.by_listener.facts_by.Goals as goal

pub loop-listener-preserved : goal.loop-listener-preserved
loop-listener-preserved c =
    let names = c.names-names.result.now in
    let i = c.loop-listener.listener in
    let groups = c.args.groups.now in
    let readings = c.args.readings.now in
    let name = c.index-names-listener.result in
    let named : string_bytes name ≡ get_or groups.names i [] =
    ap string_bytes c.index-names-listener.is ∙ sym (get_or-map string_bytes names i name [] c.loop-listener-test.true)
    ∙ ap (λ (ns : List (List ℕ)). get_or ns i []) c.names-names.ensures in
    let own : map (λ (reading : Bor Reading). reading.now) c.as_slice.result.now ≡ files_of groups.by_file 0 i readings =
    ap (map (λ (reading : Bor Reading). reading.now)) c.as_slice.ensures.value ∙ c.in_ok-own.ensures
    ∙ ap (λ (of : List ℕ). files_of of 0 i readings) c.by_file.ensures.by_file in
    let made : facts_lent c.facts_of.result ≡ facts_at groups readings i =
    c.facts_of.ensures ∙ (λ k. facts_of ((c.as_str.ensures.value ∙ named) k) (own k)) in
    ap (map facts_lent) c.in_ok-push.ensures.items ∙ map-append facts_lent c.loop-listener.facts.items (c.facts_of.result ∷ [])
    ∙ (λ k. c.loop-listener.invariant k ++ made k ∷ []) ∙ sym (map-range_with_len_more (facts_at groups readings) 0 i i (omega arith))
