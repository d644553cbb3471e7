use Rattle.std.proofs.Common.{◌∙◌, [], refl, sym, true}
use Rattle.mdns_page.proofs.SecondsByCaptureLemmas.{gives-nothing, gives-updated, none-shown}
use Rattle.mdns_page.proofs.seconds_by_capture.unheard_records.Goals as goal

pub loop-record-init : goal.loop-record-init
loop-record-init c = gives-nothing true (λ key. []) c.new-by_record.result c.new-by_record.ensures.empty

pub loop-record-preserved : goal.loop-record-preserved
loop-record-preserved c =
    let key = c.in_ok-key.field-0 in
    let updates = c.in_ok-insert.ensures.updates in
    gives-updated true (λ key. []) (λ key. []) c.loop-record.by_record c.insert.new.self key
    (λ shown at. none-shown key c.new.result shown c.new.ensures.items (sym updates.1 ∙ at)) (λ q e. (updates.2 q e, refl))
    c.loop-record.invariant
