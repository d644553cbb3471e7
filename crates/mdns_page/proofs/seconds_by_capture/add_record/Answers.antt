use Rattle.std.proofs.Common.{◌≡◌, ◌∙◌, None, Some, ap, false, refl, subst, sym, true}
use Rattle.std.specs.{BTreeMap.{get}, Option.{IsSome}, Ordering.{is_eq}}
use Rattle.mdns_message.specs.{Resource.{key_cmp, key_of}, declared.key.Key.{Key}}
use Rattle.mdns_page.specs.Timeline.{seconds_lent}
use Rattle.mdns_page.proofs.SecondsByCaptureLemmas.{captures_after, captures_before, gives-more, gives-without, others-stay}
use Rattle.mdns_page.proofs.seconds_by_capture.add_record.Goals as goal

pub returns-in_default : goal.returns-in_default
returns-in_default c = λ heard stands each left apart.
    let key = key_of c.args.resource.now in
    let own : c.in_ok-key.key ≡ key = c.in_ok-key.ensures ∙ ap key_of c.borrowed.ensures in
    let same = c.get_mut.follows.holds-at-none in
    let none : get key_cmp c.args.by_record.now c.in_ok-key.key ≡ None = sym (rw c.in_default.is at c.get_mut.ensures.value) in
    gives-without true (captures_before each heard key left) (captures_after each heard key left) c.args.by_record.now
    c.get_mut.follows.lender-at-none key
    (ap (λ by_record. get key_cmp by_record key) same ∙ subst (λ (k : Key). get key_cmp c.args.by_record.now k ≡ None) own none)
    (λ q e. (ap (λ by_record. get key_cmp by_record q) same, others-stay each heard key left q e))

pub returns : goal.returns
returns c = λ heard stands each left apart.
    let key = key_of c.args.resource.now in
    let own : c.in_ok-key.key ≡ key = c.in_ok-key.ensures ∙ ap key_of c.borrowed.ensures in
    let new = c.get_mut.follows.lender c.push_seconds_heard.new.to in
    let had : get key_cmp c.args.by_record.now c.in_ok-key.key ≡ Some c.in-Some.shown.now =
    sym (rw c.in-Some.is at c.get_mut.ensures.value) in
    let updates = (c.get_mut.follows.holds c.push_seconds_heard.new.to).3 (subst IsSome (sym had) refl) in
    gives-more each heard key left apart c.args.by_record.now new c.in-Some.shown.now c.push_seconds_heard.new.to
    (seconds_lent c.in_ok-seconds_heard.field-0)
    (subst (λ (k : Key). get key_cmp c.args.by_record.now k ≡ Some c.in-Some.shown.now) own had)
    (subst (λ (k : Key). get key_cmp new k ≡ Some c.push_seconds_heard.new.to) own updates.1)
    (λ q e. updates.2 q (subst (λ (k : Key). is_eq (key_cmp k q) ≡ false) (sym own) e)) c.in_ok-push_seconds_heard.ensures
    (c.in_ok-seconds_heard.ensures.stands heard stands)
