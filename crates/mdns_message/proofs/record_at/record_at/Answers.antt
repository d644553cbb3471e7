use Rattle.std.proofs.Common.{arith, ◌≡◌, ◌∙◌, length, rules, sym}
use Rattle.mdns_message.proofs.RecordLemmas.{flat_after, told_after}
use Rattle.mdns_message.proofs.record_at.record_at.Goals.{else-len-count-via-then-len-count+else-len-knew, else-len-count-via-else-len-count}
use Rattle.mdns_message.proofs.record_at.record_at.Goals as goal

pub invariant_of-heard-else-len-knew : goal.invariant_of-heard-else-len-knew
invariant_of-heard-else-len-knew c =
    let now : c.len-then-len-count.result ≡ length c.push_record-read.new.buffer.known.items = search rules in
    let before : c.len-knew.result ≡ length c.heard.inside.buffer.known.items = search rules in
    flat_after _ _ _ _ _ _ _ _ _ _ _ c.push_record-read.ensures.begins c.push_record-read.ensures.keeps c.heard.invariant
    c.push_record-read.ensures.stands c.push_record-read.ensures.none (λ hs ks. c.if-len-knew.false (now ∙ ks ∙ sym before))

pub invariant_of-heard-else-len-count : goal.invariant_of-heard-else-len-count
invariant_of-heard-else-len-count c =
    let now : c.len.result ≡ length c.push_record-read.new.hearings.items = search rules in
    let before : c.len-count.result ≡ length c.heard.inside.hearings.items = search rules in
    flat_after _ _ _ _ _ _ _ _ _ _ _ c.push_record-read.ensures.begins c.push_record-read.ensures.keeps c.heard.invariant
    c.push_record-read.ensures.stands c.push_record-read.ensures.none (λ hs ks. c.if-len-count.false (now ∙ hs ∙ sym before))

pub returns-else-len-count-clause-stands : goal.returns-else-len-count-clause-stands
returns-else-len-count-clause-stands c = grind (
  arith,
  else-len-count-via-else-len-count,
  told_after _ _ _ _ _ _ _ _ _ _ c.push_record-read.ensures.begins c.heard.invariant c.push_record-read.ensures.stands,
)
