use Rattle.std.proofs.Common.{◌∙◌, ◌++◌, ap, codes, map, ℕ}
use Rattle.std.specs.String.{string_bytes}
use Rattle.people_text.specs.MomentText.{millis_text}
use Rattle.mdns_lives.specs.declared.life.{EndReason.{EndReason}, EndReason.TheVariants.{Goodbye, Flushed}}
use Rattle.mdns_page.specs.{Counts.{count_text}, Lead.{count_known, is_ended, known_lent, counts_line, others_text, said_text}}
use Rattle.mdns_page.proofs.PartLemmas.{parts9}
use Rattle.mdns_page.proofs.lead.push_counts_line.Goals as goal

pub returns : goal.returns
unfolding counts_line
returns c =
    let ended = λ (reason : EndReason). count_known (is_ended c.args.axis reason) (map known_lent c.args.kept.now) in
    parts9 _ _ _ _ _ _ _ _ _ _ _ _ _ _ _ _ _ _ _ c.in_ok-push_str.ensures.bytes
    (c.in_ok-push_count.ensures
    ∙ ap (λ (n : ℕ). string_bytes c.push_str.new.self ++ count_text n (codes "service instance was") (codes "service instances were"))
    c.live_count-live.ensures)
    c.in_ok-push_str-2.ensures.bytes
    (c.in_ok-push_millis.ensures ∙ ap (λ (n : ℕ). string_bytes c.push_str-2.new.self ++ millis_text n) c.nanos.ensures)
    c.in_ok-push_str-3.ensures.bytes
    (c.in_ok-push_said.ensures ∙ ap (λ (n : ℕ). string_bytes c.push_str-3.new.self ++ said_text n) c.said_count-said.ensures)
    c.in_ok-push_str-4.ensures.bytes
    (c.in_ok-push_others.ensures
    ∙ ap (λ (n : ℕ). string_bytes c.push_str-4.new.self ++ others_text n c.ended_count-flushed.result c.ended_count-expired.result)
    c.ended_count-goodbyes.ensures
    ∙ ap (λ (n : ℕ). string_bytes c.push_str-4.new.self ++ others_text (ended Goodbye) n c.ended_count-expired.result) c.ended_count-flushed.ensures
    ∙ ap (λ (n : ℕ). string_bytes c.push_str-4.new.self ++ others_text (ended Goodbye) (ended Flushed) n) c.ended_count-expired.ensures)
    c.in_ok-push_str-5.ensures.bytes
