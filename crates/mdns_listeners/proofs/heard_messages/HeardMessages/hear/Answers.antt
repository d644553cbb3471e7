use Rattle.std.proofs.{Common.{◌≡◌, ◌<◌, ◌∙◌, List, [], ◌∷◌, ◌++◌, ap, arith, get_or, length, rules, subst, sym}, lemmas.List.{length_push}}
use Rattle.mdns_cache.proofs.BetweenLemmas.{on_err_any}
use Rattle.mdns_listeners.specs.{declared.kept_message.MessageTime.{MessageTime}, HeardMessage.{message_bytes}}
use Rattle.mdns_listeners.specs.{KeptMessage.{AreKept, HeardSoFar, KeptMessage, kept_messages, next_kept, told_by}, SenderNames.{AddsNames, told_in}}
use Rattle.mdns_listeners.proofs.HeldNameLemmas.{HoldsNames-more, adds-suffice}
use Rattle.mdns_listeners.proofs.KeptLemmas.{kept_more, kept-names, kept-noted, message-push, told-noted, told-push}
use Rattle.mdns_listeners.proofs.heard_messages.HeardMessages.hear.Goals as goal

pub invariant_of-self-in_err-hear_all : goal.invariant_of-self-in_err-hear_all
invariant_of-self-in_err-hear_all c = search (rules, kept-names)

pub invariant_of-self-in_err-keep : goal.invariant_of-self-in_err-keep
invariant_of-self-in_err-keep c =
    subst (λ (ks : List KeptMessage). AreKept ks c.self.inside.times.items c.hear_all.new.self) (sym c.in_err-keep.ensures.err)
    (kept-names c.self.inside.kept.items c.self.inside.times.items c.self.inside.names c.hear_all.new.self c.self.invariant
    c.hear_all.ensures.keeps)

pub invariant_of-self-in_err-push : goal.invariant_of-self-in_err-push
invariant_of-self-in_err-push c =
    subst (λ (ts : List MessageTime). AreKept c.keep.new.kept.items ts c.hear_all.new.self) (sym c.in_err-push.ensures.items)
    (kept_more c.self.inside.kept.items c.keep.new.kept.items c.self.inside.times.items c.self.inside.names c.hear_all.new.self
    c.args.payload.now _ _ c.args.at.moment c.args.read.now _ c.self.invariant c.hear_all.ensures.keeps
    (adds-suffice c.self.inside.names c.hear_all.new.self (told_in c.args.read.now) c.in_ok-hear_all.ensures.ok)
    (λ i. omega (arith, c.type_inv.payload i)) c.as_slice-message.ensures.value c.in_ok-write_message.ensures.addressed
    c.in_ok-write_message.ensures.payload c.requires.reads c.requires.some c.len.ensures c.in_ok-keep.ensures.ok)

pub returns-in_err-push-clause-err : goal.returns-in_err-push-clause-err
returns-in_err-push-clause-err c =
    let kept = c.self.inside.kept.items in
    let times = c.self.inside.times.items in
    on_err_any c.from_residual-in_err-push.result
    (ap (told_by (kept_messages c.keep.new.kept.items)) c.in_err-push.ensures.items
    ∙ ap (λ (ks : List KeptMessage). told_by (kept_messages ks) times) c.in_ok-keep.ensures.ok
    ∙ told-push kept times c.self.inside.names (next_kept kept c.as_slice-message.result.now c.len.result) c.self.invariant
    ∙ ap (λ (s : HeardSoFar). s.told) c.self.view_is)

pub invariant_of-self-2 : goal.invariant_of-self-2
invariant_of-self-2 c =
    let kept = c.self.inside.kept.items in
    let new = c.keep.new.kept.items in
    let noted : MessageTime = record { place = c.len-place.result; at = c.args.at } in
    let place : c.len-place.result ≡ length kept = search rules in
    let within : c.len-place.result < length new =
    grind (arith, length_push) in
    subst (λ (ts : List MessageTime). AreKept new ts c.hear_all.new.self) (sym c.in_ok-push.ensures.items)
    (kept-noted new c.self.inside.times.items c.hear_all.new.self noted
    (kept_more kept new c.self.inside.times.items c.self.inside.names c.hear_all.new.self
    c.args.payload.now _ _ c.args.at.moment c.args.read.now _ c.self.invariant c.hear_all.ensures.keeps
    (adds-suffice c.self.inside.names c.hear_all.new.self (told_in c.args.read.now) c.in_ok-hear_all.ensures.ok)
    (λ i. omega (arith, c.type_inv.payload i)) c.as_slice-message.ensures.value c.in_ok-write_message.ensures.addressed
    c.in_ok-write_message.ensures.payload c.requires.reads c.requires.some c.len.ensures c.in_ok-keep.ensures.ok) within)

pub returns-clause-ok : goal.returns-clause-ok
returns-clause-ok c =
    let kept = c.self.inside.kept.items in
    let new = c.keep.new.kept.items in
    let times = c.self.inside.times.items in
    let noted : MessageTime = record { place = c.len-place.result; at = c.args.at } in
    let one = next_kept kept c.as_slice-message.result.now c.len.result in
    let place : c.len-place.result ≡ length kept = search rules in
    let own : get_or (kept_messages new) c.len-place.result [] ≡ message_bytes c.args.source.now c.args.payload.now =
    grind (arith, message-push) in
    let before = ap (λ (ks : List KeptMessage). told_by (kept_messages ks) times) c.in_ok-keep.ensures.ok
    ∙ told-push kept times c.self.inside.names one c.self.invariant ∙ ap (λ (s : HeardSoFar). s.told) c.self.view_is in
    record {
      told = ap (told_by (kept_messages new)) c.in_ok-push.ensures.items ∙ told-noted (kept_messages new) times noted _ own
          ∙ (λ i. before i ++ record {
            message = message_bytes c.args.source.now c.args.payload.now;
            at = c.args.at;
          } ∷ []);
      names = λ earlier. HoldsNames-more c.args.self.now.names c.hear_all.new.self earlier c.args.read.now
          (subst (λ ns. AddsNames ns c.hear_all.new.self (told_in c.args.read.now)) (ap (λ (s : HeardSoFar). s.names) c.self.view_is)
          c.in_ok-hear_all.ensures.ok);
    }
