use Rattle.std.proofs.Common.{ℕ, List, arith, refl, map}
use Rattle.dns_name.specs.Name.{name_text}
use Rattle.mdns_browse.specs.Json.{json_string}
use Rattle.mdns_listeners.proofs.{MemberLemmas.{parted_end, parted_more}, TextLemmas.{three_appended}}
use Rattle.mdns_listeners.proofs.values.push_name_array.Goals as goal

abbrev text : List ℕ → List ℕ
text name = json_string (name_text name)

pub loop-name-preserved : goal.loop-name-preserved
loop-name-preserved c =
    parted_more text (map text) refl (λ x xs. refl) c.args.names.now c.loop-name.name-index c.name-item.result c.loop-name.first _ _ _
    (omega arith) c.name-item.is c.in_ok-push_name_string.ensures c.loop-name.invariant

pub returns : goal.returns
unfolding lib.Utf8.encode
returns c =
    three_appended _ _ _ _ _ _ _ c.in_ok-push.ensures.bytes
    (parted_end text (map text) refl (λ x xs. refl) c.args.names.now c.loop-name.name-index c.loop-name.first _ _
    (omega (arith, c.loop-name-test.false, c.loop-name.auto.name-index-end)) c.loop-name.invariant)
    c.in_ok-push-2.ensures.bytes
