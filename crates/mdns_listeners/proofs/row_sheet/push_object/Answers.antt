use Rattle.std.proofs.Common.{ℕ, List, arith, refl, map}
use Rattle.mdns_listeners.specs.{Fields.{field_lent}, RowSheet.{member_text, object_text}, declared.fields.Field.{Field}}
use Rattle.mdns_listeners.proofs.MemberLemmas.{object_ended, parted_end, parted_more}
use Rattle.mdns_listeners.proofs.row_sheet.push_object.Goals as goal

abbrev member : Field → List ℕ
member field = member_text (field_lent field)

abbrev members : List Field → List (List ℕ)
members fields = map member_text (map field_lent fields)

pub loop-field-preserved : goal.loop-field-preserved
loop-field-preserved c =
    parted_more member members refl (λ x xs. refl) c.args.fields.now c.loop-field.field-index c.field-item.result c.loop-field.first _ _ _
    (omega arith) c.field-item.is c.in_ok-push_member.ensures c.loop-field.invariant

pub returns : goal.returns
unfolding object_text lib.Utf8.encode
returns c =
    object_ended _ _ _ _ _ c.in_ok-push.ensures.bytes
    (parted_end member members refl (λ x xs. refl) c.args.fields.now c.loop-field.field-index c.loop-field.first _ _
    (omega (arith, c.loop-field-test.false, c.loop-field.auto.field-index-end)) c.loop-field.invariant)
    c.in_ok-push_str.ensures.bytes
