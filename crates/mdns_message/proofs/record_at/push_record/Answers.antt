use Rattle.std.proofs.Common.{inr, refl, sym}
use Rattle.mdns_message.specs.{Flat.{body_in, bytes_in}, RecordAt.{heard_record}}
use Rattle.mdns_message.proofs.{FlatLemmas.{hearing_added}, RecordLemmas.{record_hearing}}
use Rattle.mdns_message.proofs.record_at.push_record.Goals as goal

pub returns-in_ok-push-in-Some-clause-stands : goal.returns-in_ok-push-in-Some-clause-stands
returns-in_ok-push-in-Some-clause-stands c =
    let owner = c.in_ok-owner.ensures.holds in
    let body = c.in_ok-body-in-Some.ensures.holds in
    let stands = record_hearing c.args.message.now c.args.section c.args.at _ c.in_ok-owner.after
    c.in_ok-header.header c.in-Some.record_type (body_in c.flat_body.new.buffer.bytes.items c.in_ok-body-in-Some.body)
    owner.reads c.in_ok-header.ensures.stands c.in_ok-header.ensures.value (sym c.in-Some.ensures) body.reads in
    inr (record {
      told = heard_record (bytes_in c.name_onto.new.buffer.bytes.items c.in_ok-owner.owner) c.in_ok-header.header
          (body_in c.flat_body.new.buffer.bytes.items c.in_ok-body-in-Some.body);
      stands = stands;
      adds = hearing_added c.name_onto.new.buffer.bytes.items _ _ _ _ _ c.in_ok-body-in-Some.ensures.begins owner.fits
          body.fits refl c.in_ok-push-in-Some.ensures.items;
    })
