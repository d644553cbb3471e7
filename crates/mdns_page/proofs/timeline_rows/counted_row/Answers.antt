use Rattle.mdns_lives.specs.Chronicle.{Chronicles}
use Rattle.mdns_message.specs.Resource.{key_of}
use Rattle.mdns_page.proofs.{CountedLemmas.{shown-lent}, LiveLemmas.{each-count}}
use Rattle.mdns_page.proofs.timeline_rows.counted_row.Goals as goal

pub returns-clause-heard : goal.returns-clause-heard
returns-clause-heard c = λ each are gives. record {
  count = each-count Chronicles c.args.hearers.now.chronicles.now each are;
  heard = shown-lent c.args.hearers.now each are gives (key_of c.args.record.now.last.resource.now);
}
