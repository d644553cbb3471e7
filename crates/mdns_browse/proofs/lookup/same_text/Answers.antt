use Rattle.mdns_browse.proofs.NameLemmas.{text_test}
use Rattle.mdns_browse.proofs.lookup.same_text.Goals as goal

pub returns : goal.returns
returns c = text_test c.args.text.now c.args.other.now _ c.folded_eq.ensures.test
