use Rattle.mdns_browse.proofs.AboutLemmas.{rest-wire}
use Rattle.mdns_browse.proofs.about_names.matches_rest.Goals as goal

pub from_valid_wire-requires : goal.from_valid_wire-requires
from_valid_wire-requires c = rest-wire _ _ _ c.in-Some.ensures.label c.wire.ensures.form
