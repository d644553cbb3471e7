use Rattle.mdns_page.proofs.BareLemmas.{page-same}
use Rattle.mdns_page.proofs.laws.names.Goals as goal

pub returns : goal.returns
returns c = page-same
