use Rattle.std.proofs.Common.{rules}
use Rattle.mdns_browse.proofs.LayoutLemmas.{layout-none}
use Rattle.mdns_browse.proofs.life_text.Layout.new.Goals as goal

pub returns : goal.returns
returns c end = layout-none end _ (search rules) (search rules)
