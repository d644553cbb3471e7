use Rattle.std.proofs.Common.{◌∙◌, ap, max, rules}
use Rattle.mdns_browse.proofs.LayoutLemmas.{layout-more}
use Rattle.mdns_browse.proofs.life_text.Layout.with.Goals as goal

pub returns : goal.returns
returns c rows last is =
    layout-more c.args.end_of_captures.nanos rows last c.args.lives.now c.args.self _ (search rules)
    (c.wider-width.ensures ∙ ap (max c.args.self.width) c.end_width.ensures) is
