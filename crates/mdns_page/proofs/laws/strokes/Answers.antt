use Rattle.mdns_page.proofs.MarkLemmas.{marks-in_order, ticks-in_order}
use Rattle.mdns_page.proofs.laws.strokes.Goals as goal

pub returns : goal.returns
returns c = record {
  lives = λ axis stroke lives apart. marks-in_order axis stroke lives apart;
  ticks = λ axis stroke seconds ascending same. ticks-in_order axis stroke seconds ascending same;
}
