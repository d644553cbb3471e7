use Rattle.std.proofs.Common.{◌≡◌, ◌<◌, length, slice_get}
use Rattle.dns_name.specs.Name.{IsForm, labels_of}
use Rattle.dns_name.proofs.name.label_at.Given as goal

abbrev pub invariant-loop-label : goal.invariant-loop-label
invariant-loop-label l = record {
  form : IsForm l.rest;
  left : l.left < length (labels_of l.rest);
  same : slice_get (labels_of l.rest) l.left ≡ slice_get (labels_of l.form) l.index;
}

abbrev pub decreases-loop-label : goal.decreases-loop-label
decreases-loop-label l = length l.rest
