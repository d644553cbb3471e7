use Rattle.std.proofs.Common.{◌≡◌, ◌+◌, ◌≤◌, length}
use Rattle.dns_name.specs.Name.{IsForm, labels_of}
use Rattle.dns_name.proofs.name.count_labels.Given as goal

abbrev pub invariant-loop-after : goal.invariant-loop-after
invariant-loop-after l = record {
  form : IsForm l.rest;
  count : l.count + length (labels_of l.rest) ≡ length (labels_of l.form);
  room : l.count + length l.rest ≤ length l.form;
}

abbrev pub decreases-loop-after : goal.decreases-loop-after
decreases-loop-after l = length l.rest
