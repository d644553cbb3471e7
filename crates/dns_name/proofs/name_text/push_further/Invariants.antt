use Rattle.std.proofs.Common.{length, string_bytes}
use Rattle.dns_name.specs.Name.{IsForm, further_text, labels_of}
use Rattle.dns_name.proofs.FrontLemmas.{Reaches}
use Rattle.dns_name.proofs.name_text.push_further.Given as goal

abbrev pub invariant-loop-label : goal.invariant-loop-label
invariant-loop-label l = record {
  form : IsForm l.rest;
  pushed : Reaches (string_bytes l.fn.to) (further_text (labels_of l.form)) (string_bytes l.to) (further_text (labels_of l.rest));
}

abbrev pub decreases-loop-label : goal.decreases-loop-label
decreases-loop-label l = length l.rest
