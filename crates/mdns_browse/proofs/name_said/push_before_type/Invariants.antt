use Rattle.std.proofs.Common.{◌≡◌, ◌++◌, length, string_bytes}
use Rattle.dns_name.specs.Name.{IsForm, labels_of}
use Rattle.mdns_browse.specs.NameSaid.{before_type, from_type}
use Rattle.mdns_browse.proofs.SaidLemmas.{further_said}
use Rattle.mdns_browse.proofs.name_said.push_before_type.Given as goal

abbrev pub invariant-loop-label : goal.invariant-loop-label
invariant-loop-label l = record {
  form : IsForm l.rest;
  pushed : string_bytes l.to ++ further_said (before_type (labels_of l.rest))
      ≡ string_bytes l.fn.to ++ further_said (before_type (labels_of l.form));
  left : from_type (labels_of l.rest) ≡ from_type (labels_of l.form);
}

abbrev pub decreases-loop-label : goal.decreases-loop-label
decreases-loop-label l = length l.rest
