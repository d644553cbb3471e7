use Rattle.std.proofs.Common.{◌≡◌, ◌++◌, map}
use Rattle.mdns_browse.specs.Report.{types_about}
use Rattle.mdns_browse.proofs.type_forms.type_names.Given as goal

abbrev pub invariant-loop-row : goal.invariant-loop-row
invariant-loop-row l = map (λ name. name.now) l.names.items ++ types_about l.about l.row-iterator ≡ types_about l.about l.fn.walk
