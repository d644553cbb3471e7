use Rattle.std.proofs.Common.{◌≡◌, ◌++◌}
use Rattle.mdns_browse.specs.Services.{lasts_in, types_in}
use Rattle.mdns_browse.proofs.services.names_of.Given as goal

abbrev pub invariant-loop-record : goal.invariant-loop-record
invariant-loop-record l = l.names.items ++ types_in (lasts_in l.record-iterator) ≡ types_in (lasts_in l.fn.records)
