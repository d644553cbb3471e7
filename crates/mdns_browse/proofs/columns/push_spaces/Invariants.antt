use Rattle.std.proofs.Common.{◌≡◌, ◌++◌}
use Rattle.std.specs.String.{string_bytes}
use Rattle.mdns_browse.specs.Columns.{spaces}
use Rattle.mdns_browse.proofs.columns.push_spaces.Given as goal

abbrev pub invariant-loop-space : goal.invariant-loop-space
invariant-loop-space l = string_bytes l.to ≡ string_bytes l.initial.to ++ spaces l._space
