use Rattle.std.proofs.Common.{◌≡◌, ◌++◌, flat_map, string_bytes}
use Rattle.people_text.specs.Shown.{scalar_text}
use Rattle.people_text.proofs.shown.push_text.Given as goal

abbrev pub invariant-loop-scalar : goal.invariant-loop-scalar
invariant-loop-scalar l = string_bytes l.to ≡ string_bytes l.fn.to ++ flat_map (scalar_text l.dots) l.yielded
