use Rattle.std.proofs.Common.{◌≡◌, ◌++◌, flat_map, take, string_bytes}
use Rattle.people_text.specs.Shown.{escaped_byte}
use Rattle.people_text.proofs.shown.push_escaped.Given as goal

abbrev pub invariant-loop-byte : goal.invariant-loop-byte
invariant-loop-byte l = string_bytes l.to ≡ string_bytes l.fn.to ++ flat_map escaped_byte (take l.byte-index l.bytes)
