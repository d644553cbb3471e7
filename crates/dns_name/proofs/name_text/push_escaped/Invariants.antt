use Rattle.std.proofs.Common.{drop, string_bytes}
use Rattle.dns_name.specs.Name.{bytes_text}
use Rattle.dns_name.proofs.FrontLemmas.{Reaches}
use Rattle.dns_name.proofs.name_text.push_escaped.Given as goal

abbrev pub invariant-loop-byte : goal.invariant-loop-byte
invariant-loop-byte l =
    Reaches (string_bytes l.fn.to) (bytes_text l.dots l.bytes) (string_bytes l.to) (bytes_text l.dots (drop l.byte-index l.bytes))
