use Rattle.std.proofs.Common.{drop, string_bytes}
use Rattle.dns_name.proofs.FrontLemmas.{Reaches}
use Rattle.dns_name.proofs.name_text.push_all_ascii.Given as goal

abbrev pub invariant-loop-byte : goal.invariant-loop-byte
invariant-loop-byte l = Reaches (string_bytes l.fn.to) l.text (string_bytes l.to) (drop l.byte-index l.text)
