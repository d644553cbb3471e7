use Rattle.std.proofs.Common.{arith, append-nil, append_assoc, string_bytes}
use Rattle.people_text.proofs.ScalarLemmas.{chunk_shown, shown_none}
use Rattle.people_text.proofs.shown.push_chunks.Goals as goal

pub loop-chunk-preserved : goal.loop-chunk-preserved
loop-chunk-preserved c = grind (arith, chunk_shown, append_assoc)

pub returns : goal.returns
returns c = grind (arith, append-nil, string_bytes, shown_none)
