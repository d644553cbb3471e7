use Rattle.std.proofs.Common.{◌≡◌, ◌++◌, string_bytes}
use Rattle.std.specs.Str.Chunks.{utf8_chunks_rest}
use Rattle.people_text.specs.Shown.{bytes_shown}
use Rattle.people_text.proofs.shown.push_chunks.Given as goal

abbrev pub invariant-loop-chunk : goal.invariant-loop-chunk
invariant-loop-chunk l =
    string_bytes l.to ++ bytes_shown l.dots (utf8_chunks_rest l.chunk-iterator) ≡ string_bytes l.fn.to ++ bytes_shown l.dots l.bytes
