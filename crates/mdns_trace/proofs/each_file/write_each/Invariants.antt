use Rattle.std.proofs.Common.{◌≡◌, ◌++◌, length}
use Rattle.mdns_trace.proofs.FilesLemmas.{WritesDone}
use Rattle.mdns_trace.proofs.each_file.write_each.Given as goal

abbrev pub invariant-loop-reader : goal.invariant-loop-reader
invariant-loop-reader g l = record {
  written : WritesDone (g.S.Scribe.Writes l.fn.scribe) l.fn.names l.yielded l.initial.out l.out l.all.items;
  counted : length l.all.items ≡ length l.yielded;
  left : l.fn.readers.items ≡ l.yielded ++ l.reader-iterator.rest.items;
}
