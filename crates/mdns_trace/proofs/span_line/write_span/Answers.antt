use Rattle.std.proofs.{Common.{◌∙◌}, lemmas.Bool.{false≢true}}
use Rattle.mdns_trace.proofs.SpanLemmas.{line-broken, line-made}
use Rattle.mdns_trace.proofs.span_line.write_span.Goals as goal

pub returns-in-Ok-write_all-clause-written : goal.returns-in-Ok-write_all-clause-written
returns-in-Ok-write_all-clause-written g c = record {
  lines = line-made _ _ _ _ _ _ c.in-Ok.ensures.spanned (c.as_bytes.ensures.value ∙ c.in-Ok-text_of.ensures)
      c.in-Ok-write_all.ensures.whole;
  over = c.in-Ok.ensures.over;
  unfailed = c.in-Ok-write_all.ensures.well.unfailed;
  stays = c.in-Ok-write_all.ensures.well.stays;
}

pub returns-clause-stops : goal.returns-clause-stops
returns-clause-stops g c = record {
  has_fault = c.in-Ok.ensures.sound;
  spares_reader = λ steady. tt;
  spares_writer = λ steady write. false≢true (c.in-Err-write_all.ensures.well.answers steady);
  counts = c.in-Err-write_all.ensures.well.failed;
  leaves = line-broken _ _ _ _ _ _ _ c.in-Ok.ensures.spanned (c.as_bytes.ensures.value ∙ c.in-Ok-text_of.ensures)
      c.in-Err-write_all.ensures.prefix;
}
