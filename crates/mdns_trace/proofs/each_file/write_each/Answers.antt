use Rattle.std.proofs.Common.{rules, ◌≡◌, ◌∙◌, [], ap, length, refl, string_bytes, sym}
use Rattle.mdns_survey.proofs.SurveyLemmas.{left-more}
use Rattle.mdns_trace.specs.EachFile.{none}
use Rattle.mdns_trace.proofs.FilesLemmas.{first-written, is-within, stops-at, written-more}
use Rattle.mdns_trace.proofs.each_file.write_each.Goals as goal

pub loop-reader-init : goal.loop-reader-init
loop-reader-init g c = record {
  written = none refl refl refl c.in-Ok.ensures.items;
  counted = search rules;
  left = sym c.into_iter-reader-iterator.ensures.into_iter_gives.0;
}

pub returns-in-Err-write-clause-stops : goal.returns-in-Err-write-clause-stops
returns-in-Err-write-clause-stops g c =
    let so_far = c.loop-reader.invariant in
    let index : c.len-index.result ≡ length c.loop-reader.yielded = search (rules, so_far.counted) in
    let within = is-within c.args.names.now _ _ _ _ _ c.requires so_far.left c.in-Some.ensures.steps.0 in
    stops-at (g.S.Scribe.Writes c.args.scribe.now) c.args.names.now (g.S.Scribe.Stops c.args.scribe.now) c.index-names-index.result _
    c.args.readers.items c.loop-reader.yielded _ _ c.in-Some.reader _ _ _ c.loop-reader.all.items c.len-index.result
    c.in-Err-write.fault so_far.left c.in-Some.ensures.steps.0 index within
    (c.as_str.ensures.value ∙ ap string_bytes c.index-names-index.is) so_far.written c.in-Err-write.ensures.stops

pub returns-in-Err-clause-stops : goal.returns-in-Err-clause-stops
returns-in-Err-clause-stops g c =
    first-written (g.S.Scribe.Writes c.args.scribe.now) c.args.names.now c.args.readers.items [] c.args.readers.items _ _ [] refl
    (none refl refl refl refl)

pub returns-in-Err-push-clause-stops : goal.returns-in-Err-push-clause-stops
returns-in-Err-push-clause-stops g c =
    let so_far = c.loop-reader.invariant in
    let index : c.len-index.result ≡ length c.loop-reader.yielded = search (rules, so_far.counted) in
    let within = is-within c.args.names.now _ _ _ _ _ c.requires so_far.left c.in-Some.ensures.steps.0 in
    first-written (g.S.Scribe.Writes c.args.scribe.now) c.args.names.now c.args.readers.items _ _ _ _ _
    (left-more _ c.loop-reader.yielded _ _ c.in-Some.reader so_far.left c.in-Some.ensures.steps.0)
    (written-more (g.S.Scribe.Writes c.args.scribe.now) c.args.names.now c.index-names-index.result _ c.loop-reader.yielded
    c.in-Some.reader _ _ _ c.loop-reader.all.items c.in-Ok-write.found c.len-index.result index within
    (c.as_str.ensures.value ∙ ap string_bytes c.index-names-index.is) so_far.written c.in-Ok-write.ensures.written)
