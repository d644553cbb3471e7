use Rattle.std.proofs.Common.{◌≡◌, ◌∙◌, ℕ, List, ◌∷◌, [], ◌++◌, rules, string_bytes, subst}
use Rattle.std.specs.Io.KnownBytes.{Appends}
use Rattle.mdns_capture.specs.Output.{AppendsPrefix}
use Rattle.mdns_lives.specs.LentLives.{row_lent}
use Rattle.mdns_browse.specs.LifeText.{lives_text}
use Rattle.mdns_survey.proofs.KeptLemmas.{kept-stop, kept-texts, kept_text}
use Rattle.mdns_survey.proofs.RowsLemmas.{rows-all, rows-cut, rows-more, rows-out}
use Rattle.mdns_survey.proofs.lives_answer.write_rows.Goals as goal

pub loop-row-preserved : goal.loop-row-preserved
loop-row-preserved g c =
    let head = string_bytes c.args.head in
    let f = kept_text c.args.lines.about.now (lives_text c.args.lines.form c.args.lines.width c.args.lines.end_of_captures.nanos) in
    let rows = c.args.rows in
    let old = string_bytes c.loop-row.text in
    let row = c.in-Ok-Some.row in
    let first : c.loop-row.walk ≡ row_lent row ∷ c.next.new.self = rw c.in-Ok-Some.field-0-is at c.in-Ok-Some.ensures.ok in
    let well = c.in-Ok-write_piece.ensures.well in
    let more : string_bytes c.push_row.new.text ≡ old ++ f (row_lent row) = c.in-Ok.ensures in
    record {
      far = rows-out head f rows c.next.new.self _ _ _ (string_bytes c.push_row.new.text) (string_bytes c.write_piece.new.text)
          (rows-more head f rows c.loop-row.walk (row_lent row) c.next.new.self _ _ old (string_bytes c.push_row.new.text)
          c.loop-row.invariant.far first more)
          c.in-Ok-write_piece.ensures.whole;
      unfailed = well.unfailed ∙ c.loop-row.invariant.unfailed;
      stays = λ steady. well.stays (c.loop-row.invariant.stays steady);
    }

pub returns-in-Err-write_piece-clause-stops : goal.returns-in-Err-write_piece-clause-stops
returns-in-Err-write_piece-clause-stops g c =
    let head = string_bytes c.args.head in
    let lines = lives_text c.args.lines.form c.args.lines.width c.args.lines.end_of_captures.nanos in
    let f = kept_text c.args.lines.about.now lines in
    let rows = c.args.rows in
    let old = string_bytes c.loop-row.text in
    let row = c.in-Ok-Some.row in
    let first : c.loop-row.walk ≡ row_lent row ∷ c.next.new.self = rw c.in-Ok-Some.field-0-is at c.in-Ok-Some.ensures.ok in
    let more : string_bytes c.push_row.new.text ≡ old ++ f (row_lent row) = c.in-Ok.ensures in
    subst (λ (t : List ℕ). AppendsPrefix (g.W.Sink.written c.args.out.now) (g.W.Sink.written c.write_piece.new.out) (head ++ t))
    (kept-texts c.args.lines.about.now lines rows)
    (rows-cut head f rows c.next.new.self _ _ _ (string_bytes c.push_row.new.text)
    (rows-more head f rows c.loop-row.walk (row_lent row) c.next.new.self _ _ old (string_bytes c.push_row.new.text)
    c.loop-row.invariant.far first more)
    c.in-Err-write_piece.ensures.prefix)

pub returns-clause-stops : goal.returns-clause-stops
returns-clause-stops g c =
    let head = string_bytes c.args.head in
    let lines = lives_text c.args.lines.form c.args.lines.width c.args.lines.end_of_captures.nanos in
    subst (λ (t : List ℕ). AppendsPrefix (g.W.Sink.written c.args.out.now) (g.W.Sink.written c.write_all.new.out) (head ++ t))
    (kept-texts c.args.lines.about.now lines c.args.rows)
    (rows-cut head (kept_text c.args.lines.about.now lines) c.args.rows c.loop-row.walk _ _ _ (string_bytes c.loop-row.text)
    c.loop-row.invariant.far
    (subst (AppendsPrefix (g.W.Sink.written c.loop-row.out) (g.W.Sink.written c.write_all.new.out)) c.as_bytes.ensures.value
    c.in-Err-write_all.ensures.prefix))

pub returns-in-Err-clause-stops : goal.returns-in-Err-clause-stops
returns-in-Err-clause-stops g c =
    kept-stop c.args.lines.about.now (lives_text c.args.lines.form c.args.lines.width c.args.lines.end_of_captures.nanos) (string_bytes c.args.head) c.args.rows
    c.loop-row.walk _ _ (string_bytes c.loop-row.text) c.loop-row.invariant.far

pub returns-in-Err-push_row-clause-stops : goal.returns-in-Err-push_row-clause-stops
returns-in-Err-push_row-clause-stops g c =
    kept-stop c.args.lines.about.now (lives_text c.args.lines.form c.args.lines.width c.args.lines.end_of_captures.nanos) (string_bytes c.args.head) c.args.rows
    c.loop-row.walk _ _ (string_bytes c.loop-row.text) c.loop-row.invariant.far

pub returns-in-Ok-write_all-clause-written : goal.returns-in-Ok-write_all-clause-written
returns-in-Ok-write_all-clause-written g c =
    let head = string_bytes c.args.head in
    let lines = lives_text c.args.lines.form c.args.lines.width c.args.lines.end_of_captures.nanos in
    let none : c.loop-row.walk ≡ [] = search rules in
    subst (λ (t : List ℕ). Appends (g.W.Sink.written c.args.out.now) (g.W.Sink.written c.write_all.new.out) (head ++ t))
    (kept-texts c.args.lines.about.now lines c.args.rows)
    (rows-all head (kept_text c.args.lines.about.now lines) c.args.rows c.loop-row.walk _ _ _ (string_bytes c.loop-row.text)
    c.loop-row.invariant.far none
    (subst (Appends (g.W.Sink.written c.loop-row.out) (g.W.Sink.written c.write_all.new.out)) c.as_bytes.ensures.value
    c.in-Ok-write_all.ensures.whole))
