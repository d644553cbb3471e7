-- The text of the lives of all records of captures, and why a survey of them is refused.
use Rattle.std.specs.Prelude.{◌≡◌, ℕ, ◌≤◌, max, min, List, [], ◌∷◌, ◌++◌, length, Contains, Option, None, Some}
use Rattle.std.specs.{List.{filter, flat_map}, Io.KnownBytes.{Appends}}
use Rattle.mdns_capture.specs.{declared.moment.Moment.{Moment}, Output.{Writing}, Savefile.{PacketAt}}
use Rattle.mdns_message.specs.declared.hearing.Hearing.{Hearing}
use Rattle.mdns_join.specs.declared.latest.Latest.{Latest}
use Rattle.mdns_lives.specs.declared.{life.Life.{Life}, life.Which.{Which}, window.Window.{Window}}
use Rattle.mdns_lives.specs.{Changes.{chosen}, Chronicle.{AreAllLives}}
use Rattle.mdns_browse.specs.{declared.about.Subject.{Subject}, declared.report.Form.{Form}, About.{keeps_record}}
use Rattle.mdns_browse.specs.LifeText.{end_width, lives_head, lives_in, lives_report, lives_text}
use Rattle.mdns_survey.specs.declared.request.{AsOf.{AsOf}, AsOf.TheVariants.{Newest, At, Before}, LivesRequest.{LivesRequest}}
use Rattle.mdns_survey.specs.{declared.summary.Summary.{Summary}, Outcomes.{AllRead, Outcome}, Head.{IsHead}, Filter.{counted, filter_of}}
use Rattle.mdns_survey.specs.Readings.{all_moments}

-- THE END OF CAPTURES

-- the latest of the moments, and 0 of none
abbrev pub latest_nanos : List Moment → ℕ
latest_nanos [] = 0
latest_nanos (moment ∷ moments) = max moment.nanos (latest_nanos moments)

-- the end of captures with packets at these moments: the moment that is given, or without one the latest of them
abbrev pub captures_end : AsOf → List Moment → ℕ
captures_end Newest moments = latest_nanos moments
captures_end (At moment) moments = moment.nanos
captures_end (Before moment) moments = moment.nanos

-- the earliest of the moments, or `end` where that is earlier
abbrev pub earliest_nanos : ℕ → List Moment → ℕ
earliest_nanos end [] = end
earliest_nanos end (moment ∷ moments) = min moment.nanos (earliest_nanos end moments)

-- The earliest moment of captures with packets at these moments, or their end where that is earlier; none without packets. Packets
-- that aren't earlier than the end, which don't count where the hearings before it do, make no difference.
abbrev pub captures_begin : AsOf → List Moment → Option ℕ
captures_begin as_of [] = None
captures_begin as_of (moment ∷ moments) = Some (earliest_nanos (captures_end as_of (moment ∷ moments)) (moment ∷ moments))

-- THE TEXT

-- the rows of the records that are about one of the subjects, or all where there are no subjects
abbrev pub kept_rows : List Subject → List (Latest × List Life) → List (Latest × List Life)
kept_rows about rows = filter (λ (row : Latest × List Life). keeps_record about row.0.resource) rows

-- The text is that of those lives of all records about these subjects which are chosen, between the earliest moment, if there is one,
-- and the end of the captures, which no hearing is later than.
pub record WritesLives (which : Which) (window : Window) (form : Form) (about : List Subject) (heard : List Hearing)
    (begin : Option ℕ) (end : ℕ) (text : List ℕ) : Type 0 where
  pub latest : (hearing : Hearing) → Contains heard hearing → hearing.moment.nanos ≤ end
  pub rows : List (Latest × List Life)
  pub lives : AreAllLives heard rows
  pub lines : text ≡ lives_report which window form begin end (kept_rows about (chosen which window rows))

-- The text is right for those hearings of all captures that count.
pub record SurveysLives (which : Which) (window : Window) (form : Form) (about : List Subject) (captures : List (List ℕ)) (as_of : AsOf)
    (summaries : List Summary) (text : List ℕ) : Type 0 where
  pub packets : List (List PacketAt)
  pub outcomes : List (List Outcome)
  pub read : AllRead captures packets outcomes summaries
  pub writes : WritesLives which window form about (counted (filter_of as_of) outcomes) (captures_begin as_of (all_moments packets))
      (captures_end as_of (all_moments packets)) text

-- the text is the lives that the request asks for, after the head
abbrev pub SurveysLivesWithHead : LivesRequest → List (List ℕ) → List Summary → List ℕ → Type 0
SurveysLivesWithHead request captures summaries text =
    (head : List ℕ) × ((lives : List ℕ) × (text ≡ head ++ lives) × IsHead request.form captures summaries head
    × SurveysLives request.which request.window request.form request.about captures request.as_of summaries lives)

-- WHY A SURVEY IS REFUSED

-- the head was written, what stands before the lives of all rows, the lines of some first rows, and of the others nothing
abbrev pub WritesFirstRows : List ℕ → Which → Window → Form → Option ℕ → ℕ → List (Latest × List Life) → Writing → Type 0
WritesFirstRows head which window form begin end rows out =
    (first : List (Latest × List Life)) × ((later : List (Latest × List Life)) × (rows ≡ first ++ later)
    × Appends out.old out.new (head ++ (lives_head which window form (length (lives_in rows)) (end_width end rows) begin end
    ++ flat_map (lives_text form (end_width end rows) end) first)))

-- the head was written, what stands before the lives, and all lines of some first records
pub record WritesFirstRecords (request : LivesRequest) (captures : List (List ℕ)) (out : Writing) : Type 0 where
  pub summaries : List Summary
  pub head : List ℕ
  pub is_head : IsHead request.form captures summaries head
  pub lives : List ℕ
  pub surveys : SurveysLives request.which request.window request.form request.about captures request.as_of summaries lives
  pub written : WritesFirstRows head request.which request.window request.form (captures_begin request.as_of (all_moments surveys.packets))
      (captures_end request.as_of (all_moments surveys.packets))
      (kept_rows request.about (chosen request.which request.window surveys.writes.rows)) out
