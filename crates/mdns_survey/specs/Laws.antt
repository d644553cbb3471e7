-- Definitions that the laws of captures and surveys use.
use Rattle.std.specs.Prelude.{ℕ, ◌<◌, List, ◌∷◌, ◌++◌, Contains}
use Rattle.mdns_capture.specs.{Limits.{file_header_size}, declared.moment.Moment.{Moment}, Savefile.{PacketAt}}
use Rattle.mdns_capture.specs.Cut.{offset_after, part_before, part_from}
use Rattle.mdns_message.specs.declared.hearing.Hearing.{Hearing}
use Rattle.mdns_survey.specs.{declared.summary.Summary.{Summary}, Outcomes.{AllRead, Outcome}, Surveys.{all_hearings}}

-- the same captures, in whatever order and however often
pub record SameCaptures (captures others : List (List ℕ)) : Type 0 where
  pub into : (bytes : List ℕ) → Contains captures bytes → Contains others bytes
  pub back : (bytes : List ℕ) → Contains others bytes → Contains captures bytes

-- captures, one of which is `bytes`
abbrev pub with_capture : List (List ℕ) → List ℕ → List (List ℕ) → List (List ℕ)
with_capture before bytes after = before ++ bytes ∷ after

-- the same captures with `bytes` replaced by two: cut after some packets, and the file header repeated
abbrev pub with_both_parts : List (List ℕ) → List PacketAt → List ℕ → List (List ℕ) → List (List ℕ)
with_both_parts before front bytes after =
    before ++ part_before (offset_after file_header_size front) bytes ∷ (part_from (offset_after file_header_size front) bytes ∷ after)

-- every hearing of the captures is earlier than the moment
abbrev pub AreBefore : List (List ℕ) → Moment → Type 0
AreBefore captures before =
    (packets : List (List PacketAt)) (outcomes : List (List Outcome)) (summaries : List Summary)
    → AllRead captures packets outcomes summaries
    → (hearing : Hearing) → Contains (all_hearings outcomes) hearing → hearing.moment.nanos < before.nanos
