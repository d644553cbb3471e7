-- The first fault of a message, in reading order.
use Rattle.std.specs.Prelude.{ℕ, List}
use Rattle.mdns_message.specs.declared.{fault.MessageFault.{MessageFault}, record_at.Section.{Section}}
use Rattle.mdns_message.specs.declared.record_at.Section.TheVariants.{Answer, Authority, Additional}
use Rattle.mdns_message.specs.Message.{header_size, RunFails, Pair, PairFails, IsShort, IsQuery, IsIgnored, HasHeader, QuestionSection}
use Rattle.mdns_message.specs.{Message.{RecordSection, count_offset}, RecordAt.{QuestionStands, QuestionFails, RecordStands, RecordFails}}
use Rattle.mdns_message.specs.declared.fault.MessageFault.TheVariants as fault
use Rattle.mdns_capture.specs.Frame.{word_at}

-- an item of a section fails with f, and those before it are whole
abbrev pub QuestionSectionFails : List ℕ → ℕ → MessageFault → Type 0
QuestionSectionFails m start f = RunFails (QuestionStands m) (QuestionFails m) (word_at 4 m) start f

abbrev pub RecordSectionFails : List ℕ → Section → ℕ → MessageFault → Type 0
RecordSectionFails m section start f =
    RunFails (RecordStands m section) (RecordFails m section) (word_at (count_offset section) m) start f

-- one of the sections fails with f, and those before it are whole
abbrev pub SectionsFail : List ℕ → ℕ → MessageFault → Type 0
SectionsFail m =
    PairFails (Pair (Pair (QuestionSection m) (RecordSection m Answer)) (RecordSection m Authority))
    (PairFails (Pair (QuestionSection m) (RecordSection m Answer))
    (PairFails (QuestionSection m) (QuestionSectionFails m) (RecordSectionFails m Answer))
    (RecordSectionFails m Authority))
    (RecordSectionFails m Additional)

-- m has a good header, and one of its items fails with f, in its name, its header part or its data; the items before
-- it are whole
pub record MessageFails (m : List ℕ) (f : MessageFault) : Type 0 where
  pub header : HasHeader m
  pub fails : SectionsFail m header_size f

-- why reading m fails with f: the fault of its header, or after a good header the first fault or a failed
-- allocation
abbrev pub HasFirstFault : List ℕ → MessageFault → Type 0
HasFirstFault m fault.Header = IsShort m
HasFirstFault m fault.Query = IsQuery m
HasFirstFault m fault.Ignored = IsIgnored m
HasFirstFault m fault.Memory = HasHeader m
HasFirstFault m f = MessageFails m f
