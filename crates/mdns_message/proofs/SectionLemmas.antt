-- The four sections, one after another.
use Rattle.std.proofs.Common.{arith, ◌≡◌, ℕ, List, [], refl, subst}
use Rattle.mdns_capture.specs.{declared.moment.Moment.{Moment}, Frame.{word_at}}
use Rattle.mdns_message.specs.declared.{hearing.Hearing.{Hearing}, fault.MessageFault.{MessageFault}}
use Rattle.mdns_message.specs.declared.record_at.Section.TheVariants.{Answer, Authority, Additional}
use Rattle.mdns_message.specs.Message.{Run, Pair, Adds, HasHeader, MessageReads, QuestionSection, RecordSection}
use Rattle.mdns_message.specs.{RecordAt.{MemoryOr, QuestionStands}, FirstMessageFault.{RecordSectionFails, SectionsFail}}
use Rattle.mdns_message.proofs.RunLemmas.{Adds-pair, second_fails}

-- the sections before the additional records
pub front_sections : (moment : Moment) (m : List ℕ) (asked p q r : ℕ) (g h i : List Hearing) → asked ≡ word_at 4 m
    → g ≡ [] → Run (QuestionStands m) asked 12 [] p → Adds moment (RecordSection m Answer) p g h q
    → Adds moment (RecordSection m Authority) q h i r
    → Adds moment (Pair (Pair (QuestionSection m) (RecordSection m Answer)) (RecordSection m Authority)) 12 [] i r
front_sections moment m asked p q r g h i a e questions one two =
    let none : Adds moment (QuestionSection m) 12 [] [] p =
    record { told = []; item = subst (λ n. Run (QuestionStands m) n 12 [] p) a questions; added = refl } in
    let some : Adds moment (RecordSection m Answer) p [] h q = subst (λ hs. Adds moment (RecordSection m Answer) p hs h q) e one in
    Adds-pair moment (Pair (QuestionSection m) (RecordSection m Answer)) (RecordSection m Authority) 12 q r [] h i
    (Adds-pair moment (QuestionSection m) (RecordSection m Answer) 12 p q [] [] h none some) two

-- all four
pub all_sections : (moment : Moment) (m : List ℕ) (r s : ℕ) (i j : List Hearing) → HasHeader m
    → Adds moment (Pair (Pair (QuestionSection m) (RecordSection m Answer)) (RecordSection m Authority)) 12 [] i r
    → Adds moment (RecordSection m Additional) r i j s → MessageReads moment m j
all_sections moment m r s i j header front last =
    let all = Adds-pair moment (Pair (Pair (QuestionSection m) (RecordSection m Answer)) (RecordSection m Authority))
    (RecordSection m Additional) 12 r s [] i j front last in
    record { header = header; told = all.told; next = s; sections = all.item; heard = all.added }

-- the last one fails
pub last_section_fails : (moment : Moment) (m : List ℕ) (r : ℕ) (i : List Hearing) (f : MessageFault)
    → Adds moment (Pair (Pair (QuestionSection m) (RecordSection m Answer)) (RecordSection m Authority)) 12 [] i r
    → MemoryOr (RecordSectionFails m Additional r) f → MemoryOr (SectionsFail m 12) f
last_section_fails moment m r i f front fails = grind (arith, second_fails)
