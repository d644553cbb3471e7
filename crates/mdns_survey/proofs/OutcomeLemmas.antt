-- Each packet comes to one outcome, and each capture to one list of outcomes.
use Rattle.std.proofs.Common.{◌≡◌, ◌⊎◌, ℕ, ◌<◌, List, [], ◌∷◌, None, Some, length, slice_index, refl, ap, subst, inl, inr, arith}
use Rattle.std.specs.Prelude.{bit_and}
use Rattle.std.proofs.lemmas.Bool.{cases_eq, cases_lt}
use Rattle.mdns_capture.specs.declared.{frame.Skip.{Skip}, moment.Moment.{Moment}, savefile.Ending.{Ending}}
use Rattle.mdns_capture.specs.{Frame.{FrameCarries, skip_of, word_at}, Savefile.{CaptureReads, PacketAt, header_fault}}
use Rattle.mdns_message.specs.declared.{fault.MessageFault.{MessageFault}, hearing.Hearing.{Hearing}}
use Rattle.mdns_message.specs.{Message.{HasHeader, IsIgnored, IsQuery, IsShort, MessageReads}, FirstMessageFault.{MessageFails}}
use Rattle.mdns_message.specs.declared.fault.MessageFault.TheVariants as fault
use Rattle.mdns_survey.specs.{Why.{IsDamagedBy}, Outcomes.{AllCome, ComesTo, Outcome, CaptureTells, heard, refused, skipped}}

-- THE LAWS BELOW

-- a message with a good header reads, or fails
abbrev pub MessageReadsOrFails : Type 0
MessageReadsOrFails =
    (moment : Moment) (m : List ℕ) → HasHeader m
    → ((hs : List Hearing) × MessageReads moment m hs) ⊎ ((f : MessageFault) × MessageFails m f)

-- a message that reads doesn't fail
abbrev pub NoFaultInMessage : Type 0
NoFaultInMessage =
    (moment : Moment) (m : List ℕ) (hs : List Hearing) (f : MessageFault) → MessageReads moment m hs → MessageFails m f → ⊥

-- for one moment, a message has at most one list of hearings
abbrev pub OneHearingList : Type 0
OneHearingList =
    (moment : Moment) (m : List ℕ) (hs gs : List Hearing) → MessageReads moment m hs → MessageReads moment m gs → hs ≡ gs

-- a frame carries at most one payload
abbrev pub OnePayload : Type 0
OnePayload = (frame first second : List ℕ) → FrameCarries frame first → FrameCarries frame second → first ≡ second

-- a frame carries a payload, or is skipped
abbrev pub PayloadOrSkip : Type 0
PayloadOrSkip = (frame : List ℕ) → ((payload : List ℕ) × FrameCarries frame payload) ⊎ ((skip : Skip) × (skip_of frame ≡ Some skip))

-- a frame that is skipped carries nothing
abbrev pub NoSkippedPayload : Type 0
NoSkippedPayload = (frame payload : List ℕ) (skip : Skip) → FrameCarries frame payload → skip_of frame ≡ Some skip → ⊥

-- bytes have at most one reading as a capture
abbrev pub OneReading : Type 0
OneReading =
    (bytes : List ℕ) (packets others : List PacketAt) (ending other : Ending)
    → CaptureReads bytes packets ending → CaptureReads bytes others other → (packets ≡ others) × (ending ≡ other)

-- bytes with a good file header are a capture
abbrev pub SomeReading : Type 0
SomeReading =
    (bytes : List ℕ) → ((place : ℕ) → slice_index bytes place < 256) → header_fault bytes ≡ None
    → (packets : List PacketAt) × ((ending : Ending) × CaptureReads bytes packets ending)

-- A PACKET'S OUTCOME

-- a packet comes to at most one outcome
abbrev pub OneOutcome : Type 0
OneOutcome =
    (moment : Moment) (frame : List ℕ) (outcome other : Outcome)
    → ComesTo moment frame outcome → ComesTo moment frame other → outcome ≡ other

-- a packet comes to an outcome
abbrev pub SomeOutcome : Type 0
SomeOutcome = (moment : Moment) (frame : List ℕ) → (outcome : Outcome) × ComesTo moment frame outcome

-- the message isn't a response, or is to be ignored
abbrev pub IsPassedMessage : List ℕ → Type 0
IsPassedMessage payload = IsQuery payload ⊎ IsIgnored payload

-- the message is damaged
abbrev pub IsDamagedMessage : Moment → List ℕ → Type 0
IsDamagedMessage moment payload =
    IsShort payload ⊎ (HasHeader payload × ((hearings : List Hearing) → MessageReads moment payload hearings → ⊥))

pub not_passed : (payload : List ℕ) → IsPassedMessage payload → HasHeader payload → ⊥
not_passed payload (inl query) header = header.1 query.1
not_passed payload (inr ignored) header = ignored.2 header.2

pub not_passed_damaged : (moment : Moment) (payload : List ℕ) → IsPassedMessage payload → IsDamagedMessage moment payload → ⊥
not_passed_damaged moment payload (inl query) (inl short) = let long = query.0 in omega arith
not_passed_damaged moment payload (inr ignored) (inl short) = let long = ignored.0 in omega arith
not_passed_damaged moment payload passed (inr fails) = not_passed payload passed fails.0

not_damaged : (moment : Moment) (payload : List ℕ) (hearings : List Hearing)
    → IsDamagedMessage moment payload → MessageReads moment payload hearings → ⊥
not_damaged moment payload hearings (inl short) reads = let long = reads.header.0 in omega arith
not_damaged moment payload hearings (inr fails) reads = fails.1 hearings reads

-- a message with a fault is damaged
pub is_damaged : NoFaultInMessage → (moment : Moment) (payload : List ℕ) (fault : MessageFault) → MessageFails payload fault
    → IsShort payload ⊎ (HasHeader payload × ((hearings : List Hearing) → MessageReads moment payload hearings → ⊥))
is_damaged not_both moment payload fault fails =
    inr (fails.header, λ hearings reads. not_both moment payload hearings fault reads fails)

-- what is damaged by a fault is damaged
pub damaged_by : NoFaultInMessage → (moment : Moment) (payload : List ℕ) (damage : MessageFault) → IsDamagedBy payload damage
    → IsShort payload ⊎ (HasHeader payload × ((hearings : List Hearing) → MessageReads moment payload hearings → ⊥))
damaged_by not_both moment payload fault.Header by = inl by
damaged_by not_both moment payload fault.Query by = absurd by
damaged_by not_both moment payload fault.Ignored by = absurd by
damaged_by not_both moment payload fault.Memory by = absurd by
damaged_by not_both moment payload (fault.Cut at) by = is_damaged not_both moment payload (fault.Cut at) by
damaged_by not_both moment payload (fault.Label at) by = is_damaged not_both moment payload (fault.Label at) by
damaged_by not_both moment payload (fault.Pointer at) by = is_damaged not_both moment payload (fault.Pointer at) by
damaged_by not_both moment payload (fault.LongName at) by = is_damaged not_both moment payload (fault.LongName at) by
damaged_by not_both moment payload (fault.Body at) by = is_damaged not_both moment payload (fault.Body at) by

-- a packet that is skipped carries no message of that kind
not_skipped : (Kind : List ℕ → Type 0) → OnePayload → ((payload : List ℕ) → IsPassedMessage payload → Kind payload → ⊥)
    → (moment : Moment) (frame payload : List ℕ) → ComesTo moment frame skipped → FrameCarries frame payload → Kind payload → ⊥
not_skipped Kind one_payload never moment frame payload (inl none) carries kind = none payload carries
not_skipped Kind one_payload never moment frame payload (inr some) carries kind =
    never payload (subst IsPassedMessage (one_payload frame some.0 payload some.1 carries) some.2) kind

-- nor is a packet with a damaged message one whose hearings are heard
not_refused : OnePayload → (moment : Moment) (frame payload : List ℕ) (hearings : List Hearing)
    → ComesTo moment frame refused → FrameCarries frame payload → MessageReads moment payload hearings → ⊥
not_refused one_payload moment frame payload hearings comes carries reads =
    not_damaged moment payload hearings
    (subst (λ (bytes : List ℕ). IsDamagedMessage moment bytes) (one_payload frame comes.0 payload comes.1 carries) comes.2) reads

pub same_outcome : OnePayload → OneHearingList → OneOutcome
same_outcome one_payload one_list moment frame skipped skipped first second = refl
same_outcome one_payload one_list moment frame skipped refused first second =
    absurd (not_skipped (IsDamagedMessage moment) one_payload (not_passed_damaged moment) moment frame second.0 first second.1 second.2)
same_outcome one_payload one_list moment frame skipped (heard hearings) first second =
    absurd (not_skipped HasHeader one_payload not_passed moment frame second.0 first second.1 second.2.header)
same_outcome one_payload one_list moment frame refused skipped first second =
    absurd (not_skipped (IsDamagedMessage moment) one_payload (not_passed_damaged moment) moment frame first.0 second first.1 first.2)
same_outcome one_payload one_list moment frame refused refused first second = refl
same_outcome one_payload one_list moment frame refused (heard hearings) first second =
    absurd (not_refused one_payload moment frame second.0 hearings first second.1 second.2)
same_outcome one_payload one_list moment frame (heard hearings) skipped first second =
    absurd (not_skipped HasHeader one_payload not_passed moment frame first.0 second first.1 first.2.header)
same_outcome one_payload one_list moment frame (heard hearings) refused first second =
    absurd (not_refused one_payload moment frame first.0 hearings second first.1 first.2)
same_outcome one_payload one_list moment frame (heard hearings) (heard others) first second =
    let same : MessageReads moment second.0 hearings =
    subst (λ payload. MessageReads moment payload hearings) (one_payload frame first.0 second.0 first.1 second.1) first.2 in
    ap heard (one_list moment second.0 hearings others same second.2)

-- the outcome of a packet with that payload
outcome_of_payload : MessageReadsOrFails → NoFaultInMessage → (moment : Moment) (frame payload : List ℕ) → FrameCarries frame payload
    → (outcome : Outcome) × ComesTo moment frame outcome
outcome_of_payload decided not_both moment frame payload carries =
    elim (cases_lt (length payload) 12) [
      | inl short ↦ (refused, (payload, carries, inl short))
      | inr long ↦
          elim (cases_eq (bit_and (word_at 2 payload) 0x8000) 0) [
            | inl query ↦ (skipped, inr (payload, carries, inl (long, query)))
            | inr response ↦
                elim (cases_eq (bit_and (word_at 2 payload) 0x780f) 0) [
                  | inl good ↦
                      elim (decided moment payload (long, response, good)) [
                        | inl reads ↦ (heard reads.0, (payload, carries, reads.1))
                        | inr fails ↦ (refused, (payload, carries, is_damaged not_both moment payload fails.0 fails.1))
                      ]
                  | inr ignored ↦ (skipped, inr (payload, carries, inr (long, response, ignored)))
                ]
          ]
    ]

pub some_outcome : PayloadOrSkip → NoSkippedPayload → MessageReadsOrFails → NoFaultInMessage → SomeOutcome
some_outcome either never decided not_both moment frame =
    elim (either frame) [
      | inl carries ↦ outcome_of_payload decided not_both moment frame carries.0 carries.1
      | inr skips ↦ (skipped, inl (λ payload carries. never frame payload skips.0 carries skips.1))
    ]

-- THE OUTCOMES OF A CAPTURE

-- a capture has at most one list of outcomes and one ending
abbrev pub OneTelling : Type 0
OneTelling =
    (bytes : List ℕ) (outcomes others : List Outcome) (ending other : Ending)
    → CaptureTells bytes outcomes ending → CaptureTells bytes others other → (outcomes ≡ others) × (ending ≡ other)

same_outcomes : OneOutcome → (packets : List PacketAt) (outcomes others : List Outcome)
    → AllCome packets outcomes → AllCome packets others → outcomes ≡ others
same_outcomes one [] [] [] first second = refl
same_outcomes one (packet ∷ packets) (outcome ∷ outcomes) (other ∷ others) first second =
    grind (arith, same_outcomes one packets outcomes others first.1 second.1)
same_outcomes one [] [] (other ∷ others) first second = absurd second
same_outcomes one [] (outcome ∷ outcomes) others first second = absurd first
same_outcomes one (packet ∷ packets) [] others first second = absurd first
same_outcomes one (packet ∷ packets) (outcome ∷ outcomes) [] first second = absurd second

pub same_telling : OneOutcome → OneReading → OneTelling
same_telling one one_reading bytes outcomes others ending other first second =
    let read = one_reading bytes first.packets second.packets ending other first.reads second.reads in
    let come : AllCome second.packets outcomes = subst (λ packets. AllCome packets outcomes) read.0 first.come in
    (same_outcomes one second.packets outcomes others come second.come, read.1)

-- packets come to some outcomes
pub some_outcomes : SomeOutcome → (packets : List PacketAt) → (outcomes : List Outcome) × AllCome packets outcomes
some_outcomes some [] = ([], tt)
some_outcomes some (packet ∷ packets) =
    let first = some packet.moment packet.frame in
    let rest = some_outcomes some packets in
    (first.0 ∷ rest.0, (first.1, rest.1))

pub some_telling : SomeOutcome → SomeReading → (bytes : List ℕ) → ((place : ℕ) → slice_index bytes place < 256)
    → header_fault bytes ≡ None → (outcomes : List Outcome) × ((ending : Ending) × CaptureTells bytes outcomes ending)
some_telling some some_reading bytes are_bytes sound =
    let read = some_reading bytes are_bytes sound in
    let come = some_outcomes some read.0 in
    (come.0, (read.1.0, record { packets = read.0; reads = read.1.1; come = come.1 }))
