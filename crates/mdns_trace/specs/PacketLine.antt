-- The lines of packets that told nothing: when and where in which file each was captured, and why it told nothing, in
-- words that lead to the cure.
use Rattle.std.specs.Prelude.{ℕ, List, [], ◌∷◌, codes, decimal}
use Rattle.mdns_message.specs.declared.fault.MessageFault.{MessageFault}
use Rattle.mdns_message.specs.declared.fault.MessageFault.TheVariants as fault
use Rattle.mdns_capture.specs.{Text.{moment_text}, Savefile.{PacketAt}}
use Rattle.mdns_survey.specs.{ProgramLines.{◌<>◌}, Reasons.{row_of}}
use Rattle.mdns_trace.specs.declared.entry.Untold.{Untold}
use Rattle.mdns_trace.specs.declared.entry.Untold.TheVariants as untold

-- The fault of a damaged message in words, and its offset from the message's first byte. The last three are no damage, so
-- that no packet is refused for them.
abbrev pub fault_text : MessageFault → List ℕ
fault_text fault.Header = codes "header cut short"
fault_text (fault.Cut at) = codes "cut short"
fault_text (fault.Label at) = codes "neither label nor pointer"
fault_text (fault.Pointer at) = codes "pointer not backward"
fault_text (fault.LongName at) = codes "name too long"
fault_text (fault.Body at) = codes "data out of form"
fault_text fault.Query = codes "query"
fault_text fault.Ignored = codes "OPCODE or RCODE"
fault_text fault.Memory = codes "out of memory"

abbrev pub fault_at : MessageFault → ℕ
fault_at (fault.Cut at) = at
fault_at (fault.Label at) = at
fault_at (fault.Pointer at) = at
fault_at (fault.LongName at) = at
fault_at (fault.Body at) = at
fault_at other = 0

-- where a packet is: its moment, its file, and the offset of its header in that file
abbrev pub place_text : List ℕ → PacketAt → List ℕ
place_text file packet = moment_text packet.moment.nanos <> codes " " <> file <> codes " " <> decimal packet.at

-- what came of a packet that told nothing, and the cause
abbrev pub untold_text : Untold → List ℕ
untold_text (untold.Skipped why) = codes "skipped " <> (row_of why).words
untold_text (untold.Refused damage) = codes "refused " <> fault_text damage <> codes " at " <> decimal (fault_at damage)
untold_text untold.Unlisted = codes "heard no listed record"

-- the line of a packet that told nothing, in a file of that name, with its line feed
unfoldable pub packet_line : List ℕ → PacketAt → Untold → List ℕ
packet_line file packet untold = place_text file packet <> codes " " <> untold_text untold <> 10 ∷ []
