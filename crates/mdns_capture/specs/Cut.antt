-- A capture that is cut in two where a packet header begins, the file header repeated.
use Rattle.std.specs.Prelude.{ℕ, ◌+◌, List, [], ◌∷◌, ◌++◌, length, drop, take}
use Rattle.mdns_capture.specs.declared.{moment.Moment.{Moment}, savefile.Ending.{Ending}}
use Rattle.mdns_capture.specs.declared.savefile.Ending.TheVariants.{Going, Whole, Cut, Fraction, Long, Many, Failed}
use Rattle.mdns_capture.specs.{Limits.{file_header_size, packet_header_size}, Savefile.{PacketAt}}

-- the offset after packets that begin at an offset: where the next header begins
abbrev pub offset_after : ℕ → List PacketAt → ℕ
offset_after at [] = at
offset_after at (packet ∷ packets) = offset_after (at + (packet_header_size + length packet.frame)) packets

-- the same packets, from another offset on
abbrev pub moved_to : ℕ → List PacketAt → List PacketAt
moved_to at [] = []
moved_to at (packet ∷ packets) =
    record { moment = packet.moment; at = at; frame = packet.frame } ∷ moved_to (at + (packet_header_size + length packet.frame)) packets

-- the same ending, at another offset
abbrev pub ending_at : ℕ → Ending → Ending
ending_at offset Going = Going
ending_at offset Whole = Whole
ending_at offset (Cut at) = Cut offset
ending_at offset (Fraction at) = Fraction offset
ending_at offset (Long at) = Long offset
ending_at offset (Many at) = Many offset
ending_at offset Failed = Failed

-- the parts of a packet that don't depend on its offset: its moment and its frame
abbrev pub content_of : PacketAt → Moment × List ℕ
content_of packet = (packet.moment, packet.frame)

-- the capture up to an offset
abbrev pub part_before : ℕ → List ℕ → List ℕ
part_before offset bytes = take offset bytes

-- the file header again, and the capture from the offset on
abbrev pub part_from : ℕ → List ℕ → List ℕ
part_from offset bytes = take file_header_size bytes ++ drop offset bytes
