-- The classic savefile of libpcap, version 2.4: which bytes are a capture, of which packets, and how it ends.
use Rattle.std.specs.Prelude.{◌≡◌, ℕ, ◌+◌, ◌*◌, ◌%◌, ◌<◌, ◌≤◌, ◌==◌, nat_lt, nat_le, not, ◌&&◌}
use Rattle.std.specs.{Prelude.{if◌then◌else◌, List, [], ◌∷◌, ◌++◌, length, drop, Option, Some, None}, Option.{option_or}}
use Rattle.byteorder.specs.Endian.{big_number, little_number}
use Rattle.mdns_capture.specs.Limits.{file_header_size, packet_header_size, longest_packet, most_packets, second}
use Rattle.mdns_capture.specs.declared.{moment.Moment.{Moment}, savefile.Endianness.{Endianness}}
use Rattle.mdns_capture.specs.declared.savefile.Endianness.TheVariants.{Little, Big}
use Rattle.mdns_capture.specs.declared.savefile.{Precision.{Precision}, Precision.TheVariants.{Microseconds, Nanoseconds}, Format.{Format}}
use Rattle.mdns_capture.specs.declared.savefile.{Ending.{Ending}, Ending.TheVariants.{Whole, Cut, Fraction, Long, Many}}
use Rattle.mdns_capture.specs.declared.savefile.{BeginFault.{BeginFault}, BeginFault.TheVariants.{ShortHeader, Magic, Version, Link}}

-- a packet of a capture: its moment, the offset of its header in the file, and its captured bytes
pub record PacketAt : Type 0 where
  pub moment : Moment
  pub at : ℕ
  pub frame : List ℕ

-- the number in so many bytes at an offset, in this order of the bytes
unfoldable pub number_at : Endianness → ℕ → ℕ → List ℕ → ℕ
number_at Little size offset bytes = little_number size (drop offset bytes)
number_at Big size offset bytes = big_number size (drop offset bytes)

-- the format that a magic names, the first four bytes of a file read as a big-endian number
abbrev pub format_of : ℕ → Option Format
format_of magic =
    if magic == 0xd4c3b2a1 then Some (record { order = Little; precision = Microseconds })
    else (if magic == 0xa1b2c3d4 then Some (record { order = Big; precision = Microseconds })
    else (if magic == 0x4d3cb2a1 then Some (record { order = Little; precision = Nanoseconds })
    else (if magic == 0xa1b23c4d then Some (record { order = Big; precision = Nanoseconds })
    else None)))

-- the first fault of a file header's bytes under the format that their magic names, if there is one
abbrev pub format_fault : List ℕ → Option Format → Option BeginFault
format_fault header None = Some Magic
format_fault header (Some format) =
    if not ((number_at format.order 2 4 header == 2) && (number_at format.order 2 6 header == 4)) then Some Version
    else (if not (number_at format.order 4 20 header % 65536 == 1) then Some Link
    else None)

-- the first fault in the file header of these bytes, if there is one
abbrev pub header_fault : List ℕ → Option BeginFault
header_fault bytes =
    if nat_lt (length bytes) file_header_size then Some ShortHeader
    else format_fault bytes (format_of (number_at Big 4 0 bytes))

-- the bytes are a file header of this format: its magic, version 2.4, two reserved words, a snapshot length
-- and a link type, of which the low 16 bits say Ethernet
pub record IsFileHeader (format : Format) (header : List ℕ) : Type 0 where
  pub size : length header ≡ file_header_size
  pub magic : format_of (number_at Big 4 0 header) ≡ Some format
  pub major : number_at format.order 2 4 header ≡ 2
  pub minor : number_at format.order 2 6 header ≡ 4
  pub link : number_at format.order 4 20 header % 65536 ≡ 1

-- the snapshot length that a file header states: the most bytes of a packet that were captured
abbrev pub snap_length_of : Format → List ℕ → ℕ
snap_length_of format header = number_at format.order 4 16 header

-- the snapshot length of a file of that format, where its magic names one
abbrev pub snap_length_by : Option Format → List ℕ → ℕ
snap_length_by None bytes = 0
snap_length_by (Some format) bytes = snap_length_of format bytes

-- the snapshot length that a capture states
abbrev pub snap_length : List ℕ → ℕ
snap_length bytes = snap_length_by (format_of (number_at Big 4 0 bytes)) bytes

-- nanoseconds in a unit of a packet header's fraction
abbrev pub scale_of : Precision → ℕ
scale_of Microseconds = 1000
scale_of Nanoseconds = 1

-- the fields of a packet header: seconds since 1970, the fraction as nanoseconds, the captured length
abbrev pub seconds_of : Format → List ℕ → ℕ
seconds_of format header = number_at format.order 4 0 header

abbrev pub fraction_of : Format → List ℕ → ℕ
fraction_of format header = number_at format.order 4 4 header * scale_of format.precision

abbrev pub captured_of : Format → List ℕ → ℕ
captured_of format header = number_at format.order 4 8 header

-- the bytes are the header of a packet heard at a moment, with so many bytes captured; the last word, the original length, is ignored
pub record IsPacketHeader (format : Format) (header : List ℕ) (moment captured : ℕ) : Type 0 where
  pub size : length header ≡ packet_header_size
  pub fraction : fraction_of format header < second
  pub at_moment : moment ≡ seconds_of format header * second + fraction_of format header
  pub of_length : captured ≡ captured_of format header
  pub limit : captured ≤ longest_packet

-- at an offset the bytes begin with a whole packet, and go on with the rest
pub record BeginsWith (format : Format) (at : ℕ) (bytes : List ℕ) (packet : PacketAt) (rest : List ℕ) : Type 0 where
  pub header : List ℕ
  pub heads : IsPacketHeader format header packet.moment.nanos (length packet.frame)
  pub offset : packet.at ≡ at
  pub whole : bytes ≡ header ++ (packet.frame ++ rest)

-- the ending that the packet header at an offset causes, if it does
abbrev pub head_stop : Format → ℕ → List ℕ → Option Ending
head_stop format at header =
    if nat_le second (fraction_of format header) then Some (Fraction at)
    else (if nat_lt longest_packet (captured_of format header) then Some (Long at)
    else None)

-- the ending that a packet header causes, also where it is missing or cut short
abbrev pub header_stop : Format → ℕ → List ℕ → Option Ending
header_stop format at bytes =
    if length bytes == 0 then Some Whole
    else (if nat_lt (length bytes) packet_header_size then Some (Cut at)
    else head_stop format at bytes)

-- how the reading ends at an offset, by the first check that fails; none where a whole packet begins
abbrev pub stop_of : Format → ℕ → List ℕ → Option Ending
stop_of format at bytes =
    if length bytes == 0 then Some Whole
    else (if nat_lt (length bytes) packet_header_size then Some (Cut at)
    else option_or (head_stop format at bytes)
    (if nat_lt (length bytes) (packet_header_size + captured_of format bytes) then Some (Cut at) else None))

-- how the reading ends after so many packets
abbrev pub ending_of : Format → ℕ → ℕ → List ℕ → Option Ending
ending_of format count at bytes =
    if count == most_packets then Some (Many at) else stop_of format at bytes

-- After `count` packets, from the offset `at` on, the bytes are these whole packets, and then comes the ending.
abbrev pub PacketsRead : Format → ℕ → ℕ → List ℕ → List PacketAt → Ending → Type 0
PacketsRead format count at bytes [] ending = ending_of format count at bytes ≡ Some ending
PacketsRead format count at bytes (packet ∷ packets) ending =
    (count < most_packets) × ((rest : List ℕ) × BeginsWith format at bytes packet rest
    × PacketsRead format (count + 1) (at + (packet_header_size + length packet.frame)) rest packets ending)

-- The bytes are a capture of these packets with this ending.
pub record CaptureReads (bytes : List ℕ) (packets : List PacketAt) (ending : Ending) : Type 0 where
  pub format : Format
  pub header : List ℕ
  pub rest : List ℕ
  pub heads : IsFileHeader format header
  pub whole : bytes ≡ header ++ rest
  pub reads : PacketsRead format 0 file_header_size rest packets ending
