-- What a file is that isn't a capture, by its first bytes, and what to do about it.
use Rattle.std.specs.Prelude.{ℕ, Bool, false, ◌%◌, ◌==◌, ◌&&◌, ◌||◌, nat_eq, nat_lt, if◌then◌else◌, List, []}
use Rattle.std.specs.{Prelude.{◌∷◌, ◌++◌, length, take, Option, Some, None, codes, decimal}, List.{starts_with}}
use Rattle.mdns_capture.specs.{declared.savefile.Format.{Format}, declared.savefile.Endianness.TheVariants.{Big}, Limits.{file_header_size}}
use Rattle.mdns_capture.specs.Savefile.{format_of, number_at}
use Rattle.mdns_trace.specs.declared.flaw.Flaw.{Flaw}
use Rattle.mdns_trace.specs.declared.flaw.Flaw.TheVariants as flaw

-- THE KIND OF THE BYTES

-- the first bytes of a pcapng file: the type of its section header block
abbrev pub pcapng_magic : List ℕ
pcapng_magic = 0x0A ∷ 0x0D ∷ 0x0D ∷ 0x0A ∷ []

-- the first bytes of a gzip file (RFC 1952 section 2.3.1)
abbrev pub gzip_magic : List ℕ
gzip_magic = 0x1F ∷ 0x8B ∷ []

-- the magic of a modified pcap file, whose packet headers are longer, in both orders of the bytes
abbrev pub modified_magic : List ℕ
modified_magic = 0xA1 ∷ 0xB2 ∷ 0xCD ∷ 0x34 ∷ []

abbrev pub modified_magic_swapped : List ℕ
modified_magic_swapped = 0x34 ∷ 0xCD ∷ 0xB2 ∷ 0xA1 ∷ []

-- the bytes of a file up to the end of a file header
abbrev pub head_of : List ℕ → List ℕ
head_of bytes = take file_header_size bytes

-- the kind of a whole file header, under the format that its magic names
abbrev pub flaw_in : List ℕ → Option Format → Flaw
flaw_in head None = flaw.Unknown
flaw_in head (Some format) =
    if (number_at format.order 2 4 head == 2) && (number_at format.order 2 6 head == 4)
    then flaw.Link (number_at format.order 4 20 head % 65536)
    else flaw.Version

-- the kind of the file header of a capture of Ethernet
abbrev pub is_ethernet : Flaw → Bool
is_ethernet (flaw.Link number) = number == 1
is_ethernet other = false

-- the kind of a head that ends after its magic, under the format that this names
abbrev pub flaw_short : Option Format → Flaw
flaw_short None = flaw.Unknown
flaw_short (Some format) = flaw.HeaderCut

-- the kind of a file with this head, by the first that fits
unfoldable pub flaw_of : List ℕ → Flaw
flaw_of head =
    if starts_with nat_eq head pcapng_magic then flaw.Pcapng
    else (if starts_with nat_eq head gzip_magic then flaw.Gzip
    else (if starts_with nat_eq head modified_magic || starts_with nat_eq head modified_magic_swapped then flaw.Modified
    else (if length head == 0 then flaw.Empty
    else (if nat_lt (length head) 4 then flaw.Unknown
    else (if nat_lt (length head) file_header_size then flaw_short (format_of (number_at Big 4 0 head))
    else flaw_in head (format_of (number_at Big 4 0 head)))))))

-- THE WORDS

-- the name of a link type, of those that tcpdump records most; empty for any other
unfoldable pub link_name : ℕ → List ℕ
link_name number =
    if number == 0 then codes "BSD loopback"
    else (if (number == 12) || (number == 101) then codes "raw IP"
    else (if number == 105 then codes "IEEE 802.11"
    else (if number == 113 then codes "Linux cooked v1"
    else (if number == 127 then codes "radiotap"
    else (if number == 276 then codes "Linux cooked v2"
    else [])))))

-- a name after the number that it is of, in parentheses; nothing where it is empty
unfoldable pub named : List ℕ → List ℕ
named name = if length name == 0 then [] else codes " (" ++ name ++ codes ")"

-- a link type: its number and its name
unfoldable pub link_text : ℕ → List ℕ → List ℕ
link_text number name = codes "link type " ++ (decimal number ++ named name)

-- what a file is
abbrev pub what_text : Flaw → List ℕ
what_text flaw.Pcapng = codes "pcapng"
what_text flaw.Gzip = codes "gzip"
what_text flaw.Modified = codes "modified pcap"
what_text flaw.Empty = codes "empty file"
what_text flaw.HeaderCut = codes "file header cut short"
what_text flaw.Version = codes "version other than 2.4"
what_text (flaw.Link number) = link_text number (link_name number)
what_text flaw.Unknown = codes "unknown format"

-- how to get frames of Ethernet: the cooked link types are those of the device `any`, and the header of the first of them ends like
-- Ethernet's, two bytes longer
abbrev pub link_cure : ℕ → List ℕ
link_cure number =
    if number == 113 then codes "convert it with editcap -F nsecpcap -L -C 0:2 -T ether FILE NEW; any mixes the links of all interfaces"
    else (if number == 276 then codes "record on one Ethernet or Wi-Fi interface, not on any"
    else codes "record on an interface that shows Ethernet frames")

-- what to do about it
abbrev pub cure_text : Flaw → List ℕ
cure_text flaw.Pcapng = codes "convert it with editcap -F nsecpcap FILE NEW"
cure_text flaw.Gzip = codes "unpack it with zcat FILE > NEW"
cure_text flaw.Modified = codes "convert it with editcap -F nsecpcap FILE NEW"
cure_text flaw.Empty = codes "nothing was recorded"
cure_text flaw.HeaderCut = codes "nothing was recorded"
cure_text flaw.Version = codes "convert it with editcap -F nsecpcap FILE NEW"
cure_text (flaw.Link number) = link_cure number
cure_text flaw.Unknown = codes "not a capture: tcpdump writes one with -w FILE"
