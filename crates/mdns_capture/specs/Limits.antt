-- The sizes and limits of savefiles and of their moments. The savefile format is libpcap's, version 2.4.
use Rattle.std.specs.Prelude.{ℕ}

-- the bytes of a file header, and of a packet header
abbrev pub file_header_size : ℕ
file_header_size = 24

abbrev pub packet_header_size : ℕ
packet_header_size = 16

-- the greatest captured length that is read: libpcap's own greatest snapshot length
abbrev pub longest_packet : ℕ
longest_packet = 262144

-- how many packets are read at most: as many as 32 bits count
abbrev pub most_packets : ℕ
most_packets = 4294967295

-- the greatest offset that 64 bits count
abbrev pub greatest_offset : ℕ
greatest_offset = 18446744073709551615

-- nanoseconds in a second
abbrev pub second : ℕ
second = 1000000000

-- the greatest moment: the last nanosecond of the last second that the 32 bits of a packet header can name
abbrev pub greatest_moment : ℕ
greatest_moment = 4294967295999999999
