-- A file of packets in the pcap format, as it is written: a header, and a record for each packet. The link type is that
-- of MCTP, 291.
use Rattle.std.specs.Prelude.{ℕ, List, [], ◌∷◌, ◌++◌, ◌+◌, length}
use Rattle.pcap_file.specs.Numbers.{four_bytes}

-- The magic number 0xa1b2c3d4, the low byte first; version 2.4; two fields of zeros; the longest packet that a record
-- may hold, 65,536 bytes; and the link type.
abbrev pub header : List ℕ
header =
    0xd4 ∷ 0xc3 ∷ 0xb2 ∷ 0xa1
    ∷ 2 ∷ 0 ∷ 4 ∷ 0
    ∷ 0 ∷ 0 ∷ 0 ∷ 0
    ∷ 0 ∷ 0 ∷ 0 ∷ 0
    ∷ 0 ∷ 0 ∷ 1 ∷ 0
    ∷ 0x23 ∷ 1 ∷ 0 ∷ 0
    ∷ []

-- What stands before a packet: its time, in seconds and microseconds, how many of its bytes follow, and how many it has.
-- Captures tell no time. The packet of number K has that of K microseconds, so that what sorts by time keeps the order.
abbrev pub record_head : (number size : ℕ) → List ℕ
record_head number size = four_bytes 0 ++ four_bytes number ++ four_bytes size ++ four_bytes size

abbrev pub record_of : ℕ → List ℕ → List ℕ
record_of number packet = record_head number (length packet) ++ packet

-- The records of packets, of which the first has this number.
abbrev pub records_from : ℕ → List (List ℕ) → List ℕ
records_from number [] = []
records_from number (packet ∷ others) = record_of number packet ++ records_from (number + 1) others

-- The file of packets, which are counted from 1.
abbrev pub file_of : List (List ℕ) → List ℕ
file_of packets = header ++ records_from 1 packets
