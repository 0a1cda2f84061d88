-- What a file in the pcap format holds: its packets, or the first fault.
use Rattle.std.specs.Prelude.{ℕ, zero, suc, List, [], ◌∷◌, ◌++◌, ◌+◌, ◌==◌, ◌||◌, nat_lt, not, length, take, drop, slice_range, bytes_eq, if◌then◌else◌, Bool, Option, Some, None, Result, Ok, Err}
use Rattle.pcap_file.specs.Numbers.{number_at}
use Rattle.pcap_file.specs.declared.order.ByteOrder.{ByteOrder}
use Rattle.pcap_file.specs.declared.order.ByteOrder.TheVariants.{Little, Big}
use Rattle.pcap_file.specs.declared.fault.PcapFault.{PcapFault}
use Rattle.pcap_file.specs.declared.fault.PcapFault.TheVariants.{NotPcap, OtherVersion, OtherLink, CutShort, PartOfPacket, LongPacket, TooManyPackets}

-- ---- The header.

-- The order of the bytes of numbers by the magic number, which is 0xa1b2c3d4, or 0xa1b23c4d where times are in
-- nanoseconds.
unfoldable pub order_by : List ℕ → Option ByteOrder
order_by magic =
    if bytes_eq magic (0xd4 ∷ 0xc3 ∷ 0xb2 ∷ 0xa1 ∷ []) || bytes_eq magic (0x4d ∷ 0x3c ∷ 0xb2 ∷ 0xa1 ∷ []) then Some Little
    else (if bytes_eq magic (0xa1 ∷ 0xb2 ∷ 0xc3 ∷ 0xd4 ∷ []) || bytes_eq magic (0xa1 ∷ 0xb2 ∷ 0x3c ∷ 0x4d ∷ []) then Some Big
    else None)

-- The header has 24 bytes.
unfoldable pub order_in : List ℕ → Option ByteOrder
order_in file = if nat_lt (length file) 24 then None else order_by (take 4 file)

-- The version is 2.4: two numbers of two bytes.
abbrev pub is_version : ByteOrder → List ℕ → Bool
is_version Little file = bytes_eq (slice_range file 4 8) (2 ∷ 0 ∷ 4 ∷ 0 ∷ [])
is_version Big file = bytes_eq (slice_range file 4 8) (0 ∷ 2 ∷ 0 ∷ 4 ∷ [])

-- The link type is that of MCTP.
abbrev pub is_mctp : ByteOrder → List ℕ → Bool
is_mctp order file = number_at order 20 file == 291

-- ---- Records.

-- The size of the packet of the record with which bytes begin, in a file of which this is the place of the first of them.
-- A record has 16 bytes before its packet, which has at most 8,000.
unfoldable pub size_in : (at : ℕ) → ByteOrder → List ℕ → Result ℕ PcapFault
size_in at order bytes =
    if nat_lt (length bytes) 16 then Err (CutShort at)
    else (if not (number_at order 8 bytes == number_at order 12 bytes) then Err (PartOfPacket at)
    else (if nat_lt 8000 (number_at order 8 bytes) then Err (LongPacket at)
    else (if nat_lt (length bytes) (16 + number_at order 8 bytes) then Err (CutShort at)
    else Ok (number_at order 8 bytes))))

-- Packets before others, if these are good.
abbrev pub with_before : List (List ℕ) → Result (List (List ℕ)) PcapFault → Result (List (List ℕ)) PcapFault
with_before packets (Ok others) = Ok (packets ++ others)
with_before packets (Err fault) = Err fault

-- The packet of a record of this size with which bytes begin, and then the packets of the records behind it.
abbrev pub packets_behind : Result ℕ PcapFault → List ℕ → (ℕ → Result (List (List ℕ)) PcapFault) → Result (List (List ℕ)) PcapFault
packets_behind (Err fault) bytes behind = Err fault
packets_behind (Ok size) bytes behind = with_before (drop 16 (take (16 + size) bytes) ∷ []) (behind size)

-- The packets of records, of which there may be so many, in a file of which this is the place of the first byte.
abbrev pub records_in : (left at : ℕ) → ByteOrder → List ℕ → Result (List (List ℕ)) PcapFault
records_in left at order [] = Ok []
records_in zero at order (b ∷ bytes) = Err (TooManyPackets at)
records_in (suc left) at order (b ∷ bytes) =
    packets_behind (size_in at order (b ∷ bytes)) (b ∷ bytes) (λ size. records_in left (at + (16 + size)) order (drop (16 + size) (b ∷ bytes)))

-- ---- A file.

-- The most packets of a file.
abbrev pub most_packets : ℕ
most_packets = 100000

abbrev pub packets_by : Option ByteOrder → List ℕ → Result (List (List ℕ)) PcapFault
packets_by None file = Err NotPcap
packets_by (Some order) file =
    if not (is_version order file) then Err OtherVersion
    else (if not (is_mctp order file) then Err OtherLink
    else records_in most_packets 24 order (drop 24 file))

-- The packets of a file, in their order, or its first fault.
unfoldable pub packets_in : List ℕ → Result (List (List ℕ)) PcapFault
packets_in file = packets_by (order_in file) file
