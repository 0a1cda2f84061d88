-- A law of writing and reading.
use Rattle.std.specs.Prelude.{ℕ, List, [], ◌∷◌, ◌≤◌, ◌≡◌, length, Ok}
use Rattle.pcap_file.specs.Reading.{packets_in}
use Rattle.pcap_file.specs.Writing.{file_of}

-- Packets of at most 8,000 bytes each.
abbrev pub AreShort : List (List ℕ) → Type 0
AreShort [] = Unit {0}
AreShort (packet ∷ others) = (length packet ≤ 8000) × AreShort others

-- What a file is written of is read back from it.
abbrev pub WrittenFileIsRead : Type 0
WrittenFileIsRead = (packets : List (List ℕ)) → AreShort packets → length packets ≤ 100000 → packets_in (file_of packets) ≡ Ok packets
