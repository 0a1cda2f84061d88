-- Changes of a byte of a packet: which are tried, and in which order. This project's own.
use Rattle.std.specs.Prelude.{ℕ, List, ◌+◌, ◌-◌, ◌*◌, ◌/◌, ◌%◌, ◌^◌, ◌==◌, ◌||◌, Bool, not, min, nat_lt, length, slice_index, slice_set, bit_xor, if◌then◌else◌}
use Rattle.capture_difference.specs.declared.changes.Change.{Change}

-- What a byte is XORed with, by the number of the mask, from 0: each of its bits, the lowest first, and then each byte
-- but 0.
abbrev pub mask_of : ℕ → ℕ
mask_of number = if nat_lt number 8 then 2 ^ number else min (number - 7) 255

-- The change of a packet with this number, from 0: its places one after the other with the first mask, those of the header
-- last, then with the next mask. The first byte of a header has one other value, the version of headers.
abbrev pub change_of : List ℕ → (number : ℕ) → Change
change_of packet number =
    let place = (number % length packet + 4) % length packet in
    record {
      place = place;
      byte = if place == 0 then 1 else bit_xor (slice_index packet place) (mask_of (number / length packet));
    }

-- These flags of a header say that the packet ends a body.
abbrev pub is_end : (flags : ℕ) → Bool
is_end flags = flags / 64 % 2 == 1

-- With the change the packet ends a body, or it begins and ends one as it did. A packet that ends none leads to nothing that
-- could fail to conform, so without this the flag would always be found to be the wrong byte.
abbrev pub keeps_end : List ℕ → Change → Bool
keeps_end packet change = not (change.place == 3) || is_end change.byte || change.byte / 64 == slice_index packet change.place / 64

-- The packet with it.
abbrev pub changed : List ℕ → Change → List ℕ
changed packet change = slice_set packet change.place change.byte

-- By how much the work is divided for the packet at a place of so many: for all packets before the last one together there
-- is as much time as for the last one.
abbrev pub share_of : (place count : ℕ) → ℕ
share_of place count = if place + 1 == count then 1 else count

-- How many changes of a packet of this length are tried, where so many packets are judged for each and the work is divided
-- so: by all masks, or by each bit, or none, as some million packets may be judged.
abbrev pub changes_of : (judged share len : ℕ) → ℕ
changes_of judged share len =
    if nat_lt 8000 len then 0
    else (if nat_lt judged (4000 / (len + 1) / share) then len * 263
    else (if nat_lt judged (128000 / (len + 1) / share) then len * 8
    else 0))
