-- A packet and its bytes (DSP0236, "MCTP packet fields").
use Rattle.std.specs.Prelude.{◌==◌, ◌+◌, ◌*◌, ◌/◌, ◌%◌, ℕ, Bool, true, false, not, nat_lt, List, ◌∷◌, length, drop, slice_index, if◌then◌else◌, Option, Some, None, Result, Ok, Err}
use Rattle.spdm_basis.specs.declared.PacketFault.{PacketFault}
use Rattle.spdm_basis.specs.declared.PacketFault.TheVariants.{Short, WrongVersion}
use Rattle.mctp_framing.specs.declared.packet.PacketView.{PacketView}

-- The fields of a packet: destination and source, whether it is the first packet of its body (SOM) and the last (EOM),
-- its sequence number, the tag owner bit (TO) and the message tag, and its payload.
pub record PacketFields : Type 0 where
  pub to : ℕ
  pub from : ℕ
  pub start : Bool
  pub end : Bool
  pub sequence : ℕ
  pub owner : Bool
  pub tag : ℕ
  pub payload : List ℕ

-- The fields of at least four bytes. Byte 1 is the destination and byte 2 the source. Of byte 3, bit 7 is SOM, bit 6
-- EOM, bits 5 and 4 the sequence number, bit 3 TO and bits 2 to 0 the tag. The payload follows.
abbrev pub fields_of : List ℕ → PacketFields
fields_of bytes =
    let marks = slice_index bytes 3 in
    record {
      to = slice_index bytes 1;
      from = slice_index bytes 2;
      start = marks / 128 == 1;
      end = marks / 64 % 2 == 1;
      sequence = marks / 16 % 4;
      owner = marks / 8 % 2 == 1;
      tag = marks % 8;
      payload = drop 4 bytes;
    }

-- Why bytes are no packet: first, there are fewer than four; second, the header version, bits 3 to 0 of byte 0, is not
-- 1. Bits 7 to 4 are reserved, and are not looked at.
abbrev pub packet_fault : List ℕ → Option PacketFault
packet_fault bytes =
    if nat_lt (length bytes) 4 then Some Short
    else (if not (slice_index bytes 0 % 16 == 1) then Some WrongVersion
    else None)

-- The fault, where there is one, or else the fields.
abbrev pub fault_or : Option PacketFault → PacketFields → Result PacketFields PacketFault
fault_or (Some fault) fields = Err fault
fault_or None fields = Ok fields

-- What bytes are read as: the fault that they have, or else their fields.
abbrev pub parsed : List ℕ → Result PacketFields PacketFault
parsed bytes = fault_or (packet_fault bytes) (fields_of bytes)

-- A bit as a number.
abbrev pub bit : Bool → ℕ
bit true = 1
bit false = 0

-- The bytes of a packet as they are written: the reserved bits are 0 and the header version is 1.
abbrev pub spelled_packet : PacketFields → List ℕ
spelled_packet p = 1 ∷ p.to ∷ p.from ∷ (bit p.start * 128 + bit p.end * 64 + p.sequence * 16 + bit p.owner * 8 + p.tag) ∷ p.payload

-- A view of a packet as its fields.
abbrev pub view_of : PacketView → PacketFields
view_of view =
    record {
      to = view.to;
      from = view.from;
      start = view.start;
      end = view.end;
      sequence = view.sequence;
      owner = view.owner;
      tag = view.tag;
      payload = view.payload.now;
    }

-- What was read, with the fields of the view.
abbrev pub view_of_result : Result PacketView PacketFault → Result PacketFields PacketFault
view_of_result (Ok view) = Ok (view_of view)
view_of_result (Err fault) = Err fault
