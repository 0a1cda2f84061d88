-- What is kept from one end to another after a packet between other ends.
use Rattle.std.proofs.Common.{◌≡◌, ◌∙◌, ◌==◌, ◌&&◌, ℕ, List, ◌∷◌, cond, filter, Bool, false, None, Err, Ok, sym, ap, subst}
use Rattle.capture_bodies.specs.Collecting.{chunk_at, chunk_of, chunks_between, with_chunk}
use Rattle.capture_bodies.specs.Completing.{completed_by}
use Rattle.capture_bodies.specs.Keeping.{StandsFor}
use Rattle.capture_bodies.specs.declared.direction.Direction.{Direction}
use Rattle.chunking.specs.Collecting.{accepted_of}
use Rattle.chunking.specs.Keeping as chunks
use Rattle.mctp_framing.specs.Assembling as packets
use Rattle.mctp_framing.specs.Assembling.{Assembly, StandsForGroup}
use Rattle.mctp_framing.specs.Gathering.{Receiver, group_of, is_ours}
use Rattle.mctp_framing.specs.Packet.{PacketFields, parsed}
use Rattle.spdm_basis.specs.declared.causes.faults.PacketFault.{PacketFault}
use Rattle.spdm_grammar.specs.Message.{ChunkMessage}
use Rattle.spdm_grammar.specs.declared.names.TheConstants.{MAX_MESSAGE_SIZE}
use Rattle.spdm_machine.specs.Packets.{fields_in, fields_with, gathered_from}

-- the body that is gathered
gathers_stays : (a : Assembly) (p : PacketFields) (given : List PacketFields) → is_ours a.receiver p ≡ false → packets.StandsFor a given → packets.StandsFor a (p ∷ given)
gathers_stays a p given h s =
    let ours = filter (is_ours a.receiver) given in
    let e : filter (is_ours a.receiver) (p ∷ given) ≡ ours = ap (λ (b : Bool). cond b (p ∷ ours) ours) h in
    subst (λ (l : List PacketFields). StandsForGroup a.receiver.limit a.unfinished a.body (group_of l)) (sym e) s

-- the chunks that went there
pub chunks_stay : (to from : ℕ) (older : List (List ℕ)) (packet : List ℕ) (p : PacketFields) → parsed packet ≡ Ok p → (p.to == to && p.from == from) ≡ false → chunks_between to from (packet ∷ older) ≡ chunks_between to from older
chunks_stay to from older packet p parses h = ap (λ r. with_chunk (chunk_at to from older r) (chunks_between to from older)) parses ∙ ap (λ (b : Bool). with_chunk (cond b (chunk_of (completed_by (gathered_from to from older p))) None) (chunks_between to from older)) h

pub stays : (d : Direction) (to from : ℕ) (older : List (List ℕ)) (packet : List ℕ) (p : PacketFields) → StandsFor d to from older → parsed packet ≡ Ok p → (p.to == to && p.from == from) ≡ false → StandsFor d to from (packet ∷ older)
stays d to from older packet p s parses h =
    let away : is_ours d.assembler.receiver p ≡ false = ap (λ (r : Receiver). is_ours r p) s.receiver ∙ h in
    let kept : packets.StandsFor d.assembler (p ∷ fields_in older) = gathers_stays d.assembler p (fields_in older) away s.gathers in record {
      receiver = s.receiver;
      gathers = subst (λ r. packets.StandsFor d.assembler (fields_with r (fields_in older))) (sym parses) kept;
      most = s.most;
      collects = subst (λ (l : List ChunkMessage). chunks.StandsFor d.collector (accepted_of MAX_MESSAGE_SIZE l)) (sym (chunks_stay to from older packet p parses h)) s.collects;
    }

-- bytes that are no packet
pub skipped : (d : Direction) (to from : ℕ) (older : List (List ℕ)) (packet : List ℕ) (fault : PacketFault) → StandsFor d to from older → parsed packet ≡ Err fault → StandsFor d to from (packet ∷ older)
skipped d to from older packet fault s none = record {
  receiver = s.receiver;
  gathers = subst (λ r. packets.StandsFor d.assembler (fields_with r (fields_in older))) (sym none) s.gathers;
  most = s.most;
  collects = subst (λ r. chunks.StandsFor d.collector (accepted_of MAX_MESSAGE_SIZE (with_chunk (chunk_at to from older r) (chunks_between to from older)))) (sym none) s.collects;
}
