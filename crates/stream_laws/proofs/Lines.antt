-- What is written of the lines that a step of a world has.
use Rattle.std.proofs.Common.{◌≡◌, ◌≢◌, ◌∙◌, ◌+◌, ℕ, List, [], ◌∷◌, ◌++◌, Bool, cond, flat_map, slice_index, Option, Some, None, refl, ap, eq-eqb}
use Rattle.std.proofs.lemmas.Bool.{ne_eqb}
use Rattle.std.proofs.lemmas.Grind.{flat_map-append}
use Rattle.std.proofs.lemmas.List.{append_assoc}
use Rattle.frame_stream.specs.Frames.{spelled}
use Rattle.frame_stream.specs.Frames.GivenFrame.{PacketOf}
use Rattle.frame_stream.specs.Packets.{packet_frames}
use Rattle.requester_drive.specs.Driven.{line_frame, line_frames}
use Rattle.requester_machine.specs.History as asked
use Rattle.requester_machine.specs.Requesting.{Requesting}
use Rattle.requester_machine.specs.Shown as asked_shown
use Rattle.responder_machine.specs.Heard.{views_of}
use Rattle.responder_machine.specs.History as served
use Rattle.responder_machine.specs.Responding.{Connection, Responding, connection_of}
use Rattle.spdm_basis.specs.declared.values.session_id.SessionId.{SessionId}
use Rattle.spdm_grammar.specs.Lines.{Line, Whose}
use Rattle.spdm_grammar.specs.declared.told.event.Event.{Event}
use Rattle.spdm_grammar.specs.declared.told.heard.Heard.{Heard}
use Rattle.spdm_grammar.specs.declared.told.heard.ReplyFault.{ReplyFault}
use Rattle.spdm_grammar.specs.declared.told.phase.Phase.{Phase}
use Rattle.spdm_grammar.specs.declared.told.session_view.SessionView.{SessionView}
use Rattle.stream_laws.proofs.Bytes.{AreSent, IsOther, IsOwn}
use Rattle.stream_laws.specs.Traces.{first_frame, if_first, responder_frame, sent_by}
use Rattle.world_machine.specs.World.{all_end_lines, connection_lines, data_lines, end_lines, packet_lines, record_lines, session_lines, taken_lines}

-- ---- Packets and the lines of no requester.

-- What is written of a line for an end: of a packet, where it sent it; and nothing of a line that is of no requester.
pub record ShowsEnd (eid : ℕ) (own : Line → List ℕ) : Type 0 where
  pub packet : (number : ℕ) (packet : List ℕ) → own (Line.Packet number packet) ≡ sent_by eid packet
  pub state : (whose : Whose) (phase : Phase) → own (Line.State whose phase) ≡ []
  pub session : (whose : Whose) (view : SessionView) → own (Line.Session whose view) ≡ []
  pub at : (number : ℕ) → own (Line.At number) ≡ []
  pub queued : (fault : Option ReplyFault) → own (Line.Reply fault) ≡ []
  pub heard : (heard : Heard) → own (Line.ToResponder heard) ≡ []
  pub served : (n : ℕ) (id : SessionId) (bytes : List ℕ) → own (Line.Data (Whose.Responder n) id bytes) ≡ []
  pub nobody : own Line.ToNobody ≡ []
  pub none : (number : ℕ) → own (Line.NoPacket number) ≡ []

pub first_shows : (eid : ℕ) → ShowsEnd eid (first_frame eid)
first_shows eid = record {
  packet = λ number packet. refl;
  state = λ whose phase. refl;
  session = λ whose view. refl;
  at = λ number. refl;
  queued = λ fault. refl;
  heard = λ heard. refl;
  served = λ n id bytes. refl;
  nobody = refl;
  none = λ number. refl;
}

pub responder_shows : (eid : ℕ) → ShowsEnd eid (responder_frame eid)
responder_shows eid = record {
  packet = λ number packet. refl;
  state = λ whose phase. refl;
  session = λ whose view. refl;
  at = λ number. refl;
  queued = λ fault. refl;
  heard = λ heard. refl;
  served = λ n id bytes. refl;
  nobody = refl;
  none = λ number. refl;
}

own_packet : (eid : ℕ) (packet : List ℕ) → slice_index packet 2 ≡ eid → sent_by eid packet ≡ spelled (PacketOf packet)
own_packet eid packet e = ap (λ (b : Bool). cond b (spelled (PacketOf packet)) []) (eq-eqb (slice_index packet 2) eid e)

other_packet : (eid : ℕ) (packet : List ℕ) → slice_index packet 2 ≢ eid → sent_by eid packet ≡ []
other_packet eid packet e = ap (λ (b : Bool). cond b (spelled (PacketOf packet)) []) (ne_eqb (slice_index packet 2) eid e)

-- A line of which nothing is written, before others.
pub skipped : (own : Line → List ℕ) (line : Line) (rest : List Line) → own line ≡ [] → flat_map own (line ∷ rest) ≡ flat_map own rest
skipped own line rest e = ap (λ (front : List ℕ). front ++ flat_map own rest) e

module _ (eid : ℕ) (own : Line → List ℕ) (shows : ShowsEnd eid own) where
  pub own_packets : (count : ℕ) (packets : List (List ℕ)) → AreSent (IsOwn eid) packets → flat_map own (packet_lines count packets) ≡ packet_frames packets
  own_packets count [] are = refl
  own_packets count (packet ∷ others) are =
      ap (λ (front : List ℕ). front ++ flat_map own (packet_lines (count + 1) others)) (shows.packet (count + 1) packet ∙ own_packet eid packet are.0)
      ∙ ap (λ (rest : List ℕ). spelled (PacketOf packet) ++ rest) (own_packets (count + 1) others are.1)

  pub other_packets : (count : ℕ) (packets : List (List ℕ)) → AreSent (IsOther eid) packets → flat_map own (packet_lines count packets) ≡ []
  other_packets count [] are = refl
  other_packets count (packet ∷ others) are =
      skipped own (Line.Packet (count + 1) packet) (packet_lines (count + 1) others) (shows.packet (count + 1) packet ∙ other_packet eid packet are.0)
      ∙ other_packets (count + 1) others are.1

  -- The lines of what a packet told the responder, and of the data that it took, before others.
  pub heard_lines : (heard : Heard) (n : ℕ) (taken : Option (SessionId × List ℕ)) (rest : List Line) → flat_map own (Line.ToResponder heard ∷ taken_lines n taken ++ rest) ≡ flat_map own rest
  heard_lines heard n None rest = skipped own (Line.ToResponder heard) rest (shows.heard heard)
  heard_lines heard n (Some taken) rest =
      skipped own (Line.ToResponder heard) (Line.Data (Whose.Responder n) taken.0 taken.1 ∷ rest) (shows.heard heard)
      ∙ skipped own (Line.Data (Whose.Responder n) taken.0 taken.1) rest (shows.served n taken.0 taken.1)

  -- The ends as they are shown.

  sessions_none : (whose : Whose) (views : List SessionView) (rest : List Line) → flat_map own (session_lines whose views ++ rest) ≡ flat_map own rest
  sessions_none whose [] rest = refl
  sessions_none whose (view ∷ others) rest = skipped own (Line.Session whose view) (session_lines whose others ++ rest) (shows.session whose view) ∙ sessions_none whose others rest

  connection_none : (n : ℕ) (o : Option Connection) (rest : List Line) → flat_map own (connection_lines n o ++ rest) ≡ flat_map own rest
  connection_none n None rest = refl
  connection_none n (Some c) rest =
      skipped own (Line.State (Whose.Responder n) (served.phase_of (served.clear_turns c.history))) (session_lines (Whose.Responder n) (views_of c.history) ++ rest) (shows.state (Whose.Responder n) (served.phase_of (served.clear_turns c.history)))
      ∙ sessions_none (Whose.Responder n) (views_of c.history) rest

  end_none : (r : Responding) (n : ℕ) (a : Requesting) (rest : List Line) → flat_map own (end_lines r n a ++ rest) ≡ flat_map own rest
  end_none r n a rest =
      let sessions = session_lines (Whose.Requester n) (asked_shown.views_of a.history) in
      let connection = connection_lines n (connection_of a.setup.eid r.connections) in
      skipped own (Line.State (Whose.Requester n) (asked.phase_of a.history)) ((sessions ++ connection) ++ rest) (shows.state (Whose.Requester n) (asked.phase_of a.history))
      ∙ ap (flat_map own) (append_assoc sessions connection rest)
      ∙ sessions_none (Whose.Requester n) (asked_shown.views_of a.history) (connection ++ rest)
      ∙ connection_none n (connection_of a.setup.eid r.connections) rest

  pub ends_none : (r : Responding) (n : ℕ) (all : List Requesting) → flat_map own (all_end_lines r n all) ≡ []
  ends_none r n [] = refl
  ends_none r n (a ∷ others) = end_none r n a (all_end_lines r (n + 1) others) ∙ ends_none r (n + 1) others

-- ---- Lines of requesters, written for requester 1.

-- The lines of what a packet told requester n, and of what it took.
abbrev pub told_lines : (n : ℕ) → Event → SessionId → (taken measured : Option (List ℕ)) → List Line
told_lines n event id taken measured = Line.ToRequester n event ∷ data_lines (Whose.Requester n) id taken ++ record_lines n measured

pub first_told : (eid : ℕ) (event : Event) (id : SessionId) (taken measured : Option (List ℕ)) → flat_map (first_frame eid) (told_lines 1 event id taken measured) ≡ line_frames (told_lines 1 event id taken measured)
first_told eid event id None None = refl
first_told eid event id None (Some record_bytes) = refl
first_told eid event id (Some bytes) None = refl
first_told eid event id (Some bytes) (Some record_bytes) = refl

not_first : (n : ℕ) (line : Line) → n ≢ 1 → if_first n line ≡ []
not_first n line e = ap (λ (b : Bool). cond b (line_frame line) []) (ne_eqb n 1 e)

-- A line of another requester.
pub other_line : (eid n : ℕ) → n ≢ 1 → (line : Line) (rest : List Line) → first_frame eid line ≡ if_first n line → flat_map (first_frame eid) (line ∷ rest) ≡ flat_map (first_frame eid) rest
other_line eid n e line rest is = skipped (first_frame eid) line rest (is ∙ not_first n line e)

other_data : (eid n : ℕ) → n ≢ 1 → (id : SessionId) (taken : Option (List ℕ)) → flat_map (first_frame eid) (data_lines (Whose.Requester n) id taken) ≡ []
other_data eid n e id None = refl
other_data eid n e id (Some bytes) = other_line eid n e (Line.Data (Whose.Requester n) id bytes) [] refl

other_record : (eid n : ℕ) → n ≢ 1 → (measured : Option (List ℕ)) → flat_map (first_frame eid) (record_lines n measured) ≡ []
other_record eid n e None = refl
other_record eid n e (Some bytes) = other_line eid n e (Line.Record n bytes) [] refl

pub other_told : (eid n : ℕ) → n ≢ 1 → (event : Event) (id : SessionId) (taken measured : Option (List ℕ)) → flat_map (first_frame eid) (told_lines n event id taken measured) ≡ []
other_told eid n e event id taken measured =
    other_line eid n e (Line.ToRequester n event) (data_lines (Whose.Requester n) id taken ++ record_lines n measured) refl
    ∙ flat_map-append (first_frame eid) (data_lines (Whose.Requester n) id taken) (record_lines n measured)
    ∙ ap (λ (front : List ℕ). front ++ flat_map (first_frame eid) (record_lines n measured)) (other_data eid n e id taken)
    ∙ other_record eid n e measured

-- ---- The same lines, written for the responder.

pub no_told : (eid n : ℕ) (event : Event) (id : SessionId) (taken measured : Option (List ℕ)) → flat_map (responder_frame eid) (told_lines n event id taken measured) ≡ []
no_told eid n event id None None = refl
no_told eid n event id None (Some record_bytes) = refl
no_told eid n event id (Some bytes) None = refl
no_told eid n event id (Some bytes) (Some record_bytes) = refl
