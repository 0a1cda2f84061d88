-- What a step of a world leads to at a device.
use Rattle.std.proofs.Common.{◌≡◌, ◌≢◌, ◌==◌, ◌∙◌, ◌+◌, ℕ, List, [], ◌∷◌, ◌++◌, map, nat_lt, Bool, true, false, cond, find, length, slice_index, Option, Some, None, refl, sym, ap, subst, eqb-true, eq-eqb}
use Rattle.std.proofs.lemmas.Bool.{false≢true, ne_eqb}
use Rattle.std.proofs.lemmas.Grind.{flat_map-append}
use Rattle.device_serve.specs.Devised.{Writing, number_in}
use Rattle.device_serve.specs.Devised.Writing.{Sends, Tells}
use Rattle.requester_machine.specs.Message.{Command}
use Rattle.requester_machine.specs.Requesting.{Requesting, requester_given, requester_told}
use Rattle.responder_machine.specs.EndLaws.{source_of}
use Rattle.responder_machine.specs.Responding.{Responding, connection_of, queues, reply_fault_of, responder_hears, ticks}
use Rattle.script_text.specs.declared.configuration.config.ScriptConfig.{ScriptConfig}
use Rattle.spdm_basis.specs.declared.values.session_id.SessionId.{SessionId}
use Rattle.spdm_grammar.specs.Lines.{Line}
use Rattle.spdm_grammar.specs.declared.told.event.Event.{Event}
use Rattle.spdm_machine.proofs.Members.{IsIn, found_in}
use Rattle.stream_laws.proofs.Addressed.{for_end, names_end}
use Rattle.stream_laws.proofs.Answering.{hears_well, queues_well}
use Rattle.stream_laws.proofs.Asking.{given_sends, told_sends}
use Rattle.stream_laws.proofs.Bytes.{AreSent, IsOther, IsOwn}
use Rattle.stream_laws.proofs.Following.{after_all}
use Rattle.stream_laws.proofs.Lines.{told_lines}
use Rattle.stream_laws.proofs.Numbers.{eids_stay, numbers_same, own_eid, part_eid, requester_found}
use Rattle.stream_laws.proofs.Peers.{ArePeers, hears_keep, queues_keep, ticks_keep}
use Rattle.stream_laws.proofs.Requesters.{is_one}
use Rattle.stream_laws.proofs.ResponderGoes.{IsServing, answering, given_goes, passed_goes, told_goes}
use Rattle.stream_laws.specs.Coming.{is_packet_for}
use Rattle.stream_laws.specs.Coming.Coming.{Gives}
use Rattle.stream_laws.specs.Devices.{data_brought, device_line, device_lines, own_sent}
use Rattle.world_machine.specs.World.{World, WorldStep, given, given_to, given_to_responder, id_in_event, is_at, number_at, packet_lines, replied, replied_by, requester_of, rests, taken_lines, told}

-- The responder of the world is this one, and the requesters are those of the configuration.
pub record InWorld (c : ScriptConfig) (r : Responding) (world : World) : Type 0 where
  pub serving : IsServing c.responder.eid.number r world
  pub eids : map own_eid world.requesters ≡ map part_eid c.requesters
  pub peers : ArePeers (IsIn (map part_eid c.requesters)) r

-- These are the lines of a step that are of the device, and so the responder stands behind it.
pub record Leads (c : ScriptConfig) (step : WorldStep) (own : List Writing) (after : Responding) : Type 0 where
  pub lines : device_lines c.responder.eid.number step.lines ≡ own
  pub stands : InWorld c after step.after

-- ---- Lines.

own_packet : (eid : ℕ) (packet : List ℕ) → slice_index packet 2 ≡ eid → own_sent eid packet ≡ Sends packet ∷ []
own_packet eid packet e = ap (λ (b : Bool). cond b (Sends packet ∷ []) []) (eq-eqb (slice_index packet 2) eid e)

other_packet : (eid : ℕ) (packet : List ℕ) → slice_index packet 2 ≢ eid → own_sent eid packet ≡ []
other_packet eid packet e = ap (λ (b : Bool). cond b (Sends packet ∷ []) []) (ne_eqb (slice_index packet 2) eid e)

own_packets : (eid count : ℕ) (packets : List (List ℕ)) → AreSent (IsOwn eid) packets → device_lines eid (packet_lines count packets) ≡ map Sends packets
own_packets eid count [] are = refl
own_packets eid count (packet ∷ others) are =
    ap (λ (front : List Writing). front ++ device_lines eid (packet_lines (count + 1) others)) (own_packet eid packet are.0)
    ∙ ap (λ (rest : List Writing). Sends packet ∷ rest) (own_packets eid (count + 1) others are.1)

other_packets : (eid count : ℕ) (packets : List (List ℕ)) → AreSent (IsOther eid) packets → device_lines eid (packet_lines count packets) ≡ []
other_packets eid count [] are = refl
other_packets eid count (packet ∷ others) are =
    ap (λ (front : List Writing). front ++ device_lines eid (packet_lines (count + 1) others)) (other_packet eid packet are.0)
    ∙ other_packets eid (count + 1) others are.1

no_told : (eid n : ℕ) (event : Event) (id : SessionId) (taken measured : Option (List ℕ)) → device_lines eid (told_lines n event id taken measured) ≡ []
no_told eid n event id None None = refl
no_told eid n event id None (Some record_bytes) = refl
no_told eid n event id (Some bytes) None = refl
no_told eid n event id (Some bytes) (Some record_bytes) = refl

taken_told : (eid n : ℕ) (taken : Option (SessionId × List ℕ)) → device_lines eid (taken_lines n taken) ≡ data_brought n taken
taken_told eid n None = refl
taken_told eid n (Some taken) = refl

-- What a packet leads to that is given to the responder.
abbrev pub heard_own : ScriptConfig → Responding → List ℕ → List Writing
heard_own c r packet =
    Tells (Line.ToResponder (responder_hears r packet).heard) ∷ data_brought (number_in c (source_of packet)) (responder_hears r packet).taken ++ map Sends (responder_hears r packet).sent

module _ (c : ScriptConfig) (r : Responding) (world : World) (h : InWorld c r world) where
  abbrev eid : ℕ
  eid = c.responder.eid.number

  abbrev IsPeer : ℕ → Type 0
  IsPeer = IsIn (map part_eid c.requesters)

  -- ---- A step of a requester, or of nobody.

  record Aside (step : WorldStep) : Type 0 where
    lines : device_lines eid step.lines ≡ []
    eids : map own_eid step.after.requesters ≡ map part_eid c.requesters

  told_aside : (n : ℕ) (command : Command) (o : Option Requesting) → requester_of n world ≡ o → Aside (told world n command o)
  told_aside n command None e = record { lines = refl; eids = h.eids }
  told_aside n command (Some b) e =
      let step = requester_told b command in record {
        lines = other_packets eid (length world.sent) step.sent (told_sends (IsOther eid) b (h.serving.others b (is_one n world b e)) command);
        eids = eids_stay step.after world.requesters ∙ h.eids;
      }

  given_aside : (packet : List ℕ) (o : Option Requesting) → find (is_at (slice_index packet 1)) world.requesters ≡ o → Aside (given_to world packet o)
  given_aside packet None e = record { lines = refl; eids = h.eids }
  given_aside packet (Some b) e =
      let step = requester_given b packet in
      let n = number_at b.setup.eid world in
      let m = (found_in (is_at (slice_index packet 1)) world.requesters b e).0 in record {
        lines = flat_map-append (device_line eid) (told_lines n step.event (id_in_event step.event) step.taken step.measured) (packet_lines (length world.sent) step.sent)
            ∙ ap (λ (front : List Writing). front ++ device_lines eid (packet_lines (length world.sent) step.sent)) (no_told eid n step.event (id_in_event step.event) step.taken step.measured)
            ∙ other_packets eid (length world.sent) step.sent (given_sends (IsOther eid) b (h.serving.others b m) packet);
        eids = eids_stay step.after world.requesters ∙ h.eids;
      }

  same_end : world.responder.part.eid ≡ eid
  same_end = ap (λ (x : Responding). x.part.eid) h.serving.is ∙ h.serving.ends.part

  by_end : (packet : List ℕ) → is_packet_for eid packet ≡ false → nat_lt (length packet) 2 ≡ false → (b : Bool) → (slice_index packet 1 == world.responder.part.eid) ≡ b
      → Aside (cond b (given_to_responder world packet (responder_hears world.responder packet)) (given_to world packet (find (is_at (slice_index packet 1)) world.requesters)))
  by_end packet other long true e = absurd (false≢true (sym other ∙ for_end eid packet long (eqb-true (slice_index packet 1) world.responder.part.eid e ∙ same_end)))
  by_end packet other long false e = given_aside packet (find (is_at (slice_index packet 1)) world.requesters) refl

  by_size : (packet : List ℕ) → is_packet_for eid packet ≡ false → (short : Bool) → nat_lt (length packet) 2 ≡ short
      → Aside (cond short (given_to world packet None)
      (cond (slice_index packet 1 == world.responder.part.eid) (given_to_responder world packet (responder_hears world.responder packet)) (given_to world packet (find (is_at (slice_index packet 1)) world.requesters))))
  by_size packet other true e = record { lines = refl; eids = h.eids }
  by_size packet other false e = by_end packet other e (slice_index packet 1 == world.responder.part.eid) refl

  pub told_leads : (n : ℕ) (command : Command) → Leads c (told world n command (requester_of n world)) [] r
  told_leads n command =
      let step = told world n command (requester_of n world) in
      let aside = told_aside n command (requester_of n world) refl in record {
        lines = aside.lines;
        stands = record { serving = (told_goes eid r world h.serving n command).after; eids = aside.eids; peers = h.peers };
      }

  served_after : (packet : List ℕ) (b : Bool) → is_packet_for eid packet ≡ b → IsServing eid (after_all (answering eid) r (cond b (Gives packet ∷ []) [])) (given world packet).after
  served_after packet b e =
      subst (λ (x : Bool). IsServing eid (after_all (answering eid) r (cond x (Gives packet ∷ []) [])) (given world packet).after) e (given_goes eid r world h.serving packet).after

  -- A packet for another end.
  pub other_leads : (packet : List ℕ) → is_packet_for eid packet ≡ false → Leads c (given world packet) [] r
  other_leads packet other =
      let aside = by_size packet other (nat_lt (length packet) 2) refl in record {
        lines = aside.lines;
        stands = record { serving = served_after packet false other; eids = aside.eids; peers = h.peers };
      }

  -- ---- A packet for the responder.

  own_given : (packet : List ℕ) → is_packet_for eid packet ≡ true → given world packet ≡ given_to_responder world packet (responder_hears r packet)
  own_given packet mine =
      let names = names_end eid packet mine in
      let own : Responding → WorldStep = λ x. given_to_responder world packet (responder_hears x packet) in
      let other = given_to world packet (find (is_at (slice_index packet 1)) world.requesters) in
      ap (λ (b : Bool). cond b (given_to world packet None) (cond (slice_index packet 1 == world.responder.part.eid) (own world.responder) other)) names.0
      ∙ ap (λ (b : Bool). cond b (own world.responder) other) (eq-eqb (slice_index packet 1) world.responder.part.eid (names.1 ∙ sym same_end))
      ∙ ap own h.serving.is

  own_lines : (packet : List ℕ) → device_lines eid (given_to_responder world packet (responder_hears r packet)).lines ≡ heard_own c r packet
  own_lines packet =
      let step = responder_hears r packet in
      let n = number_at (slice_index packet 2) world in
      let packets = packet_lines (length world.sent) step.sent in
      let told = Tells (Line.ToResponder step.heard) in
      ap (λ (rest : List Writing). told ∷ rest)
      (flat_map-append (device_line eid) (taken_lines n step.taken) packets
      ∙ ap (λ (front : List Writing). front ++ device_lines eid packets) (taken_told eid n step.taken)
      ∙ ap (λ (number : ℕ). data_brought number step.taken ++ device_lines eid packets) (numbers_same c world (slice_index packet 2) h.eids)
      ∙ ap (λ (rest : List Writing). data_brought (number_in c (source_of packet)) step.taken ++ rest) (own_packets eid (length world.sent) step.sent (hears_well (IsOwn eid) eid r h.serving.ends packet).sent))

  pub own_leads : (packet : List ℕ) → is_packet_for eid packet ≡ true → Leads c (given world packet) (heard_own c r packet) (responder_hears r packet).after
  own_leads packet mine =
      let same = own_given packet mine in record {
        lines = ap (λ (step : WorldStep). device_lines eid step.lines) same ∙ own_lines packet;
        stands = record {
          serving = served_after packet true mine;
          eids = ap (λ (step : WorldStep). map own_eid step.after.requesters) same ∙ h.eids;
          peers = hears_keep IsPeer r h.peers packet;
        };
      }

  -- ---- Time, and queued data.

  pub passed_leads : (seconds : ℕ) → Leads c (rests (record world { responder = ticks world.responder seconds })) [] (ticks r seconds)
  passed_leads seconds = record {
    lines = refl;
    stands = record { serving = (passed_goes eid r world h.serving seconds).after; eids = h.eids; peers = ticks_keep IsPeer r h.peers seconds };
  }

  pub replied_leads : (peer : ℕ) (bytes : List ℕ) → IsPeer peer
      → Leads c (replied world bytes (requester_of (number_in c peer) world)) (Tells (Line.Reply (reply_fault_of (connection_of peer r.connections) bytes)) ∷ []) (queues (reply_fault_of (connection_of peer r.connections) bytes) r peer bytes)
  replied_leads peer bytes is =
      let f = requester_found c world peer h.eids is in
      let fault = reply_fault_of (connection_of peer r.connections) bytes in
      let own : Responding → WorldStep = λ x. record { lines = Line.Reply (reply_fault_of (connection_of peer x.connections) bytes) ∷ []; after = record world { responder = queues (reply_fault_of (connection_of peer x.connections) bytes) x peer bytes } } in
      let same : replied world bytes (requester_of (number_in c peer) world) ≡ own r = ap (replied world bytes) f.is ∙ ap (λ (e : ℕ). replied_by world e bytes (connection_of e world.responder.connections)) f.own ∙ ap own h.serving.is in
      subst (λ (step : WorldStep). Leads c step (Tells (Line.Reply fault) ∷ []) (queues fault r peer bytes)) (sym same) (record {
        lines = refl;
        stands = record {
          serving = record { is = refl; ends = queues_well (IsOwn eid) eid r h.serving.ends fault peer bytes; others = h.serving.others };
          eids = h.eids;
          peers = queues_keep IsPeer r h.peers fault peer bytes;
        };
      })
