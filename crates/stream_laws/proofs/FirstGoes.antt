-- Requester 1 is followed through a world.
use Rattle.std.proofs.Common.{◌≡◌, ◌≢◌, ◌==◌, ◌∙◌, ℕ, zero, suc, List, [], ◌∷◌, ◌++◌, nat_lt, Bool, true, false, cond, find, flat_map, length, slice_index, Option, Some, None, refl, sym, ap, subst, eqb-true, eq-eqb, arith}
use Rattle.std.proofs.lemmas.Bool.{eqb-false, ne_eqb}
use Rattle.std.proofs.lemmas.Grind.{flat_map-append}
use Rattle.std.proofs.lemmas.List.{append-nil}
use Rattle.frame_stream.specs.Packets.{packet_frames}
use Rattle.requester_drive.specs.Driven.{driven_by_command, driven_by_packet, line_frame, line_frames}
use Rattle.requester_machine.proofs.SetUpKept.{given_setup, told_setup}
use Rattle.requester_machine.specs.Message.{Command}
use Rattle.requester_machine.specs.Requesting.{Requesting, requester_given, requester_told}
use Rattle.requester_machine.specs.Setup.{ReqSetup}
use Rattle.responder_machine.specs.Responding.{Responding, connection_of, queues, reply_fault_of, responder_hears, ticks}
use Rattle.spdm_grammar.specs.Lines.{Line}
use Rattle.spdm_machine.proofs.Members.{IsIn, found_in}
use Rattle.spdm_machine.specs.TagLog.{Log}
use Rattle.stream_laws.proofs.Addressed.{for_end, for_other, short_for_nobody}
use Rattle.stream_laws.proofs.Answering.{HasEnds, hears_well, queues_well, ticks_well}
use Rattle.stream_laws.proofs.Asking.{given_sends, told_sends}
use Rattle.stream_laws.proofs.Bytes.{IsOther, IsOwn}
use Rattle.stream_laws.proofs.Events.{Keeps}
use Rattle.stream_laws.proofs.Following.{Doing, Follows, Goes, goes_behind, goes_by_other, goes_by_own, goes_nowhere}
use Rattle.stream_laws.proofs.Lines.{ends_none, first_shows, first_told, heard_lines, other_line, other_packets, other_told, own_packets, told_lines}
use Rattle.stream_laws.proofs.Requesters.{ends_stay, number_behind, others_stay, replaced_other, replaced_own, stands_at}
use Rattle.stream_laws.specs.Coming.{Coming, is_for_first, is_packet_for}
use Rattle.stream_laws.specs.Coming.Coming.{Tells, Gives, Passes}
use Rattle.stream_laws.specs.Traces.{first_frame}
use Rattle.world_machine.specs.Happenings.{Happening}
use Rattle.world_machine.specs.World.{SentPacket, World, given, given_to, given_to_requester, given_to_responder, id_in_event, is_at, number_at, number_from, packet_lines, replied, requester_at, requester_of, rests, told, told_by, with_requester, with_sent}

-- It stands in front, and no other end of the world has its endpoint.
pub record IsFirst (eid : ℕ) (a : Requesting) (world : World) : Type 0 where
  pub others : List Requesting
  pub is : world.requesters ≡ a ∷ others
  pub own : a.setup.eid ≡ eid
  pub apart : (b : Requesting) → IsIn others b → b.setup.eid ≢ eid
  pub answers : ℕ
  pub responder : HasEnds (IsOther eid) answers world.responder
  pub differs : answers ≢ eid

-- What it does of what comes to it.
abbrev pub does : Requesting → Coming → Doing Requesting
does a (Tells n command) = (let driving = driven_by_command (requester_told a command) in record { written = driving.written; after = driving.after })
does a (Gives packet) = (let driving = driven_by_packet (requester_given a packet) in record { written = driving.written; after = driving.after })
does a (Passes seconds) = record { written = []; after = a }

abbrev pub first : ℕ → Follows
first eid = record { State = Requesting; does = does; mine = is_for_first eid; own = first_frame eid; Stands = IsFirst eid }

module _ (eid : ℕ) (a : Requesting) (world : World) (h : IsFirst eid a world) where
  abbrev lines_of : List Line → List ℕ
  lines_of lines = flat_map (first_frame eid) lines

  -- ---- The world behind a step.

  -- The requester went on.
  own_next : (new : Requesting) → new.setup ≡ a.setup → (sent : List SentPacket) (log : Log) → IsFirst eid new (record { requesters = with_requester new world.requesters; responder = world.responder; sent = sent; log = log })
  own_next new same sent log =
      let end : new.setup.eid ≡ a.setup.eid = ap (λ (s : ReqSetup). s.eid) same in record {
        others = h.others;
        is = ap (with_requester new) h.is
            ∙ ap (λ (x : Requesting). x ∷ with_requester new h.others) (replaced_own new a (sym end))
            ∙ ap (λ (rest : List Requesting). new ∷ rest) (others_stay new h.others (λ b m e. h.apart b m (e ∙ end ∙ h.own)));
        own = end ∙ h.own;
        apart = h.apart;
        answers = h.answers;
        responder = h.responder;
        differs = h.differs;
      }

  -- Another did.
  other_next : (b : Requesting) → IsIn h.others b → (new : Requesting) → new.setup ≡ b.setup → (sent : List SentPacket) (log : Log)
      → IsFirst eid a (record { requesters = with_requester new world.requesters; responder = world.responder; sent = sent; log = log })
  other_next b m new same sent log =
      let differ : new.setup.eid ≢ eid = λ e. h.apart b m (sym (ap (λ (s : ReqSetup). s.eid) same) ∙ e) in record {
        others = with_requester new h.others;
        is = ap (with_requester new) h.is ∙ ap (λ (x : Requesting). x ∷ with_requester new h.others) (replaced_other new a (λ e. differ (sym e ∙ h.own)));
        own = h.own;
        apart = ends_stay (IsOther eid) new h.others differ h.apart;
        answers = h.answers;
        responder = h.responder;
        differs = h.differs;
      }

  -- The responder did.
  responder_next : (r : Responding) → HasEnds (IsOther eid) h.answers r → (sent : List SentPacket) (log : Log) → IsFirst eid a (record { requesters = world.requesters; responder = r; sent = sent; log = log })
  responder_next r ends sent log = record { others = h.others; is = h.is; own = h.own; apart = h.apart; answers = h.answers; responder = ends; differs = h.differs }

  -- ---- A command.

  told_own : (command : Command) → Goes (first eid) a (Tells 1 command ∷ []) (told world 1 command (Some a))
  told_own command =
      let step = requester_told a command in
      let line = line_frame (Line.Command 1 step.fault) in
      goes_by_own (first eid) a (Tells 1 command) (told_by world 1 step) refl
      (ap (λ (rest : List ℕ). line ++ rest) (own_packets eid (first_frame eid) (first_shows eid) (length world.sent) step.sent (told_sends (IsOwn eid) a h.own command))
      ∙ ap (λ (front : List ℕ). front ++ packet_frames step.sent) (sym (append-nil line)))
      (own_next step.after (told_setup a command) (with_sent world.sent step.sent) (step.acts ++ world.log))

  told_other : (n : ℕ) → n ≢ 1 → (command : Command) (b : Requesting) → IsIn h.others b → Goes (first eid) a (Tells n command ∷ []) (told world n command (Some b))
  told_other n differ command b m =
      let step = requester_told b command in
      goes_by_other (first eid) a (Tells n command) (told_by world n step) (ne_eqb n 1 differ)
      (other_line eid n differ (Line.Command n step.fault) (packet_lines (length world.sent) step.sent) refl
      ∙ other_packets eid (first_frame eid) (first_shows eid) (length world.sent) step.sent (told_sends (IsOther eid) b (h.apart b m) command))
      (other_next b m step.after (told_setup b command) (with_sent world.sent step.sent) (step.acts ++ world.log))

  told_found : (n : ℕ) → n ≢ 1 → (command : Command) (place : ℕ) (o : Option Requesting) → requester_at place h.others ≡ o → Goes (first eid) a (Tells n command ∷ []) (told world n command o)
  told_found n differ command place None e = goes_by_other (first eid) a (Tells n command) (rests world) (ne_eqb n 1 differ) refl h
  told_found n differ command place (Some b) e = told_other n differ command b (stands_at place h.others b e)

  pub told_goes : (n : ℕ) (command : Command) → Goes (first eid) a (Tells n command ∷ []) (told world n command (requester_of n world))
  told_goes zero command = goes_by_other (first eid) a (Tells zero command) (rests world) refl refl h
  told_goes (suc zero) command = subst (λ (o : Option Requesting). Goes (first eid) a (Tells 1 command ∷ []) (told world 1 command o)) (sym (ap (requester_at 0) h.is)) (told_own command)
  told_goes (suc (suc place)) command =
      let n : ℕ = suc (suc place) in
      subst (λ (o : Option Requesting). Goes (first eid) a (Tells n command ∷ []) (told world n command o)) (sym (ap (requester_at (suc place)) h.is))
      (told_found n (λ e. omega (arith, e)) command place (requester_at place h.others) refl)

  -- ---- A packet.

  nobody_goes : (packet : List ℕ) → is_packet_for eid packet ≡ false → Goes (first eid) a (Gives packet ∷ []) (given_to world packet None)
  nobody_goes packet other = goes_by_other (first eid) a (Gives packet) (given_to world packet None) other refl h

  given_own : (packet : List ℕ) → is_packet_for eid packet ≡ true → Goes (first eid) a (Gives packet ∷ []) (given_to_requester world 1 (requester_given a packet))
  given_own packet mine =
      let step = requester_given a packet in
      let lines = told_lines 1 step.event (id_in_event step.event) step.taken step.measured in
      goes_by_own (first eid) a (Gives packet) (given_to_requester world 1 step) mine
      (flat_map-append (first_frame eid) lines (packet_lines (length world.sent) step.sent)
      ∙ ap (λ (front : List ℕ). front ++ lines_of (packet_lines (length world.sent) step.sent)) (first_told eid step.event (id_in_event step.event) step.taken step.measured)
      ∙ ap (λ (rest : List ℕ). line_frames lines ++ rest) (own_packets eid (first_frame eid) (first_shows eid) (length world.sent) step.sent (given_sends (IsOwn eid) a h.own packet)))
      (own_next step.after (given_setup a packet) (with_sent world.sent step.sent) (step.acts ++ world.log))

  given_other : (packet : List ℕ) → is_packet_for eid packet ≡ false → (n : ℕ) → n ≢ 1 → (b : Requesting) → IsIn h.others b → Goes (first eid) a (Gives packet ∷ []) (given_to_requester world n (requester_given b packet))
  given_other packet other n differ b m =
      let step = requester_given b packet in
      let lines = told_lines n step.event (id_in_event step.event) step.taken step.measured in
      goes_by_other (first eid) a (Gives packet) (given_to_requester world n step) other
      (flat_map-append (first_frame eid) lines (packet_lines (length world.sent) step.sent)
      ∙ ap (λ (front : List ℕ). front ++ lines_of (packet_lines (length world.sent) step.sent)) (other_told eid n differ step.event (id_in_event step.event) step.taken step.measured)
      ∙ other_packets eid (first_frame eid) (first_shows eid) (length world.sent) step.sent (given_sends (IsOther eid) b (h.apart b m) packet))
      (other_next b m step.after (given_setup b packet) (with_sent world.sent step.sent) (step.acts ++ world.log))

  own_number : number_at a.setup.eid world ≡ 1
  own_number =
      ap (number_from 1 a.setup.eid) h.is
      ∙ ap (λ (b : Bool). cond b 1 (number_from 2 a.setup.eid h.others)) (eq-eqb a.setup.eid a.setup.eid refl)

  other_number : (b : Requesting) → IsIn h.others b → number_at b.setup.eid world ≢ 1
  other_number b m e =
      number_behind 2 b.setup.eid h.others (omega arith)
      (sym (ap (number_from 1 b.setup.eid) h.is ∙ ap (λ (c : Bool). cond c 1 (number_from 2 b.setup.eid h.others)) (ne_eqb a.setup.eid b.setup.eid (λ same. h.apart b m (sym same ∙ h.own)))) ∙ e)

  given_found : (packet : List ℕ) → is_packet_for eid packet ≡ false → (o : Option Requesting) → find (is_at (slice_index packet 1)) h.others ≡ o → Goes (first eid) a (Gives packet ∷ []) (given_to world packet o)
  given_found packet other None e = nobody_goes packet other
  given_found packet other (Some b) e = (let m = (found_in (is_at (slice_index packet 1)) h.others b e).0 in given_other packet other (number_at b.setup.eid world) (other_number b m) b m)

  -- It is not for the responder.
  given_first : (packet : List ℕ) → nat_lt (length packet) 2 ≡ false → (b : Bool) → is_at (slice_index packet 1) a ≡ b → Goes (first eid) a (Gives packet ∷ []) (given_to world packet (cond b (Some a) (find (is_at (slice_index packet 1)) h.others)))
  given_first packet long true e =
      subst (λ (n : ℕ). Goes (first eid) a (Gives packet ∷ []) (given_to_requester world n (requester_given a packet))) (sym own_number)
      (given_own packet (for_end eid packet long (sym (eqb-true a.setup.eid (slice_index packet 1) e) ∙ h.own)))
  given_first packet long false e =
      given_found packet (for_other eid packet long (λ same. eqb-false a.setup.eid (slice_index packet 1) e (h.own ∙ sym same))) (find (is_at (slice_index packet 1)) h.others) refl

  given_responder : (packet : List ℕ) → is_packet_for eid packet ≡ false → Goes (first eid) a (Gives packet ∷ []) (given_to_responder world packet (responder_hears world.responder packet))
  given_responder packet other =
      let step = responder_hears world.responder packet in
      let well = hears_well (IsOther eid) h.answers world.responder h.responder packet in
      goes_by_other (first eid) a (Gives packet) (given_to_responder world packet step) other
      (heard_lines eid (first_frame eid) (first_shows eid) step.heard (number_at (slice_index packet 2) world) step.taken (packet_lines (length world.sent) step.sent)
      ∙ other_packets eid (first_frame eid) (first_shows eid) (length world.sent) step.sent well.sent)
      (responder_next step.after well.after (with_sent world.sent step.sent) (step.acts ++ world.log))

  given_by_end : (packet : List ℕ) → nat_lt (length packet) 2 ≡ false → (b : Bool) → (slice_index packet 1 == world.responder.part.eid) ≡ b
      → Goes (first eid) a (Gives packet ∷ []) (cond b (given_to_responder world packet (responder_hears world.responder packet)) (given_to world packet (find (is_at (slice_index packet 1)) world.requesters)))
  given_by_end packet long true e =
      given_responder packet (for_other eid packet long (λ same. h.differs (sym h.responder.part ∙ sym (eqb-true (slice_index packet 1) world.responder.part.eid e) ∙ same)))
  given_by_end packet long false e =
      subst (λ (o : Option Requesting). Goes (first eid) a (Gives packet ∷ []) (given_to world packet o)) (sym (ap (find (is_at (slice_index packet 1))) h.is))
      (given_first packet long (is_at (slice_index packet 1) a) refl)

  given_by_length : (packet : List ℕ) (short : Bool) → nat_lt (length packet) 2 ≡ short
      → Goes (first eid) a (Gives packet ∷ []) (cond short (given_to world packet None)
      (cond (slice_index packet 1 == world.responder.part.eid) (given_to_responder world packet (responder_hears world.responder packet)) (given_to world packet (find (is_at (slice_index packet 1)) world.requesters))))
  given_by_length packet true e = nobody_goes packet (short_for_nobody eid packet e)
  given_by_length packet false e = given_by_end packet e (slice_index packet 1 == world.responder.part.eid) refl

  pub given_goes : (packet : List ℕ) → Goes (first eid) a (Gives packet ∷ []) (given world packet)
  given_goes packet = given_by_length packet (nat_lt (length packet) 2) refl

  -- ---- Queued data and time.

  pub passed_goes : (seconds : ℕ) → Goes (first eid) a (Passes seconds ∷ []) (rests (record world { responder = ticks world.responder seconds }))
  passed_goes seconds =
      goes_by_other (first eid) a (Passes seconds) (rests (record world { responder = ticks world.responder seconds })) refl refl
      (responder_next (ticks world.responder seconds) (ticks_well (IsOther eid) h.answers world.responder h.responder seconds) world.sent world.log)

  pub queued_goes : (bytes : List ℕ) (o : Option Requesting) → Goes (first eid) a [] (replied world bytes o)
  queued_goes bytes None = goes_nowhere (first eid) a world h
  queued_goes bytes (Some b) =
      let fault = reply_fault_of (connection_of b.setup.eid world.responder.connections) bytes in
      let after = queues fault world.responder b.setup.eid bytes in
      goes_behind (first eid) a [] (Line.Reply fault) (rests (record world { responder = after })) refl
      (goes_nowhere (first eid) a (record world { responder = after }) (responder_next after (queues_well (IsOther eid) h.answers world.responder h.responder fault b.setup.eid bytes) world.sent world.log))

-- Any event may be.
abbrev pub Any : Happening → Type 0
Any happening = Unit {0}

pub first_keeps : (eid : ℕ) → Keeps (first eid) Any
first_keeps eid = record {
  told = λ a world n command h. told_goes eid a world h n command;
  given = λ a world packet h. given_goes eid a world h packet;
  passed = λ a world seconds h. passed_goes eid a world h seconds;
  queued = λ a world n bytes may h. queued_goes eid a world h bytes (requester_of n world);
  sent = λ a world packets h. record { others = h.others; is = h.is; own = h.own; apart = h.apart; answers = h.answers; responder = h.responder; differs = h.differs };
  at = λ number. refl;
  none = λ number. refl;
  shown = λ world. ends_none eid (first_frame eid) (first_shows eid) world.responder 1 world.requesters;
}
