-- The responder is followed through a world.
use Rattle.std.proofs.Common.{◌≡◌, ◌≢◌, ◌==◌, ◌∙◌, ℕ, List, [], ◌∷◌, ◌++◌, nat_lt, Bool, true, false, cond, find, flat_map, length, slice_index, Option, Some, None, refl, sym, ap, subst, eqb-true}
use Rattle.std.proofs.lemmas.Bool.{eqb-false}
use Rattle.std.proofs.lemmas.Grind.{flat_map-append}
use Rattle.frame_stream.specs.Packets.{packet_frames}
use Rattle.requester_machine.proofs.SetUpKept.{given_setup, told_setup}
use Rattle.requester_machine.specs.Message.{Command}
use Rattle.requester_machine.specs.Requesting.{Requesting, requester_given, requester_told}
use Rattle.requester_machine.specs.Setup.{ReqSetup}
use Rattle.responder_machine.specs.Responding.{Responding, responder_hears, ticks}
use Rattle.spdm_machine.proofs.Members.{IsIn, found_in}
use Rattle.spdm_machine.specs.TagLog.{Log}
use Rattle.stream_laws.proofs.Addressed.{for_end, for_other, short_for_nobody}
use Rattle.stream_laws.proofs.Answering.{HasEnds, hears_well, ticks_well}
use Rattle.stream_laws.proofs.Asking.{given_sends, told_sends}
use Rattle.stream_laws.proofs.Bytes.{IsOther, IsOwn}
use Rattle.stream_laws.proofs.Events.{Keeps}
use Rattle.stream_laws.proofs.Following.{Doing, Follows, Goes, goes_by_other, goes_by_own}
use Rattle.stream_laws.proofs.Lines.{ends_none, heard_lines, no_told, other_packets, own_packets, responder_shows, told_lines}
use Rattle.stream_laws.proofs.Requesters.{ends_stay, is_one}
use Rattle.stream_laws.specs.Coming.{Coming, is_for_responder, is_packet_for}
use Rattle.stream_laws.specs.Coming.Coming.{Tells, Gives, Passes}
use Rattle.stream_laws.specs.Laws.{QueuesNothing}
use Rattle.stream_laws.specs.Traces.{responder_frame}
use Rattle.world_machine.specs.World.{SentPacket, World, given, given_to, given_to_requester, given_to_responder, id_in_event, is_at, number_at, packet_lines, requester_of, rests, told, told_by, with_requester, with_sent}

-- No requester of the world has its endpoint.
pub record IsServing (eid : ℕ) (r : Responding) (world : World) : Type 0 where
  pub is : world.responder ≡ r
  pub ends : HasEnds (IsOwn eid) eid r
  pub others : (b : Requesting) → IsIn world.requesters b → b.setup.eid ≢ eid

-- What it does of what comes to it.
abbrev pub does : Responding → Coming → Doing Responding
does r (Tells n command) = record { written = []; after = r }
does r (Gives packet) = record { written = packet_frames (responder_hears r packet).sent; after = (responder_hears r packet).after }
does r (Passes seconds) = record { written = []; after = ticks r seconds }

abbrev pub answering : ℕ → Follows
answering eid = record { State = Responding; does = does; mine = is_for_responder eid; own = responder_frame eid; Stands = IsServing eid }

module _ (eid : ℕ) (r : Responding) (world : World) (h : IsServing eid r world) where
  -- ---- The world behind a step.

  -- The responder went on.
  own_next : (new : Responding) → HasEnds (IsOwn eid) eid new → (sent : List SentPacket) (log : Log) → IsServing eid new (record { requesters = world.requesters; responder = new; sent = sent; log = log })
  own_next new ends sent log = record { is = refl; ends = ends; others = h.others }

  -- A requester did.
  other_next : (b : Requesting) → IsIn world.requesters b → (new : Requesting) → new.setup ≡ b.setup → (sent : List SentPacket) (log : Log)
      → IsServing eid r (record { requesters = with_requester new world.requesters; responder = world.responder; sent = sent; log = log })
  other_next b m new same sent log = record {
    is = h.is;
    ends = h.ends;
    others = ends_stay (IsOther eid) new world.requesters (λ e. h.others b m (sym (ap (λ (s : ReqSetup). s.eid) same) ∙ e)) h.others;
  }

  -- ---- A command.

  told_by_requester : (n : ℕ) (command : Command) (o : Option Requesting) → requester_of n world ≡ o → Goes (answering eid) r (Tells n command ∷ []) (told world n command o)
  told_by_requester n command None e = goes_by_other (answering eid) r (Tells n command) (rests world) refl refl h
  told_by_requester n command (Some b) e =
      let step = requester_told b command in
      let m = is_one n world b e in
      goes_by_other (answering eid) r (Tells n command) (told_by world n step) refl
      (other_packets eid (responder_frame eid) (responder_shows eid) (length world.sent) step.sent (told_sends (IsOther eid) b (h.others b m) command))
      (other_next b m step.after (told_setup b command) (with_sent world.sent step.sent) (step.acts ++ world.log))

  pub told_goes : (n : ℕ) (command : Command) → Goes (answering eid) r (Tells n command ∷ []) (told world n command (requester_of n world))
  told_goes n command = told_by_requester n command (requester_of n world) refl

  -- ---- A packet.

  given_own : (packet : List ℕ) → is_packet_for eid packet ≡ true → Goes (answering eid) r (Gives packet ∷ []) (given_to_responder world packet (responder_hears r packet))
  given_own packet mine =
      let step = responder_hears r packet in
      let well = hears_well (IsOwn eid) eid r h.ends packet in
      goes_by_own (answering eid) r (Gives packet) (given_to_responder world packet step) mine
      (heard_lines eid (responder_frame eid) (responder_shows eid) step.heard (number_at (slice_index packet 2) world) step.taken (packet_lines (length world.sent) step.sent)
      ∙ own_packets eid (responder_frame eid) (responder_shows eid) (length world.sent) step.sent well.sent)
      (own_next step.after well.after (with_sent world.sent step.sent) (step.acts ++ world.log))

  given_found : (packet : List ℕ) → is_packet_for eid packet ≡ false → (o : Option Requesting) → find (is_at (slice_index packet 1)) world.requesters ≡ o → Goes (answering eid) r (Gives packet ∷ []) (given_to world packet o)
  given_found packet other None e = goes_by_other (answering eid) r (Gives packet) (given_to world packet None) other refl h
  given_found packet other (Some b) e =
      let step = requester_given b packet in
      let n = number_at b.setup.eid world in
      let m = (found_in (is_at (slice_index packet 1)) world.requesters b e).0 in
      goes_by_other (answering eid) r (Gives packet) (given_to_requester world n step) other
      (flat_map-append (responder_frame eid) (told_lines n step.event (id_in_event step.event) step.taken step.measured) (packet_lines (length world.sent) step.sent)
      ∙ ap (λ (front : List ℕ). front ++ flat_map (responder_frame eid) (packet_lines (length world.sent) step.sent)) (no_told eid n step.event (id_in_event step.event) step.taken step.measured)
      ∙ other_packets eid (responder_frame eid) (responder_shows eid) (length world.sent) step.sent (given_sends (IsOther eid) b (h.others b m) packet))
      (other_next b m step.after (given_setup b packet) (with_sent world.sent step.sent) (step.acts ++ world.log))

  same_end : world.responder.part.eid ≡ eid
  same_end = ap (λ (x : Responding). x.part.eid) h.is ∙ h.ends.part

  given_by_end : (packet : List ℕ) → nat_lt (length packet) 2 ≡ false → (b : Bool) → (slice_index packet 1 == world.responder.part.eid) ≡ b
      → Goes (answering eid) r (Gives packet ∷ []) (cond b (given_to_responder world packet (responder_hears world.responder packet)) (given_to world packet (find (is_at (slice_index packet 1)) world.requesters)))
  given_by_end packet long true e =
      subst (λ (x : Responding). Goes (answering eid) r (Gives packet ∷ []) (given_to_responder world packet (responder_hears x packet))) (sym h.is)
      (given_own packet (for_end eid packet long (eqb-true (slice_index packet 1) world.responder.part.eid e ∙ same_end)))
  given_by_end packet long false e =
      given_found packet (for_other eid packet long (λ same. eqb-false (slice_index packet 1) world.responder.part.eid e (same ∙ sym same_end))) (find (is_at (slice_index packet 1)) world.requesters) refl

  given_by_length : (packet : List ℕ) (short : Bool) → nat_lt (length packet) 2 ≡ short
      → Goes (answering eid) r (Gives packet ∷ []) (cond short (given_to world packet None)
      (cond (slice_index packet 1 == world.responder.part.eid) (given_to_responder world packet (responder_hears world.responder packet)) (given_to world packet (find (is_at (slice_index packet 1)) world.requesters))))
  given_by_length packet true e = goes_by_other (answering eid) r (Gives packet) (given_to world packet None) (short_for_nobody eid packet e) refl h
  given_by_length packet false e = given_by_end packet e (slice_index packet 1 == world.responder.part.eid) refl

  pub given_goes : (packet : List ℕ) → Goes (answering eid) r (Gives packet ∷ []) (given world packet)
  given_goes packet = given_by_length packet (nat_lt (length packet) 2) refl

  -- ---- Time.

  pub passed_goes : (seconds : ℕ) → Goes (answering eid) r (Passes seconds ∷ []) (rests (record world { responder = ticks world.responder seconds }))
  passed_goes seconds =
      goes_by_own (answering eid) r (Passes seconds) (rests (record world { responder = ticks world.responder seconds })) refl refl
      (record { is = ap (λ (x : Responding). ticks x seconds) h.is; ends = ticks_well (IsOwn eid) eid r h.ends seconds; others = h.others })

pub responder_keeps : (eid : ℕ) → Keeps (answering eid) QueuesNothing
responder_keeps eid = record {
  told = λ r world n command h. told_goes eid r world h n command;
  given = λ r world packet h. given_goes eid r world h packet;
  passed = λ r world seconds h. passed_goes eid r world h seconds;
  queued = λ r world n bytes may h. absurd may;
  sent = λ r world packets h. record { is = h.is; ends = h.ends; others = h.others };
  at = λ number. refl;
  none = λ number. refl;
  shown = λ world. ends_none eid (responder_frame eid) (responder_shows eid) world.responder 1 world.requesters;
}
