-- LargeResponse in answer to a record, while another large response is fetched in its session: what it leads to, and
-- what it leads to where that one was not seen.
use Rattle.std.proofs.Common.{◌≡◌, ◌≤◌, ◌<◌, ◌==◌, ◌&&◌, ◌↔◌, ℕ, List, [], ◌∷◌, refl, sym, ap, ◌∙◌, subst, drop, length, Bool, true, false, Option, Some, None, cond, is_none}
use Rattle.std.specs.Prelude.{not, slice_index}
use Rattle.check_responder.specs.AnswerKeys.{will_take}
use Rattle.check_laws.proofs.LargeShown.{large_is_shown}
use Rattle.check_laws.specs.LargeShown.{IsShownLarge, begun_large, large_shown, whole_of}
use Rattle.check_fetched_laws.specs.LastShown.{IsShownWhole}
use Rattle.responder_machine.specs.Answer.{Free, answer_bytes, request_at}
use Rattle.responder_machine.specs.History.{Entry, History, KeptRecord, ended_of}
use Rattle.responder_machine.specs.History.Entry.{Sealed}
use Rattle.responder_machine.specs.May.{IsAllowed, on_body, place_for}
use Rattle.responder_machine.specs.Place.{clear_place, held_of, is_held, place_terms, session_place}
use Rattle.responder_machine.specs.Records.{opened, opening_fault, reply_record}
use Rattle.responder_machine.specs.Responder.{body_of, inner_reply, repeats, sent_by}
use Rattle.responder_machine.specs.Responder.Outcome.{Adds}
use Rattle.responder_machine.specs.Session.{Events, id_in_record, is_live, last_of, session_negotiation, session_of, stage_of}
use Rattle.responder_machine.specs.Setup.{RspSetup}
use Rattle.responder_machine.specs.Turn.{Turn}
use Rattle.spdm_grammar.specs.Message.RequestMessage.{GetMeasurements}
use Rattle.spdm_basis.specs.declared.causes.record_fault.RecordFault.{RecordFault}
use Rattle.spdm_grammar.specs.declared.names.TheConstants.{MAX_MESSAGE_SIZE}
use Rattle.spdm_grammar.specs.declared.told.phase.Stage.{Stage}
use Rattle.spdm_machine.specs.Bodies.{record_body}
use Rattle.spdm_machine.specs.Sessions.{is_past_handshake, one_if}
use Rattle.spdm_machine.specs.Terms.{hash_len, terms_of}
use Rattle.transcript.specs.Transcripts.{Negotiation}
use Rattle.capture_machine.specs.CapturedAnswers.{MayLeadTo, answer_to, clear_answer, record_answer}
use Rattle.capture_machine.specs.LargeAnswers.{IsLargeAnswer, unseen}
use Rattle.capture_machine.specs.Rounds.{Dialogue, no_draw}
use Rattle.check_fetched_ends.proofs.BeginsThere.{asks_one, big, e0, f0, goes0, its, shown_is}
use Rattle.check_late_laws.proofs.Late.MeasuredTurns.{bytes_are, large_turn}
use Rattle.check_fetched_laws.proofs.RecordTaken.{body_adds}
use Rattle.check_late_laws.proofs.Late.SeenAlike.{SeenAlike, fault_alike, last_alike, live_alike, negotiation_alike, opened_alike, stage_alike}
use Rattle.check_late_laws.proofs.Late.SeenMeasures.{asks_alike, large_alike, reply_alike, turn_alike}
use Rattle.check_fetched_ends.specs.InSession.{IsMeasuredBy}

-- Two histories whose sessions are alike, and in which one record was the last of an ended session.
module _ (g h : History) (all : (i : ℕ) → SeenAlike (session_of i g) (session_of i h)) (ended : ended_of g ≡ ended_of h) where
  held_alike : (i : ℕ) → is_held g i ≡ is_held h i
  held_alike i =
      ap (λ (b : Bool). b && is_past_handshake (stage_of (session_of i g))) (live_alike (session_of i g) (session_of i h) (all i))
      ∙ ap (λ (x : Stage). is_live (session_of i h) && is_past_handshake x) (stage_alike (session_of i g) (session_of i h) (all i))

  count_alike : held_of g ≡ held_of h
  count_alike =
      let one = ap one_if (held_alike 1) in
      let two = ap one_if (held_alike 2) in
      let three = ap one_if (held_alike 3) in
      let four = ap one_if (held_alike 4) in
      cc

  -- The record is taken in both.
  pub will_alike : (r : RspSetup) (body : List ℕ) → will_take r g body ≡ true → will_take r h body ≡ true
  will_alike r body will =
      let m : List ℕ = drop 1 body in
      let s : Events = session_of (id_in_record (drop 1 body)) g in
      let u : Events = session_of (id_in_record (drop 1 body)) h in
      let a : SeenAlike s u = all (id_in_record (drop 1 body)) in
      let last = last_alike s u a in
      let live = live_alike s u a in
      let fault = fault_alike r.psk s u m a in
      sym (ap (λ (o : Option KeptRecord). not (slice_index body 0 == 5) && (not (repeats o m) && (not (repeats (last_of s) m) && (is_live s && is_none (opening_fault r.psk s m))))) ended
      ∙ ap (λ (o : Option KeptRecord). not (slice_index body 0 == 5) && (not (repeats (ended_of h) m) && (not (repeats o m) && (is_live s && is_none (opening_fault r.psk s m))))) last
      ∙ ap (λ (b : Bool). not (slice_index body 0 == 5) && (not (repeats (ended_of h) m) && (not (repeats (last_of u) m) && (b && is_none (opening_fault r.psk s m))))) live
      ∙ ap (λ (o : Option RecordFault). not (slice_index body 0 == 5) && (not (repeats (ended_of h) m) && (not (repeats (last_of u) m) && (is_live u && is_none o)))) fault)
      ∙ will

  -- ---- It gets LargeResponse in one of them.

  module _ (r : RspSetup) (byte : r.beat < 256) (tag : ℕ) (body answer : List ℕ) (type : (slice_index body 0 == 5) ≡ false) (will : will_take r g body ≡ true) (large : IsShownLarge r g tag body answer) (op : ℕ)
      (asks : request_at (session_place (session_of (id_in_record (drop 1 body)) g)) (drop 1 (opened r.psk (session_of (id_in_record (drop 1 body)) g) (drop 1 body))) ≡ Some (GetMeasurements op)) where
    abbrev m : List ℕ
    m = drop 1 body

    abbrev s : Events
    s = session_of (id_in_record (drop 1 body)) g

    abbrev u : Events
    u = session_of (id_in_record (drop 1 body)) h

    abbrev a : SeenAlike (session_of (id_in_record (drop 1 body)) g) (session_of (id_in_record (drop 1 body)) h)
    a = all (id_in_record (drop 1 body))

    abbrev inner : List ℕ
    inner = opened r.psk s m

    abbrev e : Entry
    e = e0 r g tag body answer type will large op asks

    abbrev f : Free
    f = f0 r g tag body answer type will large

    abbrev t : Turn
    t = large_turn r s inner op asks f

    will_h : will_take r h body ≡ true
    will_h = will_alike r body will

    asks_h : request_at (session_place u) (drop 1 (opened r.psk u m)) ≡ Some (GetMeasurements op)
    asks_h = ap (λ (l : List ℕ). request_at (session_place u) (drop 1 l)) (sym (opened_alike r.psk s u m a)) ∙ asks_alike r s u a inner op asks

    -- The same values are allowed.
    allowed : IsAllowed h (place_for h body) f
    allowed =
        let fits : IsAllowed g (place_for g body) f = (its r g tag body answer type will large).0 in
        let sized : hash_len (terms_of (session_negotiation s)) ≤ length f.context = subst (λ (b : Bool). hash_len (place_terms (cond b (clear_place g) (session_place s))) ≤ length f.context) type fits.context in record {
          least = fits.least;
          most = fits.most;
          unused = λ room. sym (held_alike f.id) ∙ fits.unused (λ four. room (sym count_alike ∙ four));
          context = subst (λ (b : Bool). hash_len (place_terms (cond b (clear_place h) (session_place u))) ≤ length f.context) (sym type)
              (subst (λ (n : Negotiation). hash_len (terms_of n) ≤ length f.context) (negotiation_alike s u a) sized);
          exchange_opaque = fits.exchange_opaque;
          nonce = fits.nonce;
          measured_opaque = fits.measured_opaque;
          handle = fits.handle;
          reply = fits.reply;
          pad = fits.pad;
        }

    adds : on_body r h tag body f no_draw ≡ Adds e
    adds =
        body_adds r h tag body answer type will_h f
        ∙ ap (λ (x : Turn). Adds (Sealed tag m x (reply_record r.psk u x (inner_reply x) f.pad) no_draw)) (turn_alike r s u a inner op asks m f refl (goes0 r g tag body answer type will large op asks))
        ∙ ap (λ (l : List ℕ). Adds (Sealed tag m t l no_draw)) (sym (reply_alike r.psk s u t (inner_reply t) f.pad a))

    short : length (answer_to r h body f) ≤ MAX_MESSAGE_SIZE
    short =
        subst (λ (b : Bool). length (cond b (clear_answer r (clear_place h) m f) (record_answer r u m f)) ≤ MAX_MESSAGE_SIZE) (sym type)
        (subst (λ (l : List ℕ). length l ≤ MAX_MESSAGE_SIZE)
        (sym (ap (λ (l : List ℕ). answer_bytes r (session_place u) (drop 1 l) f) (sym (opened_alike r.psk s u m a)) ∙ bytes_are r u inner op (asks_alike r s u a inner op asks) f))
        (big r g tag body answer type will large op asks).2)

    -- It may lead to the same entry in the other one.
    pub leads_too : MayLeadTo r h tag body (Adds e)
    unfolding MayLeadTo
    leads_too = (f, allowed, short, adds)

    pub fits_too : IsLargeAnswer (session_place u) (whole_of e)
    fits_too = large_alike s u (whole_of e) a (big r g tag body answer type will large op asks)

    pub sent : sent_by e ≡ answer
    sent = ap body_of (sym (shown_is r g tag body answer type will large op asks)) ∙ large.2

    -- So it is LargeResponse there too, and what is kept of it is the same.
    module _ (d : Dialogue) where
      pub shown_too : IsShownLarge r h tag body answer × (unseen e ∷ h ≡ begun_large h (large_shown r h tag body answer))
      shown_too =
          (large_is_shown r (record d { responder = h; fetching = None }) (record { tag = tag; body = body; waiting = 0; answered = false }) answer (unseen e ∷ h) byte).0
          (whole_of e, ([], e, (tt, leads_too), refl, fits_too, sent, refl))

      same_there : unseen e ∷ h ≡ unseen (e0 r h tag body answer type will_h shown_too.0 op asks_h) ∷ h
      same_there = shown_too.1 ∙ ap (begun_large h) (shown_is r h tag body answer type will_h shown_too.0 op asks_h)

      -- Its request may lead to all MEASUREMENTS for this operation that are sent in chunks.
      pub asks_too : record_body (drop 1 body) ≡ body → (v : List ℕ) → IsLargeAnswer (session_place (session_of (id_in_record (drop 1 body)) g)) v → IsShownWhole r (Some (id_in_record (drop 1 body))) v (unseen e ∷ h) ↔ IsMeasuredBy r op v
      asks_too six v fits =
          subst (λ (l : History). IsShownWhole r (Some (id_in_record m)) v l ↔ IsMeasuredBy r op v) (sym same_there)
          (asks_one r h tag body answer type will_h shown_too.0 op asks_h byte six v (large_alike s u v a fits))
