-- A record that was passed in a session, and gets LargeResponse again: what it asks for is read again from it, and its
-- request may lead to all MEASUREMENTS for that operation that are sent in chunks.
use Rattle.std.proofs.Common.{◌≡◌, ◌≤◌, ◌<◌, ◌&&◌, ◌↔◌, ◌∙◌, ℕ, List, [], ◌∷◌, refl, sym, ap, subst, drop, length, Bool, true, false, Option, Some, None, is_some, is_none, inl, inr}
use Rattle.std.specs.Prelude.{not}
use Rattle.std.proofs.lemmas.Bool.{false≢true}
use Rattle.check_responder.specs.AnswerKeys.{will_take}
use Rattle.check_laws.proofs.LeastValues.{least_allowed, padded}
use Rattle.check_laws.proofs.SessionShown.{record_is}
use Rattle.check_laws.specs.LargeShown.{whole_of}
use Rattle.check_fetched_laws.proofs.WholeLed.{whole_is_shown}
use Rattle.check_fetched_laws.specs.LastShown.{IsShownWhole}
use Rattle.check_fetched_ends.proofs.LargeTurns.{is_large_turn, large_blocks, large_room}
use Rattle.check_late_laws.proofs.Late.MeasuredTurns.{GoesLarge, answer_at, bytes_are, goes_at, goes_turn, large_turn, turn_goes}
use Rattle.check_fetched_laws.proofs.NewestStands.{NewestIs}
use Rattle.check_fetched_laws.proofs.RecordTaken.{body_adds, entry_at}
use Rattle.check_late_laws.proofs.Late.SeenAlike.{SeenAlike, fault_alike, last_alike, live_alike, opened_alike, terms_alike}
use Rattle.check_late_laws.proofs.Late.SeenMeasures.{asks_alike, goes_alike, large_alike, reply_alike}
use Rattle.check_fetched_ends.specs.InSession.{AsksFor, IsMeasuredBy}
use Rattle.measurements.specs.Records.{is_missing}
use Rattle.responder_machine.proofs.Tests.{contents_shown}
use Rattle.responder_machine.specs.Answer.{Free, answer_bytes, request_at}
use Rattle.responder_machine.specs.Handling.{large_response}
use Rattle.responder_machine.specs.History.{Entry, History, KeptRecord}
use Rattle.responder_machine.specs.History.Entry.{Sealed}
use Rattle.responder_machine.specs.May.{IsAllowed}
use Rattle.responder_machine.specs.Place.{Place, session_place}
use Rattle.responder_machine.specs.Records.{opened, opening_fault, reply_record}
use Rattle.responder_machine.specs.Refusal.{has_no_block, is_answer_too_long}
use Rattle.responder_machine.specs.Responder.{inner_reply, repeats, session_turn}
use Rattle.responder_machine.specs.Responder.Outcome.{Adds}
use Rattle.responder_machine.specs.Session.{Events, id_in_record, is_live, last_of, session_of, session_terms}
use Rattle.responder_machine.specs.Setup.{RspSetup, inventory_of}
use Rattle.responder_machine.specs.Turn.{Turn, answer_in, handle_in}
use Rattle.responder_session.specs.Took.{turn_in}
use Rattle.spdm_basis.specs.declared.causes.record_fault.RecordFault.{RecordFault}
use Rattle.spdm_grammar.specs.Message.RequestMessage.{GetMeasurements}
use Rattle.spdm_grammar.specs.declared.names.TheConstants.{MAX_MESSAGE_SIZE}
use Rattle.spdm_machine.specs.Bodies.{record_body}
use Rattle.spdm_machine.specs.Keys.{Draw}
use Rattle.spdm_machine.specs.Terms.{Terms}
use Rattle.capture_machine.proofs.RecordAdds.{record_added}
use Rattle.capture_machine.proofs.SeenAnswers.{session_seen}
use Rattle.capture_machine.specs.CapturedAnswers.{MayLeadTo}
use Rattle.capture_machine.specs.LargeAnswers.{IsLargeAnswer, is_large, is_unseen_effect, place_again, seen_turn, turn_with}
use Rattle.capture_machine.specs.Rounds.{no_draw}

-- ---- What led to it, from the session as the history has it.

module _ (r : RspSetup) (id : ℕ) (h : History) (is : NewestIs r id h) (un : is_unseen_effect is.t.effect ≡ true) where
  abbrev pub older : Events
  older = session_of (id_in_record is.m) is.before

  abbrev s : Events
  s = is.led.s

  abbrev pub f : Free
  f = is.led.free

  abbrev u : Turn
  u = session_turn r is.led.s (opened r.psk is.led.s is.m) is.led.free

  went : (is.t ≡ turn_with [] None u) × (is_some (handle_in u.effect) ≡ true)
  went = elim is.led.turn [
    | inl whole ↦ absurd (false≢true (sym (session_seen r is.led.free is.led.s (opened r.psk is.led.s is.m)) ∙ ap (λ (t : Turn). is_unseen_effect t.effect) (sym whole.0) ∙ un))
    | inr large ↦ large
  ]

  -- It asked for measurements there.
  pub record AsksIn (s : Events) (inner : List ℕ) : Type 0 where
    pub op : ℕ
    pub asks : request_at (session_place s) (drop 1 inner) ≡ Some (GetMeasurements op)
    pub goes : GoesLarge r s inner op asks f
    pub turn : is.t ≡ turn_with [] None (large_turn r s inner op asks f)
    pub reply : is.reply ≡ reply_record r.psk s (large_turn r s inner op asks f) (5 ∷ large_response f.handle) f.pad
    pub found : is_missing op (inventory_of r) ≡ false
    pub fits : IsLargeAnswer (session_place s) (answer_at r s inner op asks f)

  there : AsksIn s (opened r.psk s is.m)
  there =
      let inner : List ℕ = opened r.psk s is.m in
      let large = is_large_turn r s inner f went.1 in
      let goes = turn_goes r s inner large.op large.asks f went.1 in
      let same = goes_turn r s inner large.op large.asks f goes in
      let bytes = bytes_are r s inner large.op large.asks f in record {
        op = large.op;
        asks = large.asks;
        goes = goes;
        turn = went.0 ∙ ap (turn_with [] None) same;
        reply = is.led.reply_is ∙ ap (λ (t : Turn). reply_record r.psk s t (inner_reply t) f.pad) same;
        found = ap (has_no_block r) (sym large.asks) ∙ large_blocks r s inner f large;
        fits = (
          goes.large,
          ap (is_answer_too_long (session_place s)) (sym bytes) ∙ contents_shown r (session_place s) (drop 1 inner) f goes.none 10,
          subst (λ (l : List ℕ). length l ≤ MAX_MESSAGE_SIZE) bytes is.led.short,
        );
      }

  abbrev alike : SeenAlike is.led.s (session_of (id_in_record is.m) is.before)
  alike = is.led.alike

  moved : AsksIn older (opened r.psk s is.m)
  moved =
      let inner : List ℕ = opened r.psk s is.m in record {
        op = there.op;
        asks = asks_alike r s older alike inner there.op there.asks;
        goes = goes_alike r s older alike inner there.op there.asks f there.goes;
        turn = there.turn;
        reply = there.reply ∙ reply_alike r.psk s older (large_turn r s inner there.op there.asks f) (5 ∷ large_response f.handle) f.pad alike;
        found = there.found;
        fits = large_alike s older (answer_at r s inner there.op there.asks f) alike there.fits;
      }

  abbrev pub inner : List ℕ
  inner = opened r.psk (session_of (id_in_record is.m) is.before) is.m

  pub its : AsksIn older inner
  its = subst (AsksIn older) (opened_alike r.psk s older is.m alike) moved

  pub live : is_live older ≡ true
  live = sym (live_alike s older alike) ∙ is.led.live

  pub opens : opening_fault r.psk older is.m ≡ None
  opens = sym (fault_alike r.psk s older is.m alike) ∙ is.led.fault

  pub chunk : (session_terms older).common.chunk ≡ true
  chunk = ap (λ (x : Terms). x.common.chunk) (sym (terms_alike s older alike)) ∙ (is_large_turn r s (opened r.psk s is.m) f went.1).chunk

  pub wide : 12 < (session_terms older).common.to_requester.transfer
  wide = subst (λ (x : Terms). 12 < x.common.to_requester.transfer) (terms_alike s older alike) (large_room r s (opened r.psk s is.m) f (is_large_turn r s (opened r.psk s is.m) f went.1))

  -- ---- Which bytes its request may lead to.

  will : will_take r is.before (record_body is.m) ≡ true
  will =
      let fresh : repeats (last_of older) is.m ≡ false = ap (λ (o : Option KeptRecord). repeats o is.m) (sym (last_alike s older alike)) ∙ is.led.fresh in
      ap (λ (b : Bool). not b && (not (repeats (last_of older) is.m) && (is_live older && is_none (opening_fault r.psk older is.m)))) is.led.ended
      ∙ ap (λ (b : Bool). not b && (is_live older && is_none (opening_fault r.psk older is.m))) fresh
      ∙ ap (λ (b : Bool). b && is_none (opening_fault r.psk older is.m)) live
      ∙ ap (λ (o : Option RecordFault). is_none o) opens

  module _ (v : List ℕ) (byte : r.beat < 256) (fits : IsLargeAnswer (session_place (session_of (id_in_record is.m) is.before)) v) where
    abbrev op : ℕ
    op = its.op

    abbrev asks : request_at (session_place older) (drop 1 inner) ≡ Some (GetMeasurements its.op)
    asks = its.asks

    abbrev turn_at : Free → Turn
    turn_at k = large_turn r older inner its.op its.asks k

    -- The entry with these bytes.
    abbrev ev : Entry
    ev = Sealed is.tag is.m (seen_turn v is.t) is.reply is.draw

    abbrev body : List ℕ
    body = record_body is.m

    seen_is : seen_turn v is.t ≡ record (turn_at f) { effect = (seen_turn v (turn_with [] None (turn_at f))).effect }
    seen_is = ap (seen_turn v) its.turn

    big : is_large ev ≡ true
    big = ap (λ (t : Turn). is_some (handle_in t.effect)) seen_is

    measured : MayLeadTo r is.before is.tag (record_body is.m) (Adds ev) → IsMeasuredBy r op v
    unfolding MayLeadTo
    measured may =
        let k : Free = may.0 in
        let same = record_added r k is.tag is.m ev is.before may.3 in
        let goes = turn_goes r older inner op asks k (ap is_large same ∙ big) in
        let whole : answer_in (turn_in r older k is.m).effect ≡ v = ap whole_of same ∙ ap (λ (t : Turn). answer_in t.effect) seen_is in
        (k, may.1.nonce, may.1.measured_opaque, sym whole ∙ ap (λ (t : Turn). answer_in t.effect) (goes_turn r older inner op asks k goes))

    led : IsMeasuredBy r op v → MayLeadTo r is.before is.tag (record_body is.m) (Adds ev)
    unfolding MayLeadTo
    led by =
        let p : Place = session_place older in
        let base : Free = padded is.before p f.pad in
        let k : Free = record base { nonce = by.0.nonce; measured_opaque = by.0.measured_opaque; handle = f.handle } in
        let made : v ≡ answer_at r older inner op asks k = by.3 in
        let at : IsLargeAnswer p (answer_at r older inner op asks k) = subst (IsLargeAnswer p) made fits in
        let goes = goes_at r older inner op asks f k its.goes (its.fits.1 ∙ sym at.1) at.0 in
        let allowed = least_allowed is.before p f.pad is.led.allowed.pad in
        let fit : IsAllowed is.before p k = record {
          least = allowed.least;
          most = allowed.most;
          unused = allowed.unused;
          context = allowed.context;
          exchange_opaque = allowed.exchange_opaque;
          nonce = by.1;
          measured_opaque = by.2;
          handle = is.led.allowed.handle;
          reply = allowed.reply;
          pad = is.led.allowed.pad;
        } in
        let short : length (answer_bytes r p (drop 1 inner) k) ≤ MAX_MESSAGE_SIZE = subst (λ (l : List ℕ). length l ≤ MAX_MESSAGE_SIZE) (sym (bytes_are r older inner op asks k)) at.2 in
        let reply : reply_record r.psk older (turn_at k) (inner_reply (turn_at k)) f.pad ≡ is.reply =
        record_is r.psk older (turn_at k) (turn_at f) (inner_reply (turn_at k)) (5 ∷ large_response f.handle) f.pad f.pad refl refl refl ∙ sym its.reply in
        let turn : turn_at k ≡ seen_turn v is.t = ap (λ (l : List ℕ). seen_turn l (turn_with [] None (turn_at f))) (sym made) ∙ sym (ap (seen_turn v) its.turn) in
        let there : entry_at r is.before is.tag body [] refl will k ≡ ev =
        ap (λ (t : Turn). Sealed is.tag is.m t (reply_record r.psk older t (inner_reply t) f.pad) no_draw) (goes_turn r older inner op asks k goes)
        ∙ ap (λ (l : List ℕ). Sealed is.tag is.m (turn_at k) l no_draw) reply
        ∙ ap (λ (t : Turn). Sealed is.tag is.m t is.reply no_draw) turn
        ∙ ap (λ (d : Draw). Sealed is.tag is.m (seen_turn v is.t) is.reply d) (sym is.led.drawn) in
        (k, fit, short, body_adds r is.before is.tag body [] refl will k ∙ ap Adds there)

    pub asks_all : IsShownWhole r (Some id) v h ↔ IsMeasuredBy r op v
    asks_all =
        let shown = whole_is_shown r is.before is.tag (record_body is.m) ev byte big in
        let at = is.shown un v in
        (λ c. measured (shown.1 (at.0 c)), λ c. at.1 (shown.0 (led c)))

  -- At the place where it goes again.
  pub asks_for : r.beat < 256 → AsksFor r id (place_again (Some id) h h) its.op h
  asks_for byte = λ v fits.
      let place : place_again (Some id) h h ≡ session_place (session_of id h) = is.place h in
      let here : IsLargeAnswer (session_place (session_of id h)) v = subst (λ (p : Place). IsLargeAnswer p v) place fits in
      asks_all v byte (subst (λ (x : Events). IsLargeAnswer (session_place x) v) is.session here)
