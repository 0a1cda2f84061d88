-- What a record leads to that gives no chunk, and what that leaves of the session.
use Rattle.std.proofs.Common.{◌≡◌, ◌+◌, ◌==◌, ◌&&◌, ◌||◌, ℕ, List, [], ◌∷◌, refl, sym, ap, ◌∙◌, subst, drop, length, arith, ◌≤◌, Bool, true, false, Option, Some, None, is_none, is_some, cond, eq-eqb}
use Rattle.std.specs.Prelude.{not, slice_index}
use Rattle.std.proofs.lemmas.Bool.{false≢true}
use Rattle.key_schedule.specs.Purpose.{iv_of, key_of}
use Rattle.responder_machine.specs.Answer.{Free}
use Rattle.responder_machine.specs.History.{Entry, History, kept_of}
use Rattle.responder_machine.specs.History.Entry.{Sealed}
use Rattle.responder_machine.specs.LargeMessages.{given_of, large_of, still_pending}
use Rattle.responder_machine.specs.Place.{session_place}
use Rattle.responder_machine.specs.Records.{opened, reply_number, reply_purpose, reply_record}
use Rattle.responder_machine.specs.Refusal.{has_pending}
use Rattle.responder_machine.specs.Responder.Outcome.{Adds}
use Rattle.responder_machine.specs.Responder.{inner_reply, on_clear, on_record, session_turn}
use Rattle.responder_machine.specs.Session.{Events, after_record, exchange_answer, exchange_of, id_in_record, is_live, session_of, session_terms, turns_of, when_live}
use Rattle.responder_machine.specs.Session.Event.{Heard}
use Rattle.responder_machine.specs.Setup.{RspSetup}
use Rattle.responder_machine.specs.Turn.{Effect, Turn, handle_in, is_taken, large_in, takes}
use Rattle.responder_machine.specs.Turn.Effect.{NoEffect, Took, TookData}
use Rattle.session_keys.proofs.Purposes.{size_of}
use Rattle.spdm_machine.specs.Keys.{sealed_of}
use Rattle.spdm_machine.specs.Sessions.{id_in_exchange}
use Rattle.spdm_grammar.specs.declared.messages.error_code.ErrorCode.{ErrorCode}
use Rattle.spdm_grammar.specs.declared.names.request_code.TheConstants.{CHUNK_GET, END_SESSION}
use Rattle.capture_machine.proofs.RecordAdds.{record_added}
use Rattle.capture_machine.specs.CapturedAnswers.{MayLeadTo}
use Rattle.capture_machine.specs.Rounds.{no_draw}

-- ---- The entry.

-- It is of the record, with a turn of its session.
pub record IsSealed (r : RspSetup) (g : History) (tag : ℕ) (body : List ℕ) (e : Entry) : Type 0 where
  pub turn : Turn
  pub reply : List ℕ
  pub is : e ≡ Sealed tag (drop 1 body) turn reply no_draw
  pub long : 26 ≤ length reply

-- How long a record is at least.
record_long : (psk : List ℕ) (s : Events) (t : Turn) (inner pad : List ℕ) → 26 ≤ length (reply_record psk s t inner pad)
unfolding reply_record sealed_of
record_long psk s t inner pad =
    let size = size_of (key_of (session_terms s).choice.hash (session_terms s).choice.aead (reply_purpose psk s t)) (iv_of (session_terms s).choice.hash (reply_purpose psk s t)) (id_in_exchange (exchange_of s)) (id_in_exchange (exchange_answer s)) (reply_number s t) inner pad
    (reply_record psk s t inner pad) refl in
    omega (arith, size)

pub sealed_in : (r : RspSetup) (g : History) (tag : ℕ) (body : List ℕ) (e : Entry) → (slice_index body 0 == 5) ≡ false → MayLeadTo r g tag body (Adds e) → IsSealed r g tag body e
unfolding MayLeadTo
sealed_in r g tag body e type may =
    let m : List ℕ = drop 1 body in
    let s : Events = session_of (id_in_record m) g in
    let f : Free = may.0 in
    let t : Turn = session_turn r s (opened r.psk s m) f in
    let leads : on_record r g tag m f no_draw ≡ Adds e = sym (ap (λ (b : Bool). cond b (on_clear r g tag m f no_draw) (on_record r g tag m f no_draw)) type) ∙ may.3 in
    record { turn = t; reply = reply_record r.psk s t (inner_reply t) f.pad; is = sym (record_added r f tag m e g leads); long = record_long r.psk s t (inner_reply t) f.pad }

-- ---- What is pending behind it.

no_large : (x : Effect) → is_some (handle_in x) ≡ false → large_in x ≡ None
no_large NoEffect small = refl
no_large (Took a m answer None) small = refl
no_large (Took a m answer (Some handle)) small = absurd (false≢true (sym small))
no_large (TookData bytes answer) small = refl

-- A request that is refused leaves it; any other one that is no CHUNK_GET, and has no large response, ends it.
pub pending_behind : (s : Events) (m : List ℕ) (t : Turn) (reply : List ℕ) → takes CHUNK_GET t ≡ false → is_some (handle_in t.effect) ≡ false → has_pending (session_place (Heard m t reply ∷ s)) ≡ (is_some t.refused && has_pending (session_place s))
pending_behind s m t reply none small = by_refused t.refused refl
  where
    transfer : ℕ
    transfer = (session_terms s).common.to_requester.transfer

    ts : List Turn
    ts = turns_of s

    -- By whether it was taken.
    pending_by : Bool → Bool
    pending_by b = is_some (still_pending transfer (cond (not b) (given_of ts) (cond (takes CHUNK_GET t) (given_of ts + 1) 0)) (cond (not b || takes CHUNK_GET t) (large_of ts) (large_in t.effect)))

    by_refused : (o : Option ErrorCode) → t.refused ≡ o → has_pending (session_place (Heard m t reply ∷ s)) ≡ (is_some t.refused && has_pending (session_place s))
    by_refused (Some code) is =
        ap (λ (x : Option ErrorCode). pending_by (is_none x)) is ∙ sym (ap (λ (x : Option ErrorCode). is_some x && has_pending (session_place s)) is)
    by_refused None is =
        ap (λ (x : Option ErrorCode). pending_by (is_none x)) is
        ∙ ap (λ (b : Bool). is_some (still_pending transfer (cond b (given_of ts + 1) 0) (cond b (large_of ts) (large_in t.effect)))) none
        ∙ ap (λ (x : Option (List ℕ)). is_some (still_pending transfer 0 x)) (no_large t.effect small)
        ∙ sym (ap (λ (x : Option ErrorCode). is_some x && has_pending (session_place s)) is)

-- ---- The session behind it.

-- It was live before it.
pub live_before : (tag id : ℕ) (m : List ℕ) (t : Turn) (reply : List ℕ) (g : History) → id_in_record m ≡ id → is_live (session_of id (Sealed tag m t reply no_draw ∷ g)) ≡ true → is_live (session_of id g) ≡ true
unfolding session_of
live_before tag id m t reply g here live =
    by_end (takes END_SESSION t) (session_of id g) (ap is_live (sym (ap (λ (b : Bool). cond b (after_record (session_of id g) m t reply) (session_of id g)) (eq-eqb (id_in_record m) id here))) ∙ live)
  where
    by_live : (s : Events) → is_live (when_live s (Heard m t reply)) ≡ true → is_live s ≡ true
    by_live [] is = is
    by_live (x ∷ s) is = refl

    by_end : (b : Bool) (s : Events) → is_live (cond b [] (when_live s (Heard m t reply))) ≡ true → is_live s ≡ true
    by_end true s is = absurd (false≢true is)
    by_end false s is = by_live s is

-- Where it is live, it was, and has that record.
pub live_behind : (tag id : ℕ) (m : List ℕ) (t : Turn) (reply : List ℕ) (g : History) → id_in_record m ≡ id → is_live (session_of id (Sealed tag m t reply no_draw ∷ g)) ≡ true
    → session_of id (Sealed tag m t reply no_draw ∷ g) ≡ Heard m t reply ∷ session_of id g
unfolding session_of
live_behind tag id m t reply g here live =
    let s : Events = session_of id g in
    let own : cond (id_in_record m == id) (after_record s m t reply) s ≡ after_record s m t reply = ap (λ (b : Bool). cond b (after_record s m t reply) s) (eq-eqb (id_in_record m) id here) in
    own ∙ by_end (takes END_SESSION t) s (ap is_live (sym own) ∙ live)
  where
    by_live : (s : Events) → is_live (when_live s (Heard m t reply)) ≡ true → when_live s (Heard m t reply) ≡ Heard m t reply ∷ s
    by_live [] is = absurd (false≢true is)
    by_live (x ∷ s) is = refl

    by_end : (b : Bool) (s : Events) → is_live (cond b [] (when_live s (Heard m t reply))) ≡ true → cond b [] (when_live s (Heard m t reply)) ≡ Heard m t reply ∷ s
    by_end true s is = absurd (false≢true is)
    by_end false s is = by_live s is
