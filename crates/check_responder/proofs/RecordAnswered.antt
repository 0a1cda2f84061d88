-- What is kept of the responder tells how a record is answered.
use Rattle.std.proofs.Common.{◌≡◌, ◌≤◌, ◌<◌, ◌-◌, ◌^◌, ◌∙◌, ◌&&◌, ◌||◌, ℕ, List, [], ◌∷◌, cond, refl, sym, ap, subst, inl, inr, Bool, true, false, Option, Some, None, arith}
use Rattle.std.proofs.lemmas.Bool.{false≢true}
use Rattle.std.specs.Prelude.{slice_index}
use Rattle.responder_core.specs.Connected as connected
use Rattle.responder_core.specs.LiveSession.{IsSlotOf}
use Rattle.responder_core.specs.Sessions.{slot_of}
use Rattle.responder_core.specs.declared.connected.Connection.{Connection}
use Rattle.responder_core.specs.declared.in_sessions.live_session.LiveSession.{LiveSession}
use Rattle.responder_machine.specs.Answer.{Free}
use Rattle.responder_machine.specs.BoundLaws.{messages_of}
use Rattle.responder_machine.specs.History.{History, ended_of}
use Rattle.responder_machine.specs.May.{with_dropped}
use Rattle.responder_machine.specs.Responder.{body_of, kept_record, on_record, repeats}
use Rattle.responder_machine.specs.Responder.Outcome.{Same}
use Rattle.responder_machine.specs.Session.{Events, id_in_record, is_live, last_of, session_of, session_terms}
use Rattle.responder_machine.specs.Setup.{RspSetup}
use Rattle.spdm_machine.specs.Bodies.{record_body}
use Rattle.check_responder.proofs.AnyAnswers.{IsSized}
use Rattle.check_responder.proofs.RecordShown.{at_again, at_closed, at_ended, sealed_to}
use Rattle.check_laws.specs.AnswersShown.{values_shown_by}
use Rattle.check_laws.specs.DropsShown.{IsShownAnswer, may_be_dropped}
use Rattle.check_responder.specs.ShownBy.{IsRepeated, closed_drops, opens_at}
use Rattle.capture_machine.specs.CapturedAnswers.{belongs_to}
use Rattle.capture_machine.specs.Rounds.{no_draw}

-- ---- The sizes of a session.

slot_sized : (r : RspSetup) (s : Events) (x : Option LiveSession) → IsSlotOf x r s → IsSized r s
slot_sized r s None none = inl none
slot_sized r s (Some live) stands = inr stands.sizes

pub session_sized : (seen : Connection) (r : RspSetup) (h : History) (id : ℕ) → connected.StandsFor seen r h → IsSized r (session_of id h)
session_sized seen r h id stands = slot_sized r (session_of id h) (slot_of seen.sessions id) (stands.sessions.slots id)

live_sized : (r : RspSetup) (s : Events) → IsSized r s → is_live s ≡ true → 16 ≤ (session_terms s).common.to_requester.transfer
live_sized r s (inl none) live = absurd (false≢true (sym (ap is_live none) ∙ live))
live_sized r s (inr sizes) live = (let least = sizes.least in omega (arith, least))

pub live_least : (seen : Connection) (r : RspSetup) (h : History) (id : ℕ) → connected.StandsFor seen r h → is_live (session_of id h) ≡ true → 16 ≤ (session_terms (session_of id h)).common.to_requester.transfer
live_least seen r h id stands live = live_sized r (session_of id h) (session_sized seen r h id stands) live

-- ---- Repeats.

pub neither_of : (a b : Bool) → (a || b) ≡ false → (a ≡ false) × (b ≡ false)
neither_of false false is = (refl, refl)
neither_of false true is = absurd (false≢true (sym is))
neither_of true b is = absurd (false≢true (sym is))

pub repeated : (r : RspSetup) (h : History) (tag : ℕ) (request : List ℕ) → IsRepeated h request → (body : List ℕ) × ((f : Free) → on_record r h tag request f no_draw ≡ Same body)
repeated r h tag request again = by_ended (repeats (ended_of h) request) refl again
  where
    by_ended : (b : Bool) → repeats (ended_of h) request ≡ b → (b || repeats (last_of (session_of (id_in_record request) h)) request) ≡ true → (body : List ℕ) × ((f : Free) → on_record r h tag request f no_draw ≡ Same body)
    by_ended true is some = (record_body (kept_record (ended_of h)), λ f. at_ended r h tag request f is)
    by_ended false is some = (record_body (kept_record (last_of (session_of (id_in_record request) h))), λ f. at_again r h tag request f is some)

-- ---- A record that is not taken gets no record.

pub closed_never : (r : RspSetup) (h : History) (tag : ℕ) (request sealed : List ℕ) → repeats (ended_of h) request ≡ false → repeats (last_of (session_of (id_in_record request) h)) request ≡ false
    → opens_at r (session_of (id_in_record request) h) request ≡ false → IsShownAnswer r h tag (record_body request) (record_body sealed) → ⊥
closed_never r h tag request sealed new fresh closed shown =
    let a = sealed_to r h tag request (record_body sealed) refl shown in
    (let kind = ap (λ (l : List ℕ). slice_index l 0) (sym (ap body_of (at_closed r h tag request (values_shown_by r h tag (record_body request) (record_body sealed)) new fresh closed)) ∙ a.body) in omega (arith, kind))

-- ---- A drop is no message.

drop_few : (h : History) (id : ℕ) (b : Bool) → messages_of (with_dropped h (cond b (id ∷ []) [])) ≡ messages_of h
drop_few h id true = refl
drop_few h id false = refl

pub few_closed : (r : RspSetup) (h : History) (request : List ℕ) → messages_of h < 2 ^ 64 - 1 → messages_of (with_dropped h (closed_drops r h request)) < 2 ^ 64 - 1
few_closed r h request few = subst (λ (n : ℕ). n < 2 ^ 64 - 1) (sym (drop_few h (id_in_record request) (belongs_to r (session_of (id_in_record request) h) request && may_be_dropped h (id_in_record request)))) few
