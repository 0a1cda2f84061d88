-- A session that was set aside is put back in its place.
use Rattle.std.proofs.Common.{◌≡◌, ◌≢◌, ◌==◌, ◌∙◌, ℕ, Bool, true, false, Option, refl, sym, subst}
use Rattle.std.proofs.lemmas.Bool.{eqb-false, eqb-true}
use Rattle.responder_core.specs.ClearPart as clear_parts
use Rattle.responder_core.specs.Connected.{StandsFor}
use Rattle.responder_core.specs.LiveSession.{IsSlotOf}
use Rattle.responder_core.specs.Sessions.{slot_of}
use Rattle.responder_core.specs.Trying.{IsAside}
use Rattle.responder_core.specs.declared.connected.Connection.{Connection}
use Rattle.responder_core.specs.declared.in_sessions.live_session.LiveSession.{LiveSession}
use Rattle.responder_core.specs.declared.in_sessions.sessions.Sessions.{Sessions}
use Rattle.responder_machine.specs.History.{History}
use Rattle.responder_machine.specs.Session.{session_of}
use Rattle.responder_machine.specs.Setup.{RspSetup}

-- Each slot has what it had.
slots_back : (id : ℕ) (before seen new : Sessions) → slot_of new id ≡ slot_of before id → ((i : ℕ) → i ≢ id → slot_of new i ≡ slot_of seen i) → ((i : ℕ) → i ≢ id → slot_of seen i ≡ slot_of before i)
    → (i : ℕ) → slot_of new i ≡ slot_of before i
slots_back id before seen new own others was i = by_id (i == id) refl
  where
    by_id : (b : Bool) → (i == id) ≡ b → slot_of new i ≡ slot_of before i
    by_id true is = subst (λ (j : ℕ). slot_of new j ≡ slot_of before j) (sym (eqb-true i id is)) own
    by_id false is = others i (eqb-false i id is) ∙ was i (eqb-false i id is)

pub put_back : (id : ℕ) (before : Connection) (session : Option LiveSession) (seen : Connection) (new : Sessions) (r : RspSetup) (h : History) → IsAside id before session seen
    → slot_of new id ≡ slot_of before.sessions id → ((i : ℕ) → i ≢ id → slot_of new i ≡ slot_of seen.sessions i) → new.ended ≡ seen.sessions.ended
    → StandsFor before r h → StandsFor (record seen { sessions = new }) r h
put_back id before session seen new r h aside own others ended stands = record {
  clear = subst (λ (x : clear_parts.Seen). clear_parts.StandsFor x r h) (sym aside.clear) stands.clear;
  sessions = record {
    slots = λ i. subst (λ (x : Option LiveSession). IsSlotOf x r (session_of i h)) (sym (slots_back id before.sessions seen.sessions new own others aside.others i)) (stands.sessions.slots i);
    ended = ended ∙ aside.ended ∙ stands.sessions.ended;
  };
  queue = aside.queue ∙ stands.queue;
  sizes = stands.sizes;
}
