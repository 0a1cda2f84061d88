-- Application data that is queued.
use Rattle.std.proofs.Common.{refl, ◌∙◌, ◌≡◌, ℕ, List, [], ◌∷◌, ◌++◌, Result, Ok, Err, MatchResult, ap, subst}
use Rattle.responder_core.specs.Connected.{StandsFor}
use Rattle.responder_core.specs.LiveSession.{IsSlotOf}
use Rattle.responder_core.specs.Sessions as sessions
use Rattle.responder_core.specs.Sessions.{slot_of}
use Rattle.responder_core.specs.declared.connected.Connection.{Connection}
use Rattle.responder_core.specs.declared.in_sessions.sessions.Sessions.{Sessions}
use Rattle.responder_machine.specs.History.{History}
use Rattle.responder_machine.specs.History.Entry.{Queued}
use Rattle.responder_machine.specs.Session.{Events, session_of}
use Rattle.responder_machine.specs.Setup.{RspSetup}
use Rattle.responder_session.specs.declared.queue.QueueFault.{QueueFault}

session_of-Queued : (id : ℕ) (bytes : List ℕ) (h : History) → session_of id h ≡ session_of id (Queued bytes ∷ h)
unfolding session_of
session_of-Queued id bytes h = refl

queued_sessions : (seen : Sessions) (r : RspSetup) (h : History) (bytes : List ℕ) → sessions.StandsFor seen r h → sessions.StandsFor seen r (Queued bytes ∷ h)
queued_sessions seen r h bytes stands = record {
  slots = λ id. subst (λ (s : Events). IsSlotOf (slot_of seen id) r s) (session_of-Queued id bytes h) (stands.slots id);
  ended = stands.ended;
}

pub queued : {A : Type 0} (x : Result A QueueFault) (r : RspSetup) (h : History) (old : Connection) (bytes : List ℕ) (now : List (List ℕ)) → StandsFor old r h
    → MatchResult x (λ _. now ≡ old.queue ++ bytes ∷ []) (λ _. now ≡ old.queue)
    → MatchResult x (λ _. StandsFor (record old { queue = now }) r (Queued bytes ∷ h)) (λ _. StandsFor (record old { queue = now }) r h)
queued (Ok a) r h old bytes now stands is = record {
  clear = record { requests = stands.clear.requests; kept = stands.clear.kept };
  sessions = queued_sessions old.sessions r h bytes stands.sessions;
  queue = is ∙ ap (λ (w : List (List ℕ)). w ++ bytes ∷ []) stands.queue;
  sizes = stands.sizes;
}
queued (Err fault) r h old bytes now stands is = record { clear = stands.clear; sessions = stands.sessions; queue = is ∙ stands.queue; sizes = stands.sizes }
