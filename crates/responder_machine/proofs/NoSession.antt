-- No session has the RspSessionID 0.
use Rattle.std.proofs.Common.{refl, ◌≡◌, ℕ, List, [], ◌∷◌, true, false, Bool, sym, subst}
use Rattle.std.proofs.lemmas.Bool.{false≢true}
use Rattle.std.specs.Prelude.{if◌then◌else◌, ◌==◌}
use Rattle.responder_machine.proofs.GivenIds.{gives_none}
use Rattle.responder_machine.specs.History.{History, clear_turns, negotiation_of}
use Rattle.responder_machine.specs.History.Entry.{Clear, Sealed, Queued, Ticked, Dropped}
use Rattle.responder_machine.specs.Session.{Events, after_record, after_tick, gives_id, id_in_record, session_of, stage_of}
use Rattle.responder_machine.specs.Session.Event.{Began}
use Rattle.spdm_machine.specs.Sessions.{is_past_handshake}
use Rattle.responder_machine.specs.Turn.{Turn, answer_in, request_in, takes}
use Rattle.spdm_grammar.specs.declared.names.request_code.TheConstants.{GET_VERSION, PSK_EXCHANGE, END_SESSION}

either_none : (b : Bool) (s n : Events) → s ≡ [] → n ≡ [] → (if b then s else n) ≡ []
either_none true s n one two = one
either_none false s n one two = two

given_none : (b : Bool) (s n : Events) → b ≡ false → n ≡ [] → (if b then s else n) ≡ []
given_none true s n other none = absurd (false≢true (sym other))
given_none false s n other none = none

recorded : (s : Events) (m : List ℕ) (t : Turn) (reply : List ℕ) → s ≡ [] → after_record s m t reply ≡ []
recorded s m t reply is = subst (λ (e : Events). after_record e m t reply ≡ []) (sym is) (either_none (takes END_SESSION t) [] [] refl refl)

pub no_session : (h : History) → session_of 0 h ≡ []
unfolding session_of
no_session [] = refl
no_session (Clear tag t d ∷ older) =
    let s : Events = session_of 0 older in
    let none = no_session older in
    either_none (takes GET_VERSION t) [] _ refl
    (either_none (takes PSK_EXCHANGE t) _ s
    (given_none (gives_id 0 (answer_in t.effect)) (Began (negotiation_of (clear_turns older)) (request_in t.effect) (answer_in t.effect) ∷ []) _ (gives_none (answer_in t.effect))
    (either_none (is_past_handshake (stage_of s)) s [] none refl))
    none)
no_session (Sealed tag m t reply d ∷ older) = either_none (id_in_record m == 0) _ (session_of 0 older) (recorded (session_of 0 older) m t reply (no_session older)) (no_session older)
no_session (Queued bytes ∷ older) = no_session older
no_session (Ticked seconds ∷ older) = subst (λ (s : Events). after_tick s seconds ≡ []) (sym (no_session older)) refl
no_session (Dropped which ∷ older) = either_none (which == 0) [] (session_of 0 older) refl (no_session older)
