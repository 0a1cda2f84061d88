-- The session that a history has under an id has this id.
use Rattle.std.proofs.Common.{◌≡◌, ◌==◌, ℕ, List, [], ◌∷◌, Bool, true, false, cond, refl, sym, ap}
use Rattle.std.proofs.lemmas.Bool.{false≢true, eqb-true}
use Rattle.responder_machine.proofs.GivenIds.{given_is}
use Rattle.responder_machine.specs.History.{History, clear_turns, negotiation_of}
use Rattle.responder_machine.specs.History.Entry.{Clear, Sealed, Queued, Ticked, Dropped}
use Rattle.responder_machine.specs.Session.{Events, after_record, exchange_answer, id_in_record, idle_of, is_live, is_timed, period_of, session_of, stage_of, gives_id}
use Rattle.responder_machine.specs.Session.Event.{Began, Heard, Waited}
use Rattle.responder_machine.specs.Turn.{Turn, answer_in, request_in, takes}
use Rattle.spdm_grammar.specs.declared.names.request_code.TheConstants.{END_SESSION, GET_VERSION, PSK_EXCHANGE}
use Rattle.spdm_machine.specs.Sessions.{id_in_exchange, is_past_handshake}
use Rattle.std.specs.Prelude.{◌+◌, ◌*◌, nat_le, not}

abbrev HasId : ℕ → Events → Type 0
HasId id s = is_live s ≡ true → id_in_exchange (exchange_answer s) ≡ id

none_has : (id : ℕ) → HasId id []
none_has id live = absurd (false≢true live)

clear_has : (id : ℕ) (versioned begun same past : Bool) (s b : Events) → (same ≡ true → HasId id b) → HasId id s → HasId id (cond versioned [] (cond begun (cond same b (cond past s [])) s))
clear_has id true begun same past s b new old = none_has id
clear_has id false true true past s b new old = new refl
clear_has id false true false true s b new old = old
clear_has id false true false false s b new old = none_has id
clear_has id false false same past s b new old = old

pick_has : (id : ℕ) (b : Bool) (s n : Events) → HasId id s → HasId id n → HasId id (cond b s n)
pick_has id true s n one two = one
pick_has id false s n one two = two

record_has : (id : ℕ) (s : Events) (m : List ℕ) (t : Turn) (reply : List ℕ) → HasId id s → HasId id (after_record s m t reply)
record_has id [] m t reply old = pick_has id (takes END_SESSION t) [] [] (none_has id) (none_has id)
record_has id (x ∷ xs) m t reply old = pick_has id (takes END_SESSION t) [] (Heard m t reply ∷ x ∷ xs) (none_has id) (λ live. old refl)

tick_has : (id : ℕ) (idle gone : Bool) (s : Events) (seconds : ℕ) → (s ≡ [] → idle ≡ true) → HasId id s → HasId id (cond idle s (cond gone [] (Waited seconds ∷ s)))
tick_has id true gone s seconds empty old = old
tick_has id false true s seconds empty old = none_has id
tick_has id false false [] seconds empty old = absurd (false≢true (empty refl))
tick_has id false false (x ∷ xs) seconds empty old = λ live. old refl

untimed : (s : Events) → s ≡ [] → not (is_timed s) ≡ true
untimed [] is = refl
untimed (x ∷ xs) is = absurd (false≢true (sym (ap is_live is)))

pub session_has : (id : ℕ) (h : History) → HasId id (session_of id h)
unfolding session_of
session_has id [] = none_has id
session_has id (Clear tag t d ∷ older) =
    clear_has id (takes GET_VERSION t) (takes PSK_EXCHANGE t) (gives_id id (answer_in t.effect)) (is_past_handshake (stage_of (session_of id older))) (session_of id older)
    (Began (negotiation_of (clear_turns older)) (request_in t.effect) (answer_in t.effect) ∷ []) (λ same live. given_is id (answer_in t.effect) same) (session_has id older)
session_has id (Sealed tag m t reply d ∷ older) =
    pick_has id (id_in_record m == id) (after_record (session_of id older) m t reply) (session_of id older) (record_has id (session_of id older) m t reply (session_has id older)) (session_has id older)
session_has id (Queued bytes ∷ older) = session_has id older
session_has id (Ticked seconds ∷ older) =
    let s = session_of id older in
    tick_has id (not (is_timed s)) (nat_le (2 * period_of s) (idle_of s + seconds)) s seconds (untimed s) (session_has id older)
session_has id (Dropped which ∷ older) = pick_has id (which == id) [] (session_of id older) (none_has id) (session_has id older)
