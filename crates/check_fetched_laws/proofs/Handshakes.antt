-- One session at most is in its handshake.
use Rattle.std.proofs.Common.{◌≡◌, ◌+◌, ◌*◌, ◌==◌, ℕ, List, [], ◌∷◌, refl, sym, ap, ◌∙◌, Bool, true, false, cond, eqb-true}
use Rattle.std.specs.Prelude.{not, nat_le}
use Rattle.std.proofs.lemmas.Bool.{false≢true}
use Rattle.spdm_grammar.specs.declared.names.request_code.TheConstants.{END_SESSION, GET_VERSION, KEY_UPDATE, PSK_EXCHANGE, PSK_FINISH}
use Rattle.spdm_grammar.specs.declared.told.phase.Stage.{Stage}
use Rattle.spdm_grammar.specs.declared.told.phase.Stage.TheVariants.{Open, Verifying}
use Rattle.spdm_machine.specs.Sessions.{id_in_exchange, is_past_handshake}
use Rattle.responder_machine.proofs.GivenIds.{given_is}
use Rattle.responder_machine.specs.History.{clear_turns, negotiation_of}
use Rattle.responder_machine.specs.History.Entry.{Clear, Sealed, Queued, Ticked, Dropped}
use Rattle.responder_machine.specs.Session.{Events, after_record, id_in_record, idle_of, is_timed, period_of, session_of, stage_of, when_live, gives_id}
use Rattle.responder_machine.specs.Session.Event.{Began, Heard, Waited}
use Rattle.responder_machine.specs.Turn.{Turn, answer_in, request_in, takes, updates}
use Rattle.check_fetched_laws.specs.ClearSessions.{OneHandshake, is_in_handshake}

-- A session in its handshake after a record was in it before.
stage_back : (a b c : Bool) (s : Stage) → not (is_past_handshake (cond a Open (cond b Open (cond c Verifying s)))) ≡ true → not (is_past_handshake s) ≡ true
stage_back true b c s is = absurd (false≢true is)
stage_back false true c s is = absurd (false≢true is)
stage_back false false true s is = absurd (false≢true is)
stage_back false false false s is = is

heard_back : (s : Events) (m : List ℕ) (t : Turn) (reply : List ℕ) → is_in_handshake (when_live s (Heard m t reply)) ≡ true → is_in_handshake s ≡ true
heard_back [] m t reply is = absurd (false≢true is)
heard_back (e ∷ s) m t reply is = stage_back (takes PSK_FINISH t) (updates 3 t) (takes KEY_UPDATE t) (stage_of (e ∷ s)) is

none_or : (b : Bool) (s : Events) → is_in_handshake (cond b [] s) ≡ true → is_in_handshake s ≡ true
none_or true s is = absurd (false≢true is)
none_or false s is = is

ticked_back : (b c : Bool) (seconds : ℕ) (s : Events) → is_in_handshake (cond b s (cond c [] (Waited seconds ∷ s))) ≡ true → (is_in_handshake (Waited seconds ∷ s) ≡ true → is_in_handshake s ≡ true) → is_in_handshake s ≡ true
ticked_back true c seconds s is waited = is
ticked_back false true seconds s is waited = absurd (false≢true is)
ticked_back false false seconds s is waited = waited is

record_back : (b : Bool) (s : Events) (m : List ℕ) (t : Turn) (reply : List ℕ) → is_in_handshake (cond b (after_record s m t reply) s) ≡ true → is_in_handshake s ≡ true
record_back true s m t reply is = heard_back s m t reply (none_or (takes END_SESSION t) (when_live s (Heard m t reply)) is)
record_back false s m t reply is = is

-- After PSK_EXCHANGE only the session that it begins is in its handshake.
past_or : (b : Bool) (s : Events) → is_past_handshake (stage_of s) ≡ b → is_in_handshake (cond b s []) ≡ true → ⊥
past_or true [] past is = false≢true is
past_or true (e ∷ s) past is = false≢true (sym (ap not past) ∙ is)
past_or false s past is = false≢true is

begun_id : (answer : List ℕ) (id : ℕ) (s : Events) (new : Events) → is_in_handshake (cond (gives_id id answer) new (cond (is_past_handshake (stage_of s)) s [])) ≡ true → id_in_exchange answer ≡ id
begun_id answer id s new is = by_id (gives_id id answer) refl is
  where
    by_id : (b : Bool) → gives_id id answer ≡ b → is_in_handshake (cond b new (cond (is_past_handshake (stage_of s)) s [])) ≡ true → id_in_exchange answer ≡ id
    by_id true same here = given_is id answer same
    by_id false other here = absurd (past_or (is_past_handshake (stage_of s)) s refl here)

module _ (answer : List ℕ) (id other : ℕ) (s u new newer : Events) where
  clear_one : (b c : Bool) → (is_in_handshake s ≡ true → is_in_handshake u ≡ true → id ≡ other)
      → is_in_handshake (cond b [] (cond c (cond (gives_id id answer) new (cond (is_past_handshake (stage_of s)) s [])) s)) ≡ true
      → is_in_handshake (cond b [] (cond c (cond (gives_id other answer) newer (cond (is_past_handshake (stage_of u)) u [])) u)) ≡ true → id ≡ other
  clear_one true c before one two = absurd (false≢true one)
  clear_one false true before one two = sym (begun_id answer id s new one) ∙ begun_id answer other u newer two
  clear_one false false before one two = before one two

pub waited_back : (seconds : ℕ) (s : Events) → is_in_handshake (cond (not (is_timed s)) s (cond (nat_le (2 * period_of s) (idle_of s + seconds)) [] (Waited seconds ∷ s))) ≡ true → is_in_handshake s ≡ true
waited_back seconds [] is = absurd (false≢true is)
waited_back seconds (e ∷ s) is = ticked_back (not (is_timed (e ∷ s))) (nat_le (2 * period_of (e ∷ s)) (idle_of (e ∷ s) + seconds)) seconds (e ∷ s) is (λ here. here)

pub one_handshake : OneHandshake
unfolding session_of
one_handshake [] id other one two = absurd (false≢true one)
one_handshake (Clear tag t d ∷ h) id other one two =
    clear_one (answer_in t.effect) id other (session_of id h) (session_of other h)
    (Began (negotiation_of (clear_turns h)) (request_in t.effect) (answer_in t.effect) ∷ []) (Began (negotiation_of (clear_turns h)) (request_in t.effect) (answer_in t.effect) ∷ [])
    (takes GET_VERSION t) (takes PSK_EXCHANGE t) (one_handshake h id other) one two
one_handshake (Sealed tag m t reply d ∷ h) id other one two =
    one_handshake h id other (record_back (id_in_record m == id) (session_of id h) m t reply one) (record_back (id_in_record m == other) (session_of other h) m t reply two)
one_handshake (Queued bytes ∷ h) id other one two = one_handshake h id other one two
one_handshake (Ticked seconds ∷ h) id other one two = one_handshake h id other (waited_back seconds (session_of id h) one) (waited_back seconds (session_of other h) two)
one_handshake (Dropped which ∷ h) id other one two = one_handshake h id other (none_or (which == id) (session_of id h) one) (none_or (which == other) (session_of other h) two)
