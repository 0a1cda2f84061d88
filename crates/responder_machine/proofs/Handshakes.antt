-- At most one session of a connection is in its handshake: by induction over any history.
use Rattle.std.proofs.Common.{refl, ◌∙◌, ◌≡◌, ◌≢◌, ℕ, List, [], ◌∷◌, true, false, Bool, ap, sym}
use Rattle.std.proofs.lemmas.Bool.{false≢true}
use Rattle.std.specs.Prelude.{if◌then◌else◌, ◌&&◌, ◌*◌, ◌+◌, ◌==◌, not, nat_le}
use Rattle.spdm_grammar.specs.declared.told.phase.Stage.{Stage}
use Rattle.spdm_grammar.specs.declared.told.phase.Stage.TheVariants.{Open, Verifying}
use Rattle.responder_machine.specs.History.{History, clear_turns, negotiation_of}
use Rattle.responder_machine.specs.History.Entry.{Clear, Sealed, Queued, Ticked, Dropped}
use Rattle.responder_machine.specs.Laws.{OneIsInHandshake}
use Rattle.responder_machine.proofs.GivenIds.{given_is}
use Rattle.responder_machine.specs.Session.{Events, session_of, is_live, is_timed, stage_of, after_record, after_tick, id_in_record, idle_of, period_of, gives_id}
use Rattle.spdm_machine.specs.Sessions.{is_past_handshake}
use Rattle.responder_machine.specs.Session.Event.{Began, Waited}
use Rattle.responder_machine.specs.Turn.{Turn, takes, updates, answer_in, request_in}
use Rattle.spdm_grammar.specs.declared.names.request_code.TheConstants.{GET_VERSION, PSK_EXCHANGE, PSK_FINISH, KEY_UPDATE, END_SESSION}

abbrev pub in_handshake : Events → Bool
in_handshake s = is_live s && not (is_past_handshake (stage_of s))

-- A stage after a record is Handshake only where it was before.
stage_before : (a b c : Bool) (x : Stage) → not (is_past_handshake (if a then Open else (if b then Open else (if c then Verifying else x)))) ≡ true → not (is_past_handshake x) ≡ true
stage_before true b c x h = absurd (false≢true h)
stage_before false true c x h = absurd (false≢true h)
stage_before false false true x h = absurd (false≢true h)
stage_before false false false x h = h

either : (b : Bool) (s n : Events) (P : Bool) → (in_handshake s ≡ true → P ≡ true) → (in_handshake n ≡ true → P ≡ true) → in_handshake (if b then s else n) ≡ true → P ≡ true
either true s n P x y h = x h
either false s n P x y h = y h

before_record : (s : Events) (m : List ℕ) (t : Turn) (reply : List ℕ) → in_handshake (after_record s m t reply) ≡ true → in_handshake s ≡ true
before_record [] m t reply = either (takes END_SESSION t) [] [] false (λ h. h) (λ h. h)
before_record (v ∷ s) m t reply = either (takes END_SESSION t) [] _ _ (λ h. absurd (false≢true h)) (stage_before (takes PSK_FINISH t) (updates 3 t) (takes KEY_UPDATE t) (stage_of (v ∷ s)))

-- A tick leaves a session as it is, ends it, or is an event of it that keeps its stage.
before_tick : (s : Events) (seconds : ℕ) → in_handshake (after_tick s seconds) ≡ true → in_handshake s ≡ true
before_tick [] seconds h = absurd (false≢true h)
before_tick (v ∷ s) seconds h =
    either (not (is_timed (v ∷ s))) (v ∷ s) _ (in_handshake (v ∷ s)) (λ x. x)
    (either (nat_le (2 * period_of (v ∷ s)) (idle_of (v ∷ s) + seconds)) [] (Waited seconds ∷ v ∷ s) (in_handshake (v ∷ s)) (λ x. absurd (false≢true x)) (λ x. x)) h

-- A session that an exchange leaves is established.
held : (live past : Bool) (s : Events) → is_live s ≡ live → is_past_handshake (stage_of s) ≡ past → in_handshake (if past then s else []) ≡ true → ⊥
held live false s x y h = false≢true h
held live true s x y h = false≢true (sym (none (is_live s)) ∙ sym (ap (λ p. is_live s && not p) y) ∙ h)
  where
    none : (b : Bool) → (b && false) ≡ false
    none true = refl
    none false = refl

one_by_clear : (versioned begun i_is j_is : Bool) (si sj bi bj : Events) → (i_is ≡ true → j_is ≡ true → ⊥) → (in_handshake si ≡ true → in_handshake sj ≡ true → ⊥)
    → in_handshake (if versioned then [] else (if begun then (if i_is then bi else (if is_past_handshake (stage_of si) then si else [])) else si)) ≡ true
    → in_handshake (if versioned then [] else (if begun then (if j_is then bj else (if is_past_handshake (stage_of sj) then sj else [])) else sj)) ≡ true → ⊥
one_by_clear true begun i_is j_is si sj bi bj apart older x y = false≢true x
one_by_clear false false i_is j_is si sj bi bj apart older x y = older x y
one_by_clear false true true true si sj bi bj apart older x y = apart refl refl
one_by_clear false true false j_is si sj bi bj apart older x y = held (is_live si) _ si refl refl x
one_by_clear false true true false si sj bi bj apart older x y = held (is_live sj) _ sj refl refl y

pub one_in_handshake : (h : History) (i j : ℕ) → i ≢ j → in_handshake (session_of i h) ≡ true → in_handshake (session_of j h) ≡ true → ⊥
unfolding session_of
one_in_handshake [] i j ne x y = false≢true x
one_in_handshake (Clear tag t d ∷ older) i j ne x y =
    one_by_clear (takes GET_VERSION t) (takes PSK_EXCHANGE t) (gives_id i (answer_in t.effect)) (gives_id j (answer_in t.effect)) (session_of i older) (session_of j older)
    (Began (negotiation_of (clear_turns older)) (request_in t.effect) (answer_in t.effect) ∷ []) (Began (negotiation_of (clear_turns older)) (request_in t.effect) (answer_in t.effect) ∷ [])
    (λ a b. ne (sym (given_is i (answer_in t.effect) a) ∙ given_is j (answer_in t.effect) b)) (one_in_handshake older i j ne) x y
one_in_handshake (Sealed tag m t reply d ∷ older) i j ne x y =
    one_in_handshake older i j ne (either (id_in_record m == i) (after_record (session_of i older) m t reply) (session_of i older) (in_handshake (session_of i older)) (before_record (session_of i older) m t reply) (λ h. h) x)
    (either (id_in_record m == j) (after_record (session_of j older) m t reply) (session_of j older) (in_handshake (session_of j older)) (before_record (session_of j older) m t reply) (λ h. h) y)
one_in_handshake (Queued bytes ∷ older) i j ne x y = one_in_handshake older i j ne x y
one_in_handshake (Ticked seconds ∷ older) i j ne x y = one_in_handshake older i j ne (before_tick (session_of i older) seconds x) (before_tick (session_of j older) seconds y)
one_in_handshake (Dropped which ∷ older) i j ne x y =
    one_in_handshake older i j ne (either (which == i) [] (session_of i older) (in_handshake (session_of i older)) (λ h. absurd (false≢true h)) (λ h. h) x)
    (either (which == j) [] (session_of j older) (in_handshake (session_of j older)) (λ h. absurd (false≢true h)) (λ h. h) y)

-- Live, and not past the handshake.
handshake_of : (live past : Bool) → live ≡ true → past ≡ false → (live && not past) ≡ true
handshake_of live past x y = rw (x, y) refl

is_past : (b : Bool) → (b ≡ false → ⊥) → b ≡ true
is_past true h = refl
is_past false h = absurd (h refl)

pub one_handshake : OneIsInHandshake
one_handshake h i j ne live_i live_j first =
    is_past (is_past_handshake (stage_of (session_of j h))) (λ second. one_in_handshake h i j ne (handshake_of (is_live (session_of i h)) (is_past_handshake (stage_of (session_of i h))) live_i first) (handshake_of (is_live (session_of j h)) (is_past_handshake (stage_of (session_of j h))) live_j second))
