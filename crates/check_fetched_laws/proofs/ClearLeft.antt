-- While a large response is fetched in the clear, the sessions are those that were left before its request.
use Rattle.std.proofs.Common.{◌≡◌, ◌≢◌, ◌==◌, ℕ, suc, zero, arith, List, [], ◌∷◌, ◌++◌, refl, sym, ap, ◌∙◌, subst, Bool, true, false, Some, None, cond, inl, inr, eq-eqb, eqb-true}
use Rattle.std.specs.Prelude.{MatchBool, not}
use Rattle.std.proofs.lemmas.Bool.{false≢true, false_from_ne_true}
use Rattle.spdm_basis.proofs.Bools.{and_first}
use Rattle.spdm_grammar.specs.declared.names.request_code.TheConstants.{CHUNK_GET, GET_VERSION, PSK_EXCHANGE}
use Rattle.spdm_machine.specs.Sessions.{id_in_exchange, is_past_handshake}
use Rattle.responder_machine.proofs.GivenIds.{gives_other}
use Rattle.responder_machine.proofs.NoSession.{no_session}
use Rattle.responder_machine.specs.History.{Entry, History, clear_turns, negotiation_of}
use Rattle.responder_machine.specs.History.Entry.{Clear, Sealed, Queued, Ticked, Dropped}
use Rattle.responder_machine.specs.Session.{Events, after_exchange, session_of, stage_of, gives_id}
use Rattle.responder_machine.specs.Session.Event.{Began}
use Rattle.responder_machine.specs.Turn.{Effect, Turn, answer_in, code_in, request_in, takes}
use Rattle.responder_machine.specs.Turn.Effect.{NoEffect, Took, TookData}
use Rattle.check_fetched_laws.proofs.Handshakes.{one_handshake}
use Rattle.check_fetched_laws.specs.ClearSessions.{AreGets, IsLeftBy, IsUnseenRequest, IsWithoutHandshake, SessionsAreLeft, is_in_handshake}
use Rattle.capture_machine.specs.LargeAnswers.{is_unseen_effect}

-- ---- CHUNK_GET.

pub get_others : (t : Turn) → takes CHUNK_GET t ≡ true → (takes GET_VERSION t ≡ false) × (takes PSK_EXCHANGE t ≡ false)
get_others t gets =
    let code : code_in t.effect ≡ CHUNK_GET = eqb-true (code_in t.effect) CHUNK_GET gets in
    (ap (λ (n : ℕ). n == GET_VERSION) code, ap (λ (n : ℕ). n == PSK_EXCHANGE) code)

-- What takes effect in the clear as neither GET_VERSION nor PSK_EXCHANGE leaves each session.
pub other_stays : (id tag : ℕ) (t : Turn) (d : _) (h : History) → takes GET_VERSION t ≡ false → takes PSK_EXCHANGE t ≡ false → session_of id (Clear tag t d ∷ h) ≡ session_of id h
unfolding session_of
other_stays id tag t d h version exchange =
    let s : Events = session_of id h in
    let begun : Events = after_exchange id s t (negotiation_of (clear_turns h)) in
    ap (λ (b : Bool). cond b [] (cond (takes PSK_EXCHANGE t) begun s)) version ∙ ap (λ (b : Bool). cond b begun s) exchange

pub gets_stay : (gets : List Entry) (h : History) (id : ℕ) → AreGets gets → session_of id (gets ++ h) ≡ session_of id h
gets_stay [] h id are = refl
gets_stay (Clear tag t d ∷ gets) h id are =
    let others = get_others t (and_first (takes CHUNK_GET t) _ are.0) in
    other_stays id tag t d (gets ++ h) others.0 others.1 ∙ gets_stay gets h id are.1
gets_stay (Sealed tag m t reply d ∷ gets) h id are = absurd (false≢true are.0)
gets_stay (Queued bytes ∷ gets) h id are = absurd (false≢true are.0)
gets_stay (Ticked seconds ∷ gets) h id are = absurd (false≢true are.0)
gets_stay (Dropped which ∷ gets) h id are = absurd (false≢true are.0)

-- ---- The request.

unseen_answer : (e : Effect) → is_unseen_effect e ≡ true → answer_in e ≡ []
unseen_answer NoEffect is = refl
unseen_answer (Took a m [] None) is = refl
unseen_answer (Took a m [] (Some handle)) is = absurd (false≢true is)
unseen_answer (Took a m (b ∷ l) large) is = absurd (false≢true is)
unseen_answer (TookData bytes answer) is = absurd (false≢true is)

unseen_id : (t : Turn) (id : ℕ) → is_unseen_effect t.effect ≡ true → id ≢ 0 → gives_id id (answer_in t.effect) ≡ false
unseen_id t id is other =
    gives_other id (answer_in t.effect) (ap (λ (l : List ℕ). id_in_exchange l == id) (unseen_answer t.effect is) ∙ false_from_ne_true (id_in_exchange [] == id) (λ same. other (sym (eqb-true 0 id same))))

-- A session that is not in its handshake is past it, or there is none.
settled : (s : Events) → is_in_handshake s ≡ false → cond (is_past_handshake (stage_of s)) s [] ≡ s
settled [] none = refl
settled (e ∷ s) none = by_past (is_past_handshake (stage_of (e ∷ s))) refl
  where
    by_past : (b : Bool) → is_past_handshake (stage_of (e ∷ s)) ≡ b → cond b (e ∷ s) [] ≡ e ∷ s
    by_past true is = refl
    by_past false is = absurd (false≢true (sym none ∙ ap not is))

pub ended : (s : Events) → is_in_handshake s ≡ true → cond (is_past_handshake (stage_of s)) s [] ≡ []
ended [] is = absurd (false≢true is)
ended (e ∷ s) is = by_past (is_past_handshake (stage_of (e ∷ s))) refl
  where
    by_past : (b : Bool) → is_past_handshake (stage_of (e ∷ s)) ≡ b → cond b (e ∷ s) [] ≡ []
    by_past true past = absurd (false≢true (sym (ap not past) ∙ is))
    by_past false past = refl

-- PSK_EXCHANGE leaves the sessions that are established.
exchange_leaves : (id : ℕ) (before left : History) → id ≢ 0 → IsWithoutHandshake before left → let s = session_of id before in cond (is_past_handshake (stage_of s)) s [] ≡ session_of id left
unfolding session_of
exchange_leaves id before left other (inl none) = settled (session_of id before) (none.0 id other) ∙ ap (session_of id) (sym none.1)
exchange_leaves id before left other (inr one) = by_id (one.0 == id) refl ∙ ap (session_of id) (sym one.2)
  where
    s : Events
    s = session_of id before

    apart : (one.0 == id) ≡ false → is_in_handshake (session_of id before) ≡ false
    apart not_it = false_from_ne_true (is_in_handshake (session_of id before)) (λ here. false≢true (sym not_it ∙ ap (λ (n : ℕ). n == id) (one_handshake before one.0 id one.1 here) ∙ same_id id))
      where
        same_id : (n : ℕ) → (n == n) ≡ true
        same_id n = eq-eqb n n refl

    by_id : (b : Bool) → (one.0 == id) ≡ b → cond (is_past_handshake (stage_of s)) s [] ≡ cond b [] s
    by_id true same = ended s (subst (λ (n : ℕ). is_in_handshake (session_of n before) ≡ true) (eqb-true one.0 id same) one.1)
    by_id false not_it = settled s (apart not_it)

exchanged : (tag : ℕ) (t : Turn) (d : _) (before : History) (id : ℕ) → id ≢ 0 → (is_unseen_effect t.effect ≡ true) × (takes GET_VERSION t ≡ false) → takes PSK_EXCHANGE t ≡ true
    → session_of id (Clear tag t d ∷ before) ≡ cond (is_past_handshake (stage_of (session_of id before))) (session_of id before) []
unfolding session_of
exchanged tag t d before id other is exchange =
    let s : Events = session_of id before in
    let new : Events = Began (negotiation_of (clear_turns before)) (request_in t.effect) (answer_in t.effect) ∷ [] in
    let past : Events = cond (is_past_handshake (stage_of s)) s [] in
    ap (λ (b : Bool). cond b [] (cond (takes PSK_EXCHANGE t) (cond (gives_id id (answer_in t.effect)) new past) s)) is.1
    ∙ ap (λ (b : Bool). cond b (cond (gives_id id (answer_in t.effect)) new past) s) exchange ∙ ap (λ (b : Bool). cond b new past) (unseen_id t id is.0 other)

request_leaves : (entry : Entry) (before left : History) (id : ℕ) → id ≢ 0 → IsUnseenRequest entry → IsLeftBy entry before left → session_of id (entry ∷ before) ≡ session_of id left
request_leaves (Clear tag t d) before left id other is leaves = by_code (takes PSK_EXCHANGE t) refl leaves
  where
    by_code : (b : Bool) → takes PSK_EXCHANGE t ≡ b → MatchBool b (IsWithoutHandshake before left) (left ≡ before) → session_of id (Clear tag t d ∷ before) ≡ session_of id left
    by_code true exchange without = exchanged tag t d before id other is exchange ∙ exchange_leaves id before left other without
    by_code false not_it same = other_stays id tag t d before is.1 not_it ∙ ap (session_of id) (sym same)
request_leaves (Sealed tag m t reply d) before left id other is leaves = absurd is
request_leaves (Queued bytes) before left id other is leaves = absurd is
request_leaves (Ticked seconds) before left id other is leaves = absurd is
request_leaves (Dropped which) before left id other is leaves = absurd is

pub sessions_are_left : SessionsAreLeft
sessions_are_left gets entry before left are is leaves zero = no_session (gets ++ entry ∷ before) ∙ sym (no_session left)
sessions_are_left gets entry before left are is leaves (suc n) =
    gets_stay gets (entry ∷ before) (suc n) are ∙ request_leaves entry before left (suc n) (λ same. omega (arith, same)) is leaves
