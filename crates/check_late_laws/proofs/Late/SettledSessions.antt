-- The sessions after the last chunk of a large response in the clear: each is as before it, but for the one that the
-- answer begins, in which no record came.
use Rattle.std.proofs.Common.{◌≡◌, ◌==◌, ◌&&◌, ◌⊎◌, ◌∙◌, ℕ, List, [], ◌∷◌, refl, sym, ap, subst, Bool, true, false, Option, Some, None, cond, eqb-true, inl, inr}
use Rattle.std.specs.Prelude.{MatchBool, not}
use Rattle.std.proofs.lemmas.Bool.{and_parts, false≢true, not-true}
use Rattle.check_laws.proofs.BegunAtLast.{settled, settled_behind, settled_here}
use Rattle.check_late_laws.proofs.Late.BehindSessions.{dropped_session, left_of}
use Rattle.responder_machine.proofs.Entries.{session_of-Clear, session_of-Sealed}
use Rattle.responder_machine.specs.History.{Entry, History, clear_turns, negotiation_of}
use Rattle.responder_machine.specs.History.Entry.{Clear, Sealed, Queued, Ticked, Dropped}
use Rattle.responder_machine.specs.May.{with_dropped}
use Rattle.responder_machine.specs.Responder.Outcome.{Adds}
use Rattle.responder_machine.specs.Session.{Events, after_exchange, after_record, gives_id, id_in_record, session_of, stage_of, turns_of}
use Rattle.responder_machine.specs.Session.Event.{Began}
use Rattle.responder_machine.specs.Setup.{RspSetup}
use Rattle.responder_machine.specs.Turn.{Turn, answer_in, request_in as asked_bytes, takes}
use Rattle.spdm_grammar.specs.declared.names.request_code.TheConstants.{GET_VERSION, PSK_EXCHANGE}
use Rattle.spdm_machine.specs.Keys.{Draw}
use Rattle.spdm_machine.specs.Sessions.{id_in_exchange, is_past_handshake}
use Rattle.transcript.specs.Transcripts.{Negotiation}
use Rattle.capture_machine.proofs.FetchedSessions.{takes_with}
use Rattle.capture_machine.proofs.UnseenStands.{IsClearSince, IsQuiet}
use Rattle.capture_machine.specs.CapturedAnswers.{AreShown, MayHaveLed, MayLeadToEntry, request_in}
use Rattle.capture_machine.specs.LargeAnswers.{begun_with, handle_shown, id_begun, is_unseen_in, is_untouched, seen, seen_turn, touches}

-- It is the same session; or the one that begins, which has no record.
abbrev pub IsSettled : (id : ℕ) → (begun : Option ℕ) → (new old : Events) → Type 0
IsSettled id begun new old = (new ≡ old) ⊎ ((turns_of new ≡ []) × (begun ≡ Some id))

-- ---- What came behind the request.

clear_same : (id tag : ℕ) (t : Turn) (d : Draw) (h : History) → (takes GET_VERSION t ≡ false) × (takes PSK_EXCHANGE t ≡ false) → session_of id (Clear tag t d ∷ h) ≡ session_of id h
clear_same id tag t d h quiet =
    let s : Events = session_of id h in
    let other : Events = after_exchange id s t (negotiation_of (clear_turns h)) in
    session_of-Clear id tag t d h ∙ ap (λ (b : Bool). cond b [] (cond (takes PSK_EXCHANGE t) other s)) quiet.0 ∙ ap (λ (b : Bool). cond b other s) quiet.1

sealed_at : (id tag : ℕ) (m : List ℕ) (t : Turn) (reply : List ℕ) (d : Draw) (h : History) (b : Bool) → (id_in_record m == id) ≡ b
    → session_of id (Sealed tag m t reply d ∷ h) ≡ cond b (after_record (session_of id h) m t reply) (session_of id h)
sealed_at id tag m t reply d h b is = session_of-Sealed id tag m t reply d h ∙ ap (λ (x : Bool). cond x (after_record (session_of id h) m t reply) (session_of id h)) is

dropped_at : (which id : ℕ) (h : History) (b : Bool) → (which == id) ≡ b → session_of id (Dropped which ∷ h) ≡ cond b [] (session_of id h)
dropped_at which id h b is = dropped_session which id h ∙ ap (λ (x : Bool). cond x [] (session_of id h)) is

module _ (id : ℕ) (o : Option ℕ) (g h : History) where
  by_clear : (tag : ℕ) (t : Turn) (d : Draw) → (takes GET_VERSION t ≡ false) × (takes PSK_EXCHANGE t ≡ false) → IsSettled id o (session_of id g) (session_of id h)
      → IsSettled id o (session_of id (Clear tag t d ∷ g)) (session_of id (Clear tag t d ∷ h))
  by_clear tag t d quiet (inl same) = inl (clear_same id tag t d g quiet ∙ same ∙ sym (clear_same id tag t d h quiet))
  by_clear tag t d quiet (inr begins) = inr (ap (λ (s : Events). turns_of s) (clear_same id tag t d g quiet) ∙ begins.0, begins.1)

  by_sealed : (tag : ℕ) (m : List ℕ) (t : Turn) (reply : List ℕ) (d : Draw) (b : Bool) → (id_in_record m == id) ≡ b → touches o (Sealed tag m t reply d) ≡ false → IsSettled id o (session_of id g) (session_of id h)
      → IsSettled id o (session_of id (Sealed tag m t reply d ∷ g)) (session_of id (Sealed tag m t reply d ∷ h))
  by_sealed tag m t reply d true is none (inl same) =
      inl (sealed_at id tag m t reply d g true is ∙ ap (λ (s : Events). after_record s m t reply) same ∙ sym (sealed_at id tag m t reply d h true is))
  by_sealed tag m t reply d true is none (inr begins) = absurd (false≢true (sym none ∙ ap (λ (x : Option ℕ). touches x (Sealed tag m t reply d)) begins.1 ∙ is))
  by_sealed tag m t reply d false is none (inl same) = inl (sealed_at id tag m t reply d g false is ∙ same ∙ sym (sealed_at id tag m t reply d h false is))
  by_sealed tag m t reply d false is none (inr begins) = inr (ap (λ (s : Events). turns_of s) (sealed_at id tag m t reply d g false is) ∙ begins.0, begins.1)

  by_dropped : (which : ℕ) (b : Bool) → (which == id) ≡ b → IsSettled id o (session_of id g) (session_of id h) → IsSettled id o (session_of id (Dropped which ∷ g)) (session_of id (Dropped which ∷ h))
  by_dropped which true is rest = inl (dropped_at which id g true is ∙ sym (dropped_at which id h true is))
  by_dropped which false is (inl same) = inl (dropped_at which id g false is ∙ same ∙ sym (dropped_at which id h false is))
  by_dropped which false is (inr begins) = inr (ap (λ (s : Events). turns_of s) (dropped_at which id g false is) ∙ begins.0, begins.1)

  -- One more entry.
  behind : (e : Entry) → IsQuiet e → touches o e ≡ false → IsSettled id o (session_of id g) (session_of id h) → IsSettled id o (session_of id (e ∷ g)) (session_of id (e ∷ h))
  behind (Clear tag t d) quiet none rest = by_clear tag t d quiet rest
  behind (Sealed tag m t reply d) quiet none rest = by_sealed tag m t reply d (id_in_record m == id) refl none rest
  behind (Queued bytes) quiet none rest = absurd quiet
  behind (Ticked seconds) quiet none rest = absurd quiet
  behind (Dropped which) quiet none rest = by_dropped which (which == id) refl rest

-- ---- The request itself.

-- The sessions before it, of which one may have been dropped: that which its answer begins.
module _ (r : RspSetup) (h : History) (w : List ℕ) (tag : ℕ) (t : Turn) (d : Draw) (id : ℕ) where
  abbrev u : Turn
  u = seen_turn w t

  abbrev e : Entry
  e = Clear tag (seen_turn w t) d

  abbrev AreLeft : List ℕ → Type 0
  AreLeft ids =
      ((session_of id (with_dropped h ids) ≡ session_of id h) ⊎ ((session_of id (with_dropped h ids) ≡ []) × (id_begun e ≡ Some id)))
      × (takes PSK_EXCHANGE u ≡ false → session_of id (with_dropped h ids) ≡ session_of id h)

  one_dropped : (k : ℕ) (b : Bool) → (k == id) ≡ b → (takes PSK_EXCHANGE u ≡ true) × ((id_in_exchange (answer_in u.effect) == k) ≡ true)
      → (session_of id (Dropped k ∷ h) ≡ session_of id h) ⊎ ((session_of id (Dropped k ∷ h) ≡ []) × (id_begun e ≡ Some id))
  one_dropped k true is shown = inr (
    dropped_at k id h true is,
    ap (λ (b : Bool). cond b (Some (id_in_exchange (answer_in u.effect))) None) shown.0 ∙ ap Some (eqb-true (id_in_exchange (answer_in u.effect)) k shown.1 ∙ eqb-true k id is),
  )
  one_dropped k false is shown = inl (dropped_at k id h false is)

  are_left : (ids : List ℕ) → AreShown r h (request_in e) (Adds e) ids → AreLeft ids
  are_left [] shown = (inl refl, λ none. refl)
  are_left (k ∷ []) shown =
      let parts = and_parts (takes PSK_EXCHANGE u) (id_in_exchange (answer_in u.effect) == k) shown in
      (one_dropped k (k == id) refl parts, λ none. absurd (false≢true (sym none ∙ parts.0)))
  are_left (k ∷ j ∷ js) shown = absurd shown

-- With its bytes it begins its session, and leaves the others as without them.
by_parts : (id : ℕ) (o : Option ℕ) (n : Negotiation) (asked answer : List ℕ) (s left : Events) (version psk given : Bool) → (psk ≡ true → given ≡ true → o ≡ Some id) → (left ≡ s) ⊎ ((left ≡ []) × (o ≡ Some id)) → (psk ≡ false → left ≡ s)
    → IsSettled id o (cond version [] (cond psk (cond given (Began n asked answer ∷ []) (cond (is_past_handshake (stage_of left)) left [])) left)) (cond version [] (cond psk (cond (is_past_handshake (stage_of s)) s []) s))
by_parts id o n asked answer s left true psk given starts gone stays = inl refl
by_parts id o n asked answer s left false true true starts gone stays = inr (refl, starts refl refl)
by_parts id o n asked answer s left false true false starts (inl same) stays = inl (ap (λ (x : Events). cond (is_past_handshake (stage_of x)) x []) same)
by_parts id o n asked answer s left false true false starts (inr none) stays = inr (ap (λ (x : Events). turns_of (cond (is_past_handshake (stage_of x)) x [])) none.0, none.1)
by_parts id o n asked answer s left false false given starts gone stays = inl (stays refl)

request_settled : (r : RspSetup) (h : History) (w ids : List ℕ) (e : Entry) (id : ℕ) → is_unseen_in None e ≡ true → AreShown r h (request_in (seen w e)) (Adds (seen w e)) ids
    → IsSettled id (id_begun (seen w e)) (session_of id (seen w e ∷ with_dropped h ids)) (session_of id (e ∷ h))
request_settled r h w ids (Clear tag t d) id is shown =
    let u : Turn = seen_turn w t in
    let g : History = with_dropped h ids in
    let s : Events = session_of id h in
    let left : Events = session_of id g in
    let n : Negotiation = negotiation_of (clear_turns g) in
    let o : Option ℕ = id_begun (Clear tag u d) in
    let given : Bool = gives_id id (answer_in u.effect) in
    let others : Events = cond given (Began n (asked_bytes u.effect) (answer_in u.effect) ∷ []) (cond (is_past_handshake (stage_of left)) left []) in
    let version : takes GET_VERSION u ≡ takes GET_VERSION t = takes_with w (Some (handle_shown t)) GET_VERSION t in
    let psk : takes PSK_EXCHANGE u ≡ takes PSK_EXCHANGE t = takes_with w (Some (handle_shown t)) PSK_EXCHANGE t in
    let new : session_of id (Clear tag u d ∷ g) ≡ cond (takes GET_VERSION t) [] (cond (takes PSK_EXCHANGE t) others left) =
    session_of-Clear id tag u d g ∙ ap (λ (b : Bool). cond b [] (cond (takes PSK_EXCHANGE u) others left)) version ∙ ap (λ (b : Bool). cond (takes GET_VERSION t) [] (cond b others left)) psk in
    let old = left_of id tag t d h is in
    let are = are_left r h w tag t d id ids shown in
    subst (λ (x : Events). IsSettled id o x (session_of id (Clear tag t d ∷ h))) (sym new)
    (subst (λ (x : Events). IsSettled id o (cond (takes GET_VERSION t) [] (cond (takes PSK_EXCHANGE t) others left)) x) (sym old)
    (by_parts id o n (asked_bytes u.effect) (answer_in u.effect) s left (takes GET_VERSION t) (takes PSK_EXCHANGE t) given
    (λ exchange gives.
    ap (λ (b : Bool). cond b (Some (id_in_exchange (answer_in u.effect))) None) (psk ∙ exchange)
    ∙ ap Some (eqb-true (id_in_exchange (answer_in u.effect)) id (and_parts (id_in_exchange (answer_in u.effect) == id) (not (id == 0)) gives).0))
    are.0 (λ other. are.1 (psk ∙ other))))
request_settled r h w ids (Sealed tag m t reply d) id is shown = absurd (false≢true is)
request_settled r h w ids (Queued bytes) id is shown = absurd (false≢true is)
request_settled r h w ids (Ticked seconds) id is shown = absurd (false≢true is)
request_settled r h w ids (Dropped which) id is shown = absurd (false≢true is)

-- ---- The whole history.

module _ (r : RspSetup) (w ids : List ℕ) (id : ℕ) where
  by_unseen : (e : Entry) (h : History) (b : Bool) → is_unseen_in None e ≡ b → MatchBool b (Unit {0}) (IsQuiet e × IsClearSince h) → MatchBool b (MayLeadToEntry r ids h (seen w e)) (MayHaveLed r None w ids h)
      → cond b true (not (touches (cond b (id_begun (seen w e)) (begun_with None w h)) e) && is_untouched None (cond b (id_begun (seen w e)) (begun_with None w h)) h) ≡ true
      → (IsClearSince h → MayHaveLed r None w ids h → is_untouched None (begun_with None w h) h ≡ true → IsSettled id (begun_with None w h) (session_of id (settled None w ids h)) (session_of id h))
      → IsSettled id (cond b (id_begun (seen w e)) (begun_with None w h)) (session_of id (settled None w ids (e ∷ h))) (session_of id (e ∷ h))
  by_unseen e h true is since led untouched rest =
      subst (λ (l : History). IsSettled id (id_begun (seen w e)) (session_of id l) (session_of id (e ∷ h))) (sym (settled_here None w ids e h is)) (request_settled r h w ids e id is led.1)
  by_unseen e h false is since led untouched rest =
      let o : Option ℕ = begun_with None w h in
      let parts = and_parts (not (touches o e)) _ untouched in
      subst (λ (l : History). IsSettled id o (session_of id l) (session_of id (e ∷ h))) (sym (settled_behind None w ids e h is))
      (behind id o (settled None w ids h) h e since.0 (not-true (touches o e) parts.0) (rest since.1 led parts.1))

  pub settled_sessions : (h : History) → IsClearSince h → MayHaveLed r None w ids h → is_untouched None (begun_with None w h) h ≡ true → IsSettled id (begun_with None w h) (session_of id (settled None w ids h)) (session_of id h)
  settled_sessions [] since led untouched = absurd since
  settled_sessions (e ∷ h) since led untouched = by_unseen e h (is_unseen_in None e) refl since led untouched (settled_sessions h)
