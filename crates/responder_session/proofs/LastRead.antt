-- What is kept of a session opens the last record that it took, and the answer to it.
use Rattle.std.proofs.Common.{◌≡◌, ◌+◌, ◌-◌, ◌==◌, ◌&&◌, ◌∙◌, sym, ap, subst, arith, ℕ, List, Bool, true, Ok, Err}
use Rattle.std.proofs.lemmas.Bool.{false≢true}
use Rattle.std.specs.Prelude.{None, Some, OnOk, Result, MatchResult, is_none, is_ok, not}
use Rattle.key_schedule.specs.Purpose.{Purpose}
use Rattle.responder_machine.specs.Records.{request_purpose, response_purpose}
use Rattle.responder_machine.specs.Session.{Events, id_bytes, request_next, response_next, session_terms}
use Rattle.responder_session.proofs.AnswerKeys.{opens_is}
use Rattle.responder_session.specs.Kept.{Keeps}
use Rattle.responder_session.specs.LastRead.{last_opened, opens_last, opens_reply, reply_opened}
use Rattle.responder_session.specs.declared.kept.Kept.{Kept}
use Rattle.spdm_basis.specs.SessionIdBytes.{session_id_bytes}
use Rattle.spdm_basis.specs.declared.causes.record_fault.RecordFault.{RecordFault}
use Rattle.spdm_basis.specs.declared.values.session_id.SessionId.{SessionId}
use Rattle.spdm_grammar.specs.declared.messages.choice.Choice.{Choice}
use Rattle.spdm_machine.specs.Keys.{inner_message, record_fault}

-- ---- Under a purpose, by the number before this one.

abbrev opens_before : Choice → Purpose → (next : ℕ) → (id : List ℕ) → (sealed : List ℕ) → Bool
opens_before choice p next id sealed = not (next == 0) && is_none (record_fault choice p (next - 1) id sealed)

number_is : (next n : ℕ) → next ≡ n + 1 → next - 1 ≡ n
number_is next n is = omega (arith, is)

some_next : (next n : ℕ) → next ≡ n + 1 → not (next == 0) ≡ true
some_next next n is = ap (λ (x : ℕ). not (x == 0)) is ∙ later n
  where
    later : (x : ℕ) → not (x + 1 == 0) ≡ true
    later x = grind arith

is_before : {U : Type 0} (r : Result U RecordFault) (choice : Choice) (p : Purpose) (next n : ℕ) (id sealed : List ℕ) → next ≡ n + 1
    → MatchResult r (λ _. record_fault choice p n id sealed ≡ None) (λ e. record_fault choice p n id sealed ≡ Some e) → is_ok r ≡ opens_before choice p next id sealed
is_before r choice p next n id sealed is m =
    opens_is r (record_fault choice p n id sealed) m
    ∙ ap (λ (x : ℕ). is_none (record_fault choice p x id sealed)) (sym (number_is next n is))
    ∙ ap (λ (b : Bool). b && is_none (record_fault choice p (next - 1) id sealed)) (sym (some_next next n is))

-- Where it opened.
ok_holds : {U E : Type 0} (r : Result U E) (P : Type 0) → is_ok r ≡ true → OnOk r P → P
ok_holds (Ok u) P is holds = holds
ok_holds (Err e) P is holds = absurd (false≢true is)

-- ---- What is kept.

module _ (kept : Kept) (psk : List ℕ) (s : Events) (keeps : Keeps kept psk s) (sealed : List ℕ) where
  id_is : session_id_bytes kept.id.req kept.id.rsp ≡ id_bytes s
  id_is = ap (λ (x : SessionId). session_id_bytes x.req x.rsp) keeps.id

  pub last_told : {U : Type 0} (r : Result U RecordFault) (n : ℕ) → kept.request_next ≡ n + 1
      → MatchResult r (λ _. record_fault (session_terms s).choice (request_purpose psk s) n (session_id_bytes kept.id.req kept.id.rsp) sealed ≡ None)
      (λ e. record_fault (session_terms s).choice (request_purpose psk s) n (session_id_bytes kept.id.req kept.id.rsp) sealed ≡ Some e)
      → is_ok r ≡ opens_last psk s sealed
  last_told r n is m =
      is_before r (session_terms s).choice (request_purpose psk s) (request_next s) n (id_bytes s) sealed (sym keeps.request_next ∙ is)
      (subst (λ (l : List ℕ). MatchResult r (λ _. record_fault (session_terms s).choice (request_purpose psk s) n l sealed ≡ None)
      (λ e. record_fault (session_terms s).choice (request_purpose psk s) n l sealed ≡ Some e)) id_is m)

  pub reply_told : {U : Type 0} (r : Result U RecordFault) (n : ℕ) → kept.response_next ≡ n + 1
      → MatchResult r (λ _. record_fault (session_terms s).choice (response_purpose psk s) n (session_id_bytes kept.id.req kept.id.rsp) sealed ≡ None)
      (λ e. record_fault (session_terms s).choice (response_purpose psk s) n (session_id_bytes kept.id.req kept.id.rsp) sealed ≡ Some e)
      → is_ok r ≡ opens_reply psk s sealed
  reply_told r n is m =
      is_before r (session_terms s).choice (response_purpose psk s) (response_next s) n (id_bytes s) sealed (sym keeps.response_next ∙ is)
      (subst (λ (l : List ℕ). MatchResult r (λ _. record_fault (session_terms s).choice (response_purpose psk s) n l sealed ≡ None)
      (λ e. record_fault (session_terms s).choice (response_purpose psk s) n l sealed ≡ Some e)) id_is m)

  pub last_inner : {U : Type 0} (r : Result U RecordFault) (n : ℕ) (out : List ℕ) → kept.request_next ≡ n + 1 → is_ok r ≡ true
      → OnOk r (out ≡ inner_message (session_terms s).choice (request_purpose psk s) n sealed) → out ≡ last_opened psk s sealed
  last_inner r n out is ok holds =
      ok_holds r _ ok holds ∙ ap (λ (x : ℕ). inner_message (session_terms s).choice (request_purpose psk s) x sealed) (sym (number_is (request_next s) n (sym keeps.request_next ∙ is)))

  pub reply_inner : {U : Type 0} (r : Result U RecordFault) (n : ℕ) (out : List ℕ) → kept.response_next ≡ n + 1 → is_ok r ≡ true
      → OnOk r (out ≡ inner_message (session_terms s).choice (response_purpose psk s) n sealed) → out ≡ reply_opened psk s sealed
  reply_inner r n out is ok holds =
      ok_holds r _ ok holds ∙ ap (λ (x : ℕ). inner_message (session_terms s).choice (response_purpose psk s) x sealed) (sym (number_is (response_next s) n (sym keeps.response_next ∙ is)))
