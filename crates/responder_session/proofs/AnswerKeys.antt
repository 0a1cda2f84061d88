-- Keys of answers, and which records open.
use Rattle.std.proofs.Common.{◌≡◌, ap, sym, subst, refl, ℕ, ◌+◌, List, Bool, true, false}
use Rattle.std.specs.Prelude.{if◌then◌else◌, Err, None, Ok, Option, Result, Some, MatchResult, is_none, is_ok}
use Rattle.key_schedule.specs.Purpose.{Purpose}
use Rattle.responder_machine.specs.Records.{reply_number, response_purpose}
use Rattle.responder_machine.specs.Session.{Events, id_bytes, response_epoch, response_next, session_terms}
use Rattle.responder_machine.specs.Turn.{Turn, updates}
use Rattle.spdm_basis.specs.declared.causes.record_fault.RecordFault.{RecordFault}
use Rattle.responder_session.proofs.Moves.{if_no}
use Rattle.responder_session.specs.OwnAnswers.{IsAnswerKey, IsKeyOfNext, IsKeyOfReply}
use Rattle.responder_session.specs.declared.answer_key.AnswerKey.{AnswerKey}

-- A record opens where it has no fault.
pub opens_is : {U : Type 0} (x : Result U RecordFault) (fault : Option RecordFault) → MatchResult x (λ _. fault ≡ None) (λ e. fault ≡ Some e) → is_ok x ≡ is_none fault
opens_is (Ok u) fault h = sym (ap is_none h)
opens_is (Err e) fault h = sym (ap is_none h)

-- ---- The key of a reply.

if_yes : {A : Type 0} (b : Bool) (x y : A) → b ≡ true → (if b then x else y) ≡ x
if_yes true x y h = refl
if_yes false x y h = absurd (cc)

-- A turn that does not update both keys is answered under the key of the next answer.
pub reply_stays : (key : AnswerKey) (psk : List ℕ) (s : Events) (t : Turn) → updates 2 t ≡ false → IsKeyOfNext key psk s → IsKeyOfReply key psk s t
reply_stays key psk s t other is =
    subst (λ (p : Purpose). IsAnswerKey key (session_terms s).choice p (reply_number s t) (id_bytes s)) (sym (if_no (updates 2 t) (record (response_purpose psk s) { epoch = response_epoch s + 1 }) (response_purpose psk s) other))
    (subst (λ (n : ℕ). IsAnswerKey key (session_terms s).choice (response_purpose psk s) n (id_bytes s)) (sym (if_no (updates 2 t) 0 (response_next s) other)) is)

-- One that does is answered first under the key that follows.
pub reply_follows : (key : AnswerKey) (psk : List ℕ) (s : Events) (t : Turn) → updates 2 t ≡ true
    → IsAnswerKey key (session_terms s).choice (record (response_purpose psk s) { epoch = response_epoch s + 1 }) 0 (id_bytes s) → IsKeyOfReply key psk s t
reply_follows key psk s t all is =
    subst (λ (p : Purpose). IsAnswerKey key (session_terms s).choice p (reply_number s t) (id_bytes s)) (sym (if_yes (updates 2 t) (record (response_purpose psk s) { epoch = response_epoch s + 1 }) (response_purpose psk s) all))
    (subst (λ (n : ℕ). IsAnswerKey key (session_terms s).choice (record (response_purpose psk s) { epoch = response_epoch s + 1 }) n (id_bytes s)) (sym (if_yes (updates 2 t) 0 (response_next s) all)) is)
