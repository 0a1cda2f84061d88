-- What is kept of a session opens its records.
use Rattle.std.proofs.Common.{◌≡◌, ◌∙◌, sym, subst, refl, ℕ, List, Bool, true, false}
use Rattle.std.specs.Prelude.{◌==◌, ◌||◌, if◌then◌else◌, None, Some, Option, Result, MatchResult, OnOk}
use Rattle.responder_machine.specs.Records.{opening_fault, opened, request_purpose}
use Rattle.responder_machine.specs.Session.{Events, session_terms, request_next, is_spent, id_bytes}
use Rattle.spdm_basis.specs.SessionIdBytes.{session_id_bytes}
use Rattle.spdm_basis.specs.declared.causes.record_fault.RecordFault.{RecordFault}
use Rattle.spdm_basis.specs.declared.causes.record_fault.RecordFault.TheVariants.{KeySpent}
use Rattle.spdm_machine.specs.Keys.{record_fault, inner_message}
use Rattle.responder_session.specs.Kept.{Keeps}
use Rattle.responder_session.specs.declared.kept.Kept.{Kept}

-- A key is spent where the numbers that are kept say so.
spent_kept : (kept : Kept) (psk : List ℕ) (s : Events) → Keeps kept psk s → (kept.request_next == 65536 || kept.response_next == 65536) ≡ is_spent s
spent_kept kept psk s k = λ i. k.request_next i == 65536 || k.response_next i == 65536

by_spent : (b : Bool) (fault : Option RecordFault) → b ≡ true → (if b then Some KeySpent else fault) ≡ Some KeySpent
by_spent b fault h = rw h refl

pub opening_spent : (kept : Kept) (psk : List ℕ) (s : Events) (sealed : List ℕ) → Keeps kept psk s → (kept.request_next == 65536 || kept.response_next == 65536) ≡ true
    → opening_fault psk s sealed ≡ Some KeySpent
unfolding opening_fault
opening_spent kept psk s sealed k h = by_spent (is_spent s) _ (sym (spent_kept kept psk s k) ∙ h)

-- Where no key is spent, a record has the fault that it has under the key, the number and the id that are kept.
unspent : (b : Bool) (fault : Option RecordFault) → b ≡ false → fault ≡ (if b then Some KeySpent else fault)
unspent b fault h = rw h refl

faults_kept : (kept : Kept) (psk : List ℕ) (s : Events) (sealed : List ℕ) → Keeps kept psk s → (kept.request_next == 65536 || kept.response_next == 65536) ≡ false
    → record_fault (session_terms s).choice (request_purpose psk s) kept.request_next (session_id_bytes kept.id.req kept.id.rsp) sealed ≡ opening_fault psk s sealed
unfolding opening_fault
faults_kept kept psk s sealed k h =
    (λ i. record_fault (session_terms s).choice (request_purpose psk s) (k.request_next i) (session_id_bytes (k.id i).req (k.id i).rsp) sealed)
    ∙ unspent (is_spent s) (record_fault (session_terms s).choice (request_purpose psk s) (request_next s) (id_bytes s) sealed) (sym (spent_kept kept psk s k) ∙ h)

pub opening_unspent : {U : Type 0} (r : Result U RecordFault) (kept : Kept) (psk : List ℕ) (s : Events) (sealed : List ℕ)
    → Keeps kept psk s → (kept.request_next == 65536 || kept.response_next == 65536) ≡ false
    → MatchResult r (λ _. record_fault (session_terms s).choice (request_purpose psk s) kept.request_next (session_id_bytes kept.id.req kept.id.rsp) sealed ≡ None)
    (λ e. record_fault (session_terms s).choice (request_purpose psk s) kept.request_next (session_id_bytes kept.id.req kept.id.rsp) sealed ≡ Some e)
    → MatchResult r (λ _. opening_fault psk s sealed ≡ None) (λ e. opening_fault psk s sealed ≡ Some e)
opening_unspent r kept psk s sealed k h m =
    subst (λ (x : Option RecordFault). MatchResult r (λ _. x ≡ None) (λ e. x ≡ Some e)) (faults_kept kept psk s sealed k h) m

pub opened_kept : {U : Type 0} (r : Result U RecordFault) (kept : Kept) (psk : List ℕ) (s : Events) (sealed out : List ℕ) → Keeps kept psk s
    → OnOk r (out ≡ inner_message (session_terms s).choice (request_purpose psk s) kept.request_next sealed) → OnOk r (out ≡ opened psk s sealed)
unfolding opened
opened_kept r kept psk s sealed out k m =
    subst (λ (n : ℕ). OnOk r (out ≡ inner_message (session_terms s).choice (request_purpose psk s) n sealed)) k.request_next m
