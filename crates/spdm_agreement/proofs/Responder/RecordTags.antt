-- The tags of records at a responder: which are compared, and which are made.
use Rattle.std.proofs.Common.{◌≡◌, ℕ, List, [], ◌∷◌, ◌++◌, drop, take, Bool, true, false, cond, Option, Some, None, is_none, ◌==◌, ◌&&◌, refl, sym, ap, inl, true≢false}
use Rattle.std.specs.Prelude.{slice_index}
use Rattle.byteorder.specs.Endian.{little_number}
use Rattle.aes_gcm.specs.Gcm.{tag_of}
use Rattle.key_schedule.specs.Purpose.{Purpose, key_of, iv_of}
use Rattle.secured_record.specs.Faults.{header_fault, fault_behind, fault_of, is_authentic, tag_part, text_part}
use Rattle.spdm_basis.specs.Tests.{first_of_tests}
use Rattle.secured_record.specs.Format.{nonce}
use Rattle.std.proofs.lemmas.Slice.Eq.{bytes_eq-Decides}
use Rattle.spdm_basis.specs.declared.causes.record_fault.RecordFault.{RecordFault}
use Rattle.spdm_basis.specs.declared.causes.record_fault.RecordFault.TheVariants.{BadTag, BadInnerLength}
use Rattle.spdm_grammar.specs.Message.{RequestMessage}
use Rattle.spdm_grammar.specs.Message.RequestMessage.{PskFinish}
use Rattle.spdm_grammar.specs.declared.messages.choice.Choice.{Choice}
use Rattle.responder_machine.specs.Answer.{request_at}
use Rattle.spdm_machine.specs.Keys.{record_fault}
use Rattle.responder_machine.specs.Place.{session_place}
use Rattle.responder_machine.specs.Records.{opening_fault, opened, request_purpose, reply_purpose, reply_number, reply_record}
use Rattle.responder_machine.specs.Refusal.{refused_form}
use Rattle.responder_machine.specs.Responder.{inner_refusal, inner_reply}
use Rattle.responder_machine.specs.ResponderLog.{finish_check, finish_acts, inner_acts, record_check, unopened_acts}
use Rattle.responder_machine.specs.Session.{Events, stage_of, session_terms, request_next, id_bytes, is_spent}
use Rattle.responder_machine.specs.Setup.{RspSetup}
use Rattle.spdm_machine.specs.TagLog.{Log, record_input, record_tag, checked_record}
use Rattle.spdm_machine.specs.TagLog.Act.{Checked}
use Rattle.responder_machine.specs.Turn.{Turn}
use Rattle.spdm_agreement.specs.Moves.{IsPassed}
use Rattle.spdm_agreement.specs.Story.{served_first, taken_text, reply_text}
use Rattle.spdm_agreement.proofs.Responder.Comparisons.{AreChecks}
use Rattle.spdm_agreement.proofs.Messages.Beginnings.{sealed_of}
use Rattle.spdm_agreement.proofs.Messages.RecordTexts.{made_input, checked_input, inner_text}
use Rattle.std.proofs.lemmas.Bool.{not-false}

-- ---- Only comparisons.

checked_by : (choice : Choice) (p : Purpose) (number : ℕ) (id sealed : List ℕ) (b : Bool) → AreChecks (cond b (Checked p (record_input number sealed) (record_tag choice p number sealed) (tag_part sealed) ∷ []) [])
checked_by choice p number id sealed true = tt
checked_by choice p number id sealed false = tt

check_by : (r : RspSetup) (s : Events) (sealed : List ℕ) (b : Bool) → AreChecks (cond b [] (checked_record (session_terms s).choice (request_purpose r.psk s) (request_next s) (id_bytes s) sealed))
check_by r s sealed true = tt
check_by r s sealed false = checked_by (session_terms s).choice (request_purpose r.psk s) (request_next s) (id_bytes s) sealed (is_none (header_fault (id_bytes s) (request_next s) sealed))

pub check_checks : (r : RspSetup) (s : Events) (sealed : List ℕ) → AreChecks (record_check r s sealed)
check_checks r s sealed = check_by r s sealed (is_spent s)

pub unopened_checks : (r : RspSetup) (s : Events) (sealed : List ℕ) → AreChecks (unopened_acts r s sealed)
unopened_checks r [] sealed = tt
unopened_checks r (e ∷ s) sealed = check_checks r (e ∷ s) sealed

finish_checks : (r : RspSetup) (s : Events) (m : List ℕ) (o : Option RequestMessage) → AreChecks (finish_check r s m o)
finish_checks r s m (Some (PskFinish verify)) = tt
finish_checks r s m _ = tt

finish_by : (r : RspSetup) (s : Events) (m : List ℕ) (b : Bool) → AreChecks (cond b (finish_check r s m (request_at (session_place s) m)) [])
finish_by r s m true = finish_checks r s m (request_at (session_place s) m)
finish_by r s m false = tt

inner_by : (r : RspSetup) (s : Events) (inner : List ℕ) (b : Bool) → AreChecks (cond b (finish_acts r s (drop 1 inner)) [])
inner_by r s inner true = finish_by r s (drop 1 inner) (is_none (refused_form r (session_place s) (drop 1 inner)))
inner_by r s inner false = tt

pub inner_checks : (r : RspSetup) (s : Events) (inner : List ℕ) → AreChecks (inner_acts r s inner)
inner_checks r s inner = inner_by r s inner (is_none (inner_refusal (stage_of s) inner) && slice_index inner 0 == 5)

-- ---- A record that opens.

two : (a b : Bool) → first_of_tests ((a, BadTag) ∷ (b, BadInnerLength) ∷ []) ≡ None → a ≡ false
two true b e = absurd (cc)
two false b e = refl

behind_none : (o : Option RecordFault) (key iv : List ℕ) (number : ℕ) (sealed : List ℕ) → fault_behind o key iv number sealed ≡ None → (o ≡ None) × (is_authentic key iv number sealed ≡ true)
behind_none (Some fault) key iv number sealed e = absurd (cc)
behind_none None key iv number sealed e = (refl, not-false _ (two _ _ e))

no_fault : (choice : Choice) (p : Purpose) (number : ℕ) (id sealed : List ℕ) → record_fault choice p number id sealed ≡ None
    → (header_fault id number sealed ≡ None) × (record_tag choice p number sealed ≡ tag_part sealed)
unfolding record_fault fault_of is_authentic record_tag
no_fault choice p number id sealed e =
    let key = key_of choice.hash choice.aead p in
    let iv = iv_of choice.hash p in
    let l = behind_none (header_fault id number sealed) key iv number sealed e in
    (l.0, sym ((bytes_eq-Decides (tag_part sealed) (tag_of key (nonce iv number) (take 8 sealed) (text_part sealed))).0 l.1))

not_spent : (b : Bool) (fault : RecordFault) (o : Option RecordFault) → cond b (Some fault) o ≡ None → (b ≡ false) × (o ≡ None)
not_spent true fault o e = absurd (cc)
not_spent false fault o e = (refl, e)

opened_by : (r : RspSetup) (s : Events) (sealed : List ℕ) → opening_fault r.psk s sealed ≡ None
    → (is_spent s ≡ false) × (record_fault (session_terms s).choice (request_purpose r.psk s) (request_next s) (id_bytes s) sealed ≡ None)
unfolding opening_fault
opened_by r s sealed e = not_spent (is_spent s) _ _ e

-- Its tag was compared, and was right.
passed_by : (p : Purpose) (i i' v w : List ℕ) (spent header : Bool) (log : Log) → spent ≡ false → header ≡ true → i ≡ i' → v ≡ w
    → IsPassed p i' (cond spent [] (cond header (Checked p i v w ∷ []) []) ++ log)
passed_by p i i' v w true header log a b is same = absurd (true≢false a)
passed_by p i i' v w false false log a b is same = absurd (true≢false (sym b))
passed_by p i i' v w false true log a b is same = inl (refl, is, same)

pub check_passed : (r : RspSetup) (s : Events) (sealed : List ℕ) (log : Log) → opening_fault r.psk s sealed ≡ None
    → IsPassed (request_purpose r.psk s) (request_next s ∷ sealed_of (served_first s) (request_purpose r.psk s) (request_next s) (taken_text r.psk s sealed)) (record_check r s sealed ++ log)
check_passed r s sealed log e =
    let p = request_purpose r.psk s in
    let n = request_next s in
    let o = opened_by r s sealed e in
    let l = no_fault (session_terms s).choice p n (id_bytes s) sealed o.1 in
    passed_by p (record_input n sealed) (n ∷ sealed_of (served_first s) p n (taken_text r.psk s sealed)) (record_tag (session_terms s).choice p n sealed) (tag_part sealed)
    (is_spent s) (is_none (header_fault (id_bytes s) n sealed)) log o.0 (ap is_none l.0) (checked_input (served_first s) p n sealed l.0) l.1

-- ---- The record that answers.

-- What its tag is computed over.
pub reply_input : (r : RspSetup) (s : Events) (t : Turn)
    → record_input (reply_number s t) (reply_record r.psk s t (inner_reply t) []) ≡ reply_number s t ∷ sealed_of (served_first s) (reply_purpose r.psk s t) (reply_number s t) (reply_text t)
unfolding reply_record
reply_input r s t = made_input (served_first s) (reply_purpose r.psk s t) (reply_number s t) (inner_reply t) []

-- The inner message is that of the text.
pub opened_inner : (psk : List ℕ) (s : Events) (sealed : List ℕ) → opened psk s sealed ≡ take (little_number 2 (taken_text psk s sealed)) (drop 2 (taken_text psk s sealed))
unfolding opened
opened_inner psk s sealed = inner_text (session_terms s).choice (request_purpose psk s) (request_next s) sealed
