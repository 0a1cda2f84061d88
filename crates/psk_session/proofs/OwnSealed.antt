-- What a session sealed itself is opened under its request key.
use Rattle.std.proofs.Common.{◌≡◌, ◌≤◌, ◌+◌, ◌∙◌, ap, sym, subst, refl, ℕ, List, [], ◌∷◌, ◌++◌, ◌<◌, true, false, length, Bool, arith}
use Rattle.std.specs.Prelude.{bytes_eq, is_err, nat_le, IsOk, MatchResult, None, Ok, Err, OnErr, OnOk, Result, Some}
use Rattle.std.proofs.lemmas.Bool.{false≢true, le-leb, leb-true}
use Rattle.std.proofs.lemmas.Slice.Eq.{bytes_eq-Decides}
use Rattle.hmac_hkdf.specs.Hmac.{hmac}
use Rattle.key_schedule.specs.Keys.{DirectionSecret}
use Rattle.key_schedule.specs.Purpose.{Purpose, application_record}
use Rattle.key_schedule.specs.declared.direction.Direction.TheVariants.{Request, Response}
use Rattle.requester_machine.specs.Message.{Ask}
use Rattle.requester_machine.specs.Message.Ask.{AskFinish, AskData, AskBeat, AskUpdate, AskVerify, AskMeasure, AskChunk, AskEnd}
use Rattle.requester_machine.specs.Records.{request_purpose, sealed_next}
use Rattle.requester_machine.specs.Sending.{finish_verify}
use Rattle.requester_machine.specs.Session.{Steps, id_bytes, request_epoch, request_next, session_hash, session_terms, stage_of, t1_of, t2_of}
use Rattle.requester_machine.specs.Session.Step.{Asked}
use Rattle.requester_machine.specs.SpentLaws.{FewFor}
use Rattle.running_hash.specs.Hash.{hash_of}
use Rattle.secured_record.specs.Contents.{IsRecordOf}
use Rattle.secured_record.specs.Format.{iv_of, key_of, record_of}
use Rattle.session_keys.proofs.Purposes.{sealed_at, size_of}
use Rattle.session_keys.specs.Keys.{IsKeyOf}
use Rattle.sha2.proofs.Facts256.{length-sha256}
use Rattle.sha2.proofs.Facts512.{length-sha384}
use Rattle.spdm_basis.specs.SessionIdBytes.{session_id_bytes}
use Rattle.spdm_basis.specs.declared.values.hash_alg.HashAlg.{HashAlg}
use Rattle.spdm_basis.specs.declared.values.hash_alg.HashAlg.TheVariants.{Sha256, Sha384}
use Rattle.spdm_basis.specs.declared.causes.record_fault.RecordFault.{RecordFault}
use Rattle.spdm_basis.specs.declared.values.session_id.SessionId.{SessionId}
use Rattle.spdm_grammar.specs.declared.messages.choice.Choice.{Choice}
use Rattle.spdm_grammar.specs.Message.{ChunkMessage}
use Rattle.spdm_machine.specs.Keys.{inner_message, record_fault, sealed_of, verify_data}
use Rattle.psk_session.specs.Told.{told_of}
use Rattle.psk_session.specs.Course.{with_asked}
use Rattle.psk_session.specs.Kept.{Keeps}
use Rattle.psk_session.specs.Opening.{finish_inner, finish_record}
use Rattle.psk_session.specs.OwnRecords.{IsOwnOpened, IsPadded, SealsFor, TellsPadded, own_fault, own_inner}
use Rattle.psk_session.specs.ReqSession.{IsAwaiting, awaited_in}
use Rattle.psk_session.specs.Waiting.{awaited_by}
use Rattle.psk_session.specs.declared.session_request.Awaited.{Awaited}
use Rattle.psk_session.specs.declared.kept.Kept.{Kept}
use Rattle.psk_session.specs.declared.req_session.ReqSession.{ReqSession}
use Rattle.psk_session.proofs.Past.{past_purpose, t2_asked}

-- ---- The key and the id that are kept.

pub seals_next : (kept : Kept) (psk : List ℕ) (s : Steps) (epoch : ℕ) → Keeps kept psk s epoch → SealsFor kept.request kept.id psk s
seals_next kept psk s epoch k = record {
  is_key = subst (λ (p : Purpose). IsKeyOf kept.request (session_terms s).choice p) (past_purpose (stage_of s) psk (t1_of s) (t2_of s) Request (request_epoch s) k.past) k.request;
  is_id = k.id;
}

-- They are the same while the answer to the newest record is awaited.
pub seals_last : (x : ReqSession) (psk : List ℕ) (s : Steps) (a : Ask) (inner pad : List ℕ) → IsAwaiting x psk (with_asked psk s a inner pad) a → SealsFor x.kept.request x.kept.id psk s
seals_last x psk s a inner pad stands =
    let k = stands.1.keeps in
    let awaits = stands.1.awaits in
    let sealed = sealed_next psk s inner pad in
    let same : t2_of (with_asked psk s a inner pad) ≡ t2_of s = ap (λ (other : Ask). t2_of (Asked other inner sealed ∷ s)) awaits.is ∙ t2_asked (awaited_in x.standing) awaits.before s inner sealed in
    record {
      is_key = subst (λ (p : Purpose). IsKeyOf x.kept.request (session_terms s).choice p) (past_purpose (stage_of s) psk (t1_of s) (t2_of s) Request (request_epoch s) k.past)
          (subst (λ (t : List ℕ). IsKeyOf x.kept.request (session_terms s).choice (application_record psk t Request (request_epoch s))) same k.request);
      is_id = k.id;
    }

-- The number of the newest record has two bytes.
pub few_most : (a : Ask) (request response : ℕ) → FewFor a request response → request ≤ 65536
few_most AskFinish request response few = (let most = few.0 in omega arith)
few_most AskData request response few = (let most = few.0 in omega arith)
few_most AskBeat request response few = (let most = few.0 in omega arith)
few_most (AskUpdate true) request response few = few.0
few_most (AskUpdate false) request response few = (let most = few.0 in omega arith)
few_most AskVerify request response few = (let most = few.0 in omega arith)
few_most (AskMeasure op) request response few = (let most = few.0 in omega arith)
few_most (AskChunk op handle number before) request response few = (let most = few.0 in let last = few.2 in omega arith)
few_most AskEnd request response few = few.0

-- ---- What is sealed.

-- Under such a key and id the records of the session are those of the key.
pub as_next : (key : DirectionSecret) (id : SessionId) (psk : List ℕ) (s : Steps) (number : ℕ) (inner pad sealed : List ℕ) → SealsFor key id psk s → number ≡ request_next s
    → sealed ≡ record_of (key_of key) (iv_of key) (session_id_bytes id.req id.rsp) number inner pad → sealed ≡ sealed_next psk s inner pad
unfolding sealed_next
as_next key id psk s number inner pad sealed is same e =
    let choice = (session_terms s).choice in
    let p = request_purpose psk s in
    sealed_at key choice p number (session_id_bytes id.req id.rsp) inner pad sealed is.is_key e
    ∙ ap (λ (n : ℕ). sealed_of choice p n (session_id_bytes id.req id.rsp) inner pad) same
    ∙ ap (λ (i : SessionId). sealed_of choice p (request_next s) (session_id_bytes i.req i.rsp) inner pad) is.is_id

pub next_as : (key : DirectionSecret) (id : SessionId) (psk : List ℕ) (s : Steps) (number : ℕ) (inner pad sealed : List ℕ) → SealsFor key id psk s → number ≡ request_next s
    → sealed ≡ sealed_next psk s inner pad → sealed ≡ record_of (key_of key) (iv_of key) (session_id_bytes id.req id.rsp) number inner pad
next_as key id psk s number inner pad sealed is same e = e ∙ sym (as_next key id psk s number inner pad _ is same refl)

-- ---- Another padding.

-- What is kept does not depend on the padding of the newest record.
pub keeps_repadded : (w : Awaited) (before : List ChunkMessage) (inner old new : List ℕ) (kept : Kept) (psk : List ℕ) (s : Steps) (epoch : ℕ) → Keeps kept psk (Asked (awaited_by w before) inner old ∷ s) epoch
    → Keeps kept psk (Asked (awaited_by w before) inner new ∷ s) epoch
unfolding told_of
keeps_repadded w before inner old new kept psk s epoch k =
    let same : t2_of (Asked (awaited_by w before) inner old ∷ s) ≡ t2_of (Asked (awaited_by w before) inner new ∷ s) = t2_asked w before s inner old ∙ sym (t2_asked w before s inner new) in
    let choice = (session_terms s).choice in
    record {
      past = k.past;
      choice = k.choice;
      common = k.common;
      id = k.id;
      request = subst (λ (t : List ℕ). IsKeyOf kept.request choice (application_record psk t Request (request_epoch s))) same k.request;
      response = subst (λ (t : List ℕ). IsKeyOf kept.response choice (application_record psk t Response epoch)) same k.response;
      request_next = k.request_next;
      response_next = k.response_next;
      taken = k.taken;
      th2 = k.th2 ∙ ap (λ (t : List ℕ). (session_hash s).digest t) same;
      told = k.told;
    }

-- ---- How long the record of PSK_FINISH is.

length_digest : (hash : HashAlg) (m : List ℕ) → length ((hash_of hash).digest m) ≤ 48
length_digest Sha256 m = omega (arith, length-sha256 m)
length_digest Sha384 m = omega (arith, length-sha384 m)

length_hmac : (hash : HashAlg) (key text : List ℕ) → length (hmac (hash_of hash) key text) ≤ 48
unfolding hmac
length_hmac hash key text = length_digest hash _

length_verify : (psk : List ℕ) (s : Steps) → length (finish_verify psk s) ≤ 48
unfolding verify_data
length_verify psk s = length_hmac (session_terms s).choice.hash _ _

pub length_next : (psk : List ℕ) (s : Steps) (inner pad sealed : List ℕ) → sealed ≡ sealed_next psk s inner pad → length sealed ≡ length inner + length pad + 26
unfolding sealed_next sealed_of
length_next psk s inner pad sealed e = size_of _ _ _ _ (request_next s) inner pad sealed e

pub finish_short : (psk : List ℕ) (s : Steps) (pad sealed : List ℕ) → length pad ≤ 16 → sealed ≡ finish_record psk s pad → length sealed ≤ 96
finish_short psk s pad sealed most e = omega (arith, length_verify psk s, length_next psk s (finish_inner psk s) pad sealed e)

-- ---- What opens.

pub own_opened : (key : DirectionSecret) (id : SessionId) (psk : List ℕ) (s : Steps) (number : ℕ) (sealed : List ℕ) (r : Result Unit RecordFault) (out : List ℕ) → SealsFor key id psk s → number ≡ request_next s
    → MatchResult r (λ _. record_fault (session_terms s).choice (request_purpose psk s) number (session_id_bytes id.req id.rsp) sealed ≡ None)
    (λ e. record_fault (session_terms s).choice (request_purpose psk s) number (session_id_bytes id.req id.rsp) sealed ≡ Some e)
    → OnOk r (out ≡ inner_message (session_terms s).choice (request_purpose psk s) number sealed) → IsOwnOpened psk s sealed r out
unfolding own_fault own_inner
own_opened key id psk s number sealed r out is same fault inner = by_result r fault inner
  where
    choice : Choice
    choice = (session_terms s).choice

    purpose : Purpose
    purpose = request_purpose psk s

    fault_is : record_fault choice purpose number (session_id_bytes id.req id.rsp) sealed ≡ record_fault choice purpose (request_next s) (id_bytes s) sealed
    fault_is =
        ap (λ (n : ℕ). record_fault choice purpose n (session_id_bytes id.req id.rsp) sealed) same
        ∙ ap (λ (i : SessionId). record_fault choice purpose (request_next s) (session_id_bytes i.req i.rsp) sealed) is.is_id

    by_result : (x : Result Unit RecordFault)
        → MatchResult x (λ _. record_fault choice purpose number (session_id_bytes id.req id.rsp) sealed ≡ None) (λ e. record_fault choice purpose number (session_id_bytes id.req id.rsp) sealed ≡ Some e)
        → OnOk x (out ≡ inner_message choice purpose number sealed) → IsOwnOpened psk s sealed x out
    by_result (Ok u) none opened = (sym fault_is ∙ none, opened ∙ ap (λ (n : ℕ). inner_message choice purpose n sealed) same)
    by_result (Err e) some opened = sym fault_is ∙ some

-- ---- Whether it is the same but for its padding.

pub not_opened : {U E A : Type 0} (r : Result U E) → IsOk r → is_err r ≡ true → A
not_opened (Ok u) ok fails = absurd (false≢true fails)
not_opened (Err e) ok fails = absurd (cc)

pub on_ok : {U E P : Type 0} (r : Result U E) → is_err r ≡ false → OnOk r P → P
on_ok (Ok u) opens p = p
on_ok (Err e) opens p = absurd (false≢true (sym opens))

-- Both opened, to the same inner message.
pub padded_by : (key : DirectionSecret) (id : SessionId) (psk : List ℕ) (s : Steps) (number : ℕ) (inner sealed found : List ℕ) (b : Bool) → SealsFor key id psk s → number ≡ request_next s → found ≡ inner
    → IsRecordOf (key_of key) (iv_of key) (session_id_bytes id.req id.rsp) number sealed found → nat_le (length sealed) (length found + 42) ≡ b → TellsPadded psk s inner sealed b
padded_by key id psk s number inner sealed found true is same inside holds short =
    let pad = holds.0 in
    let e : sealed ≡ sealed_next psk s inner pad = subst (λ (m : List ℕ). sealed ≡ sealed_next psk s m pad) inside (as_next key id psk s number found pad sealed is same holds.1) in
    let long = length_next psk s inner pad sealed e in
    let most = leb-true (length sealed) (length found + 42) short in
    (pad, omega (arith, long, most, ap (λ (m : List ℕ). length m) inside), e)
padded_by key id psk s number inner sealed found false is same inside holds long =
    λ fits padded.
    let most = padded.1 in
    absurd (false≢true (sym long ∙ le-leb (length sealed) (length found + 42) (omega (arith, length_next psk s inner padded.0 sealed padded.2, most, ap (λ (m : List ℕ). length m) inside))))

-- It opened, to another inner message.
pub other_inner : (psk : List ℕ) (s : Steps) (inner sealed asked found : List ℕ) (b : Bool) → b ≡ false → b ≡ bytes_eq found asked → asked ≡ inner
    → (length sealed ≤ 4160 → IsPadded psk s inner sealed → found ≡ inner) → TellsPadded psk s inner sealed b
other_inner psk s inner sealed asked found true fails test inside opens = absurd (false≢true (sym fails))
other_inner psk s inner sealed asked found false fails test inside opens = λ fits padded. absurd (false≢true (test ∙ (bytes_eq-Decides found asked).1 (opens fits padded ∙ sym inside)))

-- What is put into an empty buffer that it fits into.
pub put_within : {U E : Type 0} (r : Result U E) (old new more : List ℕ) (size : ℕ) → old ≡ [] → OnOk r (new ≡ old ++ more) → OnErr r (size < length old + length more) → length more ≤ size → new ≡ more
put_within (Ok u) old new more size none ok full short = ok ∙ ap (λ (x : List ℕ). x ++ more) none
put_within (Err e) old new more size none ok full short = absurd (omega (arith, full, ap (λ (x : List ℕ). length x) none))
