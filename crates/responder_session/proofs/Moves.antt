-- What a record leaves of what is kept of its session.
use Rattle.std.proofs.Common.{◌≡◌, ◌∙◌, ap, sym, subst, refl, ℕ, ◌+◌, List, ◌∷◌, Bool, true, false}
use Rattle.std.specs.Prelude.{◌||◌, ◌%◌, ◌^◌, if◌then◌else◌, Some}
use Rattle.key_schedule.specs.Purpose.{Purpose}
use Rattle.key_schedule.specs.declared.direction.Direction.TheVariants.{Request, Response}
use Rattle.responder_machine.specs.Records.{response_purpose, reply_purpose, reply_record}
use Rattle.responder_machine.specs.Responder.{inner_reply}
use Rattle.responder_machine.specs.Session.{Events, stage_of, session_hash, session_terms, id_bytes, t1_of, t2_of, finish_of, finish_answer, request_epoch, response_epoch, request_next, response_next, taken_of, last_of}
use Rattle.responder_machine.specs.Session.Event.{Heard}
use Rattle.responder_machine.specs.Turn.{Turn, is_data, takes, updates, request_in, answer_in}
use Rattle.session_keys.specs.Keys.{IsKeyOf}
use Rattle.spdm_basis.specs.SessionIdBytes.{session_id_bytes}
use Rattle.spdm_grammar.specs.declared.names.request_code.TheConstants.{PSK_FINISH, KEY_UPDATE}
use Rattle.spdm_grammar.specs.declared.told.phase.Stage.TheVariants.{Open, Verifying}
use Rattle.spdm_machine.specs.Keys.{sealed_of}
use Rattle.spdm_machine.specs.Sessions.{purpose_in, transcript_in}
use Rattle.transcript.specs.Transcripts as transcript
use Rattle.responder_session.specs.Kept.{Keeps, kept_record}
use Rattle.responder_session.specs.Turns.{KeepsKeys}
use Rattle.responder_session.specs.declared.kept.Kept.{Kept}

-- ---- The record that answers.

pub if_no : {A : Type 0} (b : Bool) (x y : A) → b ≡ false → (if b then x else y) ≡ y
if_no true x y h = absurd (cc)
if_no false x y h = refl

-- What is sealed under the key and the number that are kept answers a turn that is no update of all keys.
pub sealed_kept : (kept : Kept) (psk : List ℕ) (s : Events) (t : Turn) (inner pad : List ℕ) → Keeps kept psk s → updates 2 t ≡ false → inner_reply t ≡ inner
    → sealed_of (session_terms s).choice (response_purpose psk s) kept.response_next (session_id_bytes kept.id.req kept.id.rsp) inner pad ≡ reply_record psk s t (inner_reply t) pad
unfolding reply_record
sealed_kept kept psk s t inner pad k other same =
    (λ i. sealed_of (session_terms s).choice (response_purpose psk s) (k.response_next i) (session_id_bytes (k.id i).req (k.id i).rsp) (sym same i) pad)
    ∙ ap (λ (p : Purpose). sealed_of (session_terms s).choice p (response_next s) (id_bytes s) (inner_reply t) pad) (sym (if_no (updates 2 t) (record (response_purpose psk s) { epoch = response_epoch s + 1 }) (response_purpose psk s) other))
    ∙ ap (λ (n : ℕ). sealed_of (session_terms s).choice (reply_purpose psk s t) n (id_bytes s) (inner_reply t) pad) (sym (if_no (updates 2 t) 0 (response_next s) other))

-- ---- A turn that leaves the keys.

pub same_stage : (s : Events) (m : List ℕ) (t : Turn) (reply : List ℕ) → KeepsKeys t → stage_of (Heard m t reply ∷ s) ≡ stage_of s
same_stage s m t reply k =
    if_no (takes PSK_FINISH t) Open (if updates 3 t then Open else (if takes KEY_UPDATE t then Verifying else stage_of s)) k.finish
    ∙ if_no (updates 3 t) Open (if takes KEY_UPDATE t then Verifying else stage_of s) k.verify
    ∙ if_no (takes KEY_UPDATE t) Verifying (stage_of s) k.update

same_t2 : (s : Events) (m : List ℕ) (t : Turn) (reply : List ℕ) → takes PSK_FINISH t ≡ false → t2_of (Heard m t reply ∷ s) ≡ t2_of s
same_t2 s m t reply other =
    let finish = if_no (takes PSK_FINISH t) (request_in t.effect) (finish_of s) other in
    let answer = if_no (takes PSK_FINISH t) (answer_in t.effect) (finish_answer s) other in
    λ i. transcript.t2_of (transcript.vca_of (Rattle.responder_machine.specs.Session.session_negotiation s)) (Rattle.responder_machine.specs.Session.exchange_of s) (Rattle.responder_machine.specs.Session.exchange_answer s) (finish i) (answer i)

pub same_request_epoch : (s : Events) (m : List ℕ) (t : Turn) (reply : List ℕ) → KeepsKeys t → request_epoch (Heard m t reply ∷ s) ≡ request_epoch s
same_request_epoch s m t reply k = if_no (updates 1 t || updates 2 t) (request_epoch s + 1) (request_epoch s) (λ i. k.key i || k.all i)

pub same_response_epoch : (s : Events) (m : List ℕ) (t : Turn) (reply : List ℕ) → KeepsKeys t → response_epoch (Heard m t reply ∷ s) ≡ response_epoch s
same_response_epoch s m t reply k = if_no (updates 2 t) (response_epoch s + 1) (response_epoch s) k.all

next_request : (s : Events) (m : List ℕ) (t : Turn) (reply : List ℕ) → KeepsKeys t → request_next (Heard m t reply ∷ s) ≡ request_next s + 1
next_request s m t reply k = if_no (takes PSK_FINISH t || updates 1 t || updates 2 t) 0 (request_next s + 1) (λ i. k.finish i || k.key i || k.all i)

next_response : (s : Events) (m : List ℕ) (t : Turn) (reply : List ℕ) → KeepsKeys t → response_next (Heard m t reply ∷ s) ≡ response_next s + 1
next_response s m t reply k =
    if_no (takes PSK_FINISH t) 0 (if updates 2 t then 1 else response_next s + 1) k.finish
    ∙ if_no (updates 2 t) 1 (response_next s + 1) k.all

-- What is kept where nothing but the numbers and the last record moved, and the count of application messages to this.
abbrev counted : (old new : Kept) → (taken : ℕ) → Type 0
counted old new taken = new ≡ record old { request_next = old.request_next + 1; response_next = old.response_next + 1; taken = taken; last = new.last }

pub kept_by : (old new : Kept) (psk : List ℕ) (s : Events) (m : List ℕ) (t : Turn) (reply : List ℕ) (taken : ℕ) → counted old new taken
    → taken ≡ taken_of (Heard m t reply ∷ s) % 2 ^ 64
    → kept_record new.last ≡ Some (record { sealed = m; reply = reply }) → KeepsKeys t → Keeps old psk s → Keeps new psk (Heard m t reply ∷ s)
kept_by old new psk s m t reply taken is count last k keeps =
    let stage = same_stage s m t reply k in
    let t2 = same_t2 s m t reply k.finish in
    let requests = same_request_epoch s m t reply k in
    let responses = same_response_epoch s m t reply k in
    let choice = (session_terms s).choice in
    subst (λ (x : Kept). Keeps x psk (Heard m t reply ∷ s)) (sym is) (record {
      live = refl;
      terms = keeps.terms;
      id = keeps.id;
      request = subst (λ (p : Purpose). IsKeyOf old.request choice p) (λ i. purpose_in (sym stage i) psk (t1_of s) (sym t2 i) Request (sym requests i)) keeps.request;
      response = subst (λ (p : Purpose). IsKeyOf old.response choice p) (λ i. purpose_in (sym stage i) psk (t1_of s) (sym t2 i) Response (sym responses i)) keeps.response;
      request_epoch = keeps.request_epoch ∙ sym requests;
      response_epoch = keeps.response_epoch ∙ sym responses;
      request_next = ap (λ (n : ℕ). n + 1) keeps.request_next ∙ sym (next_request s m t reply k);
      response_next = ap (λ (n : ℕ). n + 1) keeps.response_next ∙ sym (next_response s m t reply k);
      taken = count;
      hash = keeps.hash ∙ (λ i. (session_hash s).digest (transcript_in (sym stage i) (t1_of s) (sym t2 i)));
      last = last;
    })

-- After a turn that brought no application data.
pub kept_plain : (old new : Kept) (psk : List ℕ) (s : Events) (m : List ℕ) (t : Turn) (reply : List ℕ)
    → new ≡ record old { request_next = old.request_next + 1; response_next = old.response_next + 1; last = new.last }
    → is_data t.effect ≡ false
    → kept_record new.last ≡ Some (record { sealed = m; reply = reply }) → KeepsKeys t → Keeps old psk s → Keeps new psk (Heard m t reply ∷ s)
kept_plain old new psk s m t reply is other last k keeps =
    kept_by old new psk s m t reply old.taken is (keeps.taken ∙ ap (λ (n : ℕ). n % 2 ^ 64) (sym (if_no (is_data t.effect) (taken_of s + 1) (taken_of s) other))) last k keeps
