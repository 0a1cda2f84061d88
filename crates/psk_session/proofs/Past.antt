-- An established session goes under its application keys, and what it asks keeps them.
use Rattle.std.proofs.Common.{◌≡◌, ◌∙◌, ap, sym, subst, refl, ℕ, ◌+◌, ◌-◌, ◌<◌, ◌≤◌, ◌^◌, List, ◌∷◌, true, false, Bool, arith}
use Rattle.std.specs.Prelude.{◌||◌, min, if◌then◌else◌}
use Rattle.key_schedule.specs.Purpose.{Purpose, application_record}
use Rattle.key_schedule.specs.declared.direction.Direction.{Direction}
use Rattle.key_schedule.specs.declared.direction.Direction.TheVariants.{Request, Response}
use Rattle.requester_machine.proofs.Few.{no_update_all}
use Rattle.requester_machine.specs.History.{Effect}
use Rattle.requester_machine.specs.History.Effect.{Grants}
use Rattle.requester_machine.specs.Message.{Ask}
use Rattle.requester_machine.specs.Message.Ask.{AskUpdate}
use Rattle.requester_machine.specs.Records.{asks_all, answer_purpose, answer_number, answer_fault, answer_inner, sealed_next}
use Rattle.requester_machine.specs.Session.{Steps, stage_of, session_hash, session_terms, session_vca, exchange_of, exchange_answer, finish_of, finish_answer, answer_in, finishes, verifies, updates, updates_all, is_data, t1_of, t2_of, request_epoch, response_epoch, request_next, response_next, taken_of}
use Rattle.requester_machine.specs.Session.Step.{Asked, Took}
use Rattle.spdm_basis.specs.SessionIdBytes.{session_id_bytes}
use Rattle.spdm_basis.specs.declared.values.session_id.SessionId.{SessionId}
use Rattle.spdm_grammar.specs.Message.{ChunkMessage}
use Rattle.spdm_grammar.specs.declared.messages.choice.Choice.{Choice}
use Rattle.spdm_grammar.specs.declared.told.phase.Stage.{Stage}
use Rattle.spdm_grammar.specs.declared.told.phase.Stage.TheVariants.{Handshake, Open, Verifying}
use Rattle.spdm_machine.specs.Keys.{sealed_of, record_fault, inner_message}
use Rattle.spdm_machine.specs.Sessions.{is_past_handshake, transcript_in, purpose_in}
use Rattle.transcript.specs.Transcripts as transcript
use Rattle.session_keys.specs.Keys.{IsKeyOf}
use Rattle.psk_session.specs.Told.{told_of}
use Rattle.psk_session.specs.Kept.{Keeps}
use Rattle.psk_session.specs.Waiting.{awaited_by, awaited_epoch}
use Rattle.psk_session.specs.declared.session_request.Awaited.{Awaited}
use Rattle.psk_session.specs.declared.session_request.Awaited.TheVariants as awaited
use Rattle.psk_session.specs.declared.kept.Kept.{Kept}

pub past_transcript : (stage : Stage) (t1 t2 : List ℕ) → is_past_handshake stage ≡ true → t2 ≡ transcript_in stage t1 t2
past_transcript Handshake t1 t2 past = absurd (cc)
past_transcript Open t1 t2 past = refl
past_transcript Verifying t1 t2 past = refl

pub past_purpose : (stage : Stage) (psk t1 t2 : List ℕ) (direction : Direction) (epoch : ℕ) → is_past_handshake stage ≡ true
    → application_record psk t2 direction epoch ≡ purpose_in stage psk t1 t2 direction epoch
past_purpose Handshake psk t1 t2 direction epoch past = absurd (cc)
past_purpose Open psk t1 t2 direction epoch past = refl
past_purpose Verifying psk t1 t2 direction epoch past = refl

-- What is sealed under the key and the number that are kept is the next record of the session.
pub sealed_kept : (kept : Kept) (psk : List ℕ) (s : Steps) (epoch number : ℕ) (inner pad out : List ℕ) → Keeps kept psk s epoch → number ≡ request_next s
    → out ≡ sealed_of (session_terms s).choice (application_record psk (t2_of s) Request (request_epoch s)) number (session_id_bytes kept.id.req kept.id.rsp) inner pad
    → out ≡ sealed_next psk s inner pad
unfolding sealed_next
sealed_kept kept psk s epoch number inner pad out k is e =
    let choice = (session_terms s).choice in
    e ∙ ap (λ (p : Purpose). sealed_of choice p number (session_id_bytes kept.id.req kept.id.rsp) inner pad) (past_purpose (stage_of s) psk (t1_of s) (t2_of s) Request (request_epoch s) k.past)
    ∙ ap (λ (n : ℕ). sealed_of choice (purpose_in (stage_of s) psk (t1_of s) (t2_of s) Request (request_epoch s)) n (session_id_bytes kept.id.req kept.id.rsp) inner pad) is
    ∙ ap (λ (i : SessionId). sealed_of choice (purpose_in (stage_of s) psk (t1_of s) (t2_of s) Request (request_epoch s)) (request_next s) (session_id_bytes i.req i.rsp) inner pad) k.id

pub t2_asked : (w : Awaited) (before : List ChunkMessage) (s : Steps) (inner sealed : List ℕ) → t2_of (Asked (awaited_by w before) inner sealed ∷ s) ≡ t2_of s
t2_asked awaited.Data before s inner sealed = refl
t2_asked awaited.Beat before s inner sealed = refl
t2_asked (awaited.Update all) before s inner sealed = refl
t2_asked awaited.Verify before s inner sealed = refl
t2_asked (awaited.Measure op) before s inner sealed = refl
t2_asked (awaited.Chunk op handle number) before s inner sealed = refl
t2_asked awaited.End before s inner sealed = refl

counted : (n : ℕ) → n ≤ 65535 → min (n + 1) (2 ^ 32 - 1) ≡ n + 1
counted n most = omega arith

-- With the record that asks something, one more is sealed, and all else that is kept stays.
pub keeps_asked : (a : Ask) (w : Awaited) (before : List ChunkMessage) (inner sealed : List ℕ) (kept new : Kept) (psk : List ℕ) (s : Steps) (epoch : ℕ)
    → a ≡ awaited_by w before → new ≡ record kept { request_next = min (kept.request_next + 1) (2 ^ 32 - 1) } → request_next s ≤ 65535
    → Keeps kept psk s epoch → Keeps new psk (Asked a inner sealed ∷ s) epoch
unfolding told_of
keeps_asked a w before inner sealed kept new psk s epoch asks is few k =
    let e : t2_of (Asked a inner sealed ∷ s) ≡ t2_of s = ap (λ (x : Ask). t2_of (Asked x inner sealed ∷ s)) asks ∙ t2_asked w before s inner sealed in
    let choice = (session_terms s).choice in
    subst (λ (x : Kept). Keeps x psk (Asked a inner sealed ∷ s) epoch) (sym is) (record {
      past = k.past;
      choice = k.choice;
      common = k.common;
      id = k.id;
      request = subst (λ (t : List ℕ). IsKeyOf kept.request choice (application_record psk t Request (request_epoch s))) (sym e) k.request;
      response = subst (λ (t : List ℕ). IsKeyOf kept.response choice (application_record psk t Response epoch)) (sym e) k.response;
      request_next = ap (λ (n : ℕ). min (n + 1) (2 ^ 32 - 1)) k.request_next ∙ counted (request_next s) few;
      response_next = k.response_next;
      taken = k.taken;
      th2 = k.th2 ∙ ap (λ (t : List ℕ). (session_hash s).digest t) (sym e);
      told = k.told;
    })

-- ---- Records taken.

past_taken : (opened updated : Bool) (stage : Stage) → is_past_handshake stage ≡ true → is_past_handshake (if opened then Open else (if updated then Verifying else stage)) ≡ true
past_taken true updated stage past = refl
past_taken false true stage past = refl
past_taken false false stage past = past

more_data : (had : Bool) (kept of : ℕ) → (of < 2 ^ 64 → kept ≡ of) → (if had then of + 1 else of) < 2 ^ 64
    → (if had then min (kept + 1) (2 ^ 64 - 1) else kept) ≡ (if had then of + 1 else of)
more_data true kept of is small = (let same : kept ≡ of = is (omega arith) in omega arith)
more_data false kept of is small = is small

-- A record that updates no key is one more taken.
pub keeps_taken : (had : Bool) (sealed inner : List ℕ) (effect : Effect) (kept new : Kept) (psk : List ℕ) (s : Steps) (epoch : ℕ)
    → new ≡ record kept { response_next = min (kept.response_next + 1) (2 ^ 32 - 1); taken = if had then min (kept.taken + 1) (2 ^ 64 - 1) else kept.taken }
    → Keeps kept psk s epoch → finishes effect ≡ false → updates effect ≡ false → had ≡ is_data effect → response_next s ≤ 65535
    → Keeps new psk (Took sealed inner effect ∷ s) epoch
unfolding told_of
keeps_taken had sealed inner effect kept new psk s epoch is k opens updated brings few =
    let choice = (session_terms s).choice in
    let e : t2_of (Took sealed inner effect ∷ s) ≡ t2_of s =
    ap (λ (b : Bool). transcript.t2_of (session_vca s) (exchange_of s) (exchange_answer s) (finish_of s) (if b then answer_in effect else finish_answer s)) opens in
    subst (λ (x : Kept). Keeps x psk (Took sealed inner effect ∷ s) epoch) (sym is) (record {
      past = past_taken (finishes effect || verifies effect) (updates effect) (stage_of s) k.past;
      choice = k.choice;
      common = k.common;
      id = k.id;
      request = subst (λ (n : ℕ). IsKeyOf kept.request choice (application_record psk (t2_of (Took sealed inner effect ∷ s)) Request n)) (sym (ap (λ (b : Bool). if b then request_epoch s + 1 else request_epoch s) updated))
          (subst (λ (t : List ℕ). IsKeyOf kept.request choice (application_record psk t Request (request_epoch s))) (sym e) k.request);
      response = subst (λ (t : List ℕ). IsKeyOf kept.response choice (application_record psk t Response epoch)) (sym e) k.response;
      request_next = k.request_next ∙ sym (ap (λ (b : Bool). if b || updates effect then 0 else request_next s) opens ∙ ap (λ (b : Bool). if b then 0 else request_next s) updated);
      response_next = ap (λ (n : ℕ). min (n + 1) (2 ^ 32 - 1)) k.response_next ∙ counted (response_next s) few
          ∙ sym (ap (λ (b : Bool). if b then 0 else (if updates_all effect then 1 else response_next s + 1)) opens ∙ ap (λ (b : Bool). if b then 1 else response_next s + 1) (no_update_all effect updated));
      taken = λ small. ap (λ (b : Bool). if b then min (kept.taken + 1) (2 ^ 64 - 1) else kept.taken) brings ∙ more_data (is_data effect) kept.taken (taken_of s) k.taken small;
      th2 = k.th2 ∙ ap (λ (t : List ℕ). (session_hash s).digest t) (sym e);
      told = k.told;
    })

updated_next : (all : Bool) (kept of next : ℕ) → kept ≡ of → of ≤ 65535 → next ≡ (if all then 1 else min (kept + 1) (2 ^ 32 - 1)) → next ≡ (if all then 1 else of + 1)
updated_next true kept of next is few e = e
updated_next false kept of next is few e = omega arith

-- The answer to an update is the last one under the request key before.
pub keeps_updated : (all : Bool) (sealed inner answer : List ℕ) (kept new : Kept) (psk : List ℕ) (s : Steps)
    → new ≡ record kept { request = new.request; request_next = 0; response_next = new.response_next }
    → ((choice : Choice) (p : Purpose) → IsKeyOf kept.request choice p → IsKeyOf new.request choice (record p { epoch = p.epoch + 1 }))
    → new.response_next ≡ (if all then 1 else min (kept.response_next + 1) (2 ^ 32 - 1))
    → Keeps kept psk s (awaited_epoch s (AskUpdate all)) → response_next s ≤ 65535
    → Keeps new psk (Took sealed inner (Grants (AskUpdate all) answer) ∷ s) (response_epoch (Took sealed inner (Grants (AskUpdate all) answer) ∷ s))
unfolding told_of
keeps_updated all sealed inner answer kept new psk s is next_key next k few =
    let after = Took sealed inner (Grants (AskUpdate all) answer) ∷ s in
    subst (λ (x : Kept). Keeps x psk after (response_epoch after)) (sym is) (record {
      past = refl;
      choice = k.choice;
      common = k.common;
      id = k.id;
      request = next_key (session_terms s).choice (application_record psk (t2_of s) Request (request_epoch s)) k.request;
      response = k.response;
      request_next = refl;
      response_next = updated_next all kept.response_next (response_next s) new.response_next k.response_next few next;
      taken = k.taken;
      th2 = k.th2;
      told = k.told;
    })

epoch_ahead : (b : Bool) (n : ℕ) → b ≡ true → n + 1 ≡ (if b then n + 1 else n)
epoch_ahead b n is = sym (ap (λ (x : Bool). if x then n + 1 else n) is)

-- While the answer to an update of all keys is awaited, the key of responses is the next one.
pub keeps_ahead : (a : Ask) (kept new : Kept) (psk : List ℕ) (s : Steps) → asks_all a ≡ true → new ≡ record kept { response = new.response }
    → ((choice : Choice) (p : Purpose) → IsKeyOf kept.response choice p → IsKeyOf new.response choice (record p { epoch = p.epoch + 1 }))
    → Keeps kept psk s (response_epoch s) → Keeps new psk s (awaited_epoch s a)
keeps_ahead a kept new psk s all is next_key k =
    subst (λ (n : ℕ). Keeps new psk s n) (epoch_ahead (asks_all a) (response_epoch s) all)
    (subst (λ (x : Kept). Keeps x psk s (response_epoch s + 1)) (sym is) (record {
      past = k.past;
      choice = k.choice;
      common = k.common;
      id = k.id;
      request = k.request;
      response = next_key (session_terms s).choice (application_record psk (t2_of s) Response (response_epoch s)) k.response;
      request_next = k.request_next;
      response_next = k.response_next;
      taken = k.taken;
      th2 = k.th2;
      told = k.told;
    }))

-- ---- The answer.

answer_purpose_at : (all : Bool) (stage : Stage) (psk t1 t2 : List ℕ) (epoch : ℕ) → is_past_handshake stage ≡ true
    → application_record psk t2 Response (if all then epoch + 1 else epoch)
    ≡ (if all then record (purpose_in stage psk t1 t2 Response epoch) { epoch = epoch + 1 } else purpose_in stage psk t1 t2 Response epoch)
answer_purpose_at all Handshake psk t1 t2 epoch past = absurd (cc)
answer_purpose_at true Open psk t1 t2 epoch past = refl
answer_purpose_at true Verifying psk t1 t2 epoch past = refl
answer_purpose_at false Open psk t1 t2 epoch past = refl
answer_purpose_at false Verifying psk t1 t2 epoch past = refl

awaited_purpose : (psk : List ℕ) (s : Steps) (a : Ask) → is_past_handshake (stage_of s) ≡ true → application_record psk (t2_of s) Response (awaited_epoch s a) ≡ answer_purpose psk s a
awaited_purpose psk s a past = answer_purpose_at (asks_all a) (stage_of s) psk (t1_of s) (t2_of s) (response_epoch s) past

-- What opens under the key that is kept and the number of the answer is the answer, and so is what does not.
pub fault_kept : (kept : Kept) (psk : List ℕ) (s : Steps) (a : Ask) (number : ℕ) (sealed : List ℕ) → Keeps kept psk s (awaited_epoch s a) → number ≡ answer_number s a
    → record_fault (session_terms s).choice (application_record psk (t2_of s) Response (awaited_epoch s a)) number (session_id_bytes kept.id.req kept.id.rsp) sealed ≡ answer_fault psk s a sealed
unfolding answer_fault
fault_kept kept psk s a number sealed k is =
    let choice = (session_terms s).choice in
    ap (λ (p : Purpose). record_fault choice p number (session_id_bytes kept.id.req kept.id.rsp) sealed) (awaited_purpose psk s a k.past)
    ∙ ap (λ (n : ℕ). record_fault choice (answer_purpose psk s a) n (session_id_bytes kept.id.req kept.id.rsp) sealed) is
    ∙ ap (λ (i : SessionId). record_fault choice (answer_purpose psk s a) (answer_number s a) (session_id_bytes i.req i.rsp) sealed) k.id

pub inner_kept : (kept : Kept) (psk : List ℕ) (s : Steps) (a : Ask) (number : ℕ) (sealed : List ℕ) → Keeps kept psk s (awaited_epoch s a) → number ≡ answer_number s a
    → inner_message (session_terms s).choice (application_record psk (t2_of s) Response (awaited_epoch s a)) number sealed ≡ answer_inner psk s a sealed
unfolding answer_inner
inner_kept kept psk s a number sealed k is =
    let choice = (session_terms s).choice in
    ap (λ (p : Purpose). inner_message choice p number sealed) (awaited_purpose psk s a k.past)
    ∙ ap (λ (n : ℕ). inner_message choice (answer_purpose psk s a) n sealed) is
