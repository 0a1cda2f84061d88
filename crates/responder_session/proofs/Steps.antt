-- What an open session is after each turn.
use Rattle.std.proofs.Common.{◌≡◌, ◌∙◌, ap, sym, subst, refl, ℕ, ◌+◌, List, ◌∷◌, true, false, arith}
use Rattle.std.specs.Prelude.{◌%◌, ◌^◌, Some}
use Rattle.key_schedule.specs.Keys.{DirectionSecret}
use Rattle.key_schedule.specs.Purpose.{Purpose, application_record}
use Rattle.key_schedule.specs.declared.direction.Direction.TheVariants.{Request, Response}
use Rattle.responder_machine.specs.Answer.{Free}
use Rattle.responder_machine.specs.Records.{reply_record}
use Rattle.responder_machine.specs.Responder.{inner_reply, data_turn}
use Rattle.responder_machine.specs.Session.{Events, stage_of, session_hash, exchange_of, session_negotiation, session_terms, t2_of, request_epoch, response_epoch, taken_of}
use Rattle.responder_machine.specs.Session.Event.{Heard}
use Rattle.responder_machine.specs.Turn.{takes}
use Rattle.session_keys.specs.Keys.{IsKeyOf}
use Rattle.session_keys.specs.Terms.{AreTermsOf}
use Rattle.session_keys.specs.declared.terms.SessionTerms.{SessionTerms}
use Rattle.spdm_basis.specs.SessionIdBytes.{session_id_bytes}
use Rattle.spdm_grammar.specs.Message.{RequestMessage}
use Rattle.spdm_grammar.specs.Message.RequestMessage.{GetMeasurements, Heartbeat}
use Rattle.spdm_grammar.specs.declared.names.request_code.TheConstants.{CHUNK_GET}
use Rattle.spdm_grammar.specs.declared.told.phase.Stage.TheVariants.{Open}
use Rattle.spdm_machine.specs.Keys.{sealed_of}
use Rattle.responder_session.proofs.Moves.{kept_by}
use Rattle.responder_session.proofs.Updating.{past_purpose, past_hash}
use Rattle.responder_session.specs.RequestEffects.{is_quiet}
use Rattle.responder_session.specs.Kept.{Keeps, kept_record}
use Rattle.responder_session.specs.Turns.{KeepsKeys, answered_turn}
use Rattle.responder_session.specs.Updates.{update_turn}
use Rattle.responder_session.specs.declared.kept.Kept.{Kept}

-- ---- A quiet request.

pub quiet_keys : (message answer : List ℕ) (asked : RequestMessage) → is_quiet asked ≡ true → KeepsKeys (answered_turn message asked answer)
quiet_keys message answer Heartbeat h = record { finish = refl; update = refl; key = refl; all = refl; verify = refl }
quiet_keys message answer (GetMeasurements op) h = record { finish = refl; update = refl; key = refl; all = refl; verify = refl }
quiet_keys message answer asked h = absurd (cc)

pub no_chunk : (message answer : List ℕ) (asked : RequestMessage) → is_quiet asked ≡ true → takes CHUNK_GET (answered_turn message asked answer) ≡ false
no_chunk message answer Heartbeat h = refl
no_chunk message answer (GetMeasurements op) h = refl
no_chunk message answer asked h = absurd (cc)

-- ---- Application data.

counted_more : (n m : ℕ) → m ≡ n % 2 ^ 64 → (m + 1) % 2 ^ 64 ≡ (n + 1) % 2 ^ 64
counted_more n m h = omega arith

pub kept_data : (old mid : Kept) (taken : ℕ) (psk : List ℕ) (s : Events) (f : Free) (sealed bytes reply : List ℕ)
    → mid ≡ record old { request_next = old.request_next + 1; response_next = old.response_next + 1; last = mid.last }
    → taken ≡ (mid.taken + 1) % 2 ^ 64 → kept_record mid.last ≡ Some (record { sealed = sealed; reply = reply }) → Keeps old psk s
    → Keeps (record mid { taken = taken }) psk (Heard sealed (data_turn f bytes) reply ∷ s)
kept_data old mid taken psk s f sealed bytes reply is count last keeps =
    kept_by old (record mid { taken = taken }) psk s sealed (data_turn f bytes) reply taken (ap (λ (x : Kept). record x { taken = taken }) is)
    (count ∙ counted_more (taken_of s) mid.taken (ap (λ (x : Kept). x.taken) is ∙ keeps.taken)) last
    (record { finish = refl; update = refl; key = refl; all = refl; verify = refl }) keeps

-- ---- Updates.

-- The keys of an open session are those after its handshake.
pub open_request : (kept : Kept) (psk : List ℕ) (s : Events) → stage_of s ≡ Open → Keeps kept psk s → IsKeyOf kept.request (session_terms s).choice (application_record psk (t2_of s) Request (request_epoch s))
open_request kept psk s at keeps = subst (λ (p : Purpose). IsKeyOf kept.request (session_terms s).choice p) (past_purpose s Open psk Request (request_epoch s) at refl) keeps.request

pub open_response : (kept : Kept) (psk : List ℕ) (s : Events) → stage_of s ≡ Open → Keeps kept psk s → IsKeyOf kept.response (session_terms s).choice (application_record psk (t2_of s) Response (response_epoch s))
open_response kept psk s at keeps = subst (λ (p : Purpose). IsKeyOf kept.response (session_terms s).choice p) (past_purpose s Open psk Response (response_epoch s) at refl) keeps.response

pub kept_key : (old mid new : Kept) (psk : List ℕ) (s : Events) (sealed message reply : List ℕ) (tag : ℕ) → stage_of s ≡ Open
    → mid ≡ record old { request_next = old.request_next + 1; response_next = old.response_next + 1; last = mid.last }
    → new ≡ record mid { request = new.request; request_next = 0 }
    → IsKeyOf new.request (session_terms s).choice (application_record psk (t2_of s) Request (request_epoch s + 1))
    → kept_record mid.last ≡ Some (record { sealed = sealed; reply = reply }) → Keeps old psk s → Keeps new psk (Heard sealed (update_turn message 1 tag) reply ∷ s)
kept_key old mid new psk s sealed message reply tag at first second key last keeps =
    let choice = (session_terms s).choice in
    let response : new.response ≡ old.response = ap (λ (x : Kept). x.response) second ∙ ap (λ (x : Kept). x.response) first in
    record {
      live = refl;
      terms = subst (λ (x : SessionTerms). AreTermsOf x (session_negotiation s) (exchange_of s)) (sym (ap (λ (x : Kept). x.terms) second ∙ ap (λ (x : Kept). x.terms) first)) keeps.terms;
      id = ap (λ (x : Kept). x.id) second ∙ ap (λ (x : Kept). x.id) first ∙ keeps.id;
      request = key;
      response = subst (λ (k : DirectionSecret). IsKeyOf k choice (application_record psk (t2_of s) Response (response_epoch s))) (sym response) (open_response old psk s at keeps);
      request_epoch = key.secret.epoch;
      response_epoch = ap (λ (k : DirectionSecret). k.epoch) response ∙ keeps.response_epoch;
      request_next = ap (λ (x : Kept). x.request_next) second;
      response_next = ap (λ (x : Kept). x.response_next) second ∙ ap (λ (x : Kept). x.response_next) first ∙ ap (λ (n : ℕ). n + 1) keeps.response_next;
      taken = ap (λ (x : Kept). x.taken) second ∙ ap (λ (x : Kept). x.taken) first ∙ keeps.taken;
      hash = ap (λ (x : Kept). x.hash) second ∙ ap (λ (x : Kept). x.hash) first ∙ keeps.hash ∙ ap (λ (x : List ℕ). (session_hash s).digest x) (past_hash s Open at refl);
      last = ap (λ (x : Kept). kept_record x.last) second ∙ last;
    }

-- UpdateAllKeys is answered by record 0 under the new key.
pub all_sealed : (old : Kept) (psk : List ℕ) (s : Events) (message answer pad : List ℕ) (tag : ℕ) → stage_of s ≡ Open → Keeps old psk s → inner_reply (update_turn message 2 tag) ≡ 5 ∷ answer
    → sealed_of (session_terms s).choice (application_record psk (t2_of s) Response (response_epoch s + 1)) 0 (session_id_bytes old.id.req old.id.rsp) (5 ∷ answer) pad
    ≡ reply_record psk s (update_turn message 2 tag) (inner_reply (update_turn message 2 tag)) pad
unfolding reply_record
all_sealed old psk s message answer pad tag at keeps same =
    (λ i. sealed_of (session_terms s).choice (record (sym (past_purpose s Open psk Response (response_epoch s) at refl) i) { epoch = response_epoch s + 1 }) 0 (session_id_bytes (keeps.id i).req (keeps.id i).rsp) (sym same i) pad)

pub kept_all : (old one mid new : Kept) (psk : List ℕ) (s : Events) (sealed message reply : List ℕ) (tag : ℕ) → stage_of s ≡ Open
    → one ≡ record old { response = one.response; response_next = 0 }
    → mid ≡ record one { request_next = one.request_next + 1; response_next = one.response_next + 1; last = mid.last }
    → new ≡ record mid { request = new.request; request_next = 0 }
    → IsKeyOf new.request (session_terms s).choice (application_record psk (t2_of s) Request (request_epoch s + 1))
    → IsKeyOf one.response (session_terms s).choice (application_record psk (t2_of s) Response (response_epoch s + 1))
    → kept_record mid.last ≡ Some (record { sealed = sealed; reply = reply }) → Keeps old psk s → Keeps new psk (Heard sealed (update_turn message 2 tag) reply ∷ s)
kept_all old one mid new psk s sealed message reply tag at zeroth first second key other last keeps =
    let choice = (session_terms s).choice in
    let response : new.response ≡ one.response = ap (λ (x : Kept). x.response) second ∙ ap (λ (x : Kept). x.response) first in
    record {
      live = refl;
      terms = subst (λ (x : SessionTerms). AreTermsOf x (session_negotiation s) (exchange_of s)) (sym (ap (λ (x : Kept). x.terms) second ∙ ap (λ (x : Kept). x.terms) first ∙ ap (λ (x : Kept). x.terms) zeroth)) keeps.terms;
      id = ap (λ (x : Kept). x.id) second ∙ ap (λ (x : Kept). x.id) first ∙ ap (λ (x : Kept). x.id) zeroth ∙ keeps.id;
      request = key;
      response = subst (λ (k : DirectionSecret). IsKeyOf k choice (application_record psk (t2_of s) Response (response_epoch s + 1))) (sym response) other;
      request_epoch = key.secret.epoch;
      response_epoch = ap (λ (k : DirectionSecret). k.epoch) response ∙ other.secret.epoch;
      request_next = ap (λ (x : Kept). x.request_next) second;
      response_next = ap (λ (x : Kept). x.response_next) second ∙ ap (λ (x : Kept). x.response_next) first ∙ ap (λ (x : Kept). x.response_next + 1) zeroth;
      taken = ap (λ (x : Kept). x.taken) second ∙ ap (λ (x : Kept). x.taken) first ∙ ap (λ (x : Kept). x.taken) zeroth ∙ keeps.taken;
      hash = ap (λ (x : Kept). x.hash) second ∙ ap (λ (x : Kept). x.hash) first ∙ ap (λ (x : Kept). x.hash) zeroth ∙ keeps.hash ∙ ap (λ (x : List ℕ). (session_hash s).digest x) (past_hash s Open at refl);
      last = ap (λ (x : Kept). kept_record x.last) second ∙ last;
    }
