-- In which stages requests come.
use Rattle.std.proofs.Common.{◌≡◌, ◌<◌, ◌∙◌, ap, sym, refl, ℕ, List, Bool, true, false, arith, Bor}
use Rattle.std.proofs.lemmas.Bool.Decides.{nat_tests}
use Rattle.std.specs.Prelude.{not, slice_index, Some}
use Rattle.responder_machine.proofs.Codes.{asked-code}
use Rattle.responder_machine.specs.Place.{session_place}
use Rattle.responder_machine.specs.Refusal.{lacks_flag, stage_allows, has_pending, fits_stage}
use Rattle.responder_machine.specs.Session.{Events, stage_of, session_terms}
use Rattle.responder_machine.specs.Setup.{RspSetup}
use Rattle.spdm_grammar.proofs.SoundRequests.{spelled_request}
use Rattle.spdm_grammar.proofs.Spellings.{read_iff}
use Rattle.spdm_grammar.specs.Codes.{code_for}
use Rattle.spdm_grammar.specs.Requests.{IsSoundRequest, request_layout}
use Rattle.spdm_basis.specs.Sizes.{hash_size}
use Rattle.responder_machine.specs.Answer.{request_at}
use Rattle.spdm_grammar.specs.Message.{RequestMessage, request_message}
use Rattle.spdm_grammar.specs.Message.RequestMessage.{GetVersion, GetCapabilities, NegotiateAlgorithms, GetMeasurements, PskExchange, PskFinish, Heartbeat, KeyUpdate, EndSession, ChunkSend, ChunkGet}
use Rattle.spdm_grammar.specs.declared.told.phase.Stage.{Stage}
use Rattle.spdm_grammar.specs.declared.told.phase.Stage.TheVariants.{Handshake, Open, Verifying}
use Rattle.spdm_grammar.specs.declared.messages.request.Request.{Request}
use Rattle.spdm_grammar.specs.declared.messages.request.Request.TheVariants as request
use Rattle.responder_session.proofs.Finish.{allowed_code}
use Rattle.responder_session.specs.RequestEffects.{IsAllowed}

-- A request that was read is sound.
pub asked_sound : (s : Events) (m : List ℕ) (asked : RequestMessage) → ((i : ℕ) → slice_index m i < 256) → request_at (session_place s) m ≡ Some asked → IsSoundRequest (hash_size (session_terms s).choice.hash) asked
asked_sound s m asked bytes is =
    (spelled_request (hash_size (session_terms s).choice.hash) asked m bytes ((read_iff (request_layout (hash_size (session_terms s).choice.hash)) asked m).0 is)).1

allowed_now : (r : RspSetup) (s : Events) (m : List ℕ) (asked : RequestMessage) → IsAllowed r s m asked → not (stage_allows (stage_of s) (has_pending (session_place s)) (code_for asked)) ≡ false
allowed_now r s m asked a = allowed_code r s m asked (stage_of s) a.form a.asks refl

-- What a request needs was negotiated.
pub has_flag : (r : RspSetup) (s : Events) (m : List ℕ) (asks : RequestMessage) → IsAllowed r s m asks → lacks_flag (session_terms s) (code_for asks) ≡ false
has_flag r s m asks a = ap (lacks_flag (session_terms s)) (asked-code (session_place s) m asks a.asks) ∙ a.flag

finish_stage : (stage : Stage) (pending : Bool) (verify : List ℕ) → not (stage_allows stage pending (code_for (PskFinish verify))) ≡ false → stage ≡ Handshake
finish_stage Handshake pending verify h = refl
finish_stage Open true verify h = absurd (cc)
finish_stage Open false verify h = absurd (cc)
finish_stage Verifying pending verify h = absurd (cc)

pub finish_in_handshake : (r : RspSetup) (s : Events) (m verify : List ℕ) → IsAllowed r s m (PskFinish verify) → stage_of s ≡ Handshake
finish_in_handshake r s m verify a = finish_stage (stage_of s) (has_pending (session_place s)) verify (allowed_now r s m (PskFinish verify) a)

measure_stage : (stage : Stage) (pending : Bool) (op : ℕ) → not (stage_allows stage pending (code_for (GetMeasurements op))) ≡ false → stage ≡ Open
measure_stage Handshake pending op h = absurd (cc)
measure_stage Open pending op h = refl
measure_stage Verifying pending op h = absurd (cc)

pub measure_in_open : (r : RspSetup) (s : Events) (m : List ℕ) (op : ℕ) → IsAllowed r s m (GetMeasurements op) → stage_of s ≡ Open
measure_in_open r s m op a = measure_stage (stage_of s) (has_pending (session_place s)) op (allowed_now r s m (GetMeasurements op) a)

get_pending : (stage : Stage) (pending : Bool) (handle number : ℕ) → not (stage_allows stage pending (code_for (ChunkGet handle number))) ≡ false → pending ≡ true
get_pending Handshake pending handle number h = absurd (cc)
get_pending Open true handle number h = refl
get_pending Open false handle number h = absurd (cc)
get_pending Verifying pending handle number h = absurd (cc)

pub get_while_pending : (r : RspSetup) (s : Events) (m : List ℕ) (handle number : ℕ) → IsAllowed r s m (ChunkGet handle number) → has_pending (session_place s) ≡ true
get_while_pending r s m handle number a = get_pending (stage_of s) (has_pending (session_place s)) handle number (allowed_now r s m (ChunkGet handle number) a)

-- VerifyNewKey fits Verifying alone, of the stages that KEY_UPDATE comes in, and the other operations Open.
verify_stage : (stage : Stage) (pending : Bool) (op tag : ℕ) → not (stage_allows stage pending (code_for (KeyUpdate op tag))) ≡ false → fits_stage stage 3 ≡ true → stage ≡ Verifying
verify_stage Handshake pending op tag h k = absurd (cc)
verify_stage Open pending op tag h k = absurd (cc)
verify_stage Verifying pending op tag h k = refl

pub verify_in_verifying : (r : RspSetup) (s : Events) (m : List ℕ) (op tag : ℕ) → IsAllowed r s m (KeyUpdate op tag) → fits_stage (stage_of s) op ≡ true → op ≡ 3 → stage_of s ≡ Verifying
verify_in_verifying r s m op tag a fits is = verify_stage (stage_of s) (has_pending (session_place s)) op tag (allowed_now r s m (KeyUpdate op tag) a) (ap (fits_stage (stage_of s)) (sym is) ∙ fits)

update_stage : (stage : Stage) (pending : Bool) (op tag : ℕ) → not (stage_allows stage pending (code_for (KeyUpdate op tag))) ≡ false → fits_stage stage op ≡ true → (op ≡ 3 → ⊥) → stage ≡ Open
update_stage Handshake pending op tag h k other = absurd (cc)
update_stage Open pending op tag h k other = refl
update_stage Verifying pending op tag h k other = absurd (other (grind (arith, nat_tests)))

pub update_in_open : (r : RspSetup) (s : Events) (m : List ℕ) (op tag : ℕ) → IsAllowed r s m (KeyUpdate op tag) → fits_stage (stage_of s) op ≡ true → (op ≡ 3 → ⊥) → stage_of s ≡ Open
update_in_open r s m op tag a fits other = update_stage (stage_of s) (has_pending (session_place s)) op tag (allowed_now r s m (KeyUpdate op tag) a) fits other

-- ---- Other requests do not come.

abbrev pub is_handled : RequestMessage → Bool
is_handled (GetMeasurements op) = true
is_handled (PskFinish verify) = true
is_handled Heartbeat = true
is_handled (KeyUpdate op tag) = true
is_handled EndSession = true
is_handled (ChunkGet handle number) = true
is_handled _ = false

pub only_handled : (stage : Stage) (asks : RequestMessage) (pending : Bool) → not (stage_allows stage pending (code_for asks)) ≡ false → is_handled asks ≡ false → ⊥
only_handled stage (GetMeasurements op) pending h k = cc
only_handled stage (PskFinish verify) pending h k = cc
only_handled stage Heartbeat pending h k = cc
only_handled stage (KeyUpdate op tag) pending h k = cc
only_handled stage EndSession pending h k = cc
only_handled stage (ChunkGet handle number) pending h k = cc
only_handled Handshake GetVersion pending h k = cc
only_handled Handshake (GetCapabilities caps) pending h k = cc
only_handled Handshake (NegotiateAlgorithms offer) pending h k = cc
only_handled Handshake (PskExchange exchange) pending h k = cc
only_handled Handshake (ChunkSend chunk) pending h k = cc
only_handled Open GetVersion pending h k = cc
only_handled Open (GetCapabilities caps) pending h k = cc
only_handled Open (NegotiateAlgorithms offer) pending h k = cc
only_handled Open (PskExchange exchange) pending h k = cc
only_handled Open (ChunkSend chunk) pending h k = cc
only_handled Verifying GetVersion pending h k = cc
only_handled Verifying (GetCapabilities caps) pending h k = cc
only_handled Verifying (NegotiateAlgorithms offer) pending h k = cc
only_handled Verifying (PskExchange exchange) pending h k = cc
only_handled Verifying (ChunkSend chunk) pending h k = cc

pub unhandled : (r : RspSetup) (s : Events) (m : List ℕ) (asks : RequestMessage) → IsAllowed r s m asks → is_handled asks ≡ false → ⊥
unhandled r s m asks a other = only_handled (stage_of s) asks (has_pending (session_place s)) (allowed_now r s m asks a) other

pub request_handled : (q : Request) → ((verify : Bor (List ℕ)) → q ≡ request.PskFinish verify → ⊥) → ((op : ℕ) → q ≡ request.GetMeasurements op → ⊥) → (q ≡ request.Heartbeat → ⊥)
    → ((op tag : ℕ) → q ≡ request.KeyUpdate op tag → ⊥) → (q ≡ request.EndSession → ⊥) → ((handle number : ℕ) → q ≡ request.ChunkGet handle number → ⊥) → is_handled (request_message q) ≡ false
request_handled (request.PskFinish verify) z a b c d e = absurd (z verify refl)
request_handled (request.GetMeasurements op) z a b c d e = absurd (a op refl)
request_handled request.Heartbeat z a b c d e = absurd (b refl)
request_handled (request.KeyUpdate op tag) z a b c d e = absurd (c op tag refl)
request_handled request.EndSession z a b c d e = absurd (d refl)
request_handled (request.ChunkGet handle number) z a b c d e = absurd (e handle number refl)
request_handled _ z a b c d e = refl
