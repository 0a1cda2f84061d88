-- While a large response is fetched in a session, the answer to a record tells what it led to, whatever bytes stand for
-- the large one.
use Rattle.spdm_grammar.specs.Message.ResponseMessage.{KeyUpdateAck}
use Rattle.spdm_grammar.specs.Responses.{canonical_response}
use Rattle.spdm_grammar.specs.declared.messages.error_code.ErrorCode.TheVariants.{UnsupportedRequest, InvalidRequest, DecryptError, UnexpectedRequest, RequestTooLarge, ResponseTooLarge, SessionLimitExceeded}
use Rattle.std.proofs.Common.{◌≡◌, ◌≤◌, ◌==◌, ◌&&◌, ℕ, List, [], ◌∷◌, refl, sym, ap, ◌∙◌, subst, length, drop, Bool, true, false, Option, Some, None, is_some, is_none, cond, arith}
use Rattle.std.specs.Prelude.{slice_index}
use Rattle.std.specs.Option.{option_or}
use Rattle.spdm_basis.specs.Tests.{first_of_tests}
use Rattle.spdm_grammar.specs.Message.{RequestMessage}
use Rattle.spdm_grammar.specs.Message.RequestMessage.{GetVersion, GetCapabilities, NegotiateAlgorithms, GetMeasurements, PskExchange, PskFinish, Heartbeat, KeyUpdate, EndSession, ChunkSend, ChunkGet}
use Rattle.spdm_grammar.specs.Requests.{request_in}
use Rattle.spdm_grammar.specs.declared.messages.error_code.ErrorCode.{ErrorCode}
use Rattle.spdm_grammar.specs.declared.told.phase.Stage.{Stage}
use Rattle.spdm_grammar.specs.declared.told.phase.Stage.TheVariants.{Handshake, Open, Verifying}
use Rattle.spdm_grammar.specs.declared.names.request_code.TheConstants.{KEY_UPDATE, PSK_EXCHANGE}
use Rattle.spdm_grammar.specs.declared.names.TheConstants.{MAX_MESSAGE_SIZE}
use Rattle.spdm_machine.specs.Terms.{terms_of, hash_len}
use Rattle.transcript.specs.Transcripts.{Negotiation}
use Rattle.responder_machine.specs.Answer.{Free, answer_bytes, answer_to, request_at}
use Rattle.responder_machine.specs.Handling.{turn_of}
use Rattle.responder_machine.specs.Place.{Place, session_place, place_terms}
use Rattle.responder_machine.specs.Records.{reply_record}
use Rattle.responder_machine.specs.Refusal.{refusal, refused_form, refused_contents, tests_of_form, code_of, stage_allows, has_pending, lacks_flag, are_caps_refused, is_offer_refused, has_no_block, is_exchange_refused, is_verify_wrong, is_update_misplaced, is_too_large, chunk_fault, is_get_refused, is_answer_too_long}
use Rattle.responder_machine.specs.Responder.{session_turn, session_turn_by, inner_refusal, data_turn, inner_reply}
use Rattle.responder_machine.specs.Session.{Events, stage_of}
use Rattle.responder_machine.specs.Setup.{RspSetup}
use Rattle.responder_machine.specs.Turn.{Turn, updates}
use Rattle.responder_machine.proofs.Codes.{asked-code}
use Rattle.capture_machine.proofs.EventsAlike.{EventsAlike, negotiation_alike, exchange_alike, answer_alike, stage_alike, response_epoch_alike, response_number_alike, finish_alike, finish_answer_alike, chunks_alike}
use Rattle.capture_machine.proofs.TurnsAlike.{TurnsAlike, ReadAlike, turn_told}
use Rattle.capture_machine.proofs.RepliesTell.{by_updates, asks_update, no_and}
use Rattle.capture_machine.proofs.RecordsTell.{record_at, session_short}

-- ---- What a place in the session reads.

asked_same : (s u : Events) (m : List ℕ) → EventsAlike s u → request_at (session_place s) m ≡ request_at (session_place u) m
asked_same s u m a = ap (λ (n : Negotiation). request_in (hash_len (terms_of n)) m) (negotiation_alike s u a)

read_alike : (s u : Events) (m : List ℕ) → EventsAlike s u → ReadAlike (session_place s) (session_place u) m
read_alike s u m a = record {
  asked = asked_same s u m a;
  chunks = λ c is. chunks_alike s u a;
  whole = λ c text is. ap (λ (n : Negotiation). request_in (hash_len (terms_of n)) text) (negotiation_alike s u a);
}

-- ---- KEY_UPDATE is refused alike.

pending_apart : (stage : Stage) (b c : Bool) → stage_allows stage b KEY_UPDATE ≡ stage_allows stage c KEY_UPDATE
pending_apart Handshake b c = refl
pending_apart Open b c = refl
pending_apart Verifying b c = refl

allows_same : (s u : Events) (code : ℕ) → EventsAlike s u → code ≡ KEY_UPDATE → stage_allows (stage_of s) (has_pending (session_place s)) code ≡ stage_allows (stage_of u) (has_pending (session_place u)) code
allows_same s u code a is =
    let P : ℕ → Type 0 = λ n. stage_allows (stage_of s) (has_pending (session_place s)) n ≡ stage_allows (stage_of u) (has_pending (session_place u)) n in
    subst P (sym is) (pending_apart (stage_of s) _ (has_pending (session_place u)) ∙ ap (λ x. stage_allows x (has_pending (session_place u)) KEY_UPDATE) (stage_alike s u a))

form_same : (r : RspSetup) (s u : Events) (m : List ℕ) → EventsAlike s u → code_of m ≡ KEY_UPDATE → refused_form r (session_place s) m ≡ refused_form r (session_place u) m
unfolding refused_form
form_same r s u m a is =
    let asked = asked_same s u m a in
    let allows = allows_same s u (code_of m) a is in
    ap first_of_tests (tests asked allows)
  where
    tests : request_at (session_place s) m ≡ request_at (session_place u) m → stage_allows (stage_of s) (has_pending (session_place s)) (code_of m) ≡ stage_allows (stage_of u) (has_pending (session_place u)) (code_of m)
        → tests_of_form r (session_place s) m ≡ tests_of_form r (session_place u) m
    tests asked allows = cc

-- The tests of contents, by the request and the answer.
abbrev pub tests_with : RspSetup → Place → List ℕ → Option RequestMessage → List ℕ → List (Bool × ErrorCode)
tests_with r p m q answer =
    (lacks_flag (place_terms p) (code_of m), UnsupportedRequest)
    ∷ (are_caps_refused r q, InvalidRequest)
    ∷ (is_offer_refused r q, InvalidRequest)
    ∷ (has_no_block r q, InvalidRequest)
    ∷ (is_exchange_refused r p q, InvalidRequest)
    ∷ (is_verify_wrong r p m q, DecryptError)
    ∷ (is_update_misplaced p q, UnexpectedRequest)
    ∷ (is_too_large (chunk_fault r p q), RequestTooLarge)
    ∷ (is_some (chunk_fault r p q), InvalidRequest)
    ∷ (is_get_refused p q, InvalidRequest)
    ∷ (is_answer_too_long p answer, ResponseTooLarge)
    ∷ (code_of m == PSK_EXCHANGE && p.past_handshake == 4, SessionLimitExceeded)
    ∷ []

contents_with : (r : RspSetup) (p : Place) (m : List ℕ) (f : Free) (q : Option RequestMessage) (answer : List ℕ) → request_at p m ≡ q → answer_bytes r p m f ≡ answer → refused_contents r p m f ≡ first_of_tests (tests_with r p m q answer)
unfolding refused_contents
contents_with r p m f q answer is same =
    ap (λ (l : List ℕ). first_of_tests (tests_with r p m (request_at p m) l)) same ∙ ap (λ (x : Option RequestMessage). first_of_tests (tests_with r p m x answer)) is

update_tests : (r : RspSetup) (s u : Events) (m : List ℕ) (op tag : ℕ) (answer : List ℕ) → EventsAlike s u
    → tests_with r (session_place s) m (Some (KeyUpdate op tag)) answer ≡ tests_with r (session_place u) m (Some (KeyUpdate op tag)) answer
update_tests r s u m op tag answer a =
    let negotiation = negotiation_alike s u a in
    let stage = stage_alike s u a in
    cc

update_answer : (r : RspSetup) (p : Place) (m : List ℕ) (f : Free) (op tag : ℕ) → request_at p m ≡ Some (KeyUpdate op tag) → answer_bytes r p m f ≡ canonical_response (KeyUpdateAck op tag)
unfolding answer_bytes
update_answer r p m f op tag is = ap (answer_to r p m f) is

update_refusal : (r : RspSetup) (s u : Events) (m : List ℕ) (f k : Free) (op tag : ℕ) → EventsAlike s u → request_at (session_place s) m ≡ Some (KeyUpdate op tag) → refusal r (session_place s) m f ≡ refusal r (session_place u) m k
unfolding refusal
update_refusal r s u m f k op tag a is =
    let are : request_at (session_place u) m ≡ Some (KeyUpdate op tag) = sym (asked_same s u m a) ∙ is in
    let code : code_of m ≡ KEY_UPDATE = sym (asked-code (session_place s) m (KeyUpdate op tag) is) in
    let answer : List ℕ = canonical_response (KeyUpdateAck op tag) in
    let contents : refused_contents r (session_place s) m f ≡ refused_contents r (session_place u) m k =
    contents_with r (session_place s) m f (Some (KeyUpdate op tag)) answer is (update_answer r (session_place s) m f op tag is)
    ∙ ap first_of_tests (update_tests r s u m op tag answer a)
    ∙ sym (contents_with r (session_place u) m k (Some (KeyUpdate op tag)) answer are (update_answer r (session_place u) m k op tag are)) in
    ap (λ (x : Option ErrorCode). option_or x (refused_contents r (session_place s) m f)) (form_same r s u m a code) ∙ ap (option_or (refused_form r (session_place u) m)) contents

refusals : (r : RspSetup) (s u : Events) (m : List ℕ) (f k : Free) (q : Option RequestMessage) → EventsAlike s u → request_at (session_place s) m ≡ q
    → (is_none (refusal r (session_place s) m f) && asks_update q) ≡ (is_none (refusal r (session_place u) m k) && asks_update q)
refusals r s u m f k (Some (KeyUpdate op tag)) a is = ap (λ (x : Option ErrorCode). is_none x && (op == 2)) (update_refusal r s u m f k op tag a is)
refusals r s u m f k None a is = no_and _ _
refusals r s u m f k (Some GetVersion) a is = no_and _ _
refusals r s u m f k (Some (GetCapabilities caps)) a is = no_and _ _
refusals r s u m f k (Some (NegotiateAlgorithms offer)) a is = no_and _ _
refusals r s u m f k (Some (GetMeasurements op)) a is = no_and _ _
refusals r s u m f k (Some (PskExchange exchange)) a is = no_and _ _
refusals r s u m f k (Some (PskFinish verify)) a is = no_and _ _
refusals r s u m f k (Some Heartbeat) a is = no_and _ _
refusals r s u m f k (Some EndSession) a is = no_and _ _
refusals r s u m f k (Some (ChunkSend c)) a is = no_and _ _
refusals r s u m f k (Some (ChunkGet handle number)) a is = no_and _ _

updates_alike : (r : RspSetup) (s u : Events) (m : List ℕ) (f k : Free) → EventsAlike s u → updates 2 (turn_of r (session_place s) m f) ≡ updates 2 (turn_of r (session_place u) m k)
unfolding turn_of
updates_alike r s u m f k a =
    by_updates r s m f (request_at (session_place s) m) (refusal r (session_place s) m f) refl refl
    ∙ refusals r s u m f k (request_at (session_place s) m) a refl
    ∙ ap (λ (q : Option RequestMessage). is_none (refusal r (session_place u) m k) && asks_update q) (asked_same s u m a)
    ∙ sym (by_updates r u m k (request_at (session_place u) m) (refusal r (session_place u) m k) refl refl)

-- ---- The turn.

session_updates_by : (r : RspSetup) (s u : Events) (text : List ℕ) (f k : Free) (x : Option ErrorCode) → EventsAlike s u → updates 2 (session_turn_by r s text f x) ≡ updates 2 (session_turn_by r u text k x)
session_updates_by r s u text f k (Some e) a = refl
session_updates_by r s u text f k None a = by_type (slice_index text 0 == 5)
  where
    by_type : (b : Bool) → updates 2 (cond b (turn_of r (session_place s) (drop 1 text) f) (data_turn f (drop 1 text))) ≡ updates 2 (cond b (turn_of r (session_place u) (drop 1 text) k) (data_turn k (drop 1 text)))
    by_type true = updates_alike r s u (drop 1 text) f k a
    by_type false = refl

session_updates : (r : RspSetup) (s u : Events) (text : List ℕ) (f k : Free) → EventsAlike s u → updates 2 (session_turn r s text f) ≡ updates 2 (session_turn r u text k)
unfolding session_turn
session_updates r s u text f k a =
    session_updates_by r s u text f k (inner_refusal (stage_of s) text) a ∙ ap (λ x. updates 2 (session_turn_by r u text k (inner_refusal x text))) (stage_alike s u a)

session_told_by : (r : RspSetup) (s u : Events) (text : List ℕ) (f k : Free) (x : Option ErrorCode) → EventsAlike s u → (session_turn_by r s text f x).reply ≡ (session_turn_by r u text k x).reply
    → TurnsAlike (session_turn_by r s text f x) (session_turn_by r u text k x)
session_told_by r s u text f k (Some e) a same = record { message = refl; refused = refl; chunk = refl; effect = tt; reply = same }
session_told_by r s u text f k None a same = by_type (slice_index text 0 == 5) same
  where
    by_type : (b : Bool) → (cond b (turn_of r (session_place s) (drop 1 text) f) (data_turn f (drop 1 text))).reply ≡ (cond b (turn_of r (session_place u) (drop 1 text) k) (data_turn k (drop 1 text))).reply
        → TurnsAlike (cond b (turn_of r (session_place s) (drop 1 text) f) (data_turn f (drop 1 text))) (cond b (turn_of r (session_place u) (drop 1 text) k) (data_turn k (drop 1 text)))
    by_type true same = turn_told r (session_place s) (session_place u) (drop 1 text) f k (read_alike s u (drop 1 text) a) same
    by_type false same = record { message = refl; refused = refl; chunk = refl; effect = (refl, same); reply = same }

session_told : (r : RspSetup) (s u : Events) (text : List ℕ) (f k : Free) → EventsAlike s u → (session_turn r s text f).reply ≡ (session_turn r u text k).reply → TurnsAlike (session_turn r s text f) (session_turn r u text k)
unfolding session_turn
session_told r s u text f k a =
    let P : Stage → Type 0 = λ x. (session_turn r s text f).reply ≡ (session_turn_by r u text k (inner_refusal x text)).reply → TurnsAlike (session_turn r s text f) (session_turn_by r u text k (inner_refusal x text)) in
    subst P (stage_alike s u a) (session_told_by r s u text f k (inner_refusal (stage_of s) text) a)

-- Under one turn both sessions answer with one record.
record_same : (psk : List ℕ) (s u : Events) (t : Turn) (text pad : List ℕ) → EventsAlike s u → reply_record psk s t text pad ≡ reply_record psk u t text pad
unfolding reply_record
record_same psk s u t text pad a =
    let negotiation = negotiation_alike s u a in
    let exchange = exchange_alike s u a in
    let answer = answer_alike s u a in
    let stage = stage_alike s u a in
    let epoch = response_epoch_alike s u a in
    let number = response_number_alike s u a in
    let finish = finish_alike s u a in
    let finished = finish_answer_alike s u a in
    cc

-- A record of one length tells the turn of what was sealed in the one that it answers.
pub opened_told : (r : RspSetup) (s u : Events) (text : List ℕ) (f k : Free) → EventsAlike s u → length f.reply ≤ 1024 → length k.reply ≤ 1024
    → length (answer_bytes r (session_place s) (drop 1 text) f) ≤ MAX_MESSAGE_SIZE → length (answer_bytes r (session_place u) (drop 1 text) k) ≤ MAX_MESSAGE_SIZE
    → reply_record r.psk s (session_turn r s text f) (inner_reply (session_turn r s text f)) f.pad ≡ reply_record r.psk u (session_turn r u text k) (inner_reply (session_turn r u text k)) k.pad
    → TurnsAlike (session_turn r s text f) (session_turn r u text k)
opened_told r s u text f k a few less short brief same =
    let t = session_turn r s text f in
    let o = session_turn r u text k in
    let texts : inner_reply t ≡ inner_reply o = record_at r.psk s t o (updates 2 o) (inner_reply t) (inner_reply o) f.pad k.pad (session_updates r s u text f k a) refl
    (let e = session_short r s text f short few in omega arith) (let e = session_short r u text k brief less in omega arith) (same ∙ sym (record_same r.psk s u o (inner_reply o) k.pad a)) in
    session_told r s u text f k a (ap (λ (l : List ℕ). drop 1 l) texts)
