-- What a responder makes of each thing that is asked of an open session, and the requester of its answer.
use Rattle.std.proofs.Common.{◌≡◌, ◌≢◌, ◌∙◌, ℕ, suc, ◌<◌, ◌≤◌, ◌&&◌, ◌||◌, not, List, ◌∷◌, length, Bool, true, false, nat_lt, None, Result, Ok, refl, sym, ap, subst, arith}
use Rattle.spdm_basis.proofs.Bools.{lt_false}
use Rattle.spdm_grammar.specs.declared.names.TheConstants.{MIN_DATA_TRANSFER_SIZE}
use Rattle.spdm_grammar.specs.Message.{RequestMessage, ResponseMessage}
use Rattle.spdm_grammar.specs.Message.RequestMessage.{EndSession, GetMeasurements, Heartbeat, KeyUpdate}
use Rattle.spdm_grammar.specs.Message.ResponseMessage.{EndSessionAck, HeartbeatAck, KeyUpdateAck}
use Rattle.spdm_grammar.specs.Requests.{canonical_request}
use Rattle.spdm_grammar.specs.Responses.{canonical_response, response_reading}
use Rattle.spdm_grammar.specs.declared.messages.malformed.Malformed.{Malformed}
use Rattle.spdm_grammar.specs.declared.names.request_code.TheConstants.{END_SESSION, GET_MEASUREMENTS, HEARTBEAT, KEY_UPDATE}
use Rattle.spdm_grammar.specs.declared.told.phase.Stage.{Stage}
use Rattle.spdm_grammar.specs.declared.told.phase.Stage.TheVariants as stage
use Rattle.spdm_machine.specs.Terms.{Terms, hash_len}
use Rattle.requester_machine.specs.Commands.{Free as AskerFree}
use Rattle.requester_machine.specs.History as asked
use Rattle.requester_machine.specs.History.{Led}
use Rattle.requester_machine.specs.History.Effect.{Grants}
use Rattle.requester_machine.specs.InnerMessages.{Came, data_led, inner_fault, inner_led, inner_led_by, message_led, read_led}
use Rattle.requester_machine.specs.Message.{Ask}
use Rattle.requester_machine.specs.Sending.{inner_data, inner_request}
use Rattle.requester_machine.specs.Session as steps
use Rattle.requester_machine.specs.Setup.{ReqSetup}
use Rattle.responder_machine.specs.Answer.{Free, answer_of}
use Rattle.responder_machine.specs.Does.{chosen, record_chosen}
use Rattle.responder_machine.specs.History as served
use Rattle.spdm_machine.specs.Keys.{Draw}
use Rattle.responder_machine.specs.Handling.{goes_large, turn_of}
use Rattle.responder_machine.specs.Place.{session_place}
use Rattle.responder_machine.specs.Refusal.{fits_stage, has_pending, is_answer_too_long, lacks_flag, stage_allows}
use Rattle.responder_machine.specs.Responder.{data_turn, inner_refusal, session_turn, session_turn_by}
use Rattle.responder_machine.specs.Session as events
use Rattle.responder_machine.specs.Session.{Events}
use Rattle.responder_machine.specs.Setup.{RspSetup, inventory_of}
use Rattle.responder_machine.specs.Turn.{Turn}
use Rattle.measurements.specs.Records.{is_missing}
use Rattle.spdm_progress.proofs.MeasureStages.{measurements, measures_flag}
use Rattle.spdm_progress.proofs.OnePacket.{positive}
use Rattle.spdm_progress.proofs.ResponderStages.{both_short, zero_plus}
use Rattle.spdm_progress.proofs.ResponderTurns.{read_at, taken_at, taken_turn}

-- ---- An SPDM message in a session.

-- What a requester takes in this session.
pub record TakesInSession (e : Events) (n : ℕ) : Type 0 where
  pub max : n ≤ (events.session_terms e).common.to_requester.max
  pub transfer : n ≤ (events.session_terms e).common.to_requester.transfer

pub not_too_long_in : (e : Events) (answer : List ℕ) → TakesInSession e (length answer) → is_answer_too_long (session_place e) answer ≡ false
not_too_long_in e answer k =
    let common = (events.session_terms e).common in
    ap (λ (n : ℕ). true && (nat_lt common.to_requester.max (length answer) || (not common.chunk && nat_lt common.to_requester.transfer n))) (zero_plus (length answer))
    ∙ both_short true common.chunk common.to_requester.max common.to_requester.transfer (length answer) (λ known. (k.max, k.transfer))

pub not_large_in : (e : Events) (answer : List ℕ) → TakesInSession e (length answer) → goes_large (session_place e) answer ≡ false
not_large_in e answer k =
    ap (λ (n : ℕ). nat_lt (events.session_terms e).common.to_requester.transfer n) (zero_plus (length answer)) ∙ lt_false (events.session_terms e).common.to_requester.transfer (length answer) k.transfer

-- A request in a session that is taken.
abbrev pub turn_in : RspSetup → Events → Free → RequestMessage → Turn
turn_in r e f v = taken_turn r (session_place e) (canonical_request v) f v

-- An inner message of four bytes after its type is read as an SPDM message.
pub read_inside : (r : RspSetup) (e : Events) (m : List ℕ) (f : Free) → inner_refusal (events.stage_of e) (5 ∷ m) ≡ None → session_turn r e (5 ∷ m) f ≡ turn_of r (session_place e) m f
unfolding session_turn
read_inside r e m f none = ap (session_turn_by r e (5 ∷ m) f) none

pub beat_turn : (r : RspSetup) (e : Events) (f : Free) → MIN_DATA_TRANSFER_SIZE ≤ r.transfer → events.stage_of e ≡ stage.Open → (events.session_terms e).common.heartbeat ≡ true → TakesInSession e 4 → session_turn r e (inner_request Heartbeat) f ≡ turn_in r e f Heartbeat
beat_turn r e f room at flag takes =
    read_inside r e (canonical_request Heartbeat) f refl
    ∙ taken_at r (session_place e) (canonical_request Heartbeat) f Heartbeat (read_at (session_place e) Heartbeat tt tt) refl
    (record {
      long = refl;
      short = lt_false r.transfer 4 (omega arith);
      known = refl;
      outside = refl;
      whole = refl;
      placed = refl;
      allowed = ap (λ (g : Stage). stage_allows g (has_pending (session_place e)) HEARTBEAT) at;
      version = refl;
    })
    (record {
      flags = beats (events.session_terms e) flag;
      caps = refl;
      offer = refl;
      block = refl;
      exchange = refl;
      verify = refl;
      update = refl;
      chunk = refl;
      get = refl;
      fits = not_too_long_in e (canonical_response HeartbeatAck) takes;
      limit = refl;
    })
    (not_large_in e (canonical_response HeartbeatAck) takes)
  where
    beats : (terms : Terms) → terms.common.heartbeat ≡ true → lacks_flag terms HEARTBEAT ≡ false
    beats terms is = rw is refl

pub end_turn : (r : RspSetup) (e : Events) (f : Free) → MIN_DATA_TRANSFER_SIZE ≤ r.transfer → events.stage_of e ≡ stage.Open → TakesInSession e 4 → session_turn r e (inner_request EndSession) f ≡ turn_in r e f EndSession
end_turn r e f room at takes =
    read_inside r e (canonical_request EndSession) f refl
    ∙ taken_at r (session_place e) (canonical_request EndSession) f EndSession (read_at (session_place e) EndSession tt tt) refl
    (record {
      long = refl;
      short = lt_false r.transfer 4 (omega arith);
      known = refl;
      outside = refl;
      whole = refl;
      placed = refl;
      allowed = ap (λ (g : Stage). stage_allows g (has_pending (session_place e)) END_SESSION) at;
      version = refl;
    })
    (record { flags = refl; caps = refl; offer = refl; block = refl; exchange = refl; verify = refl; update = refl; chunk = refl; get = refl; fits = not_too_long_in e (canonical_response EndSessionAck) takes; limit = refl })
    (not_large_in e (canonical_response EndSessionAck) takes)

-- KEY_UPDATE, with an operation for the stage.
stage_updates : (g : Stage) (op : ℕ) (pending : Bool) → g ≢ stage.Handshake → stage_allows g pending KEY_UPDATE ≡ true
stage_updates stage.Handshake op pending past = absurd (past refl)
stage_updates stage.Open op pending past = refl
stage_updates stage.Verifying op pending past = refl

pub update_turn : (r : RspSetup) (e : Events) (f : Free) (op tag : ℕ) → MIN_DATA_TRANSFER_SIZE ≤ r.transfer → 1 ≤ op → op ≤ 3 → tag < 256 → events.stage_of e ≢ stage.Handshake → fits_stage (events.stage_of e) op ≡ true → (events.session_terms e).common.key_update ≡ true → TakesInSession e 4
    → session_turn r e (inner_request (KeyUpdate op tag)) f ≡ turn_in r e f (KeyUpdate op tag)
update_turn r e f op tag room least most byte past at flag takes =
    read_inside r e (canonical_request (KeyUpdate op tag)) f refl
    ∙ taken_at r (session_place e) (canonical_request (KeyUpdate op tag)) f (KeyUpdate op tag) (read_at (session_place e) (KeyUpdate op tag) ((omega arith), byte) (least, most)) refl
    (record {
      long = refl;
      short = lt_false r.transfer 4 (omega arith);
      known = refl;
      outside = refl;
      whole = refl;
      placed = refl;
      allowed = stage_updates (events.stage_of e) op (has_pending (session_place e)) past;
      version = refl;
    })
    (record {
      flags = updates_flag (events.session_terms e) flag;
      caps = refl;
      offer = refl;
      block = refl;
      exchange = refl;
      verify = refl;
      update = ap not at;
      chunk = refl;
      get = refl;
      fits = not_too_long_in e (canonical_response (KeyUpdateAck op tag)) takes;
      limit = refl;
    })
    (not_large_in e (canonical_response (KeyUpdateAck op tag)) takes)
  where
    updates_flag : (terms : Terms) → terms.common.key_update ≡ true → lacks_flag terms KEY_UPDATE ≡ false
    updates_flag terms is = rw is refl

-- GET_MEASUREMENTS, whose answer fits.
pub measure_turn_in : (r : RspSetup) (e : Events) (f : Free) (op : ℕ) → MIN_DATA_TRANSFER_SIZE ≤ r.transfer → op < 256 → events.stage_of e ≡ stage.Open → (events.session_terms e).choice.measure ≡ true → is_missing op (inventory_of r) ≡ false
    → TakesInSession e (length (canonical_response (answer_of r (session_place e) (canonical_request (GetMeasurements op)) f (GetMeasurements op)))) → session_turn r e (inner_request (GetMeasurements op)) f ≡ turn_in r e f (GetMeasurements op)
measure_turn_in r e f op room byte at flag block takes =
    let answer = canonical_response (answer_of r (session_place e) (canonical_request (GetMeasurements op)) f (GetMeasurements op)) in
    read_inside r e (canonical_request (GetMeasurements op)) f refl
    ∙ taken_at r (session_place e) (canonical_request (GetMeasurements op)) f (GetMeasurements op) (read_at (session_place e) (GetMeasurements op) byte tt) refl
    (record {
      long = refl;
      short = lt_false r.transfer 4 (omega arith);
      known = refl;
      outside = refl;
      whole = refl;
      placed = refl;
      allowed = ap (λ (g : Stage). stage_allows g (has_pending (session_place e)) GET_MEASUREMENTS) at;
      version = refl;
    })
    (record {
      flags = measures_flag (events.session_terms e) flag;
      caps = refl;
      offer = refl;
      block = block;
      exchange = refl;
      verify = refl;
      update = refl;
      chunk = refl;
      get = refl;
      fits = not_too_long_in e answer takes;
      limit = refl;
    })
    (not_large_in e answer takes)

-- MEASUREMENTS as the responder makes it.
pub measured_in : (r : RspSetup) (g : served.History) (e : Events) (sealed : List ℕ) (d : Draw) (op : ℕ) → canonical_response (answer_of r (session_place e) (canonical_request (GetMeasurements op)) (record_chosen r g sealed d) (GetMeasurements op)) ≡ measurements r op d.bytes
unfolding chosen
measured_in r g e sealed d op = refl

-- Application data.
pub data_turn_in : (r : RspSetup) (e : Events) (bytes : List ℕ) (f : Free) → events.stage_of e ≡ stage.Open → length bytes ≤ 1024 → session_turn r e (inner_data bytes) f ≡ data_turn f bytes
unfolding session_turn
data_turn_in r e bytes f at short = ap (session_turn_by r e (1 ∷ bytes) f) (ap (λ (g : Stage). inner_refusal g (1 ∷ bytes)) at ∙ data_allowed)
  where
    data_allowed : inner_refusal stage.Open (1 ∷ bytes) ≡ None
    data_allowed = rw (lt_false 1025 (length (1 ∷ bytes)) (omega arith), positive (suc (length bytes)) (omega arith)) refl

-- ---- The requester reads the answer.

not_over : (q : ReqSetup) (m : List ℕ) → length m ≤ q.transfer → inner_fault q (5 ∷ m) ≡ None
not_over q m fits = rw (lt_false q.transfer (length m) fits) refl

module _ (q : ReqSetup) (h : asked.History) (f : AskerFree) (came : Came) (ask : Ask) (m : List ℕ) (value : ResponseMessage) where
  abbrev with_inner : List ℕ → Came
  with_inner inner = record came { inner = inner }

  spdm_led : length m ≤ q.transfer → response_reading (hash_len (steps.session_terms came.steps)) false m ≡ Ok value → inner_led q h f (with_inner (5 ∷ m)) ask ≡ message_led q h f (with_inner (5 ∷ m)) ask value
  unfolding inner_led
  spdm_led fits reads_so =
      ap (inner_led_by q h f (with_inner (5 ∷ m)) ask) (not_over q m fits)
      ∙ ap (λ (x : Result ResponseMessage Malformed). read_led q h f (with_inner (5 ∷ m)) ask x) reads_so

  pub answer_read : came.inner ≡ 5 ∷ m → length m ≤ q.transfer → response_reading (hash_len (steps.session_terms came.steps)) false m ≡ Ok value → inner_led q h f came ask ≡ message_led q h f came ask value
  answer_read is fits reads_so = subst (λ (inner : List ℕ). inner_led q h f (with_inner inner) ask ≡ message_led q h f (with_inner inner) ask value) (sym is) (spdm_led fits reads_so)

not_over_data : (q : ReqSetup) (m : List ℕ) → length m ≤ 1024 → inner_fault q (1 ∷ m) ≡ None
not_over_data q m fits = rw (lt_false 1024 (length m) fits) refl

pub data_read : (q : ReqSetup) (h : asked.History) (f : AskerFree) (came : Came) (ask : Ask) (m : List ℕ) → came.inner ≡ 1 ∷ m → length m ≤ 1024 → inner_led q h f came ask ≡ data_led came ask
unfolding inner_led
data_read q h f came ask m is fits =
    subst (λ (inner : List ℕ). inner_led_by q h f (record came { inner = inner }) ask (inner_fault q inner) ≡ data_led (record came { inner = inner }) ask) (sym is) (ap (inner_led_by q h f (record came { inner = 1 ∷ m }) ask) (not_over_data q m fits))
