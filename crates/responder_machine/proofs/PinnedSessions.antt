-- Which sessions are live and held, which id is free, and what is counted in a session, after made-up entries.
use Rattle.std.proofs.Common.{refl, ◌≡◌, ℕ, List, [], ◌∷◌, replicate, true, false, Some, None}
use Rattle.std.specs.List.{filter}
use Rattle.std.specs.Prelude.{map}
use Rattle.spdm_grammar.specs.Message.{RequestMessage}
use Rattle.spdm_grammar.specs.Message.RequestMessage.{GetVersion, GetCapabilities, NegotiateAlgorithms, GetMeasurements, PskExchange, PskFinish, Heartbeat, KeyUpdate, EndSession}
use Rattle.spdm_grammar.specs.declared.messages.error_code.ErrorCode.TheVariants.{InvalidRequest}
use Rattle.spdm_grammar.specs.declared.told.phase.Stage.{Stage}
use Rattle.spdm_grammar.specs.declared.told.phase.Stage.TheVariants.{Handshake, Open, Verifying}
use Rattle.spdm_machine.specs.Keys.{Draw}
use Rattle.responder_machine.proofs.Pinned.{all_caps, offer, exchange, took, after_taking, begun}
use Rattle.responder_machine.specs.History.{History, Entry}
use Rattle.responder_machine.specs.History.Entry.{Clear, Sealed, Queued, Ticked, Dropped}
use Rattle.responder_machine.specs.Place.{held_of, free_id}
use Rattle.responder_machine.specs.Session.{Events, session_of, is_live, is_spent, stage_of, request_epoch, response_epoch, request_next, response_next, taken_of}
use Rattle.responder_machine.specs.Session.Event.{Heard}
use Rattle.responder_machine.specs.Turn.Effect.{NoEffect, TookData}

-- ---- Entries.

abbrev draw : Draw
draw = record { number = 0; bytes = replicate 32 0 }

-- A request took effect in the clear.
abbrev clear : RequestMessage → Entry
clear asked = Clear 0 (took asked [] None) draw

-- PSK_EXCHANGE took effect, and its answer gives this period and this id.
abbrev begins : (period id : ℕ) → Entry
begins period id = Clear 0 (took (PskExchange exchange) (0x12 ∷ 0x66 ∷ period ∷ 0 ∷ id ∷ 0 ∷ []) None) draw

-- A record of the session with this id came, in which a request took effect.
abbrev in_session : ℕ → RequestMessage → Entry
in_session id asked = Sealed 0 (1 ∷ 0 ∷ id ∷ 0 ∷ []) (took asked [] None) [] draw

-- The session with this id is established. Its period is 30 seconds.
abbrev finishes : ℕ → History → History
finishes id h = in_session id (PskFinish []) ∷ begins 30 id ∷ h

-- ---- Live sessions.

-- The ids of the live sessions, of the numbers up to 5.
abbrev live_in : History → List ℕ
live_in h = filter (λ (id : ℕ). is_live (session_of id h)) (0 ∷ 1 ∷ 2 ∷ 3 ∷ 4 ∷ 5 ∷ [])

abbrev LiveRow : Type 0
LiveRow = History × List ℕ

abbrev AreLive : List LiveRow → Type 0
AreLive rows = map (λ (row : LiveRow). live_in row.0) rows ≡ map (λ (row : LiveRow). row.1) rows

-- PSK_EXCHANGE begins one, and ends one in its handshake.
begun_sessions : AreLive (
    ([], [])
    ∷ (begins 30 1 ∷ [], 1 ∷ [])
    ∷ (begins 30 2 ∷ begins 30 1 ∷ [], 2 ∷ [])
    ∷ (begins 30 1 ∷ begins 30 1 ∷ [], 1 ∷ [])
    ∷ (begins 30 2 ∷ finishes 1 [], 1 ∷ 2 ∷ [])
    ∷ (finishes 4 (finishes 3 (finishes 2 (finishes 1 []))), 1 ∷ 2 ∷ 3 ∷ 4 ∷ [])
    ∷ (in_session 1 (PskFinish []) ∷ [], [])
    ∷ [])
unfolding session_of
begun_sessions = refl

-- END_SESSION ends that of its record, GET_VERSION all, and no other message any.
ended_sessions : AreLive (
    (in_session 1 EndSession ∷ finishes 2 (finishes 1 []), 2 ∷ [])
    ∷ (in_session 3 EndSession ∷ finishes 2 (finishes 1 []), 1 ∷ 2 ∷ [])
    ∷ (clear GetVersion ∷ begins 30 3 ∷ finishes 2 (finishes 1 []), [])
    ∷ (clear (GetCapabilities all_caps) ∷ finishes 1 [], 1 ∷ [])
    ∷ (clear (NegotiateAlgorithms offer) ∷ finishes 1 [], 1 ∷ [])
    ∷ (clear (GetMeasurements 0) ∷ begins 30 1 ∷ [], 1 ∷ [])
    ∷ (in_session 1 (GetMeasurements 0) ∷ finishes 2 (finishes 1 []), 1 ∷ 2 ∷ [])
    ∷ (Dropped 1 ∷ finishes 2 (finishes 1 []), 2 ∷ [])
    ∷ [])
unfolding session_of
ended_sessions = refl

-- An established session is gone after twice its period without a record. One in its handshake, or with period 0,
-- stays.
idle_sessions : AreLive (
    (Ticked 59 ∷ finishes 1 [], 1 ∷ [])
    ∷ (Ticked 60 ∷ finishes 1 [], [])
    ∷ (Ticked 1 ∷ Ticked 59 ∷ finishes 1 [], [])
    ∷ (Ticked 59 ∷ in_session 1 Heartbeat ∷ Ticked 59 ∷ finishes 1 [], 1 ∷ [])
    ∷ (Ticked 1 ∷ in_session 2 Heartbeat ∷ Ticked 59 ∷ finishes 2 (finishes 1 []), 2 ∷ [])
    ∷ (Ticked 1 ∷ Queued [] ∷ Ticked 59 ∷ finishes 1 [], [])
    ∷ (Ticked 60 ∷ in_session 1 (KeyUpdate 1 0) ∷ finishes 1 [], [])
    ∷ (Ticked 1000 ∷ begins 30 1 ∷ [], 1 ∷ [])
    ∷ (Ticked 59 ∷ in_session 1 (PskFinish []) ∷ Ticked 59 ∷ begins 30 1 ∷ [], 1 ∷ [])
    ∷ (Ticked 1000 ∷ in_session 1 (PskFinish []) ∷ begins 0 1 ∷ [], 1 ∷ [])
    ∷ [])
unfolding session_of
idle_sessions = refl

-- ---- Held sessions, and the id that is free: the least from 1 to 4 that none past its handshake has.

pub record HeldRow : Type 0 where
  held : ℕ
  free : ℕ

abbrev held_in : History → HeldRow
held_in h = record { held = held_of h; free = free_id h }

abbrev row : ℕ → ℕ → HeldRow
row held free = record { held = held; free = free }

abbrev AreHeld : List (History × HeldRow) → Type 0
AreHeld rows = map (λ (r : History × HeldRow). held_in r.0) rows ≡ map (λ (r : History × HeldRow). r.1) rows

held_sessions : AreHeld (
    ([], row 0 1)
    ∷ (begins 30 1 ∷ [], row 0 1)
    ∷ (finishes 1 [], row 1 2)
    ∷ (begins 30 2 ∷ finishes 1 [], row 1 2)
    ∷ (in_session 1 (KeyUpdate 1 0) ∷ finishes 1 [], row 1 2)
    ∷ (finishes 2 (finishes 1 []), row 2 3)
    ∷ (finishes 3 (finishes 2 (finishes 1 [])), row 3 4)
    ∷ (finishes 4 (finishes 3 (finishes 2 (finishes 1 []))), row 4 4)
    ∷ (finishes 4 (finishes 3 []), row 2 1)
    ∷ (in_session 2 EndSession ∷ finishes 3 (finishes 2 (finishes 1 [])), row 2 2)
    ∷ (Ticked 60 ∷ finishes 2 (finishes 1 []), row 0 1)
    ∷ (clear GetVersion ∷ finishes 2 (finishes 1 []), row 0 1)
    ∷ [])
unfolding session_of
held_sessions = refl

-- ---- What is counted in a session.

pub record Counted : Type 0 where
  stage : Stage
  request_updates : ℕ
  response_updates : ℕ
  next_request : ℕ
  next_response : ℕ
  taken : ℕ

abbrev counted_in : Events → Counted
counted_in s = record {
  stage = stage_of s;
  request_updates = request_epoch s;
  response_updates = response_epoch s;
  next_request = request_next s;
  next_response = response_next s;
  taken = taken_of s;
}

-- In this order: the stage, the epochs of requests and of responses, the next number of each, and how many application
-- messages were taken.
abbrev counts : Stage → (request_updates response_updates next_request next_response taken : ℕ) → Counted
counts stage a b c d e = record { stage = stage; request_updates = a; response_updates = b; next_request = c; next_response = d; taken = e }

abbrev AreCounted : List (Events × Counted) → Type 0
AreCounted rows = map (λ (r : Events × Counted). counted_in r.0) rows ≡ map (λ (r : Events × Counted). r.1) rows

-- A refused request, and application data.
abbrev after_refusal : Events → Events
after_refusal s = Heard [] (record { message = []; refused = Some InvalidRequest; chunk = None; effect = NoEffect; reply = [] }) [] ∷ s

abbrev after_data : Events → Events
after_data s = Heard [] (record { message = []; refused = None; chunk = None; effect = TookData [] []; reply = [] }) [] ∷ s

-- Each session goes on from the one of the row before.
abbrev retried : Events
retried = after_refusal begun

abbrev finished : Events
finished = after_taking (PskFinish []) retried

abbrev talking : Events
talking = after_data (after_taking Heartbeat (after_data finished))

abbrev updated : Events
updated = after_taking (KeyUpdate 1 0) talking

abbrev verified : Events
verified = after_taking (KeyUpdate 3 0) updated

abbrev all_updated : Events
all_updated = after_taking (KeyUpdate 2 0) verified

abbrev refused_in_verifying : Events
refused_in_verifying = after_refusal all_updated

abbrev all_verified : Events
all_verified = after_taking (KeyUpdate 3 0) refused_in_verifying

counted_sessions : AreCounted (
    (begun, counts Handshake 0 0 0 0 0)
    ∷ (retried, counts Handshake 0 0 1 1 0)
    ∷ (finished, counts Open 0 0 0 0 0)
    ∷ (talking, counts Open 0 0 3 3 2)
    ∷ (updated, counts Verifying 1 0 0 4 2)
    ∷ (verified, counts Open 1 0 1 5 2)
    ∷ (all_updated, counts Verifying 2 1 0 1 2)
    ∷ (refused_in_verifying, counts Verifying 2 1 1 2 2)
    ∷ (all_verified, counts Open 2 1 2 3 2)
    ∷ [])
counted_sessions = refl

-- A key is spent where it has sealed 65,536 records.
none_is_spent : (s : Events) → request_next s ≡ 65535 → response_next s ≡ 65535 → is_spent s ≡ false
none_is_spent s requests responses = rw (requests, responses) refl

requests_are_spent : (s : Events) → request_next s ≡ 65536 → is_spent s ≡ true
requests_are_spent s requests = rw requests refl

responses_are_spent : (s : Events) → request_next s ≡ 0 → response_next s ≡ 65536 → is_spent s ≡ true
responses_are_spent s requests responses = rw (requests, responses) refl
