-- What is counted for a connection after made-up entries, and the values that the responder chooses there.
use Rattle.std.proofs.Common.{refl, ◌≡◌, ℕ, List, [], ◌∷◌, ◌++◌, replicate, true, false, Option, Some, None}
use Rattle.std.specs.Prelude.{map}
use Rattle.spdm_grammar.specs.Message.{RequestMessage}
use Rattle.spdm_grammar.specs.Message.RequestMessage.{GetVersion, GetCapabilities, NegotiateAlgorithms, GetMeasurements, PskExchange, PskFinish, Heartbeat, KeyUpdate, EndSession, ChunkGet}
use Rattle.spdm_grammar.specs.declared.messages.error_code.ErrorCode.TheVariants.{InvalidRequest}
use Rattle.spdm_grammar.specs.declared.told.phase.Phase.{Phase}
use Rattle.spdm_grammar.specs.declared.told.phase.Phase.TheVariants.{Fresh, Versioned, Capable, Negotiated}
use Rattle.spdm_machine.specs.Keys.{Draw}
use Rattle.responder_machine.proofs.Pinned.{computed, setup, all_caps, offer, exchange, took, negotiated}
use Rattle.responder_machine.specs.Does.{chosen}
use Rattle.responder_machine.specs.History.{History, Entry, Kept, clear_turns, phase_of, negotiation_of, kept_of, ended_of, queue_of, draws_of, all_taken}
use Rattle.responder_machine.specs.History.Entry.{Clear, Sealed, Queued}
use Rattle.responder_machine.specs.Responder.{is_repeat, repeats}
use Rattle.responder_machine.specs.Session.{session_of}
use Rattle.responder_machine.specs.Turn.{Turn, Effect}
use Rattle.responder_machine.specs.Turn.Effect.{NoEffect, Took, TookData}

-- ---- Entries.

abbrev draw : Draw
draw = record { number = 5; bytes = replicate 32 7 }

abbrev turn_with : Effect → Turn
turn_with effect = record { message = 1 ∷ []; refused = None; chunk = None; effect = effect; reply = 2 ∷ [] }

-- In the clear: a request with its answer took effect; and a message was refused.
abbrev clear : RequestMessage → (request answer : List ℕ) → Entry
clear asked request answer = Clear 3 (turn_with (Took asked request answer None)) draw

abbrev refused : Entry
refused = Clear 4 (record { message = 9 ∷ []; refused = Some InvalidRequest; chunk = None; effect = NoEffect; reply = 8 ∷ [] }) draw

-- In a record: a request took effect; application data did; a message was refused.
abbrev in_session : RequestMessage → Entry
in_session asked = Sealed 3 (6 ∷ []) (turn_with (Took asked [] [] None)) (7 ∷ []) draw

abbrev taken_data : Entry
taken_data = Sealed 3 (6 ∷ []) (turn_with (TookData [] [])) (7 ∷ []) draw

abbrev refused_in_session : Entry
refused_in_session = Sealed 3 (6 ∷ []) (record (turn_with NoEffect) { refused = Some InvalidRequest }) (7 ∷ []) draw

-- ---- Phase and negotiation.

abbrev PhaseRow : Type 0
PhaseRow = History × Phase

abbrev AreInPhase : List PhaseRow → Type 0
AreInPhase rows = map (λ (row : PhaseRow). phase_of (clear_turns row.0)) rows ≡ map (λ (row : PhaseRow). row.1) rows

abbrev versioned : Entry
versioned = clear GetVersion (10 ∷ []) (11 ∷ [])

abbrev capable : Entry
capable = clear (GetCapabilities all_caps) (12 ∷ []) (13 ∷ [])

abbrev agreed : Entry
agreed = clear (NegotiateAlgorithms offer) (14 ∷ []) (15 ∷ [])

phases : AreInPhase (
    ([], Fresh)
    ∷ (versioned ∷ [], Versioned)
    ∷ (capable ∷ versioned ∷ [], Capable)
    ∷ (agreed ∷ capable ∷ versioned ∷ [], Negotiated)
    ∷ (versioned ∷ agreed ∷ capable ∷ versioned ∷ [], Versioned)
    ∷ (refused ∷ clear (GetMeasurements 0) [] [] ∷ in_session EndSession ∷ agreed ∷ capable ∷ versioned ∷ [], Negotiated)
    ∷ [])
phases = refl

-- The six messages; a later GET_VERSION drops what came before it.
whole_negotiation : negotiation_of (clear_turns (refused ∷ agreed ∷ capable ∷ versioned ∷ []))
    ≡ record { get_version = 10 ∷ []; version = 11 ∷ []; get_capabilities = 12 ∷ []; capabilities = 13 ∷ []; negotiate_algorithms = 14 ∷ []; algorithms = 15 ∷ [] }
whole_negotiation = refl

negotiation_begins_anew : negotiation_of (clear_turns (versioned ∷ agreed ∷ capable ∷ versioned ∷ []))
    ≡ record { get_version = 10 ∷ []; version = 11 ∷ []; get_capabilities = []; capabilities = []; negotiate_algorithms = []; algorithms = [] }
negotiation_begins_anew = refl

-- ---- Kept replies.

-- The last clear message that was not refused; records change nothing of it.
kept : kept_of (refused ∷ in_session Heartbeat ∷ versioned ∷ []) ≡ Some (record { tag = 3; message = 1 ∷ []; reply = 2 ∷ [] })
kept = refl

none_kept : kept_of (refused ∷ taken_data ∷ []) ≡ None
none_kept = refl

abbrev kept_one : Option Kept
kept_one = Some (record { tag = 3; message = 1 ∷ 2 ∷ []; reply = [] })

-- A repeat has the tag and all bytes.
repeated : is_repeat kept_one 3 (1 ∷ 2 ∷ []) ≡ true
repeated = refl

other_tag : is_repeat kept_one 4 (1 ∷ 2 ∷ []) ≡ false
other_tag = refl

other_bytes : is_repeat kept_one 3 (1 ∷ 3 ∷ []) ≡ false
other_bytes = refl

more_bytes : is_repeat kept_one 3 (1 ∷ 2 ∷ 3 ∷ []) ≡ false
more_bytes = refl

-- The record of END_SESSION, until the next PSK_EXCHANGE or GET_VERSION.
ended : ended_of (refused ∷ capable ∷ taken_data ∷ in_session EndSession ∷ []) ≡ Some (record { sealed = 6 ∷ []; reply = 7 ∷ [] })
ended = refl

ended_by_version : ended_of (versioned ∷ in_session EndSession ∷ []) ≡ None
ended_by_version = refl

ended_by_exchange : ended_of (clear (PskExchange exchange) [] [] ∷ in_session EndSession ∷ []) ≡ None
ended_by_exchange = refl

repeated_record : repeats (ended_of (in_session EndSession ∷ [])) (6 ∷ []) ≡ true
repeated_record = refl

other_record : repeats (ended_of (in_session EndSession ∷ [])) (6 ∷ 0 ∷ []) ≡ false
other_record = refl

-- ---- Queue, draws and application data.

queued : queue_of (Queued (2 ∷ []) ∷ Queued (1 ∷ []) ∷ []) ≡ (1 ∷ []) ∷ (2 ∷ []) ∷ []
queued = refl

queue_moves_by_data : queue_of (Queued (3 ∷ []) ∷ taken_data ∷ Queued (2 ∷ []) ∷ Queued (1 ∷ []) ∷ []) ≡ (2 ∷ []) ∷ (3 ∷ []) ∷ []
queue_moves_by_data = refl

queue_stays : queue_of (refused_in_session ∷ in_session Heartbeat ∷ in_session EndSession ∷ versioned ∷ Queued (1 ∷ []) ∷ []) ≡ (1 ∷ []) ∷ []
queue_stays = refl

-- PSK_EXCHANGE and GET_MEASUREMENTS, in the clear and in a session, take a draw each.
draws : draws_of (in_session (GetMeasurements 0) ∷ clear (GetMeasurements 0) [] [] ∷ clear (PskExchange exchange) [] [] ∷ []) ≡ 3
draws = refl

no_draws : draws_of (refused_in_session ∷ taken_data ∷ in_session Heartbeat ∷ in_session (KeyUpdate 1 0) ∷ in_session EndSession ∷ in_session (PskFinish []) ∷ in_session (ChunkGet 0 0) ∷ refused ∷ agreed ∷ capable ∷ versioned ∷ []) ≡ 0
no_draws = refl

data_taken : all_taken (taken_data ∷ refused_in_session ∷ in_session Heartbeat ∷ taken_data ∷ versioned ∷ []) ≡ 2
data_taken = refl

-- ---- Values chosen: the least free id, the context with the number of the draw, the nonce of the draw, the
-- handles in order, and the first application data that waits.

abbrev large : Turn
large = took (GetMeasurements 0) [] (Some 0)

chosen_values : chosen (record setup { opaque = 1 ∷ [] }) (Queued (2 ∷ []) ∷ Queued (1 ∷ []) ∷ []) (record negotiated { turns = took (ChunkGet 0 0) [] None ∷ large ∷ large ∷ [] }) draw
    ≡ record { id = 1; context = replicate 24 7 ++ 5 ∷ replicate 7 0; exchange_opaque = 1 ∷ []; nonce = replicate 32 7; measured_opaque = []; handle = 2; reply = 1 ∷ []; pad = [] }
unfolding chosen session_of computed
chosen_values = refl

handles_begin_anew : (chosen setup [] (record negotiated { turns = replicate 256 large }) draw).handle ≡ 0
unfolding chosen
handles_begin_anew = refl

none_queued : (chosen setup [] negotiated draw).reply ≡ []
unfolding chosen
none_queued = refl
