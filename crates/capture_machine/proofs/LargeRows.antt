-- Rows of the definitions of large responses in captures, each computed.
use Rattle.std.proofs.Common.{◌≡◌, ℕ, List, [], ◌∷◌, refl, true, false, Option, Some, None}
use Rattle.spdm_grammar.specs.Message.{ChunkMessage}
use Rattle.spdm_grammar.specs.Message.RequestMessage.{GetMeasurements, PskExchange, Heartbeat}
use Rattle.spdm_grammar.specs.declared.messages.error_code.ErrorCode.TheVariants.{InvalidRequest}
use Rattle.responder_machine.specs.Handling.{acknowledged, large_response}
use Rattle.responder_machine.specs.History.{Entry}
use Rattle.responder_machine.specs.History.Entry.{Clear, Sealed, Dropped}
use Rattle.responder_machine.specs.LargeMessages.{large_of}
use Rattle.responder_machine.specs.Turn.{Turn, Effect}
use Rattle.responder_machine.specs.Turn.Effect.{NoEffect, Took}
use Rattle.capture_machine.specs.LargeAnswers.{dropped_before_large, handle_shown, is_unseen, is_untouched, repeats_large, seen_turn, turn_with, unseen, with_large}
use Rattle.capture_machine.specs.Rounds.{no_draw}

-- A turn that was taken, with this effect and this reply; one that was refused; and one that was answered.
abbrev turn : Effect → List ℕ → Turn
turn effect reply = record { message = []; refused = None; chunk = None; effect = effect; reply = reply }

abbrev refused : Turn
refused = record (turn NoEffect []) { refused = Some InvalidRequest }

abbrev answered : Turn
answered = turn (Took Heartbeat [] (0x12 ∷ 0x68 ∷ 0 ∷ 0 ∷ []) None) (0x12 ∷ 0x68 ∷ 0 ∷ 0 ∷ [])

-- GET_MEASUREMENTS that got LargeResponse with handle 9, as it was taken, and not seen.
abbrev asked : Turn
asked = turn (Took (GetMeasurements 255) [] (1 ∷ 2 ∷ 3 ∷ 4 ∷ []) (Some 9)) (large_response 9)

abbrev pending : Turn
pending = turn_with [] None asked

-- Its bytes.
abbrev whole : List ℕ
whole = 5 ∷ 6 ∷ 7 ∷ 8 ∷ []

-- An entry in the clear, and one of the session with this RspSessionID.
abbrev clear : Turn → Entry
clear t = Clear 0 t no_draw

abbrev sealed : ℕ → Turn → Entry
sealed id t = Sealed 0 (0 ∷ 0 ∷ id ∷ 0 ∷ []) t [] no_draw

-- Nothing is pending where an answer was not seen, and its bytes are where they were put there.
unseen_is : unseen (clear asked) ≡ clear pending
unseen_is = refl

unseen_pends : large_of (pending ∷ []) ≡ None
unseen_pends = refl

seen_pends : large_of (seen_turn whole pending ∷ []) ≡ Some whole
seen_pends = refl

answered_is_seen : is_unseen (clear answered) ≡ false
answered_is_seen = refl

-- The handle stands in LargeResponse, also in an acknowledgement.
plain_handle : handle_shown pending ≡ 9
plain_handle = refl

acknowledged_handle : (c : ChunkMessage) → handle_shown (record pending { chunk = Some c; reply = acknowledged c (large_response 9) }) ≡ 9
acknowledged_handle c = refl

-- The bytes are those of the place, and of its newest answer.
in_the_clear : with_large None whole (sealed 1 pending ∷ clear refused ∷ clear pending ∷ clear pending ∷ []) ≡ sealed 1 pending ∷ clear refused ∷ clear (seen_turn whole pending) ∷ clear pending ∷ []
in_the_clear = refl

in_a_session : with_large (Some 1) whole (sealed 2 pending ∷ clear pending ∷ sealed 1 pending ∷ []) ≡ sealed 2 pending ∷ clear pending ∷ sealed 1 (seen_turn whole pending) ∷ []
in_a_session = refl

in_no_session : with_large (Some 3) whole (sealed 2 pending ∷ []) ≡ sealed 2 pending ∷ []
in_no_session = refl

drops_stand_before : with_large None whole (dropped_before_large None (2 ∷ []) (sealed 1 pending ∷ clear pending ∷ [])) ≡ sealed 1 pending ∷ clear (seen_turn whole pending) ∷ Dropped 2 ∷ []
drops_stand_before = refl

-- A repeat in the clear is one of the last request that was taken, and in a session one of the last record.
refused_is_no_last : repeats_large None (clear refused ∷ sealed 1 answered ∷ clear pending ∷ []) ≡ true
refused_is_no_last = refl

answered_is_last : repeats_large None (clear answered ∷ clear pending ∷ []) ≡ false
answered_is_last = refl

refused_record_is_last : repeats_large (Some 1) (sealed 1 refused ∷ sealed 1 pending ∷ []) ≡ false
refused_record_is_last = refl

other_record_is_not : repeats_large (Some 1) (sealed 2 answered ∷ clear answered ∷ sealed 1 pending ∷ []) ≡ true
other_record_is_not = refl

-- Of a session that an answer in the clear begins nothing follows its request.
untouched : is_untouched None (Some 2) (sealed 1 answered ∷ clear refused ∷ clear pending ∷ sealed 2 answered ∷ []) ≡ true
untouched = refl

record_touches : is_untouched None (Some 2) (sealed 2 answered ∷ clear pending ∷ []) ≡ false
record_touches = refl

drop_touches : is_untouched None (Some 2) (Dropped 2 ∷ clear pending ∷ []) ≡ false
drop_touches = refl
