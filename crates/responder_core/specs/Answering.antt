-- When a request of the clear part is answered.
use Rattle.std.specs.Prelude.{◌≡◌, ◌≤◌, Bool, true, false, Some}
use Rattle.responder_rules.specs.LargeAnswer as large_answer
use Rattle.responder_machine.specs.Place.{Place, place_terms}
use Rattle.responder_machine.specs.Refusal.{has_pending, is_get_refused}
use Rattle.spdm_grammar.specs.Message.{RequestMessage}
use Rattle.spdm_grammar.specs.Message.RequestMessage.{ChunkGet, EndSession, Heartbeat, KeyUpdate, PskExchange, PskFinish}
use Rattle.spdm_grammar.specs.declared.names.TheConstants.{MAX_MESSAGE_SIZE, MIN_DATA_TRANSFER_SIZE}

-- The request may be answered in the clear: it needs no session, and CHUNK_GET asks for the next chunk of a pending
-- answer.
abbrev pub IsAnswerable : large_answer.Seen → Place → RequestMessage → Type 0
IsAnswerable large p (ChunkGet handle number) =
    large_answer.StandsFor large (place_terms p).common.to_requester.transfer p.turns
    × (has_pending p ≡ true) × (is_get_refused p (Some (ChunkGet handle number)) ≡ false)
    × (MIN_DATA_TRANSFER_SIZE ≤ (place_terms p).common.to_requester.transfer)
    × ((place_terms p).common.to_requester.transfer ≤ MAX_MESSAGE_SIZE)
IsAnswerable large p (PskFinish verify) = ⊥
IsAnswerable large p Heartbeat = ⊥
IsAnswerable large p (KeyUpdate op tag) = ⊥
IsAnswerable large p EndSession = ⊥
IsAnswerable large p _ = Unit {0}

-- The answer is made here, and not by the session that it begins.
abbrev pub is_made_here : RequestMessage → Bool
is_made_here (PskExchange exchange) = false
is_made_here _ = true
