-- What a message is to a request that is sent in chunks.
use Rattle.std.proofs.Common.{refl, ◌≡◌, ◌≤◌, ◌<◌, ◌+◌, ◌-◌, ◌^◌, ℕ, List, Bool, false, length, arith, min}
use Rattle.std.specs.Prelude.{◌==◌, ◌/◌, ◌%◌, Ok}
use Rattle.std.proofs.Math.Nat.{div-le_self}
use Rattle.requester_core.specs.ReplyOutcome.{IsAnswered, IsCarried, IsLed}
use Rattle.requester_core.specs.ClearState.{Seen}
use Rattle.requester_core.specs.declared.clear.reply_outcome.ReplyOutcome as seen_led
use Rattle.requester_core.specs.declared.clear.reply_outcome.ReplyOutcome.TheVariants as seen
use Rattle.chunking.specs.Cutting.{chunk_count}
use Rattle.requester_machine.specs.ClearAnswers.{Carried, ack_carries, carried_led}
use Rattle.requester_machine.specs.ClearAnswers.Carried.{Whole}
use Rattle.requester_machine.specs.Commands.{Free}
use Rattle.requester_machine.specs.History.{History}
use Rattle.requester_machine.specs.Setup.{ReqSetup}
use Rattle.negotiate.specs.declared.shared.Common.{Common}
use Rattle.spdm_grammar.specs.Message.{ChunkMessage, RequestMessage, response_message}
use Rattle.spdm_grammar.specs.declared.messages.response.Response.{Response}
use Rattle.spdm_grammar.specs.declared.messages.response.Response.TheVariants as responses
use Rattle.spdm_grammar.specs.declared.told.event.ReqIgnored.TheVariants as ignored
use Rattle.spdm_grammar.specs.declared.names.TheConstants.{MAX_MESSAGE_SIZE}
use Rattle.requester_core.proofs.Answered.{any_free}
use Rattle.requester_machine.proofs.Pieces.{not_last}

pub carried_by : (q : ReqSetup) (h : History) (request : RequestMessage) (carried : Carried) (led : seen_led.ReplyOutcome) (old new : Seen) (out : List ℕ)
    → ((f : Free) → IsLed h (carried_led q h f request carried) led old new out) → IsCarried q h request carried led old new out
carried_by q h request carried (seen.Ignored cause) old new out is = is
carried_by q h request carried (seen.Rests told) old new out is = is
carried_by q h request carried (seen.Sends tag) old new out is = is
carried_by q h request carried (seen.Large tag) old new out is = is
carried_by q h request carried (seen.More tag) old new out is = absurd (is any_free)
carried_by q h request carried seen.Exchange old new out is = absurd (is any_free)

-- A whole answer.
pub whole_carried : (q : ReqSetup) (h : History) (request : RequestMessage) (answer : List ℕ) (place : ℕ) (led : seen_led.ReplyOutcome) (old new : Seen) (out : List ℕ)
    → IsAnswered q h place request answer led old new out → IsCarried q h request (Whole answer place) led old new out
whole_carried q h request answer place (seen.Ignored cause) old new out is = is
whole_carried q h request answer place (seen.Rests told) old new out is = is
whole_carried q h request answer place (seen.Sends tag) old new out is = is
whole_carried q h request answer place (seen.Large tag) old new out is = is
whole_carried q h request answer place (seen.More tag) old new out is = absurd (is any_free)
whole_carried q h request answer place seen.Exchange old new out is = (answer, place, refl, is)

-- ---- How many chunks there are.

counted : (a u : ℕ) → a / u + min 1 (a % u) ≤ a + 1
counted a u = (let b = div-le_self a u in omega (arith, b))

pub count_few : (transfer : ℕ) (message : List ℕ) → length message ≤ MAX_MESSAGE_SIZE → chunk_count transfer message ≤ 4101
count_few transfer message short = (let b = counted (length message + 4) (transfer - 12) in omega (arith, b, short))

-- The number of the next one.
pub next_within : (number count next : ℕ) → number < count → count ≤ 4101 → (number + 1 == count) ≡ false → next ≡ min (number + 1) (2 ^ 16 - 1) → (next ≡ number + 1) × (number + 1 < count)
next_within number count next within few more is = (omega (arith, within, few, is), not_last (number + 1) count more (omega (arith, within)))

-- A response that is neither ERROR nor CHUNK_SEND_ACK.
pub other_ack : (h : History) (common : Common) (request : RequestMessage) (piece : ChunkMessage) (r : Response)
    → ((version code detail : ℕ) (extended : _) → r ≡ responses.Error version code detail extended → ⊥) → ((early : Bool) (handle number : ℕ) (answer : _) → r ≡ responses.ChunkSendAck early handle number answer → ⊥)
    → ack_carries h common request piece (Ok (response_message r)) ≡ Carried.Ignored (ignored.Malformed 1)
other_ack h common request piece (responses.Error version code detail extended) no_error no_ack = absurd (no_error version code detail extended refl)
other_ack h common request piece (responses.ChunkSendAck early handle number answer) no_error no_ack = absurd (no_ack early handle number answer refl)
other_ack h common request piece _ no_error no_ack = refl
