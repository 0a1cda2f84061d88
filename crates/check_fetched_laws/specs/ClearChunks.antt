-- CHUNK_GET in the clear while a large response is fetched: what it leads to is known from a few numbers. This
-- project's own.
use Rattle.std.specs.Prelude.{◌≡◌, ◌<◌, ◌≤◌, ◌^◌, ◌↔◌, nat_lt, ℕ, List, true, false, Some, None}
use Rattle.chunking.specs.Cutting.{chunk_count, nth_chunk}
use Rattle.responder_machine.specs.History.{Entry, History, kept_of}
use Rattle.responder_machine.specs.History.Entry.{Clear}
use Rattle.responder_machine.specs.LargeMessages.{given_of, handle_of, large_of}
use Rattle.responder_machine.specs.Place.{Place, clear_place, place_terms}
use Rattle.responder_machine.specs.Responder.Outcome.{Adds, Same}
use Rattle.responder_machine.specs.Responder.{Outcome, is_repeat, kept_reply}
use Rattle.responder_machine.specs.Setup.{RspSetup}
use Rattle.responder_machine.specs.Turn.Effect.{Took}
use Rattle.spdm_grammar.specs.Message.RequestMessage.{ChunkGet}
use Rattle.spdm_grammar.specs.Message.ResponseMessage.{ChunkResponse}
use Rattle.spdm_grammar.specs.Requests.{canonical_request}
use Rattle.spdm_grammar.specs.Responses.{canonical_response}
use Rattle.spdm_machine.specs.Bodies.{clear_body}
use Rattle.capture_machine.specs.CapturedAnswers.{MayLeadTo}
use Rattle.capture_machine.specs.LargeAnswers.{with_large}
use Rattle.capture_machine.specs.Rounds.{no_draw}

-- The clear part of a connection, with these bytes as the large response there.
abbrev pub clear_with : History → (whole : List ℕ) → Place
clear_with h whole = clear_place (with_large None whole h)

-- CHUNK_GET with this handle and this number.
abbrev pub get_message : (handle number : ℕ) → List ℕ
get_message handle number = canonical_request (ChunkGet handle number)

-- The chunk of this number.
abbrev pub get_response : History → (whole : List ℕ) → (handle number : ℕ) → List ℕ
get_response h whole handle number = canonical_response (ChunkResponse (nth_chunk (place_terms (clear_with h whole)).common.to_requester.transfer handle whole number))

-- What CHUNK_GET adds that gives it.
abbrev pub get_entry : (tag handle number : ℕ) → (response : List ℕ) → Entry
get_entry tag handle number response = Clear tag (record {
  message = get_message handle number;
  refused = None;
  chunk = None;
  effect = Took (ChunkGet handle number) (get_message handle number) response None;
  reply = response;
}) no_draw

-- It is no repeat, and asks for the next chunk of these bytes, which are pending: under the handle of their LargeResponse, and
-- by the number of chunks that were given. The responder takes messages of six bytes, and chunks are in common.
pub record IsNextGet (r : RspSetup) (h : History) (whole : List ℕ) (tag handle number : ℕ) : Type 0 where
  pub room : 6 ≤ r.transfer
  pub byte : handle < 256
  pub few : number < 2 ^ 16
  pub anew : is_repeat (kept_of h) tag (get_message handle number) ≡ false
  pub chunks : (place_terms (clear_with h whole)).common.chunk ≡ true
  pub large : large_of (clear_with h whole).turns ≡ Some whole
  pub given : given_of (clear_with h whole).turns ≡ number
  pub same : handle_of (clear_with h whole).turns ≡ handle
  pub more : nat_lt number (chunk_count (place_terms (clear_with h whole)).common.to_requester.transfer whole) ≡ true

-- Then that chunk is given, and nothing else.
abbrev pub NextIsGiven : Type 0
NextIsGiven = (r : RspSetup) (h : History) (whole : List ℕ) (tag handle number : ℕ) (outcome : Outcome) → IsNextGet r h whole tag handle number
    → MayLeadTo r (with_large None whole h) tag (clear_body (get_message handle number)) outcome
    ↔ (outcome ≡ Adds (get_entry tag handle number (get_response h whole handle number)))

-- A repeat in the clear gets what it got, whatever bytes stand for the large response.
abbrev pub RepeatIsSame : Type 0
RepeatIsSame = (r : RspSetup) (h : History) (whole : List ℕ) (tag : ℕ) (message : List ℕ) (outcome : Outcome) → is_repeat (kept_of h) tag message ≡ true
    → MayLeadTo r (with_large None whole h) tag (clear_body message) outcome → outcome ≡ Same (clear_body (kept_reply (kept_of h)))
