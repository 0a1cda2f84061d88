-- How the program judges LargeResponse by its whole answer. This project's own.
use Rattle.std.specs.Prelude.{◌≡◌, ℕ, List, Option, Some, None}
use Rattle.chunking.specs.Collecting.{joined_with, under_way}
use Rattle.responder_machine.specs.Answer.{Free, request_at}
use Rattle.responder_machine.specs.Handling.{chunk_in}
use Rattle.responder_machine.specs.History.{History}
use Rattle.responder_machine.specs.LargeMessages.{chunks_of}
use Rattle.responder_machine.specs.Place.{Place, clear_place, inside, place_terms}
use Rattle.responder_machine.specs.Responder.{on_clear}
use Rattle.responder_machine.specs.Setup.{RspSetup}
use Rattle.spdm_grammar.specs.Message.{ChunkMessage}
use Rattle.spdm_grammar.specs.Responses.{response_in}
use Rattle.spdm_machine.specs.Terms.{hash_len}
use Rattle.check_laws.specs.AnswersShown.{asks_summary, clear_values, with_fields}
use Rattle.check_responder.specs.ClearAnswers.{IsAnsweredAt, given_of}
use Rattle.check_responder.specs.declared.given.Given.TheVariants as given
use Rattle.capture_machine.specs.Rounds.{no_draw}

-- The values in the fields of the whole answer to a request at a place; what it does not show stays as it is in these.
abbrev pub whole_values : Place → (request : List ℕ) → Free → (whole : List ℕ) → Free
whole_values p m f whole = with_fields f (request_at p m) (response_in (hash_len (place_terms p)) (asks_summary (request_at p m)) whole)

-- The same of a clear message, which may be the last chunk of a large request.
abbrev pub clear_whole : Place → (m : List ℕ) → Free → (whole : List ℕ) → Option ChunkMessage → Free
clear_whole p m f whole None = whole_values p m f whole
clear_whole p m f whole (Some c) = whole_values (inside p) (joined_with (under_way (chunks_of p.turns)) c) f whole

-- The values that LargeResponse and the whole answer show together.
abbrev pub clear_shown : RspSetup → History → (m reply whole : List ℕ) → Free
clear_shown r h m reply whole = clear_whole (clear_place h) m (clear_values r h m reply) whole (chunk_in (request_at (clear_place h) m))

-- At these values, which are allowed, a clear message is answered so, and that is LargeResponse.
pub record IsLargeAt (r : RspSetup) (h : History) (tag : ℕ) (m : List ℕ) (f : Free) (reply : List ℕ) : Type 0 where
  pub answered : IsAnsweredAt r h tag m f reply
  pub large : given_of h (on_clear r h tag m f no_draw) ≡ given.Large
