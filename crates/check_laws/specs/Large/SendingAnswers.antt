-- While a large request is sent each answer goes whole: no large response begins by it, and none ends. This project's
-- own.
use Rattle.std.specs.Prelude.{◌≡◌, ℕ, List, true, false}
use Rattle.requester_machine.specs.Setup.{ReqSetup}
use Rattle.responder_machine.specs.Answer.{Free}
use Rattle.responder_machine.specs.History.{History}
use Rattle.responder_machine.specs.May.{on_body}
use Rattle.responder_machine.specs.Setup.{RspSetup}
use Rattle.spdm_grammar.specs.Message.{ChunkMessage}
use Rattle.spdm_grammar.specs.Message.RequestMessage.{ChunkSend}
use Rattle.spdm_grammar.specs.Requests.{canonical_request}
use Rattle.spdm_machine.specs.Bodies.{clear_body}
use Rattle.capture_machine.specs.CapturedAnswers.{is_plain}
use Rattle.capture_machine.specs.Rounds.{no_draw}
use Rattle.world_machine.specs.Setup.{Configuration}
use Rattle.check_laws.specs.Large.Sending.{IsSendingOf, Sending}

-- The body of CHUNK_SEND with a chunk that is not the last one.
abbrev pub IsChunkBody : List ℕ → Type 0
IsChunkBody body = (c : ChunkMessage) × (c.last ≡ false) × (body ≡ clear_body (canonical_request (ChunkSend c)))

-- With such a one the last round asks.
abbrev pub SendingAsksChunk : Type 0
SendingAsksChunk = (w : Configuration) (q : ReqSetup) (older : List (List ℕ)) (s : Sending) → IsSendingOf w q older s → IsChunkBody s.round.body

-- Whatever is free, it leads to no LargeResponse, and to no last chunk of a large response.
abbrev pub ChunksLeadPlainly : Type 0
ChunksLeadPlainly = (r : RspSetup) (h : History) (tag : ℕ) (body : List ℕ) (f : Free) → IsChunkBody body → is_plain h (on_body r h tag body f no_draw) ≡ true
