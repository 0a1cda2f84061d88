-- What the chunks of a large response show of it. This project's own.
use Rattle.std.specs.Prelude.{◌≡◌, ◌<◌, ◌+◌, ◌==◌, ◌⊎◌, nat_lt, if◌then◌else◌, ℕ, List, ◌∷◌, ◌++◌, length, take, true, Some}
use Rattle.chunking.specs.Cutting.{chunk_count, chunk_end, nth_chunk}
use Rattle.mctp_framing.specs.Cutting.{RouteFields}
use Rattle.mctp_framing.specs.Gathering.Gathered.{Whole}
use Rattle.requester_machine.specs.Setup.{ReqSetup}
use Rattle.responder_machine.specs.History.{Entry, History}
use Rattle.responder_machine.specs.Responder.{sent_by}
use Rattle.responder_machine.specs.Setup.{towards}
use Rattle.spdm_grammar.specs.Message.ResponseMessage.{ChunkResponse}
use Rattle.spdm_grammar.specs.Responses.{canonical_response}
use Rattle.capture_machine.specs.CapturedAnswers.{Completes}
use Rattle.capture_machine.specs.Rounds.{Round}
use Rattle.world_machine.specs.Setup.{Configuration, known_of}
use Rattle.check_late_laws.specs.Fetching.{Fetching, IsFetchingOf, MayStand, answer_by, bytes_given, bytes_in, bytes_of, dialogue_of, gives_in, number_of, size_in, size_of}
use Rattle.check_late_laws.specs.FetchingLaws.{GoesFetching}

-- Nothing more came of it.
pub record ShowsNone (f next : Fetching) : Type 0 where
  pub number : number_of next ≡ number_of f
  pub bytes : bytes_of next ≡ bytes_of f
  pub size : size_of next ≡ size_of f

-- The next chunk came: the responder's newest entry gives it, with this body. Its bytes follow those so far, and are then
-- the beginning of bytes that may stand, up to where a chunk of this number ends for some transfer size. The length of
-- all is told from then on.
pub record ShowsChunk (f next : Fetching) (answer : List ℕ) : Type 0 where
  pub entry : Entry
  pub behind : next.kept.responder ≡ entry ∷ f.kept.responder
  pub sent : sent_by entry ≡ answer
  pub gives : gives_in f.at entry ≡ true
  pub whole : List ℕ
  pub stands : MayStand f whole
  pub transfer : ℕ
  pub handle : ℕ
  pub chunk : answer_by entry ≡ canonical_response (ChunkResponse (nth_chunk transfer handle whole (number_of f)))
  pub more : nat_lt (number_of f) (chunk_count transfer whole) ≡ true
  pub wide : 12 < transfer
  pub number : number_of next ≡ number_of f + 1
  pub bytes : bytes_of next ≡ bytes_of f ++ bytes_in (number_of f) (answer_by entry)
  pub begins : bytes_of next ≡ take (chunk_end transfer (number_of f)) whole
  pub size : size_of next ≡ Some (length whole)
  pub told : size_of next ≡ (if number_of f == 0 then Some (size_in (answer_by entry)) else size_of f)

-- An answer with which the large one is fetched on shows nothing of it, or the next chunk.
abbrev pub ChunkIsShown : Type 0
ChunkIsShown = (w : Configuration) (q : ReqSetup) (older : List (List ℕ)) (f next : Fetching) (route : RouteFields) (answer : List ℕ)
    → IsFetchingOf w q older f → GoesFetching w f (Whole route answer) next → ShowsNone f next ⊎ ShowsChunk f next answer

-- With the last chunk the bytes of the chunks are all that stand for the answer.
abbrev pub LastIsWhole : Type 0
LastIsWhole = (w : Configuration) (q : ReqSetup) (older : List (List ℕ)) (f : Fetching) (round : Round) (answer whole : List ℕ) (h : History)
    → IsFetchingOf w q older f → MayStand f whole → f.kept.round ≡ Some round
    → (c : Completes (towards w.responder (known_of f.kept.setup)) (dialogue_of f whole) round answer h)
    → bytes_given f.at (c.2 ∷ f.kept.responder) ≡ whole
