-- While a large response is fetched, an answer depends on no more of its bytes than on those of the chunk that it
-- gives. This project's own.
use Rattle.std.specs.Prelude.{◌≡◌, ◌≤◌, ◌==◌, ℕ, List, ◌∷◌, drop, length, slice_index, Bool, true, false, Some, MatchBool}
use Rattle.chunking.specs.Cutting.{nth_chunk}
use Rattle.requester_machine.specs.Setup.{ReqSetup}
use Rattle.responder_machine.specs.History.{History}
use Rattle.responder_machine.specs.LargeMessages.{given_of}
use Rattle.responder_machine.specs.May.{place_for, with_dropped}
use Rattle.responder_machine.specs.Place.{Place, place_terms}
use Rattle.responder_machine.specs.Refusal.{has_pending}
use Rattle.responder_machine.specs.Responder.Outcome.{Adds}
use Rattle.responder_machine.specs.Responder.{Outcome, after, body_of}
use Rattle.responder_machine.specs.Session.{id_in_record, session_of}
use Rattle.responder_machine.specs.Setup.{RspSetup, towards}
use Rattle.secured_record.specs.Format.{plain_text}
use Rattle.spdm_grammar.specs.Message.ResponseMessage.{ChunkResponse}
use Rattle.spdm_grammar.specs.Responses.{canonical_response}
use Rattle.spdm_machine.specs.Bodies.{clear_body}
use Rattle.check_responder.specs.ShownBy.{HasFewBlocks}
use Rattle.check_laws.specs.AnswersShown.{answered_text}
use Rattle.check_laws.specs.Walks.{Walks}
use Rattle.capture_machine.specs.CapturedAnswers.{AnswersLarge, AreShown, Completes, MayLeadAfter, is_plain}
use Rattle.capture_machine.specs.LargeAnswers.{judging, place_named, takes_get, with_large}
use Rattle.capture_machine.specs.Opening.{turn_in}
use Rattle.capture_machine.specs.Rounds.{Dialogue, Round}
use Rattle.world_machine.specs.Setup.{Configuration, known_of}
use Rattle.spdm_grammar.specs.declared.names.TheConstants.{MAX_PADDING}
use Rattle.spdm_grammar.specs.declared.names.message_type.TheConstants.{SPDM}

-- The outcome gives a chunk of a large response.
abbrev pub gives_chunk : Outcome → Bool
gives_chunk (Adds entry) = takes_get entry
gives_chunk _ = false

-- An answer that goes whole, or is a chunk but for the last one, after these drops and by this outcome.
abbrev pub AnswersBy : RspSetup → Dialogue → Round → (answer : List ℕ) → History → (dropped : List ℕ) → Outcome → Type 0
AnswersBy r d round answer next dropped outcome =
    let h = judging d.fetching round.body d.responder in
    MayLeadAfter r h dropped round.tag round.body outcome
    × AreShown r h round.body outcome dropped
    × (is_plain h outcome ≡ true)
    × (body_of outcome ≡ answer)
    × (next ≡ after (with_dropped d.responder dropped) outcome)

-- The place to which a body goes, with these bytes as the large response there.
abbrev pub place_with : History → (body whole : List ℕ) → Place
place_with h body whole = place_for (with_large (place_named body) whole h) body

-- The bytes of the chunk of them that is to be given next.
abbrev pub next_chunk : History → (body whole : List ℕ) → List ℕ
next_chunk h body whole =
    let p = place_with h body whole in (nth_chunk (place_terms p).common.to_requester.transfer 0 whole (given_of p.turns)).chunk

-- Bytes of one length that have this chunk in common.
pub record AgreeNext (h : History) (body w v : List ℕ) : Type 0 where
  pub size : length w ≡ length v
  pub chunk : next_chunk h body w ≡ next_chunk h body v

-- A chunk of both is left to be given, or of neither.
abbrev pub ArePending : History → (body w v : List ℕ) → Type 0
ArePending h body w v = has_pending (place_with h body w) ≡ has_pending (place_with h body v)

-- So an answer goes on from a walk with these bytes where it goes on from one with others: it gives no chunk, or one that both
-- have. No measurements have more than 4,054 bytes.
abbrev pub AnswersAreAlike : Type 0
AnswersAreAlike = (c : Configuration) (q : ReqSetup) (older : List (List ℕ)) (d : Dialogue) (w v : List ℕ) (round : Round) (answer : List ℕ) (next : History) (dropped : List ℕ) (outcome : Outcome)
    → HasFewBlocks (towards c.responder (known_of d.setup))
    → Walks c q older d → Walks c q older (record d { fetching = Some v }) → d.fetching ≡ Some w → d.round ≡ Some round
    → ArePending d.responder round.body w v → (gives_chunk outcome ≡ true → AgreeNext d.responder round.body w v)
    → AnswersBy (towards c.responder (known_of d.setup)) d round answer next dropped outcome
    → AnswersBy (towards c.responder (known_of d.setup)) (record d { fetching = Some v }) round answer next dropped outcome

-- A new LargeResponse depends on none of them. No measurements have more than 4,054 bytes.
abbrev pub LargeIsAlike : Type 0
LargeIsAlike = (c : Configuration) (q : ReqSetup) (older : List (List ℕ)) (d : Dialogue) (w v : List ℕ) (round : Round) (answer : List ℕ) (next : History) (whole : List ℕ)
    → HasFewBlocks (towards c.responder (known_of d.setup))
    → Walks c q older d → Walks c q older (record d { fetching = Some v }) → d.fetching ≡ Some w → d.round ≡ Some round
    → ArePending d.responder round.body w v
    → AnswersLarge (towards c.responder (known_of d.setup)) d round answer next whole
    → AnswersLarge (towards c.responder (known_of d.setup)) (record d { fetching = Some v }) round answer next whole

-- ---- The chunk.

-- CHUNK_RESPONSE with that chunk, under some handle.
abbrev pub chunk_given : History → (body whole : List ℕ) → (handle : ℕ) → List ℕ
chunk_given h body whole handle =
    let p = place_with h body whole in
    canonical_response (ChunkResponse (nth_chunk (place_terms p).common.to_requester.transfer handle whole (given_of p.turns)))

-- What a record holds as the answer to the record in a body, with these bytes as the large response of its session.
abbrev pub text_with : RspSetup → History → (body whole sealed : List ℕ) → List ℕ
text_with r h body whole sealed =
    let s = session_of (id_in_record (drop 1 body)) (with_large (place_named body) whole h) in answered_text r s (turn_in r s (drop 1 body)) sealed

-- An answer shows that chunk: in the clear it is that response; in a session it is a record with that response in it, sealed
-- as the answer to the request, and a padding of at most 16 bytes.
abbrev pub ShowsChunk : RspSetup → History → (body answer whole : List ℕ) → Type 0
ShowsChunk r h body answer whole =
    (handle : ℕ) × MatchBool (slice_index body 0 == SPDM)
    (answer ≡ clear_body (chunk_given h body whole handle))
    ((pad : List ℕ) × (length pad ≤ MAX_PADDING) × (text_with r h body whole (drop 1 answer) ≡ plain_text (SPDM ∷ chunk_given h body whole handle) pad))

-- In a walk in which some bytes are fetched, an answer that gives a chunk shows their next one.
abbrev pub ChunkIsShown : Type 0
ChunkIsShown = (c : Configuration) (q : ReqSetup) (older : List (List ℕ)) (d : Dialogue) (whole : List ℕ) (round : Round) (answer : List ℕ) (next : History) (dropped : List ℕ) (outcome : Outcome)
    → Walks c q older d → d.fetching ≡ Some whole → d.round ≡ Some round → gives_chunk outcome ≡ true
    → AnswersBy (towards c.responder (known_of d.setup)) d round answer next dropped outcome
    → ShowsChunk (towards c.responder (known_of d.setup)) d.responder round.body answer whole

-- So does the last one.
abbrev pub LastShowsChunk : Type 0
LastShowsChunk = (c : Configuration) (q : ReqSetup) (older : List (List ℕ)) (d : Dialogue) (whole : List ℕ) (round : Round) (answer : List ℕ) (next : History)
    → Walks c q older d → d.fetching ≡ Some whole → d.round ≡ Some round
    → Completes (towards c.responder (known_of d.setup)) d round answer next
    → ShowsChunk (towards c.responder (known_of d.setup)) d.responder round.body answer whole

-- What an answer to a record holds depends on no byte of them: it is opened alike, whatever it is.
abbrev pub TextIsAlike : Type 0
TextIsAlike = (c : Configuration) (q : ReqSetup) (older : List (List ℕ)) (d : Dialogue) (w v : List ℕ) (round : Round) (sealed : List ℕ)
    → Walks c q older d → d.fetching ≡ Some w → d.round ≡ Some round → (slice_index round.body 0 == SPDM) ≡ false
    → ArePending d.responder round.body w v
    → text_with (towards c.responder (known_of d.setup)) d.responder round.body w sealed ≡ text_with (towards c.responder (known_of d.setup)) d.responder round.body v sealed
