-- A session at the requester that awaits an answer.
use Rattle.std.specs.Prelude.{⊤, ◌≡◌, ◌+◌, ℕ, List, [], ◌∷◌, if◌then◌else◌}
use Rattle.chunking.specs.Keeping as keeping
use Rattle.requester_machine.specs.SpentLaws.{FewFor}
use Rattle.requester_machine.specs.Message.{Ask}
use Rattle.requester_machine.specs.Message.Ask.{AskData, AskBeat, AskUpdate, AskVerify, AskMeasure, AskChunk, AskEnd}
use Rattle.requester_machine.specs.Order.{stage_for}
use Rattle.requester_machine.specs.Records.{asks_all}
use Rattle.requester_machine.specs.Session.{Steps, stage_of, session_terms, request_next, response_next, response_epoch}
use Rattle.requester_machine.specs.Session.Step.{Asked}
use Rattle.requester_machine.specs.UnderWay.{AreUnderWay}
use Rattle.spdm_grammar.specs.Message.{ChunkMessage}
use Rattle.psk_session.specs.Kept.{Keeps}
use Rattle.psk_session.specs.declared.session_request.Awaited.{Awaited}
use Rattle.psk_session.specs.declared.session_request.Awaited.TheVariants as awaited
use Rattle.psk_session.specs.declared.kept.Kept.{Kept}

-- The state as contracts see it: what is kept of the session, what is awaited, what was gathered of a large response,
-- and the record that was sent.
pub record Seen : Type 0 where
  pub kept : Kept
  pub awaited : Awaited
  pub gathered : keeping.Kept
  pub sent : List ℕ

-- ---- What is awaited.

-- What is awaited, as a step of the session asks it; a chunk after these chunks, the newest first.
abbrev pub awaited_by : Awaited → (before : List ChunkMessage) → Ask
awaited_by awaited.Data before = AskData
awaited_by awaited.Beat before = AskBeat
awaited_by (awaited.Update all) before = AskUpdate all
awaited_by awaited.Verify before = AskVerify
awaited_by (awaited.Measure op) before = AskMeasure op
awaited_by (awaited.Chunk op handle number) before = AskChunk op handle number before
awaited_by awaited.End before = AskEnd

-- A chunk is awaited after all chunks of its large response before it, and all else after none.
abbrev pub IsBehind : (max : ℕ) → Awaited → (before : List ChunkMessage) → Type 0
IsBehind max (awaited.Chunk op handle number) before = AreUnderWay max handle number before
IsBehind max _ before = before ≡ []

-- While a chunk is awaited, the chunks before it are what was gathered, in messages of up to this length.
abbrev pub IsGathered : (max : ℕ) → Awaited → (collector : keeping.Kept)
    → (before : List ChunkMessage) → Type 0
IsGathered max (awaited.Chunk op handle number) collector before =
    keeping.StandsFor collector before × (collector.max ≡ max)
IsGathered max _ collector before = ⊤

-- This is what is awaited, in messages of up to this length.
pub record Awaits (awaited : Awaited) (collector : keeping.Kept) (most : ℕ) (a : Ask) : Type 0 where
  pub before : List ChunkMessage
  pub is : a ≡ awaited_by awaited before
  pub behind : IsBehind most awaited before
  pub gathered : IsGathered most awaited collector before

-- ---- The state.

-- The newest step is a record that asks this.
abbrev pub IsNewest : Ask → (sealed : List ℕ) → Steps → Type 0
IsNewest ask sealed [] = ⊥
IsNewest ask sealed (Asked other inner sent ∷ older) = (other ≡ ask) × (sent ≡ sealed)
IsNewest ask sealed (_ ∷ older) = ⊥

-- The epoch of the key that the answer is under: UpdateAllKeys is answered under the next one.
abbrev pub awaited_epoch : Steps → Ask → ℕ
awaited_epoch s a = if asks_all a then response_epoch s + 1 else response_epoch s

-- The state stands for a session of these steps, with this pre-shared key, whose newest record asks this. Its next
-- numbers are few enough for what that may lead to.
pub record StandsFor (seen : Seen) (psk : List ℕ) (s : Steps) (a : Ask) : Type 0 where
  pub stage : stage_of s ≡ stage_for a
  pub keeps : Keeps seen.kept psk s (awaited_epoch s a)
  pub newest : IsNewest a seen.sent s
  pub awaits : Awaits seen.awaited seen.gathered (session_terms s).common.to_requester.max a
  pub few : FewFor a (request_next s) (response_next s)
