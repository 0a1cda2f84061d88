-- What the chunk of a large response leads to that is awaited.
use Rattle.std.specs.Prelude.{◌≡◌, ℕ, List, Option, Some, None}
use Rattle.chunking.specs.Collecting.{accepted_with, collected}
use Rattle.chunking.specs.Collecting.Collection.{More}
use Rattle.chunking.specs.Keeping as keeping
use Rattle.requester_machine.specs.Message.Ask.{AskChunk}
use Rattle.requester_machine.specs.Session.{Steps, session_terms}
use Rattle.spdm_grammar.specs.Message.{ChunkMessage}
use Rattle.psk_session.specs.Held.{verdict_with}
use Rattle.psk_session.specs.Verdict.{Fits, chunk_course, course_of}
use Rattle.psk_session.specs.declared.outcome.Outcome.{Outcome}

-- The chunk has this outcome, with these bytes put down: that of the large response which it completes, or of its
-- refusal. Or there is none, and the chunk was gathered, after which more are awaited.
abbrev pub IsCollected : (psk : List ℕ) → Steps → (op handle number : ℕ)
    → (before : List ChunkMessage) → (sealed : List ℕ) → ChunkMessage → (gathered : keeping.Kept)
    → (bytes : List ℕ) → Option Outcome → Type 0
IsCollected psk s op handle number before sealed c gathered bytes (Some outcome) =
    (answer : List ℕ)
    × (chunk_course psk s op handle number before sealed c
    (collected (session_terms s).common.to_requester.max before c)
    ≡ course_of psk s (AskChunk op handle number before) sealed answer (verdict_with outcome bytes))
    × Fits s (AskChunk op handle number before) answer (verdict_with outcome bytes)
IsCollected psk s op handle number before sealed c gathered bytes None =
    (More ≡ collected (session_terms s).common.to_requester.max before c)
    × keeping.StandsFor gathered (accepted_with (session_terms s).common.to_requester.max before c)
    × (gathered.max ≡ (session_terms s).common.to_requester.max)
