-- What a capture shows of a requester and its responder: rounds, one after another. This project's own.
use Rattle.std.specs.Prelude.{◌+◌, ◌%◌, ◌==◌, ℕ, List, [], map, find, if◌then◌else◌, Bool, false, Option, Some, None}
use Rattle.requester_machine.specs.History as requester_history
use Rattle.responder_machine.specs.History.{History}
use Rattle.spdm_machine.specs.Keys.{Draw}
use Rattle.requester_machine.specs.Setup.{ReqSetup}

-- A round: the tag and the body of the request that began it, how many requests of it, the first one and its copies,
-- have no answer yet, and whether one has. All of them are equal, so the next answer is to the oldest that has none.
pub record Round : Type 0 where
  pub tag : ℕ
  pub body : List ℕ
  pub waiting : ℕ
  pub answered : Bool

-- A requester, and the responder towards it: how the requester is set up; what it was told and took, and what the
-- responder took from it; the last round; the large request that is sent in chunks, until its last one; the large
-- response that is fetched in chunks, until its last one.
pub record Dialogue : Type 0 where
  pub setup : ReqSetup
  pub requester : requester_history.History
  pub responder : History
  pub round : Option Round
  pub sending : Option (List ℕ)
  pub fetching : Option (List ℕ)

-- Nothing was captured yet.
abbrev pub new_dialogue : ReqSetup → Dialogue
new_dialogue q = record { setup = q; requester = []; responder = []; round = None; sending = None; fetching = None }

-- A capture shows no draws, and no rule for it looks at one. Each entry has this one.
abbrev pub no_draw : Draw
no_draw = record { number = 0; bytes = [] }

-- ---- Rounds.

-- A round begins with one request.
abbrev pub new_round : ℕ → List ℕ → Round
new_round tag body = record { tag = tag; body = body; waiting = 1; answered = false }

-- The tag of the next round: tags count modulo 8 from 0.
abbrev pub following_tag : Option Round → ℕ
following_tag None = 0
following_tag (Some round) = (round.tag + 1) % 8

-- ---- Which dialogue. The end points of the requesters differ.

-- The dialogue is that of the requester with this endpoint.
abbrev pub is_at : ℕ → Dialogue → Bool
is_at eid d = d.setup.eid == eid

-- The dialogue of the requester with this endpoint, if there is one.
abbrev pub dialogue_at : ℕ → List Dialogue → Option Dialogue
dialogue_at eid ds = find (is_at eid) ds

-- The new dialogue in place of the old one, where they have one endpoint.
abbrev pub replaced : Dialogue → Dialogue → Dialogue
replaced new old = if old.setup.eid == new.setup.eid then new else old

-- The dialogues with the new one in place of the one with its endpoint.
abbrev pub with_dialogue : Dialogue → List Dialogue → List Dialogue
with_dialogue new ds = map (replaced new) ds
