-- What holds wherever the moves of a pre-shared key lead without chance.
use Rattle.std.specs.Prelude.{◌≡◌, ℕ, List, [], ◌∷◌, ◌++◌, true, Some, None}
use Rattle.key_schedule.specs.Purpose.{Purpose, is_record}
use Rattle.spdm_agreement.specs.Marks.{Exchange, Text, AcceptedOnce, IsOpened, OpenedApart, HasOpened, finishing, asked_open, requests, outstanding, heard, handshake, served_open, taken, firsts}
use Rattle.spdm_agreement.specs.Moves.{Move, State, IsRun, nothing_yet}
use Rattle.spdm_agreement.specs.Reading.{First, Reading}
use Rattle.world_machine.specs.Agreement.{IsPrefixOf, IsMade}
use Rattle.world_machine.specs.Chance.{NoChance}

-- Moves led here from the beginning, and nothing agrees by chance.
pub record IsReached (r : Reading) (s : State) : Type 0 where
  pub moves : List Move
  pub run : IsRun r moves nothing_yet s
  pub no_chance : NoChance s.log

-- Where both ends hold open a session of one pair of ids, it is one session: it began with the same messages, and the
-- T2 are equal.
abbrev pub OneTranscript : Type 0
OneTranscript =
    (r : Reading) (s : State) → IsReached r s → (req rsp : ℕ) (t t' : First) (u u' : List ℕ)
    → asked_open r req s.asked ≡ Some (t, u) → r.responder_id t ≡ rsp
    → served_open r rsp s.served ≡ Some (t', u') → r.requester_id t' ≡ req
    → (t ≡ t') × (u ≡ u')

-- What is chosen of some texts or exchanges, of which the newest stands first, in order.
abbrev pub in_order : {A : Type 0} → (A → List (List ℕ)) → List A → List (List ℕ)
in_order choose [] = []
in_order choose (x ∷ older) = in_order choose older ++ choose x

-- The requests that were taken under a T2 are the beginning of those that were sealed under it, and the exchanges that
-- came back are the beginning of those that were taken; so is whatever is chosen of them, one by one.
abbrev pub Delivered : Type 0
Delivered =
    (r : Reading) (s : State) → IsReached r s → (u : List ℕ)
    → ((choose : Text → List (List ℕ)) → IsPrefixOf (in_order choose (firsts (taken u s.served))) (in_order choose (requests u s.asked)))
    × ((choose : Exchange → List (List ℕ)) → IsPrefixOf (in_order choose (heard u s.asked)) (in_order choose (taken u s.served)))

-- A session that the requester holds open, and each that it ever opened, was finished at the responder, with the same
-- beginning and T2; the open sessions of two ids begin otherwise; no session was accepted twice, and no two that opened
-- have one T2.
abbrev pub MatchedSessions : Type 0
MatchedSessions =
    (r : Reading) (s : State) → IsReached r s
    → ((id : ℕ) (t : First) (u : List ℕ) → asked_open r id s.asked ≡ Some (t, u) → HasOpened s.served t u)
    × ((id other : ℕ) (t t' : First) (u : List ℕ) → asked_open r id s.asked ≡ Some (t, u) → asked_open r other s.asked ≡ Some (t', u) → id ≡ other)
    × ((t : First) (u : List ℕ) → IsOpened s.asked t u → HasOpened s.served t u)
    × AcceptedOnce s.asked
    × OpenedApart s.asked

-- No two different records are sealed under one purpose and number.
abbrev pub OneRecord : Type 0
OneRecord =
    (r : Reading) (s : State) → IsReached r s → (p : Purpose) (number : ℕ) (b c : List ℕ)
    → is_record p.kind ≡ true → p.psk ≡ r.psk
    → IsMade p (number ∷ b) s.log → IsMade p (number ∷ c) s.log → b ≡ c

-- Under the T2 of a session that is about to open nothing was said, heard or taken.
abbrev pub FreshSessions : Type 0
FreshSessions =
    (r : Reading) (s : State) → IsReached r s → (t : First)
    → (finishing s.asked ≡ Some t → (requests (r.second t) s.asked ≡ []) × (heard (r.second t) s.asked ≡ []) × (outstanding (r.second t) s.asked ≡ None))
    × (handshake s.served ≡ Some t → taken (r.second t) s.served ≡ [])
