-- What has to hold between the ends of a world in which nothing agrees by chance: one transcript, data that was sent,
-- sessions that match, and each number used once. This project's own notions; agreement itself is proved elsewhere.
use Rattle.std.specs.Prelude.{◌≡◌, ◌&&◌, ◌⊎◌, ℕ, List, [], ◌∷◌, ◌++◌, if◌then◌else◌, Bool, true, false, Option, Some, None, Contains, bytes_eq}
use Rattle.key_schedule.specs.Purpose.{Purpose, is_record}
use Rattle.requester_machine.specs.History as asked
use Rattle.requester_machine.specs.History.Entry.{Told, TookClear, TookRecord}
use Rattle.requester_machine.specs.Message.{Command}
use Rattle.requester_machine.specs.Message.Command.{Send}
use Rattle.requester_machine.specs.Session as requester
use Rattle.requester_machine.specs.Session.Step.{Took}
use Rattle.requester_machine.specs.Shown as asked_shown
use Rattle.responder_machine.specs.Heard as served_shown
use Rattle.responder_machine.specs.History.{History}
use Rattle.responder_machine.specs.History.Entry.{Sealed}
use Rattle.responder_machine.specs.Place.{is_held}
use Rattle.responder_machine.specs.Session as responder
use Rattle.responder_machine.specs.Session.{id_in_record}
use Rattle.spdm_machine.specs.Sessions.{is_past_handshake}
use Rattle.spdm_machine.specs.TagLog.{Log}
use Rattle.spdm_machine.specs.TagLog.Act.{Made, Checked}
use Rattle.responder_machine.specs.Turn.{Effect, takes}
use Rattle.responder_machine.specs.Turn.Effect.{TookData}
use Rattle.requester_machine.specs.Requesting.{Requesting}
use Rattle.responder_machine.specs.Responding.{Connection}
use Rattle.world_machine.specs.World.{World}
use Rattle.spdm_grammar.specs.declared.names.request_code.TheConstants.{PSK_FINISH}

-- ---- The two ends of a pair.

-- A requester of the world, and the responder's connection with it.
pub record ArePair (world : World) (a : Requesting) (c : Connection) : Type 0 where
  pub requester : Contains world.requesters a
  pub connection : Contains world.responder.connections c
  pub peer : c.setup.peer ≡ a.setup.eid

-- A requester holds the session of a ReqSessionID open: it is live, in stage Open or Verifying. `is_held` says the same
-- of the responder and a RspSessionID.
abbrev pub holds : asked.History → ℕ → Bool
holds h id = requester.is_live (requester.session_of id h) && is_past_handshake (requester.stage_of (requester.session_of id h))

-- ---- One transcript.

-- Two sessions are one: they have equal T2, equal choices and equal common capabilities.
pub record AreOne (s : requester.Steps) (t : responder.Events) : Type 0 where
  pub transcript : requester.t2_of s ≡ responder.t2_of t
  pub choice : (requester.session_terms s).choice ≡ (responder.session_terms t).choice
  pub common : (requester.session_terms s).common ≡ (responder.session_terms t).common

-- Where both ends of a pair hold open a session of one id, the two are one.
abbrev pub Agreement : World → Type 0
Agreement world =
    (a : Requesting) (c : Connection) → ArePair world a c → (req rsp : ℕ)
    → holds a.history req ≡ true → is_held c.history rsp ≡ true
    → requester.id_bytes (requester.session_of req a.history) ≡ responder.id_bytes (responder.session_of rsp c.history)
    → AreOne (requester.session_of req a.history) (responder.session_of rsp c.history)

-- ---- Application data.

-- The list is the beginning of another.
abbrev pub IsPrefixOf : List (List ℕ) → List (List ℕ) → Type 0
IsPrefixOf xs ys = (rest : List (List ℕ)) × (xs ++ rest ≡ ys)

-- Bytes, where a transcript is this T2.
abbrev pub bytes_under : (t2 transcript bytes : List ℕ) → List (List ℕ)
bytes_under t2 transcript bytes = if bytes_eq transcript t2 then bytes ∷ [] else []

-- The application data that a command seals under T2: that of Send, where its session has this T2.
abbrev pub sent_under : (t2 : List ℕ) → asked.History → Command → List (List ℕ)
sent_under t2 older (Send id bytes) = bytes_under t2 (requester.t2_of (requester.session_of id older)) bytes
sent_under t2 older _ = []

-- The application data that a requester sealed under T2, in order. A message that is sent again is none more.
abbrev pub requests_sealed : (t2 : List ℕ) → asked.History → List (List ℕ)
requests_sealed t2 [] = []
requests_sealed t2 (Told command sent d ∷ older) = requests_sealed t2 older ++ sent_under t2 older command
requests_sealed t2 (_ ∷ older) = requests_sealed t2 older

-- The bytes of an answer, where it is application data and its session has this T2.
abbrev pub answered_under : (t2 : List ℕ) → requester.Steps → Bool → List ℕ → List (List ℕ)
answered_under t2 s false answer = []
answered_under t2 s true answer = bytes_under t2 (requester.t2_of s) answer

-- The application data that a requester took under T2, in order.
abbrev pub responses_taken : (t2 : List ℕ) → asked.History → List (List ℕ)
responses_taken t2 [] = []
responses_taken t2 (TookRecord tag id sealed inner led d ∷ older) =
    responses_taken t2 older ++ answered_under t2 (requester.session_of id older) (requester.is_data led.effect) (requester.answer_in led.effect)
responses_taken t2 (_ ∷ older) = responses_taken t2 older

-- The application data that took effect at a responder.
abbrev pub data_taken : Effect → Option (List ℕ)
data_taken (TookData bytes answer) = Some bytes
data_taken _ = None

-- The application data that was sealed in answer to it.
abbrev pub data_answered : Effect → Option (List ℕ)
data_answered (TookData bytes answer) = Some answer
data_answered _ = None

-- Bytes that are there, where a transcript is this T2.
abbrev pub some_under : (t2 transcript : List ℕ) → Option (List ℕ) → List (List ℕ)
some_under t2 transcript None = []
some_under t2 transcript (Some bytes) = bytes_under t2 transcript bytes

-- T2 of the session that a record names, as it stood before the record.
abbrev pub transcript_for : List ℕ → History → List ℕ
transcript_for sealed older = responder.t2_of (responder.session_of (id_in_record sealed) older)

-- The application data that a responder took under T2, in order.
abbrev pub requests_taken : (t2 : List ℕ) → History → List (List ℕ)
requests_taken t2 [] = []
requests_taken t2 (Sealed tag sealed t reply d ∷ older) = requests_taken t2 older ++ some_under t2 (transcript_for sealed older) (data_taken t.effect)
requests_taken t2 (_ ∷ older) = requests_taken t2 older

-- The application data that a responder sealed under T2, in order.
abbrev pub responses_sealed : (t2 : List ℕ) → History → List (List ℕ)
responses_sealed t2 [] = []
responses_sealed t2 (Sealed tag sealed t reply d ∷ older) = responses_sealed t2 older ++ some_under t2 (transcript_for sealed older) (data_answered t.effect)
responses_sealed t2 (_ ∷ older) = responses_sealed t2 older

-- For each T2 and each direction, what one end took is the beginning of what the other end sealed, in live sessions and
-- in ended ones.
abbrev pub DataPrefix : World → Type 0
DataPrefix world =
    (a : Requesting) (c : Connection) → ArePair world a c → (t2 : List ℕ)
    → IsPrefixOf (requests_taken t2 c.history) (requests_sealed t2 a.history)
    × IsPrefixOf (responses_taken t2 a.history) (responses_sealed t2 c.history)

-- ---- Sessions that match.

-- The responder opened a session with this T2: it took its PSK_FINISH.
abbrev pub HasOpened : (t2 : List ℕ) → History → Type 0
HasOpened t2 [] = ⊥
HasOpened t2 (Sealed tag sealed t reply d ∷ older) =
    ((takes PSK_FINISH t ≡ true) × (responder.t2_of (responder.session_of (id_in_record sealed) (Sealed tag sealed t reply d ∷ older)) ≡ t2)) ⊎ HasOpened t2 older
HasOpened t2 (_ ∷ older) = HasOpened t2 older

-- T2 of a session at the requester, with a record that it takes.
abbrev pub t2_with : requester.Steps → (sealed inner : List ℕ) → asked.Effect → List ℕ
t2_with s sealed inner effect = requester.t2_of (Took sealed inner effect ∷ s)

-- The requester opened a session with this T2: it took its PSK_FINISH_RSP.
abbrev pub WasOpened : (t2 : List ℕ) → asked.History → Type 0
WasOpened t2 [] = ⊥
WasOpened t2 (TookRecord tag id sealed inner led d ∷ older) =
    ((requester.finishes led.effect ≡ true) × (t2_with (requester.session_of id older) sealed inner led.effect ≡ t2)) ⊎ WasOpened t2 older
WasOpened t2 (_ ∷ older) = WasOpened t2 older

-- No two sessions that the requester opened have one T2.
abbrev pub WereOpenedApart : asked.History → Type 0
WereOpenedApart [] = Unit {0}
WereOpenedApart (TookRecord tag id sealed inner led d ∷ older) =
    (requester.finishes led.effect ≡ true → WasOpened (t2_with (requester.session_of id older) sealed inner led.effect) older → ⊥) × WereOpenedApart older
WereOpenedApart (_ ∷ older) = WereOpenedApart older

-- A requester and the responder towards it: a session that the requester holds open, and each that it ever opened, was
-- opened at the responder with the same T2. Those that are held under different ids have different T2, and so have all
-- that were ever opened.
pub record IsMatched (a : Requesting) (c : Connection) : Type 0 where
  pub held : (req : ℕ) → holds a.history req ≡ true → HasOpened (requester.t2_of (requester.session_of req a.history)) c.history
  pub ids : (req other : ℕ) → holds a.history req ≡ true → holds a.history other ≡ true
      → requester.t2_of (requester.session_of other a.history) ≡ requester.t2_of (requester.session_of req a.history) → other ≡ req
  pub opened : (t2 : List ℕ) → WasOpened t2 a.history → HasOpened t2 c.history
  pub apart : WereOpenedApart a.history

-- So it is of each pair.
abbrev pub Matched : World → Type 0
Matched world = (a : Requesting) (c : Connection) → ArePair world a c → IsMatched a c

-- ---- Hashes.

-- Where a T2 is one at both ends of a pair, which hold the session open, the hashes that they show of it are equal.
abbrev pub HashesAgree : World → Type 0
HashesAgree world =
    (a : Requesting) (c : Connection) → ArePair world a c → (req rsp : ℕ)
    → holds a.history req ≡ true → is_held c.history rsp ≡ true
    → requester.t2_of (requester.session_of req a.history) ≡ responder.t2_of (responder.session_of rsp c.history)
    → (asked_shown.view_of (requester.session_of req a.history)).hash ≡ (served_shown.view_of (responder.session_of rsp c.history)).hash

-- ---- Numbers.

-- A tag was made of this input for this purpose.
abbrev pub IsMade : Purpose → (input : List ℕ) → Log → Type 0
IsMade p i [] = ⊥
IsMade p i (Made q j u ∷ older) = ((q ≡ p) × (j ≡ i)) ⊎ IsMade p i older
IsMade p i (Checked q j u r ∷ older) = IsMade p i older

-- No two different records are sealed under one purpose and number.
abbrev pub SealedOnce : Log → Type 0
SealedOnce log =
    (p : Purpose) (number : ℕ) (b c : List ℕ) → is_record p.kind ≡ true
    → IsMade p (number ∷ b) log → IsMade p (number ∷ c) log → b ≡ c
