-- A machine of few moves, of which each step of the two ends of a pre-shared key is made. Packets do not occur in it:
-- what an end takes was checked before, and the guard of its move says so.
use Rattle.std.specs.Prelude.{◌≡◌, ◌≢◌, ◌≤◌, ◌⊎◌, ℕ, List, [], ◌∷◌, true, false, Some, None}
use Rattle.key_schedule.specs.Purpose.{Purpose, verify, handshake_record}
use Rattle.key_schedule.specs.declared.direction.Direction.TheVariants.{Request, Response}
use Rattle.spdm_machine.specs.TagLog.{Log}
use Rattle.spdm_machine.specs.TagLog.Act.{Made, Checked}
use Rattle.spdm_agreement.specs.Marks.{Asked, Served, HasBegun, next_asked, waiting, finishing, asked_open, outstanding, heard, next_served, handshake, served_open, taken, request_purpose, reply_purpose, request_input, reply_input}
use Rattle.spdm_agreement.specs.Marks.Asked.{Started, Accepted, Opened, Sealed, Heard}
use Rattle.spdm_agreement.specs.Marks.Served.{Began, Finished, Refused, Took}
use Rattle.spdm_agreement.specs.Reading.{First, Reading, covered}

-- The marks of both ends, and the tags that all ends computed and compared.
pub record State : Type 0 where
  pub asked : List Asked
  pub served : List Served
  pub log : Log

-- Values are those of the tags that are made with a move; text and reply are the texts of records.
pub data Move : Type 0 where
  -- The requester asks for a session, with a context of this draw.
  Start : (id : ℕ) → (draw : ℕ) → Move
  -- The responder answers, and makes verify data.
  Begin : (first : First) → (value : List ℕ) → Move
  -- The requester takes the answer, and makes verify data, over this input, and the record of PSK_FINISH.
  Accept : (first : First) → (input : List ℕ) → (value : List ℕ) → (sealed : List ℕ) → Move
  -- A record of this number and text opens at the responder in the handshake: PSK_FINISH is taken, or what came in its
  -- place is refused. The reply is sealed under a number.
  Finish : (first : First) → (second : List ℕ) → (number : ℕ) → (text : List ℕ) → (at : ℕ) → (reply : List ℕ) → (value : List ℕ) → Move
  Refuse : (first : First) → (number : ℕ) → (text : List ℕ) → (at : ℕ) → (reply : List ℕ) → (value : List ℕ) → Move
  -- The requester takes PSK_FINISH_RSP.
  Open : (first : First) → (second : List ℕ) → (text : List ℕ) → Move
  -- The requester seals a request; the responder takes it and seals the reply; the requester takes that.
  Say : (first : First) → (second : List ℕ) → (text : List ℕ) → (value : List ℕ) → Move
  Take : (first : First) → (second : List ℕ) → (text : List ℕ) → (reply : List ℕ) → (value : List ℕ) → Move
  Hear : (first : First) → (second : List ℕ) → (text : List ℕ) → (reply : List ℕ) → Move
  -- Any end compares a tag.
  Check : (purpose : Purpose) → (input : List ℕ) → (value : List ℕ) → (received : List ℕ) → Move
  -- An end of another key makes a tag.
  Foreign : (purpose : Purpose) → (input : List ℕ) → (value : List ℕ) → Move

-- A tag of this input was compared under this purpose, and was right.
abbrev pub IsPassed : Purpose → (input : List ℕ) → Log → Type 0
IsPassed p i [] = ⊥
IsPassed p i (Made q j value ∷ older) = IsPassed p i older
IsPassed p i (Checked q j value received ∷ older) = ((q ≡ p) × (j ≡ i) × (value ≡ received)) ⊎ IsPassed p i older

-- The records of a handshake.
abbrev pub request_shake : Reading → First → Purpose
request_shake r t = handshake_record r.psk (r.transcript t) Request

abbrev pub response_shake : Reading → First → Purpose
response_shake r t = handshake_record r.psk (r.transcript t) Response

-- The verify data.
abbrev pub request_verify : Reading → First → Purpose
request_verify r t = verify r.psk (r.transcript t) Request

abbrev pub response_verify : Reading → First → Purpose
response_verify r t = verify r.psk (r.transcript t) Response

-- ---- What a move does.

abbrev pub after : Reading → Move → State → State
after r (Start id draw) s = record s { asked = Started id draw ∷ s.asked }
after r (Begin t value) s = record { asked = s.asked; served = Began t ∷ s.served; log = Made (response_verify r t) (r.transcript t) value ∷ s.log }
after r (Accept t input value sealed) s = record {
  asked = Accepted t ∷ s.asked;
  served = s.served;
  log = Made (request_shake r t) (covered r t (request_shake r t) 0 (r.finish t)) sealed ∷ Made (request_verify r t) input value ∷ s.log;
}
after r (Finish t u number b at reply value) s = record {
  asked = s.asked;
  served = Finished t u ∷ s.served;
  log = Made (response_shake r t) (covered r t (response_shake r t) at reply) value ∷ s.log;
}
after r (Refuse t number b at reply value) s = record {
  asked = s.asked;
  served = Refused t reply ∷ s.served;
  log = Made (response_shake r t) (covered r t (response_shake r t) at reply) value ∷ s.log;
}
after r (Open t u b) s = record s { asked = Opened t u ∷ s.asked }
after r (Say t u b value) s = record {
  asked = Sealed u b ∷ s.asked;
  served = s.served;
  log = Made (request_purpose r u (heard u s.asked)) (request_input r t u (heard u s.asked) b) value ∷ s.log;
}
after r (Take t u b reply value) s = record {
  asked = s.asked;
  served = Took u b reply ∷ s.served;
  log = Made (reply_purpose r u ((b, reply) ∷ taken u s.served)) (reply_input r t u ((b, reply) ∷ taken u s.served) reply) value ∷ s.log;
}
after r (Hear t u b reply) s = record s { asked = Heard u b reply ∷ s.asked }
after r (Check p i value received) s = record s { log = Checked p i value received ∷ s.log }
after r (Foreign p i value) s = record s { log = Made p i value ∷ s.log }

-- ---- When a move may happen.

-- The record is the PSK_FINISH that the requester sealed.
abbrev pub IsFinish : Reading → First → (number : ℕ) → (text : List ℕ) → Type 0
IsFinish r t number b = (number ≡ 0) × (b ≡ r.finish t)

-- Then the session is the one in its handshake, and the reply is record 0.
abbrev pub IsAwaited : State → First → (at : ℕ) → Type 0
IsAwaited s t at = (handshake s.served ≡ Some t) × (at ≡ 0)

-- An end holds a session open.
abbrev pub AsksIn : Reading → State → First → (second : List ℕ) → Type 0
AsksIn r s t u = (id : ℕ) × (asked_open r id s.asked ≡ Some (t, u))

abbrev pub ServesIn : Reading → State → First → (second : List ℕ) → Type 0
ServesIn r s t u = (id : ℕ) × (served_open r id s.served ≡ Some (t, u))

-- Of a record in the handshake that is not the requester's nothing is asked but that it opened: without chance there is
-- none.
abbrev pub IsLegal : Reading → Move → State → Type 0
IsLegal r (Start id draw) s = next_asked s.asked ≤ draw
IsLegal r (Begin t value) s = (r.is_sound t ≡ true) × (next_served r s.served ≤ r.responder_draw t)
IsLegal r (Accept t input value sealed) s =
    (r.is_sound t ≡ true) × ((x : ℕ × ℕ) × (waiting s.asked ≡ Some x) × (r.requester_draw t ≡ x.1)) × IsPassed (response_verify r t) (r.transcript t) s.log
IsLegal r (Finish t u number b at reply value) s =
    HasBegun s.served t × IsPassed (request_shake r t) (covered r t (request_shake r t) number b) s.log
    × (IsFinish r t number b → IsAwaited s t at × (reply ≡ r.finish_answer t) × (u ≡ r.second t))
IsLegal r (Refuse t number b at reply value) s =
    HasBegun s.served t × IsPassed (request_shake r t) (covered r t (request_shake r t) number b) s.log
    × (IsFinish r t number b → IsAwaited s t at × (r.opens reply ≡ false))
IsLegal r (Open t u b) s =
    (finishing s.asked ≡ Some t) × (r.opens b ≡ true) × IsPassed (response_shake r t) (covered r t (response_shake r t) 0 b) s.log
    × (b ≡ r.finish_answer t → u ≡ r.second t)
IsLegal r (Say t u b value) s = AsksIn r s t u × (outstanding u s.asked ≡ None)
IsLegal r (Take t u b reply value) s =
    ServesIn r s t u × IsPassed (request_purpose r u (taken u s.served)) (request_input r t u (taken u s.served) b) s.log
IsLegal r (Hear t u b reply) s =
    AsksIn r s t u × (outstanding u s.asked ≡ Some b)
    × IsPassed (reply_purpose r u ((b, r.granted) ∷ heard u s.asked)) (reply_input r t u ((b, r.granted) ∷ heard u s.asked) reply) s.log
IsLegal r (Check p i value received) s = Unit {0}
IsLegal r (Foreign p i value) s = p.psk ≢ r.psk

-- ---- Runs.

-- These moves, the first one in front, lead from one state to another.
abbrev pub IsRun : Reading → List Move → State → State → Type 0
IsRun r [] s z = s ≡ z
IsRun r (m ∷ others) s z = IsLegal r m s × IsRun r others (after r m s) z

abbrev pub nothing_yet : State
nothing_yet = record { asked = []; served = []; log = [] }
