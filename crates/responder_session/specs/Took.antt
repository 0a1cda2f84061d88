-- What comes of a record in a session. The answers are those of the definitions of a responder.
use Rattle.std.specs.Prelude.{◌≡◌, ℕ, List, ◌∷◌, if◌then◌else◌, true, false, ◌⊎◌, Option, Some, None}
use Rattle.responder_machine.specs.Answer.{Free}
use Rattle.responder_machine.specs.Records.{opening_fault, opened, reply_record}
use Rattle.responder_machine.specs.Refusal.{code_of}
use Rattle.responder_machine.specs.Responder.{session_turn, inner_reply, repeats}
use Rattle.responder_machine.specs.Session.{Events, id_bytes, last_of}
use Rattle.responder_machine.specs.Session.Event.{Heard}
use Rattle.responder_machine.specs.Setup.{RspSetup}
use Rattle.responder_machine.specs.Turn.{Turn, is_data, takes}
use Rattle.spdm_grammar.specs.ErrorNumber.{error_number}
use Rattle.spdm_grammar.specs.declared.messages.error_code.ErrorCode.{ErrorCode}
use Rattle.spdm_grammar.specs.declared.names.request_code.TheConstants.{END_SESSION}
use Rattle.responder_session.specs.Handshake as handshake
use Rattle.responder_session.specs.Open as opens
use Rattle.responder_session.specs.Verifying as verifying
use Rattle.responder_session.specs.Ended as ended
use Rattle.responder_session.specs.Session as sessions
use Rattle.responder_session.specs.declared.session.RspSession.{RspSession}
use Rattle.responder_session.specs.declared.told.RspAct.{RspAct}
use Rattle.responder_session.specs.declared.told.RspAct.TheVariants.{Answered, Data, Refused}
use Rattle.responder_session.specs.declared.told.RspTold.{RspTold}
use Rattle.responder_session.specs.declared.told.RspTold.TheVariants as told
use Rattle.responder_session.specs.declared.took.RspState.{RspState}
use Rattle.responder_session.specs.declared.took.RspState.TheVariants as state
use Rattle.responder_session.specs.declared.took.RspTook.{RspTook}
use Rattle.responder_session.specs.declared.took.RspTook.TheVariants.{Moved, Same, Unopened}

-- A turn is determined by the number of the error code with which it was refused, as data taken, or by the code of its
-- message.
abbrev pub act_by : Turn → Option ErrorCode → RspAct
act_by t (Some code) = Refused (error_number code)
act_by t None = if is_data t.effect then Data else Answered (code_of t.message)

abbrev pub act_of : Turn → RspAct
act_of t = act_by t t.refused

-- The turn of a record that opens, and the record that answers it.
abbrev pub turn_in : RspSetup → Events → Free → (sealed : List ℕ) → Turn
turn_in r s f sealed = session_turn r s (opened r.psk s sealed) f

abbrev pub reply_in : RspSetup → Events → Free → (sealed : List ℕ) → List ℕ
reply_in r s f sealed =
    reply_record r.psk s (turn_in r s f sealed) (inner_reply (turn_in r s f sealed)) f.pad

-- ---- A session that is stepped in place.

-- The session with a record, its turn and its reply; where END_SESSION took effect, it is ended.
abbrev pub IsSessionAfter : RspSession → (psk : List ℕ) → Events → (sealed : List ℕ) → Turn
    → (reply : List ℕ) → Type 0
IsSessionAfter after psk s sealed t reply =
    ((takes END_SESSION t ≡ false) × sessions.StandsFor after psk (Heard sealed t reply ∷ s))
    ⊎ ((takes END_SESSION t ≡ true) × sessions.IsEnded after (id_bytes s) sealed reply)

-- The session with a record of this turn, and what is reported of it.
abbrev pub IsMoved : (psk : List ℕ) → Events → (sealed : List ℕ) → Turn → (pad : List ℕ)
    → RspSession → RspAct → Type 0
IsMoved psk s sealed t pad after act =
    IsSessionAfter after psk s sealed t (reply_record psk s t (inner_reply t) pad)
    × (act ≡ act_of t)

-- The outcome of a record: it opened, the session took it, and this is told of its turn; it is the last record that was
-- taken, and nothing changed; or it did not open, with its fault, and nothing changed.
abbrev pub IsTold : RspSetup → Events → Free → (sealed : List ℕ) → RspSession → RspTold → Type 0
IsTold r s f sealed after (told.Moved act) =
    (repeats (last_of s) sealed ≡ false) × (opening_fault r.psk s sealed ≡ None)
    × IsSessionAfter after r.psk s sealed (turn_in r s f sealed) (reply_in r s f sealed)
    × (act ≡ act_of (turn_in r s f sealed))
IsTold r s f sealed after told.Same =
    (repeats (last_of s) sealed ≡ true) × sessions.StandsFor after r.psk s
IsTold r s f sealed after (told.Unopened fault) =
    (repeats (last_of s) sealed ≡ false) × (opening_fault r.psk s sealed ≡ Some fault)
    × sessions.StandsFor after r.psk s

-- ---- States that are taken and given back.

-- A state of a live session stands for its events.
abbrev pub IsStateOf : RspState → RspSetup → Events → Type 0
IsStateOf (state.Handshake h) r s = handshake.StandsFor h r s
IsStateOf (state.Open o) r s = opens.StandsFor o r s
IsStateOf (state.Verifying v) r s = verifying.StandsFor v r s
IsStateOf (state.Ended e) r s = ⊥

-- The session with a record, its turn and its reply; where END_SESSION took effect, it is ended.
abbrev pub IsAfter : RspState → RspSetup → Events → (sealed : List ℕ) → Turn
    → (reply : List ℕ) → Type 0
IsAfter (state.Handshake h) r s sealed t reply =
    (takes END_SESSION t ≡ false) × handshake.StandsFor h r (Heard sealed t reply ∷ s)
IsAfter (state.Open o) r s sealed t reply =
    (takes END_SESSION t ≡ false) × opens.StandsFor o r (Heard sealed t reply ∷ s)
IsAfter (state.Verifying v) r s sealed t reply =
    (takes END_SESSION t ≡ false) × verifying.StandsFor v r (Heard sealed t reply ∷ s)
IsAfter (state.Ended e) r s sealed t reply =
    (takes END_SESSION t ≡ true) × ended.StandsFor e (id_bytes s) sealed reply

-- The outcome of a record, by the state that is given back.
abbrev pub IsTook : RspSetup → Events → Free → (sealed : List ℕ) → RspTook → Type 0
IsTook r s f sealed (Moved after act) =
    (repeats (last_of s) sealed ≡ false) × (opening_fault r.psk s sealed ≡ None)
    × IsAfter after r s sealed (turn_in r s f sealed) (reply_in r s f sealed)
    × (act ≡ act_of (turn_in r s f sealed))
IsTook r s f sealed (Same same) = (repeats (last_of s) sealed ≡ true) × IsStateOf same r s
IsTook r s f sealed (Unopened same fault) =
    (repeats (last_of s) sealed ≡ false) × (opening_fault r.psk s sealed ≡ Some fault)
    × IsStateOf same r s
