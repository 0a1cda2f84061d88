-- What holds of the numbers of records: the laws of the counts, each the contract of a function of this crate. The
-- numbers are those of DSP0277, "Sequence number"; the laws are this project's own.
use Rattle.std.specs.Prelude.{◌≡◌, ◌≤◌, ◌||◌, ℕ, List, ◌∷◌, true}
use Rattle.responder_machine.specs.Counts.{IsStaged, taken_under, sealed_under}
use Rattle.responder_machine.specs.Does.{IsMade}
use Rattle.responder_machine.specs.History.{History}
use Rattle.responder_machine.specs.Records.{request_purpose, response_purpose, reply_purpose, reply_number}
use Rattle.responder_machine.specs.Session.{Events, session_of, stage_of, request_next, response_next}
use Rattle.spdm_machine.specs.Sessions.{is_past_handshake}
use Rattle.responder_machine.specs.Session.Event.{Heard}
use Rattle.responder_machine.specs.Setup.{RspSetup}
use Rattle.responder_machine.specs.Turn.{Turn, takes, updates}
use Rattle.spdm_grammar.specs.declared.names.request_code.TheConstants.{PSK_FINISH}
use Rattle.spdm_grammar.specs.declared.names.TheConstants.{MAX_RECORDS}

-- In each session of a history that the responder made, PSK_FINISH was taken in the handshake alone and KEY_UPDATE
-- after it alone.
abbrev pub MadeIsStaged : Type 0
MadeIsStaged = (r : RspSetup) (h : History) (id : ℕ) → IsMade r h → IsStaged (session_of id h)

-- The next number of a request is how many records were taken under the present request purpose, and that of a response
-- how many were sealed under the present response purpose.
abbrev pub NextNumbersAreCounts : Type 0
NextNumbersAreCounts = (psk : List ℕ) (s : Events) → IsStaged s
    → (request_next s ≡ taken_under psk (request_purpose psk s) s) × (response_next s ≡ sealed_under psk (response_purpose psk s) s)

-- The number of each answer is how many records were sealed under its purpose before it.
abbrev pub ReplyNumberIsCount : Type 0
ReplyNumberIsCount = (psk : List ℕ) (s : Events) (t : Turn) → IsStaged s → reply_number s t ≡ sealed_under psk (reply_purpose psk s t) s

-- PSK_FINISH: both directions begin anew.
abbrev pub FinishBeginsAtZero : Type 0
FinishBeginsAtZero = (s : Events) (m : List ℕ) (t : Turn) (reply : List ℕ) → takes PSK_FINISH t ≡ true
    → (request_next (Heard m t reply ∷ s) ≡ 0) × (response_next (Heard m t reply ∷ s) ≡ 0)

-- UpdateKey and UpdateAllKeys: the requests begin anew.
abbrev pub UpdateBeginsAtZero : Type 0
UpdateBeginsAtZero = (s : Events) (m : List ℕ) (t : Turn) (reply : List ℕ) → (updates 1 t || updates 2 t) ≡ true
    → request_next (Heard m t reply ∷ s) ≡ 0

-- UpdateAllKeys is answered by record 0 of the response purpose that stands after it, and number 1 is next.
abbrev pub UpdateAllIsAnsweredAtZero : Type 0
UpdateAllIsAnsweredAtZero = (psk : List ℕ) (s : Events) (m : List ℕ) (t : Turn) (reply : List ℕ) → updates 2 t ≡ true → is_past_handshake (stage_of s) ≡ true
    → (reply_number s t ≡ 0) × (reply_purpose psk s t ≡ response_purpose psk (Heard m t reply ∷ s)) × (response_next (Heard m t reply ∷ s) ≡ 1)

-- No key of a session of a made history seals more than 65,536 records, or takes more.
abbrev pub NumbersAreFew : Type 0
NumbersAreFew = (r : RspSetup) (h : History) (id : ℕ) → IsMade r h → (request_next (session_of id h) ≤ MAX_RECORDS) × (response_next (session_of id h) ≤ MAX_RECORDS)
