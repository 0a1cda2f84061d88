-- What the text of a record holds, and whether it can be read, while a large response is fetched in its session. This
-- project's own.
use Rattle.std.specs.Prelude.{◌≡◌, ◌<◌, ◌-◌, ◌∷◌, ◌^◌, ℕ, List, Bool, true, length}
use Rattle.responder_core.specs.OwnAnswers.{opens_in}
use Rattle.responder_core.specs.declared.connected.Connection.{Connection}
use Rattle.responder_machine.specs.BoundLaws.{messages_of}
use Rattle.responder_machine.specs.History.{History}
use Rattle.responder_machine.specs.Session.{id_in_record, session_of}
use Rattle.responder_machine.specs.Setup.{RspSetup}
use Rattle.secured_record.specs.Format.{plain_text}
use Rattle.spdm_machine.specs.Bodies.{record_body}
use Rattle.check_fetched_laws.specs.AlikeAnswers.{text_with}
use Rattle.check_fetched_laws.specs.JudgedFor.{JudgesFor}
use Rattle.capture_machine.specs.LargeAnswers.{place_named, with_large}
use Rattle.spdm_grammar.specs.declared.names.message_type.TheConstants.{SPDM}

-- A text holds this SPDM message, and some padding.
abbrev pub Holds : (text message : List ℕ) → Type 0
Holds text message = (pad : List ℕ) × (text ≡ plain_text (SPDM ∷ message) pad)

-- It holds none.
abbrev pub HoldsNone : (text : List ℕ) → Type 0
HoldsNone text = (message pad : List ℕ) → length message < 65535 → text ≡ plain_text (SPDM ∷ message) pad → ⊥

-- The history with these bytes as the large response of the session that a record names.
abbrev pub history_for : History → (request whole : List ℕ) → History
history_for h request whole = with_large (place_named (record_body request)) whole h

-- Whether the session of a record opens it, and what another record then holds as its answer, for all that a connection
-- judges for. Fewer than 2^64 - 1 messages came.
abbrev pub IsReadBy : Connection → (request sealed text : List ℕ) → Bool → Type 0
IsReadBy seen request sealed text result = (r : RspSetup) (h : History) (whole : List ℕ) → messages_of (history_for h request whole) < 2 ^ 64 - 1
    → JudgesFor seen r h (place_named (record_body request)) whole
    → (result ≡ opens_in r (session_of (id_in_record request) (history_for h request whole)) request)
    × (result ≡ true → text ≡ text_with r h (record_body request) whole sealed)
