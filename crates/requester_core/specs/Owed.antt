-- A record that a requester sent last, by itself on what it took or by a command, as the checker it sees it: before it
-- came, and with the padding that it came with. This project's own.
use Rattle.std.specs.Prelude.{◌≡◌, ◌≤◌, ℕ, List, [], ◌∷◌, Bool, true, false, Some, None, length}
use Rattle.requester_core.specs.Joined.{StandsFor}
use Rattle.requester_core.specs.Sessions as sessions
use Rattle.requester_core.specs.declared.joined.RequesterCore.{RequesterCore}
use Rattle.requester_core.specs.declared.in_sessions.sessions.Sessions.{Sessions}
use Rattle.requester_machine.specs.History.{History}
use Rattle.requester_machine.specs.History.Entry.{Told, TookClear, TookRecord}
use Rattle.requester_machine.specs.Message.{Aim, Command, Sent, body_of}
use Rattle.requester_machine.specs.Message.Aim.{InSession}
use Rattle.requester_machine.specs.Owed.{sent_with, with_next}
use Rattle.requester_machine.specs.Session.{session_of}
use Rattle.requester_machine.specs.Setup.{ReqSetup}
use Rattle.spdm_machine.specs.Bodies.{record_body}
use Rattle.spdm_machine.specs.Keys.{Draw}
use Rattle.spdm_grammar.specs.declared.names.TheConstants.{MAX_PADDING}
use Rattle.secured_record.specs.declared.TheConstants.{MAX_RECORD_SIZE}

-- ---- What is sent upon the newest entry.

-- Its newest entry took a message, in the clear or as a record of the session with this ReqSessionID, and nothing is
-- sent in response to it.
abbrev pub TookLast : History → (id : ℕ) → Type 0
TookLast [] id = ⊥
TookLast (Told command sent d ∷ older) id = ⊥
TookLast (TookClear tag m led d ∷ older) id = led.next ≡ None
TookLast (TookRecord tag of sealed inner led d ∷ older) id = (led.next ≡ None) × (of ≡ id)

-- Its newest entry took a message, and nothing is sent in response to it.
abbrev pub TookAny : History → Type 0
TookAny [] = ⊥
TookAny (Told command sent d ∷ older) = ⊥
TookAny (TookClear tag m led d ∷ older) = led.next ≡ None
TookAny (TookRecord tag of sealed inner led d ∷ older) = led.next ≡ None

-- It took a message in response to which one may be sent for this: a record in the session of the record that was
-- taken, or in any where a message in the clear was.
abbrev pub TookFor : History → Aim → Type 0
TookFor bare (InSession id ask) = TookLast bare id
TookFor bare _ = TookAny bare

-- ---- Its padding.

-- The message that is sent on the newest entry, as the session with this ReqSessionID seals it with this padding.
abbrev pub owed_with : ReqSetup → History → (id : ℕ) → (pad : List ℕ) → Sent → Sent
owed_with q bare id pad sent = sent_with q.psk (session_of id bare) pad sent

-- The bytes are its record.
abbrev pub IsOwedAs : ReqSetup → History → (id : ℕ) → (pad : List ℕ) → Sent → (sealed : List ℕ)
    → Type 0
IsOwedAs q bare id pad sent sealed =
    body_of (owed_with q bare id pad sent).content ≡ record_body sealed

-- The bytes are its record with a padding of at most 16 bytes, and the sessions are those of the history with that; or
-- they are no such record. The history is given by the message that is sent last.
abbrev pub AreRepaddedIn : ReqSetup → (bare : History) → (whole : Sent → History) → (id : ℕ) → Sent
    → (sealed : List ℕ) → (new : Sessions) → Bool → Type 0
AreRepaddedIn q bare whole id sent sealed new true =
    (pad : List ℕ) × (length pad ≤ MAX_PADDING) × IsOwedAs q bare id pad sent sealed
    × sessions.StandsFor new q (whole (owed_with q bare id pad sent))
AreRepaddedIn q bare whole id sent sealed new false =
    length sealed ≤ MAX_RECORD_SIZE → (pad : List ℕ) → length pad ≤ MAX_PADDING → IsOwedAs q bare id pad sent sealed → ⊥

-- The same of the requester.
abbrev pub IsRepaddedIn : ReqSetup → (bare : History) → (whole : Sent → History) → (id : ℕ) → Sent
    → (sealed : List ℕ) → (new : RequesterCore) → Bool → Type 0
IsRepaddedIn q bare whole id sent sealed new true =
    (pad : List ℕ) × (length pad ≤ MAX_PADDING) × IsOwedAs q bare id pad sent sealed
    × StandsFor new q (whole (owed_with q bare id pad sent))
IsRepaddedIn q bare whole id sent sealed new false =
    length sealed ≤ MAX_RECORD_SIZE → (pad : List ℕ) → length pad ≤ MAX_PADDING → IsOwedAs q bare id pad sent sealed → ⊥

-- A message that was sent by itself on the newest entry.
abbrev pub AreRepadded : ReqSetup → History → (id : ℕ) → Sent → (sealed : List ℕ)
    → (new : Sessions) → Bool → Type 0
AreRepadded q bare id sent sealed new told =
    AreRepaddedIn q bare (λ x. with_next (Some x) bare) id sent sealed new told

abbrev pub IsRepadded : ReqSetup → History → (id : ℕ) → Sent → (sealed : List ℕ) → (new : RequesterCore)
    → Bool → Type 0
IsRepadded q bare id sent sealed new told =
    IsRepaddedIn q bare (λ x. with_next (Some x) bare) id sent sealed new told

-- A message that a command sent.
abbrev pub AreRetold : ReqSetup → History → Command → Draw → (id : ℕ) → Sent → (sealed : List ℕ)
    → (new : Sessions) → Bool → Type 0
AreRetold q older command d id sent sealed new told =
    AreRepaddedIn q older (λ x. Told command x d ∷ older) id sent sealed new told

abbrev pub IsRetold : ReqSetup → History → Command → Draw → (id : ℕ) → Sent → (sealed : List ℕ)
    → (new : RequesterCore) → Bool → Type 0
IsRetold q older command d id sent sealed new told =
    IsRepaddedIn q older (λ x. Told command x d ∷ older) id sent sealed new told
