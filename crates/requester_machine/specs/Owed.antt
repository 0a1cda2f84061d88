-- The message that is sent by itself on the newest entry of a history. This project's own.
use Rattle.std.specs.Prelude.{ℕ, List, [], ◌∷◌, Option}
use Rattle.requester_machine.specs.History.{History}
use Rattle.requester_machine.specs.History.Entry.{Told, TookClear, TookRecord}
use Rattle.requester_machine.specs.Message.{Content, Sent}
use Rattle.requester_machine.specs.Message.Content.{Clear, Sealed}
use Rattle.requester_machine.specs.Records.{sealed_next}
use Rattle.requester_machine.specs.Session.{Steps}

-- The history with another message, or none, that was sent by itself on its newest entry.
abbrev pub with_next : Option Sent → History → History
with_next next [] = []
with_next next (Told command sent d ∷ older) = Told command sent d ∷ older
with_next next (TookClear tag m led d ∷ older) = TookClear tag m (record led { next = next }) d ∷ older
with_next next (TookRecord tag id sealed inner led d ∷ older) = TookRecord tag id sealed inner (record led { next = next }) d ∷ older

-- ---- Its padding.

-- The inner message of a record, sealed as the next one of a session, with this padding. What is sent in the clear has
-- none.
abbrev pub content_with : (psk : List ℕ) → Steps → (pad : List ℕ) → Content → Content
content_with psk s pad (Clear message) = Clear message
content_with psk s pad (Sealed sealed inner old) = Sealed (sealed_next psk s inner pad) inner pad

-- A message with this padding.
abbrev pub sent_with : (psk : List ℕ) → Steps → (pad : List ℕ) → Sent → Sent
sent_with psk s pad sent = record sent { content = content_with psk s pad sent.content }
