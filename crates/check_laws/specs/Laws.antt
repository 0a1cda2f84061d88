-- What the packets of a capture fix of all walks over them. This project's own.
use Rattle.std.specs.Prelude.{◌≡◌, ◌<◌, ℕ, List, ◌∷◌, length, true, Some}
use Rattle.key_schedule.specs.Purpose.{Purpose}
use Rattle.spdm_basis.specs.SessionIdBytes.{session_id_bytes}
use Rattle.spdm_grammar.specs.declared.messages.choice.Choice.{Choice}
use Rattle.spdm_machine.specs.Keys.{sealed_of}
use Rattle.check_laws.specs.Order.{round_of, order_why, is_of_order}
use Rattle.capture_machine.specs.Capture.{Leads}
use Rattle.capture_machine.specs.Difference.{Why, IsReason, IsVerifyApart}
use Rattle.capture_machine.specs.Rounds.{Dialogue, dialogue_at}
use Rattle.world_machine.specs.Setup.{Configuration}

-- The round in progress is that of the packets, in every walk over them.
abbrev pub OneRound : Type 0
OneRound = (w : Configuration) (older : List (List ℕ)) (ds : List Dialogue) (eid : ℕ) (d : Dialogue)
    → Leads w older ds → dialogue_at eid ds ≡ Some d → d.round ≡ round_of w.responder.eid eid older

-- A packet for which the order gives a reason does not conform after those before it.
abbrev pub OrderRefuses : Type 0
OrderRefuses = (w : Configuration) (older : List (List ℕ)) (packet : List ℕ) (why : Why)
    → order_why w older packet ≡ Some why → (after : List Dialogue) → Leads w (packet ∷ older) after → ⊥

-- Its verify data are not alone wrong there.
abbrev pub OrderIsAlone : Type 0
OrderIsAlone = (w : Configuration) (older : List (List ℕ)) (packet : List ℕ) (why : Why)
    → order_why w older packet ≡ Some why → IsVerifyApart w older packet → ⊥

-- Where the packets before it conform, that is the reason.
abbrev pub OrderIsReason : Type 0
OrderIsReason = (w : Configuration) (older : List (List ℕ)) (packet : List ℕ) (ds : List Dialogue) (why : Why)
    → Leads w older ds → order_why w older packet ≡ Some why → IsReason w older packet why

-- A reason of the order is given by the order.
abbrev pub OrderTells : Type 0
OrderTells = (w : Configuration) (older : List (List ℕ)) (packet : List ℕ) (why : Why)
    → is_of_order why ≡ true → IsReason w older packet why → order_why w older packet ≡ Some why

-- ---- Records.

-- A record that is sealed under one key, number and id tells its inner message and its padding. An inner message is
-- below 65,536 bytes.
abbrev pub SealedTells : Type 0
SealedTells = (choice : Choice) (p : Purpose) (number req rsp : ℕ) (inner other pad padding : List ℕ)
    → length inner < 65536 → length other < 65536
    → sealed_of choice p number (session_id_bytes req rsp) inner pad
    ≡ sealed_of choice p number (session_id_bytes req rsp) other padding
    → (inner ≡ other) × (pad ≡ padding)
