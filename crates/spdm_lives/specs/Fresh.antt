-- Nothing old passes: what was made in an earlier life is accepted in no later one. This project's own.
use Rattle.std.specs.Prelude.{◌≡◌, List, ℕ, Bool, true, false, Contains}
use Rattle.key_schedule.specs.Purpose.{Purpose, Kind, verify}
use Rattle.key_schedule.specs.Purpose.Kind.{Verify, HandshakeRecord, ApplicationRecord}
use Rattle.key_schedule.specs.declared.direction.Direction.{Direction}
use Rattle.key_schedule.specs.declared.direction.Direction.TheVariants.{Request, Response}
use Rattle.requester_machine.specs.Requesting.{Requesting}
use Rattle.requester_machine.specs.Session.{session_of, t1_of}
use Rattle.spdm_agreement.specs.Moves.{IsPassed}
use Rattle.spdm_lives.specs.Lives.{Life, world_of, joined_log}
use Rattle.world_machine.specs.Agreement.{IsMade, holds}

-- A record, or RequesterVerifyData. ResponderVerifyData alone may be older: a PSK_EXCHANGE that a requester makes in a
-- later life may have been injected, and answered, in an earlier one.
abbrev pub must_be_new : Kind → Direction → Bool
must_be_new Verify Request = true
must_be_new Verify Response = false
must_be_new HandshakeRecord direction = true
must_be_new ApplicationRecord direction = true

-- No tag of a record or of RequesterVerifyData that was compared in this life, and was right, was made in an earlier
-- life: no end made a tag of that purpose and input there.
abbrev pub NothingOld : Life → (earlier : List Life) → Type 0
NothingOld life earlier =
    (p : Purpose) (input : List ℕ) → must_be_new p.kind p.direction ≡ true
    → IsPassed p input (world_of life).log → IsMade p input (joined_log earlier) → ⊥

-- No requester holds open a session whose ResponderVerifyData was made in an earlier life.
abbrev pub NoOldSession : Life → (earlier : List Life) → Type 0
NoOldSession life earlier =
    (a : Requesting) → Contains (world_of life).requesters a → (id : ℕ) → holds a.history id ≡ true
    → IsMade (verify a.setup.psk (t1_of (session_of id a.history)) Response) (t1_of (session_of id a.history)) (joined_log earlier) → ⊥
