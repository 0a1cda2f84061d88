-- The verify data of PSK_FINISH.
use Rattle.std.specs.Prelude.{ℕ, List}
use Rattle.key_schedule.specs.declared.direction.Direction.TheVariants.{Request}
use Rattle.responder_machine.specs.Session.{Events, session_terms, t1_of, tv_of}
use Rattle.spdm_machine.specs.Keys.{verify_data}

-- Those that this PSK_FINISH has to have.
abbrev pub right_verify : (psk : List ℕ) → Events → (message : List ℕ) → List ℕ
right_verify psk s message =
    verify_data (session_terms s).choice psk (t1_of s) Request (tv_of s message)
