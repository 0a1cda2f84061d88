-- Why the program refuses a request. This project's own.
use Rattle.std.specs.Prelude.{◌≡◌, ◌&&◌, ℕ, List, Bool, true, false, Option, Some, None}
use Rattle.requester_core.specs.Slot.{shown_of}
use Rattle.requester_machine.specs.History.{History}
use Rattle.requester_machine.specs.Named.{names}
use Rattle.requester_machine.specs.Session.{session_of, session_terms}
use Rattle.requester_machine.specs.Setup.{ReqSetup}
use Rattle.spdm_grammar.specs.declared.told.phase.Stage.{Stage}
use Rattle.spdm_grammar.specs.declared.told.phase.Stage.TheVariants as stage
use Rattle.spdm_grammar.specs.declared.told.session_view.SessionView.{SessionView}
use Rattle.spdm_machine.specs.Terms.{hash_len}
use Rattle.capture_machine.specs.Difference.{is_apart, is_padded}
use Rattle.capture_machine.specs.Opening.{inner_asking, opens_asking}

-- A record is apart from this PSK_FINISH, which is sent after this history: `is_finish_apart` by what it depends on.
abbrev pub finish_apart : ReqSetup → History → (sealed : List ℕ) → Option (ℕ × List ℕ) → Bool
finish_apart q h sealed None = false
finish_apart q h sealed (Some finish) =
    names sealed (session_of finish.0 h) && opens_asking q (session_of finish.0 h) sealed
    && is_padded sealed (inner_asking q (session_of finish.0 h) sealed)
    && is_apart (hash_len (session_terms (session_of finish.0 h))) finish.1 (inner_asking q (session_of finish.0 h) sealed)

-- The session of this PSK_FINISH is shown so after this history.
abbrev pub IsFinishShown : History → Option (ℕ × List ℕ) → Option SessionView → Type 0
IsFinishShown h None shown = shown ≡ None
IsFinishShown h (Some finish) shown = (view : SessionView) × (shown ≡ Some view) × (Some view ≡ shown_of (session_of finish.0 h))

-- The stage is that of the handshake.
abbrev pub is_handshake : Stage → Bool
is_handshake stage.Handshake = true
is_handshake _ = false
