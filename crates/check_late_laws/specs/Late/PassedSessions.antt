-- The sessions after a request whose large response passed unseen. This project's own.
use Rattle.std.specs.Prelude.{◌≡◌, ◌∷◌, ℕ, true, false}
use Rattle.check_laws.specs.DropsShown.{may_be_dropped}
use Rattle.check_late_laws.specs.Late.Passed.{StandsBack, touched}
use Rattle.responder_machine.specs.History.{History}
use Rattle.responder_machine.specs.History.Entry.{Clear}
use Rattle.responder_machine.specs.Place.{is_held}
use Rattle.responder_machine.specs.Session.{is_live, session_of, stage_of}
use Rattle.responder_machine.specs.Turn.{takes}
use Rattle.spdm_grammar.specs.declared.names.request_code.TheConstants.{PSK_EXCHANGE}
use Rattle.spdm_machine.specs.Sessions.{is_past_handshake}

-- One that was not touched is what the request left of it.
abbrev pub UntouchedStays : Type 0
UntouchedStays = (h : History) (s : StandsBack h) (id : ℕ) → touched id h ≡ false
    → session_of id h ≡ session_of id (Clear s.tag s.turn s.draw ∷ s.before)

-- None begins since then: one that is live was live before the request.
abbrev pub NoneBeginsSince : Type 0
NoneBeginsSince = (h : History) (s : StandsBack h) (id : ℕ) → is_live (session_of id h) ≡ true → is_live (session_of id s.before) ≡ true

-- After PSK_EXCHANGE each that is live is established.
abbrev pub AllArePast : Type 0
AllArePast = (h : History) (s : StandsBack h) (id : ℕ) → takes PSK_EXCHANGE s.turn ≡ true → is_live (session_of id h) ≡ true
    → is_past_handshake (stage_of (session_of id h)) ≡ true

-- So what the sessions are now tells of one that was not touched what it was before PSK_EXCHANGE: whether its id was in use,
-- and whether it may have been dropped.
abbrev pub UntouchedIsTold : Type 0
UntouchedIsTold = (h : History) (s : StandsBack h) (id : ℕ) → takes PSK_EXCHANGE s.turn ≡ true → touched id h ≡ false
    → (is_held h id ≡ is_held s.before id) × (may_be_dropped h id ≡ may_be_dropped s.before id)
