use Rattle.std.proofs.Common.{◌≡◌, ◌≢◌, ℕ, refl, subst, ◌∷◌, inl, inr, Option, true, false}
use Rattle.std.specs.Prelude.{MatchOption}
use Rattle.check_fetched_laws.specs.ClearSessions.{is_in_handshake}
use Rattle.responder_machine.specs.History.{History}
use Rattle.responder_machine.specs.History.Entry.{Dropped}
use Rattle.responder_machine.specs.Session.{session_of}
use Rattle.check_fetched_ends.proofs.clear_fetch.handshake_left.end_handshake.Goals as goal

-- What is reported of the session in its handshake.
abbrev IsIn : History → Option ℕ → Type 0
IsIn h o = MatchOption o ((id : ℕ) → id ≢ 0 → is_in_handshake (session_of id h) ≡ false) (λ (id : ℕ). is_in_handshake (session_of id h) ≡ true)

pub returns-in-Some : goal.returns-in-Some
returns-in-Some c = λ r h stands few. (Dropped c.in-Some.id ∷ h, inr (c.in-Some.id, subst (IsIn h) c.in-Some.is (c.handshake_id.ensures r h stands few), refl), c.expire.ensures r h stands)

pub returns-in_default : goal.returns-in_default
returns-in_default c = λ r h stands few. (h, inl (subst (IsIn h) c.in_default.is (c.handshake_id.ensures r h stands few), refl), stands)
