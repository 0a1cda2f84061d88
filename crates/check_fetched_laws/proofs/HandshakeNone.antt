-- Where none of the four sessions of a connection is in its handshake, none is.
use Rattle.std.proofs.Common.{◌≡◌, ◌≢◌, ◌-◌, ◌==◌, ◌||◌, ℕ, zero, suc, List, [], refl, ap, subst, arith, Bool, true, false, Option, None, cond}
use Rattle.std.specs.Prelude.{nat_lt, slice_index_or}
use Rattle.std.proofs.lemmas.Bool.{false≢true}
use Rattle.std.proofs.lemmas.Bool.Decides.{nat_tests}
use Rattle.responder_core.specs.Connected as connected
use Rattle.responder_core.specs.LiveSession.{IsSlotOf}
use Rattle.responder_core.specs.declared.connected.Connection.{Connection}
use Rattle.responder_core.specs.declared.in_sessions.live_session.LiveSession.{LiveSession}
use Rattle.check_fetched_laws.specs.ClearSessions.{is_in_handshake}
use Rattle.responder_machine.specs.History.{History}
use Rattle.responder_machine.specs.Session.{session_of}
use Rattle.responder_machine.specs.Setup.{RspSetup}

none_in : (b c : Bool) (x : Option LiveSession) → c ≡ true → cond (b || c) None x ≡ None
none_in true c x is = refl
none_in false true x is = refl
none_in false false x is = absurd (false≢true is)

module _ (seen : Connection) (r : RspSetup) (h : History) (stands : connected.StandsFor seen r h) where
  -- No session has an id above 4.
  none_beyond : (id : ℕ) → nat_lt 4 id ≡ true → is_in_handshake (session_of id h) ≡ false
  none_beyond id more =
      let empty : session_of id h ≡ [] =
      subst (λ (o : Option LiveSession). IsSlotOf o r (session_of id h)) (none_in (id == 0) (nat_lt 4 id) (slice_index_or seen.sessions.slots (id - 1) None) more) (stands.sessions.slots id) in
      ap is_in_handshake empty

  module _ (one : is_in_handshake (session_of 1 h) ≡ false) (two : is_in_handshake (session_of 2 h) ≡ false) (three : is_in_handshake (session_of 3 h) ≡ false) (four : is_in_handshake (session_of 4 h) ≡ false) where
    pub none_at : (id : ℕ) → id ≢ 0 → is_in_handshake (session_of id h) ≡ false
    none_at zero some = absurd (some refl)
    none_at (suc zero) some = one
    none_at (suc (suc zero)) some = two
    none_at (suc (suc (suc zero))) some = three
    none_at (suc (suc (suc (suc zero)))) some = four
    none_at (suc (suc (suc (suc (suc n))))) some = none_beyond (suc (suc (suc (suc (suc n))))) (more n)
      where
        more : (n : ℕ) → nat_lt 4 (suc (suc (suc (suc (suc n))))) ≡ true
        more n = grind (arith, nat_tests)
