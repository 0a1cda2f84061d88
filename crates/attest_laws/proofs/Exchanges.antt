-- The exchanges of a session, as turns of it at the responder.
use Rattle.std.proofs.Common.{◌≡◌, List, [], ◌∷◌, refl, sym, subst, cond, Bool, true, false, inl, inr}
use Rattle.responder_machine.specs.Answer.{Free}
use Rattle.responder_machine.specs.Responder.{session_turn}
use Rattle.responder_machine.specs.Session.{Events}
use Rattle.responder_machine.specs.Setup.{RspSetup}
use Rattle.responder_machine.specs.Turn.{Turn}
use Rattle.spdm_agreement.proofs.Delivery.Data.{inner_in}
use Rattle.spdm_agreement.proofs.Moves.Earlier.{IsEarlier}
use Rattle.spdm_agreement.specs.Marks.{Exchange}
use Rattle.spdm_agreement.specs.Story.{reply_text}
use Rattle.transcript.specs.Transcripts.{Negotiation}
use Rattle.attest_laws.proofs.Turns.{IsSettled}

-- A request and its reply are those of this turn, after these turns of the session.
pub record IsTurn (r : RspSetup) (n : Negotiation) (x : Exchange) (t : Turn) (before : List Turn) : Type 0 where
  pub s : Events
  pub f : Free
  pub settled : IsSettled r n s f before
  pub is : t ≡ session_turn r s (inner_in x.0) f
  pub reply : x.1 ≡ reply_text t

-- All of them are those of turns of one session, the newest first. Other turns may stand before.
abbrev pub AreTurns : RspSetup → Negotiation → List Exchange → List Turn → Type 0
AreTurns r n [] turns = Unit {0}
AreTurns r n (x ∷ older) [] = ⊥
AreTurns r n (x ∷ older) (t ∷ before) = IsTurn r n x t before × AreTurns r n older before

-- There are such turns.
pub record AreServed (r : RspSetup) (xs : List Exchange) : Type 0 where
  pub negotiation : Negotiation
  pub turns : List Turn
  pub are : AreTurns r negotiation xs turns

-- So it is of what was earlier.
older_served : (r : RspSetup) (x : Exchange) (xs : List Exchange) (n : Negotiation) (turns : List Turn) → AreTurns r n (x ∷ xs) turns → AreServed r xs
older_served r x xs n [] are = absurd are
older_served r x xs n (t ∷ before) are = record { negotiation = n; turns = before; are = are.1 }

pub earlier_served : (r : RspSetup) (xs ys : List Exchange) → IsEarlier xs ys → AreServed r ys → AreServed r xs
earlier_served r xs [] is k = subst (AreServed r) (sym is) k
earlier_served r xs (y ∷ ys) is k = elim is [
  | inl same ↦ subst (AreServed r) (sym same) k
  | inr earlier ↦ earlier_served r xs ys earlier (older_served r y ys k.negotiation k.turns k.are)
]

-- One more, under its own T2.
pub served_more : (r : RspSetup) (x : Exchange) (xs : List Exchange) (b : Bool) → (b ≡ true → AreServed r (x ∷ xs)) → AreServed r xs → AreServed r (cond b (x ∷ xs) xs)
served_more r x xs true own k = own refl
served_more r x xs false own k = k
