-- A connection is reset, or it has a fault and stays.
use Rattle.std.proofs.Common.{refl, ◌≡◌, ◌≢◌, ◌∙◌, ℕ, Bool, true, false, cond, Option, Some, None, ap, sym, subst}
use Rattle.responder.specs.Resetting.{after_reset, reset_fault, resets, unknown_fault, version_packet}
use Rattle.responder.specs.Standing.{StandsFor}
use Rattle.responder.specs.Unharmed.{AreOthersKept}
use Rattle.responder.specs.declared.resetting.ResetFault.{ResetFault}
use Rattle.responder.specs.declared.resetting.ResetFault.TheVariants.{Worn}
use Rattle.responder.specs.declared.serving.Responder.{Responder}
use Rattle.responder_machine.proofs.Others.{others}
use Rattle.responder_machine.specs.EndLaws.{AreAlike, source_of}
use Rattle.responder_machine.specs.Responding.{Connection, Responding, connection_of, is_worn, responder_hears}

-- ---- The faults.

pub worn_fault : (eid : ℕ) (r : Responding) → is_worn r ≡ true → reset_fault eid r ≡ Some Worn
worn_fault eid r worn = ap (λ (b : Bool). cond b (Some Worn) (unknown_fault (connection_of eid r.connections))) worn

pub fresh_fault : (eid : ℕ) (r : Responding) (o : Option Connection) → is_worn r ≡ false → connection_of eid r.connections ≡ o → reset_fault eid r ≡ unknown_fault o
fresh_fault eid r o fresh is = ap (λ (b : Bool). cond b (Some Worn) (unknown_fault (connection_of eid r.connections))) fresh ∙ ap (λ (c : Option Connection). unknown_fault c) is

-- ---- What stands behind it.

pub reset_stays : (eid : ℕ) (r : Responding) (fault : ResetFault) (seen : Responder) → reset_fault eid r ≡ Some fault → StandsFor seen r → StandsFor seen (after_reset eid r)
reset_stays eid r fault seen is stands = subst (λ (o : Option ResetFault). StandsFor seen (resets o r eid)) (sym is) stands

pub reset_goes : (eid : ℕ) (r : Responding) (new : Responder) → reset_fault eid r ≡ None → StandsFor new (responder_hears r (version_packet r.part.eid eid)).after → StandsFor new (after_reset eid r)
reset_goes eid r new is stands = subst (λ (o : Option ResetFault). StandsFor new (resets o r eid)) (sym is) stands

-- ---- The others.

others_alike : (o : Option ResetFault) (r : Responding) (eid other : ℕ) → source_of (version_packet r.part.eid eid) ≢ other → AreAlike other (resets o r eid) r
others_alike (Some fault) r eid other n = record { part = refl; connection = refl; packets = λ own. refl }
others_alike None r eid other n = others r (version_packet r.part.eid eid) other n

pub reset_others : (eid : ℕ) (r : Responding) (new : Responder) → StandsFor new (after_reset eid r) → AreOthersKept r (version_packet r.part.eid eid) new
reset_others eid r new stands = record { next = after_reset eid r; stands = stands; others = λ other n. others_alike (reset_fault eid r) r eid other n }
