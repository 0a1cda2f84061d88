-- A packet that arrives waits, or is given to the responder.
use Rattle.std.proofs.Common.{◌≡◌, ◌∙◌, ℕ, List, [], ◌∷◌, ap, sym, subst, Option, Some, None, Ok, Err}
use Rattle.std.specs.Prelude.{IfSome}
use Rattle.device_serve.proofs.Settling.{rests_as}
use Rattle.device_serve.specs.Devised as devised
use Rattle.device_serve.specs.Devised.{arrives, arrives_with, frames_of, number_in}
use Rattle.device_serve.specs.Devised.Writing.{Tells}
use Rattle.device_serve.specs.Standing.{IsArrival, IsDevisedBy, IsHeard, WaitsFor, brought_line, packet_of}
use Rattle.device_serve.specs.declared.device.Device.{Device}
use Rattle.device_serve.specs.declared.waiting.Waiting.{Waiting}
use Rattle.responder.specs.Standing as responder
use Rattle.responder_machine.specs.EndLaws.{source_of}
use Rattle.responder_serve.specs.declared.fault.ServeFault.TheVariants as fault
use Rattle.script_text.specs.declared.configuration.config.ScriptConfig.{ScriptConfig}
use Rattle.spdm_basis.specs.Stream.{Takes, TakesPrefix}
use Rattle.spdm_basis.specs.declared.streams.transfer.OutFault.{OutFault}
use Rattle.spdm_basis.specs.declared.values.eid.Eid.{Eid}
use Rattle.spdm_basis.specs.declared.values.session_id.SessionId.{SessionId}
use Rattle.spdm_grammar.specs.Lines.{Line, Whose}

-- The line of data, by the number of the end point that was told.
pub brought_written : (c : ScriptConfig) (packet : List ℕ) (number eid : ℕ) (brought : SessionId × List ℕ) → number ≡ number_in c eid → eid ≡ source_of packet →
    frames_of (Tells (Line.Data (Whose.Requester number) brought.0 brought.1) ∷ []) ≡ brought_line c packet brought
brought_written c packet number eid brought is from =
    ap (λ (n : ℕ). frames_of (Tells (Line.Data (Whose.Requester n) brought.0 brought.1) ∷ [])) (is ∙ ap (number_in c) from)

-- A packet waits, with its end point.
held_waits : (seen : Waiting) (from : Eid) (packet : List ℕ) → seen.from ≡ Some from → seen.bytes.items ≡ packet → from.number ≡ source_of packet → WaitsFor seen (Some packet)
held_waits seen from packet own bytes source = record {
  is = ap (λ (l : List ℕ). Some l) (sym bytes) ∙ sym (ap (λ (f : Option Eid). packet_of f seen.bytes.items) own);
  source = subst (λ (f : Option Eid). IfSome f (λ x. x.number ≡ source_of seen.bytes.items)) (sym own) (source ∙ ap source_of (sym bytes));
}

module _ (c : ScriptConfig) (d : devised.Device) (packet content : List ℕ) (same : packet ≡ content) (held holds : Option (List ℕ)) where
  pub arrived_waits : (from : Eid) (new : Device) → responder.StandsFor new.responder d.responder → IsArrival c d.responder packet held (Ok (Some from)) holds →
      new.waiting.bytes.items ≡ packet → new.waiting.from ≡ Some from → IsDevisedBy (arrives c d.responder content) held (Ok tt) new holds
  arrived_waits from new stands arrival bytes own =
      subst (λ (p : List ℕ). IsDevisedBy (arrives c d.responder p) held (Ok tt) new holds) same
      (subst (λ (o : Option (SessionId × List ℕ)). IsDevisedBy (arrives_with c d.responder packet o) held (Ok tt) new holds) (sym arrival.1.1)
      (record { responder = stands; waits = held_waits new.waiting from packet own bytes arrival.0 }, arrival.1.2))

  pub arrived_part : (f : OutFault) (new : Device) → IsArrival c d.responder packet held (Err f) holds → IsDevisedBy (arrives c d.responder content) held (Err fault.WriteFault) new holds
  arrived_part f new arrival =
      subst (λ (p : List ℕ). IsDevisedBy (arrives c d.responder p) held (Err fault.WriteFault) new holds) same
      (subst (λ (o : Option (SessionId × List ℕ)). IsDevisedBy (arrives_with c d.responder packet o) held (Err fault.WriteFault) new holds) (sym arrival.1) arrival.2)

  -- Nothing was written of it before.
  module _ (mid : Option (List ℕ)) (arrival : IsArrival c d.responder packet held (Ok None) mid) where
    pub arrived_heard : (new : Device) → IsHeard d.responder packet mid (Ok tt) new.responder holds → new.waiting.from ≡ None → IsDevisedBy (arrives c d.responder content) held (Ok tt) new holds
    arrived_heard new heard none =
        subst (λ (p : List ℕ). IsDevisedBy (arrives c d.responder p) held (Ok tt) new holds) same
        (subst (λ (o : Option (SessionId × List ℕ)). IsDevisedBy (arrives_with c d.responder packet o) held (Ok tt) new holds) (sym arrival.0)
        (record { responder = heard.0; waits = rests_as new.waiting none }, subst (λ (m : Option (List ℕ)). Takes m (frames_of (devised.hears d.responder packet).written) holds) arrival.1 heard.1))

    pub arrived_heard_part : (f : OutFault) (old new : Device) → IsHeard d.responder packet mid (Err f) old.responder holds → IsDevisedBy (arrives c d.responder content) held (Err fault.WriteFault) new holds
    arrived_heard_part f old new heard =
        subst (λ (p : List ℕ). IsDevisedBy (arrives c d.responder p) held (Err fault.WriteFault) new holds) same
        (subst (λ (o : Option (SessionId × List ℕ)). IsDevisedBy (arrives_with c d.responder packet o) held (Err fault.WriteFault) new holds) (sym arrival.0)
        (subst (λ (m : Option (List ℕ)). TakesPrefix m (frames_of (devised.hears d.responder packet).written) holds) arrival.1 heard))
