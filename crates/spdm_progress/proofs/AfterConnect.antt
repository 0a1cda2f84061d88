-- Right after a connect both ends stand as a measure needs it.
use Rattle.std.proofs.Common.{◌≡◌, ◌∙◌, ◌≤◌, false, sym, ap, subst, arith}
use Rattle.std.specs.Prelude.{min}
use Rattle.std.proofs.Math.Nat.{le-min}
use Rattle.measurements.specs.Records.{is_missing}
use Rattle.negotiate.specs.declared.shared.Common.{Common}
use Rattle.requester_machine.specs.History as asked
use Rattle.requester_machine.specs.Setup.{ReqSetup}
use Rattle.responder_machine.specs.Setup.{RspSetup, inventory_of}
use Rattle.spdm_grammar.specs.declared.messages.choice.Choice.{Choice}
use Rattle.spdm_grammar.specs.declared.names.TheConstants.{MAX_MESSAGE_SIZE}
use Rattle.spdm_progress.specs.Fitting.{CanGo}
use Rattle.spdm_progress.specs.Measuring.{measurements_size}
use Rattle.spdm_progress.specs.Scripts.{ConnectedCanMeasure}

pub connected_can_measure : ConnectedCanMeasure
connected_can_measure q r a b n choice world lines is measures op byte block = (
  λ goes. (
    byte,
    there,
    subst (λ (s : RspSetup). CanGo (asked.connection_terms is.requester.history).common (asked.connection_terms is.requester.history).common.to_requester (measurements_size s op)) (sym is.responder_setup)
        (subst (λ (c : Common). CanGo c c.to_requester (measurements_size r op)) (sym is.common) goes),
  ),
  λ fits.
      (let most = a.sizes.most in
      let ordered = a.sizes.ordered in
      let least = b.sizes.least in
      let room : measurements_size r op ≤ min q.transfer MAX_MESSAGE_SIZE = le-min fits (omega arith) in
      let room_max : measurements_size r op ≤ min q.max MAX_MESSAGE_SIZE = le-min (omega arith) (omega arith) in
      let room_request : 4 ≤ min r.transfer MAX_MESSAGE_SIZE = le-min (omega arith) (omega arith) in record {
        requester_phase = is.requester_phase;
        responder_phase = is.responder_phase;
        same = is.same;
        chosen = ap (λ (c : Choice). c.measure) is.chosen ∙ measures;
        byte = byte;
        block = there;
        request_fits = subst (λ (c : Common). 4 ≤ c.to_responder.transfer) (sym is.common) room_request;
        answer_fits = subst (λ (s : RspSetup). measurements_size s op ≤ (asked.connection_terms is.requester.history).common.to_requester.transfer) (sym is.responder_setup) (subst (λ (c : Common). measurements_size r op ≤ c.to_requester.transfer) (sym is.common) room);
        answer_fits_max = subst (λ (s : RspSetup). measurements_size s op ≤ (asked.connection_terms is.requester.history).common.to_requester.max) (sym is.responder_setup) (subst (λ (c : Common). measurements_size r op ≤ c.to_requester.max) (sym is.common) room_max);
        answer_fits_own = subst (λ (s : RspSetup). measurements_size s op ≤ is.requester.setup.transfer) (sym is.responder_setup) (subst (λ (s : ReqSetup). measurements_size r op ≤ s.transfer) (sym is.requester_setup) fits);
      }),
)
  where
    there : is_missing op (inventory_of is.connection.setup) ≡ false
    there = subst (λ (s : RspSetup). is_missing op (inventory_of s) ≡ false) (sym is.responder_setup) block
