-- The values that are handed to a connection are those that the responder chooses.
use Rattle.std.proofs.Common.{◌≡◌, [], sym}
use Rattle.responder_core.specs.Free.{IsFree}
use Rattle.responder_core.specs.declared.free_values.FreeValues.{FreeValues}
use Rattle.responder_machine.specs.Does.{chosen, clear_chosen, first_queued}
use Rattle.responder_machine.specs.History.{History, clear_turns, negotiation_of, queue_of}
use Rattle.responder_machine.specs.LargeMessages.{next_handle}
use Rattle.responder_machine.specs.Place.{free_id}
use Rattle.responder_machine.specs.Setup.{RspSetup}
use Rattle.spdm_machine.specs.Keys.{Draw, context_of}
use Rattle.spdm_machine.specs.Terms.{terms_of}

pub clear_is : (r : RspSetup) (h : History) (d : Draw) (seen : FreeValues) → seen.id ≡ free_id h → seen.context.now ≡ context_of (terms_of (negotiation_of (clear_turns h))).choice.hash d → r.opaque ≡ seen.exchange_opaque.now
    → seen.nonce ≡ d.bytes → seen.measured_opaque.now ≡ [] → seen.handle ≡ next_handle (clear_turns h) → seen.reply.now ≡ first_queued (queue_of h) → seen.pad.now ≡ [] → IsFree seen (clear_chosen r h d)
unfolding chosen
clear_is r h d seen id context exchange_opaque nonce measured_opaque handle reply pad = record {
  id = sym id;
  context = sym context;
  exchange_opaque = exchange_opaque;
  nonce = sym nonce;
  measured_opaque = sym measured_opaque;
  handle = sym handle;
  reply = sym reply;
  pad = sym pad;
}
