use Rattle.std.proofs.Common.{◌∙◌, sym}
use Rattle.responder_session.proofs.open.RspOpen.take.Goals as goal

pub returns-then-takes_data-clause-took : goal.returns-then-takes_data-clause-took
returns-then-takes_data-clause-took c = λ r s f blocks chosen stands.
    c.take_with-took.ensures r s f blocks
    (record { nonce = chosen.nonce; opaque = chosen.opaque; handle = chosen.handle ∙ sym (c.next_handle.ensures r.psk s stands.session); reply = chosen.reply ∙ sym c.first.ensures.value; pad = chosen.pad }) stands

pub returns-else-takes_data-clause-took : goal.returns-else-takes_data-clause-took
returns-else-takes_data-clause-took c = λ r s f blocks chosen stands.
    c.take_with-took.ensures r s f blocks
    (record { nonce = chosen.nonce; opaque = chosen.opaque; handle = chosen.handle ∙ sym (c.next_handle.ensures r.psk s stands.session); reply = chosen.reply ∙ sym c.first.ensures.value; pad = chosen.pad }) stands
