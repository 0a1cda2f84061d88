use Rattle.std.proofs.Common.{◌≡◌, ◌++◌, ◌∙◌, [], ap, sym, subst, refl, ℕ, List, arith}
use Rattle.key_schedule.specs.declared.direction.Direction.TheVariants.{Response}
use Rattle.running_hash.specs.Hash.{hash_of}
use Rattle.session_keys.specs.Handshake.{IsHandshakeOf}
use Rattle.spdm_machine.specs.Keys.{verify_data}
use Rattle.spdm_machine.specs.Sessions.{id_in_exchange}
use Rattle.spdm_machine.specs.Terms.{terms_of}
use Rattle.transcript.specs.Lane as lanes
use Rattle.transcript.specs.Transcripts.{vca_of, without_verify}
use Rattle.responder_machine.proofs.VerifyLength.{length_verify}
use Rattle.responder_machine.specs.Session.{session_terms, t1_of}
use Rattle.responder_session.specs.Exchange.{answer_with, begun, t1_with}
use Rattle.responder_session.proofs.Answered.{unverified, told}
use Rattle.responder_session.proofs.session.RspSession.start.Goals as goal

pub returns-clause-stands : goal.returns-clause-stands
returns-clause-stands c = λ n vca terms fits.
    let exchange = c.args.exchange.now in
    let parts = c.args.parts.now in
    let out = c.answer_exchange-handshake.new.out in
    let given : lanes.StandsFor c.push-2.new.self (vca_of n ++ exchange) =
    subst (λ (x : List ℕ). lanes.StandsFor c.push-2.new.self (x ++ exchange)) (c.as_slice.ensures.value ∙ vca) (c.push-2.ensures.pushed c.as_slice.result.now (c.push.ensures.pushed [] c.new-lane.ensures.pushed)) in
    let is = c.answer_exchange-handshake.ensures.value n exchange terms fits given in
    let written = c.answer_exchange-handshake.ensures.answer n exchange terms fits given in
    let choice = (terms_of n).choice in
    let t1 = t1_with n exchange parts in
    let verify = verify_data choice c.args.psk.now t1 Response t1 in
    let cut : without_verify (hash_of choice.hash) out ≡ answer_with parts [] =
    ap (λ (x : List ℕ). without_verify (hash_of choice.hash) x) written
    ∙ unverified choice.hash parts verify (length_verify choice c.args.psk.now t1 Response t1) in
    let at : IsHandshakeOf c.answer_exchange-handshake.result choice c.args.psk.now (t1_of (begun n exchange out)) =
    subst (λ (x : List ℕ). IsHandshakeOf c.answer_exchange-handshake.result choice c.args.psk.now (vca_of n ++ exchange ++ x)) (sym cut) is in
    record {
      stage = refl;
      keeps = c.begin.ensures c.args.psk.now n exchange out terms (told parts verify (omega arith) ∙ ap id_in_exchange (sym written)) at;
      handshake = at;
      pushed = subst (λ (x : List ℕ). lanes.StandsFor c.push-3.new.self (vca_of n ++ exchange ++ x)) c.as_slice-2.ensures.value (c.push-3.ensures.pushed (vca_of n ++ exchange) given);
      large = c.new.ensures (session_terms (begun n exchange out)).common.to_requester.transfer;
      bytes = c.new-2.ensures;
      fresh = λ at. record { request_epoch = refl; response_epoch = refl; taken = refl };
    }
