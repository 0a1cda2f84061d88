use Rattle.std.proofs.Common.{◌≡◌, ◌++◌, ◌∙◌, ap, subst, ℕ, List}
use Rattle.requester_machine.specs.Session.{session_id, t1_of}
use Rattle.spdm_grammar.specs.Message.RequestMessage.{PskFinish}
use Rattle.spdm_grammar.specs.Requests.{canonical_request}
use Rattle.spdm_machine.specs.Terms.{terms_of}
use Rattle.transcript.specs.Lane as lanes
use Rattle.transcript.specs.Transcripts.{vca_of}
use Rattle.psk_session.specs.Finishing.{finish_message}
use Rattle.psk_session.specs.Opening.{accepted}
use Rattle.psk_session.proofs.finishing.Finishing.new.Goals as goal

pub returns : goal.returns
returns c = λ psk n exchange answer terms handshake pushed id_told told.
    let message : c.write_finish.new.out ≡ finish_message psk n exchange answer =
    c.write_finish.ensures.value
    ∙ ap (λ (v : List ℕ). canonical_request (PskFinish v)) (c.as_slice.ensures.value ∙ c.verify_of_finish.ensures.value psk n exchange answer handshake pushed) in
    let id : record { req = c.args.terms.req_id; rsp = c.args.rsp_id } ≡ session_id (accepted n exchange answer) = λ i. record { req = terms.req_id i; rsp = id_told i } in
    record {
      terms = terms;
      handshake = handshake;
      pushed = subst (λ (m : List ℕ). lanes.StandsFor c.push.new.self (vca_of n ++ exchange ++ answer ++ m)) (c.as_slice-2.ensures.value ∙ message)
          (c.push.ensures.pushed (vca_of n ++ exchange ++ answer) pushed);
      response = c.response_key-response.ensures (terms_of n).choice psk (t1_of (accepted n exchange answer)) handshake;
      id = id;
      sent = c.seal_finish-sent.ensures psk n exchange answer handshake id (c.as_slice-3.ensures.value ∙ message);
      told = told;
    }
