use Rattle.std.proofs.Common.{◌∙◌, refl}
use Rattle.responder_machine.specs.Session.{t1_of}
use Rattle.spdm_machine.specs.Terms.{terms_of}
use Rattle.responder_session.specs.Exchange.{begun}
use Rattle.responder_session.proofs.kept.Kept.begin.Goals as goal

pub returns : goal.returns
returns c = λ psk n exchange answer terms told is.
    let t1 = t1_of (begun n exchange answer) in
    let request = c.request_key.ensures (terms_of n).choice psk t1 is in
    let response = c.response_key.ensures (terms_of n).choice psk t1 is in
    record {
      live = refl;
      terms = terms;
      id = λ i. record { req = terms.req_id i; rsp = told i };
      request = request;
      response = response;
      request_epoch = request.secret.epoch;
      response_epoch = response.secret.epoch;
      request_next = c.first.ensures;
      response_next = c.first-2.ensures;
      taken = refl;
      hash = c.copy_of.ensures ∙ is.th1;
      last = c.none.ensures;
    }
