use Rattle.std.proofs.Common.{◌++◌, []}
use Rattle.requester_machine.specs.Session.{t1_of}
use Rattle.spdm_grammar.specs.Message.RequestMessage.{PskFinish}
use Rattle.spdm_grammar.specs.Requests.{canonical_request}
use Rattle.spdm_machine.specs.Terms.{terms_of}
use Rattle.transcript.specs.Transcripts.{vca_of}
use Rattle.psk_session.specs.Opening.{accepted}
use Rattle.psk_session.proofs.finish_record.verify_of_finish.Goals as goal

pub returns-clause-value : goal.returns-clause-value
returns-clause-value c = λ psk n exchange answer is pushed.
    let given = vca_of n ++ exchange ++ answer in
    c.requester_verify.ensures.value (terms_of n).choice psk (t1_of (accepted n exchange answer)) (given ++ canonical_request (PskFinish [])) is
    (c.lane_with_finish.ensures.pushed given pushed)
