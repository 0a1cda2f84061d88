use Rattle.std.proofs.Common.{◌≡◌, ◌++◌, ◌∙◌, [], ap, sym, ℕ, List, length}
use Rattle.running_hash.specs.Hash.{hash_of}
use Rattle.spdm_basis.specs.Sizes.{hash_size}
use Rattle.spdm_basis.specs.declared.values.hash_alg.HashAlg.{HashAlg}
use Rattle.spdm_grammar.specs.declared.messages.choice.Choice.{Choice}
use Rattle.spdm_machine.specs.Terms.{terms_of}
use Rattle.transcript.specs.Transcripts.{vca_of, without_verify}
use Rattle.responder_session.specs.Exchange.{answer_with, t1_with}
use Rattle.responder_session.proofs.Answered.{answer_split, unverified}
use Rattle.responder_session.proofs.exchange.answer_exchange.Goals as goal

pub returns-clause-value : goal.returns-clause-value
returns-clause-value c = λ n exchange terms fits pushed.
    let hash = c.args.terms.choice.hash in
    let given = vca_of n ++ exchange in
    let cut = c.without_verify.ensures
    ∙ ap (λ (x : List ℕ). without_verify (hash_of hash) x) (c.as_slice.ensures.value ∙ c.write_answer.ensures fits)
    ∙ unverified hash c.args.parts.now c.blank.result c.blank.ensures in
    c.new-handshake.ensures.stands (terms_of n).choice (t1_with n exchange c.args.parts.now) (ap (λ (x : Choice). x.hash) terms.choice) (ap (λ (x : Choice). x.aead) terms.choice)
    (c.finish.ensures.value (given ++ c.without_verify.result.now) (c.lane_with-lane.ensures.pushed given pushed)
    ∙ ap (λ (h : HashAlg). (hash_of h).digest (given ++ c.without_verify.result.now)) (c.lane_with-lane.ensures.hash ∙ c.requires.lane)
    ∙ ap (λ (x : List ℕ). (hash_of hash).digest (given ++ x)) cut)

pub returns-clause-answer : goal.returns-clause-answer
returns-clause-answer c = λ n exchange terms fits pushed.
    let parts = c.args.parts.now in
    let blank = c.blank.result in
    let verify = c.responder_verify.result in
    let long : length blank ≡ length verify = c.blank.ensures ∙ sym (c.responder_verify.ensures.size ∙ ap hash_size c.new-handshake.ensures.hash) in
    c.put_verify.ensures (answer_with parts []) blank (c.write_answer.ensures fits ∙ answer_split parts blank) long
    ∙ sym (answer_split parts verify)
    ∙ ap (answer_with parts) (c.responder_verify.ensures.value (terms_of n).choice c.args.psk.now (t1_with n exchange parts) (returns-clause-value c n exchange terms fits pushed))
