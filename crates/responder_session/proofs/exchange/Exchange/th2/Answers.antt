use Rattle.std.proofs.Common.{◌++◌, ◌∙◌, ap}
use Rattle.running_hash.specs.Hash.{hash_of}
use Rattle.spdm_basis.specs.declared.values.hash_alg.HashAlg.{HashAlg}
use Rattle.responder_session.proofs.exchange.Exchange.th2.Goals as goal

pub returns-clause-value : goal.returns-clause-value
returns-clause-value c = λ choice psk t1 given handshake pushed.
    c.finish.ensures.value (given ++ c.args.message.now ++ c.args.answer.now) (c.push.ensures.pushed (given ++ c.args.message.now) (c.lane_with-lane.ensures.pushed given pushed))
    ∙ ap (λ (h : HashAlg). (hash_of h).digest (given ++ c.args.message.now ++ c.args.answer.now)) (c.push.ensures.hash ∙ c.lane_with-lane.ensures.hash ∙ c.args.self.now.same ∙ handshake.hash)
