use Rattle.std.proofs.Common.{◌++◌, ◌∙◌, ap, ℕ, List}
use Rattle.std.specs.Prelude.{bytes_eq}
use Rattle.key_schedule.specs.declared.direction.Direction.TheVariants.{Request}
use Rattle.running_hash.specs.Hash.{hash_of}
use Rattle.spdm_basis.specs.declared.values.hash_alg.HashAlg.{HashAlg}
use Rattle.spdm_machine.specs.Keys.{verify_data}
use Rattle.transcript.specs.Transcripts.{without_verify}
use Rattle.responder_session.proofs.exchange.Exchange.is_verified.Goals as goal

pub returns : goal.returns
returns c = λ choice psk t1 given same handshake pushed.
    let cut = c.without_verify.ensures ∙ ap (λ (h : HashAlg). without_verify (hash_of h) c.args.message.now) same in
    c.same_bytes.ensures
    ∙ ap (λ (x : List ℕ). bytes_eq c.args.verify.now x)
    (c.as_slice.ensures.value
    ∙ c.requester_verify.ensures.value choice psk t1 (given ++ c.without_verify.result.now) handshake (c.lane_with-lane.ensures.pushed given pushed)
    ∙ ap (λ (x : List ℕ). verify_data choice psk t1 Request (given ++ x)) cut)
