use Rattle.std.proofs.Common.{◌≤◌, sym, subst, refl, ℕ, arith}
use Rattle.requester_machine.specs.Records.{answer_inner}
use Rattle.requester_machine.specs.Session.{response_epoch, response_next}
use Rattle.psk_session.specs.Course.{with_taken}
use Rattle.psk_session.specs.Kept.{Keeps}
use Rattle.psk_session.specs.Verdict.{effect_of}
use Rattle.psk_session.proofs.Replies.{calm, epoch_after, few_after}
use Rattle.psk_session.proofs.req_session.ReqSession.answered.Goals as goal

pub returns-clause-opened : goal.returns-clause-opened
returns-clause-opened c = λ psk s a sealed answer op keeps request response opened brought.
    let effect = effect_of answer op c.args.reply in
    let still = calm answer op c.args.reply in
    let below : response_next s ≤ 65535 = omega (arith, response) in (
      refl,
      record {
        stage = opened;
        keeps = subst (λ (n : ℕ). Keeps c.count.new.self psk (with_taken psk s a sealed effect) n) (epoch_after psk s a sealed answer op c.args.reply)
            (c.count.ensures psk s (response_epoch s) sealed (answer_inner psk s a sealed) effect keeps still.opens still.updated (c.is_data.ensures answer op) below);
        few = few_after psk s a sealed answer op c.args.reply request response;
        brought = sym brought;
      },
    )
