use Rattle.std.proofs.Common.{◌≡◌, sym, refl, subst, ℕ, List}
use Rattle.requester_machine.specs.Message.{Ask}
use Rattle.requester_machine.specs.Records.{sealed_next}
use Rattle.requester_machine.specs.Session.Step.{Asked}
use Rattle.std.specs.Prelude.{◌∷◌}
use Rattle.psk_session.specs.Kept.{Keeps}
use Rattle.psk_session.specs.Waiting.{awaited_by, awaited_epoch}
use Rattle.psk_session.proofs.req_session.ReqSession.send.Goals as goal

pub returns-clause-sent : goal.returns-clause-sent
returns-clause-sent c = λ psk s a keeps stage few next awaits.
    let old = c.args.self.now in
    let inner = c.as_slice.result.now in
    let sealed = sealed_next psk s old.brought c.args.pad.now in
    let kept = subst (λ (x : Ask). Keeps c.seal.new.self psk (Asked x old.brought sealed ∷ s) (awaited_epoch s a)) (sym awaits.is)
    (subst (λ (m : List ℕ). Keeps c.seal.new.self psk (Asked (awaited_by c.args.awaited awaits.before) m sealed ∷ s) (awaited_epoch s a)) c.as_slice.ensures.value
    (c.seal.ensures.keeps psk s (awaited_epoch s a) c.args.awaited awaits.before sealed keeps few)) in (
      refl,
      record {
        stage = stage;
        keeps = kept;
        newest = (
          refl,
          sym (subst (λ (m : List ℕ). c.seal.new.out ≡ sealed_next psk s m c.args.pad.now) c.as_slice.ensures.value (c.seal.ensures.record psk s (awaited_epoch s a) keeps few)),
        );
        awaits = awaits;
        few = next;
      },
    )
