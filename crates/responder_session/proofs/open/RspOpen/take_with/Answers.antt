use Rattle.std.proofs.Common.{◌<◌, ◌-◌, ◌^◌, subst, ℕ}
use Rattle.responder_session.proofs.open.RspOpen.take_with.Goals as goal

pub returns : goal.returns
returns c = λ r s f blocks free stands.
    let keeps = stands.session.keeps in
    c.of.ensures.live r s f c.args.sealed.now stands.sizes
    (c.take_with-told.ensures.live r s f stands.sizes free.pad (λ at. blocks)
    (λ at. record {
      free = free;
      epochs = record {
        request = subst (λ (n : ℕ). n < 2 ^ 64 - 1) keeps.request_epoch c.requires.request_epoch;
        response = subst (λ (n : ℕ). n < 2 ^ 64 - 1) keeps.response_epoch c.requires.response_epoch;
      };
    }) stands.session)
