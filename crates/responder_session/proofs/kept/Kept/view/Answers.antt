use Rattle.std.proofs.Common.{◌≡◌, ◌∙◌, arith}
use Rattle.std.specs.Prelude.{◌%◌, ◌^◌}
use Rattle.responder_machine.specs.Heard.{view_of}
use Rattle.responder_machine.specs.Session.{taken_of}
use Rattle.responder_session.proofs.kept.Kept.view.Goals as goal

pub returns-clause-shown : goal.returns-clause-shown
unfolding view_of
returns-clause-shown c = λ psk s keeps stage few.
    let taken : taken_of s % 2 ^ 64 ≡ taken_of s = omega arith in
    λ i. record {
      id = keeps.id i;
      stage = stage i;
      request_epoch = (c.epoch.ensures ∙ keeps.request_epoch) i;
      response_epoch = (c.epoch-2.ensures ∙ keeps.response_epoch) i;
      request_next = (c.number.ensures ∙ keeps.request_next) i;
      response_next = (c.number-2.ensures ∙ keeps.response_next) i;
      taken = (keeps.taken ∙ taken) i;
      hash = (c.copy_of.ensures ∙ keeps.hash) i;
      choice = keeps.terms.choice i;
    }
