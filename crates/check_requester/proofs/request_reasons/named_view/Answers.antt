use Rattle.std.proofs.Common.{◌∙◌, ap, sym}
use Rattle.requester_core.specs.Slot.{shown_of}
use Rattle.check_requester.proofs.AskedIds.{named_session}
use Rattle.check_requester.proofs.OpensAsking.{none_named}
use Rattle.check_requester.proofs.request_reasons.named_view.Goals as goal

pub returns-in-Some : goal.returns-in-Some
returns-in-Some c = λ q h short stands. c.view.ensures q h stands short ∙ ap shown_of (sym (named_session h c.args.sealed.now c.in-Some.id (sym (c.in-Some.ensures q h stands short))))

pub returns-in-None : goal.returns-in-None
returns-in-None c = λ q h short stands. ap shown_of (sym (none_named h c.args.sealed.now (c.in-None.ensures q h stands short)))
