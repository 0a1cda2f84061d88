use Rattle.std.proofs.Common.{◌≡◌, ◌∙◌, ap, subst, sym}
use Rattle.std.specs.Prelude.{Ok, Err, Result}
use Rattle.requester_core.specs.ReplyOutcome.{IsLed}
use Rattle.negotiate.specs.Capabilities.{common_of}
use Rattle.negotiate.specs.declared.shared.Common.{Common}
use Rattle.requester_machine.specs.Answers.{caps_led}
use Rattle.requester_machine.specs.History.Effect.{Answers}
use Rattle.spdm_grammar.specs.Message.RequestMessage.{GetCapabilities}
use Rattle.spdm_grammar.specs.declared.messages.capabilities.Caps.{Caps}
use Rattle.spdm_grammar.specs.declared.messages.part_faults.CapsFault.{CapsFault}
use Rattle.requester_core.proofs.clear.clear_state.ClearState.on_capabilities.Goals as goal

pub returns-in-Err : goal.returns-in-Err
returns-in-Err c = λ q h caps setup shows own keeps up reads.
    let fails : Err c.in-Err.fault ≡ common_of caps c.args.theirs.now = c.in-Err.ensures ∙ ap (λ (k : Caps). common_of k c.args.theirs.now) (c.caps.ensures q setup ∙ sym own) in
    subst (λ (r : Result Common CapsFault). IsLed h (Ok (caps_led q h (Answers (GetCapabilities caps) c.args.answer.now) r)) c.stop.result c.args.self.now c.stop.new.self c.args.out.now) fails (c.stop.ensures h c.args.out.now shows)
