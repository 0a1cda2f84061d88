use Rattle.std.proofs.Common.{◌∙◌, ap, sym, subst, Option, Some}
use Rattle.requester_core.proofs.DataBrought.{brought_data, brought_none}
use Rattle.requester_core.specs.Gathering.{Gathers}
use Rattle.requester_machine.specs.Message.{Sent}
use Rattle.requester_core.proofs.joined.RequesterCore.settle.Goals as goal

pub returns-then-is_bringing : goal.returns-then-is_bringing
returns-then-is_bringing c = λ q h owner tag body f d entry waits a sizes beside asked settles event.
    let told = sym c.if-is_bringing.ensures in
    let has = brought_data q h owner tag body f d entry c.args.event settles event waits c.args.id a beside.clear_state.holds asked told in
    record {
      clear_state = c.bring.ensures q h owner tag body f d entry sizes beside.clear_state settles (has.data_is ∙ ap Some (sym (c.data.ensures q _ beside.sessions has.rests)));
      sessions = beside.sessions;
      gathers = subst (λ (o : Option Sent). Gathers q o c.args.self.now.gathered) (sym settles.next) (record { max = beside.max; chunks = tt });
    }

pub returns-else-is_bringing : goal.returns-else-is_bringing
returns-else-is_bringing c = λ q h owner tag body f d entry waits a sizes beside asked settles event.
    let told = sym c.if-is_bringing.ensures in
    record {
      clear_state = c.clear_outstanding.ensures q h owner tag body f d entry beside.clear_state settles (brought_none q h owner tag body f d entry c.args.event settles event told);
      sessions = beside.sessions;
      gathers = subst (λ (o : Option Sent). Gathers q o c.args.self.now.gathered) (sym settles.next) (record { max = beside.max; chunks = tt });
    }
