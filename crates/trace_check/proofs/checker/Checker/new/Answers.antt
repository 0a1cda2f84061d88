use Rattle.std.proofs.Common.{[], ap, refl, sym, subst, List}
use Rattle.check_laws.proofs.RowsKept.{show_begins}
use Rattle.check_laws.specs.Rows.{StandsForRows}
use Rattle.check_laws.specs.declared.verdict.Seen.{Seen}
use Rattle.script_ends.specs.Configured.{configuration_in, requester_in}
use Rattle.script_text.specs.declared.configuration.config.ReqPart.{ReqPart}
use Rattle.std.specs.Prelude.{map}
use Rattle.trace_check.proofs.checker.Checker.new.Goals as goal
use Rattle.world_machine.specs.Setup.{Configuration}

pub returns : goal.returns
returns c = λ sound.
    let w : Configuration = configuration_in c.args.config.now in record {
      own = refl;
      answering = c.in_ok-answering.ensures;
      rows = [];
      shows = show_begins w;
      pairs = c.in_ok-pairs.ensures w sound refl (ap (λ (l : List ReqPart). map (requester_in w.responder.eid) l) (sym c.as_slice.ensures)) c.in_ok-answering.ensures;
      entries = subst (λ (table : List Seen). StandsForRows table w 0 []) (sym c.new-2.ensures) (record { entries = refl; counts = tt });
    }
