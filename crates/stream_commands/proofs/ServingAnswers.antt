-- What came of a stream that is served, behind its beginning.
use Rattle.std.proofs.Common.{◌≡◌, ◌∙◌, ◌≤◌, ℕ, List, [], sym, subst, Option, Some, Ok, Err}
use Rattle.frame_stream.proofs.Fronts.{fault_later}
use Rattle.frame_stream.specs.Frames.{Ending}
use Rattle.frame_stream.specs.Frames.Ending.{Bad, Done, TooLong}
use Rattle.frame_stream.specs.Runs.{Counts}
use Rattle.responder_serve.specs.Served.{IsServed, IsServedInPart, responder_in_life}
use Rattle.responder_serve.specs.Standing as serving
use Rattle.responder_serve.specs.Told.{IsRefusal}
use Rattle.responder_serve.specs.declared.fault.ServeFault.{ServeFault}
use Rattle.responder_serve.specs.declared.fault.ServeFault.TheVariants as serve
use Rattle.script_text.specs.declared.configuration.config.ScriptConfig.{ScriptConfig}
use Rattle.script_laws.specs.Ends.{HasNoFault}
use Rattle.std.proofs.lemmas.Option.{none-some}
use Rattle.spdm_basis.specs.Stream.{HasFault}
use Rattle.stream_commands.proofs.Streams.{in_part, served, so_far}
use Rattle.stream_commands.proofs.Begun.{read_to_end, set_up}
use Rattle.stream_commands.specs.StreamStart.{IsBegun, stream_in}
use Rattle.stream_commands.specs.Outside.{IsFollowedBy, Outside}
use Rattle.stream_commands.specs.Served as outcome
use Rattle.stream_commands.specs.Served.{IsBegunToServe, serving_command}
use Rattle.stream_commands.specs.Told.{IsOfStream, IsTold}
use Rattle.stream_commands.specs.declared.begin.StreamStart.{StreamStart}
use Rattle.stream_commands.specs.declared.fault.StreamFault.{StreamFault}

-- a configuration without a fault is not refused
pub of_stream : (c : ScriptConfig) (f : ServeFault) → HasNoFault c → IsRefusal c f → IsOfStream f
of_stream c serve.ReadFault none refused = tt
of_stream c serve.WriteFault none refused = tt
of_stream c serve.TooLong none refused = tt
of_stream c (serve.BadFrame at) none refused = tt
of_stream c serve.OutOfMemory none refused = tt
of_stream c (serve.Responder own) none refused =
    absurd (none-some own (sym (none.responder refused.config refused.sets_up) ∙ refused.is))

-- ---- After a beginning, where what is ahead is the stream of the input, in the life of a boot number.

module _ (boot : ℕ) (before after : Outside) (begun : StreamStart) (rest ahead : Option (List ℕ)) (is : IsBegun before.left before.seeds begun rest after.seeds)
    (same : (stream : List ℕ) → stream_in before.left ≡ Some stream → ahead ≡ Some stream) where
  -- all whole frames were served
  whole_served : (ending : Ending) → IsServed (responder_in_life begun.config begun.seed boot) ahead before.holds after.holds ending → outcome.IsServed boot before after ending
  whole_served ending done = record {
    config = begun.config;
    seed = begun.seed;
    set_up = set_up before after begun rest is;
    served = served (responder_in_life begun.config begun.seed boot) (stream_in before.left) ahead before.holds after.holds ending same done;
  }

  -- a part of the answers was written
  part_served : IsServedInPart (responder_in_life begun.config begun.seed boot) ahead before.holds after.holds → IsBegunToServe boot before after
  part_served part = record {
    config = begun.config;
    seed = begun.seed;
    set_up = set_up before after begun rest is;
    served = in_part (responder_in_life begun.config begun.seed boot) (stream_in before.left) ahead before.holds after.holds same part;
  }

  -- All of it was served,
  pub all_served : IsServed (responder_in_life begun.config begun.seed boot) ahead before.holds after.holds Done → ((left : List ℕ) → rest ≡ Some left → after.left ≡ Some []) →
      IsFollowedBy serving_command boot before after (Ok tt)
  all_served done end = (whole_served Done done, read_to_end before after begun rest is end)

  -- or its fault is that of the command.
  module _ (n : Counts) (told : StreamFault) (earlier : before.read_faults ≤ n.read_before) (later : n.read_before ≤ n.read_after)
      (reads : n.read_after ≡ after.read_faults) (wrote : n.written_before ≡ before.write_faults) (writes : n.written_after ≡ after.write_faults) where
    abbrev IsTheFault : StreamFault → Type 0
    IsTheFault f = IsFollowedBy serving_command boot before after (Err f)

    pub not_served : (f : ServeFault) → serving.IsCause (responder_in_life begun.config begun.seed boot) ahead before.holds after.holds n f → IsTold f told → IsFollowedBy serving_command boot before after (Err told)
    not_served serve.ReadFault cause t =
        subst IsTheFault (sym t) (
          subst (HasFault before.read_faults) reads (fault_later before.read_faults n.read_before n.read_after earlier later cause.0),
          part_served (so_far (responder_in_life begun.config begun.seed boot) ahead before.holds after.holds cause.1),
        )
    not_served serve.WriteFault cause t =
        subst IsTheFault (sym t) (subst (λ m. HasFault m after.write_faults) wrote (subst (HasFault n.written_before) writes cause.0), part_served cause.1)
    not_served serve.TooLong cause t = subst IsTheFault (sym t) (whole_served TooLong cause)
    not_served (serve.BadFrame at) cause t = subst IsTheFault (sym t) (whole_served (Bad at) cause)
    not_served serve.OutOfMemory cause t = subst IsTheFault (sym t) cause
    not_served (serve.Responder refused) cause t = absurd t
