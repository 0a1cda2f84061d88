-- What came of a stream that is served with an application, behind its beginning.
use Rattle.std.proofs.Common.{◌≡◌, ◌≤◌, ℕ, List, [], sym, subst, Option, Some, Ok, Err}
use Rattle.frame_stream.proofs.Fronts.{fault_later}
use Rattle.frame_stream.specs.Frames.{Ending}
use Rattle.frame_stream.specs.Frames.Ending.{Bad, Done, TooLong}
use Rattle.frame_stream.specs.Runs.{Counts}
use Rattle.device_serve.specs.Devised.{device_in_life}
use Rattle.device_serve.specs.Standing as devising
use Rattle.device_serve.specs.Streams.{IsDevised, IsDevisedInPart}
use Rattle.responder_serve.specs.declared.fault.ServeFault.{ServeFault}
use Rattle.responder_serve.specs.declared.fault.ServeFault.TheVariants as serve
use Rattle.spdm_basis.specs.Stream.{HasFault}
use Rattle.device_command.proofs.Streams.{devised_ahead, part_ahead, so_far}
use Rattle.stream_commands.proofs.Begun.{read_to_end, set_up}
use Rattle.stream_commands.specs.StreamStart.{IsBegun, stream_in}
use Rattle.stream_commands.specs.Outside.{IsFollowedBy, Outside}
use Rattle.device_command.specs.Devised as outcome
use Rattle.device_command.specs.Devised.{IsBegunToDevise, devising_command}
use Rattle.stream_commands.specs.Told.{IsTold}
use Rattle.script_text.specs.declared.configuration.config.ScriptConfig.{ScriptConfig}
use Rattle.stream_commands.specs.declared.fault.StreamFault.{StreamFault}

-- ---- After a beginning, where what is ahead is the stream of the input, in the life of a boot number.

module _ (boot : ℕ) (before after : Outside) (config : ScriptConfig) (seed bytes : List ℕ) (rest ahead : Option (List ℕ)) (is : IsBegun before.left before.seeds (record { config = config; seed = seed; before = bytes }) rest after.seeds)
    (same : (stream : List ℕ) → stream_in before.left ≡ Some stream → ahead ≡ Some stream) where
  -- all whole frames were answered
  whole_devised : (ending : Ending) → IsDevised config (device_in_life config seed boot) ahead before.holds after.holds ending → outcome.IsDevised boot before after ending
  whole_devised ending done = record {
    config = config;
    seed = seed;
    set_up = set_up before after (record { config = config; seed = seed; before = bytes }) rest is;
    devised = devised_ahead config (device_in_life config seed boot) (stream_in before.left) ahead before.holds after.holds same ending done;
  }

  -- a part of the answers was written
  part_devised : IsDevisedInPart config (device_in_life config seed boot) ahead before.holds after.holds → IsBegunToDevise boot before after
  part_devised part = record {
    config = config;
    seed = seed;
    set_up = set_up before after (record { config = config; seed = seed; before = bytes }) rest is;
    devised = part_ahead config (device_in_life config seed boot) (stream_in before.left) ahead before.holds after.holds same part;
  }

  -- All of it was answered,
  pub all_devised : IsDevised config (device_in_life config seed boot) ahead before.holds after.holds Done → ((left : List ℕ) → rest ≡ Some left → after.left ≡ Some []) →
      IsFollowedBy devising_command boot before after (Ok tt)
  all_devised done end = (whole_devised Done done, read_to_end before after (record { config = config; seed = seed; before = bytes }) rest is end)

  -- or its fault is that of the command.
  module _ (n : Counts) (told : StreamFault) (earlier : before.read_faults ≤ n.read_before) (later : n.read_before ≤ n.read_after)
      (reads : n.read_after ≡ after.read_faults) (wrote : n.written_before ≡ before.write_faults) (writes : n.written_after ≡ after.write_faults) where
    abbrev IsTheFault : StreamFault → Type 0
    IsTheFault f = IsFollowedBy devising_command boot before after (Err f)

    pub not_devised : (f : ServeFault) → devising.IsCause config (device_in_life config seed boot) ahead before.holds after.holds n f → IsTold f told → IsFollowedBy devising_command boot before after (Err told)
    not_devised serve.ReadFault cause t =
        subst IsTheFault (sym t) (
          subst (HasFault before.read_faults) reads (fault_later before.read_faults n.read_before n.read_after earlier later cause.0),
          part_devised (so_far config (device_in_life config seed boot) ahead before.holds after.holds cause.1),
        )
    not_devised serve.WriteFault cause t =
        subst IsTheFault (sym t) (subst (λ m. HasFault m after.write_faults) wrote (subst (HasFault n.written_before) writes cause.0), part_devised cause.1)
    not_devised serve.TooLong cause t = subst IsTheFault (sym t) (whole_devised TooLong cause)
    not_devised (serve.BadFrame at) cause t = subst IsTheFault (sym t) (whole_devised (Bad at) cause)
    not_devised serve.OutOfMemory cause t = subst IsTheFault (sym t) cause
    not_devised (serve.Responder refused) cause t = absurd t
