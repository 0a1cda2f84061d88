-- What came of a stream that drives a requester, behind its beginning.
use Rattle.std.proofs.Common.{◌≡◌, ◌∙◌, ◌≤◌, ◌∷◌, ℕ, List, [], sym, subst, arith, Option, Some, Ok, Err, Contains}
use Rattle.std.proofs.lemmas.Option.{none-some, same_Some}
use Rattle.frame_stream.proofs.Fronts.{fault_later}
use Rattle.frame_stream.specs.Frames.{Ending}
use Rattle.frame_stream.specs.Frames.Ending.{Bad, Done, TooLong}
use Rattle.frame_stream.specs.Runs.{Counts}
use Rattle.requester_drive.specs.Driven.{IsDriven, IsDrivenInPart}
use Rattle.requester_drive.specs.First.{first_in_life, first_of}
use Rattle.requester_drive.specs.Standing as driving
use Rattle.requester_drive.specs.Told.{IsRefusal}
use Rattle.requester_drive.specs.declared.fault.DriveFault.{DriveFault}
use Rattle.requester_drive.specs.declared.fault.DriveFault.TheVariants as drive
use Rattle.requester_machine.specs.Requesting.{Requesting}
use Rattle.script_text.specs.declared.configuration.config.ReqPart.{ReqPart}
use Rattle.script_text.specs.declared.configuration.config.ScriptConfig.{ScriptConfig}
use Rattle.script_laws.specs.Ends.{HasNoFault}
use Rattle.spdm_basis.specs.Stream.{HasFault}
use Rattle.stream_commands.proofs.Begun.{read_to_end, set_up}
use Rattle.stream_commands.proofs.Streams.{driven, driven_in_part, driven_so_far}
use Rattle.stream_commands.specs.StreamStart.{IsBegun, stream_in}
use Rattle.stream_commands.specs.Driven as outcome
use Rattle.stream_commands.specs.Driven.{IsBegunToDrive, driving_command}
use Rattle.stream_commands.specs.Outside.{IsFollowedBy, Outside}
use Rattle.stream_commands.specs.Told.{IsDriveTold, IsOfDriving}
use Rattle.stream_commands.specs.declared.begin.StreamStart.{StreamStart}
use Rattle.stream_commands.specs.declared.fault.StreamFault.{StreamFault}

first_in : (qs : List ReqPart) (q : ReqPart) → first_of qs ≡ Some q → Contains qs q
first_in [] q is = absurd (none-some q is)
first_in (x ∷ qs) q is = (0, omega arith, same_Some x q is)

-- a configuration without a fault is not refused
pub of_driving : (c : ScriptConfig) (f : DriveFault) → HasNoFault c → IsRefusal c f → IsOfDriving f
of_driving c drive.ReadFault none refused = tt
of_driving c drive.WriteFault none refused = tt
of_driving c drive.TooLong none refused = tt
of_driving c (drive.BadFrame at) none refused = tt
of_driving c drive.OutOfMemory none refused = tt
of_driving c (drive.Requester own) none refused =
    absurd (none-some own (sym (none.requester refused.has.config (record { q = refused.q; is = first_in c.requesters refused.q refused.first; sets_up = refused.has.sets_up })) ∙ refused.has.is))

-- ---- After a beginning, where what is ahead is the stream of the input, in the life of a boot number.

module _ (boot : ℕ) (before after : Outside) (begun : StreamStart) (rest ahead : Option (List ℕ)) (a : Requesting) (first : first_in_life begun.config begun.seed boot ≡ Some a)
    (is : IsBegun before.left before.seeds begun rest after.seeds) (same : (stream : List ℕ) → stream_in before.left ≡ Some stream → ahead ≡ Some stream) where
  -- all whole frames were followed
  whole_driven : (ending : Ending) → IsDriven begun.config a ahead before.holds after.holds ending → outcome.IsDriven boot before after ending
  whole_driven ending done = record {
    config = begun.config;
    seed = begun.seed;
    set_up = set_up before after begun rest is;
    requester = a;
    first = first;
    driven = driven begun.config a (stream_in before.left) ahead before.holds after.holds ending same done;
  }

  -- a part of what they led to was written
  part_driven : IsDrivenInPart begun.config a ahead before.holds after.holds → IsBegunToDrive boot before after
  part_driven part = record {
    config = begun.config;
    seed = begun.seed;
    set_up = set_up before after begun rest is;
    requester = a;
    first = first;
    driven = driven_in_part begun.config a (stream_in before.left) ahead before.holds after.holds same part;
  }

  -- All of it was followed,
  pub all_driven : IsDriven begun.config a ahead before.holds after.holds Done → ((left : List ℕ) → rest ≡ Some left → after.left ≡ Some []) → IsFollowedBy driving_command boot before after (Ok tt)
  all_driven done end = (whole_driven Done done, read_to_end before after begun rest is end)

  -- or its fault is that of the command.
  module _ (n : Counts) (told : StreamFault) (earlier : before.read_faults ≤ n.read_before) (later : n.read_before ≤ n.read_after)
      (reads : n.read_after ≡ after.read_faults) (wrote : n.written_before ≡ before.write_faults) (writes : n.written_after ≡ after.write_faults) where
    abbrev IsTheFault : StreamFault → Type 0
    IsTheFault f = IsFollowedBy driving_command boot before after (Err f)

    pub not_driven : (f : DriveFault) → driving.IsCause begun.config a ahead before.holds after.holds n f → IsDriveTold f told → IsFollowedBy driving_command boot before after (Err told)
    not_driven drive.ReadFault cause t =
        subst IsTheFault (sym t) (
          subst (HasFault before.read_faults) reads (fault_later before.read_faults n.read_before n.read_after earlier later cause.0),
          part_driven (driven_so_far begun.config a ahead before.holds after.holds cause.1),
        )
    not_driven drive.WriteFault cause t =
        subst IsTheFault (sym t) (subst (λ m. HasFault m after.write_faults) wrote (subst (HasFault n.written_before) writes cause.0), part_driven cause.1)
    not_driven drive.TooLong cause t = subst IsTheFault (sym t) (whole_driven TooLong cause)
    not_driven (drive.BadFrame at) cause t = subst IsTheFault (sym t) (whole_driven (Bad at) cause)
    not_driven drive.OutOfMemory cause t = subst IsTheFault (sym t) cause
    not_driven (drive.Requester refused) cause t = absurd t
