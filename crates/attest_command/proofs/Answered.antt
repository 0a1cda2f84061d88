-- What came of the stream behind a beginning.
use Rattle.std.proofs.Common.{◌≡◌, ◌≤◌, ℕ, List, [], length, sym, subst, Option, Some, Ok, Err}
use Rattle.appraise.specs.declared.appraisal.Appraisal.{Appraisal}
use Rattle.attest_command.proofs.Streams.{in_part, so_far, whole, with_verdict}
use Rattle.attest_command.specs.AttestStart.{IsBegun, setting_as}
use Rattle.attest_command.specs.Outcome as outcome
use Rattle.attest_command.specs.Outcome.{IsBegunToAttest, IsSetUp, attesting_command}
use Rattle.attest_command.specs.Text.{stream_in, texts_before}
use Rattle.attest_command.specs.declared.begin.AttestStart.{AttestStart}
use Rattle.attestor.specs.Attesting.{Attesting}
use Rattle.frame_stream.proofs.Fronts.{fault_later}
use Rattle.frame_stream.specs.Frames.{Ending}
use Rattle.frame_stream.specs.Frames.Ending.{Bad, TooLong}
use Rattle.frame_stream.specs.Runs.{Counts}
use Rattle.requester_attest.specs.Attested.{Appraises, HasVerdict, IsAttested, IsAttestedInPart, attesting_in_life}
use Rattle.requester_attest.specs.Standing as attesting
use Rattle.requester_drive.specs.declared.fault.DriveFault.{DriveFault}
use Rattle.requester_drive.specs.declared.fault.DriveFault.TheVariants as drive
use Rattle.spdm_basis.specs.Stream.{HasFault}
use Rattle.stream_commands.specs.Kept.{IsStreamUnread}
use Rattle.stream_commands.specs.Outside.{IsFollowedBy, IsSeeded, Outside}
use Rattle.stream_commands.specs.Told.{IsDriveTold}
use Rattle.stream_commands.specs.declared.fault.StreamFault.{StreamFault}

-- One seed was taken,
pub seeded : (before after : Outside) (begun : AttestStart) (rest : Option (List ℕ)) → IsBegun before.left before.seeds begun rest after.seeds → IsSeeded texts_before before after
seeded before after begun rest is = record { good = (setting_as begun.parsed, is.set); seed = begun.seed; given = is.seed }

-- told of the same bytes,
pub with_bytes : (before after : Outside) (begun : AttestStart) (rest : Option (List ℕ)) (bytes : List ℕ) → bytes ≡ begun.before → IsBegun before.left before.seeds begun rest after.seeds →
    IsBegun before.left before.seeds (record begun { before = bytes }) rest after.seeds
with_bytes before after begun rest bytes same is = subst (λ (l : List ℕ). IsBegun before.left before.seeds (record begun { before = l }) rest after.seeds) (sym same) is

-- and the stream was not, but for what was read with them.
pub unread : (before after : Outside) (begun : AttestStart) → IsBegun before.left before.seeds begun after.left after.seeds → length begun.before ≤ 4096 → IsStreamUnread texts_before before after
unread before after begun is few = λ input e. let behind = is.read input e in (begun.before, behind.0, behind.1, behind.2, few)

-- ---- Where what is ahead is the stream of the input, in the life of a boot number.

module _ (boot : ℕ) (before after : Outside) (begun : AttestStart) (rest ahead : Option (List ℕ)) (a : Attesting) (appraised : List ℕ → Appraisal)
    (is : IsBegun before.left before.seeds begun rest after.seeds)
    (first : attesting_in_life begun.parsed.config begun.parsed.policy begun.seed boot ≡ Some a) (right : Appraises begun.parsed.policy appraised)
    (same : (stream : List ℕ) → stream_in before.left ≡ Some stream → ahead ≡ Some stream) where
  set_up : IsSetUp boot (setting_as begun.parsed) begun.seed a appraised before after
  set_up = record { set = is.set; given = is.seed; first = first; appraises = right }

  -- all of it was followed
  pub all_attested : (verdict : Option Appraisal) → HasVerdict appraised a ahead before.holds after.holds verdict → ((left : List ℕ) → rest ≡ Some left → after.left ≡ Some []) → IsFollowedBy attesting_command boot before after (Ok verdict)
  all_attested verdict done end =
      let own : outcome.HasVerdict boot before after verdict = record {
        setting = setting_as begun.parsed;
        seed = begun.seed;
        requester = a;
        appraised = appraised;
        set_up = set_up;
        attested = with_verdict appraised a (stream_in before.left) ahead before.holds after.holds same verdict done;
      } in
      (own, λ input left. let behind = is.read input left in end behind.0 behind.1)

  begun_part : IsAttestedInPart appraised a ahead before.holds after.holds → IsBegunToAttest boot before after
  begun_part part = record {
    setting = setting_as begun.parsed;
    seed = begun.seed;
    requester = a;
    appraised = appraised;
    set_up = set_up;
    attested = in_part appraised a (stream_in before.left) ahead before.holds after.holds same part;
  }

  whole_frames : (ending : Ending) → IsAttested appraised a ahead before.holds after.holds ending → outcome.IsAttested boot before after ending
  whole_frames ending done = record {
    setting = setting_as begun.parsed;
    seed = begun.seed;
    requester = a;
    appraised = appraised;
    set_up = set_up;
    attested = whole appraised a (stream_in before.left) ahead before.holds after.holds same ending done;
  }

  -- or its fault is that of the command
  module _ (n : Counts) (told : StreamFault) (earlier : before.read_faults ≤ n.read_before) (later : n.read_before ≤ n.read_after)
      (reads : n.read_after ≡ after.read_faults) (wrote : n.written_before ≡ before.write_faults) (writes : n.written_after ≡ after.write_faults) where
    abbrev IsTheFault : StreamFault → Type 0
    IsTheFault f = IsFollowedBy attesting_command boot before after (Err f)

    pub not_attested : (f : DriveFault) → attesting.IsCause appraised a ahead before.holds after.holds n f → IsDriveTold f told →
        IsFollowedBy attesting_command boot before after (Err told)
    not_attested drive.ReadFault cause t =
        subst IsTheFault (sym t) (
          subst (HasFault before.read_faults) reads (fault_later before.read_faults n.read_before n.read_after earlier later cause.0),
          begun_part (so_far appraised a ahead before.holds after.holds cause.1),
        )
    not_attested drive.WriteFault cause t =
        subst IsTheFault (sym t) (subst (λ m. HasFault m after.write_faults) wrote (subst (HasFault n.written_before) writes cause.0), begun_part cause.1)
    not_attested drive.TooLong cause t = subst IsTheFault (sym t) (whole_frames TooLong cause)
    not_attested (drive.BadFrame at) cause t = subst IsTheFault (sym t) (whole_frames (Bad at) cause)
    not_attested drive.OutOfMemory cause t = subst IsTheFault (sym t) cause
    not_attested (drive.Requester refused) cause t = absurd t
