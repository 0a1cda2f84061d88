use Rattle.std.proofs.Common.{Option, Result, IfOk, map, subst, sym}
use Rattle.capture_difference.proofs.Conforming.{with_table}
use Rattle.capture_difference.proofs.judging.judge.Goals as goal
use Rattle.capture_difference.proofs.judging.judge.Goals.{in-Conforms, in-Differs+in_ok-byte-in-Differs}
use Rattle.capture_difference.specs.Difference.{IsJudged}
use Rattle.capture_difference.specs.declared.difference.Difference.{Difference}
use Rattle.check_laws.specs.Verdict.{IsVerdict, seen_of}
use Rattle.script_ends.specs.Configured.{configuration_in}
use Rattle.spdm_basis.specs.declared.OutOfMemory.{OutOfMemory}
use Rattle.world_machine.specs.Setup.{Configuration}

pub returns : goal.returns
returns c = λ sound few.
    let w : Configuration = configuration_in c.args.capture.now.config in
    let packets = c.args.capture.now.packets in
    let verdict : IsVerdict w packets c.in_ok-packet.field-0 = c.in_ok-packet.ensures sound few in
    elim c.match-branch-2.branch [
      | in-Conforms b ↦
          subst (λ (r : Result (Option Difference) OutOfMemory). IfOk r (IsJudged w packets)) (sym b.result-is)
          (with_table w packets (map seen_of b.in-Conforms.field-0) (subst (IsVerdict w packets) b.in-Conforms.is verdict))
      | in-Differs+in_ok-byte-in-Differs b ↦
          subst (λ (r : Result (Option Difference) OutOfMemory). IfOk r (IsJudged w packets)) (sym b.result-is)
          (subst (IsVerdict w packets) b.in-Differs.is verdict, b.in_ok-byte-in-Differs.ensures sound few)
    ]
