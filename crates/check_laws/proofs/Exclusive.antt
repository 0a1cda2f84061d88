-- A capture that conforms has no first difference, so no capture has two verdicts.
use Rattle.std.proofs.Common.{ℕ, List, sym, subst, take, drop}
use Rattle.std.proofs.lemmas.List.{take-append-drop}
use Rattle.check_laws.specs.Judged.{why_of}
use Rattle.check_laws.specs.Verdict.{OneVerdict, seen_of}
use Rattle.check_laws.specs.declared.verdict.Verdict.TheVariants as verdict
use Rattle.std.specs.Prelude.{map}
use Rattle.capture_machine.specs.Capture.{BeginningConforms, Conforms}
use Rattle.capture_machine.specs.Difference.{IsDifference, OneReason, Why}
use Rattle.capture_machine.specs.SessionTable.{ConformingHasTable, HasTable, OneTable, Seen}
use Rattle.world_machine.specs.Setup.{Configuration}

not_both : BeginningConforms → ConformingHasTable → (w : Configuration) (packets : List (List ℕ)) (table : List Seen) (number : ℕ) (why : Why) → HasTable w packets table → IsDifference w packets number why → ⊥
not_both begins tables w packets table number why has is =
    let all : Conforms w packets = (tables w packets).1 table has in
    is.first.at (begins w (take number packets) (drop number packets) (subst (Conforms w) (sym (take-append-drop number packets)) all))

pub one_verdict : BeginningConforms → ConformingHasTable → OneTable → OneReason → OneVerdict
one_verdict begins tables table reason w packets (verdict.Conforms one) (verdict.Conforms other) is are = table w packets (map seen_of one) (map seen_of other) is are
one_verdict begins tables table reason w packets (verdict.Differs number why) (verdict.Differs other because) is are = reason w packets number other (why_of why) (why_of because) is are
one_verdict begins tables table reason w packets (verdict.Conforms one) (verdict.Differs number why) is are = absurd (not_both begins tables w packets (map seen_of one) number (why_of why) is are)
one_verdict begins tables table reason w packets (verdict.Differs number why) (verdict.Conforms one) is are = absurd (not_both begins tables w packets (map seen_of one) number (why_of why) are is)
