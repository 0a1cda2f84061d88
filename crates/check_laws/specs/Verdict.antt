-- What a capture comes to, as the program tells it. This project's own.
use Rattle.std.specs.Prelude.{◌≡◌, ℕ, List, map}
use Rattle.check_laws.specs.Judged.{why_of}
use Rattle.check_laws.specs.declared.verdict.Seen as declared
use Rattle.check_laws.specs.declared.verdict.Verdict.{Verdict}
use Rattle.check_laws.specs.declared.verdict.Verdict.TheVariants as verdict
use Rattle.capture_machine.specs.Difference.{IsDifference}
use Rattle.capture_machine.specs.SessionTable.{HasTable, Seen}
use Rattle.world_machine.specs.Setup.{Configuration}

-- An entry of the table as the program tells it.
abbrev pub seen_of : declared.Seen → Seen
seen_of s = record {
  requester = s.requester;
  id = s.id;
  stage = s.stage;
  hash = s.hash;
  sent = s.sent;
  answered = s.answered;
}

-- The capture conforms and has this table, or this packet is its first difference, for this reason.
abbrev pub IsVerdict : Configuration → (packets : List (List ℕ)) → Verdict → Type 0
IsVerdict w packets (verdict.Conforms table) = HasTable w packets (map seen_of table)
IsVerdict w packets (verdict.Differs packet why) = IsDifference w packets packet (why_of why)

-- Two verdicts say the same.
abbrev pub IsSame : Verdict → Verdict → Type 0
IsSame (verdict.Conforms table) (verdict.Conforms other) = map seen_of table ≡ map seen_of other
IsSame (verdict.Differs packet why) (verdict.Differs other because) = (packet ≡ other) × (why_of why ≡ why_of because)
IsSame _ _ = ⊥

-- No capture has two verdicts.
abbrev pub OneVerdict : Type 0
OneVerdict = (w : Configuration) (packets : List (List ℕ)) (one other : Verdict)
    → IsVerdict w packets one → IsVerdict w packets other → IsSame one other
