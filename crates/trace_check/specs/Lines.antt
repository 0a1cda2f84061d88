-- The lines of a verdict on a capture. This project's own.
use Rattle.std.specs.Prelude.{ℕ, List, ◌++◌, map}
use Rattle.std.specs.List.{concat}
use Rattle.check_laws.specs.Verdict.{seen_of}
use Rattle.check_laws.specs.declared.verdict.Seen as declared
use Rattle.check_laws.specs.declared.verdict.Verdict.{Verdict}
use Rattle.check_laws.specs.declared.verdict.Verdict.TheVariants as verdict
use Rattle.trace_text.specs.OtherLines.{conforms_text, differs_text, seen_text}
use Rattle.capture_machine.specs.SessionTable.{Seen}

-- An entry of the table: a session with the number of its requester, its id, its stage, its hash, and how many records
-- of it stand in requests and in answers.
abbrev pub entry_text : Seen → List ℕ
entry_text s = seen_text s.requester s.id s.stage s.hash s.sent s.answered

-- The entries of a table, in their order.
abbrev pub entries_text : List declared.Seen → List ℕ
entries_text table = concat (map (λ (s : declared.Seen). entry_text (seen_of s)) table)

-- What conforms is told in a line, with its table after it; what differs, in one line.
abbrev pub verdict_text : Verdict → List ℕ
verdict_text (verdict.Conforms table) = conforms_text ++ entries_text table
verdict_text (verdict.Differs packet why) = differs_text packet why
