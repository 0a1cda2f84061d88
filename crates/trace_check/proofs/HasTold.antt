-- What a text was found to be, by what is reported of it.
use Rattle.std.proofs.Common.{◌≡◌, ◌≤◌, ℕ, List, length, subst, Option, Result, Ok}
use Rattle.check_laws.specs.declared.verdict.Verdict.{Verdict}
use Rattle.check_laws.specs.declared.verdict.Verdict.TheVariants as verdict
use Rattle.trace_check.specs.Texts.{IsCheckedText}
use Rattle.script_text.specs.declared.configuration.config_text.TheConstants.{TEXT_LIMIT}
use Rattle.script_text.specs.declared.texts.faults.ScriptFault.{ScriptFault}
use Rattle.spdm_basis.specs.Stream.{Takes}
use Rattle.trace_check.specs.Answers.{HasVerdict, IsAnswered, answer_of}
use Rattle.trace_check.specs.Lines.{verdict_text}

pub judged_text : (text : List ℕ) (x : Result Verdict ScriptFault) (told : Verdict) → length text ≤ TEXT_LIMIT → IsCheckedText text x → x ≡ Ok told → HasVerdict text told
judged_text text x told fits is same = (let c = subst (IsCheckedText text) same is in (c.0, (fits, c.1), c.2))

pub written_text : (text : List ℕ) (old now : Option (List ℕ)) (told : Verdict) → HasVerdict text told → Takes old (verdict_text told) now → IsAnswered text old now (Ok (answer_of told))
written_text text old now (verdict.Conforms table) has wrote = (table, record { has = has; wrote = wrote })
written_text text old now (verdict.Differs packet why) has wrote = record { has = has; wrote = wrote }
