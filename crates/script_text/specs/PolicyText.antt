-- The text of a policy: rules for measurements, up to the line `go`. This project's own.
use Rattle.std.specs.Prelude.{ℕ, List, [], ◌∷◌, ◌++◌, ◌+◌, ◌==◌, not, codes, bytes_eq, if◌then◌else◌, Bool, Option, Some, None, Result, Ok, Err}
use Rattle.std.specs.List.{list_any}
use Rattle.script_text.specs.HexWords.{is_hex_in, bytes_of, most_bytes}
use Rattle.script_text.specs.Lines.{lines_of, word, has_words, is_passed_over}
use Rattle.script_text.specs.Numbers.{is_number_in, value_of}
use Rattle.script_text.specs.Reading.{line_fault, unless_bad}
use Rattle.script_text.specs.Tests.{first_of_tests}
use Rattle.script_text.specs.declared.texts.faults.LineFault.{LineFault}
use Rattle.script_text.specs.declared.texts.faults.LineFault.TheVariants.{Unknown, Words, Number, Hex, Twice, Incomplete}
use Rattle.script_text.specs.declared.texts.faults.ScriptFault.{ScriptFault}
use Rattle.script_text.specs.declared.texts.faults.ScriptFault.TheVariants.{Line}
use Rattle.script_text.specs.declared.texts.policy_text.RuleKind.{RuleKind}
use Rattle.script_text.specs.declared.texts.policy_text.RuleKind.TheVariants as kind
use Rattle.script_text.specs.declared.texts.rule.Rule.{Rule}
use Rattle.script_text.specs.declared.texts.rule.Rule.TheVariants as rule

-- The index of which a rule speaks.
abbrev pub index_of : Rule → ℕ
index_of (rule.Expect index value_type value) = index
index_of (rule.Skip index) = index

-- A rule speaks of this index.
abbrev pub has_index : ℕ → List Rule → Bool
has_index index rules = list_any (λ (r : Rule). index_of r == index) rules

-- The kind of a line by its first word.
unfoldable pub rule_kind : List ℕ → Option RuleKind
rule_kind word =
    if bytes_eq word (codes "expect") then Some kind.Expect
    else (if bytes_eq word (codes "skip") then Some kind.Skip
    else (if bytes_eq word (codes "go") then Some kind.Go
    else None))

-- ---- `expect INDEX TYPE H`: a block of this index has this type and value; INDEX 1 to 254, TYPE 0 to 255.

unfoldable pub expect_fault : List Rule → List ℕ → Option LineFault
expect_fault rules line = first_of_tests (
    (not (has_words 4 line), Words)
    ∷ (not (is_number_in 1 254 (word 1 line)), Number)
    ∷ (not (is_number_in 0 255 (word 2 line)), Number)
    ∷ (not (is_hex_in 0 most_bytes (word 3 line)), Hex)
    ∷ (has_index (value_of (word 1 line)) rules, Twice)
    ∷ [])

-- ---- `skip INDEX`: a block of this index may be anything.

unfoldable pub skip_fault : List Rule → List ℕ → Option LineFault
skip_fault rules line = first_of_tests (
    (not (has_words 2 line), Words)
    ∷ (not (is_number_in 1 254 (word 1 line)), Number)
    ∷ (has_index (value_of (word 1 line)) rules, Twice)
    ∷ [])

-- ---- `go` alone ends the policy.

abbrev pub is_go : List ℕ → Bool
is_go line = bytes_eq line (codes "go")

unfoldable pub go_fault : List ℕ → Option LineFault
go_fault line = first_of_tests (
    (not (has_words 1 line), Words)
    ∷ [])

-- ---- A line of any kind.

abbrev pub rule_fault : List Rule → Option RuleKind → List ℕ → Option LineFault
rule_fault rules None line = Some Unknown
rule_fault rules (Some kind.Expect) line = expect_fault rules line
rule_fault rules (Some kind.Skip) line = skip_fault rules line
rule_fault rules (Some kind.Go) line = go_fault line

abbrev pub policy_fault : List Rule → List ℕ → Option LineFault
policy_fault rules line = rule_fault rules (rule_kind (word 0 line)) line

abbrev pub after_rule : List Rule → Option RuleKind → List ℕ → List Rule
after_rule rules None line = rules
after_rule rules (Some kind.Expect) line = rules ++ rule.Expect (value_of (word 1 line)) (value_of (word 2 line)) (bytes_of (word 3 line)) ∷ []
after_rule rules (Some kind.Skip) line = rules ++ rule.Skip (value_of (word 1 line)) ∷ []
after_rule rules (Some kind.Go) line = rules

-- Empty lines and comments say nothing.
abbrev pub after_policy : List Rule → List ℕ → List Rule
after_policy rules line = if is_passed_over line then rules else after_rule rules (rule_kind (word 0 line)) line

-- What lines say of which the first has this number. After `go` nothing is read; a text without it misses it at the
-- line after the last.
abbrev pub policy_lines : ℕ → List Rule → List (List ℕ) → Result (List Rule) ScriptFault
policy_lines number rules [] = Err (Line number Incomplete)
policy_lines number rules (line ∷ lines) =
    if is_go line then Ok rules
    else unless_bad number (line_fault policy_fault rules line) (policy_lines (number + 1) (after_policy rules line) lines)

-- The rules that a text is whose first line has this number, or its first bad line.
unfoldable pub policy_in : ℕ → List ℕ → Result (List Rule) ScriptFault
policy_in first text = policy_lines first [] (lines_of text)
