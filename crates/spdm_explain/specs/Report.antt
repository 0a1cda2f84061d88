-- What is reported of a text: that it is good, or its first bad line. This project's own.
use Rattle.std.specs.Prelude.{ℕ, List, [], ◌∷◌, ◌++◌, ◌≡◌, codes, bytes_eq, if◌then◌else◌, Option, Some, None, Result, Ok, Err}
use Rattle.std.specs.Fmt.{decimal}
use Rattle.script_text.specs.ConfigText.{config_in}
use Rattle.script_text.specs.PolicyText.{policy_in}
use Rattle.script_text.specs.ScriptText.{script_in, capture_in, lives_in}
use Rattle.script_text.specs.declared.texts.faults.LineFault.TheVariants.{TooManyEvents}
use Rattle.script_text.specs.declared.texts.faults.ScriptFault.{ScriptFault}
use Rattle.script_text.specs.declared.texts.faults.ScriptFault.TheVariants as fault
use Rattle.spdm_explain.specs.Help.{name_of, help_of}
use Rattle.spdm_explain.specs.declared.form.Form.{Form}
use Rattle.spdm_explain.specs.declared.form.Form.TheVariants as form
use Rattle.spdm_explain.specs.declared.report.Report.{Report}
use Rattle.spdm_explain.specs.declared.report.Report.TheVariants.{Good, Bad, OutOfMemory}

-- The form of a text by its word.
unfoldable pub form_in : List ℕ → Option Form
form_in word =
    if bytes_eq word (codes "script") then Some form.Script
    else (if bytes_eq word (codes "capture") then Some form.Capture
    else (if bytes_eq word (codes "config") then Some form.Config
    else (if bytes_eq word (codes "lives") then Some form.Lives
    else (if bytes_eq word (codes "policy") then Some form.Policy
    else None))))

-- What the answer of a reader comes to.
abbrev pub report_of : {V : Type 0} → Result V ScriptFault → Report
report_of (Ok _) = Good
report_of (Err (fault.Line line f)) = Bad line f
report_of (Err (fault.TooManyEvents line)) = Bad line TooManyEvents
report_of (Err fault.OutOfMemory) = OutOfMemory

-- What is reported of a text of a form. The lines of a policy are counted from 1.
abbrev pub said_of : Form → List ℕ → Report
said_of form.Script text = report_of (script_in text)
said_of form.Capture text = report_of (capture_in text)
said_of form.Config text = report_of (config_in text)
said_of form.Lives text = report_of (lives_in text)
said_of form.Policy text = report_of (policy_in 1 text)

-- What is written: `good`, or the line with the name of its fault, and the help.
unfoldable pub report_text : Report → List ℕ
report_text Good = codes "good\n"
report_text (Bad line f) = codes "line " ++ decimal line ++ codes ": " ++ name_of f ++ 10 ∷ [] ++ help_of f ++ 10 ∷ []
report_text OutOfMemory = []

-- A report is the right one; allocation failure says nothing.
abbrev pub IsTold : Report → Report → Type 0
IsTold said Good = said ≡ Good
IsTold said (Bad line f) = said ≡ Bad line f
IsTold said OutOfMemory = Unit {0}

-- A report of a bad line.
abbrev pub IsBad : Report → Type 0
IsBad Good = ⊥
IsBad (Bad line f) = Unit {0}
IsBad OutOfMemory = ⊥
