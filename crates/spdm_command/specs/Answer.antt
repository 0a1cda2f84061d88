-- What the commands write and answer, what they leave, and when. This project's own.
use Rattle.std.specs.Prelude.{◌≡◌, ℕ, List, [], nat_lt, length, if◌then◌else◌, Bool, true, false, Option, Some, None, Result, Ok, Err}
use Rattle.link_world.specs.Worlds.{StandsFor}
use Rattle.link_world.specs.declared.world.World.{World}
use Rattle.script_text.specs.Generator.{generated}
use Rattle.trace_text.specs.OtherLines.{summary_text}
use Rattle.script_text.specs.Reading.{BadLine, bad_line_in}
use Rattle.script_text.specs.ScriptText.{lives_in, script_in}
use Rattle.script_text.specs.ShownText.{shown_in}
use Rattle.script_text.specs.declared.texts.faults.ScriptFault.{ScriptFault}
use Rattle.script_text.specs.declared.texts.faults.ScriptFault.TheVariants as fault
use Rattle.script_text.specs.declared.texts.script.Lives as texts
use Rattle.script_text.specs.declared.texts.script.Script.{Script}
use Rattle.script_laws.specs.Scripts.{full_line, last_world, written_in}
use Rattle.script_run.specs.Lives.{full_in_lives, last_of_lives, written_lives}
use Rattle.spdm_basis.specs.Stream.{IsQuiet}
use Rattle.spdm_show.specs.Shown.{shown_text}
use Rattle.world_machine.specs.Totals.{Totals, totals_of}
use Rattle.spdm_command.specs.declared.outcome.Outcome.{Outcome}
use Rattle.spdm_command.specs.declared.outcome.Outcome.TheVariants.{Done, Usage, Differs, BadFrame, BadScript, BootsSpent, KeeperFault, NoVerdict, ReadFault, WriteFault, OutOfMemory, SeedFault, TooLong, LinkFull, Untrusted}
use Rattle.spdm_command.specs.declared.words.Command.{Command}
use Rattle.spdm_command.specs.declared.words.Command.TheVariants.{Attest, Check, Drive, Serve, ServeKept, Text}
use Rattle.spdm_command.specs.declared.words.TextCommand.{TextCommand}
use Rattle.spdm_command.specs.declared.words.TextCommand.TheVariants.{Gen, Lives, Run, Show}

-- The longest text that is read: 4 MiB.
abbrev pub text_limit : ℕ
text_limit = 4194304

-- ---- What is read.

-- The text that a command reads: what the source has left. One that reads nothing has no bytes to read.
abbrev pub input_of : TextCommand → Option (List ℕ) → Option (List ℕ)
input_of Run left = left
input_of Lives left = left
input_of Show left = left
input_of (Gen seed count) left = Some []

-- Of a command that answers a stream, and of `check`, other clauses tell.
abbrev pub input_by : Option Command → Option (List ℕ) → Option (List ℕ)
input_by None left = left
input_by (Some (Text command)) left = input_of command left
input_by (Some Serve) left = None
input_by (Some ServeKept) left = None
input_by (Some Drive) left = None
input_by (Some Attest) left = None
input_by (Some Check) left = None

-- The command reads.
abbrev pub reads : Option Command → Bool
reads None = false
reads (Some (Text Run)) = true
reads (Some (Text Lives)) = true
reads (Some (Text Show)) = true
reads (Some (Text (Gen seed count))) = false
reads (Some Serve) = true
reads (Some ServeKept) = true
reads (Some Drive) = true
reads (Some Attest) = true
reads (Some Check) = true

-- Where the command reads, the source's count of faults shows none.
abbrev pub IsReadQuietly : Option Command → (before after : ℕ) → Type 0
IsReadQuietly (Some (Text (Gen seed count))) before after = Unit {0}
IsReadQuietly None before after = IsQuiet before after
IsReadQuietly (Some (Text Run)) before after = IsQuiet before after
IsReadQuietly (Some (Text Lives)) before after = IsQuiet before after
IsReadQuietly (Some (Text Show)) before after = IsQuiet before after
IsReadQuietly (Some Serve) before after = IsQuiet before after
IsReadQuietly (Some ServeKept) before after = IsQuiet before after
IsReadQuietly (Some Drive) before after = IsQuiet before after
IsReadQuietly (Some Attest) before after = IsQuiet before after
IsReadQuietly (Some Check) before after = IsQuiet before after

-- ---- What is written.

-- The trace of a script, up to a packet for which the link has no room.
abbrev pub run_text : Result Script ScriptFault → List ℕ
run_text (Ok script) = written_in script
run_text (Err f) = []

-- The traces of lives, one behind the other, up to a packet for which the link of its life has no room.
abbrev pub lives_text : Result texts.Lives ScriptFault → List ℕ
lives_text (Ok lives) = written_lives lives
lives_text (Err f) = []

-- The summary line of a world.
abbrev pub summary_of : (seed count : ℕ) → Totals → List ℕ
summary_of seed count t = summary_text seed count t.packets t.taken t.live

-- The output for a generated script: its summary, and nothing where the link is full.
abbrev pub generated_text : (full : Option ℕ) → List ℕ → List ℕ
generated_text None summary = summary
generated_text (Some line) summary = []

-- The output of a command for a text: that of a script or of lives, the lines of messages, or the summary of a generated script.
abbrev pub output_of : TextCommand → List ℕ → List ℕ
output_of Run text = run_text (script_in text)
output_of Lives text = lives_text (lives_in text)
output_of Show text = shown_text text
output_of (Gen seed count) text = generated_text (full_line (generated seed count)) (summary_of seed count (totals_of (last_world (generated seed count))))

-- The output that the words ask for.
abbrev pub output_by : Option Command → List ℕ → List ℕ
output_by None text = []
output_by (Some (Text command)) text = output_of command text
output_by (Some Serve) text = []
output_by (Some ServeKept) text = []
output_by (Some Drive) text = []
output_by (Some Attest) text = []
output_by (Some Check) text = []

-- ---- Bad lines.

-- The first bad line of a text of a command.
abbrev pub bad_line_of : TextCommand → List ℕ → Option BadLine
bad_line_of Run text = bad_line_in (script_in text)
bad_line_of Lives text = bad_line_in (lives_in text)
bad_line_of Show text = bad_line_in (shown_in text)
bad_line_of (Gen seed count) text = None

abbrev pub bad_line_by : Option Command → List ℕ → Option BadLine
bad_line_by None text = None
bad_line_by (Some (Text command)) text = bad_line_of command text
bad_line_by (Some Serve) text = None
bad_line_by (Some ServeKept) text = None
bad_line_by (Some Drive) text = None
bad_line_by (Some Attest) text = None
bad_line_by (Some Check) text = None

-- ---- A full link.

-- The line of the event of a script that finds the link full, if one does.
abbrev pub full_in : Result Script ScriptFault → Option ℕ
full_in (Ok script) = full_line script
full_in (Err f) = None

-- The line of the event of lives that finds the link of its life full, if one does.
abbrev pub full_of_lives : Result texts.Lives ScriptFault → Option ℕ
full_of_lives (Ok lives) = full_in_lives lives
full_of_lives (Err f) = None

abbrev pub full_of : TextCommand → List ℕ → Option ℕ
full_of Run text = full_in (script_in text)
full_of Lives text = full_of_lives (lives_in text)
full_of Show text = None
full_of (Gen seed count) text = full_line (generated seed count)

abbrev pub full_by : Option Command → List ℕ → Option ℕ
full_by None text = None
full_by (Some (Text command)) text = full_of command text
full_by (Some Serve) text = None
full_by (Some ServeKept) text = None
full_by (Some Drive) text = None
full_by (Some Attest) text = None
full_by (Some Check) text = None

-- This comes of a script alone, of lives or of a generated one.
abbrev pub is_of_scripts : Outcome → Bool
is_of_scripts (LinkFull line) = true
is_of_scripts _ = false

-- The command runs a script, or lives.
abbrev pub runs_script : Option Command → Bool
runs_script (Some (Text Run)) = true
runs_script (Some (Text Lives)) = true
runs_script (Some (Text (Gen seed count))) = true
runs_script _ = false

-- ---- What is answered.

-- The first bad line, else the line at which the link is full, else success.
abbrev pub outcome_for : Option BadLine → Option ℕ → Outcome
outcome_for (Some bad) full = BadScript bad.line bad.fault
outcome_for None (Some line) = LinkFull line
outcome_for None None = Done

-- The answer to a text.
abbrev pub answer_of : TextCommand → List ℕ → Outcome
answer_of command text = if nat_lt text_limit (length text) then TooLong else outcome_for (bad_line_of command text) (full_of command text)

-- The answer to words and a text, where nothing fails and memory does not run out. A stream and a capture are answered elsewhere.
abbrev pub answer_to : Option Command → List ℕ → Outcome
answer_to None text = Usage
answer_to (Some (Text command)) text = answer_of command text
answer_to (Some Serve) text = Usage
answer_to (Some ServeKept) text = Usage
answer_to (Some Drive) text = Usage
answer_to (Some Attest) text = Usage
answer_to (Some Check) text = Usage

-- Nothing is written with this outcome.
abbrev pub writes_nothing : Outcome → Bool
writes_nothing Usage = true
writes_nothing (BadScript line f) = true
writes_nothing ReadFault = true
writes_nothing TooLong = true
writes_nothing SeedFault = true
writes_nothing KeeperFault = true
writes_nothing BootsSpent = true
writes_nothing (Differs packet why) = false
writes_nothing (Untrusted appraisal) = false
writes_nothing NoVerdict = false
writes_nothing Done = false
writes_nothing WriteFault = false
writes_nothing (LinkFull line) = false
writes_nothing (BadFrame at) = false
writes_nothing OutOfMemory = false

-- No line of the text was bad with this outcome.
abbrev pub ran : Outcome → Bool
ran Done = true
ran WriteFault = true
ran (LinkFull line) = true
ran Usage = false
ran (BadScript line f) = false
ran ReadFault = false
ran TooLong = false
ran SeedFault = false
ran KeeperFault = false
ran BootsSpent = false
ran (Differs packet why) = false
ran (Untrusted appraisal) = false
ran NoVerdict = false
ran (BadFrame at) = false
ran OutOfMemory = false

-- ---- What is left.

-- The world of a script, as it is after all its events.
abbrev pub IsLastWorld : Result Script ScriptFault → World → Type 0
IsLastWorld (Ok script) world = StandsFor world (last_world script)
IsLastWorld (Err f) world = ⊥

-- The world after the last of lives.
abbrev pub IsLastOfLives : Result texts.Lives ScriptFault → World → Type 0
IsLastOfLives (Ok lives) world = StandsFor world (last_of_lives lives)
IsLastOfLives (Err f) world = ⊥

-- What is left after a command that is done: a script leaves its last world, also a generated one, lives that of the last, and nothing else changes what was left.
abbrev pub IsLeft : Option Command → List ℕ → (old new : Option World) → Type 0
IsLeft (Some (Text Run)) text old (Some world) = IsLastWorld (script_in text) world
IsLeft (Some (Text Run)) text old None = ⊥
IsLeft (Some (Text Lives)) text old (Some world) = IsLastOfLives (lives_in text) world
IsLeft (Some (Text Lives)) text old None = ⊥
IsLeft (Some (Text (Gen seed count))) text old (Some world) = StandsFor world (last_world (generated seed count))
IsLeft (Some (Text (Gen seed count))) text old None = ⊥
IsLeft (Some (Text Show)) text old new = new ≡ old
IsLeft (Some Serve) text old new = new ≡ old
IsLeft (Some ServeKept) text old new = new ≡ old
IsLeft (Some Drive) text old new = new ≡ old
IsLeft (Some Attest) text old new = new ≡ old
IsLeft (Some Check) text old new = new ≡ old
IsLeft None text old new = new ≡ old
