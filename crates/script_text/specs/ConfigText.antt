-- The text of a configuration: lines up to `end`, after which only comments and empty lines stand. This project's own.
use Rattle.std.specs.Prelude.{ℕ, List, if◌then◌else◌, Bool, false, Option, Some, None, Result}
use Rattle.script_text.specs.Configuring.{config_kind, config_fault, after_config, config_of, nothing_given}
use Rattle.script_text.specs.Lines.{lines_of, word}
use Rattle.script_text.specs.Reading.{read_lines}
use Rattle.script_text.specs.declared.configuration.config.ScriptConfig.{ScriptConfig}
use Rattle.script_text.specs.declared.configuration.config_kind.ConfigKind.{ConfigKind}
use Rattle.script_text.specs.declared.texts.faults.LineFault.{LineFault}
use Rattle.script_text.specs.declared.texts.faults.LineFault.TheVariants.{Unknown, Order}
use Rattle.script_text.specs.declared.texts.faults.ScriptFault.{ScriptFault}
use Rattle.script_text.specs.declared.configuration.partial_config.PartialConfig.{PartialConfig}

abbrev pub kind_fault : Bool → PartialConfig → Option ConfigKind → List ℕ → Option LineFault
kind_fault needs_seed given None line = Some Unknown
kind_fault needs_seed given (Some kind) line = config_fault needs_seed given kind line

-- A line after `end` stands there whatever its words.
abbrev pub config_text_fault : PartialConfig → List ℕ → Option LineFault
config_text_fault given line = if given.ended then Some Order else kind_fault false given (config_kind (word 0 line)) line

abbrev pub after_kind : PartialConfig → Option ConfigKind → List ℕ → PartialConfig
after_kind given None line = given
after_kind given (Some kind) line = after_config given kind line

abbrev pub after_config_text : PartialConfig → ℕ → List ℕ → PartialConfig
after_config_text given number line = after_kind given (config_kind (word 0 line)) line

-- The configuration that a text is, or its first bad line.
unfoldable pub config_in : List ℕ → Result ScriptConfig ScriptFault
config_in text = read_lines config_text_fault after_config_text config_of 1 nothing_given (lines_of text)
