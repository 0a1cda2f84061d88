-- What was parsed of two texts, or their first bad line.
use Rattle.std.proofs.Common.{◌≡◌, ◌∙◌, ℕ, List, ap, sym, Result, Ok, Err}
use Rattle.attest_command.specs.AttestStart.{IsParsed}
use Rattle.attest_command.specs.Text.{line_behind, setting_in, setting_of, with_rules}
use Rattle.attest_command.specs.declared.texts.Texts.{Texts}
use Rattle.script_text.specs.ConfigText.{config_in}
use Rattle.script_text.specs.PolicyText.{policy_in}
use Rattle.script_text.specs.Reading.{IsReading, bad_line_in}
use Rattle.script_text.specs.declared.configuration.config.ScriptConfig.{ScriptConfig}
use Rattle.script_text.specs.declared.texts.faults.ScriptFault.{ScriptFault}
use Rattle.script_text.specs.declared.texts.faults.ScriptFault.TheVariants as script
use Rattle.script_text.specs.declared.texts.rule.Rule.{Rule}
use Rattle.stream_commands.specs.Told.{told_of_text}

-- a configuration that is not taken
pub bad_config : (texts : Texts) (f : ScriptFault) → IsReading (config_in texts.config) (Err f) → IsParsed texts (Err (told_of_text f))
bad_config texts (script.Line line f) is = ap (λ (r : Result ScriptConfig ScriptFault). bad_line_in (setting_of r (policy_in (line_behind texts.config) texts.policy))) is
bad_config texts (script.TooManyEvents line) is = ap (λ (r : Result ScriptConfig ScriptFault). bad_line_in (setting_of r (policy_in (line_behind texts.config) texts.policy))) is
bad_config texts script.OutOfMemory is = tt

-- a policy that is not taken, behind a configuration that is
pub bad_policy : (texts : Texts) (config : ScriptConfig) (first : ℕ) (f : ScriptFault) → config_in texts.config ≡ Ok config → first ≡ line_behind texts.config → IsReading (policy_in first texts.policy) (Err f) → IsParsed texts (Err (told_of_text f))
bad_policy texts config first (script.Line line f) good at is =
    ap (λ (r : Result ScriptConfig ScriptFault). bad_line_in (setting_of r (policy_in (line_behind texts.config) texts.policy))) good
    ∙ ap (λ n. bad_line_in (with_rules config (policy_in n texts.policy))) (sym at)
    ∙ ap (λ (r : Result (List Rule) ScriptFault). bad_line_in (with_rules config r)) is
bad_policy texts config first (script.TooManyEvents line) good at is =
    ap (λ (r : Result ScriptConfig ScriptFault). bad_line_in (setting_of r (policy_in (line_behind texts.config) texts.policy))) good
    ∙ ap (λ n. bad_line_in (with_rules config (policy_in n texts.policy))) (sym at)
    ∙ ap (λ (r : Result (List Rule) ScriptFault). bad_line_in (with_rules config r)) is
bad_policy texts config first script.OutOfMemory good at is = tt

-- both are taken
pub good_texts : (config policy : List ℕ) (setting : ScriptConfig) (first : ℕ) (rules : List Rule) → config_in config ≡ Ok setting → first ≡ line_behind config → policy_in first policy ≡ Ok rules →
    setting_in config policy ≡ Ok (record { config = setting; rules = rules })
good_texts config policy setting first rules good at is =
    ap (λ (r : Result ScriptConfig ScriptFault). setting_of r (policy_in (line_behind config) policy)) good
    ∙ ap (λ n. with_rules setting (policy_in n policy)) (sym at)
    ∙ ap (λ (r : Result (List Rule) ScriptFault). with_rules setting r) is
