-- The text that was read is the one before the stream.
use Rattle.std.proofs.Common.{◌≡◌, ◌≤◌, ℕ, List, length, subst, Option, Ok}
use Rattle.frame_stream.specs.Parts.{IsTextOf}
use Rattle.script_text.specs.ConfigText.{config_in}
use Rattle.script_text.specs.declared.configuration.config.ScriptConfig.{ScriptConfig}
use Rattle.stream_commands.specs.StreamStart.{IsConfigured}
use Rattle.stream_commands.specs.Texts.{text_limit}

pub configured : (left : Option (List ℕ)) (text before : List ℕ) (rest : Option (List ℕ)) (config : ScriptConfig) → IsTextOf left text before rest → length text ≤ text_limit → config_in text ≡ Ok config → IsConfigured config left
configured left text before rest config read within is = λ input e.
    let same = (read input e).0 in
    (subst (λ (t : List ℕ). length t ≤ text_limit) same within, subst (λ (t : List ℕ). config_in t ≡ Ok config) same is)
