-- A configuration that a text is has its ends in range, and none of them has a fault.
use Rattle.std.proofs.Common.{◌≡◌, ℕ, List, refl, sym, Bool, true, false, Option, Some, None, Ok}
use Rattle.std.specs.Prelude.{replicate}
use Rattle.std.proofs.lemmas.Option.{none-some}
use Rattle.script_text.specs.ConfigText.{after_config_text, after_kind, config_in, config_text_fault, kind_fault}
use Rattle.script_text.specs.Configuring.{config_kind, config_of, nothing_given}
use Rattle.script_text.specs.Lines.{lines_of, word}
use Rattle.script_text.specs.Sound.{IsSoundConfig, are_bytes_in}
use Rattle.script_text.specs.declared.configuration.config.ScriptConfig.{ScriptConfig}
use Rattle.script_text.specs.declared.configuration.config_kind.ConfigKind.{ConfigKind}
use Rattle.script_text.specs.declared.configuration.partial_config.PartialConfig.{PartialConfig}
use Rattle.script_laws.proofs.ConfigRead.{IsRight, nothing_right, config_kept}
use Rattle.script_laws.proofs.EndsRight.{sound_has_no_fault}
use Rattle.script_laws.proofs.ReadLines.{held}
use Rattle.script_laws.proofs.ScriptRead.{given_sound, seeded}
use Rattle.script_laws.specs.Ends.{ConfiguredEndsHaveNoFault, HasNoFault}
use Rattle.spdm_basis.proofs.Options.{both}

kind_kept : (given : PartialConfig) (k : Option ConfigKind) (line : List ℕ) → kind_fault false given k line ≡ None → IsRight false given → IsRight false (after_kind given k line)
kind_kept given None line h right = absurd (none-some _ (sym h))
kind_kept given (Some k) line h right = config_kept false given k line h right

line_kept : (given : PartialConfig) (number : ℕ) (line : List ℕ) → config_text_fault given line ≡ None → IsRight false given → IsRight false (after_config_text given number line)
line_kept given number line h right = kind_kept given (config_kind (word 0 line)) line (both _ _ _ h).1 right

-- with any seed it is in range
pub config_sound : (text : List ℕ) (config : ScriptConfig) (bytes : List ℕ) → are_bytes_in 32 32 bytes ≡ true → config_in text ≡ Ok config → IsSoundConfig (seeded bytes config)
unfolding config_in
config_sound text config bytes size h =
    let last = held config_text_fault after_config_text config_of (IsRight false) line_kept (lines_of text) 1 nothing_given config h (nothing_right false) in
    given_sound last.0 config bytes size last.1 last.2

pub no_configured_end_has_fault : ConfiguredEndsHaveNoFault
no_configured_end_has_fault text config h =
    let bytes = replicate 32 0 in
    let sound = sound_has_no_fault (seeded bytes config) (config_sound text config bytes refl h) in
    record {
      responder = λ own up. sound.responder own (record { part = up.part; known = up.known });
      requester = λ own up. sound.requester own (record { q = up.q; is = up.is; sets_up = up.sets_up });
    }
