-- What a script sets up is a configured world, so all that holds of those holds of it.
use Rattle.std.proofs.Common.{◌≡◌, ◌≤◌, ℕ, List, length, ap, arith, Ok}
use Rattle.std.proofs.lemmas.List.{length-append, length-map}
use Rattle.script_text.specs.ScriptText.{script_in}
use Rattle.script_text.specs.Sound.{IsSoundConfig}
use Rattle.script_text.specs.declared.events.event.Entry.{Entry}
use Rattle.script_text.specs.declared.texts.script.Script.{Script}
use Rattle.script_laws.proofs.FewEvents.{few_events}
use Rattle.script_laws.proofs.RefusedRight.{script_refuses}
use Rattle.script_laws.proofs.ScriptRead.{script_sound}
use Rattle.script_laws.proofs.SetUpRight.{is_configuration}
use Rattle.script_ends.specs.Configured.{configuration_in}
use Rattle.script_laws.specs.Scripts.{entries_in, entry_in, seed_in, set_up, world_in}
use Rattle.script_laws.specs.Worlds.{AgreesIn, Completes, CompletesIn, DeliversIn, HoldsOf, MatchesIn, ReadSetUpIsConfigured, SealsOnceIn, ShowsAlikeIn, SoundScriptHolds}
use Rattle.spdm_agreement.proofs.Worlds.Scripts.{scripts_are_configured, scripts_hold}
use Rattle.spdm_agreement.specs.Configured.{IsConfiguration, boot_most}
use Rattle.spdm_agreement.specs.Worlds.{HoldsTogether}
use Rattle.spdm_progress.proofs.ScriptsComplete.{honest_scripts_complete}
use Rattle.world_machine.specs.Chance.{NoChance}

one_life : 0 ≤ boot_most
one_life = omega arith

pub configured : ReadSetUpIsConfigured
configured text script read =
    let right = is_configuration script.config (script_sound text script read).0 in
    (right, scripts_are_configured (configuration_in script.config) (seed_in script.config) 0 right one_life)

holds : (script : Script) → IsSoundConfig script.config → (before : List Entry) → NoChance (world_in script before).log → HoldsTogether (world_in script before)
holds script sound before chance =
    scripts_hold (configuration_in script.config) (seed_in script.config) 0 (is_configuration script.config sound) one_life (entries_in before) chance

pub sound_holds : SoundScriptHolds
sound_holds script sound = record {
  agrees = λ before behind is chance. (holds script sound before chance).agreement;
  delivers = λ before behind is chance. (holds script sound before chance).data_prefix;
  matches = λ before behind is chance. (holds script sound before chance).matched;
  shows_alike = λ before behind is chance. (holds script sound before chance).hashes_agree;
  seals_once = λ before behind is chance. (holds script sound before chance).sealed_once;
  refuses = script_refuses script;
}

read_holds : (text : List ℕ) (script : Script) → script_in text ≡ Ok script → HoldsOf script
read_holds text script read = sound_holds script (script_sound text script read).0

pub agrees : (text : List ℕ) → AgreesIn text
agrees text script read = (read_holds text script read).agrees

pub delivers : (text : List ℕ) → DeliversIn text
delivers text script read = (read_holds text script read).delivers

pub matches : (text : List ℕ) → MatchesIn text
matches text script read = (read_holds text script read).matches

pub shows_alike : (text : List ℕ) → ShowsAlikeIn text
shows_alike text script read = (read_holds text script read).shows_alike

pub seals_once : (text : List ℕ) → SealsOnceIn text
seals_once text script read = (read_holds text script read).seals_once

-- ---- Honest beginnings.

completes_of : (script : Script) → IsSoundConfig script.config → length script.events ≤ 100000 → Completes script
completes_of script sound few before behind is honest still chance can =
    let configured = scripts_are_configured (configuration_in script.config) (seed_in script.config) 0 (is_configuration script.config sound) one_life in
    let all = length-append before behind in
    let whole = ap length is in
    let entries = length-map before entry_in in
    honest_scripts_complete (set_up script) configured (entries_in before) (omega (arith, few, all, whole, entries)) honest still chance can

pub completes : (text : List ℕ) → CompletesIn text
completes text script read = completes_of script (script_sound text script read).0 (few_events text script read)
