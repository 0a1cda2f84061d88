-- Each beginning of the lives of a text is lives of the same ends.
use Rattle.std.proofs.Common.{◌≡◌, ◌∙◌, ◌+◌, ◌≤◌, ◌++◌, ℕ, List, [], ◌∷◌, length, refl, sym, ap, subst, arith, Ok}
use Rattle.std.proofs.lemmas.List.{length-append}
use Rattle.lives_laws.specs.TextLives.{IsNewest, LivesApartIn, LivesHoldIn, NewestIsRunIn, begun_with, lives_begun}
use Rattle.script_ends.specs.Configured.{configuration_in}
use Rattle.script_laws.proofs.SetUpRight.{is_configuration}
use Rattle.script_laws.specs.Scripts.{entries_in, seed_in}
use Rattle.script_run.proofs.LivesRead.{AreInRange, lives_sound}
use Rattle.script_run.specs.Lives.{life_world}
use Rattle.script_text.specs.declared.configuration.config.ScriptConfig.{ScriptConfig}
use Rattle.script_text.specs.declared.events.event.Entry.{Entry}
use Rattle.script_text.specs.declared.texts.script.Life.{Life}
use Rattle.script_text.specs.declared.texts.script.Lives.{Lives}
use Rattle.spdm_agreement.specs.Configured.{IsConfiguration, boot_most}
use Rattle.spdm_lives.proofs.LivesHold.{text_lives_hold, text_transcripts_apart}
use Rattle.spdm_lives.specs.Lives.{Booted, booted_from, script_lives}

begun_long : (whole : List Life) (events : List Entry) → length (begun_with whole events) ≡ length whole + 1
begun_long [] events = refl
begun_long (life ∷ others) events = let e = begun_long others events in omega (arith, e)

-- A text has fewer lives than there are boot numbers.
few : (lives : Lives) → AreInRange lives → (whole : List Life) (life : Life) (later : List Life) (events : List Entry) → lives.lives ≡ whole ++ life ∷ later
    → length (begun_with whole events) ≤ boot_most
few lives sound whole life later events is =
    let most = sound.few in
    let all = ap length is in
    let parts = length-append whole (life ∷ later) in
    let own = begun_long whole events in
    omega (arith, most, all, parts, own)

configured : (lives : Lives) → AreInRange lives → IsConfiguration (configuration_in lives.config)
configured lives sound = is_configuration lives.config sound.config

pub lives_hold : (text : List ℕ) → LivesHoldIn text
lives_hold text lives is whole life later events rest parts begun chance =
    let sound = lives_sound text lives is in
    text_lives_hold (configuration_in lives.config) (seed_in lives.config) (begun_with whole events) (configured lives sound) (few lives sound whole life later events parts) chance

pub lives_are_apart : (text : List ℕ) → LivesApartIn text
lives_are_apart text lives is whole life later events rest parts begun =
    let sound = lives_sound text lives is in
    text_transcripts_apart (configuration_in lives.config) (seed_in lives.config) (begun_with whole events) (configured lives sound) (few lives sound whole life later events parts)

-- ---- The newest life.

-- It has the boot number behind those of the lives before it.
newest_from : (c : ScriptConfig) (boot : ℕ) (whole : List Life) (events : List Entry) (before : List Booted)
    → IsNewest (life_world c (boot + length whole) events) (script_lives (configuration_in c) (seed_in c) (booted_from boot (begun_with whole events) before))
newest_from c boot [] events before =
    let e : boot ≡ boot + 0 = omega arith in
    ap (λ (b : ℕ). life_world c b events) e
newest_from c boot (life ∷ others) events before =
    let e : (boot + 1) + length others ≡ boot + length (life ∷ others) = omega arith in
    let now : List Booted = record { boot = boot; entries = entries_in life.events } ∷ before in
    subst (λ (b : ℕ). IsNewest (life_world c b events) (script_lives (configuration_in c) (seed_in c) (booted_from (boot + 1) (begun_with others events) now))) e
    (newest_from c (boot + 1) others events now)

pub newest_is_run : (text : List ℕ) → NewestIsRunIn text
newest_is_run text lives is whole life later events rest parts begun =
    let e : 1 + length whole ≡ length whole + 1 = omega arith in
    subst (λ (b : ℕ). IsNewest (life_world lives.config b events) (lives_begun lives.config whole events)) e (newest_from lives.config 1 whole events [])
