-- What holds of the worlds of every script, where no tags agree by chance. This project's own.
use Rattle.std.specs.Prelude.{◌≡◌, ◌==◌, ℕ, List, ◌∷◌, ◌++◌, slice_index, false, Contains, Ok}
use Rattle.script_text.specs.ScriptText.{script_in}
use Rattle.script_text.specs.Sound.{IsSoundConfig}
use Rattle.script_text.specs.declared.events.event.Entry.{Entry}
use Rattle.script_text.specs.declared.texts.script.Script.{Script}
use Rattle.link_world.specs.Events.{happening_of}
use Rattle.requester_machine.specs.Requesting.{Requesting}
use Rattle.responder_machine.specs.Responding.{Connection}
use Rattle.script_ends.specs.Configured.{configuration_in}
use Rattle.script_laws.specs.Given.{IsGivenIn}
use Rattle.script_laws.specs.Refused.{Refuses}
use Rattle.script_laws.specs.Scripts.{entries_in, set_up, world_in}
use Rattle.spdm_agreement.specs.Configured.{IsConfiguration, IsConfigured}
use Rattle.spdm_agreement.specs.Worlds.{HoldsTogether}
use Rattle.spdm_progress.specs.Honest.{AreHonest, NothingWaits}
use Rattle.spdm_progress.specs.Scripts.{CanBeDone, IsQuietWorld, OfEachCommand, WillBeDone}
use Rattle.world_machine.specs.Agreement.{Agreement, DataPrefix, HashesAgree, IsMatched, Matched, SealedOnce}
use Rattle.world_machine.specs.Chance.{NoChance}
use Rattle.world_machine.specs.World.{World, given, new_world}

-- ---- No premise is left on what is set up.

-- What a script sets up keeps all limits that agreement asks for.
abbrev pub ReadSetUpIsConfigured : Type 0
ReadSetUpIsConfigured = (text : List ℕ) (script : Script) → script_in text ≡ Ok script → IsConfiguration (configuration_in script.config) × IsConfigured (set_up script)

-- ---- After each beginning of its events.

-- Of a script: of the world after each beginning of its events, where nothing agreed by chance up to there.
abbrev pub InEachWorldOf : Script → (World → Type 0) → Type 0
InEachWorldOf script Holds = (before behind : List Entry) → script.events ≡ before ++ behind → NoChance (world_in script before).log → Holds (world_in script before)

-- Of the script that a text is, if it is one.
abbrev pub OfScriptIn : List ℕ → (Script → Type 0) → Type 0
OfScriptIn text Holds = (script : Script) → script_in text ≡ Ok script → Holds script

-- Where both ends hold open a session of one id, it is one session.
abbrev pub Agrees : Script → Type 0
Agrees script = InEachWorldOf script Agreement

abbrev pub AgreesIn : List ℕ → Type 0
AgreesIn text = OfScriptIn text Agrees

-- What an end took of application data is the beginning of what the other end sealed.
abbrev pub Delivers : Script → Type 0
Delivers script = InEachWorldOf script DataPrefix

abbrev pub DeliversIn : List ℕ → Type 0
DeliversIn text = OfScriptIn text Delivers

-- A session that a requester opened was opened at the responder, each at another one.
abbrev pub Matches : Script → Type 0
Matches script = InEachWorldOf script Matched

abbrev pub MatchesIn : List ℕ → Type 0
MatchesIn text = OfScriptIn text Matches

-- Where both ends hold a session of one T2 open, they show one hash of it.
abbrev pub ShowsAlike : Script → Type 0
ShowsAlike script = InEachWorldOf script HashesAgree

abbrev pub ShowsAlikeIn : List ℕ → Type 0
ShowsAlikeIn text = OfScriptIn text ShowsAlike

-- No two different records are sealed under one purpose and number.
abbrev pub SealsOnce : Script → Type 0
SealsOnce script = InEachWorldOf script (λ world. SealedOnce world.log)

abbrev pub SealsOnceIn : List ℕ → Type 0
SealsOnceIn text = OfScriptIn text SealsOnce

-- All of it, of each script whose configuration is in range, be it a text or generated.
pub record HoldsOf (script : Script) : Type 0 where
  pub agrees : Agrees script
  pub delivers : Delivers script
  pub matches : Matches script
  pub shows_alike : ShowsAlike script
  pub seals_once : SealsOnce script
  pub refuses : Refuses script

abbrev pub SoundScriptHolds : Type 0
SoundScriptHolds = (script : Script) → IsSoundConfig script.config → HoldsOf script

-- ---- At each packet.

-- Of a script: of each packet that one of its events gives to an end, with the world right before it and the one right
-- after it, where nothing agreed by chance up to there.
abbrev pub AtEachPacket : Script → ((before : World) → (packet : List ℕ) → (after : World) → Type 0) → Type 0
AtEachPacket script Holds = (events : List Entry) (entry : Entry) (behind : List Entry) → script.events ≡ events ++ entry ∷ behind
    → (between : World) (packet : List ℕ) → IsGivenIn (world_in script events) (happening_of entry.event) between packet
    → NoChance (given between packet).after.log → Holds between packet (given between packet).after

-- All five hold right after it.
abbrev pub HoldsAtPackets : Script → Type 0
HoldsAtPackets script = AtEachPacket script (λ before packet after. HoldsTogether after)

-- Where the packet is for a requester: the session that this then holds open, and each that it ever opened, the
-- responder had opened before the packet.
abbrev pub MatchesAtPackets : Script → Type 0
MatchesAtPackets script = AtEachPacket script (λ before packet after.
    (slice_index packet 1 == before.responder.part.eid) ≡ false
    → (a : Requesting) (c : Connection) → Contains after.requesters a → Contains before.responder.connections c
    → c.setup.peer ≡ a.setup.eid → IsMatched a c)

abbrev pub MatchesAtPacketsIn : List ℕ → Type 0
MatchesAtPacketsIn text = OfScriptIn text (λ script. HoldsAtPackets script × MatchesAtPackets script)

-- ---- Honest beginnings.

-- Of a script: after each beginning of its events in which each packet is given to its end once and in order, each
-- command finds no packet waiting, and none waits at the end, where nothing agreed by chance and each command that was
-- answered `ok` could be done, each of these commands is done before the next one, with what it means, and the ends are
-- quiet.
abbrev pub Completes : Script → Type 0
Completes script = (before behind : List Entry) → script.events ≡ before ++ behind
    → AreHonest (new_world (set_up script)) (entries_in before) → NothingWaits (world_in script before)
    → NoChance (world_in script before).log
    → OfEachCommand CanBeDone (new_world (set_up script)) (entries_in before)
    → OfEachCommand WillBeDone (new_world (set_up script)) (entries_in before) × IsQuietWorld (world_in script before)

abbrev pub CompletesIn : List ℕ → Type 0
CompletesIn text = OfScriptIn text Completes
