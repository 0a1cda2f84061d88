-- Lives that a text is have their configuration in range; they are one at least, and at most 100,001.
use Rattle.std.proofs.Common.{◌≡◌, ◌∙◌, ◌+◌, ◌<◌, ◌≤◌, ◌++◌, ◌&&◌, ℕ, List, [], ◌∷◌, length, refl, sym, ap, subst, Bool, true, false, arith, Option, Some, None, Ok}
use Rattle.std.specs.Option.{option_map, unwrap_or}
use Rattle.std.specs.Prelude.{if◌then◌else◌, is_none, not}
use Rattle.std.proofs.lemmas.Bool.{false≢true, leb-false}
use Rattle.std.proofs.lemmas.List.{length-append}
use Rattle.std.proofs.lemmas.Option.{none-some}
use Rattle.script_laws.proofs.ConfigRead.{IsRight, config_kept, nothing_right, of_some}
use Rattle.script_laws.proofs.ReadLines.{held}
use Rattle.script_laws.proofs.ScriptRead.{given_sound, seeded}
use Rattle.script_text.specs.Configuring.{config_kind, config_of, config_with, nothing_given}
use Rattle.script_text.specs.EventLines.{event_fault, event_kind, event_of}
use Rattle.script_text.specs.Lines.{has_words, lines_of, word}
use Rattle.script_text.specs.ScriptText.{after_lives, after_lives_event, after_lives_kind, cycle_fault, is_cycle, is_full, lives_event_fault, lives_fault, lives_in, lives_kind_fault, lives_with, no_lives, or_too_many, present_life, whole_lives}
use Rattle.script_text.specs.Sound.{IsSoundConfig, are_bytes_in}
use Rattle.script_text.specs.declared.configuration.config.ScriptConfig.{ScriptConfig}
use Rattle.script_text.specs.declared.configuration.config_kind.ConfigKind.{ConfigKind}
use Rattle.script_text.specs.declared.configuration.partial_config.PartialConfig.{PartialConfig}
use Rattle.script_text.specs.declared.configuration.partial_config.RspLine.{RspLine}
use Rattle.script_text.specs.declared.events.event_kind.EventKind.{EventKind}
use Rattle.script_text.specs.declared.texts.faults.LineFault.{LineFault}
use Rattle.script_text.specs.declared.texts.faults.LineFault.TheVariants.{Order, TooManyEvents, Unknown, Words}
use Rattle.script_text.specs.declared.texts.lives_text.LivesReader.{LivesReader}
use Rattle.script_text.specs.declared.texts.script.Life.{Life}
use Rattle.script_text.specs.declared.texts.script.Lives.{Lives}
use Rattle.spdm_basis.proofs.Options.{both}

-- ---- Every line keeps it.

record IsRead (reader : LivesReader) : Type 0 where
  given : IsRight true reader.given
  earlier : length reader.earlier ≤ reader.count
  count : reader.count ≤ 100000

-- where an event has no fault there is room for it
not_full : (count : ℕ) (own : Option LineFault) → or_too_many count own ≡ None → is_full count ≡ false
not_full count (Some f) is = absurd (none-some f (sym is))
not_full count None is = (both _ _ _ is).0

-- a line that is no event is a cycle
is_other : (b : Bool) (cycle : Option LineFault) → (if b then cycle else Some Unknown) ≡ None → cycle ≡ None
is_other true cycle is = is
is_other false cycle is = absurd (none-some Unknown (sym is))

cycle_room : (reader : LivesReader) (line : List ℕ) → cycle_fault reader line ≡ None → is_full reader.count ≡ false
unfolding cycle_fault
cycle_room reader line is =
    let a = both (not reader.given.ended) Order _ is in
    let b = both (not (has_words 1 line)) Words _ a.1 in
    (both (is_full reader.count) TooManyEvents None b.1).0

event_kept : (reader : LivesReader) (number : ℕ) (kind : Option EventKind) (line : List ℕ) → lives_event_fault reader kind line ≡ None → IsRead reader → IsRead (after_lives_event reader number kind line)
event_kept reader number None line is read =
    let room = leb-false 100000 reader.count (cycle_room reader line (is_other (is_cycle (word 0 line)) (cycle_fault reader line) is)) in
    let longer = length-append reader.earlier (present_life reader ∷ []) in
    let few = read.earlier in
    record { given = read.given; earlier = omega (arith, longer, few); count = omega (arith, room) }
event_kept reader number (Some kind) line is read =
    let own = (both _ _ _ is).1 in
    let room = leb-false 100000 reader.count (not_full reader.count (event_fault (length reader.given.requesters) kind line) own) in
    let few = read.earlier in
    record { given = read.given; earlier = omega (arith, few); count = omega (arith, room) }

kind_kept : (reader : LivesReader) (number : ℕ) (kind : Option ConfigKind) (line : List ℕ) → lives_kind_fault reader kind line ≡ None → IsRead reader → IsRead (after_lives_kind reader number kind line)
kind_kept reader number None line is read = event_kept reader number (event_kind line) line is read
kind_kept reader number (Some kind) line is read = record { given = config_kept true reader.given kind line is read.given; earlier = read.earlier; count = read.count }

line_kept : (reader : LivesReader) (number : ℕ) (line : List ℕ) → lives_fault reader line ≡ None → IsRead reader → IsRead (after_lives reader number line)
line_kept reader number line is read = kind_kept reader number (config_kind (word 0 line)) line is read

-- ---- What was read.

by_end : (ended : Bool) (o : Option ScriptConfig) (config : ScriptConfig) → (if ended then o else None) ≡ Some config → (ended ≡ true) × (o ≡ Some config)
by_end true o config is = (refl, is)
by_end false o config is = absurd (none-some config is)

seed_is : (given : PartialConfig) (o : Option RspLine) (config : ScriptConfig) → config_with o given ≡ Some config → given.seed ≡ config.seed
seed_is given None config is = absurd (none-some config is)
seed_is given (Some r) config is = ap (λ (o : Option ScriptConfig). (unwrap_or o config).seed) is

with_seed : (given : PartialConfig) (config : ScriptConfig) (o : Option (List ℕ)) → given.seed ≡ o → o ≡ config.seed → is_none o ≡ false → of_some (are_bytes_in 32 32) o ≡ true → config_of given ≡ Some config →
    IsRight true given → IsSoundConfig config
with_seed given config None same own some sound is right = absurd (false≢true (sym some))
with_seed given config (Some bytes) same own some sound is right =
    subst (λ (o : Option (List ℕ)). IsSoundConfig (record config { seed = o })) own
    (given_sound given config bytes sound is (record {
      seed = right.seed;
      opaque = right.opaque;
      responder = right.responder;
      apart = right.apart;
      blocks = right.blocks;
      requesters = right.requesters;
      whole = λ ended. let whole = right.whole ended in record { seed = refl; responder = whole.responder; some = whole.some };
    }))

config_sound : (given : PartialConfig) (config : ScriptConfig) → config_of given ≡ Some config → IsRight true given → IsSoundConfig config
config_sound given config is right =
    let ended = by_end given.ended (config_with given.responder given) config is in
    with_seed given config given.seed refl (seed_is given given.responder config ended.1) (right.whole ended.0).seed right.seed is right

whole_is : (all : List Life) (o : Option ScriptConfig) (lives : Lives) → option_map (lives_with all) o ≡ Some lives → (o ≡ Some lives.config) × (all ≡ lives.lives)
whole_is all None lives is = absurd (none-some lives is)
whole_is all (Some config) lives is =
    let same : lives_with all config ≡ lives = ap (λ (o : Option Lives). unwrap_or o (lives_with all config)) is in
    (ap (λ (l : Lives). Some l.config) same, ap (λ (l : Lives). l.lives) same)

-- Lives of a text.
pub record AreInRange (lives : Lives) : Type 0 where
  pub config : IsSoundConfig lives.config
  pub some : 0 < length lives.lives
  pub few : length lives.lives ≤ 100001

reader_sound : (reader : LivesReader) (lives : Lives) → whole_lives reader ≡ Some lives → IsRead reader → AreInRange lives
reader_sound reader lives is read =
    let whole = whole_is (reader.earlier ++ present_life reader ∷ []) (config_of reader.given) lives is in
    let all = ap length whole.1 in
    let long = length-append reader.earlier (present_life reader ∷ []) in
    let earlier = read.earlier in
    let count = read.count in
    record {
      config = config_sound reader.given lives.config whole.0 read.given;
      some = omega (arith, all, long);
      few = omega (arith, all, long, earlier, count);
    }

pub lives_sound : (text : List ℕ) (lives : Lives) → lives_in text ≡ Ok lives → AreInRange lives
unfolding lives_in
lives_sound text lives is =
    let begin : IsRead no_lives = record { given = nothing_right true; earlier = omega arith; count = omega arith } in
    let last = held lives_fault after_lives whole_lives IsRead line_kept (lines_of text) 1 no_lives lives is begin in
    reader_sound last.0 lives last.1 last.2
