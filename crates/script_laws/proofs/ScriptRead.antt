-- A script that a text is has its configuration and its events in range.
use Rattle.std.proofs.Common.{◌≡◌, ◌∙◌, ◌||◌, ◌&&◌, ◌++◌, ℕ, List, [], ◌∷◌, length, refl, sym, ap, subst, Bool, true, false, nat_eq, nat_lt, arith, Option, Some, None, Ok}
use Rattle.std.specs.Option.{option_map, unwrap_or}
use Rattle.std.specs.Prelude.{if◌then◌else◌, not, is_none}
use Rattle.std.proofs.lemmas.Bool.{not-false, not-true, eqb-false, or_parts, false≢true}
use Rattle.std.proofs.lemmas.Option.{none-some}
use Rattle.spdm_basis.proofs.Bools.{and_first, and_second}
use Rattle.script_text.specs.Configuring.{config_kind, config_of, config_with, has_psk, nothing_given, requester_has_eid, responder_part}
use Rattle.script_text.specs.EventLines.{event_kind, event_fault, event_of}
use Rattle.script_text.specs.Lines.{lines_of, word}
use Rattle.script_text.specs.ScriptText.{script_in, script_fault, script_kind_fault, script_event_fault, after_script, after_script_kind, after_script_event, or_too_many, script_with, whole_script}
use Rattle.script_text.specs.Sound.{IsSoundConfig, are_bytes_in, are_sound_events, are_sound_requesters, is_sound_event, is_sound_requester}
use Rattle.script_text.specs.declared.configuration.config.ReqPart.{ReqPart}
use Rattle.script_text.specs.declared.configuration.config.ScriptConfig.{ScriptConfig}
use Rattle.script_text.specs.declared.configuration.config_kind.ConfigKind.{ConfigKind}
use Rattle.script_text.specs.declared.events.event.Entry.{Entry}
use Rattle.script_text.specs.declared.events.event_kind.EventKind.{EventKind}
use Rattle.script_text.specs.declared.texts.faults.LineFault.{LineFault}
use Rattle.script_text.specs.declared.configuration.partial_config.PartialConfig.{PartialConfig}
use Rattle.script_text.specs.declared.configuration.partial_config.RspLine.{RspLine}
use Rattle.script_text.specs.declared.texts.script.Script.{Script}
use Rattle.script_text.specs.declared.texts.script_lines.ScriptReader.{ScriptReader}
use Rattle.script_laws.proofs.ConfigRead.{IsRight, of_some, is_apart, is_sound_line, nothing_right, config_open, config_kept, requester_fits, other_way}
use Rattle.script_laws.proofs.EventsRead.{event_sound}
use Rattle.script_laws.proofs.ReadLines.{held}
use Rattle.spdm_basis.proofs.Options.{both}
use Rattle.spdm_agreement.proofs.Responder.Exchange.{both_hold}

-- ---- Every line keeps it.

record IsRead (reader : ScriptReader) : Type 0 where
  given : IsRight true reader.given
  events : are_sound_events (length reader.given.requesters) reader.events ≡ true
  none : reader.given.ended ≡ false → reader.events ≡ []

one_event_more : (n : ℕ) (events : List Entry) (e : Entry) → are_sound_events n events ≡ true → is_sound_event n e.event ≡ true → are_sound_events n (events ++ e ∷ []) ≡ true
one_event_more n [] e h sound = both_hold (is_sound_event n e.event) true sound refl
one_event_more n (x ∷ events) e h sound =
    both_hold (is_sound_event n x.event) (are_sound_events n (events ++ e ∷ [])) (and_first _ _ h) (one_event_more n events e (and_second _ _ h) sound)

no_fault : (count : ℕ) (found : Option LineFault) → or_too_many count found ≡ None → found ≡ None
no_fault count None h = refl
no_fault count (Some f) h = absurd (none-some f (sym h))

event_kept : (reader : ScriptReader) (number : ℕ) (k : Option EventKind) (line : List ℕ) → event_kind line ≡ k → script_event_fault reader k line ≡ None →
    IsRead reader → IsRead (after_script_event reader number k line)
event_kept reader number None line is h read = absurd (none-some _ (sym h))
event_kept reader number (Some k) line is h read =
    let a = both _ _ _ h in
    let ended : reader.given.ended ≡ true = not-false _ a.0 in
    let n = length reader.given.requesters in
    let sound = event_sound n k line is (no_fault (length reader.events) (event_fault n k line) a.1) in
    record {
      given = read.given;
      events = one_event_more n reader.events (record { line = number; event = event_of k line }) read.events sound;
      none = λ open_. absurd (false≢true (sym open_ ∙ ended));
    }

kind_kept : (reader : ScriptReader) (number : ℕ) (k : Option ConfigKind) (line : List ℕ) → script_kind_fault reader k line ≡ None → IsRead reader → IsRead (after_script_kind reader number k line)
kind_kept reader number None line h read = event_kept reader number (event_kind line) line refl h read
kind_kept reader number (Some k) line h read =
    let none = read.none (config_open true reader.given k line h) in
    record {
      given = config_kept true reader.given k line h read.given;
      events = rw none refl;
      none = λ open_. none;
    }

line_kept : (reader : ScriptReader) (number : ℕ) (line : List ℕ) → script_fault reader line ≡ None → IsRead reader → IsRead (after_script reader number line)
line_kept reader number line h read = kind_kept reader number (config_kind (word 0 line)) line h read

-- ---- What was read.

apart_from : (e : ℕ) (before qs : List ReqPart) → requester_has_eid e qs ≡ false → are_sound_requesters 0 before qs ≡ true → are_sound_requesters e before qs ≡ true
apart_from e before [] other h = refl
apart_from e before (q ∷ qs) other h =
    let sound = is_sound_requester q in
    let few = nat_lt (length before) 8 in
    let eids = not (nat_eq 0 q.eid.number || requester_has_eid q.eid.number before) in
    let psk = not (has_psk q.psk before) in
    let rest = are_sound_requesters 0 (before ++ q ∷ []) qs in
    let a = and_first (sound && few && eids && psk) rest h in
    let b = and_first (sound && few && eids) psk a in
    let c = and_first (sound && few) eids b in
    let sound_is : sound ≡ true = and_first sound few c in
    let few_is : few ≡ true = and_second sound few c in
    let eids_is : eids ≡ true = and_second (sound && few) eids b in
    let psk_is : psk ≡ true = and_second (sound && few && eids) psk a in
    let apart = or_parts (nat_eq q.eid.number e) (requester_has_eid e qs) other in
    let new : requester_has_eid q.eid.number before ≡ false = (or_parts (nat_eq 0 q.eid.number) (requester_has_eid q.eid.number before) (not-true _ eids_is)).1 in
    let mine : nat_eq e q.eid.number ≡ false = other_way q.eid.number e apart.0 in
    both_hold (requester_fits e before q) (are_sound_requesters e (before ++ q ∷ []) qs) (rw (sound_is, few_is, mine, new, psk_is) refl)
    (apart_from e (before ++ q ∷ []) qs apart.1 (and_second (sound && few && eids && psk) rest h))

some_bytes : (o : Option (List ℕ)) → is_none o ≡ false → of_some (are_bytes_in 32 32) o ≡ true → (bytes : List ℕ) × (o ≡ Some bytes) × (are_bytes_in 32 32 bytes ≡ true)
some_bytes None h sound = absurd (false≢true (sym h))
some_bytes (Some bytes) h sound = (bytes, refl, sound)

opaque_bytes : (o : Option (List ℕ)) → of_some (are_bytes_in 0 1024) o ≡ true → are_bytes_in 0 1024 (unwrap_or o []) ≡ true
opaque_bytes None sound = refl
opaque_bytes (Some bytes) sound = sound

-- the configuration with this responder
abbrev config_by : RspLine → PartialConfig → ScriptConfig
config_by r given = record {
  seed = given.seed;
  responder = responder_part r (unwrap_or given.opaque []) given.responder_suites;
  blocks = given.blocks;
  requesters = given.requesters;
}

-- the configuration with this seed
abbrev pub seeded : List ℕ → ScriptConfig → ScriptConfig
seeded bytes config = record config { seed = Some bytes }

-- with any seed it is in range
with_seed : (needs : Bool) (given : PartialConfig) (r : RspLine) (bytes : List ℕ) → are_bytes_in 32 32 bytes ≡ true → given.responder ≡ Some r → given.ended ≡ true → IsRight needs given →
    IsSoundConfig (seeded bytes (config_by r given))
with_seed needs given r bytes size is ended right =
    let whole = right.whole ended in
    let line : is_sound_line r ≡ true = (rw is at right.responder) in
    let apart : is_apart given.requesters r ≡ true = (rw is at right.apart) in
    record {
      seed_bytes = bytes;
      seed = refl;
      seed_size = size;
      responder = both_hold (is_sound_line r) (are_bytes_in 0 1024 (unwrap_or given.opaque [])) line (opaque_bytes given.opaque right.opaque);
      blocks = right.blocks;
      some = (let some = eqb-false (length given.requesters) 0 whole.some in omega (arith, some));
      requesters = apart_from r.eid.number [] given.requesters (not-true _ apart) right.requesters;
    }

config_sound : (given : PartialConfig) (r : RspLine) → given.responder ≡ Some r → given.ended ≡ true → IsRight true given → IsSoundConfig (config_by r given)
config_sound given r is ended right =
    let whole = right.whole ended in
    let seed = some_bytes given.seed whole.seed right.seed in
    subst (λ (o : Option (List ℕ)). IsSoundConfig (record (config_by r given) { seed = o })) (sym seed.1) (with_seed true given r seed.0 seed.2 is ended right)

with_by : (given : PartialConfig) (o : Option RspLine) (config : ScriptConfig) → given.responder ≡ o → config_with o given ≡ Some config → given.ended ≡ true → IsRight true given →
    IsSoundConfig config × (given.requesters ≡ config.requesters)
with_by given None config is h ended right = absurd (none-some config h)
with_by given (Some r) config is h ended right =
    let same : config_by r given ≡ config = ap (λ (o : Option ScriptConfig). unwrap_or o (config_by r given)) h in
    (subst IsSoundConfig same (config_sound given r is ended right), ap (λ (c : ScriptConfig). c.requesters) same)

by_end : (ended : Bool) (o : Option ScriptConfig) (config : ScriptConfig) → (if ended then o else None) ≡ Some config → (ended ≡ true) × (o ≡ Some config)
by_end true o config h = (refl, h)
by_end false o config h = absurd (none-some config h)

-- what was read of a configuration, with any seed
given_by : (given : PartialConfig) (o : Option RspLine) (config : ScriptConfig) (bytes : List ℕ) → are_bytes_in 32 32 bytes ≡ true → given.responder ≡ o → config_with o given ≡ Some config →
    given.ended ≡ true → IsRight false given → IsSoundConfig (seeded bytes config)
given_by given None config bytes size is h ended right = absurd (none-some config h)
given_by given (Some r) config bytes size is h ended right =
    let same : config_by r given ≡ config = ap (λ (o : Option ScriptConfig). unwrap_or o (config_by r given)) h in
    subst (λ (c : ScriptConfig). IsSoundConfig (seeded bytes c)) same (with_seed false given r bytes size is ended right)

pub given_sound : (given : PartialConfig) (config : ScriptConfig) (bytes : List ℕ) → are_bytes_in 32 32 bytes ≡ true → config_of given ≡ Some config → IsRight false given → IsSoundConfig (seeded bytes config)
given_sound given config bytes size h right =
    let ended = by_end given.ended (config_with given.responder given) config h in
    given_by given given.responder config bytes size refl ended.1 ended.0 right

whole_is : (events : List Entry) (o : Option ScriptConfig) (script : Script) → option_map (script_with events) o ≡ Some script → (o ≡ Some script.config) × (events ≡ script.events)
whole_is events None script h = absurd (none-some script h)
whole_is events (Some config) script h =
    let same : script_with events config ≡ script = ap (λ (o : Option Script). unwrap_or o (script_with events config)) h in
    (ap (λ (s : Script). Some s.config) same, ap (λ (s : Script). s.events) same)

reader_sound : (reader : ScriptReader) (script : Script) → whole_script reader ≡ Some script → IsRead reader →
    IsSoundConfig script.config × (are_sound_events (length script.config.requesters) script.events ≡ true)
reader_sound reader script h read =
    let is = whole_is reader.events (config_of reader.given) script h in
    let ended = by_end reader.given.ended (config_with reader.given.responder reader.given) script.config is.0 in
    let sound = with_by reader.given reader.given.responder script.config refl ended.1 ended.0 read.given in
    (sound.0, rw (← sound.1, ← is.1) read.events)

pub script_sound : (text : List ℕ) (script : Script) → script_in text ≡ Ok script →
    IsSoundConfig script.config × (are_sound_events (length script.config.requesters) script.events ≡ true)
unfolding script_in
script_sound text script h =
    let begin : IsRead (record { given = nothing_given; events = [] }) = record { given = nothing_right true; events = refl; none = λ open_. refl } in
    let last = held script_fault after_script whole_script IsRead line_kept (lines_of text) 1 (record { given = nothing_given; events = [] }) script h begin in
    reader_sound last.0 script last.1 last.2
