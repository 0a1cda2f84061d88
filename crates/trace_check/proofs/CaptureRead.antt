-- A capture that a text is has its ends in range, measurements without a fault, and at most 100,000 packets.
use Rattle.std.proofs.Common.{◌≡◌, ◌≢◌, ◌≤◌, ◌+◌, ◌++◌, ◌∙◌, ℕ, List, [], ◌∷◌, length, length-append, refl, sym, ap, subst, arith, Bool, false, Option, Some, None, Ok}
use Rattle.std.proofs.lemmas.Bool.Decides.{nat_tests}
use Rattle.std.proofs.lemmas.List.Elements.{recursion_from_All}
use Rattle.std.proofs.lemmas.Option.{none-some}
use Rattle.std.specs.List.{AllByRecursion}
use Rattle.std.specs.Prelude.{not, replicate}
use Rattle.std.specs.Option.{option_map, unwrap_or}
use Rattle.script_ends.specs.Configured.{configuration_in}
use Rattle.measurements.specs.Faults.{inventory_fault}
use Rattle.requester_machine.specs.Setup.{ReqSetup}
use Rattle.check_laws.specs.Judged.{AreApart}
use Rattle.script_text.specs.Configuring.{config_kind, config_of, nothing_given}
use Rattle.script_text.specs.HexWords.{bytes_of, is_hex_in, most_bytes}
use Rattle.script_text.specs.Lines.{has_words, lines_of, word}
use Rattle.script_text.specs.ScriptText.{after_capture, after_capture_kind, capture_fault, capture_in, capture_kind_fault, capture_with, is_full, is_next, is_packet, packet_fault, whole_capture}
use Rattle.script_text.specs.Sound.{IsSoundConfig}
use Rattle.script_text.specs.Tests.{first_of_tests}
use Rattle.script_text.specs.declared.texts.capture_text.CaptureReader.{CaptureReader}
use Rattle.script_text.specs.declared.configuration.config.ScriptConfig.{ScriptConfig}
use Rattle.script_text.specs.declared.configuration.config_kind.ConfigKind.{ConfigKind}
use Rattle.script_text.specs.declared.texts.faults.LineFault.{LineFault}
use Rattle.script_text.specs.declared.texts.faults.LineFault.TheVariants.{Hex, Number, Order, TooManyEvents, Unknown, Words}
use Rattle.script_text.specs.declared.texts.script.Capture.{Capture}
use Rattle.script_laws.proofs.ConfigRead.{IsRight, config_kept, nothing_right}
use Rattle.script_laws.proofs.ReadLines.{held}
use Rattle.script_laws.proofs.ScriptRead.{given_sound, seeded}
use Rattle.script_laws.proofs.SetUpRight.{at_most, has_sizes, is_configuration, no_fault, own_fits}
use Rattle.spdm_agreement.specs.Configured as agreed
use Rattle.spdm_basis.proofs.Bools.{and_first, and_second}
use Rattle.spdm_basis.proofs.Options.{both}
use Rattle.trace_check.specs.Limits.{AreSound, IsSound}

-- ---- What was read so far.

pub record IsRead (reader : CaptureReader) : Type 0 where
  pub given : IsRight false reader.given
  pub few : length reader.packets ≤ 100000

not_full : (n : ℕ) → is_full n ≡ false → n + 1 ≤ 100000
not_full n test = grind (arith, nat_tests)

more_packets : (packets : List (List ℕ)) (packet : List ℕ) → is_full (length packets) ≡ false → length (packets ++ packet ∷ []) ≤ 100000
more_packets packets packet test =
    let few = not_full (length packets) test in
    let long = length-append packets (packet ∷ []) in
    omega (arith, few, long)

-- The last of six tests does not hold either.
later : (t : Bool × LineFault) (ts : List (Bool × LineFault)) → first_of_tests (t ∷ ts) ≡ None → first_of_tests ts ≡ None
later t ts h = (both t.0 t.1 (first_of_tests ts) h).1

last_of_six : (a b c d e f : Bool) (u v x y z t : LineFault) → first_of_tests ((a, u) ∷ (b, v) ∷ (c, x) ∷ (d, y) ∷ (e, z) ∷ (f, t) ∷ []) ≡ None → f ≡ false
last_of_six a b c d e f u v x y z t h =
    let two = later (a, u) ((b, v) ∷ (c, x) ∷ (d, y) ∷ (e, z) ∷ (f, t) ∷ []) h in
    let three = later (b, v) ((c, x) ∷ (d, y) ∷ (e, z) ∷ (f, t) ∷ []) two in
    let four = later (c, x) ((d, y) ∷ (e, z) ∷ (f, t) ∷ []) three in
    let five = later (d, y) ((e, z) ∷ (f, t) ∷ []) four in
    let six = later (e, z) ((f, t) ∷ []) five in
    (both f t None six).0

packet_kept : (reader : CaptureReader) (line : List ℕ) → packet_fault reader line ≡ None → IsRead reader → IsRead (after_capture_kind reader None line)
unfolding packet_fault
packet_kept reader line h read =
    let test = last_of_six (not (is_packet (word 0 line))) (not reader.given.ended) (not (has_words 3 line)) (not (is_next (length reader.packets) (word 1 line))) (not (is_hex_in 0 most_bytes (word 2 line))) (is_full (length reader.packets)) Unknown Order Words Number Hex TooManyEvents h in
    record { given = read.given; few = more_packets reader.packets (bytes_of (word 2 line)) test }

kind_kept : (reader : CaptureReader) (k : Option ConfigKind) (line : List ℕ) → capture_kind_fault reader k line ≡ None → IsRead reader → IsRead (after_capture_kind reader k line)
kind_kept reader None line h read = packet_kept reader line h read
kind_kept reader (Some k) line h read = record { given = config_kept false reader.given k line h read.given; few = read.few }

line_kept : (reader : CaptureReader) (number : ℕ) (line : List ℕ) → capture_fault reader line ≡ None → IsRead reader → IsRead (after_capture reader number line)
line_kept reader number line h read = kind_kept reader (config_kind (word 0 line)) line h read

-- ---- The whole.

whole_is : (packets : List (List ℕ)) (o : Option ScriptConfig) (capture : Capture) → option_map (capture_with packets) o ≡ Some capture → (o ≡ Some capture.config) × (packets ≡ capture.packets)
whole_is packets None capture h = absurd (none-some capture h)
whole_is packets (Some config) capture h =
    let same : capture_with packets config ≡ capture = ap (λ (o : Option Capture). unwrap_or o (capture_with packets config)) h in
    (ap (λ (c : Capture). Some c.config) same, ap (λ (c : Capture). c.packets) same)

-- With any seed its configuration is in range.
pub record IsSoundCapture (capture : Capture) : Type 0 where
  pub config : IsSoundConfig (seeded (replicate 32 0) capture.config)
  pub few : length capture.packets ≤ 100000

pub capture_sound : (text : List ℕ) (capture : Capture) → capture_in text ≡ Ok capture → IsSoundCapture capture
unfolding capture_in
capture_sound text capture h =
    let last = held capture_fault after_capture whole_capture IsRead line_kept (lines_of text) 1 (record { given = nothing_given; packets = [] }) capture h (record { given = nothing_right false; few = omega arith }) in
    let is = whole_is last.0.packets (config_of last.0.given) capture last.1 in record {
      config = given_sound last.0.given capture.config (replicate 32 0) refl is.0 last.2.given;
      few = subst (λ (l : List (List ℕ)). length l ≤ 100000) is.1 last.2.few;
    }

-- ---- What is asked of its configuration.

others_apart : (q : ReqSetup) (qs : List ReqSetup) → AllByRecursion (λ (other : ReqSetup). (q.eid ≢ other.eid) × (q.psk ≢ other.psk)) qs → AllByRecursion (λ (other : ReqSetup). other.eid ≢ q.eid) qs
others_apart q [] all = tt
others_apart q (o ∷ qs) all = (λ same. all.0.0 (sym same), others_apart q qs all.1)

are_apart : (own : ℕ) (qs : List ReqSetup) → AllByRecursion agreed.IsRequester qs → AllByRecursion (λ (q : ReqSetup). q.responder ≡ own) qs → agreed.AreApart qs → AreApart own qs
are_apart own [] all peers apart = tt
are_apart own (q ∷ qs) all peers apart = (
  λ same. all.0.other (same ∙ sym peers.0),
  others_apart q qs (recursion_from_All (λ (other : ReqSetup). (q.eid ≢ other.eid) × (q.psk ≢ other.psk)) qs apart.0),
  are_apart own qs all.1 peers.1 apart.1,
)

are_sound : (qs : List ReqSetup) → AllByRecursion agreed.IsRequester qs → AllByRecursion IsSound qs
are_sound [] all = tt
are_sound (q ∷ qs) all =
    let sizes = all.0.sizes in
    let most = sizes.most in
    let ordered = sizes.ordered in (
      record {
        sizes = record { transfer = omega (arith, most, ordered); max = most };
        limits = record { hint = all.0.key.hint_most; opaque = all.0.opaque; pad = all.0.pad };
      },
      are_sound qs all.1,
    )

pub config_sound : (config : ScriptConfig) → IsSoundConfig (seeded (replicate 32 0) config) → AreSound (configuration_in config)
config_sound config sound =
    let is = is_configuration (seeded (replicate 32 0) config) sound in
    let qs : List ReqSetup = (configuration_in config).requesters in
    let own : ℕ = config.responder.eid.number in
    let all = recursion_from_All agreed.IsRequester qs is.requesters in
    let r = config.responder in
    let end = and_first _ _ sound.responder in
    let sizes = has_sizes 255 r.transfer r.max r.unit r.beat r.flags end in
    let beat = own_fits 255 r.transfer r.max r.unit r.beat r.flags end in
    let count = is.count in record {
      responder = record { ordered = sizes.ordered; most = sizes.most; opaque = at_most r.opaque 0 1024 (and_second _ _ sound.responder); beat = omega (arith, beat) };
      requesters = are_sound qs all;
      apart = are_apart own qs all (recursion_from_All (λ (q : ReqSetup). q.responder ≡ own) qs is.peers) is.apart;
      few = omega (arith, count);
    }

pub measured : (capture : Capture) → IsSoundCapture capture → inventory_fault capture.config.blocks ≡ None
measured capture sound = no_fault capture.config.blocks sound.config.blocks
