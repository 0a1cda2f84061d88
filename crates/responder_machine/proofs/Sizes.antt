-- The sizes of messages in a made history.
use Rattle.std.proofs.Common.{refl, ◌∙◌, ◌≡◌, ◌≤◌, ◌<◌, ◌^◌, ℕ, true, false, Bool, Some, Ok, Err, ap, sym, subst, arith}
use Rattle.std.proofs.lemmas.Bool.Decides.{nat_tests}
use Rattle.std.proofs.lemmas.Option.{none-some, same_Some}
use Rattle.std.proofs.Math.Nat.{le-min, min-eq_left, min-le_left, min-le_right}
use Rattle.std.specs.Prelude.{min, if◌then◌else◌, ◌||◌, ◌&&◌, not, nat_lt}
use Rattle.std.specs.Result.{result_ok}
use Rattle.negotiate.specs.Capabilities.{common_of, shared, sizes_of, psk_is, protects}
use Rattle.negotiate.specs.declared.shared.Common.{Common}
use Rattle.spdm_grammar.specs.Fields.{FitsCaps}
use Rattle.spdm_grammar.specs.declared.messages.capabilities.Caps.{Caps}
use Rattle.spdm_grammar.specs.declared.messages.part_faults.CapsFault.TheVariants.{SizeTooSmall, SizesCrossed, NoPsk, NoProtection}
use Rattle.spdm_grammar.specs.declared.names.TheConstants.{MIN_DATA_TRANSFER_SIZE, MAX_MESSAGE_SIZE}
use Rattle.spdm_grammar.specs.declared.names.capability.TheConstants.{PSK_CAP, PSK_CAP_WITH_CONTEXT, MEAS_CAP, HBEAT_CAP, KEY_UPD_CAP, CHUNK_CAP}
use Rattle.spdm_grammar.specs.declared.told.phase.Phase.{Phase}
use Rattle.spdm_grammar.specs.declared.told.phase.Phase.TheVariants.{Negotiated}
use Rattle.spdm_machine.specs.Terms.{terms_of}
use Rattle.transcript.specs.Transcripts.{Negotiation}
use Rattle.responder_machine.proofs.CommonCaps.{common_negotiated}
use Rattle.responder_machine.proofs.Under.{live_under}
use Rattle.responder_machine.specs.History.{clear_turns, phase_of, negotiation_of}
use Rattle.responder_machine.specs.Refusal.{sizes_are_known}
use Rattle.responder_machine.specs.SettledLaws.{SizesAreKnown}
use Rattle.responder_machine.specs.Setup.{RspSetup, responder_caps}
use Rattle.responder_machine.specs.SizeLaws.{HasSizes, SizesAreSetUp, SessionSizesAreSetUp}

abbrev pub IsSized : Common → Type 0
IsSized common = (MIN_DATA_TRANSFER_SIZE ≤ common.to_requester.transfer) × (common.to_requester.transfer ≤ common.to_requester.max)

-- Capabilities that go together have passed the tests of sizes.
both_passed : (a b c d : Bool) (s common : Common)
    → result_ok (if a then Err SizeTooSmall else (if b then Err SizesCrossed else (if c then Err NoPsk else (if d then Err NoProtection else Ok s)))) ≡ Some common
    → (a ≡ false) × (b ≡ false) × (s ≡ common)
both_passed true b c d s common h = absurd (none-some common h)
both_passed false true c d s common h = absurd (none-some common h)
both_passed false false true d s common h = absurd (none-some common h)
both_passed false false false true s common h = absurd (none-some common h)
both_passed false false false false s common h = (refl, refl, same_Some s common h)

not_less : (a b : ℕ) (rest : Bool) → (nat_lt a b || rest) ≡ false → b ≤ a
not_less a b rest h = grind (arith, nat_tests)

min_rises : (a b most : ℕ) → a ≤ b → min a most ≤ min b most
min_rises a b most h = (let less = min-le_left a most in le-min (omega arith) (min-le_right a most))

pub common_sized : (caps told : Caps) (common : Common) → result_ok (common_of caps told) ≡ Some common → IsSized common
common_sized caps told common is =
    let passed = both_passed (nat_lt caps.transfer MIN_DATA_TRANSFER_SIZE || nat_lt told.transfer MIN_DATA_TRANSFER_SIZE) (nat_lt caps.max caps.transfer || nat_lt told.max told.transfer) (not (psk_is PSK_CAP caps.flags && psk_is PSK_CAP_WITH_CONTEXT told.flags)) (not (protects caps.flags && protects told.flags)) (shared caps told) common is in
    let least = not_less caps.transfer MIN_DATA_TRANSFER_SIZE (nat_lt told.transfer MIN_DATA_TRANSFER_SIZE) passed.0 in
    let ordered = not_less caps.max caps.transfer (nat_lt told.max told.transfer) passed.1 in
    subst IsSized passed.2 (le-min least (omega arith), min_rises caps.transfer caps.max MAX_MESSAGE_SIZE ordered)

pub sizes_known : SizesAreKnown
sizes_known r h made fits known =
    let found = common_negotiated r h made fits known in
    common_sized found.0 (responder_caps r) _ found.1

-- ---- The sizes that were set up.

flag_most : (b : Bool) (n : ℕ) → (if b then n else 0) ≤ n
flag_most true n = omega arith
flag_most false n = omega arith

-- Capabilities that fit, where their sizes do.
pub caps_fit : (r : RspSetup) → r.transfer < 2 ^ 32 → r.max < 2 ^ 32 → FitsCaps (responder_caps r)
caps_fit r transfer max =
    let measure = flag_most r.flags.measure MEAS_CAP in
    let heartbeat = flag_most r.flags.heartbeat HBEAT_CAP in
    let key_update = flag_most r.flags.key_update KEY_UPD_CAP in
    let chunk = flag_most r.flags.chunk CHUNK_CAP in
    record { ct = omega arith; flags = omega arith; transfer = transfer; max = max }

sizes_kept : (r : RspSetup) → r.transfer ≤ MAX_MESSAGE_SIZE → r.max ≤ MAX_MESSAGE_SIZE → sizes_of (responder_caps r) ≡ record { transfer = r.transfer; max = r.max }
sizes_kept r transfer max = rw (min-eq_left transfer, min-eq_left max) refl

pub common_has_sizes : (r : RspSetup) (caps : Caps) (common : Common) → r.transfer ≤ MAX_MESSAGE_SIZE → r.max ≤ MAX_MESSAGE_SIZE → result_ok (common_of caps (responder_caps r)) ≡ Some common → HasSizes r common
common_has_sizes r caps common transfer max is =
    let told = responder_caps r in
    let passed = both_passed (nat_lt caps.transfer MIN_DATA_TRANSFER_SIZE || nat_lt told.transfer MIN_DATA_TRANSFER_SIZE) (nat_lt caps.max caps.transfer || nat_lt told.max told.transfer) (not (psk_is PSK_CAP caps.flags && psk_is PSK_CAP_WITH_CONTEXT told.flags)) (not (protects caps.flags && protects told.flags)) (shared caps told) common is in
    let sized = common_sized caps told common is in
    record {
      own = ap (λ (c : Common). c.to_responder) (sym passed.2) ∙ sizes_kept r transfer max;
      least = sized.0;
      crossed = sized.1;
      most = subst (λ (c : Common). c.to_requester.max ≤ MAX_MESSAGE_SIZE) passed.2 (min-le_right caps.max MAX_MESSAGE_SIZE);
    }

pub sizes_set_up : SizesAreSetUp
sizes_set_up r h made ordered most known =
    let found = common_negotiated r h made (caps_fit r (omega arith) (omega arith)) known in
    common_has_sizes r found.0 (terms_of (negotiation_of (clear_turns h))).common (omega arith) most found.1

negotiated_is_known : (phase : Phase) → phase ≡ Negotiated → sizes_are_known phase ≡ true
negotiated_is_known phase is = rw is refl

pub session_sizes_set_up : SessionSizesAreSetUp
session_sizes_set_up r h id made ordered most live =
    let under = live_under r h id made live in
    subst (λ (n : Negotiation). HasSizes r (terms_of n).common) (sym under.1) (sizes_set_up r h made ordered most (negotiated_is_known (phase_of (clear_turns h)) under.0))
