-- Why a configuration of a responder is rejected. This project's own limits.
use Rattle.std.specs.Prelude.{ℕ, List, [], ◌∷◌, Bool, false, Option, Some, None, ◌≡◌, ◌==◌, ◌||◌, not, nat_lt, length, bytes_eq}
use Rattle.std.specs.List.{list_any}
use Rattle.std.specs.Option.{option_map, option_or}
use Rattle.measurements.specs.Faults.{inventory_fault}
use Rattle.negotiate.specs.OwnSizes.{may_be_own}
use Rattle.spdm_basis.specs.Tests.{first_of_tests}
use Rattle.responder.specs.declared.config.Known.{Known}
use Rattle.responder.specs.declared.config.RspConfig.{RspConfig}
use Rattle.responder.specs.declared.fault.RspConfigFault.{RspConfigFault}
use Rattle.responder.specs.declared.fault.RspConfigFault.TheVariants.{Inventory, OutOfMemory, SameEid, SamePsk, SizeRange, TooManyRequesters}
use Rattle.spdm_grammar.specs.declared.names.TheConstants.{MAX_OPAQUE_LEN}

-- A requester has this endpoint,
abbrev pub is_eid_of_one : ℕ → List Known → Bool
is_eid_of_one eid known = list_any (λ k. k.eid.number == eid) known

-- or two of this endpoint and those of the requesters are equal.
abbrev pub has_same_eid : ℕ → List Known → Bool
has_same_eid eid [] = false
has_same_eid eid (k ∷ others) = is_eid_of_one eid (k ∷ others) || has_same_eid k.eid.number others

-- A requester has this pre-shared key,
abbrev pub is_psk_of_one : List ℕ → List Known → Bool
is_psk_of_one psk known = list_any (λ k. bytes_eq k.psk psk) known

-- or two of the requesters have one.
abbrev pub has_same_psk : List Known → Bool
has_same_psk [] = false
has_same_psk (k ∷ others) = is_psk_of_one k.psk others || has_same_psk others

-- A hint has more than 64 bytes.
abbrev pub has_long_hint : List Known → Bool
has_long_hint known = list_any (λ k. nat_lt 64 (length k.hint)) known

-- A size, the unit, the opaque data or a hint is out of its range.
abbrev pub is_out_of_range : RspConfig → Bool
is_out_of_range c =
    not (may_be_own (record { transfer = c.transfer; max = c.max }) c.flags.chunk)
    || (nat_lt c.unit 64 || nat_lt 1024 c.unit)
    || nat_lt MAX_OPAQUE_LEN (length c.opaque.now)
    || has_long_hint c.known.now

-- The first reason, whatever the measurements, in this order.
abbrev pub set_up_fault : RspConfig → Option RspConfigFault
set_up_fault c = first_of_tests (
    (nat_lt 8 (length c.known.now), TooManyRequesters)
    ∷ (has_same_eid c.eid.number c.known.now, SameEid)
    ∷ (has_same_psk c.known.now, SamePsk)
    ∷ (is_out_of_range c, SizeRange)
    ∷ [])

-- The first reason: one of those before that the measurements make no inventory. Allocation failure is none.
abbrev pub config_fault : RspConfig → Option RspConfigFault
config_fault c = option_or (set_up_fault c) (option_map Inventory (inventory_fault c.blocks.now))

-- The cause of a fault: allocation failure comes only where there is no other.
abbrev pub IsCause : RspConfig → RspConfigFault → Type 0
IsCause c OutOfMemory = config_fault c ≡ None
IsCause c fault = config_fault c ≡ Some fault
