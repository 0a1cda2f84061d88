-- Why a configuration of a requester is rejected. This project's own limits.
use Rattle.std.specs.Prelude.{[], ◌∷◌, Bool, Option, Some, None, ◌≡◌, ◌==◌, ◌||◌, not, nat_lt, length}
use Rattle.negotiate.specs.OwnSizes.{may_be_own}
use Rattle.spdm_basis.specs.Tests.{first_of_tests}
use Rattle.requester.specs.declared.config.ReqConfig.{ReqConfig}
use Rattle.requester.specs.declared.fault.ReqConfigFault.{ReqConfigFault}
use Rattle.requester.specs.declared.fault.ReqConfigFault.TheVariants.{OutOfMemory, SameEid, SizeRange}
use Rattle.spdm_grammar.specs.declared.names.TheConstants.{MAX_OPAQUE_LEN}

-- A size, the unit, the padding, the opaque data or the hint is out of its range.
abbrev pub is_out_of_range : ReqConfig → Bool
is_out_of_range c =
    not (may_be_own (record { transfer = c.transfer; max = c.max }) c.flags.chunk)
    || (nat_lt c.unit 64 || nat_lt 1024 c.unit)
    || nat_lt 16 c.pad
    || nat_lt MAX_OPAQUE_LEN (length c.opaque.now)
    || nat_lt 64 (length c.hint.now)

-- The first reason, in this order. Allocation failure is none of them.
abbrev pub config_fault : ReqConfig → Option ReqConfigFault
config_fault c = first_of_tests (
    (c.eid.number == c.responder.number, SameEid)
    ∷ (is_out_of_range c, SizeRange)
    ∷ [])

-- Why a configuration is rejected: its first fault; or memory ran out, and it has none.
abbrev pub IsCause : ReqConfig → ReqConfigFault → Type 0
IsCause c OutOfMemory = config_fault c ≡ None
IsCause c fault = config_fault c ≡ Some fault
