-- How long the messages may be that an end is set up to take. This project's own limits.
use Rattle.std.specs.Prelude.{ℕ, Bool, ◌==◌, ◌&&◌, ◌||◌, nat_le}
use Rattle.spdm_grammar.specs.declared.names.TheConstants.{MIN_DATA_TRANSFER_SIZE, MAX_MESSAGE_SIZE}
use Rattle.negotiate.specs.declared.shared.Sizes.{Sizes}

-- In one piece at least the least DataTransferSize; in chunks at least that and at most the longest message; and the
-- same where the end takes no chunks.
abbrev pub may_be_own : Sizes → (chunk : Bool) → Bool
may_be_own sizes chunk =
    nat_le MIN_DATA_TRANSFER_SIZE sizes.transfer
    && (nat_le sizes.transfer sizes.max && nat_le sizes.max MAX_MESSAGE_SIZE)
    && (chunk || sizes.max == sizes.transfer)
