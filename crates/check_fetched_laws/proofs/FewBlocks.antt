-- No operation asks for more bytes of measurements than all blocks have.
use Rattle.std.proofs.Common.{◌≡◌, ◌≤◌, ℕ, List, sym, subst, length, arith, Result, Ok, Err}
use Rattle.std.specs.Prelude.{OnOk, is_err}
use Rattle.std.proofs.lemmas.Bool.{false≢true}
use Rattle.measurements.specs.Blocks.{record_of}
use Rattle.measurements.specs.Records.{asked, is_missing}
use Rattle.spdm_grammar.specs.declared.told.block_spec.BlockSpec.{BlockSpec}
use Rattle.check_responder.proofs.ClearAsked.{asked_few}

-- All blocks are never missing.
all_few : {T E : Type 0} (blocks : List BlockSpec) (out : List ℕ) (result : Result T E) → is_err result ≡ is_missing 255 blocks → OnOk result (out ≡ record_of (asked 255 blocks)) → OnOk result (length out ≤ 4054)
    → length (record_of blocks) ≤ 4054
all_few blocks out (Ok count) missing is few = subst (λ (l : List ℕ). length l ≤ 4054) is few
all_few blocks out (Err fault) missing is few = absurd (false≢true (sym missing))

pub few : {T E : Type 0} (op : ℕ) (blocks : List BlockSpec) (out : List ℕ) (result : Result T E) → is_err result ≡ is_missing 255 blocks → OnOk result (out ≡ record_of (asked 255 blocks)) → OnOk result (length out ≤ 4054)
    → length (record_of (asked op blocks)) ≤ 4054
few op blocks out result missing is most =
    let all : length (record_of blocks) ≤ 4054 = all_few blocks out result missing is most in
    let less : length (record_of (asked op blocks)) ≤ length (record_of blocks) = asked_few op blocks in
    omega (arith, all, less)
