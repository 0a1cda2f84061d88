-- What a configuration has shown that has no fault.
use Rattle.std.proofs.Common.{◌≡◌, ◌≤◌, ℕ, length, None, arith}
use Rattle.std.proofs.lemmas.Bool.{leb-true, ltb-false, not-false, or_parts}
use Rattle.spdm_basis.proofs.Bools.{and_first, and_second}
use Rattle.requester.specs.Config.{config_fault}
use Rattle.requester.specs.declared.config.ReqConfig.{ReqConfig}
use Rattle.spdm_grammar.specs.declared.names.TheConstants.{MAX_MESSAGE_SIZE}
use Rattle.spdm_basis.proofs.Options.{both}

pub record HasLimits (c : ReqConfig) : Type 0 where
  pub transfer : c.transfer ≤ MAX_MESSAGE_SIZE
  pub max : c.max ≤ MAX_MESSAGE_SIZE
  pub unit_low : 64 ≤ c.unit
  pub unit_high : c.unit ≤ 1024
  pub pad : c.pad ≤ 16
  pub opaque : length c.opaque.now ≤ 1024
  pub hint : length c.hint.now ≤ 64

fits : {a b n : ℕ} → a ≤ b → b ≤ n → a ≤ n
fits ordered most = omega (arith, ordered, most)

pub limits : (c : ReqConfig) → config_fault c ≡ None → HasLimits c
limits c h =
    let first = both _ _ _ h in
    let second = both _ _ _ first.1 in
    let hint = or_parts _ _ second.0 in
    let opaque = or_parts _ _ hint.0 in
    let pad = or_parts _ _ opaque.0 in
    let sizes = or_parts _ _ pad.0 in
    let unit = or_parts _ _ sizes.1 in
    let own = and_first _ _ (not-false _ sizes.0) in
    let upper = and_second _ _ own in
    let ordered : c.transfer ≤ c.max = leb-true c.transfer c.max (and_first _ _ upper) in
    let most : c.max ≤ MAX_MESSAGE_SIZE = leb-true c.max MAX_MESSAGE_SIZE (and_second _ _ upper) in
    record {
      transfer = fits ordered most;
      max = most;
      unit_low = ltb-false c.unit 64 unit.0;
      unit_high = ltb-false 1024 c.unit unit.1;
      pad = ltb-false 16 c.pad pad.1;
      opaque = ltb-false 1024 (length c.opaque.now) opaque.1;
      hint = ltb-false 64 (length c.hint.now) hint.1;
    }
