-- What a configuration has shown that has no fault.
use Rattle.std.proofs.Common.{refl, ◌≡◌, ◌≤◌, length, false, Option, Some, None, sym}
use Rattle.std.proofs.lemmas.Bool.{leb-true, ltb-false, not-false, or_parts}
use Rattle.std.proofs.lemmas.Option.{none-some}
use Rattle.std.specs.Option.{option_or, option_map}
use Rattle.measurements.specs.Faults.{inventory_fault}
use Rattle.spdm_basis.proofs.Bools.{and_first, and_second}
use Rattle.responder.specs.Config.{config_fault, has_same_eid, set_up_fault}
use Rattle.responder.specs.declared.config.RspConfig.{RspConfig}
use Rattle.responder.specs.declared.fault.RspConfigFault.TheVariants.{Inventory}
use Rattle.spdm_grammar.specs.declared.names.TheConstants.{MAX_MESSAGE_SIZE}
use Rattle.spdm_basis.proofs.Options.{both}

pub record HasLimits (c : RspConfig) : Type 0 where
  pub known : length c.known.now ≤ 8
  pub apart : has_same_eid c.eid.number c.known.now ≡ false
  pub ordered : c.transfer ≤ c.max
  pub most : c.max ≤ MAX_MESSAGE_SIZE
  pub unit_low : 64 ≤ c.unit
  pub unit_high : c.unit ≤ 1024
  pub opaque : length c.opaque.now ≤ 1024

pub first_none : {A : Type 0} (a b : Option A) → option_or a b ≡ None → a ≡ None
first_none (Some x) b h = absurd (none-some x (sym h))
first_none None b h = refl

limits_of : (c : RspConfig) → set_up_fault c ≡ None → HasLimits c
limits_of c h =
    let first = both _ _ _ h in
    let second = both _ _ _ first.1 in
    let third = both _ _ _ second.1 in
    let fourth = both _ _ _ third.1 in
    let hints = or_parts _ _ fourth.0 in
    let opaque = or_parts _ _ hints.0 in
    let sizes = or_parts _ _ opaque.0 in
    let unit = or_parts _ _ sizes.1 in
    let own = and_first _ _ (not-false _ sizes.0) in
    let upper = and_second _ _ own in
    record {
      known = ltb-false 8 (length c.known.now) first.0;
      apart = second.0;
      ordered = leb-true c.transfer c.max (and_first _ _ upper);
      most = leb-true c.max MAX_MESSAGE_SIZE (and_second _ _ upper);
      unit_low = ltb-false c.unit 64 unit.0;
      unit_high = ltb-false 1024 c.unit unit.1;
      opaque = ltb-false 1024 (length c.opaque.now) opaque.1;
    }

pub limits : (c : RspConfig) → config_fault c ≡ None → HasLimits c
limits c h = limits_of c (first_none (set_up_fault c) (option_map Inventory (inventory_fault c.blocks.now)) h)
