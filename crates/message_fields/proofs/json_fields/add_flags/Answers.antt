use Rattle.std.proofs.Common.{◌++◌, ◌∙◌, ◌%◌, ◌/◌, ◌^◌, ap, sym, append_assoc}
use Rattle.std.proofs.lemmas.List.{append-nil}
use Rattle.message_fields.proofs.JsonLines.{flags_json_more, no_flags_json}
use Rattle.message_fields.specs.JsonFields.{flag_behind, flags_json}
use Rattle.message_fields.proofs.json_fields.add_flags.Goals as goal

pub loop-bit-init : goal.loop-bit-init
loop-bit-init c = sym (ap (λ t. c.args.text.now ++ t) (no_flags_json c.args.number) ∙ append-nil c.args.text.now)

pub loop-bit-preserved : goal.loop-bit-preserved
loop-bit-preserved c =
    let bit = c.loop-bit.bit in
    let number = c.args.number in
    let more = flag_behind (number / 2 ^ bit % 2) (number % 2 ^ bit) bit in
    c.in_ok-add_flag.ensures
    ∙ ap (λ t. t ++ more) c.loop-bit.invariant
    ∙ append_assoc c.args.text.now (flags_json bit number) more
    ∙ ap (λ t. c.args.text.now ++ t) (sym (flags_json_more bit number))
