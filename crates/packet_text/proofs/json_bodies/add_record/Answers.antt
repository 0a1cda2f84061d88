use Rattle.std.proofs.Common.{◌≡◌, ◌∙◌, List, subst}
use Rattle.std.specs.Prelude.{OnOk}
use Rattle.message_fields.specs.declared.field.Field.{Field}
use Rattle.packet_text.specs.JsonBodies.{with_fields_member}
use Rattle.packet_text.proofs.json_bodies.add_record.Goals as goal

pub returns : goal.returns
returns c =
    subst (λ (fields : List Field). OnOk c.add_fields_member.result (c.add_fields_member.new.text ≡ with_fields_member c.args.text.now fields c.args.message.now))
    (c.as_slice.ensures.value ∙ c.record_fields-fields.ensures) c.add_fields_member.ensures
