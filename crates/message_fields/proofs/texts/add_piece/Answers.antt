use Rattle.std.proofs.Common.{◌∙◌, ◌++◌, ap}
use Rattle.message_fields.proofs.FieldLines.{line_made}
use Rattle.message_fields.specs.Names.{form_of, name_text}
use Rattle.message_fields.specs.Texts.{piece_text, value_words}
use Rattle.trace_text.specs.Spelling.{hex_word, with_words}
use Rattle.message_fields.proofs.texts.add_piece.Goals as goal

pub returns : goal.returns
unfolding piece_text
returns c =
    let bytes = c.args.bytes.now in
    line_made c.args.text.now c.extend.new.self c.extend-2.new.self c.add_hex.new.text c.add_value.new.text c.end_text_line.new.text
    (name_text c.args.name) (hex_word bytes) (value_words (form_of c.args.name) bytes)
    c.in_ok-extend.ensures.ok
    (c.in_ok-extend-2.ensures.ok ∙ ap (λ t. c.extend.new.self ++ t) c.text.ensures)
    c.in_ok-add_hex.ensures
    (c.in_ok-add_value.ensures ∙ ap (λ f. with_words c.add_hex.new.text (value_words f bytes)) c.form.ensures)
    c.in_ok-end_text_line.ensures
