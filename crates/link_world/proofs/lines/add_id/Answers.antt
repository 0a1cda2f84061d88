use Rattle.std.proofs.Common.{◌∙◌, ap}
use Rattle.std.proofs.lemmas.Result.{on_ok_weaker}
use Rattle.link_world.proofs.Texts.{id_is}
use Rattle.trace_text.specs.Spelling.{hex_word, with_word}
use Rattle.link_world.proofs.lines.add_id.Goals as goal

pub returns : goal.returns
returns c = on_ok_weaker c.add_hex.result (λ e. e ∙ ap (with_word c.args.text.now) (ap hex_word c.bytes.ensures ∙ id_is c.args.id)) c.add_hex.ensures
