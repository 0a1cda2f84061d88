use Rattle.std.proofs.Common.{◌≡◌, ◌∙◌, ◌++◌, ◌∷◌, [], ℕ, List, ap, subst}
use Rattle.std.specs.Prelude.{OnOk}
use Rattle.mctp_framing.specs.Packet.{parsed}
use Rattle.packet_text.specs.JsonBlocks.{object_of, with_json_head, with_json_inside}
use Rattle.packet_text.specs.Shown.{contents_in}
use Rattle.packet_text.proofs.json_blocks.set_object.Goals as goal

pub returns : goal.returns
unfolding object_of
returns c =
    let packet = c.args.packet.now in
    let head = c.in_ok-add_json_head.ensures ∙ ap (λ (t : List ℕ). with_json_head t c.args.config.now c.args.number packet) c.clear.ensures in
    let inside = c.in_ok-add_inside.ensures ∙ ap (λ (t : List ℕ). with_json_inside t packet (parsed packet) (contents_in c.args.shown.now)) head in
    let closed = c.in_ok-extend.ensures.ok ∙ ap (λ (t : List ℕ). t ++ 125 ∷ []) inside in
    subst (λ (t : List ℕ). OnOk c.end_text_line.result (c.end_text_line.new.text ≡ t ++ 10 ∷ [])) closed c.end_text_line.ensures
