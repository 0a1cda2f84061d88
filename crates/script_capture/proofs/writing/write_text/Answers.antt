use Rattle.std.proofs.Common.{◌≡◌, ◌∙◌, ◌++◌, ℕ, List, subst}
use Rattle.capture_text.proofs.Taken.{prefix_of_first, takes_both, takes_then_prefix}
use Rattle.capture_text.specs.Written.{packet_lines}
use Rattle.script_text.specs.Printing.{config_text}
use Rattle.spdm_basis.specs.Stream.{Takes, TakesPrefix}
use Rattle.script_capture.proofs.writing.write_text.Goals as goal

pub returns-in-Err-clause-prefix : goal.returns-in-Err-clause-prefix
returns-in-Err-clause-prefix g c =
    let old = g.K.Sink.contents c.args.sink.now in
    let new = g.K.Sink.contents c.write_all.new.sink in
    let more = packet_lines 1 c.args.packets.now in
    let text_is : c.as_slice.result.now ≡ config_text c.args.config.now = c.as_slice.ensures ∙ c.in-Ok.ensures in
    subst (λ (t : List ℕ). TakesPrefix old (t ++ more) new) text_is (prefix_of_first old new c.as_slice.result.now more c.in-Err.ensures.prefix)

pub returns-in-Ok-write_packet_lines-clause-whole : goal.returns-in-Ok-write_packet_lines-clause-whole
returns-in-Ok-write_packet_lines-clause-whole g c =
    let old = g.K.Sink.contents c.args.sink.now in
    let mid = g.K.Sink.contents c.write_all.new.sink in
    let new = g.K.Sink.contents c.write_packet_lines.new.sink in
    let text_is : c.as_slice.result.now ≡ config_text c.args.config.now = c.as_slice.ensures ∙ c.in-Ok.ensures in
    subst (λ (t : List ℕ). Takes old (t ++ packet_lines 1 c.args.packets.now) new) text_is
    (subst (λ (l : List (List ℕ)). Takes old (c.as_slice.result.now ++ packet_lines 1 l) new) c.as_slice-2.ensures
    (takes_both old mid new c.as_slice.result.now (packet_lines 1 c.as_slice-2.result.now) c.in-Ok-write_all.ensures.whole c.in-Ok-write_packet_lines.ensures.whole))

pub returns-clause-prefix : goal.returns-clause-prefix
returns-clause-prefix g c =
    let old = g.K.Sink.contents c.args.sink.now in
    let mid = g.K.Sink.contents c.write_all.new.sink in
    let new = g.K.Sink.contents c.write_packet_lines.new.sink in
    let text_is : c.as_slice.result.now ≡ config_text c.args.config.now = c.as_slice.ensures ∙ c.in-Ok.ensures in
    subst (λ (t : List ℕ). TakesPrefix old (t ++ packet_lines 1 c.args.packets.now) new) text_is
    (subst (λ (l : List (List ℕ)). TakesPrefix old (c.as_slice.result.now ++ packet_lines 1 l) new) c.as_slice-2.ensures
    (takes_then_prefix old mid new c.as_slice.result.now (packet_lines 1 c.as_slice-2.result.now) c.in-Ok-write_all.ensures.whole c.in-Err-write_packet_lines.ensures.prefix))
