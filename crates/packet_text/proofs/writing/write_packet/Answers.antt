use Rattle.std.proofs.Common.{◌≡◌, ◌∙◌, ℕ, List, ap, subst}
use Rattle.packet_text.specs.Styles.{contents_of, written_by, written_of}
use Rattle.spdm_basis.specs.Stream.{Takes, TakesPrefix}
use Rattle.packet_text.proofs.writing.write_packet.Goals as goal

pub returns-in-Ok-write_all-clause-whole : goal.returns-in-Ok-write_all-clause-whole
returns-in-Ok-write_all-clause-whole g c = λ older number k.
    let w = c.args.config.now in
    let packet = c.args.packet.now in
    let bytes : c.follow.new.self.text ≡ written_of c.args.style w older packet = c.in-Ok.ensures.text older k ∙ ap (λ (n : ℕ). written_by c.args.style w n packet (contents_of w older packet)) number in
    subst (λ (t : List ℕ). Takes (g.K.Sink.contents c.args.sink.now) t (g.K.Sink.contents c.write_all.new.sink)) (c.as_slice.ensures ∙ bytes) c.in-Ok-write_all.ensures.whole

pub returns-in-Ok-write_all-clause-follows : goal.returns-in-Ok-write_all-clause-follows
returns-in-Ok-write_all-clause-follows g c = λ older k. c.in-Ok.ensures.follows older k

pub returns-in-Err-clause-prefix : goal.returns-in-Err-clause-prefix
returns-in-Err-clause-prefix g c = λ older number k.
    let w = c.args.config.now in
    let packet = c.args.packet.now in
    let bytes : c.follow.new.self.text ≡ written_of c.args.style w older packet = c.in-Ok.ensures.text older k ∙ ap (λ (n : ℕ). written_by c.args.style w n packet (contents_of w older packet)) number in
    subst (λ (t : List ℕ). TakesPrefix (g.K.Sink.contents c.args.sink.now) t (g.K.Sink.contents c.write_all.new.sink)) (c.as_slice.ensures ∙ bytes) c.in-Err.ensures.prefix
