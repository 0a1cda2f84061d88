use Rattle.std.proofs.Common.{◌+◌, ◌++◌, ◌≡◌, ◌∙◌, ap, subst, sym, arith, drop, take, get_or, Some, List, ℕ}
use Rattle.std.proofs.lemmas.Grind.{common_steps}
use Rattle.spdm_basis.specs.Stream.{Takes, TakesPrefix}
use Rattle.script_text.specs.declared.texts.shown.Shown.{Shown}
use Rattle.spdm_show.proofs.LinesBefore.{lines_before, lines_before_more, lines_through, prefix_of_whole, takes_both, takes_then_prefix}
use Rattle.spdm_show.specs.Shown.{line_of, lines_of}
use Rattle.spdm_show.proofs.showing.write_lines.Goals as goal

pub returns-in_err-write_all-clause-prefix : goal.returns-in_err-write_all-clause-prefix
returns-in_err-write_all-clause-prefix g c =
    let shown = c.args.shown.now in
    let i = c.loop-message.message-index in
    let message = c.message-item.result in
    let line_is : c.as_slice.result.now ≡ line_of (get_or shown i message) = c.as_slice.ensures.value ∙ c.line_of.ensures ∙ ap line_of c.message-item.is in
    let written = takes_then_prefix (g.K.Sink.contents c.args.sink.now) (g.K.Sink.contents c.loop-message.sink) (g.K.Sink.contents c.write_all.new.sink)
    (lines_before shown i) (line_of (get_or shown i message)) (lines_of (drop (i + 1) shown))
    c.loop-message.invariant.written
    (subst (λ (t : List ℕ). TakesPrefix (g.K.Sink.contents c.loop-message.sink) t (g.K.Sink.contents c.write_all.new.sink)) line_is c.in_err-write_all.ensures.prefix) in
    subst (λ (t : List ℕ). TakesPrefix (g.K.Sink.contents c.args.sink.now) t (g.K.Sink.contents c.write_all.new.sink)) (sym (lines_through shown i message c.loop-message-test.true)) written

pub loop-message-preserved : goal.loop-message-preserved
loop-message-preserved g c =
    let shown = c.args.shown.now in
    let i = c.loop-message.message-index in
    let message = c.message-item.result in
    let line_is : c.as_slice.result.now ≡ line_of (get_or shown i message) = c.as_slice.ensures.value ∙ c.line_of.ensures ∙ ap line_of c.message-item.is in
    record {
      written = λ held e.
          takes_both (g.K.Sink.contents c.args.sink.now) (g.K.Sink.contents c.loop-message.sink) (g.K.Sink.contents c.write_all.new.sink) (lines_before shown i) (line_of (get_or shown i message))
          c.loop-message.invariant.written
          (subst (λ (t : List ℕ). Takes (g.K.Sink.contents c.loop-message.sink) t (g.K.Sink.contents c.write_all.new.sink)) line_is c.in_ok-write_all.ensures.whole)
          held e
          ∙ ap (λ t. Some (held ++ t)) (sym (lines_before_more shown i message c.loop-message-test.true));
      later = omega (arith, c.loop-message.invariant.later, c.write_all.ensures.later);
    }

pub returns-clause-prefix : goal.returns-clause-prefix
returns-clause-prefix g c =
    let shown = c.args.shown.now in
    let i = c.loop-message.message-index in
    let all : take i shown ≡ shown = grind (arith, common_steps) in
    prefix_of_whole (g.K.Sink.contents c.args.sink.now) (g.K.Sink.contents c.loop-message.sink) (lines_of shown)
    (λ held e. c.loop-message.invariant.written held e ∙ ap (λ (l : List Shown). Some (held ++ lines_of l)) all)
