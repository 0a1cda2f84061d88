use Rattle.std.proofs.Common.{◌+◌, ◌++◌, ◌≡◌, ◌∙◌, ap, subst, sym, arith, drop, take, get_or, Some, List, ℕ}
use Rattle.std.proofs.lemmas.Grind.{common_steps}
use Rattle.check_laws.specs.Verdict.{seen_of}
use Rattle.check_laws.specs.declared.verdict.Seen as declared
use Rattle.spdm_basis.specs.Stream.{Takes, TakesPrefix}
use Rattle.trace_check.proofs.EntriesBefore.{entries_before, entries_before_more, entries_through}
use Rattle.trace_check.proofs.writing.write_entries.Goals as goal
use Rattle.trace_check.specs.Lines.{entries_text, entry_text}
use Rattle.spdm_show.proofs.LinesBefore.{prefix_of_whole, takes_both, takes_then_prefix}

pub returns-in_err-write_all-clause-prefix : goal.returns-in_err-write_all-clause-prefix
returns-in_err-write_all-clause-prefix g c =
    let table = c.args.entries.now in
    let i = c.loop-seen.seen-index in
    let seen = c.seen-item.result in
    let line_is : c.as_slice.result.now ≡ entry_text (seen_of (get_or table i seen)) = c.as_slice.ensures.value ∙ c.line_of.ensures ∙ ap (λ (s : declared.Seen). entry_text (seen_of s)) c.seen-item.is in
    let written = takes_then_prefix (g.K.Sink.contents c.args.sink.now) (g.K.Sink.contents c.loop-seen.sink) (g.K.Sink.contents c.write_all.new.sink)
    (entries_before table i) (entry_text (seen_of (get_or table i seen))) (entries_text (drop (i + 1) table))
    c.loop-seen.invariant.written
    (subst (λ (t : List ℕ). TakesPrefix (g.K.Sink.contents c.loop-seen.sink) t (g.K.Sink.contents c.write_all.new.sink)) line_is c.in_err-write_all.ensures.prefix) in
    subst (λ (t : List ℕ). TakesPrefix (g.K.Sink.contents c.args.sink.now) t (g.K.Sink.contents c.write_all.new.sink)) (sym (entries_through table i seen c.loop-seen-test.true)) written

pub loop-seen-preserved : goal.loop-seen-preserved
loop-seen-preserved g c =
    let table = c.args.entries.now in
    let i = c.loop-seen.seen-index in
    let seen = c.seen-item.result in
    let line_is : c.as_slice.result.now ≡ entry_text (seen_of (get_or table i seen)) = c.as_slice.ensures.value ∙ c.line_of.ensures ∙ ap (λ (s : declared.Seen). entry_text (seen_of s)) c.seen-item.is in
    record {
      written = λ held e.
          takes_both (g.K.Sink.contents c.args.sink.now) (g.K.Sink.contents c.loop-seen.sink) (g.K.Sink.contents c.write_all.new.sink) (entries_before table i) (entry_text (seen_of (get_or table i seen)))
          c.loop-seen.invariant.written
          (subst (λ (t : List ℕ). Takes (g.K.Sink.contents c.loop-seen.sink) t (g.K.Sink.contents c.write_all.new.sink)) line_is c.in_ok-write_all.ensures.whole)
          held e
          ∙ ap (λ t. Some (held ++ t)) (sym (entries_before_more table i seen c.loop-seen-test.true));
      later = omega (arith, c.loop-seen.invariant.later, c.write_all.ensures.later);
    }

pub returns-clause-prefix : goal.returns-clause-prefix
returns-clause-prefix g c =
    let table = c.args.entries.now in
    let i = c.loop-seen.seen-index in
    let all : take i table ≡ table = grind (arith, common_steps) in
    prefix_of_whole (g.K.Sink.contents c.args.sink.now) (g.K.Sink.contents c.loop-seen.sink) (entries_text table)
    (λ held e. c.loop-seen.invariant.written held e ∙ ap (λ (l : List declared.Seen). Some (held ++ entries_text l)) all)
