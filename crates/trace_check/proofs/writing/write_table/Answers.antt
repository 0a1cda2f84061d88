use Rattle.std.proofs.Common.{◌++◌, ◌∙◌, [], ap, subst, sym, List, Option, Some, ℕ}
use Rattle.std.proofs.lemmas.List.{append-nil}
use Rattle.std.proofs.lemmas.Result.{on_ok_weaker}
use Rattle.check_laws.specs.declared.verdict.Seen as declared
use Rattle.trace_text.specs.OtherLines.{conforms_text}
use Rattle.spdm_basis.specs.Stream.{Takes, TakesPrefix}
use Rattle.trace_check.proofs.writing.write_table.Goals as goal
use Rattle.trace_check.specs.Lines.{entries_text}
use Rattle.spdm_show.proofs.LinesBefore.{takes_both, takes_then_prefix}

-- Nothing was taken.
takes_nothing : (old : Option (List ℕ)) → Takes old [] old
takes_nothing old = λ held e. e ∙ ap Some (sym (append-nil held))

pub returns-in_err-write_all-clause-prefix : goal.returns-in_err-write_all-clause-prefix
returns-in_err-write_all-clause-prefix g c =
    let old = g.K.Sink.contents c.args.sink.now in
    let new = g.K.Sink.contents c.write_all.new.sink in
    takes_then_prefix old old new [] conforms_text (entries_text c.args.table.now) (takes_nothing old)
    (subst (λ (t : List ℕ). TakesPrefix old t new) (c.as_slice.ensures.value ∙ c.line_conforms.ensures) c.in_err-write_all.ensures.prefix)

pub returns-clause-whole : goal.returns-clause-whole
returns-clause-whole g c =
    let old = g.K.Sink.contents c.args.sink.now in
    let mid = g.K.Sink.contents c.write_all.new.sink in
    let new = g.K.Sink.contents c.write_entries.new.sink in
    let first : Takes old conforms_text mid =
    subst (λ (t : List ℕ). Takes old t mid) (c.as_slice.ensures.value ∙ c.line_conforms.ensures) c.in_ok-write_all.ensures.whole in
    on_ok_weaker c.write_entries.result
    (λ (rest : Takes mid (entries_text c.as_slice-2.result.now) new).
    takes_both old mid new conforms_text (entries_text c.args.table.now) first
    (subst (λ (l : List declared.Seen). Takes mid (entries_text l) new) c.as_slice-2.ensures rest))
    c.write_entries.ensures.whole

pub returns-clause-prefix : goal.returns-clause-prefix
returns-clause-prefix g c =
    let old = g.K.Sink.contents c.args.sink.now in
    let mid = g.K.Sink.contents c.write_all.new.sink in
    let new = g.K.Sink.contents c.write_entries.new.sink in
    let table = c.args.table.now in
    let first : Takes old conforms_text mid =
    subst (λ (t : List ℕ). Takes old t mid) (c.as_slice.ensures.value ∙ c.line_conforms.ensures) c.in_ok-write_all.ensures.whole in
    let rest : TakesPrefix mid (entries_text table) new =
    subst (λ (l : List declared.Seen). TakesPrefix mid (entries_text l) new) c.as_slice-2.ensures c.write_entries.ensures.prefix in
    subst (λ (t : List ℕ). TakesPrefix old (conforms_text ++ t) new) (append-nil (entries_text table))
    (takes_then_prefix old mid new conforms_text (entries_text table) [] first rest)
