use Rattle.std.proofs.Common.{◌≡◌, ◌∙◌, ◌≤◌, ◌++◌, List, ℕ, ap, drop, length, length-take-le, rules, subst, sym, take}
use Rattle.std.proofs.Math.Seq.{take-length}
use Rattle.spdm_basis.specs.Stream.{Gives}
use Rattle.frame_stream.specs.Standing.{in_front}
use Rattle.frame_stream.specs.Lines.{to_come}
use Rattle.frame_stream.specs.Text.{line_of, text_to}
use Rattle.frame_stream.proofs.Parts.{ended_text, gives_all, gives_more, so_far_more, too_long, whole_text, within_limit}
use Rattle.frame_stream.proofs.text.read_text_to.Goals as goal

pub returns-then-own-limit-clause-too_long : goal.returns-then-own-limit-clause-too_long
returns-then-own-limit-clause-too_long g c =
    let old = in_front c.args.before (g.S.Source.remaining c.args.source.now) in
    let new = g.S.Source.remaining c.loop-last.source in
    let text = c.loop-last.text in
    let ahead = c.loop-last.ahead in
    let last = c.args.last in
    let own = c.own_part-own.result.0 in
    let behind = c.own_part-own.result.1 in
    let goes = subst (λ (l : List ℕ). (bytes : List ℕ) → to_come last c.loop-last.place (take own l ++ bytes) ≡ take own l ++ to_come last behind bytes) c.as_slice.ensures.value c.own_part-own.ensures.own in
    let few = subst (λ (l : List ℕ). own ≤ length l) c.as_slice.ensures.value c.own_part-own.ensures.count in
    λ _. too_long last old new text ahead own c.args.limit behind c.loop-last.invariant.given
    (so_far_more last text (take own ahead) c.loop-last.place behind c.loop-last.invariant.own goes) (rw c.as_slice-in-loop-last.ensures at c.if-own-limit.true) few

pub returns-in-Ended-clause-text : goal.returns-in-Ended-clause-text
returns-in-Ended-clause-text g c =
    let old = in_front c.args.before (g.S.Source.remaining c.args.source.now) in
    let new = g.S.Source.remaining c.loop-last.source in
    let text = c.loop-last.text in
    let ahead = c.loop-last.ahead in
    let last = c.args.last in
    let own = c.own_part-own.result.0 in
    let behind = c.own_part-own.result.1 in
    let goes = subst (λ (l : List ℕ). (bytes : List ℕ) → to_come last c.loop-last.place (take own l ++ bytes) ≡ take own l ++ to_come last behind bytes) c.as_slice.ensures.value c.own_part-own.ensures.own in
    let ended = ended_text last old new text ahead own behind c.in-Ended.is c.loop-last.invariant.given
    (so_far_more last text (take own ahead) c.loop-last.place behind c.loop-last.invariant.own goes) in
    let kept : c.extend.new.self ≡ text ++ take own ahead = c.in-Ok.ensures.ok ∙ ap (λ (l : List ℕ). text ++ l) (c.split_at.ensures.front ∙ ap (λ (l : List ℕ). take own l) c.as_slice-in-loop-last-2.ensures.value) in
    let plain : c.extend-in-Ended.new.self ≡ drop own ahead =
    c.in-Ok-extend.ensures.ok ∙ ap (λ (l : List ℕ). l ++ c.split_at.result.1.now) c.new-before.ensures ∙ c.split_at.ensures.back ∙ ap (λ (l : List ℕ). drop own l) c.as_slice-in-loop-last-2.ensures.value in
    λ left e.
    let said = ended left e in
    (kept ∙ said.0, (said.1.0, said.1.1, said.1.2 ∙ ap (λ (l : List ℕ). l ++ said.1.0) (sym plain)))

pub returns-then-count-eq0-clause-text : goal.returns-then-count-eq0-clause-text
returns-then-count-eq0-clause-text g c =
    let old = in_front c.args.before (g.S.Source.remaining c.args.source.now) in
    let new = g.S.Source.remaining c.loop-last.source in
    let text = c.loop-last.text in
    let ahead = c.loop-last.ahead in
    let last = c.args.last in
    let own = c.own_part-own.result.0 in
    let behind = c.own_part-own.result.1 in
    let goes = subst (λ (l : List ℕ). (bytes : List ℕ) → to_come last c.loop-last.place (take own l ++ bytes) ≡ take own l ++ to_come last behind bytes) c.as_slice.ensures.value c.own_part-own.ensures.own in
    let all : own ≡ length ahead = c.own_part-own.ensures.all c.in_default-behind.not-Ended ∙ ap (λ (l : List ℕ). length l) c.as_slice.ensures.value in
    let whole : ahead ≡ take own ahead = sym (ap (λ n. take n ahead) all ∙ take-length ahead) in
    let kept : c.extend.new.self ≡ text ++ take own ahead = c.in-Ok.ensures.ok ∙ ap (λ (l : List ℕ). text ++ l) (c.split_at.ensures.front ∙ ap (λ (l : List ℕ). take own l) c.as_slice-in-loop-last-2.ensures.value) in
    let given = subst (λ (l : List ℕ). Gives old (text ++ l) new) whole c.loop-last.invariant.given in
    let none = subst (λ n. Gives new (take n c.read.new.into) (g.S.Source.remaining c.read.new.self)) c.if-count-eq0.true c.in-Ok-read.ensures.gives in
    let said = whole_text last old new (g.S.Source.remaining c.read.new.self) (text ++ take own ahead) behind given (c.in-Ok-read.ensures.end c.if-count-eq0.true) none
    (so_far_more last text (take own ahead) c.loop-last.place behind c.loop-last.invariant.own goes) in
    λ left e. (kept ∙ (said left e).0, ((said left e).1.0, (said left e).1.1, (said left e).1.2 ∙ ap (λ (l : List ℕ). l ++ (said left e).1.0) (sym c.new.ensures)))

pub loop-last-preserved : goal.loop-last-preserved
loop-last-preserved g c =
    let old = g.S.Source.remaining c.args.source.now in
    let mid = g.S.Source.remaining c.loop-last.source in
    let new = g.S.Source.remaining c.read.new.self in
    let text = c.loop-last.text in
    let ahead = c.loop-last.ahead in
    let last = c.args.last in
    let own = c.own_part-own.result.0 in
    let behind = c.own_part-own.result.1 in
    let got = take c.in-Ok-read.count c.read.new.into in
    let goes = subst (λ (l : List ℕ). (bytes : List ℕ) → to_come last c.loop-last.place (take own l ++ bytes) ≡ take own l ++ to_come last behind bytes) c.as_slice.ensures.value c.own_part-own.ensures.own in
    let few = subst (λ (l : List ℕ). own ≤ length l) c.as_slice.ensures.value c.own_part-own.ensures.count in
    let all : own ≡ length ahead = c.own_part-own.ensures.all c.in_default-behind.not-Ended ∙ ap (λ (l : List ℕ). length l) c.as_slice.ensures.value in
    let whole : ahead ≡ take own ahead = sym (ap (λ n. take n ahead) all ∙ take-length ahead) in
    let kept : c.extend.new.self ≡ text ++ take own ahead = c.in-Ok.ensures.ok ∙ ap (λ (l : List ℕ). text ++ l) (c.split_at.ensures.front ∙ ap (λ (l : List ℕ). take own l) c.as_slice-in-loop-last-2.ensures.value) in
    let both : c.extend.new.self ++ c.replace.new.self ≡ (text ++ ahead) ++ got =
    ap (λ (l : List ℕ). l ++ c.replace.new.self) (kept ∙ ap (λ (l : List ℕ). text ++ l) (sym whole)) ∙ ap (λ (l : List ℕ). (text ++ ahead) ++ l) c.in-Ok-replace.ensures.ok in
    let given = gives_all (in_front c.args.before old) mid new (text ++ ahead) got c.loop-last.invariant.given c.in-Ok-read.ensures.gives in
    record {
      given = λ left e. let a = given left e in (a.0, a.1, a.2 ∙ ap (λ (l : List ℕ). l ++ a.0) (sym both));
      gave = gives_more old mid new got c.loop-last.invariant.gave c.in-Ok-read.ensures.gives;
      later = search rules;
      within = within_limit c.args.limit text (take own ahead) c.extend.new.self own kept (length-take-le own ahead few) (rw c.as_slice-in-loop-last.ensures at c.if-own-limit.false) c.loop-last.invariant.within;
      more = c.own_part-own.ensures.more c.in_default-behind.not-Ended;
      own = subst (λ (l : List ℕ). (bytes : List ℕ) → text_to (line_of last) (l ++ bytes) ≡ l ++ to_come last behind bytes) (sym kept) (so_far_more last text (take own ahead) c.loop-last.place behind c.loop-last.invariant.own goes);
    }
