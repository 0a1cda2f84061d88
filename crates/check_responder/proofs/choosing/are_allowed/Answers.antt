use Rattle.std.proofs.Common.{◌≡◌, ◌∙◌, ◌&&◌, ap, sym, ℕ, List, Bool, true, false, length, refl, arith}
use Rattle.std.proofs.lemmas.Bool.{le-leb}
use Rattle.std.specs.Prelude.{nat_le}
use Rattle.responder_machine.specs.Place.{place_terms}
use Rattle.spdm_basis.specs.Sizes.{hash_size}
use Rattle.spdm_machine.specs.Terms.{hash_len}
use Rattle.check_responder.specs.JudgedResponder.{are_few, is_id, is_unused}
use Rattle.check_responder.proofs.choosing.are_allowed.Goals as goal

second_false : (a b rest : Bool) → b ≡ false → false ≡ (a && (b && rest))
second_false true b rest is = ap (λ (x : Bool). x && rest) (sym is)
second_false false b rest is = refl

all_true : (a b c d e : Bool) → a ≡ true → b ≡ true → c ≡ true → d ≡ e → d ≡ (a && (b && (c && e)))
all_true true true true d e x y z same = same
all_true false b c d e x y z same = absurd (cc)
all_true true false c d e x y z same = absurd (cc)
all_true true true false d e x y z same = absurd (cc)

pub returns-then-not-is_unused-clause-value : goal.returns-then-not-is_unused-clause-value
returns-then-not-is_unused-clause-value c = λ r h p f stands few chosen free.
    let used : is_unused h f.id ≡ false = ap (is_unused h) free.id ∙ sym (c.is_unused.ensures r h stands few) ∙ c.if-not-is_unused.true in
    second_false (is_id f.id) (is_unused h f.id) _ used

pub returns-clause-value : goal.returns-clause-value
returns-clause-value c = λ r h p f stands few chosen free.
    let one : is_id f.id ≡ true = ap is_id free.id ∙ sym c.is_id.ensures.value ∙ c.if-not-is_id.false in
    let two : is_unused h f.id ≡ true = ap (is_unused h) free.id ∙ sym (c.is_unused.ensures r h stands few) ∙ c.if-not-is_unused.false in
    let three : nat_le (hash_len (place_terms p)) (length f.context) ≡ true =
    le-leb (hash_len (place_terms p)) (length f.context) (let long = c.if-values-size.false in let one = c.size.ensures in let two = ap hash_size chosen in let three = ap length free.context in omega (arith, long, one, two, three)) in
    let four : c.are_few.result ≡ are_few f.reply f.pad = c.are_few.ensures ∙ ap (λ (l : List ℕ). are_few l c.args.values.now.pad.now) (sym free.reply) ∙ ap (are_few f.reply) (sym free.pad) in
    all_true (is_id f.id) (is_unused h f.id) _ c.are_few.result (are_few f.reply f.pad) one two three four
