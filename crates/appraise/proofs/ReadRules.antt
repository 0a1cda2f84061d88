-- The rules that a text is make a policy: no line brings an index out of range or a second time.
use Rattle.std.proofs.Common.{◌≡◌, ◌≤◌, ◌==◌, ◌||◌, ◌&&◌, ◌++◌, ◌+◌, ℕ, Bool, true, false, cond, List, [], ◌∷◌, Option, Some, None, Result, Ok, refl, sym, ap, ◌∙◌, arith}
use Rattle.std.proofs.lemmas.Bool.{or_parts, and_parts, eqb-false, ne_eqb}
use Rattle.std.proofs.lemmas.Bool.Decides.{nat_tests}
use Rattle.std.proofs.lemmas.List.Folds.{list_any-append}
use Rattle.std.specs.Prelude.{not, nat_le}
use Rattle.spdm_grammar.specs.declared.names.TheConstants.{ALL_BLOCKS}
use Rattle.script_text.specs.HexWords.{is_hex_in, bytes_of, most_bytes}
use Rattle.script_text.specs.Lines.{lines_of, word, has_words, is_too_long, is_passed_over}
use Rattle.script_text.specs.Numbers.{is_number, is_number_in, value_of}
use Rattle.script_text.specs.PolicyText.{index_of, has_index, rule_kind, expect_fault, skip_fault, rule_fault, policy_fault as line_of_policy_fault, after_rule, after_policy, is_go, policy_lines, policy_in}
use Rattle.script_text.specs.Reading.{line_fault, unless_bad}
use Rattle.script_text.specs.declared.texts.faults.LineFault.{LineFault}
use Rattle.script_text.specs.declared.texts.faults.LineFault.TheVariants.{LineTooLong, Words, Number, Hex, Twice}
use Rattle.script_text.specs.declared.texts.faults.ScriptFault.{ScriptFault}
use Rattle.script_text.specs.declared.texts.policy_text.RuleKind.{RuleKind}
use Rattle.script_text.specs.declared.texts.policy_text.RuleKind.TheVariants as kind
use Rattle.script_text.specs.declared.texts.rule.Rule.{Rule}
use Rattle.script_text.specs.declared.texts.rule.Rule.TheVariants.{Expect, Skip}
use Rattle.appraise.specs.Policies.{has_bad_index, has_twice, policy_fault}

abbrev IsSound : List Rule → Type 0
IsSound rules = (has_bad_index rules ≡ false) × (has_twice rules ≡ false)

both_false : (a b : Bool) → a ≡ false → b ≡ false → (a || b) ≡ false
both_false a b g h = cc

other_way : (a b : ℕ) → (a == b) ≡ false → (b == a) ≡ false
other_way a b h = ne_eqb b a (λ e. eqb-false a b h (sym e))

-- one rule more, of an index in range that no rule has
once_more : (rules : List Rule) (rule : Rule) → has_twice rules ≡ false → has_index (index_of rule) rules ≡ false → has_twice (rules ++ rule ∷ []) ≡ false
once_more [] rule h free = refl
once_more (x ∷ xs) rule h free =
    let apart = or_parts (has_index (index_of x) xs) (has_twice xs) h in
    let new = or_parts (index_of x == index_of rule) (has_index (index_of rule) xs) free in
    both_false (has_index (index_of x) (xs ++ rule ∷ [])) (has_twice (xs ++ rule ∷ []))
    (list_any-append (λ (r : Rule). index_of r == index_of x) xs (rule ∷ [])
    ∙ both_false (has_index (index_of x) xs) ((index_of rule == index_of x) || false) apart.0
    (both_false (index_of rule == index_of x) false (other_way (index_of x) (index_of rule) new.0) refl))
    (once_more xs rule apart.1 new.1)

in_range : (i : ℕ) → 1 ≤ i → i ≤ 254 → ((i == 0) || nat_le ALL_BLOCKS i) ≡ false
in_range i low high = both_false (i == 0) (nat_le ALL_BLOCKS i) (ne_eqb i 0 (λ e. omega (arith, e, low))) (above i high)
  where
    above : (i : ℕ) → i ≤ 254 → nat_le 255 i ≡ false
    above i h = grind (arith, nat_tests)

push_sound : (rules : List Rule) (rule : Rule) → IsSound rules → 1 ≤ index_of rule → index_of rule ≤ 254 → has_index (index_of rule) rules ≡ false → IsSound (rules ++ rule ∷ [])
push_sound rules rule sound low high free = (
  list_any-append (λ (r : Rule). index_of r == 0 || nat_le ALL_BLOCKS (index_of r)) rules (rule ∷ [])
      ∙ both_false (has_bad_index rules) (((index_of rule == 0) || nat_le ALL_BLOCKS (index_of rule)) || false) sound.0
      (both_false ((index_of rule == 0) || nat_le ALL_BLOCKS (index_of rule)) false (in_range (index_of rule) low high) refl),
  once_more rules rule sound.1 free,
)

number_range : (low high : ℕ) (w : List ℕ) → is_number_in low high w ≡ true → (low ≤ value_of w) × (value_of w ≤ high)
number_range low high w h =
    let p = and_parts (is_number w && nat_le low (value_of w)) (nat_le (value_of w) high) h in
    let q = and_parts (is_number w) (nat_le low (value_of w)) p.0 in
    (at_most low (value_of w) q.1, at_most (value_of w) high p.1)
  where
    at_most : (x y : ℕ) → nat_le x y ≡ true → x ≤ y
    at_most x y h = grind (arith, nat_tests)

-- the tests of a line that passes
skip_parts : (a b c : Bool) → cond (not a) (Some Words) (cond (not b) (Some Number) (cond c (Some Twice) None)) ≡ None → (b ≡ true) × (c ≡ false)
skip_parts false b c h = absurd cc
skip_parts true false c h = absurd cc
skip_parts true true true h = absurd cc
skip_parts true true false h = (refl, refl)

expect_parts : (a b t x c : Bool) → cond (not a) (Some Words) (cond (not b) (Some Number) (cond (not t) (Some Number) (cond (not x) (Some Hex) (cond c (Some Twice) None)))) ≡ None
    → (b ≡ true) × (c ≡ false)
expect_parts false b t x c h = absurd cc
expect_parts true false t x c h = absurd cc
expect_parts true true false x c h = absurd cc
expect_parts true true true false c h = absurd cc
expect_parts true true true true true h = absurd cc
expect_parts true true true true false h = (refl, refl)

skip_tells : (rules : List Rule) (line : List ℕ) → skip_fault rules line ≡ None → (is_number_in 1 254 (word 1 line) ≡ true) × (has_index (value_of (word 1 line)) rules ≡ false)
unfolding skip_fault
skip_tells rules line h = skip_parts (has_words 2 line) (is_number_in 1 254 (word 1 line)) (has_index (value_of (word 1 line)) rules) h

expect_tells : (rules : List Rule) (line : List ℕ) → expect_fault rules line ≡ None → (is_number_in 1 254 (word 1 line) ≡ true) × (has_index (value_of (word 1 line)) rules ≡ false)
unfolding expect_fault
expect_tells rules line h =
    expect_parts (has_words 4 line) (is_number_in 1 254 (word 1 line)) (is_number_in 0 255 (word 2 line)) (is_hex_in 0 most_bytes (word 3 line)) (has_index (value_of (word 1 line)) rules) h

rule_sound : (rules : List Rule) (k : Option RuleKind) (line : List ℕ) → IsSound rules → rule_fault rules k line ≡ None → IsSound (after_rule rules k line)
rule_sound rules None line sound h = sound
rule_sound rules (Some kind.Go) line sound h = sound
rule_sound rules (Some kind.Expect) line sound h =
    let tells = expect_tells rules line h in
    let range = number_range 1 254 (word 1 line) tells.0 in
    push_sound rules (Expect (value_of (word 1 line)) (value_of (word 2 line)) (bytes_of (word 3 line))) sound range.0 range.1 tells.1
rule_sound rules (Some kind.Skip) line sound h =
    let tells = skip_tells rules line h in
    let range = number_range 1 254 (word 1 line) tells.0 in
    push_sound rules (Skip (value_of (word 1 line))) sound range.0 range.1 tells.1

passed_or_rule : (rules : List Rule) (line : List ℕ) (long passed : Bool) → IsSound rules
    → cond long (Some LineTooLong) (cond passed None (line_of_policy_fault rules line)) ≡ None
    → IsSound (cond passed rules (after_rule rules (rule_kind (word 0 line)) line))
passed_or_rule rules line true passed sound h = absurd cc
passed_or_rule rules line false true sound h = sound
passed_or_rule rules line false false sound h = rule_sound rules (rule_kind (word 0 line)) line sound h

line_sound : (rules : List Rule) (line : List ℕ) → IsSound rules → line_fault line_of_policy_fault rules line ≡ None → IsSound (after_policy rules line)
line_sound rules line sound h = passed_or_rule rules line (is_too_long line) (is_passed_over line) sound h

good_line : (number : ℕ) (fault : Option LineFault) (others : Result (List Rule) ScriptFault) (rules : List Rule) → unless_bad number fault others ≡ Ok rules
    → (fault ≡ None) × (others ≡ Ok rules)
good_line number None others rules h = (refl, h)
good_line number (Some f) others rules h = absurd cc

go_or_on : (go : Bool) (rules read : List Rule) (others : Result (List Rule) ScriptFault) → IsSound rules → (others ≡ Ok read → IsSound read)
    → cond go (Ok rules) others ≡ Ok read → IsSound read
go_or_on true rules read others sound more h =
    let same : rules ≡ read = cc in
    (ap has_bad_index (sym same) ∙ sound.0, ap has_twice (sym same) ∙ sound.1)
go_or_on false rules read others sound more h = more h

lines_sound : (number : ℕ) (rules : List Rule) (lines : List (List ℕ)) (read : List Rule) → IsSound rules → policy_lines number rules lines ≡ Ok read → IsSound read
lines_sound number rules [] read sound h = absurd cc
lines_sound number rules (line ∷ lines) read sound h =
    go_or_on (is_go line) rules read (unless_bad number (line_fault line_of_policy_fault rules line) (policy_lines (number + 1) (after_policy rules line) lines)) sound
    (λ e.
    let good = good_line number (line_fault line_of_policy_fault rules line) (policy_lines (number + 1) (after_policy rules line) lines) read e in
    lines_sound (number + 1) (after_policy rules line) lines read (line_sound rules line sound good.0) good.1)
    h

no_fault : (rules : List Rule) → IsSound rules → policy_fault rules ≡ None
no_fault rules sound = cc (sound.0, sound.1)

pub read_rules : (first : ℕ) (text : List ℕ) (rules : List Rule) → policy_in first text ≡ Ok rules → policy_fault rules ≡ None
unfolding policy_in
read_rules first text rules h = no_fault rules (lines_sound first [] (lines_of text) rules (refl, refl) h)
