-- The chunks of a large response that are in progress, with one more.
use Rattle.std.proofs.Common.{refl, ◌≡◌, ◌∙◌, ◌≤◌, ◌<◌, ◌+◌, ◌-◌, ◌*◌, ◌^◌, ℕ, List, [], ◌∷◌, true, false, Bool, Option, Some, None, ap, sym, subst, length, min, nat_lt, nat_eq, not, arith, eqb-true, length-append}
use Rattle.std.specs.Prelude.{◌==◌, if◌then◌else◌}
use Rattle.std.proofs.lemmas.Grind.{common_steps}
use Rattle.chunking.specs.Collecting.{accepted_unless, accepted_with, answer_from, broken_rule, collected, first_rule, joined, joined_with, later_rule, size_rule, told_by, told_size, under_way}
use Rattle.chunking.specs.Collecting.Collection.{More, Refused, Whole}
use Rattle.spdm_grammar.specs.Message.{ChunkMessage}
use Rattle.spdm_grammar.specs.declared.ChunkFault.{ChunkFault}
use Rattle.spdm_grammar.specs.declared.ChunkFault.TheVariants.{WrongHandle, WrongNumber}
use Rattle.spdm_grammar.specs.declared.names.TheConstants.{MAX_MESSAGE_SIZE}
use Rattle.requester_machine.specs.ClearAnswers.{get_fault}
use Rattle.requester_machine.specs.UnderWay.{AreNumbered, AreUnfinished, AreUnderWay}
use Rattle.chunking.proofs.FewChunks.{most, not_too_large}

-- None yet.
pub none_yet : (max handle : ℕ) → AreUnderWay max handle 0 []
none_yet max handle = record { accepted = refl; whole = refl; numbered = tt; counted = refl; unfinished = tt; told = omega arith; held = omega arith; few = omega arith }

-- ---- The rules that a chunk keeps.

-- A chunk without the last mark that breaks no rule of sizes and marks.
record Adds (told held : ℕ) (c : ChunkMessage) : Type 0 where
  open_yet : held + length c.chunk < told
  enough : 26 ≤ length c.chunk

adds : (told held : ℕ) (c : ChunkMessage) → c.last ≡ false → size_rule told held c ≡ None → Adds told held c
adds told held c more e = record { open_yet = grind (arith, common_steps); enough = grind (arith, common_steps) }

tested : (a b : Bool) (x y : ChunkFault) (rest : Option ChunkFault) → (if not a then Some x else (if not b then Some y else rest)) ≡ None → (a ≡ true) × (b ≡ true) × (rest ≡ None)
tested true true x y rest e = (refl, refl, e)
tested true false x y rest e = absurd (cc)
tested false b x y rest e = absurd (cc)

-- Of number 0.
first_adds : (max : ℕ) (c : ChunkMessage) → c.last ≡ false → first_rule max c ≡ None → (told_by c ≤ MAX_MESSAGE_SIZE) × Adds (told_by c) 0 c
first_adds max c more e =
    let parts = not_too_large (nat_lt (min max MAX_MESSAGE_SIZE) (told_by c)) (size_rule (told_by c) 0 c) e in
    (most max (told_by c) parts.0, adds (told_by c) 0 c more parts.1)

-- Of another number.
later_adds : (d : ChunkMessage) (earlier : List ChunkMessage) (c : ChunkMessage) → c.last ≡ false → later_rule (d ∷ earlier) c ≡ None → Adds (told_size (d ∷ earlier)) (length (joined (d ∷ earlier))) c
later_adds d earlier c more e =
    adds (told_size (d ∷ earlier)) (length (joined (d ∷ earlier))) c more
    (tested (nat_eq c.handle d.handle) (nat_eq c.number (d.number + 1)) WrongHandle WrongNumber (size_rule (told_size (d ∷ earlier)) (length (joined (d ∷ earlier))) c) e).2

-- ---- One more chunk.

number_of_first : (n m : ℕ) (b : Bool) → (n == 0) ≡ b → n ≡ m → m ≡ 0 → b ≡ true
number_of_first n m true is same none = refl
number_of_first n m false is same none = grind (arith, common_steps)

number_of_later : (n m : ℕ) (b : Bool) → (n == 0) ≡ b → n ≡ m + 1 → b ≡ false
number_of_later n m true is same = grind (arith, common_steps)
number_of_later n m false is same = refl

-- What is reported and held with it.
record Grown (before : List ChunkMessage) : Type 0 where
  unfinished : AreUnfinished before
  told : told_size before ≤ MAX_MESSAGE_SIZE
  held : 26 * length before ≤ length (joined before)

grown : (max : ℕ) (before : List ChunkMessage) (c : ChunkMessage) (b : Bool) → (c.number == 0) ≡ b → c.number ≡ length before → c.last ≡ false → Grown before
    → (if b then first_rule max c else later_rule before c) ≡ None → Grown (c ∷ before)
grown max [] c true is counted more g none =
    let a = first_adds max c more none in
    let x : length c.chunk < told_by c = omega (arith, a.1.open_yet) in
    record { unfinished = x; told = a.0; held = omega (arith, a.1.enough) }
grown max [] c false is counted more g none = absurd (cc)
grown max (d ∷ earlier) c true is counted more g none = absurd (let x : c.number ≡ 0 = eqb-true c.number 0 is in omega (arith, x, counted))
grown max (d ∷ earlier) c false is counted more g none =
    let a = later_adds d earlier c more none in
    let long = length-append (joined (d ∷ earlier)) c.chunk in
    record { unfinished = omega (arith, a.open_yet, long); told = g.told; held = omega (arith, a.enough, long, g.held) }

under : (before : List ChunkMessage) (c : ChunkMessage) (b : Bool) → (c.number == 0) ≡ b → c.number ≡ length before → under_way before ≡ before
    → (if b then c ∷ [] else c ∷ under_way before) ≡ c ∷ before
under [] c true is counted whole = refl
under [] c false is counted whole = refl
under (d ∷ earlier) c true is counted whole = absurd (let x : c.number ≡ 0 = eqb-true c.number 0 is in omega (arith, x, counted))
under (d ∷ earlier) c false is counted whole = ap (λ (cs : List ChunkMessage). c ∷ cs) whole

few : (before : List ChunkMessage) → Grown before → length before ≤ 157
few [] g = omega arith
few (d ∷ earlier) g = (let u : length (joined (d ∷ earlier)) < told_size (d ∷ earlier) = g.unfinished in omega (arith, u, g.told, g.held))

held_by : (before : List ChunkMessage) (number : ℕ) → length before ≡ number → 26 * number ≤ length (joined before) → 26 * length before ≤ length (joined before)
held_by before number is held = omega arith

-- The chunk that was asked for breaks no rule and is not the last: it is in progress with those before it.
pub one_more : (max handle number : ℕ) (before : List ChunkMessage) (c : ChunkMessage) → get_fault max handle number before c ≡ None → c.last ≡ false → AreUnderWay max handle number before
    → AreUnderWay max c.handle (c.number + 1) (c ∷ before)
one_more max handle number before c none more u =
    record {
      accepted = ap (λ (a : List ChunkMessage). accepted_unless (broken_rule max (under_way a) c) a c) u.accepted ∙ ap (λ (w : List ChunkMessage). accepted_unless (broken_rule max w c) before c) u.whole
          ∙ ap (λ (r : Option ChunkFault). accepted_unless r before c) kept.2;
      whole = ap (λ (b : Bool). if b then [] else (if c.number == 0 then c ∷ [] else c ∷ under_way before)) more ∙ under before c (c.number == 0) refl counted u.whole;
      numbered = (refl, counted, subst (λ (n : ℕ). AreNumbered n before) (sym (eqb-true c.handle handle kept.0)) u.numbered);
      counted = omega (arith, counted);
      unfinished = g.unfinished;
      told = g.told;
      held = omega (arith, counted, g.held);
      few = (let n = few (c ∷ before) g in omega (arith, n, counted));
    }
  where
    kept : ((c.handle == handle) ≡ true) × ((c.number == number) ≡ true) × (broken_rule max before c ≡ None)
    kept = tested (c.handle == handle) (c.number == number) WrongHandle WrongNumber (broken_rule max before c) none

    counted : c.number ≡ length before
    counted = eqb-true c.number number kept.1 ∙ sym u.counted

    g : Grown (c ∷ before)
    g = grown max before c (c.number == 0) refl counted more (record { unfinished = u.unfinished; told = u.told; held = held_by before number u.counted u.held }) kept.2

-- ---- What a collector answers.

not_last : (c : ChunkMessage) (message : List ℕ) (b : Bool) → c.last ≡ b → More ≡ (if b then Whole message else More) → c.last ≡ false
not_last c message true is more = absurd (cc more)
not_last c message false is more = is

pub means_more : (c : ChunkMessage) (message : List ℕ) (rule : Option ChunkFault) → More ≡ answer_from rule c message → (rule ≡ None) × (c.last ≡ false)
means_more c message (Some fault) more = absurd (cc more)
means_more c message None more = (refl, not_last c message c.last refl more)

is_last : (c : ChunkMessage) (answer message : List ℕ) (b : Bool) → c.last ≡ b → Whole answer ≡ (if b then Whole message else More) → (c.last ≡ true) × (answer ≡ message)
is_last c answer message true is whole = (is, cc whole)
is_last c answer message false is whole = absurd (cc whole)

pub means_whole : (c : ChunkMessage) (answer message : List ℕ) (rule : Option ChunkFault) → Whole answer ≡ answer_from rule c message → (rule ≡ None) × (c.last ≡ true) × (answer ≡ message)
means_whole c answer message (Some fault) whole = absurd (cc whole)
means_whole c answer message None whole = (let is = is_last c answer message c.last refl whole in (refl, is.0, is.1))

no_fault : {A : Type 0} (fault : ChunkFault) (message : List ℕ) (b : Bool) → Refused fault ≡ (if b then Whole message else More) → A
no_fault fault message true e = absurd (cc e)
no_fault fault message false e = absurd (cc e)

pub means_refused : (c : ChunkMessage) (fault : ChunkFault) (message : List ℕ) (rule : Option ChunkFault) → Refused fault ≡ answer_from rule c message → rule ≡ Some fault
means_refused c fault message (Some other) e = (let same : fault ≡ other = cc e in ap (λ (f : ChunkFault). Some f) (sym same))
means_refused c fault message None e = no_fault fault message c.last e

-- ---- A chunk behind which more are awaited.

-- It is accepted, and is in progress with those before it.
pub record IsNext (most handle number : ℕ) (before : List ChunkMessage) (c : ChunkMessage) : Type 0 where
  pub counted : c.number ≡ number
  pub accepted : accepted_with most before c ≡ c ∷ before
  pub under : AreUnderWay most c.handle (c.number + 1) (c ∷ before)

pub is_next : (most handle number : ℕ) (before : List ChunkMessage) (c : ChunkMessage) → (c.handle == handle) ≡ true → (c.number == number) ≡ true → AreUnderWay most handle number before
    → More ≡ collected most before c → IsNext most handle number before c
is_next most handle number before c same_handle same_number under more =
    let m = means_more c (joined_with (under_way before) c) (broken_rule most (under_way before) c) more in
    let none : get_fault most handle number before c ≡ None =
    ap (λ (b : Bool). if not b then Some WrongHandle else (if not (c.number == number) then Some WrongNumber else broken_rule most before c)) same_handle
    ∙ ap (λ (b : Bool). if not b then Some WrongNumber else broken_rule most before c) same_number
    ∙ ap (λ (x : List ChunkMessage). broken_rule most x c) (sym under.whole) ∙ m.0 in
    record {
      counted = eqb-true c.number number same_number;
      accepted = ap (λ (r : Option ChunkFault). accepted_unless r before c) m.0;
      under = one_more most handle number before c none m.1 under;
    }

-- The number after it, which has two bytes.
pub counted_on : (n m : ℕ) → m ≡ min (n + 1) (2 ^ 16 - 1) → n + 1 ≤ 157 → m ≡ n + 1
counted_on n m is few = omega arith
