-- An accepted chunk has a number below 158, which counts the chunks of its message before it.
use Rattle.std.proofs.Common.{◌≡◌, ◌∙◌, ◌+◌, ◌*◌, ◌<◌, ◌≤◌, ℕ, Bool, true, false, not, nat_lt, List, [], ◌∷◌, length, min, refl, arith, nat_eq, length-append}
use Rattle.std.proofs.lemmas.Grind.{common_steps}
use Rattle.std.proofs.lemmas.Bool.{eqb-true}
use Rattle.std.specs.Prelude.{Option, None, Some, if◌then◌else◌}
use Rattle.spdm_grammar.specs.Message.{ChunkMessage}
use Rattle.spdm_grammar.specs.declared.ChunkFault.{ChunkFault}
use Rattle.spdm_grammar.specs.declared.ChunkFault.TheVariants.{WrongHandle, WrongNumber, TooLarge}
use Rattle.spdm_grammar.specs.declared.names.TheConstants.{MAX_MESSAGE_SIZE}
use Rattle.chunking.specs.Collecting.{under_way, joined, told_by, told_size, size_rule, first_rule, later_rule, broken_rule, accepted_unless, accepted_of}

-- What a chunk that breaks no rule of sizes and marks adds.
record Adds (told held : ℕ) (c : ChunkMessage) : Type 0 where
  within : held + length c.chunk ≤ told
  filled : 0 < length c.chunk
  enough : c.last ≡ false → 26 ≤ length c.chunk

adds : (told held : ℕ) (c : ChunkMessage) → size_rule told held c ≡ None → Adds told held c
adds told held c e = record {
  within = grind (arith, common_steps);
  filled = grind (arith, common_steps);
  enough = λ last. grind (arith, common_steps);
}

pub not_too_large : (test : Bool) (rule : Option ChunkFault) → (if test then Some TooLarge else rule) ≡ None → (test ≡ false) × (rule ≡ None)
not_too_large true rule e = cc
not_too_large false rule e = (refl, e)

of_the_message : (handle number : Bool) (rule : Option ChunkFault) →
    (if not handle then Some WrongHandle else (if not number then Some WrongNumber else rule)) ≡ None → (number ≡ true) × (rule ≡ None)
of_the_message true true rule e = (refl, e)
of_the_message true false rule e = cc
of_the_message false number rule e = cc

pub most : (max told : ℕ) → nat_lt (min max MAX_MESSAGE_SIZE) told ≡ false → told ≤ MAX_MESSAGE_SIZE
most max told small = grind (arith, common_steps)

first_adds : (max : ℕ) (c : ChunkMessage) → first_rule max c ≡ None → (told_by c ≤ MAX_MESSAGE_SIZE) × Adds (told_by c) 0 c
first_adds max c e =
    let parts = not_too_large (nat_lt (min max MAX_MESSAGE_SIZE) (told_by c)) (size_rule (told_by c) 0 c) e in
    let small : nat_lt (min max MAX_MESSAGE_SIZE) (told_by c) ≡ false = parts.0 in
    (most max (told_by c) small, adds (told_by c) 0 c parts.1)

later_adds : (d : ChunkMessage) (earlier : List ChunkMessage) (c : ChunkMessage) → later_rule (d ∷ earlier) c ≡ None →
    (c.number ≡ d.number + 1) × Adds (told_size (d ∷ earlier)) (length (joined (d ∷ earlier))) c
later_adds d earlier c e =
    let told = told_size (d ∷ earlier) in
    let held = length (joined (d ∷ earlier)) in
    let parts = of_the_message (nat_eq c.handle d.handle) (nat_eq c.number (d.number + 1)) (size_rule told held c) e in
    (eqb-true c.number (d.number + 1) parts.0, adds told held c parts.1)

-- The newest of the chunks in progress has a number that counts those before it, each of which has 26 bytes.
abbrev Grows : List ChunkMessage → Type 0
Grows [] = Unit {0}
Grows (d ∷ earlier) = (26 * (d.number + 1) ≤ length (joined (d ∷ earlier))) × (told_size (d ∷ earlier) ≤ MAX_MESSAGE_SIZE) × (d.number + 1 ≡ length (d ∷ earlier))

bounded : (zero : Bool) (max : ℕ) (before : List ChunkMessage) (c : ChunkMessage) → nat_eq c.number 0 ≡ zero → Grows before →
    (if zero then first_rule max c else later_rule before c) ≡ None → (c.number < 158) × (c.number ≡ (if zero then 0 else length before))
bounded true max before c e grows none =
    let first : c.number ≡ 0 = eqb-true c.number 0 e in
    (omega (arith, first), first)
bounded false max [] c e grows none = cc
bounded false max (d ∷ earlier) c e grows none =
    let more = later_adds d earlier c none in
    let a = more.1 in
    (omega (arith, more.0, a.within, a.filled, grows.0, grows.1), more.0 ∙ grows.2)

grows_more : (zero : Bool) (max : ℕ) (before : List ChunkMessage) (c : ChunkMessage) → nat_eq c.number 0 ≡ zero → c.last ≡ false → Grows before →
    (if zero then first_rule max c else later_rule before c) ≡ None → Grows (if zero then c ∷ [] else c ∷ before)
grows_more true max before c e last grows none =
    let first : c.number ≡ 0 = eqb-true c.number 0 e in
    let more = first_adds max c none in
    let enough : 26 ≤ length c.chunk = more.1.enough last in
    (omega (arith, first, enough), more.0, omega (arith, first))
grows_more false max [] c e last grows none = cc
grows_more false max (d ∷ earlier) c e last grows none =
    let more = later_adds d earlier c none in
    let enough : 26 ≤ length c.chunk = more.1.enough last in
    let long = length-append (joined (d ∷ earlier)) c.chunk in
    (omega (arith, more.0, enough, grows.0, long), grows.1, omega (arith, more.0, grows.2))

by_mark : (last : Bool) (max : ℕ) (accepted : List ChunkMessage) (c : ChunkMessage) → c.last ≡ last → Grows (under_way accepted) → broken_rule max (under_way accepted) c ≡ None →
    Grows (if last then [] else (if nat_eq c.number 0 then c ∷ [] else c ∷ under_way accepted))
by_mark true max accepted c last grows none = tt
by_mark false max accepted c last grows none = grows_more (nat_eq c.number 0) max (under_way accepted) c refl last grows none

grows_unless : (rule : Option ChunkFault) (max : ℕ) (accepted : List ChunkMessage) (c : ChunkMessage) → broken_rule max (under_way accepted) c ≡ rule → Grows (under_way accepted) →
    Grows (under_way (accepted_unless rule accepted c))
grows_unless (Some fault) max accepted c e grows = grows
grows_unless None max accepted c e grows = by_mark c.last max accepted c refl grows e

always_grows : (max : ℕ) (given : List ChunkMessage) → Grows (under_way (accepted_of max given))
always_grows max [] = tt
always_grows max (c ∷ given) =
    grows_unless (broken_rule max (under_way (accepted_of max given)) c) max (accepted_of max given) c refl (always_grows max given)

pub number_is_bounded : (max : ℕ) (given : List ChunkMessage) (c : ChunkMessage) → broken_rule max (under_way (accepted_of max given)) c ≡ None →
    (c.number < 158) × (c.number ≡ (if nat_eq c.number 0 then 0 else length (under_way (accepted_of max given))))
number_is_bounded max given c none = bounded (nat_eq c.number 0) max (under_way (accepted_of max given)) c refl (always_grows max given) none
