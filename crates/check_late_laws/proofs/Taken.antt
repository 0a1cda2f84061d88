-- The chunks that the program keeps.
use Rattle.std.proofs.Common.{◌≡◌, ◌+◌, ◌*◌, ◌<◌, ◌≤◌, ◌==◌, ◌++◌, ℕ, zero, suc, List, [], ◌∷◌, refl, sym, ap, ◌∙◌, take, length, drop, arith, Bool, true, false, Option, Some, None, cond}
use Rattle.std.specs.Prelude.{nat_lt}
use Rattle.std.proofs.lemmas.Bool.Decides.{nat_tests}
use Rattle.std.proofs.Common.{length-append}
use Rattle.std.proofs.lemmas.List.{length-take}
use Rattle.spdm_basis.proofs.Bools.{suc_units}
use Rattle.chunking.proofs.ChunkSteps.{reaches}
use Rattle.chunking.specs.Cutting.{chunk_count, chunk_end, unit_of}
use Rattle.responder_machine.specs.History.{History}
use Rattle.spdm_grammar.specs.declared.names.TheConstants.{MAX_MESSAGE_SIZE}
use Rattle.capture_machine.specs.LargeAnswers.{is_unseen_in}
use Rattle.check_late_laws.specs.Fetching.{Fetching, answer_by, bytes_given, bytes_in, bytes_of, gives_in, number_given, number_of, size_in, size_of}
use Rattle.check_late_laws.specs.FetchingShown.{ShowsChunk}
use Rattle.check_late_laws.specs.LargeAnswers.{StandsFor}
use Rattle.check_late_laws.specs.declared.large_answer.LargeAnswer.{LargeAnswer}
use Rattle.check_late_laws.proofs.GoesWith.{none_told}

none_step : (b c : Bool) (n : ℕ) (l more : List ℕ) → (n ≡ 0 → l ≡ []) → cond b 0 (cond c (n + 1) n) ≡ 0 → cond b [] (cond c (l ++ more) l) ≡ []
none_step true c n l more before is = refl
none_step false true n l more before is = absurd (omega (arith, is))
none_step false false n l more before is = before is

none_given : (at : Option ℕ) (h : History) → number_given at h ≡ 0 → bytes_given at h ≡ []
none_given at [] is = refl
none_given at (e ∷ h) is = none_step (is_unseen_in at e) (gives_in at e) (number_given at h) (bytes_given at h) (bytes_in (number_given at h) (answer_by e)) (none_given at h) is

pub new_stands : (seen : LargeAnswer) (f : Fetching) → seen.size ≡ None → seen.number ≡ 0 → seen.bytes ≡ [] → number_of f ≡ 0 → StandsFor seen f
new_stands seen f size number bytes is = record {
  size = size ∙ sym (none_told f.at f.kept.responder is);
  number = number ∙ sym is;
  bytes = bytes ∙ sym (none_given f.at f.kept.responder is);
}

-- ---- One more.

-- All bytes are few.
pub all_few : (f next : Fetching) (answer : List ℕ) (s : ShowsChunk f next answer) → length (bytes_of f) + length (bytes_in (number_of f) (answer_by s.entry)) ≤ MAX_MESSAGE_SIZE
all_few f next answer s =
    let whole = length-take (chunk_end s.transfer (number_of f)) s.whole in
    let few : length s.whole ≤ MAX_MESSAGE_SIZE = s.stands.0.2 in
    let same : length (bytes_of f ++ bytes_in (number_of f) (answer_by s.entry)) ≡ length (take (chunk_end s.transfer (number_of f)) s.whole) = ap length (sym s.bytes ∙ s.begins) in
    let both = length-append (bytes_of f) (bytes_in (number_of f) (answer_by s.entry)) in
    omega (arith, whole, few, same, both)

less_of : (n k : ℕ) → nat_lt n k ≡ true → n < k
less_of n k is = grind (arith, nat_tests)

-- So are the chunks.
pub number_few : (f next : Fetching) (answer : List ℕ) (s : ShowsChunk f next answer) → number_of f < 65535
number_few f next answer s =
    let few : length s.whole ≤ MAX_MESSAGE_SIZE = s.stands.0.2 in
    let least = reaches s.transfer s.handle s.whole s.wide (number_of f) (less_of (number_of f) (chunk_count s.transfer s.whole) s.more) in
    let some : number_of f ≤ number_of f * unit_of s.transfer = each_some (number_of f) (unit_of s.transfer) (omega (arith, s.wide)) in
    omega (arith, few, least, some)
  where
    each_some : (n unit : ℕ) → 0 < unit → n ≤ n * unit
    each_some zero unit some = omega arith
    each_some (suc n) unit some = let more = suc_units n unit in let before = each_some n unit some in omega (arith, more, before, some)

-- It follows the chunk.
pub taken : (old new : LargeAnswer) (f next : Fetching) (answer message : List ℕ) (s : ShowsChunk f next answer) → answer_by s.entry ≡ message → StandsFor old f
    → new.bytes ≡ old.bytes ++ drop (cond (old.number == 0) 16 12) message → new.size ≡ cond (old.number == 0) (Some (size_in message)) old.size → new.number ≡ old.number + 1 → StandsFor new next
taken old new f next answer message s is stands bytes size number = record {
  size = size ∙ ap (λ (n : ℕ). cond (n == 0) (Some (size_in message)) old.size) stands.number ∙ ap (cond (number_of f == 0) (Some (size_in message))) stands.size
      ∙ ap (λ (l : List ℕ). cond (number_of f == 0) (Some (size_in l)) (size_of f)) (sym is) ∙ sym s.told;
  number = number ∙ ap (λ (n : ℕ). n + 1) stands.number ∙ sym s.number;
  bytes = bytes ∙ ap (λ (l : List ℕ). l ++ drop (cond (old.number == 0) 16 12) message) stands.bytes ∙ ap (λ (n : ℕ). bytes_of f ++ drop (cond (n == 0) 16 12) message) stands.number
      ∙ ap (λ (l : List ℕ). bytes_of f ++ bytes_in (number_of f) l) (sym is) ∙ sym s.bytes;
}
