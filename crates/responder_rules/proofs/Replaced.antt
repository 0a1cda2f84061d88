-- A large response that gets other bytes while it is pending.
use Rattle.std.proofs.Common.{refl, ◌≡◌, ◌∙◌, ◌+◌, ◌%◌, ℕ, List, [], ◌∷◌, drop, Bool, true, false, Option, Some, None, not, sym, ap}
use Rattle.std.proofs.lemmas.Bool.{false≢true}
use Rattle.std.specs.Prelude.{◌||◌, ◌==◌, if◌then◌else◌, is_some, unwrap_or}
use Rattle.std.proofs.lemmas.Option.{none-some, same_Some}
use Rattle.std.specs.List.{slice_get}
use Rattle.std.specs.Option.{option_map}
use Rattle.chunking.specs.Answers.{chunk_given}
use Rattle.chunking.specs.Cutting.{chunks_of, nth_chunk}
use Rattle.spdm_grammar.specs.Message.{ChunkMessage, chunk_message}
use Rattle.spdm_grammar.specs.declared.ChunkView.{ChunkView}
use Rattle.responder_rules.proofs.Left.{is_left, next_is, next_of}
use Rattle.responder_machine.specs.LargeMessages.{given_of, handle_of, large_of, larges_of, pending_of, still_pending}
use Rattle.responder_machine.specs.Turn.{Effect, Turn, code_in, handle_in, is_taken, large_in, takes}
use Rattle.responder_machine.specs.Turn.Effect.{NoEffect, Took, TookData}
use Rattle.spdm_grammar.specs.declared.names.request_code.TheConstants.{CHUNK_GET}
use Rattle.responder_rules.specs.LargeAnswer.{Seen, StandsFor, effect_unseen, effect_with, left_by, turn_unseen, turn_with, turns_unseen, turns_with}

-- ---- What stays.

pub code_with : (answer : List ℕ) (e : Effect) → code_in (effect_with answer e) ≡ code_in e
code_with answer NoEffect = refl
code_with answer (Took asked request old large) = refl
code_with answer (TookData bytes old) = refl

pub handle_with : (answer : List ℕ) (e : Effect) → handle_in (effect_with answer e) ≡ handle_in e
handle_with answer NoEffect = refl
handle_with answer (Took asked request old large) = refl
handle_with answer (TookData bytes old) = refl

large_by : (answer old : List ℕ) (large : Option ℕ) → option_map (λ handle. answer) large ≡ option_map (λ was. answer) (option_map (λ handle. old) large)
large_by answer old None = refl
large_by answer old (Some handle) = refl

large_with : (answer : List ℕ) (e : Effect) → large_in (effect_with answer e) ≡ option_map (λ was. answer) (large_in e)
large_with answer NoEffect = refl
large_with answer (Took asked request old large) = large_by answer old large
large_with answer (TookData bytes old) = refl

pub takes_with : (answer : List ℕ) (t : Turn) (code : ℕ) → takes code (turn_with answer t) ≡ takes code t
takes_with answer t code = ap (λ (n : ℕ). n == code) (code_with answer t.effect)

-- ---- The turns.

pub record IsSame (answer : List ℕ) (old new : List Turn) : Type 0 where
  pub large : large_of new ≡ option_map (λ was. answer) (large_of old)
  pub given : given_of new ≡ given_of old
  pub handle : handle_of new ≡ handle_of old
  pub larges : larges_of new ≡ larges_of old

-- The message is passed over.
passed : (answer : List ℕ) (t : Turn) (old new : List Turn) → (not (is_taken t) || takes CHUNK_GET t) ≡ true → IsSame answer old new → IsSame answer (t ∷ old) (t ∷ new)
passed answer t old new over same = record {
  large = by_over (not (is_taken t) || takes CHUNK_GET t) (large_in t.effect) over;
  given = ap (λ (n : ℕ). if not (is_taken t) then n else (if takes CHUNK_GET t then n + 1 else 0)) same.given;
  handle = ap (unwrap_or (handle_in t.effect)) same.handle;
  larges = ap (λ (n : ℕ). if is_some (handle_in t.effect) then n + 1 else n) same.larges;
}
  where
    by_over : (b : Bool) (own : Option (List ℕ)) → b ≡ true → (if b then large_of new else own) ≡ option_map (λ was. answer) (if b then large_of old else own)
    by_over true own is = same.large
    by_over false own is = absurd (false≢true is)

-- The message is the one.
reached : (answer : List ℕ) (t : Turn) (old : List Turn) → (not (is_taken t) || takes CHUNK_GET t) ≡ false → IsSame answer (t ∷ old) (turn_with answer t ∷ old)
reached answer t old here = record {
  large = ap (λ (b : Bool). if not (is_taken t) || b then large_of old else large_in (effect_with answer t.effect)) gets
      ∙ by_here (not (is_taken t) || takes CHUNK_GET t) here;
  given = ap (λ (b : Bool). if not (is_taken t) then given_of old else (if b then given_of old + 1 else 0)) gets;
  handle = ap (λ (o : Option ℕ). unwrap_or o (handle_of old)) (handle_with answer t.effect);
  larges = ap (λ (o : Option ℕ). if is_some o then larges_of old + 1 else larges_of old) (handle_with answer t.effect);
}
  where
    gets : takes CHUNK_GET (turn_with answer t) ≡ takes CHUNK_GET t
    gets = takes_with answer t CHUNK_GET

    by_here : (b : Bool) → b ≡ false → (if b then large_of old else large_in (effect_with answer t.effect)) ≡ option_map (λ was. answer) (if b then large_of old else large_in t.effect)
    by_here true is = absurd (false≢true (sym is))
    by_here false is = large_with answer t.effect

by_turn : (answer : List ℕ) (t : Turn) (old : List Turn) (b : Bool) → (not (is_taken t) || takes CHUNK_GET t) ≡ b → IsSame answer old (turns_with answer old)
    → IsSame answer (t ∷ old) (if b then t ∷ turns_with answer old else turn_with answer t ∷ old)
by_turn answer t old true is same = passed answer t old (turns_with answer old) is same
by_turn answer t old false is same = reached answer t old is

pub same_turns : (answer : List ℕ) (turns : List Turn) → IsSame answer turns (turns_with answer turns)
same_turns answer [] = record { large = refl; given = refl; handle = refl; larges = refl }
same_turns answer (t ∷ older) = by_turn answer t older (not (is_taken t) || takes CHUNK_GET t) refl (same_turns answer older)

-- ---- What is kept.

-- The chunk that is given next.
pub next_numbers : (transfer : ℕ) (turns : List Turn) (chunk : ChunkView) → chunk_given (Some chunk) ≡ slice_get (left_by transfer turns (large_of turns)) 0
    → ◌≡◌ {A = Option (ℕ × ℕ)} (Some (chunk.handle, chunk.number)) (Some (handle_of turns, given_of turns))
next_numbers transfer turns chunk e = by_pending (pending_of transfer turns) (e ∙ next_is transfer turns)
  where
    by_pending : (pending : Option (List ℕ)) → Some (chunk_message chunk) ≡ next_of transfer turns pending → ◌≡◌ {A = Option (ℕ × ℕ)} (Some (chunk.handle, chunk.number)) (Some (handle_of turns, given_of turns))
    by_pending None is = absurd (none-some (chunk_message chunk) (sym is))
    by_pending (Some answer) is = ap (λ (c : ChunkMessage). Some (c.handle, c.number)) (same_Some (chunk_message chunk) (nth_chunk transfer (handle_of turns) answer (given_of turns)) is)

-- There is one where an answer is pending.
pub next_there : {A : Type 0} (transfer : ℕ) (turns : List Turn) → None ≡ slice_get (left_by transfer turns (large_of turns)) 0 → is_some (pending_of transfer turns) ≡ true → A
next_there transfer turns e pending = absurd (false≢true (is_left transfer turns None e ∙ pending))

large_there : (transfer given : ℕ) (large : Option (List ℕ)) (answer : List ℕ) → is_some (still_pending transfer given large) ≡ true → option_map (λ was. answer) large ≡ Some answer
large_there transfer given None answer is = absurd (false≢true is)
large_there transfer given (Some old) answer is = refl

pub replaced : (old new : Seen) (transfer : ℕ) (turns : List Turn) (answer : List ℕ) → StandsFor old transfer turns → is_some (pending_of transfer turns) ≡ true
    → new.left ≡ drop (given_of turns) (chunks_of transfer (handle_of turns) answer) → new.next ≡ old.next → StandsFor new transfer (turns_with answer turns)
replaced old new transfer turns answer stands pending left next =
    let same = same_turns answer turns in
    let changed = turns_with answer turns in
    let large : large_of changed ≡ Some answer = same.large ∙ large_there transfer (given_of turns) (large_of turns) answer pending in
    record {
      left = left ∙ ap (λ (n : ℕ). drop n (chunks_of transfer (handle_of turns) answer)) (sym same.given)
          ∙ ap (λ (n : ℕ). drop (given_of changed) (chunks_of transfer n answer)) (sym same.handle)
          ∙ ap (left_by transfer changed) (sym large);
      next = next ∙ stands.next ∙ ap (λ (n : ℕ). n % 256) (sym same.larges);
    }

-- ---- One that was never seen.

pub code_unseen : (e : Effect) → code_in (effect_unseen e) ≡ code_in e
code_unseen NoEffect = refl
code_unseen (Took asked request answer large) = refl
code_unseen (TookData bytes answer) = refl

pub takes_unseen : (t : Turn) (code : ℕ) → takes code (turn_unseen t) ≡ takes code t
takes_unseen t code = ap (λ (n : ℕ). n == code) (code_unseen t.effect)

large_unseen : (e : Effect) → large_in (effect_unseen e) ≡ None
large_unseen NoEffect = refl
large_unseen (Took asked request answer large) = refl
large_unseen (TookData bytes answer) = refl

handle_unseen : (e : Effect) → handle_in (effect_unseen e) ≡ None
handle_unseen NoEffect = refl
handle_unseen (Took asked request answer large) = refl
handle_unseen (TookData bytes answer) = refl

handle_there : (e : Effect) → is_some (large_in e) ≡ true → is_some (handle_in e) ≡ true
handle_there NoEffect is = is
handle_there (Took asked request answer None) is = is
handle_there (Took asked request answer (Some handle)) is = refl
handle_there (TookData bytes answer) is = is

-- Nothing is pending, and it took no handle.
pub record IsForgotten (old new : List Turn) : Type 0 where
  pub large : large_of new ≡ None
  pub larges : larges_of old ≡ larges_of new + 1

more_by : (b : Bool) (n m : ℕ) → n ≡ m + 1 → (if b then n + 1 else n) ≡ (if b then m + 1 else m) + 1
more_by true n m is = ap (λ (x : ℕ). x + 1) is
more_by false n m is = is

passed_by : (b : Bool) (x y : Option (List ℕ)) → b ≡ true → (if b then x else y) ≡ x
passed_by true x y is = refl
passed_by false x y is = absurd (false≢true is)

reached_by : (b : Bool) (x y : Option (List ℕ)) → b ≡ false → (if b then x else y) ≡ y
reached_by true x y is = absurd (false≢true (sym is))
reached_by false x y is = refl

forgotten_by : (t : Turn) (old : List Turn) (b : Bool) → (not (is_taken t) || takes CHUNK_GET t) ≡ b → is_some (large_of (t ∷ old)) ≡ true
    → (is_some (large_of old) ≡ true → IsForgotten old (turns_unseen old)) → IsForgotten (t ∷ old) (if b then t ∷ turns_unseen old else turn_unseen t ∷ old)
forgotten_by t old true is some before =
    let rest = before (ap is_some (sym (passed_by _ (large_of old) (large_in t.effect) is)) ∙ some) in record {
      large = passed_by _ (large_of (turns_unseen old)) (large_in t.effect) is ∙ rest.large;
      larges = more_by (is_some (handle_in t.effect)) (larges_of old) (larges_of (turns_unseen old)) rest.larges;
    }
forgotten_by t old false is some before =
    let there = handle_there t.effect (ap is_some (sym (reached_by _ (large_of old) (large_in t.effect) is)) ∙ some) in record {
      large = ap (λ (b : Bool). if not (is_taken t) || b then large_of old else large_in (effect_unseen t.effect)) (takes_unseen t CHUNK_GET)
          ∙ reached_by _ (large_of old) (large_in (effect_unseen t.effect)) is ∙ large_unseen t.effect;
      larges = ap (λ (b : Bool). if b then larges_of old + 1 else larges_of old) there ∙ sym (ap (λ (o : Option ℕ). (if is_some o then larges_of old + 1 else larges_of old) + 1) (handle_unseen t.effect));
    }

pub forgotten : (turns : List Turn) → is_some (large_of turns) ≡ true → IsForgotten turns (turns_unseen turns)
forgotten [] some = absurd (false≢true some)
forgotten (t ∷ older) some = forgotten_by t older (not (is_taken t) || takes CHUNK_GET t) refl some (forgotten older)
