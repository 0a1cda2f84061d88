-- What is left of a large response, beside what the definitions have pending.
use Rattle.std.proofs.Common.{◌≡◌, ◌∙◌, ◌+◌, ◌%◌, ℕ, List, [], ◌∷◌, drop, Bool, true, false, Option, Some, None, not, nat_lt, refl, sym, ap}
use Rattle.std.proofs.lemmas.Bool.{false≢true, ltb-true, ltb-false}
use Rattle.std.proofs.lemmas.List.{drop-drop}
use Rattle.std.proofs.lemmas.Option.{same_Some, none-some}
use Rattle.std.specs.Prelude.{◌||◌, if◌then◌else◌, is_some, unwrap_or}
use Rattle.std.specs.List.{slice_get}
use Rattle.chunking.proofs.ChunkList.{first_left, none_left}
use Rattle.chunking.specs.Answers.{chunk_given}
use Rattle.chunking.specs.Cutting.{chunk_count, chunks_of, nth_chunk}
use Rattle.responder_machine.specs.Answer.{chunk_answer}
use Rattle.responder_machine.specs.LargeMessages.{given_of, handle_of, large_of, larges_of, pending_of, still_pending}
use Rattle.responder_machine.specs.Place.{Place, place_terms}
use Rattle.responder_machine.specs.Refusal.{has_pending}
use Rattle.responder_machine.specs.Turn.{Turn, handle_in, is_taken, large_in, takes}
use Rattle.spdm_grammar.specs.Message.{ChunkMessage, chunk_message}
use Rattle.spdm_grammar.specs.declared.names.request_code.TheConstants.{CHUNK_GET}
use Rattle.spdm_grammar.specs.Message.ResponseMessage.{ChunkResponse}
use Rattle.spdm_grammar.specs.declared.ChunkView.{ChunkView}
use Rattle.responder_rules.specs.LargeAnswer.{Seen, StandsFor, left_by}

-- The next chunk of what is pending.
abbrev pub next_of : ℕ → List Turn → Option (List ℕ) → Option ChunkMessage
next_of transfer turns None = None
next_of transfer turns (Some answer) = Some (nth_chunk transfer (handle_of turns) answer (given_of turns))

-- It is the first of what is left.
pub next_is : (transfer : ℕ) (turns : List Turn) → slice_get (left_by transfer turns (large_of turns)) 0 ≡ next_of transfer turns (pending_of transfer turns)
next_is transfer turns = by_large (large_of turns)
  where
    by_left : (answer : List ℕ) (b : Bool) → nat_lt (given_of turns) (chunk_count transfer answer) ≡ b
        → slice_get (drop (given_of turns) (chunks_of transfer (handle_of turns) answer)) 0 ≡ next_of transfer turns (if b then Some answer else None)
    by_left answer true e =
        sym (first_left transfer (handle_of turns) answer (given_of turns) (drop (given_of turns) (chunks_of transfer (handle_of turns) answer)) refl (ltb-true (given_of turns) (chunk_count transfer answer) e))
    by_left answer false e =
        sym (none_left transfer (handle_of turns) answer (given_of turns) (drop (given_of turns) (chunks_of transfer (handle_of turns) answer)) refl (ltb-false (given_of turns) (chunk_count transfer answer) e))

    by_large : (large : Option (List ℕ)) → slice_get (left_by transfer turns large) 0 ≡ next_of transfer turns (still_pending transfer (given_of turns) large)
    by_large None = refl
    by_large (Some answer) = by_left answer (nat_lt (given_of turns) (chunk_count transfer answer)) refl

-- Where there is no first one, none is left.
pub nothing_left : (left : List ChunkMessage) → slice_get left 0 ≡ None → left ≡ []
nothing_left [] none = refl
nothing_left (chunk ∷ left) none = absurd (none-some chunk (sym none))

-- A chunk is left where one is pending.
pub is_left : (transfer : ℕ) (turns : List Turn) (chunk : Option ChunkView) → chunk_given chunk ≡ slice_get (left_by transfer turns (large_of turns)) 0
    → is_some chunk ≡ is_some (pending_of transfer turns)
is_left transfer turns chunk e = same chunk (pending_of transfer turns) (e ∙ next_is transfer turns)
  where
    same : (chunk : Option ChunkView) (pending : Option (List ℕ)) → chunk_given chunk ≡ next_of transfer turns pending → is_some chunk ≡ is_some pending
    same None None e = refl
    same None (Some answer) e = absurd (none-some (nth_chunk transfer (handle_of turns) answer (given_of turns)) e)
    same (Some chunk) None e = absurd (none-some (chunk_message chunk) (sym e))
    same (Some chunk) (Some answer) e = refl

-- So a chunk that is left is pending.
pub left_pends : (seen : Seen) (transfer : ℕ) (turns : List Turn) (chunk : Option ChunkView) → is_some chunk ≡ true → chunk_given chunk ≡ slice_get seen.left 0
    → StandsFor seen transfer turns → is_some (pending_of transfer turns) ≡ false → false ≡ true
left_pends seen transfer turns chunk there e stands none =
    sym none ∙ sym (is_left transfer turns chunk (e ∙ ap (λ (l : List ChunkMessage). slice_get l 0) stands.left)) ∙ there

-- The chunk that is left first is what the definitions give next.
pub record IsNext (p : Place) (chunk : ChunkView) : Type 0 where
  pub handle : chunk.handle ≡ handle_of p.turns
  pub number : chunk.number ≡ given_of p.turns
  pub answer : chunk_answer p (handle_of p.turns) (given_of p.turns) ≡ ChunkResponse (chunk_message chunk)

pub next_given : (p : Place) (chunk : ChunkView) → chunk_given (Some chunk) ≡ slice_get (left_by (place_terms p).common.to_requester.transfer p.turns (large_of p.turns)) 0
    → IsNext p chunk
next_given p chunk e = by_pending (pending_of (place_terms p).common.to_requester.transfer p.turns) refl (e ∙ next_is (place_terms p).common.to_requester.transfer p.turns)
  where
    transfer : ℕ
    transfer = (place_terms p).common.to_requester.transfer

    by_pending : (pending : Option (List ℕ)) → pending_of transfer p.turns ≡ pending → Some (chunk_message chunk) ≡ next_of transfer p.turns pending → IsNext p chunk
    by_pending None is e = absurd (none-some (chunk_message chunk) (sym e))
    by_pending (Some answer) is e =
        let same : chunk_message chunk ≡ nth_chunk transfer (handle_of p.turns) answer (given_of p.turns) = same_Some (chunk_message chunk) (nth_chunk transfer (handle_of p.turns) answer (given_of p.turns)) e in
        record {
          handle = ap (λ (c : ChunkMessage). c.handle) same;
          number = ap (λ (c : ChunkMessage). c.number) same;
          answer = ap (λ (o : Option (List ℕ)). ChunkResponse (nth_chunk transfer (handle_of p.turns) (unwrap_or o []) (given_of p.turns))) is ∙ ap (λ (c : ChunkMessage). ChunkResponse c) (sym same);
        }

-- Where a chunk is pending, one is left.
pub none_is_left : (p : Place) → None ≡ slice_get (left_by (place_terms p).common.to_requester.transfer p.turns (large_of p.turns)) 0 → has_pending p ≡ true → ⊥
none_is_left p e pending = false≢true (is_left (place_terms p).common.to_requester.transfer p.turns None e ∙ pending)

-- What holds of a turn that is taken, and of one that takes CHUNK_GET.
taken_is : {A : Type 0} (taken gets : Bool) (refused given other : A) → taken ≡ true → gets ≡ true → (if not taken then refused else (if gets then given else other)) ≡ given
taken_is true true refused given other e f = refl
taken_is true false refused given other e f = absurd (false≢true f)
taken_is false gets refused given other e f = absurd (false≢true e)

either_is : {A : Type 0} (taken gets : Bool) (older other : A) → gets ≡ true → (if not taken || gets then older else other) ≡ older
either_is true true older other f = refl
either_is true false older other f = absurd (false≢true f)
either_is false gets older other f = refl

-- After a CHUNK_GET that was taken the first of what was left is gone.
pub advanced : (old new : Seen) (transfer : ℕ) (turns : List Turn) (t : Turn) → StandsFor old transfer turns → new.left ≡ drop 1 old.left → new.next ≡ old.next
    → is_taken t ≡ true → takes CHUNK_GET t ≡ true → handle_in t.effect ≡ None → StandsFor new transfer (t ∷ turns)
advanced old new transfer turns t stands left next taken gets handle = record {
  left = left ∙ ap (drop 1) stands.left ∙ by_large (large_of turns) ∙ ap (left_by transfer (t ∷ turns)) (sym (either_is (is_taken t) (takes CHUNK_GET t) (large_of turns) (large_in t.effect) gets));
  next = next ∙ stands.next ∙ ap (λ (o : Option ℕ). (if is_some o then larges_of turns + 1 else larges_of turns) % 256) (sym handle);
}
  where
    given_is : given_of (t ∷ turns) ≡ given_of turns + 1
    given_is = taken_is (is_taken t) (takes CHUNK_GET t) (given_of turns) (given_of turns + 1) 0 taken gets

    handle_is : handle_of (t ∷ turns) ≡ handle_of turns
    handle_is = ap (λ (o : Option ℕ). unwrap_or o (handle_of turns)) handle

    by_large : (large : Option (List ℕ)) → drop 1 (left_by transfer turns large) ≡ left_by transfer (t ∷ turns) large
    by_large None = refl
    by_large (Some answer) =
        drop-drop 1 (given_of turns) (chunks_of transfer (handle_of turns) answer)
        ∙ ap (λ (n : ℕ). drop n (chunks_of transfer (handle_of turns) answer)) (sym given_is)
        ∙ ap (λ (h : ℕ). drop (given_of (t ∷ turns)) (chunks_of transfer h answer)) (sym handle_is)
