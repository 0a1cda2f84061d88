-- The bytes of a large response whose chunks are asked for one by one.
use Rattle.std.proofs.Common.{◌≡◌, ◌≤◌, ◌<◌, ◌+◌, ◌-◌, ◌*◌, ◌==◌, ◌++◌, ◌∙◌, ℕ, suc, List, ◌∷◌, refl, sym, ap, subst, drop, take, length, arith, Bool, true, false, Option, Some, None, cond}
use Rattle.std.specs.Prelude.{slice_index}
use Rattle.std.proofs.lemmas.Bool.Decides.{nat_tests}
use Rattle.std.proofs.lemmas.Grind.{div_ceil_times}
use Rattle.std.proofs.lemmas.List.{length-take, take_all}
use Rattle.chunking.proofs.ChunkSteps as step
use Rattle.chunking.specs.Collecting.{joined}
use Rattle.chunking.specs.Cutting.{chunk_count, chunks_before, nth_chunk, unit_of}
use Rattle.check_fetched_laws.specs.ClearChunks.{get_response}
use Rattle.check_fetched_ends.proofs.LastReady.{add_one, transfer_on}
use Rattle.check_fetched_ends.specs.LastHeld.{gets_behind, transfer_at}
use Rattle.check_late_laws.specs.Fetching.{bytes_in}
use Rattle.responder_machine.specs.History.{History}
use Rattle.spdm_grammar.specs.Message.{ChunkMessage}
use Rattle.spdm_grammar.specs.Message.ResponseMessage.{ChunkResponse}
use Rattle.spdm_grammar.specs.Responses.{canonical_response}

chunk_by : (b last : Bool) (handle number told : ℕ) (x : List ℕ)
    → drop (cond b 16 12) (canonical_response (ChunkResponse (record { last = last; handle = handle; number = number; large = cond b (Some told) None; chunk = x }))) ≡ x
chunk_by true last handle number told x = refl
chunk_by false last handle number told x = refl

last_by : (b : Bool) (handle number : ℕ) (told : Option ℕ) (x : List ℕ)
    → (slice_index (canonical_response (ChunkResponse (record { last = b; handle = handle; number = number; large = told; chunk = x }))) 2 == 1) ≡ b
last_by true handle number told x = refl
last_by false handle number told x = refl

-- A chunk shows whether it is the last one.
pub last_told : (transfer handle : ℕ) (whole : List ℕ) (n : ℕ) → (slice_index (canonical_response (ChunkResponse (nth_chunk transfer handle whole n))) 2 == 1) ≡ (n + 1 == chunk_count transfer whole)
last_told transfer handle whole n = last_by (n + 1 == chunk_count transfer whole) handle n (cond (n == 0) (Some (length whole)) None) (nth_chunk transfer handle whole n).chunk

-- Its bytes are put after those before.
chunk_bytes : (transfer handle : ℕ) (whole : List ℕ) (n : ℕ) → bytes_in n (canonical_response (ChunkResponse (nth_chunk transfer handle whole n))) ≡ (nth_chunk transfer 0 whole n).chunk
chunk_bytes transfer handle whole n = chunk_by (n == 0) _ handle n (length whole) _

module _ (tag handle : ℕ) (whole : List ℕ) (h : History) where
  abbrev t : ℕ
  t = transfer_at h whole

  pub response_is : (n : ℕ) → get_response (gets_behind tag handle whole h n) whole handle n ≡ canonical_response (ChunkResponse (nth_chunk (transfer_at h whole) handle whole n))
  response_is n = ap (λ (x : ℕ). canonical_response (ChunkResponse (nth_chunk x handle whole n))) (transfer_on tag handle whole h n)

  pub joined_next : (n : ℕ) → joined (chunks_before (transfer_at h whole) 0 whole n) ++ bytes_in n (get_response (gets_behind tag handle whole h n) whole handle n) ≡ joined (chunks_before (transfer_at h whole) 0 whole (n + 1))
  joined_next n =
      ap (λ (l : List ℕ). joined (chunks_before t 0 whole n) ++ bytes_in n l) (response_is n)
      ∙ ap (λ (l : List ℕ). joined (chunks_before t 0 whole n) ++ l) (chunk_bytes t handle whole n) ∙ ap (λ (x : ℕ). joined (chunks_before t 0 whole x)) (sym (add_one n))

-- They are no more than all.
pub joined_few : (transfer : ℕ) (whole : List ℕ) (n : ℕ) → 12 < transfer → length (joined (chunks_before transfer 0 whole n)) ≤ length whole
joined_few transfer whole n wide =
    let is = ap length (step.joined-before transfer 0 whole (omega (arith, wide)) n) in
    let cut = length-take (n * unit_of transfer - 4) whole in
    omega (arith, is, cut)

pub joined_all : (transfer : ℕ) (whole : List ℕ) → 12 < transfer → joined (chunks_before transfer 0 whole (chunk_count transfer whole)) ≡ whole
joined_all transfer whole wide =
    let around = div_ceil_times (length whole + 4) (unit_of transfer) (omega (arith, wide)) in
    let reaches : length whole + 4 ≤ chunk_count transfer whole * unit_of transfer = around.0 in
    step.joined-before transfer 0 whole (omega (arith, wide)) (chunk_count transfer whole) ∙ take_all (chunk_count transfer whole * unit_of transfer - 4) whole (omega (arith, reaches))

-- More chunks follow one that is not the last.
pub not_last : (n count : ℕ) → n < count → (n + 1 == count) ≡ false → n + 1 < count
not_last n count within other = grind (arith, nat_tests)
