-- The chunks that were given of the large response in progress, as they stand in a history: what is pending at its
-- place goes by them.
use Rattle.std.proofs.Common.{◌≡◌, ◌+◌, ◌==◌, ◌&&◌, ◌||◌, ℕ, suc, List, [], ◌∷◌, ◌++◌, refl, sym, ap, ◌∙◌, drop, Bool, true, false, Option, Some, None, is_some, cond, length, arith, eqb-true}
use Rattle.std.specs.Prelude.{not, slice_index}
use Rattle.std.proofs.lemmas.Bool.{false≢true}
use Rattle.std.proofs.lemmas.Grind.{div_ceil_times}
use Rattle.std.proofs.lemmas.Option.{same_Some}
use Rattle.chunking.specs.Collecting.{joined}
use Rattle.chunking.specs.Cutting.{unit_of, chunk_count, nth_chunk, chunks_before}
use Rattle.spdm_grammar.specs.Message.ResponseMessage.{ChunkResponse}
use Rattle.spdm_grammar.specs.Responses.{canonical_response}
use Rattle.spdm_grammar.specs.declared.names.request_code.TheConstants.{CHUNK_GET}
use Rattle.responder_machine.specs.History.{History, Entry}
use Rattle.responder_machine.specs.History.Entry.{Clear, Sealed}
use Rattle.responder_machine.specs.LargeMessages.{large_of, given_of}
use Rattle.responder_machine.specs.Place.{Place}
use Rattle.responder_machine.specs.Turn.{Turn, Effect, is_taken, takes, code_in, answer_in, handle_in, large_in}
use Rattle.responder_machine.specs.Turn.Effect.{NoEffect, Took, TookData}
use Rattle.capture_machine.specs.LargeAnswers.{is_large, is_kept_in, is_unseen_in, takes_get}
use Rattle.capture_machine.proofs.ChunksTell.{all_joined}
use Rattle.capture_machine.proofs.GetTells.{IsGet, IsIdle, IsBehind, transfer_of, large_behind, given_behind, one_by}

-- ---- What stands in the history.

-- The whole answer to the request of an entry.
abbrev pub answer_by : Entry → List ℕ
answer_by (Clear tag t d) = answer_in t.effect
answer_by (Sealed tag sealed t reply d) = answer_in t.effect
answer_by _ = []

-- CHUNK_GET was taken at the place.
abbrev pub gets_in : Option ℕ → Entry → Bool
gets_in place e = is_kept_in place e && takes_get e

-- How many chunks were asked for at the place since its newest answer that was not seen.
abbrev pub gets_of : Option ℕ → History → ℕ
gets_of place [] = 0
gets_of place (e ∷ h) = cond (is_unseen_in place e) 0 (cond (gets_in place e) (gets_of place h + 1) (gets_of place h))

-- The bytes of a chunk in CHUNK_RESPONSE; in the first one the length of the answer stands before them.
abbrev pub bytes_in : (number : ℕ) → List ℕ → List ℕ
bytes_in number m = drop (cond (number == 0) 16 12) m

-- The bytes that these chunks hold, one after another.
abbrev pub parts_of : Option ℕ → History → List ℕ
parts_of place [] = []
parts_of place (e ∷ h) =
    cond (is_unseen_in place e) [] (cond (gets_in place e) (parts_of place h ++ bytes_in (gets_of place h) (answer_by e)) (parts_of place h))

-- At a place no large response is pending any more; or these bytes are, and the chunks that were given are theirs.
pub data Chunked (p : Place) (place : Option ℕ) (w : List ℕ) (h : History) : Type 0 where
  Gone : large_of p.turns ≡ None → Chunked p place w h
  Given : large_of p.turns ≡ Some w → given_of p.turns ≡ gets_of place h → parts_of place h ≡ joined (chunks_before (transfer_of p) 0 w (gets_of place h)) → Chunked p place w h

-- ---- One more entry.

pub gets_step : (place : Option ℕ) (e : Entry) (h : History) (b : Bool) → is_unseen_in place e ≡ false → gets_in place e ≡ b → gets_of place (e ∷ h) ≡ cond b (gets_of place h + 1) (gets_of place h)
gets_step place e h b old is =
    ap (λ (x : Bool). cond x 0 (cond (gets_in place e) (gets_of place h + 1) (gets_of place h))) old ∙ ap (λ (x : Bool). cond x (gets_of place h + 1) (gets_of place h)) is

pub parts_step : (place : Option ℕ) (e : Entry) (h : History) (b : Bool) → is_unseen_in place e ≡ false → gets_in place e ≡ b
    → parts_of place (e ∷ h) ≡ cond b (parts_of place h ++ bytes_in (gets_of place h) (answer_by e)) (parts_of place h)
parts_step place e h b old is =
    ap (λ (x : Bool). cond x [] (cond (gets_in place e) (parts_of place h ++ bytes_in (gets_of place h) (answer_by e)) (parts_of place h))) old
    ∙ ap (λ (x : Bool). cond x (parts_of place h ++ bytes_in (gets_of place h) (answer_by e)) (parts_of place h)) is

chunk_by : (b last : Bool) (handle number told : ℕ) (x : List ℕ)
    → drop (cond b 16 12) (canonical_response (ChunkResponse (record { last = last; handle = handle; number = number; large = cond b (Some told) None; chunk = x }))) ≡ x
chunk_by true last handle number told x = refl
chunk_by false last handle number told x = refl

-- The bytes that the answer to CHUNK_GET holds.
get_bytes : (p : Place) (m : List ℕ) (t : Turn) (get : IsGet p m t) → bytes_in (given_of p.turns) (answer_in t.effect) ≡ (nth_chunk (transfer_of p) 0 get.whole (given_of p.turns)).chunk
get_bytes p m t get = ap (bytes_in (given_of p.turns)) get.gives ∙ chunk_by (given_of p.turns == 0) _ get.handle (given_of p.turns) (length get.whole) _

not_large : (x : Effect) → is_some (handle_in x) ≡ false → large_in x ≡ None
not_large NoEffect small = refl
not_large (Took a m answer None) small = refl
not_large (Took a m answer (Some handle)) small = absurd (false≢true (sym small))
not_large (TookData bytes answer) small = refl

-- What is pending after a turn that was not taken, and after one that was and is not CHUNK_GET.
pub large_idle : (t : Turn) (ts : List Turn) → is_taken t ≡ false → large_of (t ∷ ts) ≡ large_of ts
large_idle t ts not_taken = ap (λ (b : Bool). cond (not b || takes CHUNK_GET t) (large_of ts) (large_in t.effect)) not_taken

pub given_idle : (t : Turn) (ts : List Turn) → is_taken t ≡ false → given_of (t ∷ ts) ≡ given_of ts
given_idle t ts not_taken = ap (λ (b : Bool). cond (not b) (given_of ts) (cond (takes CHUNK_GET t) (given_of ts + 1) 0)) not_taken

pub large_other : (t : Turn) (ts : List Turn) → is_taken t ≡ true → takes CHUNK_GET t ≡ false → large_of (t ∷ ts) ≡ large_in t.effect
large_other t ts taken other =
    ap (λ (b : Bool). cond (not b || takes CHUNK_GET t) (large_of ts) (large_in t.effect)) taken ∙ ap (λ (b : Bool). cond b (large_of ts) (large_in t.effect)) other

-- An entry with a turn of the place, whose answer was seen.
pub record IsTurnOf (place : Option ℕ) (e : Entry) (t : Turn) : Type 0 where
  pub large : is_large e ≡ is_some (handle_in t.effect)
  pub old : is_unseen_in place e ≡ false
  pub gets : gets_in place e ≡ takes CHUNK_GET t
  pub answer : answer_by e ≡ answer_in t.effect

module _ (p o : Place) (place : Option ℕ) (w : List ℕ) (h : History) (e : Entry) (t : Turn) (m : List ℕ) (of : IsTurnOf place e t) (small : is_large e ≡ false) (turns : o.turns ≡ t ∷ p.turns) where
  one_more : (n : ℕ) (transfer : ℕ) → joined (chunks_before transfer 0 w n) ++ (nth_chunk transfer 0 w n).chunk ≡ joined (chunks_before transfer 0 w (n + 1))
  one_more n transfer = let next : suc n ≡ n + 1 = omega arith in ap (λ (x : ℕ). joined (chunks_before transfer 0 w x)) next

  -- It was not taken.
  idle_next : is_taken t ≡ false → IsIdle t → transfer_of o ≡ transfer_of p → Chunked p place w h → Chunked o place w (e ∷ h)
  idle_next not_taken idle transfer (Gone none) = Gone (ap large_of turns ∙ large_idle t p.turns not_taken ∙ none)
  idle_next not_taken idle transfer (Given large given parts) =
      let other : gets_in place e ≡ false = of.gets ∙ ap (λ (x : Effect). code_in x == CHUNK_GET) (idle not_taken) in
      let gets : gets_of place (e ∷ h) ≡ gets_of place h = gets_step place e h false of.old other in
      Given (ap large_of turns ∙ large_idle t p.turns not_taken ∙ large) (ap given_of turns ∙ given_idle t p.turns not_taken ∙ given ∙ sym gets)
      (parts_step place e h false of.old other ∙ parts ∙ ap (λ (x : ℕ). joined (chunks_before x 0 w (gets_of place h))) (sym transfer) ∙ ap (λ (x : ℕ). joined (chunks_before (transfer_of o) 0 w x)) (sym gets))

  -- It was, and is not CHUNK_GET.
  other_next : is_taken t ≡ true → takes CHUNK_GET t ≡ false → Chunked o place w (e ∷ h)
  other_next taken other = Gone (ap large_of turns ∙ large_other t p.turns taken other ∙ not_large t.effect (sym of.large ∙ small))

  -- It is CHUNK_GET.
  get_next : IsGet p m t → takes CHUNK_GET t ≡ true → transfer_of o ≡ transfer_of p → Chunked p place w h → Chunked o place w (e ∷ h)
  get_next get gets transfer (Gone none) = Gone (ap large_of turns ∙ large_behind t p.turns get.taken gets ∙ none)
  get_next get gets transfer (Given large given parts) =
      let takes_it : gets_in place e ≡ true = of.gets ∙ gets in
      let number : gets_of place (e ∷ h) ≡ gets_of place h + 1 = gets_step place e h true of.old takes_it in
      let same : get.whole ≡ w = same_Some get.whole w (sym get.large ∙ large) in
      let bytes : bytes_in (gets_of place h) (answer_by e) ≡ (nth_chunk (transfer_of p) 0 w (gets_of place h)).chunk =
      ap (λ (x : ℕ). bytes_in x (answer_by e)) (sym given) ∙ ap (bytes_in (given_of p.turns)) of.answer ∙ get_bytes p m t get
      ∙ ap (λ (x : List ℕ). (nth_chunk (transfer_of p) 0 x (given_of p.turns)).chunk) same ∙ ap (λ (x : ℕ). (nth_chunk (transfer_of p) 0 w x).chunk) given in
      Given (ap large_of turns ∙ large_behind t p.turns get.taken gets ∙ large) (ap given_of turns ∙ given_behind t p.turns get.taken gets ∙ ap (λ (x : ℕ). x + 1) given ∙ sym number)
      (parts_step place e h true of.old takes_it ∙ ap (λ (l : List ℕ). l ++ bytes_in (gets_of place h) (answer_by e)) parts ∙ ap (λ (l : List ℕ). joined (chunks_before (transfer_of p) 0 w (gets_of place h)) ++ l) bytes
      ∙ one_more (gets_of place h) (transfer_of p)
      ∙ ap (λ (x : ℕ). joined (chunks_before x 0 w (gets_of place h + 1))) (sym transfer) ∙ ap (λ (x : ℕ). joined (chunks_before (transfer_of o) 0 w x)) (sym number))

  pub chunked_next : IsIdle t → (takes CHUNK_GET t ≡ true → IsGet p m t) → ((is_taken t ≡ false) → transfer_of o ≡ transfer_of p) → (takes CHUNK_GET t ≡ true → transfer_of o ≡ transfer_of p) → Chunked p place w h → Chunked o place w (e ∷ h)
  chunked_next idle get keeps kept chunked = by_taken (is_taken t) (takes CHUNK_GET t) refl refl
    where
      by_taken : (b c : Bool) → is_taken t ≡ b → takes CHUNK_GET t ≡ c → Chunked o place w (e ∷ h)
      by_taken false c taken gets = idle_next taken idle (keeps taken) chunked
      by_taken true false taken gets = other_next taken gets
      by_taken true true taken gets = get_next (get gets) gets (kept gets) chunked

-- ---- The last chunk.

-- With it the chunks are the whole answer.
pub last_joins : (p o : Place) (place : Option ℕ) (w : List ℕ) (h : History) (e : Entry) (t : Turn) (m : List ℕ) → IsGet p m t → takes CHUNK_GET t ≡ true → IsBehind p o t → (slice_index (answer_in t.effect) 2 == 1) ≡ true
    → Chunked p place w h → Chunked o place w (e ∷ h) → parts_of place (e ∷ h) ≡ w
last_joins p o place w h e t m get gets behind last chunked (Gone none) =
    absurd (let x = sym (ap large_of behind.turns ∙ large_behind t p.turns get.taken gets ∙ get.large) ∙ none in cc)
last_joins p o place w h e t m get gets behind last (Gone none) (Given large given parts) = absurd (let x = sym get.large ∙ none in cc)
last_joins p o place w h e t m get gets behind last (Given was had bits) (Given large given parts) =
    let count : ℕ = chunk_count (transfer_of p) get.whole in
    let same : get.whole ≡ w = same_Some get.whole w (sym get.large ∙ was) in
    let number : gets_of place (e ∷ h) ≡ given_of p.turns + 1 = sym given ∙ ap given_of behind.turns ∙ given_behind t p.turns get.taken gets in
    let ends : given_of p.turns + 1 ≡ count = eqb-true (given_of p.turns + 1) count (sym (one_by (given_of p.turns + 1 == count)) ∙ sym (ap (λ (l : List ℕ). slice_index l 2 == 1) get.gives) ∙ last) in
    let around = div_ceil_times (length get.whole + 4) (unit_of (transfer_of p)) (omega (arith, get.wide)) in
    parts ∙ ap (λ (x : ℕ). joined (chunks_before x 0 w (gets_of place (e ∷ h)))) behind.transfer ∙ ap (λ (x : ℕ). joined (chunks_before (transfer_of p) 0 w x)) (number ∙ ends)
    ∙ ap (λ (x : List ℕ). joined (chunks_before (transfer_of p) 0 x count)) (sym same)
    ∙ all_joined (transfer_of p) 0 get.whole count get.wide (omega (arith, around.0)) ∙ same
