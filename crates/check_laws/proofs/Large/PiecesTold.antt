-- What is reported of a chunk by its comparison with the cut.
use Rattle.std.proofs.Common.{◌≡◌, ◌<◌, ◌≤◌, ◌+◌, ◌-◌, ◌++◌, ℕ, List, [], refl, sym, ap, ◌∙◌, length, drop, min, Bool, true, false, Some, None, Result, Ok, Err, arith, ne_eqb}
use Rattle.std.specs.Prelude.{◌↔◌, IsTrue, OnErr, OnOk, nat_le}
use Rattle.std.specs.Result.{is_err, result_ok}
use Rattle.std.proofs.lemmas.Bool.{false≢true}
use Rattle.std.proofs.lemmas.Bool.Decides.{nat_tests}
use Rattle.std.proofs.lemmas.Option.{none-some}
use Rattle.requester_machine.specs.History.{next_handle}
use Rattle.requester_machine.specs.Setup.{ReqSetup}
use Rattle.spdm_grammar.specs.Fields.{IsSoundChunk}
use Rattle.spdm_grammar.specs.Message.RequestMessage.{ChunkSend}
use Rattle.spdm_grammar.specs.Requests.{canonical_request}
use Rattle.spdm_grammar.specs.declared.names.TheConstants.{MAX_MESSAGE_SIZE}
use Rattle.spdm_machine.specs.Bodies.{clear_body}
use Rattle.check_laws.specs.Keeping.{Kept}
use Rattle.capture_machine.specs.LargeRequests.{common_of}
use Rattle.world_machine.specs.Setup.{Configuration}
use Rattle.check_laws.specs.Large.Pieces.{IsFirstOf, IsNextOf, IsPieces, size_in}
use Rattle.check_laws.specs.Large.Sending.{IsSendingOf, Sending, is_last, number_of}
use Rattle.check_laws.specs.declared.sending_large.pieces.Piece.TheVariants as piece
use Rattle.check_laws.specs.declared.sending_large.pieces.Pieces.{Pieces}
use Rattle.check_laws.proofs.Large.PiecesHeld.{at_end, at_last, between, few_chunks, first_chunk, last_fits, later_chunk, none_told, not_last, other, some_told, unit_is, wide}

-- ---- Results.

pub ok_if : {A E : Type 0} (r : Result A E) (P : Type 0) (v : A) → OnOk r P → result_ok r ≡ Some v → P
ok_if (Ok x) P v on is = on
ok_if (Err e) P v on is = absurd (none-some v is)

pub ok_unless : {A E : Type 0} (r : Result A E) (P : Type 0) → OnOk r P → is_err r ≡ false → P
ok_unless (Ok x) P on is = on
ok_unless (Err e) P on is = absurd (false≢true (sym is))

pub err_if : {A E : Type 0} (r : Result A E) (P : Type 0) → OnErr r P → is_err r ≡ true → P
err_if (Ok x) P on is = absurd (false≢true is)
err_if (Err e) P on is = on

-- ---- The first chunk.

module _ (k : Kept) (transfer max handle : ℕ) (body : List ℕ) (chunks : (common_of k.requester).chunk ≡ true) (t : (common_of k.requester).to_responder.transfer ≡ transfer) (m : (common_of k.requester).to_responder.max ≡ max)
    (h : next_handle k.requester ≡ handle) (size : ℕ) (chunk : List ℕ) (result : Bool) (size_is : size ≡ size_in body) (chunk_is : chunk ≡ drop 17 body) (long : length chunk ≡ transfer - 16)
    (same : IsSoundChunk (first_chunk handle size chunk) → length chunk + 16 ≤ MAX_MESSAGE_SIZE → (IsTrue result ↔ (clear_body (canonical_request (ChunkSend (first_chunk handle size chunk))) ≡ body))) where
  compared : IsTrue result ↔ (clear_body (canonical_request (ChunkSend (first_chunk handle size chunk))) ≡ body)
  compared =
      let a = (wide k transfer max handle body chunks t m h).0 in
      let b = (wide k transfer max handle body chunks t m h).1 in
      same (record { first = refl; size = omega (arith, long, b) }) (omega (arith, long, a, b))

  formed : clear_body (canonical_request (ChunkSend (first_chunk handle size chunk))) ≡ clear_body (canonical_request (ChunkSend (first_chunk handle (size_in body) (drop 17 body))))
  formed =
      ap (λ (n : ℕ). clear_body (canonical_request (ChunkSend (first_chunk handle n chunk)))) size_is
      ∙ ap (λ (l : List ℕ). clear_body (canonical_request (ChunkSend (first_chunk handle (size_in body) l)))) chunk_is

  pub first_refused : result ≡ false → IsFirstOf k body None
  first_refused not = none_told k transfer max handle body chunks t m h (λ x. false≢true (sym not ∙ compared.1 (formed ∙ x.form)))

  pub first_taken : (p : Pieces) → result ≡ true → transfer < size → size ≤ max → size ≤ MAX_MESSAGE_SIZE → p.transfer ≡ transfer → p.handle ≡ handle → p.size ≡ size → p.number ≡ 0 → p.bytes ≡ [] ++ chunk → IsFirstOf k body (Some p)
  first_taken p is over most short pt ph ps pn pb =
      some_told k transfer max handle body chunks t m h p (omega (arith, over, size_is)) (omega (arith, most, size_is)) (omega (arith, short, size_is)) (ap length (sym chunk_is) ∙ long)
      (sym formed ∙ compared.0 is) pt ph (ps ∙ size_is) pn (pb ∙ chunk_is)

-- ---- A chunk behind it.

le_true : (a b : ℕ) → nat_le a b ≡ true → a ≤ b
le_true a b is = grind (arith, nat_tests)

le_false : (a b : ℕ) → nat_le a b ≡ false → b < a
le_false a b is = grind (arith, nat_tests)

module _ (w : Configuration) (q : ReqSetup) (older : List (List ℕ)) (s : Sending) (own : IsSendingOf w q older s) (p : Pieces) (is : IsPieces p s) where
  abbrev left : ℕ
  left = p.size - length p.bytes

  abbrev unit : ℕ
  unit = p.transfer - 12

  last_is : (b : Bool) → nat_le left unit ≡ b → is_last s (number_of s + 1) ≡ b
  last_is true fits = last_fits w q older s own p is (le_true left unit fits)
  last_is false over = not_last w q older s own p is (le_false left unit over)

  -- The chunk is no longer than it may be.
  few_bytes : min left unit + 16 ≤ MAX_MESSAGE_SIZE
  few_bytes =
      let a = at_end w q older s own p is in
      let b = unit_is w q older s own p is in
      let c = is.wide in
      let d = is.narrow in
      let e = is.short in
      omega (arith, a, b, c, d, e)

  module _ (body : List ℕ) (l u number : ℕ) (chunk : List ℕ) (result : Bool) (l_is : l ≡ left) (u_is : u ≡ unit) (number_as : number ≡ min (p.number + 1) 65535) (chunk_is : chunk ≡ drop 13 body) (long : length chunk ≡ min l u)
      (same : IsSoundChunk (later_chunk (nat_le l u) p.handle number chunk) → length chunk + 16 ≤ MAX_MESSAGE_SIZE
      → (IsTrue result ↔ (clear_body (canonical_request (ChunkSend (later_chunk (nat_le l u) p.handle number chunk))) ≡ body))) where
    number_is : number ≡ p.number + 1
    number_is = let f = few_chunks w q older s own p is in omega (arith, number_as, f)

    min_is : min l u ≡ min left unit
    min_is = ap (λ (n : ℕ). min n u) l_is ∙ ap (min left) u_is

    lasts : is_last s (number_of s + 1) ≡ nat_le l u
    lasts = last_is (nat_le l u) (ap (λ (n : ℕ). nat_le n unit) (sym l_is) ∙ ap (nat_le l) (sym u_is))

    next_compared : IsTrue result ↔ (clear_body (canonical_request (ChunkSend (later_chunk (nat_le l u) p.handle number chunk))) ≡ body)
    next_compared =
        let f = few_bytes in
        same (record { first = sym (ne_eqb number 0 (λ zero. absurd (omega (arith, zero, number_is)))); size = omega (arith, long, f, min_is) }) (omega (arith, long, f, min_is))

    next_formed : clear_body (canonical_request (ChunkSend (later_chunk (nat_le l u) p.handle number chunk))) ≡ clear_body (canonical_request (ChunkSend (later_chunk (nat_le l u) p.handle (p.number + 1) (drop 13 body))))
    next_formed =
        ap (λ (n : ℕ). clear_body (canonical_request (ChunkSend (later_chunk (nat_le l u) p.handle n chunk)))) number_is
        ∙ ap (λ (b : List ℕ). clear_body (canonical_request (ChunkSend (later_chunk (nat_le l u) p.handle (p.number + 1) b)))) chunk_is

    long_is : length (drop 13 body) ≡ min left unit
    long_is = ap length (sym chunk_is) ∙ long ∙ min_is

    pub next_refused : (new : Pieces) → result ≡ false → new ≡ p → IsNextOf s body piece.Other p new
    next_refused new not stays = other w q older s own p is body (nat_le l u) new lasts stays (λ x. false≢true (sym not ∙ next_compared.1 (next_formed ∙ x.1)))

    form : result ≡ true → clear_body (canonical_request (ChunkSend (later_chunk (nat_le l u) p.handle (p.number + 1) (drop 13 body)))) ≡ body
    form right = sym next_formed ∙ next_compared.0 right

    form_as : (b : Bool) → is_last s (number_of s + 1) ≡ b → result ≡ true → clear_body (canonical_request (ChunkSend (later_chunk b p.handle (p.number + 1) (drop 13 body)))) ≡ body
    form_as b now right = ap (λ (x : Bool). clear_body (canonical_request (ChunkSend (later_chunk x p.handle (p.number + 1) (drop 13 body))))) (sym now ∙ lasts) ∙ form right

    pub last_taken : (new : Pieces) → result ≡ true → l ≤ u → new.bytes ≡ p.bytes ++ chunk → IsNextOf s body piece.Last p new
    last_taken new right fits pb =
        let is_last_one = last_fits w q older s own p is (omega (arith, fits, l_is, u_is)) in
        at_last w q older s own p is body new is_last_one long_is (form_as true is_last_one right) (pb ∙ ap (λ (b : List ℕ). p.bytes ++ b) chunk_is)

    pub next_taken : (new : Pieces) → result ≡ true → u < l → new.transfer ≡ p.transfer → new.handle ≡ p.handle → new.size ≡ p.size → new.number ≡ min (p.number + 1) 65535 → new.bytes ≡ p.bytes ++ chunk → IsNextOf s body piece.Between p new
    next_taken new right over pt ph ps pn pb =
        let not = not_last w q older s own p is (omega (arith, over, l_is, u_is)) in
        between w q older s own p is body new not long_is (form_as false not right) pt ph ps (pn ∙ sym number_as ∙ number_is) (pb ∙ ap (λ (b : List ℕ). p.bytes ++ b) chunk_is)
