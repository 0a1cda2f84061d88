-- The program's representation of a large request, chunk by chunk.
use Rattle.std.proofs.Common.{◌≡◌, ◌<◌, ◌≤◌, ◌+◌, ◌-◌, ◌*◌, ◌++◌, ℕ, List, refl, sym, ap, ◌∙◌, subst, length, drop, take, min, Bool, true, false, Some, None, arith, add-one, eq-eqb, inl, inr, ne_eqb}
use Rattle.std.proofs.lemmas.Bool.{cases_order}
use Rattle.std.proofs.lemmas.Grind.{div_ceil_times}
use Rattle.std.proofs.lemmas.Nat.{mul-le}
use Rattle.chunking.proofs.ChunkSteps.{ends, reaches}
use Rattle.chunking.specs.Cutting.{chunk_end, unit_of}
use Rattle.requester_machine.specs.History.{negotiation_of, next_handle}
use Rattle.requester_machine.specs.Setup.{ReqSetup}
use Rattle.spdm_basis.proofs.Bools.{suc_units}
use Rattle.spdm_grammar.specs.Message.{ChunkMessage}
use Rattle.spdm_grammar.specs.Message.RequestMessage.{ChunkSend}
use Rattle.spdm_grammar.specs.Requests.{canonical_request}
use Rattle.spdm_grammar.specs.declared.names.TheConstants.{MAX_MESSAGE_SIZE}
use Rattle.spdm_machine.specs.Bodies.{clear_body}
use Rattle.check_laws.specs.Keeping.{Kept}
use Rattle.capture_machine.specs.LargeRequests.{IsLargeRequest, common_of}
use Rattle.world_machine.specs.Setup.{Configuration}
use Rattle.check_laws.specs.Large.Pieces.{IsFirstOf, IsNextOf, IsPieces, size_in}
use Rattle.check_laws.specs.Large.Sending.{IsSendingOf, MayStand, Sending, chunk_body, count_of, handle_of, is_last, number_of, transfer_of}
use Rattle.check_laws.specs.Large.SendingLaws.{first_body}
use Rattle.check_laws.specs.Large.SendingShown.{IsLargeSize, more_of, piece_shown}
use Rattle.check_laws.specs.declared.sending_large.pieces.Piece.TheVariants as piece
use Rattle.check_laws.specs.declared.sending_large.pieces.Pieces.{Pieces}
use Rattle.check_laws.proofs.Large.LargeSizes.{terms_wide}
use Rattle.check_laws.proofs.Large.PiecesShown.{first_is_shown, last_is_whole, piece_is_shown}

-- CHUNK_SEND with the first chunk that tells a length, and with a later one.
abbrev pub first_chunk : (handle size : ℕ) → (bytes : List ℕ) → ChunkMessage
first_chunk handle size bytes = record { last = false; handle = handle; number = 0; large = Some size; chunk = bytes }

abbrev pub later_chunk : (last : Bool) → (handle number : ℕ) → (bytes : List ℕ) → ChunkMessage
later_chunk last handle number bytes = record { last = last; handle = handle; number = number; large = None; chunk = bytes }

-- ---- The first chunk.

first_tells : (handle size : ℕ) (bytes : List ℕ) → size ≤ MAX_MESSAGE_SIZE → size_in (clear_body (canonical_request (ChunkSend (first_chunk handle size bytes)))) ≡ size
first_tells handle size bytes few = omega (arith, few)

module _ (k : Kept) (transfer max handle : ℕ) (body : List ℕ) (chunks : (common_of k.requester).chunk ≡ true) (t : (common_of k.requester).to_responder.transfer ≡ transfer) (m : (common_of k.requester).to_responder.max ≡ max)
    (h : next_handle k.requester ≡ handle) where
  pub wide : (42 ≤ transfer) × (transfer ≤ MAX_MESSAGE_SIZE)
  wide =
      let P : ℕ → Type 0 = λ n. (42 ≤ n) × (n ≤ MAX_MESSAGE_SIZE) in
      subst P t (terms_wide (negotiation_of k.requester) chunks)

  -- What a body tells that is cut from some bytes.
  pub record Tells : Type 0 where
    pub over : transfer < size_in body
    pub most : size_in body ≤ max
    pub short : size_in body ≤ MAX_MESSAGE_SIZE
    pub long : length (drop 17 body) ≡ transfer - 16
    pub form : clear_body (canonical_request (ChunkSend (first_chunk handle (size_in body) (drop 17 body)))) ≡ body

  pub tells : (whole : List ℕ) → IsLargeRequest (common_of k.requester) whole → first_body k whole ≡ body → Tells
  tells whole large is =
      let T : ℕ = (common_of k.requester).to_responder.transfer in
      let bytes : List ℕ = take (chunk_end T 0) whole in
      let size : ℕ = length whole in
      let shown = (first_is_shown k body bytes size).0 (whole, large, is, refl, refl) in
      let form : clear_body (canonical_request (ChunkSend (first_chunk handle size bytes))) ≡ body = ap (λ (n : ℕ). clear_body (canonical_request (ChunkSend (first_chunk n size bytes)))) (sym h) ∙ shown.2 in
      let told : size_in body ≡ size = ap size_in (sym form) ∙ first_tells handle size bytes shown.0.short in
      let rest : drop 17 body ≡ bytes = ap (drop 17) (sym form) in record {
        over = let o = shown.0.over in omega (arith, o, t, told);
        most = let o = shown.0.most in omega (arith, o, m, told);
        short = let o = shown.0.short in omega (arith, o, told);
        long = let o = shown.1 in let l = ap length rest in omega (arith, o, l, t);
        form = ap (λ (n : ℕ). clear_body (canonical_request (ChunkSend (first_chunk handle n (drop 17 body))))) told ∙ ap (λ (l : List ℕ). clear_body (canonical_request (ChunkSend (first_chunk handle size l)))) rest ∙ form;
      }

  pub none_told : (Tells → ⊥) → IsFirstOf k body None
  none_told not whole large is = not (tells whole large is)

  pub some_told : (p : Pieces) → transfer < size_in body → size_in body ≤ max → size_in body ≤ MAX_MESSAGE_SIZE → length (drop 17 body) ≡ transfer - 16
      → clear_body (canonical_request (ChunkSend (first_chunk handle (size_in body) (drop 17 body)))) ≡ body
      → p.transfer ≡ transfer → p.handle ≡ handle → p.size ≡ size_in body → p.number ≡ 0 → p.bytes ≡ drop 17 body → IsFirstOf k body (Some p)
  some_told p over most short long form pt ph ps pn pb =
      let T : ℕ = (common_of k.requester).to_responder.transfer in
      let size : IsLargeSize (common_of k.requester) (size_in body) = record { chunk = chunks; over = omega (arith, over, t); most = omega (arith, most, m); short = short } in
      let shown = (first_is_shown k body (drop 17 body) (size_in body)).1 (size, omega (arith, long, t), ap (λ (n : ℕ). clear_body (canonical_request (ChunkSend (first_chunk n (size_in body) (drop 17 body))))) h ∙ form) in
      let low = wide.0 in
      let high = wide.1 in (
        shown.0,
        shown.1,
        shown.2,
        λ tag. record {
          transfer = pt ∙ sym t;
          handle = ph ∙ sym h;
          size = ps ∙ sym shown.3;
          number = pn;
          bytes = pb ∙ sym shown.4;
          wide = omega (arith, low, pt);
          narrow = omega (arith, high, pt);
          short = omega (arith, short, ps);
        },
      )

-- ---- A chunk behind it.

module _ (w : Configuration) (q : ReqSetup) (older : List (List ℕ)) (s : Sending) (own : IsSendingOf w q older s) (p : Pieces) (is : IsPieces p s) where
  abbrev unit : ℕ
  unit = p.transfer - 12

  abbrev left : ℕ
  left = p.size - length p.bytes

  abbrev number : ℕ
  number = number_of s

  pub unit_is : unit ≡ unit_of (transfer_of s)
  unit_is = ap (λ (n : ℕ). n - 12) is.transfer

  -- Where the chunks so far end.
  pub at_end : length p.bytes + 4 ≡ number * unit_of (transfer_of s) + unit_of (transfer_of s)
  at_end = let a = ap length is.bytes in let b = own.held in let c = is.wide in let d = unit_is in omega (arith, a, b, c, d)

  next_end : chunk_end (transfer_of s) (number + 1) ≡ length p.bytes + unit
  next_end = let e = suc_units number (unit_of (transfer_of s)) in let f = ap (λ (n : ℕ). n * unit_of (transfer_of s)) (add-one number) in let a = at_end in let d = unit_is in omega (arith, e, f, a, d)

  pub more_is : more_of s ≡ min left unit
  more_is = let a = next_end in let b = ap length is.bytes in let c = is.size in omega (arith, a, b, c)

  some : 12 < transfer_of s
  some = let a = is.wide in let b = is.transfer in omega (arith, a, b)

  abbrev whole : List ℕ
  whole = own.stands.0

  long : length whole ≡ s.size
  long = own.stands.1.0

  -- It is the last one exactly when what is left fits into it.
  pub last_fits : left ≤ unit → is_last s (number + 1) ≡ true
  last_fits fits = elim (cases_order (number + 1 + 1) (count_of (transfer_of s) s.size)) [
    | inl same ↦ eq-eqb (number + 1 + 1) (count_of (transfer_of s) s.size) same
    | inr apart ↦ elim apart [
      | inl below ↦ absurd (
          let reach = reaches (transfer_of s) (handle_of s) whole some (number + 1 + 1) (subst (λ (n : ℕ). number + 1 + 1 < count_of (transfer_of s) n) (sym long) below) in
          let e = units_of (unit_of (transfer_of s)) in
          let a = at_end in
          let b = unit_is in
          let c = is.size in
          let d = long in
          omega (arith, reach, e, a, b, c, d, fits)
          )
      | inr above ↦ absurd (let m = own.more in omega (arith, m, above))
    ]
  ]
    where
      units_of : (u : ℕ) → (number + 1 + 1) * u ≡ number * u + u + u
      units_of u =
          let e = suc_units number u in
          let f = ap (λ (n : ℕ). n * u) (add-one number) in
          let g = suc_units (number + 1) u in
          let i = ap (λ (n : ℕ). n * u) (add-one (number + 1)) in
          omega (arith, e, f, g, i)

  pub not_last : unit < left → is_last s (number + 1) ≡ false
  not_last over = ne_eqb (number + 1 + 1) (count_of (transfer_of s) s.size) (λ same. ends_there same)
    where
      ends_there : number + 1 + 1 ≡ count_of (transfer_of s) s.size → ⊥
      ends_there same =
          let reach = ends (transfer_of s) (handle_of s) whole some (number + 1) (same ∙ ap (count_of (transfer_of s)) (sym long)) in
          let e = suc_units number (unit_of (transfer_of s)) in
          let f = ap (λ (n : ℕ). n * unit_of (transfer_of s)) (add-one number) in
          let a = at_end in
          let b = unit_is in
          let c = is.size in
          let d = long in
          omega (arith, reach, e, f, a, b, c, d, over)

  -- The next chunk, by what the program keeps.
  abbrev pub chunk_of : Bool → List ℕ → ChunkMessage
  chunk_of last more = later_chunk last p.handle (p.number + 1) more

  shown_is : (last : Bool) (more : List ℕ) → is_last s (number + 1) ≡ last → clear_body (canonical_request (ChunkSend (chunk_of last more))) ≡ piece_shown s more
  shown_is last more same =
      ap (λ (b : Bool). clear_body (canonical_request (ChunkSend (chunk_of b more)))) (sym same)
      ∙ ap (λ (n : ℕ). clear_body (canonical_request (ChunkSend (later_chunk (is_last s (number + 1)) n (p.number + 1) more)))) is.handle
      ∙ ap (λ (n : ℕ). clear_body (canonical_request (ChunkSend (later_chunk (is_last s (number + 1)) (handle_of s) (n + 1) more)))) is.number

  -- What a body tells that is cut from bytes that may stand.
  pub next_tells : (body whole : List ℕ) (last : Bool) → is_last s (number + 1) ≡ last → MayStand s whole → chunk_body s whole (number + 1) ≡ body
      → (length (drop 13 body) ≡ min left unit) × (clear_body (canonical_request (ChunkSend (chunk_of last (drop 13 body)))) ≡ body)
  next_tells body whole last same stand cut =
      let shown = (piece_is_shown w q older s body (take (chunk_end (transfer_of s) (number + 1)) whole) own).0 (whole, stand, cut, refl) in
      let more : List ℕ = shown.0 in
      let rest : drop 13 body ≡ more = ap (drop 13) (sym shown.2) in (
        ap length rest ∙ shown.1 ∙ more_is,
        ap (λ (l : List ℕ). clear_body (canonical_request (ChunkSend (chunk_of last l)))) rest ∙ shown_is last more same ∙ shown.2,
      )

  pub other : (body : List ℕ) (last : Bool) (new : Pieces) → is_last s (number + 1) ≡ last → new ≡ p
      → ((length (drop 13 body) ≡ min left unit) × (clear_body (canonical_request (ChunkSend (chunk_of last (drop 13 body)))) ≡ body) → ⊥) → IsNextOf s body piece.Other p new
  other body last new same stays not = (λ whole stand cut. not (next_tells body whole last same stand cut), stays)

  -- The bytes that it leads to.
  came_to : (body : List ℕ) (last : Bool) → is_last s (number + 1) ≡ last → length (drop 13 body) ≡ min left unit → clear_body (canonical_request (ChunkSend (chunk_of last (drop 13 body)))) ≡ body
      → (v : List ℕ) × MayStand s v × (chunk_body s v (number + 1) ≡ body) × (take (chunk_end (transfer_of s) (number + 1)) v ≡ s.bytes ++ drop 13 body)
  came_to body last same few form =
      (piece_is_shown w q older s body (s.bytes ++ drop 13 body) own).1 (drop 13 body, few ∙ sym more_is, sym (shown_is last (drop 13 body) same) ∙ form, refl)

  pub between : (body : List ℕ) (new : Pieces) → is_last s (number + 1) ≡ false → length (drop 13 body) ≡ min left unit → clear_body (canonical_request (ChunkSend (chunk_of false (drop 13 body)))) ≡ body
      → new.transfer ≡ p.transfer → new.handle ≡ p.handle → new.size ≡ p.size → new.number ≡ p.number + 1 → new.bytes ≡ p.bytes ++ drop 13 body → IsNextOf s body piece.Between p new
  between body new same few form pt ph ps pn pb =
      let v = came_to body false same few form in
      let low = is.wide in
      let high = is.narrow in
      let short = is.short in (
        v.0,
        v.1,
        v.2,
        same,
        λ tag ack. record {
          transfer = pt ∙ is.transfer;
          handle = ph ∙ is.handle;
          size = ps ∙ is.size;
          number = pn ∙ ap (λ (n : ℕ). n + 1) is.number;
          bytes = pb ∙ ap (λ (l : List ℕ). l ++ drop 13 body) is.bytes ∙ sym v.3;
          wide = omega (arith, low, pt);
          narrow = omega (arith, high, pt);
          short = omega (arith, short, ps);
        },
      )

  pub at_last : (body : List ℕ) (new : Pieces) → is_last s (number + 1) ≡ true → length (drop 13 body) ≡ min left unit → clear_body (canonical_request (ChunkSend (chunk_of true (drop 13 body)))) ≡ body
      → new.bytes ≡ p.bytes ++ drop 13 body → IsNextOf s body piece.Last p new
  at_last body new same few form pb =
      let v = came_to body true same few form in
      (v.0, v.1, v.2, same, pb ∙ ap (λ (l : List ℕ). l ++ drop 13 body) is.bytes ∙ sym v.3 ∙ last_is_whole w q older s v.0 own v.1 same)

  -- The number of a chunk is small.
  pub few_chunks : p.number + 1 < 65535
  few_chunks =
      let a = some in
      let around = div_ceil_times (s.size + 4) (unit_of (transfer_of s)) (omega (arith, a)) in
      let one = mul-le (count_of (transfer_of s) s.size) 1 (count_of (transfer_of s) s.size) (unit_of (transfer_of s)) (omega arith) (omega (arith, a)) in
      let m = own.more in
      let n = is.number in
      let b = is.narrow in
      let c = is.transfer in
      let d = is.short in
      let e = is.size in
      omega (arith, around.1, one, m, n, b, c, d, e)
