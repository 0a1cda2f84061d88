-- Which bodies are chunks of bytes that may stand for a large request.
use Rattle.std.proofs.Common.{◌≡◌, ◌<◌, ◌≤◌, ◌+◌, ◌-◌, ◌*◌, ◌==◌, ◌&&◌, ◌||◌, ◌++◌, ℕ, List, [], ◌∷◌, refl, sym, ap, ◌∙◌, subst, length, drop, take, min, replicate, Bool, true, false, Some, None, cond, arith, add-one, not, eqb-true, ne_eqb, inl, inr, length-append, take-add}
use Rattle.std.specs.Prelude.{nat_lt, slice_range}
use Rattle.std.proofs.lemmas.Bool.{cases_order, false≢true}
use Rattle.std.proofs.lemmas.Bool.Decides.{nat_tests}
use Rattle.std.proofs.lemmas.Grind.{common_steps}
use Rattle.std.proofs.lemmas.List.{take_all}
use Rattle.chunking.proofs.ChunkSteps.{ends, goes_on, size_is}
use Rattle.chunking.specs.Cutting.{chunk_end, chunk_start, nth_chunk, unit_of}
use Rattle.negotiate.specs.declared.shared.Common.{Common}
use Rattle.requester_machine.specs.History.{next_handle}
use Rattle.requester_machine.specs.Setup.{ReqSetup}
use Rattle.spdm_basis.proofs.Bools.{suc_units}
use Rattle.spdm_grammar.specs.Message.{ChunkMessage}
use Rattle.spdm_grammar.specs.Message.RequestMessage.{ChunkSend}
use Rattle.spdm_grammar.specs.Requests.{canonical_request}
use Rattle.spdm_machine.specs.Bodies.{clear_body}
use Rattle.capture_machine.specs.LargeRequests.{IsLargeRequest, common_of}
use Rattle.world_machine.specs.Setup.{Configuration}
use Rattle.check_laws.specs.Large.Sending.{IsSendingOf, MayStand, Sending, chunk_body, count_of, handle_of, is_last, number_of, transfer_of}
use Rattle.check_laws.specs.Large.SendingLaws.{first_body}
use Rattle.check_laws.specs.Large.SendingShown.{FirstIsShown, IsLargeSize, LastIsWhole, PieceIsShown, first_shown, more_of, piece_shown}
use Rattle.check_laws.proofs.Large.Cuts.{ends_within, range_is, take_take, two_chunks}
use Rattle.check_laws.proofs.Large.Histories.{later}
use Rattle.check_laws.proofs.Large.LargeSizes.{above, chunk_size}
use Rattle.check_laws.proofs.Large.Onward.{some_size}

-- ---- Lengths.

with_chunks : (a b c : Bool) → (a || (not b && c)) ≡ false → c ≡ true → b ≡ true
with_chunks a true c is large = refl
with_chunks true false c is large = absurd (false≢true (sym is))
with_chunks false false c is large = absurd (false≢true (sym is ∙ large))

first_off : (a b : Bool) → (a || b) ≡ false → a ≡ false
first_off true b is = is
first_off false b is = refl

at_most : (a b : ℕ) → nat_lt a b ≡ false → b ≤ a
at_most a b is = grind (arith, nat_tests)

no_more : (a b : ℕ) → b ≤ a → nat_lt a b ≡ false
no_more a b less = grind (arith, nat_tests)

is_over : (a b : ℕ) → a < b → nat_lt a b ≡ true
is_over a b less = grind (arith, nat_tests)

to_size : (common : Common) (whole : List ℕ) → IsLargeRequest common whole → IsLargeSize common (length whole)
to_size common whole is = record {
  chunk = with_chunks _ _ _ is.1 is.0;
  over = above common.to_responder.transfer (length whole) is.0;
  most = at_most common.to_responder.max (length whole) (first_off _ _ is.1);
  short = is.2;
}

from_size : (common : Common) (whole : List ℕ) → IsLargeSize common (length whole) → IsLargeRequest common whole
from_size common whole is =
    let over : nat_lt common.to_responder.transfer (length whole) ≡ true = is_over common.to_responder.transfer (length whole) is.over in
    let P : Bool → Bool → Bool = λ a b. a || (not b && nat_lt common.to_responder.transfer (length whole)) in (
      over,
      ap (λ (a : Bool). P a common.chunk) (no_more common.to_responder.max (length whole) is.most) ∙ ap (P false) is.chunk,
      is.short,
    )

-- Bytes of a length that begin so.
filled : (size : ℕ) → List ℕ → List ℕ
filled size bytes = bytes ++ replicate (size - length bytes) 0

filled_length : (size : ℕ) (bytes : List ℕ) → length bytes ≤ size → length (filled size bytes) ≡ size
unfolding filled
filled_length size bytes less = grind (arith, common_steps)

filled_begins : (size : ℕ) (bytes : List ℕ) → take (length bytes) (filled size bytes) ≡ bytes
unfolding filled
filled_begins size bytes = grind (arith, common_steps)

-- ---- The first chunk.

drop_zero : (n : ℕ) (l : List ℕ) → n ≡ 0 → drop n l ≡ l
drop_zero n l is = ap (λ (m : ℕ). drop m l) is

first_start : (transfer : ℕ) → chunk_start transfer 0 ≡ 0
first_start transfer = omega arith

-- The first chunk of bytes.
first_chunk : (transfer handle : ℕ) (whole : List ℕ) → 12 < transfer → transfer < length whole
    → nth_chunk transfer handle whole 0 ≡ record { last = false; handle = handle; number = 0; large = Some (length whole); chunk = take (chunk_end transfer 0) whole }
first_chunk transfer handle whole some over =
    let more = two_chunks transfer (length whole) some over in
    let last : (0 + 1 == count_of transfer (length whole)) ≡ false = ne_eqb (0 + 1) (count_of transfer (length whole)) (λ same. omega (arith, more, same)) in
    let bytes : slice_range whole (chunk_start transfer 0) (chunk_end transfer 0) ≡ take (chunk_end transfer 0) whole =
    range_is whole (chunk_start transfer 0) (chunk_end transfer 0) (omega arith) ∙ drop_zero (chunk_start transfer 0) (take (chunk_end transfer 0) whole) (first_start transfer) in
    let P : Bool → List ℕ → ChunkMessage = λ b l. record { last = b; handle = handle; number = 0; large = Some (length whole); chunk = l } in
    ap (λ (b : Bool). P b (slice_range whole (chunk_start transfer 0) (chunk_end transfer 0))) last ∙ ap (P false) bytes

pub first_is_shown : FirstIsShown
first_is_shown k body bytes size = (to, back)
  where
    to : ((whole : List ℕ) × IsLargeRequest (common_of k.requester) whole × (first_body k whole ≡ body) × (length whole ≡ size) × (take (chunk_end (common_of k.requester).to_responder.transfer 0) whole ≡ bytes))
        → IsLargeSize (common_of k.requester) size × (length bytes ≡ chunk_end (common_of k.requester).to_responder.transfer 0) × (first_shown k size bytes ≡ body)
    to c =
        let transfer : ℕ = (common_of k.requester).to_responder.transfer in
        let some = chunk_size k.requester c.0 c.1 in
        let large = to_size (common_of k.requester) c.0 c.1 in
        let held = ends_within transfer 0 0 c.0 some (two_chunks transfer (length c.0) some large.over) in
        let cut = first_chunk transfer (next_handle k.requester) c.0 some large.over in (
          subst (IsLargeSize (common_of k.requester)) c.3 large,
          ap length (sym c.4) ∙ held,
          ap (λ (n : ℕ). first_shown k n bytes) (sym c.3) ∙ ap (λ (l : List ℕ). first_shown k (length c.0) l) (sym c.4)
              ∙ ap (λ (x : ChunkMessage). clear_body (canonical_request (ChunkSend x))) (sym cut) ∙ c.2,
        )

    back : IsLargeSize (common_of k.requester) size × (length bytes ≡ chunk_end (common_of k.requester).to_responder.transfer 0) × (first_shown k size bytes ≡ body)
        → (whole : List ℕ) × IsLargeRequest (common_of k.requester) whole × (first_body k whole ≡ body) × (length whole ≡ size) × (take (chunk_end (common_of k.requester).to_responder.transfer 0) whole ≡ bytes)
    back c =
        let transfer : ℕ = (common_of k.requester).to_responder.transfer in
        let whole : List ℕ = filled size bytes in
        let long : length whole ≡ size = filled_length size bytes (let o = c.0.over in let e = c.1 in omega (arith, o, e)) in
        let large = from_size (common_of k.requester) whole (subst (IsLargeSize (common_of k.requester)) (sym long) c.0) in
        let some = chunk_size k.requester whole large in
        let begins : take (chunk_end transfer 0) whole ≡ bytes = ap (λ (n : ℕ). take n whole) (sym c.1) ∙ filled_begins size bytes in
        let cut = first_chunk transfer (next_handle k.requester) whole some (to_size (common_of k.requester) whole large).over in (
          whole,
          large,
          ap (λ (x : ChunkMessage). clear_body (canonical_request (ChunkSend x))) cut ∙ ap (λ (l : List ℕ). first_shown k (length whole) l) begins ∙ ap (λ (n : ℕ). first_shown k n bytes) long ∙ c.2,
          long,
          begins,
        )

-- ---- A chunk behind it.

taken : (whole : List ℕ) (a b : ℕ) → a ≤ b → take b whole ≡ take a whole ++ slice_range whole a b
taken whole a b less =
    let sum : a + (b - a) ≡ b = omega arith in
    ap (λ (n : ℕ). take n whole) (sym sum) ∙ take-add a (b - a) whole

take_front : (a b : List ℕ) → take (length a) (a ++ b) ≡ a
take_front [] b = refl
take_front (x ∷ a) b = ap (λ (l : List ℕ). x ∷ l) (take_front a b)

-- What is left of bytes after the first ones.
append_same : (a b c : List ℕ) → a ++ b ≡ a ++ c → b ≡ c
append_same [] b c same = same
append_same (x ∷ a) b c same = append_same a b c (ap (λ (l : List ℕ). drop 1 l) same)

module _ (w : Configuration) (q : ReqSetup) (older : List (List ℕ)) (s : Sending) (own : IsSendingOf w q older s) where
  abbrev transfer : ℕ
  transfer = transfer_of s

  abbrev start : ℕ
  start = chunk_start transfer (number_of s + 1)

  abbrev end : ℕ
  end = chunk_end transfer (number_of s + 1)

  some : 12 < transfer
  some = some_size transfer (number_of s) own.stands.0 (subst (λ (n : ℕ). number_of s + 1 < count_of transfer n) (sym own.stands.1.0) own.more)

  starts : start ≡ length s.bytes
  starts = (let e = suc_units (number_of s) (unit_of transfer) in let f = ap (λ (n : ℕ). n * unit_of transfer) (add-one (number_of s)) in let h = own.held in omega (arith, e, f, h))

  ordered : start ≤ end
  ordered = omega arith

  -- Not all bytes came yet.
  within : length s.bytes ≤ s.size
  within =
      let reach = goes_on transfer (handle_of s) own.stands.0 some (number_of s) (subst (λ (n : ℕ). number_of s + 1 < count_of transfer n) (sym own.stands.1.0) own.more) in
      let h = own.held in
      let e = own.stands.1.0 in
      omega (arith, reach, h, e)

  -- The next chunk of bytes that may stand.
  next_cut : (whole : List ℕ) → length whole ≡ s.size
      → nth_chunk transfer (handle_of s) whole (number_of s + 1) ≡ record { last = is_last s (number_of s + 1); handle = handle_of s; number = number_of s + 1; large = None; chunk = slice_range whole start end }
  next_cut whole long =
      let bytes : List ℕ = slice_range whole start end in
      let P : Bool → Bool → ℕ → ChunkMessage = λ b l n. record { last = l; handle = handle_of s; number = number_of s + 1; large = cond b (Some n) None; chunk = bytes } in
      ap (λ (b : Bool). P b (number_of s + 1 + 1 == count_of transfer (length whole)) (length whole)) (later (number_of s))
      ∙ ap (λ (n : ℕ). P false (number_of s + 1 + 1 == count_of transfer n) n) long

  next_length : (whole : List ℕ) → length whole ≡ s.size → length (slice_range whole start end) ≡ more_of s
  next_length whole long =
      size_is transfer (handle_of s) whole some (number_of s + 1) ∙ ap (λ (n : ℕ). min end n - start) long ∙ ap (λ (n : ℕ). min end s.size - n) starts

  pub piece_to : (body bytes : List ℕ) → ((whole : List ℕ) × MayStand s whole × (chunk_body s whole (number_of s + 1) ≡ body) × (take end whole ≡ bytes))
      → (more : List ℕ) × (length more ≡ more_of s) × (piece_shown s more ≡ body) × (bytes ≡ s.bytes ++ more)
  piece_to body bytes c =
      let whole : List ℕ = c.0 in
      let more : List ℕ = slice_range whole start end in (
        more,
        next_length whole c.1.0,
        ap (λ (x : ChunkMessage). clear_body (canonical_request (ChunkSend x))) (sym (next_cut whole c.1.0)) ∙ c.2,
        sym c.3 ∙ taken whole start end ordered ∙ ap (λ (n : ℕ). take n whole ++ more) starts ∙ ap (λ (l : List ℕ). l ++ more) c.1.1,
      )

  module _ (more : List ℕ) (long : length more ≡ more_of s) where
    abbrev all : List ℕ
    all = s.bytes ++ more

    abbrev whole : List ℕ
    whole = filled s.size all

    ends_at : length all ≡ min end s.size
    ends_at = let a = length-append s.bytes more in let b = starts in let c = ordered in let d = within in omega (arith, a, long, b, c, d)

    fits : length all ≤ s.size
    fits = let a = ends_at in omega (arith, a)

    whole_long : length whole ≡ s.size
    whole_long = filled_length s.size all fits

    -- Up to the end of the chunk they are these.
    whole_taken : take end whole ≡ all
    whole_taken = elim (cases_order end s.size) [
      | inl same ↦ full (let a = ends_at in omega (arith, a, same))
      | inr apart ↦ elim apart [
        | inl below ↦ full (let a = ends_at in omega (arith, a, below))
        | inr above ↦ (
            let exact : length all ≡ s.size = let a = ends_at in omega (arith, a, above) in
            let few : length whole ≤ end = let b = whole_long in omega (arith, b, above) in
            take_all end whole few ∙ sym (take_all (length all) whole (let b = whole_long in omega (arith, b, exact))) ∙ filled_begins s.size all
            )
      ]
    ]
      where
        full : length all ≡ end → take end whole ≡ all
        full is = ap (λ (n : ℕ). take n whole) (sym is) ∙ filled_begins s.size all

    whole_begins : take (length s.bytes) whole ≡ s.bytes
    whole_begins =
        let less : length s.bytes ≤ length all = let a = length-append s.bytes more in omega (arith, a) in
        sym (take_take (length s.bytes) (length all) whole less) ∙ ap (take (length s.bytes)) (filled_begins s.size all) ∙ take_front s.bytes more

    stands : MayStand s whole
    stands = (whole_long, whole_begins)

    same_more : slice_range whole start end ≡ more
    same_more =
        append_same s.bytes (slice_range whole start end) more
        (ap (λ (l : List ℕ). l ++ slice_range whole start end) (sym whole_begins) ∙ ap (λ (n : ℕ). take n whole ++ slice_range whole start end) (sym starts) ∙ sym (taken whole start end ordered) ∙ whole_taken)

    pub piece_back : (body bytes : List ℕ) → piece_shown s more ≡ body → bytes ≡ all → (v : List ℕ) × MayStand s v × (chunk_body s v (number_of s + 1) ≡ body) × (take end v ≡ bytes)
    piece_back body bytes is same = (
      whole,
      stands,
      ap (λ (x : ChunkMessage). clear_body (canonical_request (ChunkSend x))) (next_cut whole whole_long) ∙ ap (piece_shown s) same_more ∙ is,
      whole_taken ∙ sym same,
    )

pub piece_is_shown : PieceIsShown
piece_is_shown w q older s body bytes own = (
  λ c. piece_to w q older s own body bytes c,
  λ c. piece_back w q older s own c.0 c.1 body bytes c.2 c.3,
)

pub last_is_whole : LastIsWhole
last_is_whole w q older s whole own stand last =
    let reach = ends (transfer_of s) (handle_of s) whole (some w q older s own) (number_of s + 1)
    (eqb-true (number_of s + 1 + 1) (count_of (transfer_of s) s.size) last ∙ ap (count_of (transfer_of s)) (sym stand.0)) in
    take_all (chunk_end (transfer_of s) (number_of s + 1)) whole (omega (arith, reach))
