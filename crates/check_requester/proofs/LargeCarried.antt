-- The chunks of a large request, each compared with bytes.
use Rattle.std.proofs.Common.{◌≡◌, ◌∙◌, ◌+◌, ◌-◌, ◌*◌, ◌<◌, ◌≤◌, ◌==◌, ◌++◌, ℕ, zero, suc, List, [], ◌∷◌, refl, sym, ap, subst, length, drop, take, Bool, true, false, Option, Some, None, cond, arith, add-one, eqb-true, length-append, take-add}
use Rattle.std.specs.Prelude.{if◌then◌else◌, is_some, min, slice_range}
use Rattle.std.proofs.lemmas.Bool.{false≢true}
use Rattle.std.proofs.lemmas.List.{length-take, take_all}
use Rattle.requester_core.specs.Joined.{StandsFor}
use Rattle.requester_core.specs.LargeRequests.{IsAcknowledged, next_piece, piece_behind, piece_behind_sent}
use Rattle.requester_core.specs.declared.joined.RequesterCore.{RequesterCore}
use Rattle.chunking.proofs.ChunkSteps.{ends}
use Rattle.chunking.specs.Cutting.{chunk_count, chunk_end, chunk_start, nth_chunk, unit_of}
use Rattle.requester_machine.specs.History.{History, connection_terms, outstanding}
use Rattle.requester_machine.specs.Message.{Sent, body_of}
use Rattle.requester_machine.specs.Message.Aim.{ByChunks}
use Rattle.requester_machine.specs.Sending.{piece_sent}
use Rattle.requester_machine.specs.Setup.{ReqSetup}
use Rattle.requester_machine.specs.UnderWay.{HasSizes}
use Rattle.spdm_basis.proofs.Bools.{suc_units}
use Rattle.spdm_grammar.specs.Message.{ChunkMessage, RequestMessage}
use Rattle.spdm_grammar.specs.Message.RequestMessage.{ChunkSend}
use Rattle.spdm_grammar.specs.Requests.{canonical_request}
use Rattle.spdm_machine.specs.Bodies.{clear_body}
use Rattle.spdm_machine.specs.Terms.{Terms}
use Rattle.check_requester.specs.LargeAsked.{IsCarried, IsHeldTo, cut_body}
use Rattle.check_laws.proofs.Large.Histories.{behind_terms, behind_waits, later}
use Rattle.check_laws.specs.Large.Pieces.{size_in}
use Rattle.check_laws.specs.Large.Sending.{Ack, behind, number_in}
use Rattle.capture_machine.specs.LargeRequests.{common_of}
use Rattle.capture_machine.specs.Rounds.{no_draw}

-- ---- Bytes.

taken : (m : List ℕ) (a b : ℕ) → a ≤ b → take b m ≡ take a m ++ slice_range m a b
taken m a b less =
    let sum : a + (b - a) ≡ b = omega arith in
    ap (λ (n : ℕ). take n m) (sym sum) ∙ take-add a (b - a) m

-- After the first bytes come the next ones.
drop_taken : (a : ℕ) (m : List ℕ) → drop (length (take a m)) m ≡ drop a m
drop_taken zero m = refl
drop_taken (suc a) [] = refl
drop_taken (suc a) (x ∷ m) = drop_taken a m

take_again : (a : ℕ) (m : List ℕ) → take (length (take a m)) m ≡ take a m
take_again zero m = refl
take_again (suc a) [] = refl
take_again (suc a) (x ∷ m) = ap (λ (l : List ℕ). x ∷ l) (take_again a m)

module _ (h : History) (m v : List ℕ) where
  abbrev transfer : ℕ
  transfer = (common_of h).to_responder.transfer

  abbrev end : ℕ → ℕ
  end n = chunk_end transfer n

  abbrev bytes : ℕ → List ℕ
  bytes n = slice_range m (chunk_start transfer (n + 1)) (chunk_end transfer (n + 1))

  starts : (n : ℕ) → chunk_start transfer (n + 1) ≡ end n
  starts n = (let e = suc_units n (unit_of transfer) in let f = ap (λ (k : ℕ). k * unit_of transfer) (add-one n) in omega (arith, e, f))

  ordered : (n : ℕ) → end n ≤ end (n + 1)
  ordered n = (let e = suc_units n (unit_of transfer) in let f = ap (λ (k : ℕ). k * unit_of transfer) (add-one n) in omega (arith, e, f))

  bytes_are : (n : ℕ) → bytes n ≡ slice_range m (end n) (end (n + 1))
  bytes_are n = ap (λ (a : ℕ). slice_range m a (end (n + 1))) (starts n)

  more : (n : ℕ) → take (end (n + 1)) m ≡ take (end n) m ++ bytes n
  more n = taken m (end n) (end (n + 1)) (ordered n) ∙ ap (λ (l : List ℕ). take (end n) m ++ l) (sym (bytes_are n))

  -- The next bytes are those of the chunk.
  pub held_on : (n at : ℕ) → IsHeldTo h m v n at → take (length (bytes n)) (drop at v) ≡ bytes n → IsHeldTo h m v (n + 1) (at + length (bytes n))
  held_on n at held same = (
    ap (λ (k : ℕ). k + length (bytes n)) held.0 ∙ sym (length-append (take (end n) m) (bytes n)) ∙ sym (ap length (more n)),
    take-add at (length (bytes n)) v ∙ ap (λ (l : List ℕ). l ++ take (length (bytes n)) (drop at v)) held.1 ∙ ap (λ (l : List ℕ). take (end n) m ++ l) same ∙ sym (more n),
  )

  -- The sum is small.
  pub small_sum : (n at : ℕ) → length m ≤ 4096 → IsHeldTo h m v n at → min (at + length (bytes n)) 18446744073709551615 ≡ at + length (bytes n)
  small_sum n at few held =
      let long : at + length (bytes n) ≡ length (take (end (n + 1)) m) = ap (λ (k : ℕ). k + length (bytes n)) held.0 ∙ sym (length-append (take (end n) m) (bytes n)) ∙ sym (ap length (more n)) in
      let within = length-take (end (n + 1)) m in
      omega (arith, long, within, few)

  -- They are, where all bytes are the same.
  pub same_bytes : (n at : ℕ) → IsHeldTo h m v n at → v ≡ m → take (length (bytes n)) (drop at v) ≡ bytes n
  same_bytes n at held is =
      let there : drop at v ≡ drop (end n) m = ap (drop at) is ∙ ap (λ (k : ℕ). drop k m) held.0 ∙ drop_taken (end n) m in
      let own : bytes n ≡ take (end (n + 1) - end n) (drop (end n) m) = bytes_are n in
      ap (take (length (bytes n))) there ∙ ap (λ (l : List ℕ). take (length l) (drop (end n) m)) own ∙ take_again (end (n + 1) - end n) (drop (end n) m) ∙ sym own

  -- All of them.
  pub all_bytes : (n at : ℕ) → 12 < transfer → length v ≡ length m → n + 1 ≡ chunk_count transfer v → IsHeldTo h m v n at → v ≡ m
  all_bytes n at wide long last held =
      let reach = ends transfer 0 v wide n last in
      let all : take (end n) m ≡ m = take_all (end n) m (omega (arith, reach, long)) in
      let as_long : at ≡ length v = held.0 ∙ ap length all ∙ sym long in
      sym (ap (λ (k : ℕ). take k v) as_long ∙ take_all (length v) v (omega arith)) ∙ held.1 ∙ all

-- ---- A chunk behind the first one.

-- Some acknowledgements, so many.
acks_of : ℕ → List Ack
acks_of zero = []
acks_of (suc n) = record { tag = 0; message = [] } ∷ acks_of n

acks_count : (n : ℕ) → number_in (acks_of n) ≡ n
unfolding acks_of
acks_count zero = refl
acks_count (suc n) = ap (λ (k : ℕ). k + 1) (acks_count n) ∙ add-one n

module _ (q : ReqSetup) (h : History) (asked : RequestMessage) (handle : ℕ) where
  abbrev request : List ℕ
  request = canonical_request asked

  abbrev H : List Ack → History
  H acks = behind asked request handle acks h

  -- Whatever was taken for the acknowledgements, so many of them.
  abbrev pub Stands : ℕ → RequesterCore → Type 0
  Stands n asking = (acks : List Ack) → number_in acks ≡ n → StandsFor asking q (H acks)

  pub stands_first : (asking : RequesterCore) → StandsFor asking q h → Stands 0 asking
  stands_first asking stands [] is = stands
  stands_first asking stands (ack ∷ acks) is = absurd (omega (arith, is))

  module _ (sent : Sent) (out : outstanding h ≡ Some sent) (aim : sent.aim ≡ ByChunks asked handle 0) where
    next_is : (acks : List Ack) → next_piece (H acks)
        ≡ (if number_in acks + 1 == chunk_count (common_of (H acks)).to_responder.transfer request then None else Some (piece_sent (common_of (H acks)) (H acks) asked handle (number_in acks + 1)))
    next_is acks =
        let w = behind_waits asked request handle acks h (record { sent = sent; waits = out; aim = aim }) in
        ap (piece_behind_sent (H acks)) w.waits ∙ ap (piece_behind (H acks)) w.aim

    terms : (acks : List Ack) → connection_terms (H acks) ≡ connection_terms h
    terms acks = behind_terms asked request handle acks h

    -- What the program's call tells, for each history.
    module _ (n : ℕ) (old new : RequesterCore) (result : Option ℕ) (room : List ℕ) (sizes : HasSizes q) (stands : Stands n old) (tells : (p : ReqSetup) (l : History) → HasSizes p → StandsFor old p l → IsAcknowledged p l (next_piece l) result room new) where
      told : (acks : List Ack) → number_in acks ≡ n → IsAcknowledged q (H acks) (next_piece (H acks)) result room new
      told acks is = tells q (H acks) sizes (stands acks is)

      by_test : (b : Bool) (acks : List Ack) → IsAcknowledged q (H acks) (cond b None (Some (piece_sent (common_of (H acks)) (H acks) asked handle (number_in acks + 1)))) result room new → is_some result ≡ true
          → StandsFor new q (H (record { tag = 0; message = [] } ∷ acks)) × (room ≡ body_of (piece_sent (common_of (H acks)) (H acks) asked handle (number_in acks + 1)).content) × ((ack : Ack) → StandsFor new q (H (ack ∷ acks)))
      by_test b acks did some = by_result b result did some
        where
          by_result : (c : Bool) (r : Option ℕ) → IsAcknowledged q (H acks) (cond c None (Some (piece_sent (common_of (H acks)) (H acks) asked handle (number_in acks + 1)))) r room new → is_some r ≡ true
              → StandsFor new q (H (record { tag = 0; message = [] } ∷ acks)) × (room ≡ body_of (piece_sent (common_of (H acks)) (H acks) asked handle (number_in acks + 1)).content) × ((ack : Ack) → StandsFor new q (H (ack ∷ acks)))
          by_result c None d is = absurd (false≢true is)
          by_result true (Some tag) d is = absurd d
          by_result false (Some tag) d is = (d.2 0 [] no_draw, d.1, λ ack. d.2 ack.tag ack.message no_draw)

      on : is_some result ≡ true → (acks : List Ack) → number_in acks ≡ n
          → StandsFor new q (H (record { tag = 0; message = [] } ∷ acks)) × (room ≡ body_of (piece_sent (common_of (H acks)) (H acks) asked handle (number_in acks + 1)).content) × ((ack : Ack) → StandsFor new q (H (ack ∷ acks)))
      on some acks is =
          by_test (number_in acks + 1 == chunk_count (common_of (H acks)).to_responder.transfer request) acks
          (subst (λ (o : Option Sent). IsAcknowledged q (H acks) o result room new) (next_is acks) (told acks is)) some

      pub stands_on : is_some result ≡ true → Stands (n + 1) new
      stands_on some [] is = absurd (omega (arith, is))
      stands_on some (ack ∷ acks) is = (on some acks (omega (arith, is))).2 ack

      -- Its bytes.
      chunk_body : (acks : List Ack) → number_in acks ≡ n → body_of (piece_sent (common_of (H acks)) (H acks) asked handle (number_in acks + 1)).content ≡ cut_body h handle request (n + 1)
      chunk_body acks is =
          ap (λ (t : Terms). clear_body (canonical_request (ChunkSend (nth_chunk t.common.to_responder.transfer handle request (number_in acks + 1))))) (terms acks)
          ∙ ap (λ (k : ℕ). cut_body h handle request (k + 1)) is

      pub room_is : is_some result ≡ true → room ≡ cut_body h handle request (n + 1)
      room_is some = (on some (acks_of n) (acks_count n)).1 ∙ chunk_body (acks_of n) (acks_count n)

      -- None follows the last one.
      pub last_is : is_some result ≡ false → n + 1 ≡ chunk_count (common_of h).to_responder.transfer request
      last_is none =
          let acks : List Ack = acks_of n in
          let count = ap (λ (t : Terms). chunk_count t.common.to_responder.transfer request) (terms acks) in
          sym (ap (λ (k : ℕ). k + 1) (acks_count n)) ∙ by_none (number_in acks + 1 == chunk_count (common_of (H acks)).to_responder.transfer request) refl result none (subst (λ (o : Option Sent). IsAcknowledged q (H acks) o result room new) (next_is acks) (told acks (acks_count n))) ∙ count
        where
          by_none : (b : Bool) → (number_in (acks_of n) + 1 == chunk_count (common_of (H (acks_of n))).to_responder.transfer request) ≡ b → (r : Option ℕ) → is_some r ≡ false
              → IsAcknowledged q (H (acks_of n)) (cond b None (Some (piece_sent (common_of (H (acks_of n))) (H (acks_of n)) asked handle (number_in (acks_of n) + 1)))) r room new → number_in (acks_of n) + 1 ≡ chunk_count (common_of (H (acks_of n))).to_responder.transfer request
          by_none true is r not d = eqb-true (number_in (acks_of n) + 1) _ is
          by_none false is None not d = absurd d
          by_none false is (Some tag) not d = absurd (false≢true (sym not))

-- What stands in the body of a chunk after the first one.
pub rest_is : (h : History) (handle : ℕ) (m : List ℕ) (n : ℕ) → drop 13 (cut_body h handle m (n + 1)) ≡ slice_range m (chunk_start (common_of h).to_responder.transfer (n + 1)) (chunk_end (common_of h).to_responder.transfer (n + 1))
rest_is h handle m n =
    let T : ℕ = (common_of h).to_responder.transfer in
    let bytes : List ℕ = slice_range m (chunk_start T (n + 1)) (chunk_end T (n + 1)) in
    let P : Bool → ChunkMessage = λ b. record { last = n + 1 + 1 == chunk_count T m; handle = handle; number = n + 1; large = cond b (Some (length m)) None; chunk = bytes } in
    ap (λ (b : Bool). drop 13 (clear_body (canonical_request (ChunkSend (P b))))) (later n)

-- And of the first one.
pub first_rest : (h : History) (handle : ℕ) (m : List ℕ) → drop 17 (cut_body h handle m 0) ≡ slice_range m (chunk_start (common_of h).to_responder.transfer 0) (chunk_end (common_of h).to_responder.transfer 0)
first_rest h handle m = refl

pub first_size : (h : History) (handle : ℕ) (m : List ℕ) → length m ≤ 4096 → size_in (cut_body h handle m 0) ≡ length m
first_size h handle m few = omega (arith, few)

first_start : (transfer : ℕ) → chunk_start transfer 0 ≡ 0
first_start transfer = omega arith

pub first_bytes : (h : History) (m : List ℕ) → slice_range m (chunk_start (common_of h).to_responder.transfer 0) (chunk_end (common_of h).to_responder.transfer 0) ≡ take (chunk_end (common_of h).to_responder.transfer 0) m
first_bytes h m =
    let e : chunk_end (common_of h).to_responder.transfer 0 - 0 ≡ chunk_end (common_of h).to_responder.transfer 0 = omega arith in
    ap (λ (a : ℕ). slice_range m a (chunk_end (common_of h).to_responder.transfer 0)) (first_start (common_of h).to_responder.transfer) ∙ ap (λ (n : ℕ). take n m) e

-- ---- The loop.

-- Up to the chunk of this number its bytes are those of `whole`.
pub record Carried (asking : RequesterCore) (q : ReqSetup) (h : History) (asked : RequestMessage) (handle : ℕ) (whole : List ℕ) (number at : ℕ) : Type 0 where
  pub held : IsHeldTo h (canonical_request asked) whole number at
  pub stands : (acks : List Ack) → number_in acks ≡ number → StandsFor asking q (behind asked (canonical_request asked) handle acks h)

pub carried_all : (asking : RequesterCore) (q : ReqSetup) (h : History) (asked : RequestMessage) (handle : ℕ) (whole : List ℕ) (count at : ℕ) → 12 < (common_of h).to_responder.transfer → length whole ≡ length (canonical_request asked)
    → count + 1 ≡ chunk_count (common_of h).to_responder.transfer whole → Carried asking q h asked handle whole count at → IsCarried q h asked handle whole count true asking
carried_all asking q h asked handle whole count at wide long last c =
    let is = all_bytes h (canonical_request asked) whole count at wide long last c.held in
    (is, λ acks n. subst (λ (l : List ℕ). StandsFor asking q (behind asked l handle acks h)) (sym is) (c.stands acks n))
