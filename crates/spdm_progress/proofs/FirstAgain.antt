-- The first chunk of a large request that looks like a repeat: the responder answers it from memory, as it would anew.
use Rattle.std.proofs.Common.{◌≡◌, ◌∙◌, ℕ, suc, ◌<◌, ◌+◌, ◌*◌, ◌-◌, ◌==◌, List, [], ◌∷◌, length, Bool, true, false, Option, Some, None, refl, sym, ap, subst, arith}
use Rattle.std.specs.Prelude.{if◌then◌else◌}
use Rattle.std.proofs.lemmas.Bool.{false≢true, ne_eqb}
use Rattle.std.proofs.lemmas.Grind.{div_ceil_times}
use Rattle.std.specs.Int.{div_ceil}
use Rattle.chunking.specs.Collecting.{joined_with, under_way}
use Rattle.chunking.specs.Cutting.{nth_chunk}
use Rattle.requester_machine.specs.Setup.{ReqSetup}
use Rattle.responder_machine.proofs.Repeats.{kept_of-taken}
use Rattle.responder_machine.proofs.Turns.{turn_of-refused}
use Rattle.responder_machine.specs.Answer.{Free, request_at}
use Rattle.responder_machine.specs.Does.{IsMade, clear_chosen}
use Rattle.responder_machine.specs.Handling.{last_chunk_turn, taken_chunk, turn_of}
use Rattle.responder_machine.specs.History as served
use Rattle.responder_machine.specs.History.Entry.{Clear, Dropped, Queued, Sealed, Ticked}
use Rattle.responder_machine.specs.LargeMessages.{chunks_of}
use Rattle.responder_machine.specs.Place.{Place, clear_place, inside}
use Rattle.responder_machine.specs.Refusal.{refusal}
use Rattle.responder_machine.specs.Setup.{RspSetup}
use Rattle.responder_machine.specs.Turn.{Turn, is_taken}
use Rattle.responder_machine.specs.Turn.Effect.{NoEffect}
use Rattle.spdm_agreement.proofs.Responder.Negotiation.{entry_turn}
use Rattle.spdm_grammar.specs.Message.{ChunkMessage, RequestMessage}
use Rattle.spdm_grammar.specs.Message.RequestMessage.{ChunkSend}
use Rattle.spdm_grammar.specs.Requests.{canonical_request}
use Rattle.spdm_grammar.specs.declared.messages.error_code.ErrorCode.{ErrorCode}
use Rattle.spdm_machine.proofs.Members.{none_some, some_same}
use Rattle.spdm_machine.specs.Keys.{Draw}
use Rattle.transcript.specs.Transcripts.{Negotiation}
use Rattle.spdm_progress.proofs.ChunkCounts.{some_of}
use Rattle.spdm_progress.proofs.ChunkRules.{fits_chunk, sound_chunk}
use Rattle.spdm_progress.proofs.ClearSend as send
use Rattle.spdm_progress.proofs.ClearSend.{CanSend, ack_of, chunk_taken, send_chunk, transfer_there}
use Rattle.spdm_progress.proofs.ResponderBegins.{is_none_none}
use Rattle.spdm_progress.proofs.ResponderTurns.{read_at}

-- A message that is longer than a chunk has more than one.
several : (size unit : ℕ) → 0 < unit → unit < size → 1 ≡ div_ceil size unit → ⊥
several size unit wide more one =
    let around = div_ceil_times size unit wide in
    let times : 1 * unit ≡ div_ceil size unit * unit = ap (λ (z : ℕ). z * unit) one in
    omega (arith, around.0, times, more)

module _ (q : ReqSetup) (r : RspSetup) (v : RequestMessage) (n : Negotiation) (can : CanSend q r (canonical_request v) n) (handle : ℕ) (small : handle < 256) where
  abbrev m : List ℕ
  m = canonical_request v

  abbrev piece : ℕ → ChunkMessage
  piece j = nth_chunk (transfer_there n) handle m j

  abbrev count : ℕ
  count = send.count q r v n can handle small

  abbrev AreHeld : ℕ → List Turn → Type 0
  AreHeld j turns = send.AreHeld q r v n can handle small j turns

  -- What the responder would answer to this chunk from memory is what it would answer anew, and it holds the chunk.
  pub record FromMemory (j : ℕ) (k : served.Kept) (turns : List Turn) : Type 0 where
    pub again : (j + 1 == count) ≡ false
    pub reply : k.reply ≡ ack_of (piece j) []
    pub held : AreHeld (suc j) turns

  abbrev pub IsKeptRight : ℕ → served.History → Type 0
  IsKeptRight j g = (k : served.Kept) → served.kept_of g ≡ Some k → k.message ≡ send_chunk (piece j) → FromMemory j k (served.clear_turns g)

  abbrev text : List ℕ
  text = send_chunk (piece 0)

  not_last : (0 + 1 == count) ≡ false
  not_last =
      let least = can.least in
      let is = can.transfer in
      let large = can.large in
      ne_eqb 1 count (several (length m + 4) (transfer_there n - 12) (omega (arith, least, is)) (omega (arith, large)))

  some : 0 < count
  some = (let least = can.least in let is = can.transfer in some_of (length m + 4) (transfer_there n - 12) (omega arith) (omega (arith, least, is)))

  reads : (place : Place) → request_at place text ≡ Some (ChunkSend (piece 0))
  reads place = read_at place (ChunkSend (piece 0)) (fits_chunk r.max (transfer_there n) handle m (send.collectable q r v n can handle small) 0 small some) (sound_chunk r.max (transfer_there n) handle m (send.collectable q r v n can handle small) 0)

  -- Wherever it was taken, it was taken so.
  taken_so : (place : Place) (f : Free) (o : Option ErrorCode) → refusal r place text f ≡ o → is_taken (turn_of r place text f) ≡ true → turn_of r place text f ≡ taken_chunk text (piece 0) NoEffect []
  taken_so place f (Some e) refused taken = absurd (false≢true (sym (ap is_taken (turn_of-refused r place text f e refused)) ∙ taken))
  taken_so place f None passed taken =
      chunk_taken r place text f (piece 0) (reads place) passed
      ∙ ap (λ (b : Bool). if b then last_chunk_turn r (inside place) text f (piece 0) (joined_with (under_way (chunks_of place.turns)) (piece 0)) else taken_chunk text (piece 0) NoEffect []) not_last

  kept_on : (old new : served.History) → served.kept_of new ≡ served.kept_of old → chunks_of (served.clear_turns new) ≡ chunks_of (served.clear_turns old) → IsKeptRight 0 old → IsKeptRight 0 new
  kept_on old new kept chunks right k is message =
      let found = right k (sym kept ∙ is) message in
      record { again = found.again; reply = found.reply; held = ap under_way chunks ∙ found.held }

  pub right_still : (j : ℕ) (old new : served.History) → served.kept_of new ≡ served.kept_of old → served.clear_turns new ≡ served.clear_turns old → IsKeptRight j old → IsKeptRight j new
  right_still j old new kept turns right k is message = subst (FromMemory j k) (sym turns) (right k (sym kept ∙ is) message)

  entry_right : (older : served.History) (tag : ℕ) (t : Turn) (d : Draw) → turn_of r (clear_place older) t.message (clear_chosen r older d) ≡ t → IsKeptRight 0 older → (b : Bool) → is_taken t ≡ b → IsKeptRight 0 (Clear tag t d ∷ older)
  entry_right older tag t d turn before true taken = λ k is message.
      let same : record { tag = tag; message = t.message; reply = t.reply } ≡ k = some_same _ k (sym (kept_of-taken tag t d older (is_none_none t.refused taken)) ∙ is) in
      let its : t.message ≡ text = ap (λ (x : served.Kept). x.message) same ∙ message in
      let here : turn_of r (clear_place older) text (clear_chosen r older d) ≡ t = ap (λ (z : List ℕ). turn_of r (clear_place older) z (clear_chosen r older d)) (sym its) ∙ turn in
      let so = taken_so (clear_place older) (clear_chosen r older d) (refusal r (clear_place older) text (clear_chosen r older d)) refl (ap is_taken here ∙ taken) in
      let is_it : t ≡ taken_chunk text (piece 0) NoEffect [] = sym here ∙ so in
      record {
        again = not_last;
        reply = sym (ap (λ (x : served.Kept). x.reply) same) ∙ ap (λ (u : Turn). u.reply) is_it;
        held = subst (λ (u : Turn). AreHeld 1 (u ∷ served.clear_turns older)) (sym is_it) (send.held_next q r v n can handle small 0 text (served.clear_turns older) not_last tt);
      }
  entry_right older tag t d turn before false refused = kept_on older (Clear tag t d ∷ older) (rw refused refl) (rw refused refl) before

  -- So it is of every history that a responder made.
  pub first_right : (h : served.History) → IsMade r h → IsKeptRight 0 h
  first_right [] made = λ k is message. absurd (none_some k is)
  first_right (Clear tag t d ∷ older) made = entry_right older tag t d (entry_turn r older tag t d made.0) (first_right older made.1) (is_taken t) refl
  first_right (Sealed tag z t reply d ∷ older) made = kept_on older (Sealed tag z t reply d ∷ older) refl refl (first_right older made.1)
  first_right (Queued bytes ∷ older) made = kept_on older (Queued bytes ∷ older) refl refl (first_right older made.2)
  first_right (Ticked seconds ∷ older) made = kept_on older (Ticked seconds ∷ older) refl refl (first_right older made)
  first_right (Dropped id ∷ older) made = absurd made

  -- A chunk after another one is no repeat.
  pub next_right : (j : ℕ) (tag : ℕ) (reply : List ℕ) (g : served.History) → served.kept_of g ≡ Some (record { tag = tag; message = send_chunk (piece j); reply = reply }) → IsKeptRight (suc j) g
  next_right j tag reply g kept k is message =
      let here : send_chunk (piece j) ≡ send_chunk (piece (suc j)) = ap (λ (z : served.Kept). z.message) (some_same _ k (sym kept ∙ is)) ∙ message in
      absurd (send.pieces_other q r v n can handle small j here)
