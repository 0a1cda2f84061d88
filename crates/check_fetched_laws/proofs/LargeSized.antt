-- An answer in the clear goes by LargeResponse only where sizes are known.
use Rattle.std.proofs.Common.{◌≡◌, ℕ, List, [], refl, sym, ap, ◌∙◌, drop, Bool, true, false, Option, Some, None, is_some, cond, inl, inr}
use Rattle.std.proofs.lemmas.Bool.{false≢true}
use Rattle.spdm_basis.proofs.Bools.{and_first}
use Rattle.chunking.specs.Collecting.{joined_with, under_way}
use Rattle.spdm_grammar.specs.Message.{ChunkMessage, RequestMessage}
use Rattle.spdm_grammar.specs.declared.messages.error_code.ErrorCode.{ErrorCode}
use Rattle.responder_machine.specs.Answer.{Free, answer_bytes, request_at}
use Rattle.responder_machine.specs.Handling.{carried_turn, chunk_in, effect_of, goes_large, last_chunk_turn, taken_chunk, turn_by, turn_of}
use Rattle.responder_machine.specs.History.Entry.{Clear}
use Rattle.responder_machine.specs.LargeMessages.{chunks_of}
use Rattle.responder_machine.specs.Place.{Place, clear_place, inside}
use Rattle.responder_machine.specs.Refusal.{refusal, sizes_are_known}
use Rattle.responder_machine.specs.Responder.Outcome.{Adds}
use Rattle.responder_machine.specs.Setup.{RspSetup}
use Rattle.responder_machine.specs.Turn.{Turn, handle_in}
use Rattle.responder_machine.specs.Turn.Effect.{NoEffect}
use Rattle.check_fetched_laws.specs.StandsAlike.{LargeIsSized}
use Rattle.capture_machine.proofs.DropsTell.{clear_form}
use Rattle.capture_machine.proofs.PlainTells.{led_clear}
use Rattle.capture_machine.specs.LargeAnswers.{is_large}
use Rattle.capture_machine.specs.Rounds.{no_draw}

module _ (r : RspSetup) (f : Free) where
  goes_by : (q : Option RequestMessage) (m answer : List ℕ) (b : Bool) → is_some (handle_in (effect_of q m answer (cond b (Some f.handle) None))) ≡ true → b ≡ true
  goes_by None m answer b is = absurd (false≢true is)
  goes_by (Some q) m answer true is = refl
  goes_by (Some q) m answer false is = absurd (false≢true is)

  effect_sized : (p : Place) (m : List ℕ) → is_some (handle_in (effect_of (request_at p m) m (answer_bytes r p m f) (cond (goes_large p (answer_bytes r p m f)) (Some f.handle) None))) ≡ true → sizes_are_known p.phase ≡ true
  effect_sized p m large = and_first (sizes_are_known p.phase) _ (goes_by (request_at p m) m (answer_bytes r p m f) (goes_large p (answer_bytes r p m f)) large)

  module _ (p : Place) (m : List ℕ) where
    abbrev KnownBy : Turn → Type 0
    KnownBy t = is_some (handle_in t.effect) ≡ true → sizes_are_known p.phase ≡ true

    carried_sized : (c : ChunkMessage) (l : List ℕ) (x : Option ErrorCode) → KnownBy (carried_turn r (inside p) m f c l x)
    carried_sized c l (Some e) large = absurd (false≢true large)
    carried_sized c l None large = effect_sized (inside p) l large

    chunk_sized : (c : ChunkMessage) (l : List ℕ) (b : Bool) → KnownBy (cond b (last_chunk_turn r (inside p) m f c l) (taken_chunk m c NoEffect []))
    chunk_sized c l true large = carried_sized c l (refusal r (inside p) l f) large
    chunk_sized c l false large = absurd (false≢true large)

    by_sized : (x : Option ErrorCode) (c : Option ChunkMessage) → KnownBy (turn_by r p m f x c)
    by_sized (Some e) c large = absurd (false≢true large)
    by_sized None None large = effect_sized p m large
    by_sized None (Some c) large = chunk_sized c (joined_with (under_way (chunks_of p.turns)) c) c.last large

    turn_sized : KnownBy (turn_of r p m f)
    unfolding turn_of
    turn_sized large = by_sized (refusal r p m f) (chunk_in (request_at p m)) large

pub large_is_sized : LargeIsSized
large_is_sized r h tag body entry type may large =
    let led = led_clear r h tag body (Adds entry) type may in
    elim (clear_form r h tag (drop 1 body) led.free (Adds entry) led.leads) [
      | inl same ↦ absurd (let x = same.1 in cc)
      | inr adds ↦
          let t : Turn = turn_of r (clear_place h) (drop 1 body) led.free in
          let same : Clear tag t no_draw ≡ entry = cc (sym adds) in
          turn_sized r led.free (clear_place h) (drop 1 body) (ap is_large same ∙ large)
    ]
