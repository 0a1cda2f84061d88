-- A refused request in a record or in chunks leaves the rest of the connection.
use Rattle.std.proofs.Common.{refl, ◌∙◌, ◌≡◌, ℕ, List, [], ◌∷◌, true, false, Bool, Option, Some, ap, sym, subst}
use Rattle.std.specs.Prelude.{if◌then◌else◌}
use Rattle.spdm_grammar.specs.Message.{ChunkMessage}
use Rattle.spdm_grammar.specs.declared.messages.error_code.ErrorCode.{ErrorCode}
use Rattle.spdm_machine.specs.Bodies.{clear_body}
use Rattle.spdm_machine.specs.Keys.{Draw}
use Rattle.responder_machine.proofs.Refused.{turn_in, on_record-harmless}
use Rattle.responder_machine.proofs.Turns.{turn_of-carried, turn_of-chunk}
use Rattle.responder_machine.specs.Answer.{Free}
use Rattle.responder_machine.specs.Handling.{turn_of, chunk_turn, carried_turn, last_chunk_turn, taken_chunk, error_bytes}
use Rattle.responder_machine.specs.History.{History, kept_of}
use Rattle.responder_machine.specs.History.Entry.{Clear, Sealed}
use Rattle.responder_machine.specs.Laws.{completed_at}
use Rattle.responder_machine.specs.Place.{clear_place, inside}
use Rattle.responder_machine.specs.Refusal.{refusal}
use Rattle.responder_machine.specs.RefusalLaws.{RefusedRecordKeepsConnection, RefusedInChunksKeepsConnection, RefusedInChunksIsKept, IsSameBesideChunks, IsKeptChunk}
use Rattle.responder_machine.specs.Responder.{Outcome, after, on_clear, is_repeat, kept_reply}
use Rattle.responder_machine.specs.Responder.Outcome.{Same, Adds}
use Rattle.responder_machine.specs.SameSession.{IsSameConnection}
use Rattle.responder_machine.specs.Setup.{RspSetup}
use Rattle.responder_machine.specs.Turn.{Turn}
use Rattle.responder_machine.specs.Turn.Effect.{NoEffect}

-- ---- In a record.

same_but_record : (h : History) (tag : ℕ) (m : List ℕ) (t : Turn) (reply : List ℕ) (d : Draw) → t.effect ≡ NoEffect → IsSameConnection h (Sealed tag m t reply d ∷ h)
same_but_record h tag m t reply d effect = record {
  phase = refl;
  negotiation = refl;
  kept = refl;
  ended = rw effect refl;
  queue = rw effect refl;
  draws = rw effect refl;
  taken = rw effect refl;
  pending = λ transfer. refl;
  handle = refl;
  given = refl;
  larges = refl;
  chunks = refl;
}

pub refused_record_rest : RefusedRecordKeepsConnection
refused_record_rest r h tag m f d t reply e adds refused =
    same_but_record h tag m t reply d (on_record-harmless r h tag m f d t e (ap turn_in adds) refused)

-- ---- By chunks.

unchanged : (h : History) → IsSameBesideChunks h h
unchanged h = record { phase = refl; negotiation = refl; ended = refl; queue = refl; draws = refl; taken = refl; handle = refl; larges = refl }

same_but_chunk : (h : History) (tag : ℕ) (t : Turn) (d : Draw) → t.effect ≡ NoEffect → IsSameBesideChunks h (Clear tag t d ∷ h)
same_but_chunk h tag t d effect = record {
  phase = rw effect refl;
  negotiation = rw effect refl;
  ended = rw effect refl;
  queue = refl;
  draws = rw effect refl;
  taken = refl;
  handle = rw effect refl;
  larges = rw effect refl;
}

either-same : (h : History) (b : Bool) (o u : Outcome) → IsSameBesideChunks h (after h o) → IsSameBesideChunks h (after h u) → IsSameBesideChunks h (after h (if b then o else u))
either-same h true o u x y = x
either-same h false o u x y = y

pub refused_chunk_rest : RefusedInChunksKeepsConnection
unfolding on_clear
refused_chunk_rest r h tag m f d c e is refused =
    either-same h (is_repeat (kept_of h) tag m) (Same (clear_body (kept_reply (kept_of h)))) (Adds (Clear tag (turn_of r (clear_place h) m f) d)) (unchanged h)
    (same_but_chunk h tag (turn_of r (clear_place h) m f) d (turn_of-carried r (clear_place h) m f c e is refused))

-- ---- A chunk that is kept.

refused_whole : (r : RspSetup) (h : History) (m : List ℕ) (f : Free) (c : ChunkMessage) (e : ErrorCode) → c.last ≡ true → refusal r (inside (clear_place h)) (completed_at (clear_place h) c) f ≡ Some e
    → chunk_turn r (clear_place h) m f c ≡ taken_chunk m c NoEffect (error_bytes r (inside (clear_place h)) (completed_at (clear_place h) c) f e)
refused_whole r h m f c e last refused =
    ap (λ (b : Bool). if b then last_chunk_turn r (inside (clear_place h)) m f c (completed_at (clear_place h) c) else taken_chunk m c NoEffect []) last
    ∙ ap (λ (x : Option ErrorCode). carried_turn r (inside (clear_place h)) m f c (completed_at (clear_place h) c) x) refused

kept_chunk : (r : RspSetup) (h : History) (tag : ℕ) (m : List ℕ) (f : Free) (d : Draw) (c : ChunkMessage) (e : ErrorCode) → c.last ≡ true
    → IsKeptChunk r h tag m f c e (Clear tag (taken_chunk m c NoEffect (error_bytes r (inside (clear_place h)) (completed_at (clear_place h) c) f e)) d ∷ h)
kept_chunk r h tag m f d c e last = record { kept = refl; pending = λ transfer. refl; given = refl; chunks = refl; under_way = rw last refl }

added : (b : Bool) (h : History) (o u : Outcome) → b ≡ false → after h (if b then o else u) ≡ after h u
added b h o u is = rw is refl

pub refused_chunk_kept : RefusedInChunksIsKept
unfolding on_clear
refused_chunk_kept r h tag m f d c e new taken is last refused =
    subst (λ (after_chunk : History). IsKeptChunk r h tag m f c e after_chunk)
    (sym (added (is_repeat (kept_of h) tag m) h (Same (clear_body (kept_reply (kept_of h)))) (Adds (Clear tag (turn_of r (clear_place h) m f) d)) new
    ∙ ap (λ (t : Turn). Clear tag t d ∷ h) (turn_of-chunk r (clear_place h) m f c taken is ∙ refused_whole r h m f c e last refused)))
    (kept_chunk r h tag m f d c e last)
