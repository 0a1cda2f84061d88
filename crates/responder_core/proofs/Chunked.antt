-- The turns of chunks.
use Rattle.std.proofs.Common.{refl, ◌∙◌, ◌≡◌, ◌≤◌, ◌+◌, ℕ, List, [], ◌∷◌, true, false, Bool, Option, Some, None, length, ap, sym, subst, arith}
use Rattle.std.proofs.lemmas.Bool.{false≢true, ltb-false}
use Rattle.std.proofs.lemmas.Option.{same_Some}
use Rattle.std.specs.Prelude.{if◌then◌else◌}
use Rattle.chunking.specs.Collecting.{answer_from}
use Rattle.chunking.specs.Collecting.Collection.{More, Refused, Whole}
use Rattle.chunking.specs.Keeping as keeping
use Rattle.responder_machine.proofs.Codes.{asked-code}
use Rattle.responder_machine.proofs.Tests.{tests_are_false}
use Rattle.responder_machine.proofs.Turns.{turn_of-chunk, turn_of-refused}
use Rattle.responder_machine.specs.Answer.{Free, answer_bytes, request_at}
use Rattle.responder_machine.specs.Handling.{acknowledged, carried_turn, chunk_in, error_bytes, extended_of, goes_large, large_response, last_chunk_turn, plain_turn, refused_turn, request_effect, request_reply, taken_chunk, turn_by, turn_of}
use Rattle.responder_machine.specs.LargeMessages.{chunks_of}
use Rattle.responder_machine.specs.Laws.{completed_at}
use Rattle.responder_machine.specs.Place.{Place, Where, inside, place_terms}
use Rattle.responder_machine.specs.Place.Where.{InChunks}
use Rattle.responder_machine.specs.Refusal.{has_pending, is_misplaced, refusal, refused_form, sizes_are_known, tests_of_form}
use Rattle.responder_machine.specs.Setup.{RspSetup}
use Rattle.responder_machine.specs.Turn.{Turn, is_taken}
use Rattle.responder_machine.specs.Turn.Effect.{NoEffect}
use Rattle.spdm_basis.proofs.Bools.{and_rest}
use Rattle.spdm_grammar.specs.Message.{ChunkMessage}
use Rattle.spdm_grammar.specs.Message.RequestMessage.{ChunkSend}
use Rattle.spdm_grammar.specs.declared.messages.error_code.ErrorCode.{ErrorCode}
use Rattle.spdm_grammar.specs.declared.messages.error_code.ErrorCode.TheVariants.{InvalidRequest, RequestTooLarge, ResponseTooLarge}
use Rattle.spdm_grammar.specs.declared.names.TheConstants.{MAX_MESSAGE_SIZE}
use Rattle.spdm_grammar.specs.declared.messages.part_faults.ChunkFault.{ChunkFault}
use Rattle.spdm_grammar.specs.declared.messages.part_faults.ChunkFault.TheVariants as broken
use Rattle.responder_core.proofs.Passing.{chunk_send_known}
use Rattle.responder_core.proofs.Table.{phase_allowed}
use Rattle.responder_core.specs.Coming.{Completes, IsTurned, Seen, StandsFor}
use Rattle.responder_core.specs.Negotiating.{IsSized}
use Rattle.responder_core.specs.Refused.{IsClear, chunk_refusal}
use Rattle.responder_core.specs.ClearState as standing
use Rattle.responder_core.specs.ClearState.{IsSettledAt, place_at}
use Rattle.responder_core.proofs.Taken.{nothing_unmoved}

-- ---- What stands after a turn.

-- A refused turn leaves the clear part as it was.
pub refused_stands : (seen : standing.Seen) (turns : List Turn) (r : RspSetup) (p : Place) (m : List ℕ) (f : Free) (e : ErrorCode) → standing.StandsFor seen turns → standing.StandsFor seen (refused_turn r p m f e ∷ turns)
refused_stands seen turns r p m f e stands = record {
  negotiating = nothing_unmoved seen.negotiating turns (refused_turn r p m f e) stands.negotiating refl;
  large = record { left = stands.large.left; next = stands.large.next };
}

pub turned_refused : (r : RspSetup) (at : Where) (turns : List Turn) (held : ℕ) (m : List ℕ) (f : Free) (e : ErrorCode) (new : Seen) (out : List ℕ) → refusal r (place_at at turns held) m f ≡ Some e
    → StandsFor new r turns → out ≡ error_bytes r (place_at at turns held) m f e → ((turn_of r (place_at at turns held) m f).refused ≡ Some e) × IsTurned r (place_at at turns held) m f new out
turned_refused r at turns held m f e new out refused stands written =
    let p : Place = place_at at turns held in
    let is = turn_of-refused r p m f e refused in (
      ap (λ (t : Turn). t.refused) is,
      record {
        reply = written ∙ ap (λ (t : Turn). t.reply) (sym is);
        stands = subst (λ (t : Turn). StandsFor new r (t ∷ turns)) (sym is) (record {
          standing = refused_stands new.standing turns r p m f e stands.standing;
          collector = stands.collector;
          max = stands.max;
        });
      },
    )

pub turned_plain : (r : RspSetup) (at : Where) (turns : List Turn) (held : ℕ) (m : List ℕ) (f : Free) (new : Seen) (out : List ℕ) → refusal r (place_at at turns held) m f ≡ None
    → chunk_in (request_at (place_at at turns held) m) ≡ None
    → standing.StandsFor new.standing (plain_turn r (place_at at turns held) m f ∷ turns) → keeping.StandsFor new.collector [] → new.collector.max ≡ r.max
    → out ≡ request_reply r (place_at at turns held) m f → ((turn_of r (place_at at turns held) m f).refused ≡ None) × IsTurned r (place_at at turns held) m f new out
unfolding turn_of
turned_plain r at turns held m f new out taken plain stands collector max written =
    let p : Place = place_at at turns held in
    let is : turn_of r p m f ≡ plain_turn r p m f =
    ap (λ (x : Option ErrorCode). turn_by r p m f x (chunk_in (request_at p m))) taken ∙ ap (λ (x : Option ChunkMessage). turn_by r p m f None x) plain in (
      ap (λ (t : Turn). t.refused) is,
      record {
        reply = written ∙ ap (λ (t : Turn). t.reply) (sym is);
        stands = subst (λ (t : Turn). StandsFor new r (t ∷ turns)) (sym is) (record { standing = stands; collector = collector; max = max });
      },
    )

-- ---- The sizes of acknowledgements.

error_extended : (e : ErrorCode) (answer : List ℕ) → length (extended_of e answer) ≤ 4
error_extended ResponseTooLarge answer = omega arith
error_extended _ answer = omega arith

pub error_fits : (r : RspSetup) (p : Place) (m : List ℕ) (f : Free) (e : ErrorCode) → length (error_bytes r p m f e) + 6 ≤ MAX_MESSAGE_SIZE
error_fits r p m f e = omega (arith, error_extended e (answer_bytes r p m f))

-- The sizes of the requester are known where CHUNK_SEND comes.
pub chunk_known : (r : RspSetup) (p : Place) (m : List ℕ) (chunk : ChunkMessage) → IsClear p.at → IsSettledAt p → refused_form r p m ≡ None → request_at p m ≡ Some (ChunkSend chunk) → (sizes_are_known p.phase ≡ true) × IsSized (place_terms p).common
chunk_known r p m chunk clear settled form is = chunk_send_known p.phase (place_terms p).common (has_pending p) settled.settled (phase_allowed r p m (ChunkSend chunk) clear form is)

pub reply_fits : (r : RspSetup) (p : Place) (m : List ℕ) (f : Free) → sizes_are_known p.phase ≡ true → IsSized (place_terms p).common → length (request_reply r (inside p) m f) + 6 ≤ MAX_MESSAGE_SIZE
reply_fits r p m f known sized = by_large (goes_large (inside p) answer) refl
  where
    answer : List ℕ
    answer = answer_bytes r (inside p) m f

    by_large : (large : Bool) → goes_large (inside p) answer ≡ large → length (if large then large_response f.handle else answer) + 6 ≤ MAX_MESSAGE_SIZE
    by_large true is = omega arith
    by_large false is =
        let short = ltb-false (place_terms p).common.to_requester.transfer (6 + length answer) (and_rest (sizes_are_known p.phase) _ is known) in
        let crossed = sized.crossed in
        let most = sized.most in
        omega arith

-- ---- The turn of a last chunk.

pub last_turn : (r : RspSetup) (p : Place) (m : List ℕ) (f : Free) (chunk : ChunkMessage) (new : Seen) (x : Option ErrorCode) → Completes r p m f chunk new → refusal r (inside p) new.whole f ≡ x
    → turn_of r p m f ≡ carried_turn r (inside p) m f chunk new.whole x
last_turn r p m f chunk new x completes refused =
    turn_of-chunk r p m f chunk completes.refused completes.asked_is
    ∙ ap (λ (b : Bool). if b then last_chunk_turn r (inside p) m f chunk (completed_at p chunk) else taken_chunk m chunk NoEffect []) completes.last
    ∙ ap (λ (w : List ℕ). last_chunk_turn r (inside p) m f chunk w) (sym completes.whole)
    ∙ ap (λ (y : Option ErrorCode). carried_turn r (inside p) m f chunk new.whole y) refused

-- No chunk comes inside a large request.
pub no_chunk_inside : (r : RspSetup) (p : Place) (m : List ℕ) (chunk : ChunkMessage) → refused_form r (inside p) m ≡ None → request_at (inside p) m ≡ Some (ChunkSend chunk) → ⊥
unfolding refused_form
no_chunk_inside r p m chunk form is =
    false≢true (sym (tests_are_false (tests_of_form r (inside p) m) form 5) ∙ sym (ap (is_misplaced InChunks) (asked-code (inside p) m (ChunkSend chunk) is)))

-- ---- What a chunk leads to, read off what the collector answered.

pub rule_refused : (rule : Option ChunkFault) (c : ChunkMessage) (m : List ℕ) (fault : ChunkFault) → Refused fault ≡ answer_from rule c m → rule ≡ Some fault
rule_refused (Some other) c m fault is = ap Some (sym (same_fault is))
  where
    same_fault : Refused fault ≡ Refused other → fault ≡ other
    same_fault e = cc
rule_refused None c m fault is = by_last c.last is
  where
    by_last : (b : Bool) → Refused fault ≡ (if b then Whole m else More) → None ≡ Some fault
    by_last true e = absurd (let h = e in cc)
    by_last false e = absurd (let h = e in cc)

pub rule_more : (rule : Option ChunkFault) (c : ChunkMessage) (m : List ℕ) → More ≡ answer_from rule c m → (rule ≡ None) × (c.last ≡ false)
rule_more (Some other) c m is = absurd (let h = is in cc)
rule_more None c m is = (refl, by_last c.last is)
  where
    by_last : (b : Bool) → More ≡ (if b then Whole m else More) → b ≡ false
    by_last true e = absurd (let h = e in cc)
    by_last false e = refl

pub rule_whole : (rule : Option ChunkFault) (c : ChunkMessage) (m whole : List ℕ) → Whole whole ≡ answer_from rule c m → (rule ≡ None) × (c.last ≡ true) × (whole ≡ m)
rule_whole (Some other) c m whole is = absurd (let h = is in cc)
rule_whole None c m whole is = let found = by_last c.last is in (refl, found.0, found.1)
  where
    by_last : (b : Bool) → Whole whole ≡ (if b then Whole m else More) → (b ≡ true) × (whole ≡ m)
    by_last true e = (refl, (let h = e in cc))
    by_last false e = absurd (let h = e in cc)

-- No chunk is refused for the length of an answer.
pub chunk_code : (fault : ChunkFault) (code : ErrorCode) → chunk_refusal (Some fault) ≡ Some code → code ≡ ResponseTooLarge → ⊥
chunk_code broken.TooLarge code is large = (let a = same_Some RequestTooLarge code is in cc)
chunk_code _ code is large = (let a = same_Some InvalidRequest code is in cc)

-- ---- What stands after a chunk.

-- What is kept where the way that the clear part stands has changed alone.
abbrev pub standing_now : Seen → standing.Seen → Seen
standing_now before now = record { standing = now; collector = before.collector; whole = before.whole }

-- A turn that takes nothing, at any turns.
abbrev pub TakesNothing : standing.Seen → List Turn → Type 0
TakesNothing now turns = (t : Turn) → is_taken t ≡ true → t.effect ≡ NoEffect → standing.StandsFor now (t ∷ turns)

pub turned_last_refused : (r : RspSetup) (at : Where) (turns : List Turn) (held : ℕ) (m : List ℕ) (f : Free) (chunk : ChunkMessage) (before : Seen) (now : standing.Seen) (e : ErrorCode) (out : List ℕ)
    → Completes r (place_at at turns held) m f chunk before → refusal r (place_at InChunks turns held) before.whole f ≡ Some e → TakesNothing now turns
    → out ≡ acknowledged chunk (error_bytes r (place_at InChunks turns held) before.whole f e)
    → ((turn_of r (place_at at turns held) m f).refused ≡ None) × IsTurned r (place_at at turns held) m f (standing_now before now) out
turned_last_refused r at turns held m f chunk before now e out completes refused nothing written =
    let p : Place = place_at at turns held in
    let is = last_turn r p m f chunk before (Some e) completes refused in (
      ap (λ (t : Turn). t.refused) is,
      record {
        reply = written ∙ ap (λ (t : Turn). t.reply) (sym is);
        stands = subst (λ (t : Turn). StandsFor (standing_now before now) r (t ∷ turns)) (sym is) (record {
          standing = nothing (taken_chunk m chunk NoEffect (error_bytes r (inside p) before.whole f e)) refl refl;
          collector = completes.collector;
          max = completes.max;
        });
      },
    )

pub turned_last_taken : (r : RspSetup) (at : Where) (turns : List Turn) (held : ℕ) (m : List ℕ) (f : Free) (chunk : ChunkMessage) (before : Seen) (now : standing.Seen) (out : List ℕ)
    → Completes r (place_at at turns held) m f chunk before → refusal r (place_at InChunks turns held) before.whole f ≡ None
    → ((t : Turn) → is_taken t ≡ true → t.effect ≡ request_effect r (place_at InChunks turns held) before.whole f → standing.StandsFor now (t ∷ turns))
    → out ≡ acknowledged chunk (request_reply r (place_at InChunks turns held) before.whole f)
    → ((turn_of r (place_at at turns held) m f).refused ≡ None) × IsTurned r (place_at at turns held) m f (standing_now before now) out
turned_last_taken r at turns held m f chunk before now out completes taken takes written =
    let p : Place = place_at at turns held in
    let is = last_turn r p m f chunk before None completes taken in (
      ap (λ (t : Turn). t.refused) is,
      record {
        reply = written ∙ ap (λ (t : Turn). t.reply) (sym is);
        stands = subst (λ (t : Turn). StandsFor (standing_now before now) r (t ∷ turns)) (sym is) (record {
          standing = takes (taken_chunk m chunk (request_effect r (inside p) before.whole f) (request_reply r (inside p) before.whole f)) refl refl;
          collector = completes.collector;
          max = completes.max;
        });
      },
    )

pub turned_more : (r : RspSetup) (at : Where) (turns : List Turn) (held : ℕ) (m : List ℕ) (f : Free) (chunk : ChunkMessage) (new : Seen) (out : List ℕ)
    → request_at (place_at at turns held) m ≡ Some (ChunkSend chunk) → refusal r (place_at at turns held) m f ≡ None → chunk.last ≡ false → TakesNothing new.standing turns
    → keeping.StandsFor new.collector (chunk ∷ chunks_of turns) → new.collector.max ≡ r.max → out ≡ acknowledged chunk []
    → ((turn_of r (place_at at turns held) m f).refused ≡ None) × IsTurned r (place_at at turns held) m f new out
turned_more r at turns held m f chunk new out asked_is taken more nothing collector max written =
    let p : Place = place_at at turns held in
    let is = turn_of-chunk r p m f chunk taken asked_is ∙ ap (λ (b : Bool). if b then last_chunk_turn r (inside p) m f chunk (completed_at p chunk) else taken_chunk m chunk NoEffect []) more in (
      ap (λ (t : Turn). t.refused) is,
      record {
        reply = written ∙ ap (λ (t : Turn). t.reply) (sym is);
        stands = subst (λ (t : Turn). StandsFor new r (t ∷ turns)) (sym is) (record {
          standing = nothing (taken_chunk m chunk NoEffect []) refl refl;
          collector = collector;
          max = max;
        });
      },
    )
