-- A turn in the clear whose answer goes by LargeResponse: what it sends, and that it is not GET_VERSION.
use Rattle.std.proofs.Common.{◌≡◌, ◌<◌, ◌≤◌, ◌==◌, ℕ, List, [], refl, sym, ap, ◌∙◌, subst, drop, length, Bool, true, false, Option, Some, None, is_some, cond, inl, inr, arith, eq-eqb, eqb-true}
use Rattle.std.specs.Prelude.{slice_index}
use Rattle.std.proofs.lemmas.Bool.{false≢true, false_from_ne_true}
use Rattle.chunking.specs.Collecting.{joined_with, under_way}
use Rattle.spdm_grammar.specs.Codes.{code_for}
use Rattle.spdm_grammar.specs.Message.{ChunkMessage, RequestMessage}
use Rattle.spdm_grammar.specs.Message.RequestMessage.{ChunkSend, GetVersion}
use Rattle.spdm_grammar.specs.declared.messages.error_code.ErrorCode.{ErrorCode}
use Rattle.spdm_grammar.specs.declared.names.request_code.TheConstants.{CHUNK_SEND, GET_VERSION}
use Rattle.responder_machine.specs.Answer.{Free, answer_bytes, answer_to, request_at}
use Rattle.responder_machine.specs.Handling.{acknowledged, carried_turn, chunk_in, effect_of, goes_large, large_response, last_chunk_turn, plain_turn, taken_chunk, turn_by, turn_of}
use Rattle.responder_machine.specs.History.{Entry, History}
use Rattle.responder_machine.specs.History.Entry.{Clear}
use Rattle.responder_machine.specs.LargeMessages.{chunks_of}
use Rattle.responder_machine.specs.Place.{Place, clear_place, inside}
use Rattle.responder_machine.specs.Place.Where.{InChunks}
use Rattle.responder_machine.specs.Refusal.{bytes_round, code_of, is_misplaced, refusal}
use Rattle.responder_machine.specs.Responder.Outcome.{Adds}
use Rattle.responder_machine.specs.Setup.{RspSetup}
use Rattle.responder_machine.specs.Turn.{Effect, Turn, code_in, handle_in, takes}
use Rattle.responder_machine.specs.Turn.Effect.{NoEffect, Took, TookData}
use Rattle.responder_machine.proofs.Codes.{asked-code}
use Rattle.responder_machine.proofs.Tests.{form_shown}
use Rattle.check_fetched_laws.proofs.LargeHeard.{large_reply}
use Rattle.check_fetched_laws.proofs.MeasuredSessions.{short_goes}
use Rattle.check_fetched_laws.specs.ClearSessions.{IsUnseenRequest, LargeIsUnseen}
use Rattle.capture_machine.proofs.DropsTell.{clear_form}
use Rattle.capture_machine.proofs.FetchedSessions.{takes_with}
use Rattle.capture_machine.proofs.PlainTells.{led_clear, led_record}
use Rattle.capture_machine.proofs.RecordAdds.{record_added}
use Rattle.capture_machine.proofs.TurnsAlike.{chunk_is}
use Rattle.capture_machine.specs.CapturedAnswers.{MayLeadTo}
use Rattle.capture_machine.specs.LargeAnswers.{effect_with, is_large, is_unseen_effect, turn_with, unseen}
use Rattle.capture_machine.specs.Rounds.{no_draw}

-- It sends LargeResponse with this handle, plain or in an acknowledgement, and GET_VERSION is neither what came nor what
-- took effect.
pub record SendsLarge (handle : ℕ) (t : Turn) : Type 0 where
  pub reply : t.reply ≡ large_reply t.chunk handle
  pub version : takes GET_VERSION t ≡ false
  pub other : code_of t.message ≡ GET_VERSION → ⊥

module _ (r : RspSetup) (f : Free) where
  goes_by : (q : Option RequestMessage) (m answer : List ℕ) (b : Bool) → is_some (handle_in (effect_of q m answer (cond b (Some f.handle) None))) ≡ true → b ≡ true
  goes_by None m answer b is = absurd (false≢true is)
  goes_by (Some q) m answer true is = refl
  goes_by (Some q) m answer false is = absurd (false≢true is)

  version_whole : (p : Place) (m : List ℕ) (q : RequestMessage) → refusal r p m f ≡ None → bytes_round p.at ≡ 0 → request_at p m ≡ Some q → (code_for q == GET_VERSION) ≡ true → goes_large p (answer_bytes r p m f) ≡ false
  unfolding answer_bytes
  version_whole p m GetVersion none round is code =
      short_goes r p m f none round (subst (λ (o : Option RequestMessage). length (answer_to r p m f o) ≤ 42) (sym is) (omega arith))
  version_whole p m _ none round is code = absurd (false≢true code)

  plain_large : (p : Place) (m : List ℕ) (o : Option RequestMessage) → refusal r p m f ≡ None → bytes_round p.at ≡ 0 → request_at p m ≡ o → is_some (handle_in (plain_turn r p m f).effect) ≡ true → SendsLarge f.handle (plain_turn r p m f)
  plain_large p m None none round is large =
      absurd (false≢true (sym (ap (λ (o : Option RequestMessage). is_some (handle_in (effect_of o m (answer_bytes r p m f) (cond (goes_large p (answer_bytes r p m f)) (Some f.handle) None)))) is) ∙ large))
  plain_large p m (Some q) none round is large =
      let goes : goes_large p (answer_bytes r p m f) ≡ true = goes_by (request_at p m) m (answer_bytes r p m f) (goes_large p (answer_bytes r p m f)) large in
      let not : (code_for q == GET_VERSION) ≡ false = false_from_ne_true (code_for q == GET_VERSION) (λ code. false≢true (sym (version_whole p m q none round is code) ∙ goes)) in
      record {
        reply = ap (λ (b : Bool). cond b (large_response f.handle) (answer_bytes r p m f)) goes;
        version = ap (λ (o : Option RequestMessage). code_in (effect_of o m (answer_bytes r p m f) (cond (goes_large p (answer_bytes r p m f)) (Some f.handle) None)) == GET_VERSION) is ∙ not;
        other = λ code. false≢true (sym not ∙ eq-eqb (code_for q) GET_VERSION (asked-code p m q is ∙ code));
      }

  -- What a chunk carries.
  carried_version : (p : Place) (l : List ℕ) (o : Option RequestMessage) (answer : List ℕ) (large : Option ℕ) → refusal r (inside p) l f ≡ None → request_at (inside p) l ≡ o → (code_in (effect_of o l answer large) == GET_VERSION) ≡ true → ⊥
  carried_version p l None answer large none is code = false≢true code
  carried_version p l (Some q) answer large none is code =
      let at : GET_VERSION ≡ code_of l = sym (eqb-true (code_for q) GET_VERSION code) ∙ asked-code (inside p) l q is in
      false≢true (sym (form_shown r (inside p) l f none 5) ∙ ap (is_misplaced InChunks) (sym at))

  carried_large : (p : Place) (m : List ℕ) (c : ChunkMessage) (l : List ℕ) (x : Option ErrorCode) → (code_of m ≡ GET_VERSION → ⊥) → refusal r (inside p) l f ≡ x → is_some (handle_in (carried_turn r (inside p) m f c l x).effect) ≡ true
      → SendsLarge f.handle (carried_turn r (inside p) m f c l x)
  carried_large p m c l (Some e) other is large = absurd (false≢true large)
  carried_large p m c l None other is large =
      let answer : List ℕ = answer_bytes r (inside p) l f in
      let goes : goes_large (inside p) answer ≡ true = goes_by (request_at (inside p) l) l answer (goes_large (inside p) answer) large in
      record {
        reply = ap (λ (b : Bool). acknowledged c (cond b (large_response f.handle) answer)) goes;
        version = false_from_ne_true _ (λ code. carried_version p l (request_at (inside p) l) answer (cond (goes_large (inside p) answer) (Some f.handle) None) is refl code);
        other = other;
      }

  chunk_large : (p : Place) (m : List ℕ) (c : ChunkMessage) (l : List ℕ) (b : Bool) → (code_of m ≡ GET_VERSION → ⊥) → let t = cond b (last_chunk_turn r (inside p) m f c l) (taken_chunk m c NoEffect []) in
      is_some (handle_in t.effect) ≡ true → SendsLarge f.handle t
  chunk_large p m c l true other large = carried_large p m c l (refusal r (inside p) l f) other refl large
  chunk_large p m c l false other large = absurd (false≢true large)

  turn_by_large : (p : Place) (m : List ℕ) (x : Option ErrorCode) (c : Option ChunkMessage) → bytes_round p.at ≡ 0 → refusal r p m f ≡ x → chunk_in (request_at p m) ≡ c → is_some (handle_in (turn_by r p m f x c).effect) ≡ true → SendsLarge f.handle (turn_by r p m f x c)
  turn_by_large p m (Some e) c round is asks large = absurd (false≢true large)
  turn_by_large p m None None round is asks large = plain_large p m (request_at p m) is round refl large
  turn_by_large p m None (Some c) round is asks large =
      let code : CHUNK_SEND ≡ code_of m = asked-code p m (ChunkSend c) (chunk_is (request_at p m) c asks) in
      chunk_large p m c (joined_with (under_way (chunks_of p.turns)) c) c.last (λ version. (let no = code ∙ version in absurd (omega (arith, no)))) large

  pub turn_large : (p : Place) (m : List ℕ) → bytes_round p.at ≡ 0 → is_some (handle_in (turn_of r p m f).effect) ≡ true → SendsLarge f.handle (turn_of r p m f)
  unfolding turn_of
  turn_large p m round large = turn_by_large p m (refusal r p m f) (chunk_in (request_at p m)) round refl refl large

-- ---- An entry.

pub unseen_large : (e : Effect) → is_some (handle_in e) ≡ true → is_unseen_effect (effect_with [] None e) ≡ true
unseen_large NoEffect large = absurd (false≢true large)
unseen_large (Took a m answer large) is = refl
unseen_large (TookData bytes answer) large = absurd (false≢true large)

-- What the definitions keep of it has the same reply.
pub record IsLargeTurn (t : Turn) : Type 0 where
  pub handle : ℕ
  pub byte : handle < 256
  pub sends : SendsLarge handle t

abbrev pub LargeStandsIn : Entry → Type 0
LargeStandsIn (Clear tag t d) = is_unseen_effect t.effect ≡ true → IsLargeTurn t
LargeStandsIn _ = Unit {0}

unseen_turn : (t : Turn) (handle : ℕ) → handle < 256 → SendsLarge handle t → IsLargeTurn (turn_with [] None t)
unseen_turn t handle byte sends = record {
  handle = handle;
  byte = byte;
  sends = record { reply = sends.reply; version = takes_with [] None GET_VERSION t ∙ sends.version; other = sends.other };
}

module _ (r : RspSetup) (h : History) (tag : ℕ) (body : List ℕ) (e : Entry) (may : MayLeadTo r h tag body (Adds e)) (large : is_large e ≡ true) where
  clear_large : (slice_index body 0 == 5) ≡ true → IsUnseenRequest (unseen e) × LargeStandsIn (unseen e)
  unfolding MayLeadTo
  clear_large type =
      let led = led_clear r h tag body (Adds e) type may in
      let allowed : led.free.handle < 256 = led.allowed.handle in
      elim (clear_form r h tag (drop 1 body) led.free (Adds e) led.leads) [
        | inl same ↦ absurd (let x = same.1 in cc)
        | inr adds ↦
            let t : Turn = turn_of r (clear_place h) (drop 1 body) led.free in
            let same : Clear tag t no_draw ≡ e = cc (sym adds) in
            let big : is_some (handle_in t.effect) ≡ true = ap is_large same ∙ large in
            let sends = turn_large r led.free (clear_place h) (drop 1 body) refl big in
            let now = unseen_turn t led.free.handle allowed sends in
            subst (λ (x : Entry). IsUnseenRequest (unseen x) × LargeStandsIn (unseen x)) same ((unseen_large t.effect big, now.sends.version), λ un. now)
      ]

  pub large_stands : LargeStandsIn (unseen e)
  large_stands = by_type (slice_index body 0 == 5) refl
    where
      by_type : (b : Bool) → (slice_index body 0 == 5) ≡ b → LargeStandsIn (unseen e)
      by_type true is = (clear_large is).1
      by_type false is =
          let led = led_record r h tag body (Adds e) is may in
          subst (λ (x : Entry). LargeStandsIn (unseen x)) (record_added r led.free tag (drop 1 body) e h led.leads) tt

pub large_is_unseen : LargeIsUnseen
large_is_unseen r h tag body e type may large = (clear_large r h tag body e may large type).0
