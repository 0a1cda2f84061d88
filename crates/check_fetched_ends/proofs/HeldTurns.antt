-- What a turn in the clear is whose answer goes by LargeResponse.
use Rattle.std.proofs.Common.{◌≡◌, ◌≤◌, ◌+◌, ◌==◌, ◌&&◌, ℕ, List, [], ◌∷◌, refl, sym, ap, ◌∙◌, subst, length, arith, Bool, true, false, Option, Some, None, is_some, cond, eqb-true}
use Rattle.std.specs.Prelude.{nat_lt, slice_index}
use Rattle.std.proofs.lemmas.Bool.{false≢true, not-false}
use Rattle.chunking.specs.Collecting.{answer_from, broken_rule, collected, joined_with, under_way}
use Rattle.chunking.specs.Collecting.Collection.{More, Whole}
use Rattle.check_fetched_laws.proofs.LargeHeard.{large_reply}
use Rattle.check_fetched_laws.proofs.LargeTurns.{turn_large}
use Rattle.check_fetched_ends.specs.AskedInClear.{IsExchangeBy, chunk_at}
use Rattle.spdm_grammar.specs.Codes.{code_for}
use Rattle.spdm_grammar.specs.Message.{ChunkMessage, RequestMessage}
use Rattle.spdm_grammar.specs.declared.messages.error_code.ErrorCode.{ErrorCode}
use Rattle.spdm_grammar.specs.declared.names.TheConstants.{MAX_MESSAGE_SIZE}
use Rattle.spdm_grammar.specs.declared.names.request_code.TheConstants.{GET_CAPABILITIES, PSK_EXCHANGE}
use Rattle.spdm_grammar.specs.declared.names.response_code.TheConstants.{CHUNK_SEND_ACK}
use Rattle.spdm_grammar.specs.declared.told.phase.Phase.{Phase}
use Rattle.spdm_grammar.specs.declared.told.phase.Phase.TheVariants.{Fresh, Versioned, Capable, Negotiated}
use Rattle.responder_machine.proofs.Codes.{asked-code}
use Rattle.responder_machine.proofs.Tests.{contents_shown, form_shown}
use Rattle.responder_machine.specs.Answer.{Free, answer_bytes, request_at}
use Rattle.responder_machine.specs.Handling.{carried_turn, chunk_in, effect_of, goes_large, last_chunk_turn, taken_chunk, turn_by, turn_of}
use Rattle.responder_machine.specs.History.{History, clear_turns}
use Rattle.responder_machine.specs.LargeMessages.{chunks_of}
use Rattle.responder_machine.specs.Place.{Place, clear_place, inside, place_terms}
use Rattle.responder_machine.specs.Refusal.{bytes_round, chunk_fault, code_of, is_allowed, phase_allows, refusal, sizes_are_known}
use Rattle.responder_machine.specs.Setup.{RspSetup}
use Rattle.responder_machine.specs.Turn.{Effect, Turn, code_in, handle_in, takes}
use Rattle.responder_machine.specs.Turn.Effect.{NoEffect}
use Rattle.spdm_grammar.specs.declared.ChunkFault.{ChunkFault}
use Rattle.capture_machine.proofs.TurnsAlike.{chunk_is}

-- It is no GET_CAPABILITIES; it is a chunk where the message is one; what took effect is PSK_EXCHANGE where the message asks for
-- one; and its reply shows whether it is a chunk, and is short.
pub record IsLargeTurn (r : RspSetup) (turns : List Turn) (m : List ℕ) (t : Turn) : Type 0 where
  pub settles : takes GET_CAPABILITIES t ≡ false
  pub chunk : t.chunk ≡ chunk_at turns m
  pub asked : (exchange : Bool) → IsExchangeBy r turns m t.chunk exchange → takes PSK_EXCHANGE t ≡ exchange
  pub shows : (slice_index t.reply 1 == CHUNK_SEND_ACK) ≡ is_some t.chunk
  pub small : length t.reply ≤ MAX_MESSAGE_SIZE

caps_phase : (phase : Phase) (b : Bool) → phase_allows phase b GET_CAPABILITIES ≡ true → sizes_are_known phase ≡ false
caps_phase Fresh b is = absurd (false≢true is)
caps_phase Versioned b is = refl
caps_phase Capable b is = absurd (false≢true is)
caps_phase Negotiated b is = absurd (false≢true is)

-- The place allows GET_CAPABILITIES only where sizes are not known.
abbrev IsEarly : Place → Type 0
IsEarly p = is_allowed p.at p GET_CAPABILITIES ≡ true → sizes_are_known p.phase ≡ false

module _ (r : RspSetup) (f : Free) where
  effect_settles : (p : Place) (m : List ℕ) (q : Option RequestMessage) → IsEarly p → refusal r p m f ≡ None → request_at p m ≡ q
      → is_some (handle_in (effect_of q m (answer_bytes r p m f) (cond (goes_large p (answer_bytes r p m f)) (Some f.handle) None))) ≡ true
      → (code_in (effect_of q m (answer_bytes r p m f) (cond (goes_large p (answer_bytes r p m f)) (Some f.handle) None)) == GET_CAPABILITIES) ≡ false
  effect_settles p m None early none is large = absurd (false≢true large)
  effect_settles p m (Some q) early none is large = by_code (code_for q == GET_CAPABILITIES) refl
    where
      by_code : (b : Bool) → (code_for q == GET_CAPABILITIES) ≡ b → b ≡ false
      by_code false same = refl
      by_code true same =
          let code : code_of m ≡ GET_CAPABILITIES = sym (asked-code p m q is) ∙ eqb-true (code_for q) GET_CAPABILITIES same in
          let allows : is_allowed p.at p GET_CAPABILITIES ≡ true = ap (is_allowed p.at p) (sym code) ∙ not-false (is_allowed p.at p (code_of m)) (form_shown r p m f none 6) in
          let whole : goes_large p (answer_bytes r p m f) ≡ false =
          ap (λ (b : Bool). b && nat_lt (place_terms p).common.to_requester.transfer (bytes_round p.at + length (answer_bytes r p m f))) (early allows) in
          absurd (false≢true (sym (ap (λ (b : Bool). is_some (handle_in (effect_of (Some q) m (answer_bytes r p m f) (cond b (Some f.handle) None)))) whole) ∙ large))

  module _ (h : History) (m : List ℕ) where
    abbrev p : Place
    p = clear_place h

    early : IsEarly p
    early allows = caps_phase _ _ allows

    within : IsEarly (inside p)
    within allows = caps_phase _ _ allows

    carried_settles : (c : ChunkMessage) (l : List ℕ) (o : Option ErrorCode) → refusal r (inside p) l f ≡ o → is_some (handle_in (carried_turn r (inside p) m f c l o).effect) ≡ true → takes GET_CAPABILITIES (carried_turn r (inside p) m f c l o) ≡ false
    carried_settles c l (Some e) is large = absurd (false≢true large)
    carried_settles c l None is large = effect_settles (inside p) l (request_at (inside p) l) within is refl large

    chunk_settles : (c : ChunkMessage) (l : List ℕ) (b : Bool) → let t = cond b (last_chunk_turn r (inside p) m f c l) (taken_chunk m c NoEffect []) in is_some (handle_in t.effect) ≡ true → takes GET_CAPABILITIES t ≡ false
    chunk_settles c l true large = carried_settles c l (refusal r (inside p) l f) refl large
    chunk_settles c l false large = absurd (false≢true large)

    turn_by_settles : (o : Option ErrorCode) (c : Option ChunkMessage) → refusal r p m f ≡ o → is_some (handle_in (turn_by r p m f o c).effect) ≡ true → takes GET_CAPABILITIES (turn_by r p m f o c) ≡ false
    turn_by_settles (Some e) c is large = absurd (false≢true large)
    turn_by_settles None None is large = effect_settles p m (request_at p m) early is refl large
    turn_by_settles None (Some c) is large = chunk_settles c (joined_with (under_way (chunks_of p.turns)) c) c.last large

    -- ---- What it asks for.

    asked_code : (x : Place) (l : List ℕ) (q : Option RequestMessage) (answer : List ℕ) (large : Option ℕ) → request_at x l ≡ q → is_some (handle_in (effect_of q l answer large)) ≡ true → code_in (effect_of q l answer large) ≡ code_of l
    asked_code x l None answer large is some = absurd (false≢true some)
    asked_code x l (Some q) answer large is some = asked-code x l q is

    abbrev Asks : Turn → Type 0
    Asks t = (exchange : Bool) → IsExchangeBy r (clear_turns h) m t.chunk exchange → takes PSK_EXCHANGE t ≡ exchange

    abbrev joins : ChunkMessage → List ℕ
    joins c = joined_with (under_way (chunks_of p.turns)) c

    carried_asks : (c : ChunkMessage) (o : Option ErrorCode) → collected r.max (chunks_of p.turns) c ≡ Whole (joins c) → is_some (handle_in (carried_turn r (inside p) m f c (joins c) o).effect) ≡ true → Asks (carried_turn r (inside p) m f c (joins c) o)
    carried_asks c (Some e) done large = absurd (false≢true large)
    carried_asks c None done large = λ exchange is.
        ap (λ (n : ℕ). n == PSK_EXCHANGE) (asked_code (inside p) (joins c) (request_at (inside p) (joins c)) (answer_bytes r (inside p) (joins c) f) (cond (goes_large (inside p) (answer_bytes r (inside p) (joins c) f)) (Some f.handle) None) refl large)
        ∙ sym (is (joins c) done)

    no_fault : (x : Option ChunkFault) → is_some x ≡ false → x ≡ None
    no_fault None none = refl
    no_fault (Some fault) none = absurd (false≢true (sym none))

    chunk_asks : (c : ChunkMessage) (b : Bool) → c.last ≡ b → broken_rule r.max (under_way (chunks_of p.turns)) c ≡ None → let t = cond b (last_chunk_turn r (inside p) m f c (joins c)) (taken_chunk m c NoEffect []) in is_some (handle_in t.effect) ≡ true → Asks t
    chunk_asks c true last rule large =
        carried_asks c (refusal r (inside p) (joins c) f) (ap (λ (x : Option ChunkFault). answer_from x c (joins c)) rule ∙ ap (λ (b : Bool). cond b (Whole (joins c)) More) last) large
    chunk_asks c false last rule large = absurd (false≢true large)

    turn_by_asks : (o : Option ErrorCode) (c : Option ChunkMessage) → chunk_in (request_at p m) ≡ c → refusal r p m f ≡ o → is_some (handle_in (turn_by r p m f o c).effect) ≡ true → Asks (turn_by r p m f o c)
    turn_by_asks (Some e) c asks is large = absurd (false≢true large)
    turn_by_asks None None asks is large = λ exchange here.
        ap (λ (n : ℕ). n == PSK_EXCHANGE) (asked_code p m (request_at p m) (answer_bytes r p m f) (cond (goes_large p (answer_bytes r p m f)) (Some f.handle) None) refl large) ∙ sym here
    turn_by_asks None (Some c) asks is large =
        let tested : is_some (chunk_fault r p (request_at p m)) ≡ false = contents_shown r p m f is 8 in
        let rule = no_fault (broken_rule r.max (under_way (chunks_of p.turns)) c) (ap (λ (o : Option RequestMessage). is_some (chunk_fault r p o)) (sym (chunk_is (request_at p m) c asks)) ∙ tested) in
        chunk_asks c c.last refl rule large

    carried_chunk : (c : ChunkMessage) (l : List ℕ) (o : Option ErrorCode) → (carried_turn r (inside p) m f c l o).chunk ≡ Some c
    carried_chunk c l (Some e) = refl
    carried_chunk c l None = refl

    last_chunk : (c : ChunkMessage) (b : Bool) → (cond b (last_chunk_turn r (inside p) m f c (joins c)) (taken_chunk m c NoEffect [])).chunk ≡ Some c
    last_chunk c true = carried_chunk c (joins c) (refusal r (inside p) (joins c) f)
    last_chunk c false = refl

    turn_by_chunk : (o : Option ErrorCode) (c : Option ChunkMessage) → is_some (handle_in (turn_by r p m f o c).effect) ≡ true → (turn_by r p m f o c).chunk ≡ c
    turn_by_chunk (Some e) c large = absurd (false≢true large)
    turn_by_chunk None None large = refl
    turn_by_chunk None (Some c) large = last_chunk c c.last

    -- ---- The reply.

    ack_shows : (c : Option ChunkMessage) (handle : ℕ) → (slice_index (large_reply c handle) 1 == CHUNK_SEND_ACK) ≡ is_some c
    ack_shows None handle = refl
    ack_shows (Some c) handle = refl

    large_small : (c : Option ChunkMessage) (handle : ℕ) → length (large_reply c handle) ≤ MAX_MESSAGE_SIZE
    large_small None handle = omega arith
    large_small (Some c) handle = omega arith

    pub large_turn : is_some (handle_in (turn_of r p m f).effect) ≡ true → IsLargeTurn r (clear_turns h) m (turn_of r p m f)
    unfolding turn_of
    large_turn large =
        let t : Turn = turn_of r p m f in
        let reply : t.reply ≡ large_reply t.chunk f.handle = (turn_large r f p m refl large).reply in record {
          settles = turn_by_settles (refusal r p m f) (chunk_in (request_at p m)) refl large;
          chunk = turn_by_chunk (refusal r p m f) (chunk_in (request_at p m)) large;
          asked = turn_by_asks (refusal r p m f) (chunk_in (request_at p m)) refl refl large;
          shows = ap (λ (l : List ℕ). slice_index l 1 == CHUNK_SEND_ACK) reply ∙ ack_shows t.chunk f.handle;
          small = subst (λ (l : List ℕ). length l ≤ MAX_MESSAGE_SIZE) (sym reply) (large_small t.chunk f.handle);
        }
