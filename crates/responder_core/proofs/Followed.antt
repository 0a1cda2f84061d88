-- The sessions after a clear message that begins none.
use Rattle.std.proofs.Common.{refl, ◌∙◌, ◌≡◌, ℕ, List, [], ◌∷◌, true, false, Bool, Option, Some, None, ap, sym, subst}
use Rattle.std.proofs.lemmas.Bool.{false≢true}
use Rattle.std.proofs.lemmas.Option.{none-some}
use Rattle.std.specs.Prelude.{◌==◌, ◌||◌, if◌then◌else◌, is_none}
use Rattle.responder_core.proofs.Outcomes.{by_clear}
use Rattle.responder_core.specs.ClearPart.{BeginsNone}
use Rattle.responder_core.specs.LiveSession.{IsSlotOf}
use Rattle.responder_core.specs.Sessions.{StandsFor, slot_of, tells_version}
use Rattle.responder_core.specs.declared.in_sessions.sessions.Sessions.{Sessions}
use Rattle.responder_machine.proofs.Codes.{asked-code}
use Rattle.responder_machine.proofs.Entries.{session_of-Clear}
use Rattle.responder_machine.proofs.Tests.{form_shown}
use Rattle.responder_machine.specs.Answer.{Free, answer_bytes, request_at}
use Rattle.responder_machine.specs.Handling.{carried_turn, chunk_in, effect_of, handle_for, last_chunk_turn, taken_chunk, turn_by, turn_of}
use Rattle.responder_machine.specs.Heard.{heard_in, heard_of, no_id}
use Rattle.responder_machine.specs.History.{History, clear_turns, ended_of, negotiation_of}
use Rattle.responder_machine.specs.History.Entry.{Clear}
use Rattle.responder_machine.specs.Laws.{completed_at}
use Rattle.responder_machine.specs.Place.{Place, clear_place, inside}
use Rattle.responder_machine.specs.Place.Where.{InChunks}
use Rattle.responder_machine.specs.Refusal.{code_of, is_misplaced, refusal}
use Rattle.responder_machine.specs.Responder.{Outcome, after, on_clear}
use Rattle.responder_machine.specs.Session.{Events, after_clear, after_exchange, session_of}
use Rattle.responder_machine.specs.Setup.{RspSetup}
use Rattle.responder_machine.specs.Turn.{Turn, code_in, is_data, takes}
use Rattle.responder_machine.specs.Turn.Effect.{NoEffect}
use Rattle.spdm_grammar.specs.Message.{ChunkMessage, RequestMessage}
use Rattle.spdm_grammar.specs.Message.RequestMessage.{ChunkSend}
use Rattle.spdm_grammar.specs.declared.messages.error_code.ErrorCode.{ErrorCode}
use Rattle.spdm_grammar.specs.declared.told.heard.Heard.{Heard}
use Rattle.spdm_grammar.specs.declared.told.heard.Heard.TheVariants as heard
use Rattle.spdm_grammar.specs.declared.names.request_code.TheConstants.{CHUNK_SEND, GET_VERSION, PSK_EXCHANGE}
use Rattle.spdm_machine.specs.Keys.{Draw}
use Rattle.transcript.specs.Transcripts.{Negotiation}

-- ---- GET_VERSION is told, and is taken in no large request.

abbrev IsTold : Turn → Type 0
IsTold t = takes GET_VERSION t ≡ tells_version (heard_in t no_id t.refused)

-- What is reported of a turn that is not refused and took no application data.
plainly : (t : Turn) (m : List ℕ) → t.refused ≡ None → is_data t.effect ≡ false → t.message ≡ m → tells_version (heard_in t no_id t.refused) ≡ (code_of m == GET_VERSION)
plainly t m taken none message =
    ap (λ (x : Option ErrorCode). tells_version (heard_in t no_id x)) taken
    ∙ ap (λ (b : Bool). tells_version (if b then heard.Taken no_id else heard.Answered (code_of t.message))) none
    ∙ ap (λ (x : List ℕ). code_of x == GET_VERSION) message

asked_plain : (p : Place) (m answer : List ℕ) (large : Option ℕ) (q : Option RequestMessage) → request_at p m ≡ q → is_none q ≡ false
    → ((code_in (effect_of q m answer large) == GET_VERSION) ≡ (code_of m == GET_VERSION)) × (is_data (effect_of q m answer large) ≡ false)
asked_plain p m answer large None is some = absurd (false≢true (sym some))
asked_plain p m answer large (Some asked) is some = (ap (λ (n : ℕ). n == GET_VERSION) (asked-code p m asked is), refl)

is_request : (r : RspSetup) (p : Place) (m : List ℕ) (f : Free) → refusal r p m f ≡ None → is_none (request_at p m) ≡ false
is_request r p m f taken = form_shown r p m f taken 8

not_version : (code : ℕ) → is_misplaced InChunks code ≡ false → (code == GET_VERSION) ≡ false
not_version code h = first_of (code == GET_VERSION) _ h
  where
    first_of : (b c : Bool) → (b || c) ≡ false → b ≡ false
    first_of true c h = absurd (false≢true (sym h))
    first_of false c h = refl

no_version_inside : (r : RspSetup) (p : Place) (m answer : List ℕ) (f : Free) (large : Option ℕ) (q : Option RequestMessage) → refusal r (inside p) m f ≡ None → request_at (inside p) m ≡ q
    → ((code_in (effect_of q m answer large) == GET_VERSION) ≡ false) × (is_data (effect_of q m answer large) ≡ false)
no_version_inside r p m answer f large None taken is = (refl, refl)
no_version_inside r p m answer f large (Some asked) taken is = (ap (λ (n : ℕ). n == GET_VERSION) (asked-code (inside p) m asked is) ∙ not_version (code_of m) (form_shown r (inside p) m f taken 5), refl)

-- A turn of a chunk: no GET_VERSION, and no application data.
record IsChunk (t : Turn) (m : List ℕ) : Type 0 where
  taken : t.refused ≡ None
  message : t.message ≡ m
  no_data : is_data t.effect ≡ false
  version : takes GET_VERSION t ≡ false

carried_chunk : (r : RspSetup) (p : Place) (m : List ℕ) (f : Free) (c : ChunkMessage) (whole : List ℕ) (x : Option ErrorCode) → refusal r (inside p) whole f ≡ x → IsChunk (carried_turn r (inside p) m f c whole x) m
carried_chunk r p m f c whole (Some e) is = record { taken = refl; message = refl; no_data = refl; version = refl }
carried_chunk r p m f c whole None is =
    let within = no_version_inside r p whole (answer_bytes r (inside p) whole f) f (handle_for (inside p) f (answer_bytes r (inside p) whole f)) (request_at (inside p) whole) is refl in
    record { taken = refl; message = refl; no_data = within.1; version = within.0 }

either_chunk : (m : List ℕ) (b : Bool) (t u : Turn) → IsChunk t m → IsChunk u m → IsChunk (if b then t else u) m
either_chunk m true t u x y = x
either_chunk m false t u x y = y

chunk_code : (p : Place) (m : List ℕ) (q : Option RequestMessage) (c : ChunkMessage) → request_at p m ≡ q → chunk_in q ≡ Some c → code_of m ≡ CHUNK_SEND
chunk_code p m (Some (ChunkSend chunk)) c is chunk_is = sym (asked-code p m (ChunkSend chunk) is)
chunk_code p m None c is chunk_is = absurd (none-some c chunk_is)
chunk_code p m (Some _) c is chunk_is = absurd (none-some c chunk_is)

by_told : (r : RspSetup) (p : Place) (m : List ℕ) (f : Free) (x : Option ErrorCode) (c : Option ChunkMessage) → refusal r p m f ≡ x → chunk_in (request_at p m) ≡ c → IsTold (turn_by r p m f x c)
by_told r p m f (Some e) c is chunk_is = refl
by_told r p m f None None is chunk_is =
    let plain = asked_plain p m (answer_bytes r p m f) (handle_for p f (answer_bytes r p m f)) (request_at p m) refl (is_request r p m f is) in
    plain.0 ∙ sym (plainly (turn_by r p m f None None) m refl plain.1 refl)
by_told r p m f None (Some c) is chunk_is =
    let t : Turn = turn_by r p m f None (Some c) in
    let chunk = either_chunk m c.last (last_chunk_turn r (inside p) m f c (completed_at p c)) (taken_chunk m c NoEffect [])
    (carried_chunk r p m f c (completed_at p c) (refusal r (inside p) (completed_at p c) f) refl) (record { taken = refl; message = refl; no_data = refl; version = refl }) in
    chunk.version ∙ sym (plainly t m chunk.taken chunk.no_data chunk.message ∙ ap (λ (n : ℕ). n == GET_VERSION) (chunk_code p m (request_at p m) c refl chunk_is))

told_version : (r : RspSetup) (p : Place) (m : List ℕ) (f : Free) → IsTold (turn_of r p m f)
unfolding turn_of
told_version r p m f = by_told r p m f (refusal r p m f) (chunk_in (request_at p m)) refl refl

-- ---- The sessions.

pub all_ended : (r : RspSetup) (h : History) (tag : ℕ) (m : List ℕ) (f : Free) (d : Draw) (new : Sessions) (told : Heard) → told ≡ heard_of (on_clear r h tag m f d) → tells_version told ≡ true
    → ((t : Turn) → takes GET_VERSION t ≡ true → StandsFor new r (Clear tag t d ∷ h)) → StandsFor new r (after h (on_clear r h tag m f d))
all_ended r h tag m f d new told is version stands =
    by_clear r h tag m f d (λ (o : Outcome). told ≡ heard_of o → StandsFor new r (after h o)) (λ body same. absurd (false≢true (sym (ap tells_version same) ∙ version)))
    (λ here. stands (turn_of r (clear_place h) m f) (told_version r (clear_place h) m f ∙ sym (ap tells_version here) ∙ version)) is

kept_one : (id : ℕ) (s : Events) (t : Turn) (n : Negotiation) → takes GET_VERSION t ≡ false → takes PSK_EXCHANGE t ≡ false → s ≡ after_clear id s t n
kept_one id s t n version exchange =
    sym (ap (λ (b : Bool). if b then [] else (if takes PSK_EXCHANGE t then after_exchange id s t n else s)) version ∙ ap (λ (b : Bool). if b then after_exchange id s t n else s) exchange)

pub others_stay : (r : RspSetup) (h : History) (tag : ℕ) (t : Turn) (d : Draw) (seen : Sessions) → takes GET_VERSION t ≡ false → takes PSK_EXCHANGE t ≡ false → StandsFor seen r h → StandsFor seen r (Clear tag t d ∷ h)
others_stay r h tag t d seen version exchange stands = record {
  slots = λ id. subst (λ (s : Events). IsSlotOf (slot_of seen id) r s) (kept_one id (session_of id h) t (negotiation_of (clear_turns h)) version exchange ∙ sym (session_of-Clear id tag t d h)) (stands.slots id);
  ended =
      stands.ended ∙ sym (ap (λ (b : Bool). if b || takes PSK_EXCHANGE t then None else ended_of h) version ∙ ap (λ (b : Bool). if b then None else ended_of h) exchange);
}

pub all_stay : (r : RspSetup) (h : History) (tag : ℕ) (m : List ℕ) (f : Free) (d : Draw) (seen : Sessions) (told : Heard) → told ≡ heard_of (on_clear r h tag m f d) → tells_version told ≡ false
    → BeginsNone (on_clear r h tag m f d) → StandsFor seen r h → StandsFor seen r (after h (on_clear r h tag m f d))
all_stay r h tag m f d seen told is version none stands =
    by_clear r h tag m f d (λ (o : Outcome). told ≡ heard_of o → BeginsNone o → StandsFor seen r (after h o)) (λ body same nothing. stands)
    (λ here nothing. others_stay r h tag (turn_of r (clear_place h) m f) d seen (told_version r (clear_place h) m f ∙ sym (ap tells_version here) ∙ version) nothing stands) is none
