-- The body that a responder answers tells what the request led to, but for the bytes of an answer that goes by
-- LargeResponse.
use Rattle.std.proofs.Math.Bool.{and-false}
use Rattle.std.proofs.lemmas.Bool.{eqb-false}
use Rattle.std.proofs.Common.{◌≡◌, ◌≢◌, ◌==◌, ◌&&◌, ℕ, List, [], refl, sym, ap, ◌∙◌, subst, drop, Bool, true, false, Option, Some, None, is_none, cond}
use Rattle.spdm_grammar.specs.Message.{RequestMessage, ChunkMessage}
use Rattle.spdm_grammar.specs.Message.RequestMessage.{GetVersion, GetCapabilities, NegotiateAlgorithms, GetMeasurements, PskExchange, PskFinish, Heartbeat, KeyUpdate, EndSession, ChunkSend, ChunkGet}
use Rattle.spdm_grammar.specs.declared.messages.error_code.ErrorCode.{ErrorCode}
use Rattle.spdm_grammar.specs.declared.names.request_code.TheConstants.{CHUNK_SEND}
use Rattle.spdm_machine.specs.Bodies.{clear_body}
use Rattle.spdm_machine.specs.Keys.{Draw}
use Rattle.responder_machine.specs.Answer.{Free, answer_bytes, answer_to, request_at}
use Rattle.responder_machine.specs.Handling.{turn_of, turn_by, chunk_in, effect_of, handle_for}
use Rattle.responder_machine.specs.History.{History, Entry, kept_of}
use Rattle.responder_machine.specs.History.Entry.{Clear, Sealed}
use Rattle.responder_machine.specs.Place.{Place, clear_place, session_place}
use Rattle.responder_machine.specs.Refusal.{refusal, refused_contents}
use Rattle.responder_machine.specs.Responder.{Outcome, on_clear, is_repeat, kept_reply, body_of}
use Rattle.responder_machine.specs.Responder.Outcome.{Same, Unopened, Adds}
use Rattle.responder_machine.specs.Session.{Events}
use Rattle.responder_machine.specs.Setup.{RspSetup}
use Rattle.responder_machine.specs.Turn.{updates}
use Rattle.responder_machine.proofs.Codes.{asked-code}
use Rattle.responder_machine.proofs.Tests.{form_shown}
use Rattle.capture_machine.proofs.TurnsAlike.{TurnsAlike, ReadAlike, turn_told}

-- ---- What is alike.

abbrev pub EntriesAlike : Entry → Entry → Type 0
EntriesAlike (Clear tag t d) (Clear tag' u d') = (tag ≡ tag') × TurnsAlike t u × (d ≡ d')
EntriesAlike (Sealed tag m t reply d) (Sealed tag' n u answer d') = (tag ≡ tag') × (m ≡ n) × TurnsAlike t u × (reply ≡ answer) × (d ≡ d')
EntriesAlike _ _ = ⊥

abbrev pub OutcomesAlike : Outcome → Outcome → Type 0
OutcomesAlike (Same a) (Same b) = a ≡ b
OutcomesAlike (Unopened a) (Unopened b) = a ≡ b
OutcomesAlike (Adds e) (Adds f) = EntriesAlike e f
OutcomesAlike _ _ = ⊥

-- ---- In the clear.

clear_by : (r : RspSetup) (h g : History) (tag : ℕ) (m : List ℕ) (f k : Free) (d : Draw) (b : Bool) (same answer : List ℕ) → same ≡ answer → ReadAlike (clear_place h) (clear_place g) m
    → body_of (cond b (Same same) (Adds (Clear tag (turn_of r (clear_place h) m f) d))) ≡ body_of (cond b (Same answer) (Adds (Clear tag (turn_of r (clear_place g) m k) d)))
    → OutcomesAlike (cond b (Same same) (Adds (Clear tag (turn_of r (clear_place h) m f) d))) (cond b (Same answer) (Adds (Clear tag (turn_of r (clear_place g) m k) d)))
clear_by r h g tag m f k d true same answer one read bodies = one
clear_by r h g tag m f k d false same answer one read bodies = (refl, turn_told r (clear_place h) (clear_place g) m f k read (ap (λ (l : List ℕ). drop 1 l) bodies), refl)

pub clear_told : (r : RspSetup) (h g : History) (tag : ℕ) (m : List ℕ) (f k : Free) (d : Draw) → kept_of h ≡ kept_of g → ReadAlike (clear_place h) (clear_place g) m
    → body_of (on_clear r h tag m f d) ≡ body_of (on_clear r g tag m k d) → OutcomesAlike (on_clear r h tag m f d) (on_clear r g tag m k d)
unfolding on_clear
clear_told r h g tag m f k d kept read =
    let P : Bool → Type 0 = λ b. body_of (on_clear r h tag m f d) ≡ body_of (cond b (Same (clear_body (kept_reply (kept_of g)))) (Adds (Clear tag (turn_of r (clear_place g) m k) d)))
    → OutcomesAlike (on_clear r h tag m f d) (cond b (Same (clear_body (kept_reply (kept_of g)))) (Adds (Clear tag (turn_of r (clear_place g) m k) d))) in
    subst P (ap (λ o. is_repeat o tag m) kept) (clear_by r h g tag m f k d (is_repeat (kept_of h) tag m) _ _ (ap (λ o. clear_body (kept_reply o)) kept) read)

-- ---- In a session: under which key a turn is answered.

-- An answer to KEY_UPDATE leaves nothing free.
update_answer : (r : RspSetup) (p : Place) (m : List ℕ) (f k : Free) (op tag : ℕ) → request_at p m ≡ Some (KeyUpdate op tag) → answer_bytes r p m f ≡ answer_bytes r p m k
unfolding answer_bytes
update_answer r p m f k op tag is = ap (answer_to r p m f) is ∙ sym (ap (answer_to r p m k) is)

update_refusal : (r : RspSetup) (p : Place) (m : List ℕ) (f k : Free) → answer_bytes r p m f ≡ answer_bytes r p m k → refusal r p m f ≡ refusal r p m k
unfolding refusal refused_contents
update_refusal r p m f k same = rw same refl

-- CHUNK_SEND is refused in a session.
pub no_chunk : (r : RspSetup) (s : Events) (m : List ℕ) (f : Free) (c : ChunkMessage) → request_at (session_place s) m ≡ Some (ChunkSend c) → refusal r (session_place s) m f ≢ None
no_chunk r s m f c is none =
    eqb-false _ CHUNK_SEND (form_shown r (session_place s) m f none 4) (sym (asked-code (session_place s) m (ChunkSend c) is))

abbrev pub asks_update : Option RequestMessage → Bool
asks_update (Some (KeyUpdate op tag)) = op == 2
asks_update _ = false

-- Only KEY_UPDATE updates all keys.
pub by_updates : (r : RspSetup) (s : Events) (m : List ℕ) (f : Free) (q : Option RequestMessage) (x : Option ErrorCode) → request_at (session_place s) m ≡ q → refusal r (session_place s) m f ≡ x
    → updates 2 (turn_by r (session_place s) m f x (chunk_in q)) ≡ (is_none x && asks_update q)
by_updates r s m f None (Some e) asks is = refl
by_updates r s m f (Some q) (Some e) asks is = refl
by_updates r s m f None None asks is = ap (λ (o : Option RequestMessage). updates 2 (record { message = m; refused = None; chunk = None; effect = effect_of o m (answer_bytes r (session_place s) m f) (handle_for (session_place s) f (answer_bytes r (session_place s) m f)); reply = [] })) asks
by_updates r s m f (Some (ChunkSend c)) None asks is = absurd (no_chunk r s m f c asks is)
by_updates r s m f (Some GetVersion) None asks is = ap (λ (o : Option RequestMessage). updates 2 (record { message = m; refused = None; chunk = None; effect = effect_of o m (answer_bytes r (session_place s) m f) (handle_for (session_place s) f (answer_bytes r (session_place s) m f)); reply = [] })) asks
by_updates r s m f (Some (GetCapabilities caps)) None asks is = ap (λ (o : Option RequestMessage). updates 2 (record { message = m; refused = None; chunk = None; effect = effect_of o m (answer_bytes r (session_place s) m f) (handle_for (session_place s) f (answer_bytes r (session_place s) m f)); reply = [] })) asks
by_updates r s m f (Some (NegotiateAlgorithms offer)) None asks is = ap (λ (o : Option RequestMessage). updates 2 (record { message = m; refused = None; chunk = None; effect = effect_of o m (answer_bytes r (session_place s) m f) (handle_for (session_place s) f (answer_bytes r (session_place s) m f)); reply = [] })) asks
by_updates r s m f (Some (GetMeasurements op)) None asks is = ap (λ (o : Option RequestMessage). updates 2 (record { message = m; refused = None; chunk = None; effect = effect_of o m (answer_bytes r (session_place s) m f) (handle_for (session_place s) f (answer_bytes r (session_place s) m f)); reply = [] })) asks
by_updates r s m f (Some (PskExchange exchange)) None asks is = ap (λ (o : Option RequestMessage). updates 2 (record { message = m; refused = None; chunk = None; effect = effect_of o m (answer_bytes r (session_place s) m f) (handle_for (session_place s) f (answer_bytes r (session_place s) m f)); reply = [] })) asks
by_updates r s m f (Some (PskFinish verify)) None asks is = ap (λ (o : Option RequestMessage). updates 2 (record { message = m; refused = None; chunk = None; effect = effect_of o m (answer_bytes r (session_place s) m f) (handle_for (session_place s) f (answer_bytes r (session_place s) m f)); reply = [] })) asks
by_updates r s m f (Some Heartbeat) None asks is = ap (λ (o : Option RequestMessage). updates 2 (record { message = m; refused = None; chunk = None; effect = effect_of o m (answer_bytes r (session_place s) m f) (handle_for (session_place s) f (answer_bytes r (session_place s) m f)); reply = [] })) asks
by_updates r s m f (Some (KeyUpdate op tag)) None asks is = ap (λ (o : Option RequestMessage). updates 2 (record { message = m; refused = None; chunk = None; effect = effect_of o m (answer_bytes r (session_place s) m f) (handle_for (session_place s) f (answer_bytes r (session_place s) m f)); reply = [] })) asks
by_updates r s m f (Some EndSession) None asks is = ap (λ (o : Option RequestMessage). updates 2 (record { message = m; refused = None; chunk = None; effect = effect_of o m (answer_bytes r (session_place s) m f) (handle_for (session_place s) f (answer_bytes r (session_place s) m f)); reply = [] })) asks
by_updates r s m f (Some (ChunkGet handle number)) None asks is = ap (λ (o : Option RequestMessage). updates 2 (record { message = m; refused = None; chunk = None; effect = effect_of o m (answer_bytes r (session_place s) m f) (handle_for (session_place s) f (answer_bytes r (session_place s) m f)); reply = [] })) asks

pub no_and : (b c : Bool) → (b && false) ≡ (c && false)
no_and b c = and-false b ∙ sym (and-false c)

refusals : (r : RspSetup) (p : Place) (m : List ℕ) (f k : Free) (q : Option RequestMessage) → request_at p m ≡ q → (is_none (refusal r p m f) && asks_update q) ≡ (is_none (refusal r p m k) && asks_update q)
refusals r p m f k (Some (KeyUpdate op tag)) is = ap (λ (x : Option ErrorCode). is_none x && (op == 2)) (update_refusal r p m f k (update_answer r p m f k op tag is))
refusals r p m f k None is = no_and _ _
refusals r p m f k (Some GetVersion) is = no_and _ _
refusals r p m f k (Some (GetCapabilities caps)) is = no_and _ _
refusals r p m f k (Some (NegotiateAlgorithms offer)) is = no_and _ _
refusals r p m f k (Some (GetMeasurements op)) is = no_and _ _
refusals r p m f k (Some (PskExchange exchange)) is = no_and _ _
refusals r p m f k (Some (PskFinish verify)) is = no_and _ _
refusals r p m f k (Some Heartbeat) is = no_and _ _
refusals r p m f k (Some EndSession) is = no_and _ _
refusals r p m f k (Some (ChunkGet handle number)) is = no_and _ _
refusals r p m f k (Some (ChunkSend c)) is = no_and _ _

pub updates_same : (r : RspSetup) (s : Events) (m : List ℕ) (f k : Free) → updates 2 (turn_of r (session_place s) m f) ≡ updates 2 (turn_of r (session_place s) m k)
unfolding turn_of
updates_same r s m f k =
    by_updates r s m f (request_at (session_place s) m) (refusal r (session_place s) m f) refl refl
    ∙ refusals r (session_place s) m f k (request_at (session_place s) m) refl
    ∙ sym (by_updates r s m k (request_at (session_place s) m) (refusal r (session_place s) m k) refl refl)
