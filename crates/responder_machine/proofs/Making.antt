-- Whatever a responder does adds to a history that it made, and takes one draw at most.
use Rattle.std.proofs.Common.{◌≡◌, ℕ, ◌≤◌, ◌+◌, List, [], ◌∷◌, drop, Bool, true, false, cond, Option, Some, None, ◌==◌, refl, ap, ◌∙◌, arith}
use Rattle.std.specs.Prelude.{slice_index}
use Rattle.spdm_basis.specs.declared.causes.record_fault.RecordFault.{RecordFault}
use Rattle.spdm_grammar.specs.Message.{ChunkMessage}
use Rattle.spdm_grammar.specs.declared.messages.error_code.ErrorCode.{ErrorCode}
use Rattle.spdm_grammar.specs.declared.told.phase.Phase.{Phase}
use Rattle.responder_machine.specs.Answer.{Free, request_at}
use Rattle.responder_machine.specs.Does.{IsMade, responder_does, clear_does, record_does, clear_chosen, record_chosen}
use Rattle.responder_machine.specs.Handling.{turn_of, turn_by, chunk_in, chunk_turn, carried_turn, taken_chunk, last_chunk_turn}
use Rattle.responder_machine.specs.History.{History, draws_of, kept_of, ended_of, clear_turns, phase_of}
use Rattle.responder_machine.specs.History.Entry.{Clear, Sealed}
use Rattle.spdm_machine.specs.Keys.{Draw}
use Rattle.responder_machine.specs.Place.{Place, clear_place, inside}
use Rattle.responder_machine.specs.Records.{opening_fault, opened}
use Rattle.responder_machine.specs.Refusal.{refusal}
use Rattle.responder_machine.specs.Responder.{Outcome, after, on_clear, on_record, to_session, in_session, in_session_by, is_repeat, kept_reply, kept_record, repeats, session_turn}
use Rattle.spdm_machine.specs.Bodies.{clear_body, record_body}
use Rattle.responder_machine.specs.Responder.Outcome.{Same, Adds}
use Rattle.responder_machine.specs.Session.{Events, session_of, id_in_record, last_of}
use Rattle.responder_machine.specs.Setup.{RspSetup}
use Rattle.responder_machine.specs.Turn.{Turn, takes_draw}
use Rattle.responder_machine.specs.Turn.Effect.{NoEffect}

-- ---- A turn keeps the message that came.

carried_message : (r : RspSetup) (p : Place) (m : List ℕ) (f : Free) (c : ChunkMessage) (whole : List ℕ) (o : Option ErrorCode) → (carried_turn r p m f c whole o).message ≡ m
carried_message r p m f c whole (Some e) = refl
carried_message r p m f c whole None = refl

chunk_by : (r : RspSetup) (p : Place) (m : List ℕ) (f : Free) (c : ChunkMessage) (whole : List ℕ) (b : Bool) → (cond b (last_chunk_turn r (inside p) m f c whole) (taken_chunk m c NoEffect [])).message ≡ m
chunk_by r p m f c whole true = carried_message r (inside p) m f c whole (refusal r (inside p) whole f)
chunk_by r p m f c whole false = refl

chunk_message : (r : RspSetup) (p : Place) (m : List ℕ) (f : Free) (c : ChunkMessage) → (chunk_turn r p m f c).message ≡ m
chunk_message r p m f c = chunk_by r p m f c _ c.last

message_by : (r : RspSetup) (p : Place) (m : List ℕ) (f : Free) (o : Option ErrorCode) (c : Option ChunkMessage) → (turn_by r p m f o c).message ≡ m
message_by r p m f (Some e) c = refl
message_by r p m f None None = refl
message_by r p m f None (Some c) = chunk_message r p m f c

pub turn_message : (r : RspSetup) (p : Place) (m : List ℕ) (f : Free) → (turn_of r p m f).message ≡ m
unfolding turn_of
turn_message r p m f = message_by r p m f (refusal r p m f) (chunk_in (request_at p m))

-- ---- What is made.

pub record Made (r : RspSetup) (h : History) (o : Outcome) : Type 0 where
  pub made : IsMade r (after h o)
  pub more : draws_of h ≤ draws_of (after h o)
  pub most : draws_of (after h o) ≤ draws_of h + 1

drawn : (b : Bool) (n : ℕ) → (n ≤ cond b (n + 1) n) × (cond b (n + 1) n ≤ n + 1)
drawn true n = ((omega arith), (omega arith))
drawn false n = ((omega arith), (omega arith))

clear_by : (r : RspSetup) (h : History) (tag : ℕ) (m : List ℕ) (d : Draw) (b : Bool) (t : Turn) → t.message ≡ m
    → clear_does r h tag m d ≡ cond b (Same (clear_body (kept_reply (kept_of h)))) (Adds (Clear tag t d))
    → IsMade r h → Made r h (cond b (Same (clear_body (kept_reply (kept_of h)))) (Adds (Clear tag t d)))
clear_by r h tag m d true t same e made = record { made = made; more = omega arith; most = omega arith }
clear_by r h tag m d false t same e made =
    let n = drawn (takes_draw t) (draws_of h) in
    record { made = (ap (λ (x : List ℕ). clear_does r h tag x d) same ∙ e, made); more = n.0; most = n.1 }

clear_made : (r : RspSetup) (h : History) (tag : ℕ) (m : List ℕ) (d : Draw) → IsMade r h → Made r h (clear_does r h tag m d)
unfolding on_clear
clear_made r h tag m d made =
    let f = clear_chosen r h d in
    clear_by r h tag m d (is_repeat (kept_of h) tag m) (turn_of r (clear_place h) m f) (turn_message r (clear_place h) m f) refl made

entry_made : (r : RspSetup) (h : History) (tag : ℕ) (sealed : List ℕ) (d : Draw) (t : Turn) (reply : List ℕ) → record_does r h tag sealed d ≡ Adds (Sealed tag sealed t reply d) → IsMade r h → Made r h (Adds (Sealed tag sealed t reply d))
entry_made r h tag sealed d t reply e made = (let n = drawn (takes_draw t) (draws_of h) in record { made = (e, made); more = n.0; most = n.1 })

by_fault : (r : RspSetup) (h : History) (tag : ℕ) (sealed : List ℕ) (d : Draw) (phase : Phase) (s : Events) (f : Free) (o : Option RecordFault)
    → record_does r h tag sealed d ≡ in_session_by r phase s f tag sealed d o → IsMade r h → Made r h (in_session_by r phase s f tag sealed d o)
by_fault r h tag sealed d phase s f (Some fault) e made = record { made = made; more = omega arith; most = omega arith }
by_fault r h tag sealed d phase s f None e made = entry_made r h tag sealed d (session_turn r s (opened r.psk s sealed) f) _ e made

in_session_made : (r : RspSetup) (h : History) (tag : ℕ) (sealed : List ℕ) (d : Draw) (phase : Phase) (s : Events) (f : Free)
    → record_does r h tag sealed d ≡ in_session r phase s f tag sealed d → IsMade r h → Made r h (in_session r phase s f tag sealed d)
unfolding in_session
in_session_made r h tag sealed d phase s f e made = by_fault r h tag sealed d phase s f (opening_fault r.psk s sealed) e made

repeat_or : (r : RspSetup) (h : History) (tag : ℕ) (sealed : List ℕ) (d : Draw) (b : Bool) (body : List ℕ) (o : Outcome) → record_does r h tag sealed d ≡ cond b (Same body) o → IsMade r h
    → (record_does r h tag sealed d ≡ o → Made r h o) → Made r h (cond b (Same body) o)
repeat_or r h tag sealed d true body o e made next = record { made = made; more = omega arith; most = omega arith }
repeat_or r h tag sealed d false body o e made next = next e

to_session_made : (r : RspSetup) (h : History) (tag : ℕ) (sealed : List ℕ) (d : Draw) (phase : Phase) (s : Events) (f : Free)
    → record_does r h tag sealed d ≡ to_session r phase s f tag sealed d → IsMade r h → Made r h (to_session r phase s f tag sealed d)
to_session_made r h tag sealed d phase [] f e made = record { made = made; more = omega arith; most = omega arith }
to_session_made r h tag sealed d phase (x ∷ s) f e made =
    repeat_or r h tag sealed d (repeats (last_of (x ∷ s)) sealed) (record_body (kept_record (last_of (x ∷ s)))) (in_session r phase (x ∷ s) f tag sealed d) e made
    (λ is. in_session_made r h tag sealed d phase (x ∷ s) f is made)

record_made_by : (r : RspSetup) (h : History) (tag : ℕ) (sealed : List ℕ) (d : Draw) (f : Free) → record_does r h tag sealed d ≡ on_record r h tag sealed f d → IsMade r h → Made r h (on_record r h tag sealed f d)
unfolding on_record
record_made_by r h tag sealed d f e made =
    repeat_or r h tag sealed d (repeats (ended_of h) sealed) (record_body (kept_record (ended_of h))) (to_session r (phase_of (clear_turns h)) (session_of (id_in_record sealed) h) f tag sealed d) e made
    (λ is. to_session_made r h tag sealed d (phase_of (clear_turns h)) (session_of (id_in_record sealed) h) f is made)

record_made : (r : RspSetup) (h : History) (tag : ℕ) (sealed : List ℕ) (d : Draw) → IsMade r h → Made r h (record_does r h tag sealed d)
record_made r h tag sealed d made = record_made_by r h tag sealed d (record_chosen r h sealed d) refl made

either : (r : RspSetup) (h : History) (b : Bool) (x y : Outcome) → Made r h x → Made r h y → Made r h (cond b x y)
either r h true x y a b = a
either r h false x y a b = b

pub does_made : (r : RspSetup) (h : History) (tag : ℕ) (body : List ℕ) (d : Draw) → IsMade r h → Made r h (responder_does r h tag body d)
does_made r h tag body d made =
    either r h (slice_index body 0 == 5) (clear_does r h tag (drop 1 body) d) (record_does r h tag (drop 1 body) d) (clear_made r h tag (drop 1 body) d made) (record_made r h tag (drop 1 body) d made)
