-- In a history that a responder made, PSK_FINISH takes effect in the handshake of a session, and nothing else there.
use Rattle.std.proofs.Common.{◌≡◌, ◌⊎◌, ℕ, List, [], ◌∷◌, length, drop, Bool, true, false, cond, not, Option, Some, None, is_none, ◌==◌, refl, sym, ap, ◌∙◌, subst, inl, inr, eqb-true, eq-eqb, true≢false}
use Rattle.std.specs.Prelude.{slice_index, nat_lt}
use Rattle.spdm_basis.specs.declared.causes.record_fault.RecordFault.{RecordFault}
use Rattle.spdm_grammar.specs.Message.{RequestMessage}
use Rattle.spdm_grammar.specs.Message.RequestMessage.{ChunkSend}
use Rattle.spdm_grammar.specs.declared.messages.error_code.ErrorCode.{ErrorCode}
use Rattle.spdm_grammar.specs.declared.messages.error_code.ErrorCode.TheVariants.{InvalidRequest, RequestTooLarge, UnsupportedRequest, SessionRequired, UnexpectedRequest, VersionMismatch}
use Rattle.spdm_grammar.specs.declared.told.phase.Phase.{Phase}
use Rattle.spdm_grammar.specs.declared.told.phase.Stage.{Stage}
use Rattle.spdm_grammar.specs.declared.told.phase.Stage.TheVariants as stage
use Rattle.responder_machine.specs.Answer.{Free, request_at, answer_bytes}
use Rattle.responder_machine.specs.Does.{IsMade, record_chosen}
use Rattle.responder_machine.specs.Handling.{turn_of, turn_by, chunk_in, effect_of, handle_for}
use Rattle.responder_machine.specs.History.{History, ended_of, clear_turns, phase_of}
use Rattle.responder_machine.specs.History.Entry.{Clear, Sealed, Queued, Ticked, Dropped}
use Rattle.spdm_machine.specs.Keys.{Draw}
use Rattle.responder_machine.specs.Place.{session_place, place_terms}
use Rattle.responder_machine.specs.Records.{opened, opening_fault}
use Rattle.responder_machine.specs.Refusal.{refused_form, refusal, code_of, is_known, version_for, stage_allows, has_pending}
use Rattle.spdm_basis.specs.Tests.{first_of_tests}
use Rattle.spdm_grammar.specs.Codes.{is_one_of}
use Rattle.responder_machine.specs.Responder.{Outcome, on_record, to_session, in_session, in_session_by, session_turn, session_turn_by, inner_refusal, data_turn, repeats, kept_record}
use Rattle.spdm_machine.specs.Bodies.{record_body}
use Rattle.responder_machine.specs.Responder.Outcome.{Same, Adds}
use Rattle.responder_machine.specs.Session.{Events, session_of, stage_of, id_in_record, last_of}
use Rattle.spdm_machine.specs.Sessions.{is_past_handshake}
use Rattle.responder_machine.specs.Session.Event.{Heard}
use Rattle.responder_machine.specs.Setup.{RspSetup}
use Rattle.spdm_machine.specs.Terms.{hash_len}
use Rattle.responder_machine.specs.Turn.{Turn, Effect, code_in, asked_in}
use Rattle.spdm_grammar.specs.Codes.{code_for}
use Rattle.responder_machine.specs.Turn.Effect.{NoEffect, Took, TookData}
use Rattle.spdm_agreement.proofs.Messages.RequestCodes.{code_read}
use Rattle.spdm_agreement.proofs.Responder.OpenSessions.{EndsByFinish, IsSteady}
use Rattle.spdm_grammar.specs.declared.names.request_code.TheConstants.{GET_VERSION, CHUNK_SEND, GET_CAPABILITIES, NEGOTIATE_ALGORITHMS, PSK_EXCHANGE, PSK_FINISH}
use Rattle.std.proofs.lemmas.Bool.{not-false}
use Rattle.responder_machine.proofs.Tests.{form_passed}

-- ---- What was not refused for its form.

seven : (a b c d e f g h i : Bool)
    → first_of_tests ((a, InvalidRequest) ∷ (b, RequestTooLarge) ∷ (c, UnsupportedRequest) ∷ (d, SessionRequired) ∷ (e, UnsupportedRequest) ∷ (f, UnexpectedRequest) ∷ (g, UnexpectedRequest) ∷ (h, VersionMismatch) ∷ (i, InvalidRequest) ∷ []) ≡ None
    → (e ≡ false) × (g ≡ false)
seven true b c d e f g h i n = absurd (cc)
seven false true c d e f g h i n = absurd (cc)
seven false false true d e f g h i n = absurd (cc)
seven false false false true e f g h i n = absurd (cc)
seven false false false false true f g h i n = absurd (cc)
seven false false false false false true g h i n = absurd (cc)
seven false false false false false false true h i n = absurd (cc)
seven false false false false false false false h i n = (refl, refl)

-- It is no chunk, and the stage allows its code.
pub sound_form : (r : RspSetup) (s : Events) (m : List ℕ) → refused_form r (session_place s) m ≡ None
    → ((code_of m == CHUNK_SEND) ≡ false) × (stage_allows (stage_of s) (has_pending (session_place s)) (code_of m) ≡ true)
unfolding refused_form
sound_form r s m e =
    let c = code_of m in
    let t = seven (nat_lt (length m) 4) (nat_lt r.transfer (length m)) (not (is_known c)) false (c == CHUNK_SEND) (is_one_of (GET_VERSION ∷ GET_CAPABILITIES ∷ NEGOTIATE_ALGORITHMS ∷ PSK_EXCHANGE ∷ []) c)
    (not (stage_allows (stage_of s) (has_pending (session_place s)) c)) (not (slice_index m 0 == version_for c)) (is_none (request_at (session_place s) m)) e in
    (t.0, not-false _ t.1)

-- ---- What a turn takes.

-- A turn takes nothing that counts; or a request that its message encodes, and that was not refused for its form.
abbrev Takes : RspSetup → Events → List ℕ → Effect → Type 0
Takes r s m effect =
    ((code_in effect ≡ 0) × (asked_in effect ≡ None))
    ⊎ ((v : RequestMessage) × (request_at (session_place s) m ≡ Some v) × (refused_form r (session_place s) m ≡ None) × ((code_in effect ≡ code_for v) ⊎ (code_for v ≡ CHUNK_SEND)))

takes_plain : (r : RspSetup) (s : Events) (m : List ℕ) (f : Free) (o : Option RequestMessage) → request_at (session_place s) m ≡ o → refused_form r (session_place s) m ≡ None
    → Takes r s m (effect_of o m (answer_bytes r (session_place s) m f) (handle_for (session_place s) f (answer_bytes r (session_place s) m f)))
takes_plain r s m f None is form = inl (refl, refl)
takes_plain r s m f (Some v) is form = inr (v, is, form, inl refl)

takes_by : (r : RspSetup) (s : Events) (m : List ℕ) (f : Free) (o : Option ErrorCode) (v : Option RequestMessage) → refusal r (session_place s) m f ≡ o → request_at (session_place s) m ≡ v → Takes r s m (turn_by r (session_place s) m f o (chunk_in v)).effect
takes_by r s m f (Some e) v refused is = inl (refl, refl)
takes_by r s m f None None refused is = takes_plain r s m f (request_at (session_place s) m) refl (form_passed r (session_place s) m f refused)
takes_by r s m f None (Some (ChunkSend c)) refused is = inr (ChunkSend c, is, form_passed r (session_place s) m f refused, inr refl)
takes_by r s m f None (Some v) refused is = takes_plain r s m f (request_at (session_place s) m) refl (form_passed r (session_place s) m f refused)

takes_turn : (r : RspSetup) (s : Events) (m : List ℕ) (f : Free) → Takes r s m (turn_of r (session_place s) m f).effect
unfolding turn_of
takes_turn r s m f = takes_by r s m f (refusal r (session_place s) m f) (request_at (session_place s) m) refl refl

takes_inner : (r : RspSetup) (s : Events) (inner : List ℕ) (f : Free) (b : Bool) → Takes r s (drop 1 inner) (cond b (turn_of r (session_place s) (drop 1 inner) f) (data_turn f (drop 1 inner))).effect
takes_inner r s inner f true = takes_turn r s (drop 1 inner) f
takes_inner r s inner f false = inl (refl, refl)

takes_session_by : (r : RspSetup) (s : Events) (inner : List ℕ) (f : Free) (o : Option ErrorCode) → Takes r s (drop 1 inner) (session_turn_by r s inner f o).effect
takes_session_by r s inner f (Some e) = inl (refl, refl)
takes_session_by r s inner f None = takes_inner r s inner f (slice_index inner 0 == 5)

pub takes_session : (r : RspSetup) (s : Events) (inner : List ℕ) (f : Free) → Takes r s (drop 1 inner) (session_turn r s inner f).effect
unfolding session_turn
takes_session r s inner f = takes_session_by r s inner f (inner_refusal (stage_of s) inner)

-- ---- By stages.

-- The code of a request that a turn took is allowed in the stage.
allowed : (r : RspSetup) (s : Events) (m : List ℕ) (v : RequestMessage) → request_at (session_place s) m ≡ Some v → refused_form r (session_place s) m ≡ None
    → ((code_for v == CHUNK_SEND) ≡ false) × (stage_allows (stage_of s) (has_pending (session_place s)) (code_for v) ≡ true)
allowed r s m v is form =
    let code : code_of m ≡ code_for v = sym (code_read (hash_len (place_terms (session_place s))) m v is) in
    let l = sound_form r s m form in
    (ap (λ (n : ℕ). n == CHUNK_SEND) (sym code) ∙ l.0, ap (λ (n : ℕ). stage_allows (stage_of s) (has_pending (session_place s)) n) (sym code) ∙ l.1)

no_update : (e : Effect) (operation : ℕ) (sealed : List ℕ) (t : Turn) (reply : List ℕ) (s : Events) → t.effect ≡ e → code_in e ≡ 0 → asked_in e ≡ None → stage_of (Heard sealed t reply ∷ s) ≡ stage_of s
no_update NoEffect operation sealed t reply s is c a = ap (λ (x : Effect). stage_of (Heard sealed (record t { effect = x }) reply ∷ s)) is
no_update (TookData bytes answer) operation sealed t reply s is c a = ap (λ (x : Effect). stage_of (Heard sealed (record t { effect = x }) reply ∷ s)) is
no_update (Took asked request answer large) operation sealed t reply s is c a = absurd (cc)

other_code : (n m : ℕ) → (n ≡ m → ⊥) → (n == m) ≡ false
other_code n m apart = go (n == m) refl
  where
    go : (b : Bool) → (n == m) ≡ b → (n == m) ≡ false
    go true e = absurd (apart (eqb-true n m e))
    go false e = e

not_open : (pending : Bool) (c : ℕ) → stage_allows stage.Open pending c ≡ true → (c == PSK_FINISH) ≡ false
not_open pending c e = other_code c PSK_FINISH (λ is. true≢false (sym (subst (λ (n : ℕ). stage_allows stage.Open pending n ≡ true) is e)))

not_verifying : (pending : Bool) (c : ℕ) → stage_allows stage.Verifying pending c ≡ true → (c == PSK_FINISH) ≡ false
not_verifying pending c e = other_code c PSK_FINISH (λ is. true≢false (sym (subst (λ (n : ℕ). stage_allows stage.Verifying pending n ≡ true) is e)))

no_chunk : (c : ℕ) → (c == CHUNK_SEND) ≡ false → c ≡ CHUNK_SEND → ⊥
no_chunk c e is = true≢false (sym (eq-eqb c CHUNK_SEND is) ∙ e)

pub ends : (r : RspSetup) (s : Events) (m sealed : List ℕ) (t : Turn) (reply : List ℕ) (g : Stage) → stage_of s ≡ g → Takes r s m t.effect → EndsByFinish g s sealed t reply
ends r s m sealed t reply stage.Handshake is x = λ past. elim x [
  | inl quiet ↦ absurd (true≢false (sym past ∙ ap is_past_handshake (no_update t.effect 0 sealed t reply s refl quiet.0 quiet.1 ∙ is)))
  | inr y ↦ (let a = allowed r s m y.0 y.1 y.2 in elim y.3 [
    | inl c ↦ ap (λ (n : ℕ). n == PSK_FINISH) c ∙ subst (λ (g : Stage). stage_allows g (has_pending (session_place s)) (code_for y.0) ≡ true) is a.1
    | inr c ↦ absurd (no_chunk (code_for y.0) a.0 c)
  ])
]
ends r s m sealed t reply stage.Open is x = elim x [
  | inl quiet ↦ ap (λ (n : ℕ). n == PSK_FINISH) quiet.0
  | inr y ↦ (let a = allowed r s m y.0 y.1 y.2 in elim y.3 [
    | inl c ↦ ap (λ (n : ℕ). n == PSK_FINISH) c ∙ not_open (has_pending (session_place s)) (code_for y.0) (subst (λ (g : Stage). stage_allows g (has_pending (session_place s)) (code_for y.0) ≡ true) is a.1)
    | inr c ↦ absurd (no_chunk (code_for y.0) a.0 c)
  ])
]
ends r s m sealed t reply stage.Verifying is x = elim x [
  | inl quiet ↦ ap (λ (n : ℕ). n == PSK_FINISH) quiet.0
  | inr y ↦ (let a = allowed r s m y.0 y.1 y.2 in elim y.3 [
    | inl c ↦ ap (λ (n : ℕ). n == PSK_FINISH) c ∙ not_verifying (has_pending (session_place s)) (code_for y.0) (subst (λ (g : Stage). stage_allows g (has_pending (session_place s)) (code_for y.0) ≡ true) is a.1)
    | inr c ↦ absurd (no_chunk (code_for y.0) a.0 c)
  ])
]

-- ---- The turn of an entry.

opened_turn : (r : RspSetup) (phase : Phase) (s : Events) (f : Free) (tag tag' : ℕ) (sealed m : List ℕ) (t : Turn) (reply : List ℕ) (d d' : Draw) (o : Option RecordFault) → in_session_by r phase s f tag sealed d o ≡ Adds (Sealed tag' m t reply d')
    → t ≡ session_turn r s (opened r.psk s sealed) f
opened_turn r phase s f tag tag' sealed m t reply d d' (Some fault) e = absurd (cc)
opened_turn r phase s f tag tag' sealed m t reply d d' None e = cc

session_entry : (r : RspSetup) (phase : Phase) (s : Events) (f : Free) (tag tag' : ℕ) (sealed m : List ℕ) (t : Turn) (reply : List ℕ) (d d' : Draw) → in_session r phase s f tag sealed d ≡ Adds (Sealed tag' m t reply d')
    → t ≡ session_turn r s (opened r.psk s sealed) f
unfolding in_session
session_entry r phase s f tag tag' sealed m t reply d d' e = opened_turn r phase s f tag tag' sealed m t reply d d' (opening_fault r.psk s sealed) e

repeat_or : (b : Bool) (body : List ℕ) (o : Outcome) (tag : ℕ) (m : List ℕ) (t : Turn) (reply : List ℕ) (d : Draw) → cond b (Same body) o ≡ Adds (Sealed tag m t reply d) → o ≡ Adds (Sealed tag m t reply d)
repeat_or true body o tag m t reply d e = absurd (cc)
repeat_or false body o tag m t reply d e = e

to_session_entry : (r : RspSetup) (phase : Phase) (s : Events) (f : Free) (tag tag' : ℕ) (sealed m : List ℕ) (t : Turn) (reply : List ℕ) (d d' : Draw) → to_session r phase s f tag sealed d ≡ Adds (Sealed tag' m t reply d')
    → t ≡ session_turn r s (opened r.psk s sealed) f
to_session_entry r phase [] f tag tag' sealed m t reply d d' e = absurd (cc)
to_session_entry r phase (x ∷ s) f tag tag' sealed m t reply d d' e =
    session_entry r phase (x ∷ s) f tag tag' sealed m t reply d d' (repeat_or (repeats (last_of (x ∷ s)) sealed) (record_body (kept_record (last_of (x ∷ s)))) (in_session r phase (x ∷ s) f tag sealed d) tag' m t reply d' e)

pub record_entry : (r : RspSetup) (h : History) (f : Free) (tag tag' : ℕ) (sealed m : List ℕ) (t : Turn) (reply : List ℕ) (d d' : Draw) → on_record r h tag sealed f d ≡ Adds (Sealed tag' m t reply d')
    → t ≡ session_turn r (session_of (id_in_record sealed) h) (opened r.psk (session_of (id_in_record sealed) h) sealed) f
unfolding on_record
record_entry r h f tag tag' sealed m t reply d d' e =
    to_session_entry r (phase_of (clear_turns h)) (session_of (id_in_record sealed) h) f tag tag' sealed m t reply d d'
    (repeat_or (repeats (ended_of h) sealed) (record_body (kept_record (ended_of h))) (to_session r (phase_of (clear_turns h)) (session_of (id_in_record sealed) h) f tag sealed d) tag' m t reply d' e)

-- A history that a responder made is steady.
pub made_steady : (r : RspSetup) (h : History) → IsMade r h → IsSteady h
made_steady r [] made = tt
made_steady r (Clear tag t d ∷ older) made = made_steady r older made.1
made_steady r (Sealed tag m t reply d ∷ older) made =
    let s = session_of (id_in_record m) older in
    let f = record_chosen r older m d in
    let is : t ≡ session_turn r s (opened r.psk s m) f = record_entry r older f tag tag m m t reply d d made.0 in (
      subst (λ (x : Turn). EndsByFinish (stage_of s) s m x reply) (sym is)
          (ends r s (drop 1 (opened r.psk s m)) m (session_turn r s (opened r.psk s m) f) reply (stage_of s) refl (takes_session r s (opened r.psk s m) f)),
      made_steady r older made.1,
    )
made_steady r (Queued bytes ∷ older) made = made_steady r older made.2
made_steady r (Ticked seconds ∷ older) made = made_steady r older made
made_steady r (Dropped id ∷ older) made = absurd made
