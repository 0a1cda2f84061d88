-- What became of a session over one entry is what the entry changes.
use Rattle.std.proofs.Common.{refl, ◌≡◌, ◌∙◌, ℕ, List, [], ◌∷◌, ◌+◌, ◌*◌, Bool, true, false, Option, Some, None, ap, cond, not, nat_le, eq-eqb}
use Rattle.std.proofs.lemmas.Bool.{false≢true}
use Rattle.std.specs.Bool.{beq}
use Rattle.std.specs.Prelude.{◌==◌, ◌&&◌, ◌||◌}
use Rattle.responder.specs.ChangeLaws.{ChangesAreCaused, exchange_change, gone, record_change, tick_change}
use Rattle.responder.specs.Changes.{change_between, is_same_id, mark_of}
use Rattle.responder.specs.declared.changes.SessionChange.TheVariants.{Established, Replaced}
use Rattle.responder_machine.proofs.Staged.{made_staged}
use Rattle.responder_machine.specs.Counts.{IsStaged}
use Rattle.responder_machine.specs.Heard.{session_id}
use Rattle.responder_machine.specs.History.{History, clear_turns, negotiation_of}
use Rattle.responder_machine.specs.History.Entry.{Clear, Dropped, Queued, Sealed, Ticked}
use Rattle.responder_machine.specs.Session.{Events, after_exchange, after_record, after_tick, gives_id, id_in_record, idle_of, is_live, is_timed, period_of, session_of, stage_of, when_live}
use Rattle.responder_machine.specs.Session.Event.{Began, Heard, Waited}
use Rattle.responder_machine.specs.Turn.{Effect, Turn, answer_in, request_in, takes, updates}
use Rattle.responder_machine.specs.Turn.Effect.{NoEffect, Took, TookData}
use Rattle.spdm_basis.specs.declared.values.session_id.SessionId.{SessionId}
use Rattle.spdm_grammar.specs.Message.{ChunkMessage}
use Rattle.spdm_grammar.specs.Message.RequestMessage.{ChunkGet, ChunkSend, EndSession, GetCapabilities, GetMeasurements, GetVersion, Heartbeat, KeyUpdate, NegotiateAlgorithms, PskExchange, PskFinish}
use Rattle.spdm_grammar.specs.declared.messages.error_code.ErrorCode.{ErrorCode}
use Rattle.spdm_grammar.specs.declared.names.request_code.TheConstants.{END_SESSION, GET_VERSION, KEY_UPDATE, PSK_EXCHANGE, PSK_FINISH}
use Rattle.spdm_grammar.specs.declared.told.phase.Stage.{Stage}
use Rattle.spdm_grammar.specs.declared.told.phase.Stage.TheVariants.{Handshake, Open, Verifying}
use Rattle.spdm_machine.specs.Sessions.{is_past_handshake}

-- ---- The same session.

same_id : (id : SessionId) → is_same_id id id ≡ true
same_id id = ap (λ (b : Bool). b && id.rsp == id.rsp) (eq-eqb id.req id.req refl) ∙ eq-eqb id.rsp id.rsp refl

unmoved : (id : SessionId) (established : Bool) → change_between (Some (record { id = id; established = established })) (Some (record { id = id; established = established })) ≡ None
unmoved id established =
    ap (λ (b : Bool). cond (not b || (established && not established)) (Some (Replaced id id)) (cond (beq established established) None (Some (Established id)))) (same_id id) ∙ go established
  where
    go : (b : Bool) → cond (false || (b && not b)) (Some (Replaced id id)) (cond (beq b b) None (Some (Established id))) ≡ None
    go true = refl
    go false = refl

now_established : (id : SessionId) → change_between (Some (record { id = id; established = false })) (Some (record { id = id; established = true })) ≡ Some (Established id)
now_established id = ap (λ (b : Bool). cond (not b || false) (Some (Replaced id id)) (Some (Established id))) (same_id id)

same_marks : (s : Events) → change_between (mark_of s) (mark_of s) ≡ None
same_marks [] = refl
same_marks (e ∷ s) = unmoved (session_id (e ∷ s)) (is_past_handshake (stage_of (e ∷ s)))

gone_is : (s : Events) → change_between (mark_of s) None ≡ gone s
gone_is [] = refl
gone_is (e ∷ s) = refl

-- ---- A record.

third_by : (message : List ℕ) (refused : Option ErrorCode) (chunk : Option ChunkMessage) (reply : List ℕ) (g : Effect)
    → (let t : Turn = record { message = message; refused = refused; chunk = chunk; effect = g; reply = reply } in updates 3 t ≡ true → takes KEY_UPDATE t ≡ true)
third_by message refused chunk reply NoEffect is = absurd (false≢true is)
third_by message refused chunk reply (Took GetVersion request answer large) is = absurd (false≢true is)
third_by message refused chunk reply (Took (GetCapabilities caps) request answer large) is = absurd (false≢true is)
third_by message refused chunk reply (Took (NegotiateAlgorithms offer) request answer large) is = absurd (false≢true is)
third_by message refused chunk reply (Took (GetMeasurements op) request answer large) is = absurd (false≢true is)
third_by message refused chunk reply (Took (PskExchange exchange) request answer large) is = absurd (false≢true is)
third_by message refused chunk reply (Took (PskFinish verify) request answer large) is = absurd (false≢true is)
third_by message refused chunk reply (Took Heartbeat request answer large) is = absurd (false≢true is)
third_by message refused chunk reply (Took (KeyUpdate op tag) request answer large) is = refl
third_by message refused chunk reply (Took EndSession request answer large) is = absurd (false≢true is)
third_by message refused chunk reply (Took (ChunkSend c) request answer large) is = absurd (false≢true is)
third_by message refused chunk reply (Took (ChunkGet handle number) request answer large) is = absurd (false≢true is)
third_by message refused chunk reply (TookData bytes answer) is = absurd (false≢true is)

third_is_update : (t : Turn) → updates 3 t ≡ true → takes KEY_UPDATE t ≡ true
third_is_update t is = third_by t.message t.refused t.chunk t.reply t.effect is

-- By the stage that a record leaves.
by_stage : (id : SessionId) (finish third update : Bool) (stage : Stage) → (finish ≡ true → stage ≡ Handshake) → (third ≡ true → is_past_handshake stage ≡ true) → (update ≡ true → is_past_handshake stage ≡ true)
    → change_between (Some (record { id = id; established = is_past_handshake stage })) (Some (record { id = id; established = is_past_handshake (cond finish Open (cond third Open (cond update Verifying stage))) }))
    ≡ cond finish (Some (Established id)) None
by_stage id true third update stage first later updated =
    ap (λ (x : Stage). change_between (Some (record { id = id; established = is_past_handshake x })) (Some (record { id = id; established = true }))) (first refl) ∙ now_established id
by_stage id false true update stage first later updated =
    ap (λ (b : Bool). change_between (Some (record { id = id; established = b })) (Some (record { id = id; established = true }))) (later refl) ∙ unmoved id true
by_stage id false false true stage first later updated =
    ap (λ (b : Bool). change_between (Some (record { id = id; established = b })) (Some (record { id = id; established = true }))) (updated refl) ∙ unmoved id true
by_stage id false false false stage first later updated = unmoved id (is_past_handshake stage)

by_record : (s : Events) (m : List ℕ) (t : Turn) (reply : List ℕ) (ends : Bool) → IsStaged (cond ends [] (when_live s (Heard m t reply)))
    → change_between (mark_of s) (mark_of (cond ends [] (when_live s (Heard m t reply)))) ≡ cond ends (gone s) (cond (is_live s && takes PSK_FINISH t) (Some (Established (session_id s))) None)
by_record [] m t reply true staged = refl
by_record [] m t reply false staged = refl
by_record (v ∷ s) m t reply true staged = refl
by_record (v ∷ s) m t reply false staged =
    by_stage (session_id (v ∷ s)) (takes PSK_FINISH t) (updates 3 t) (takes KEY_UPDATE t) (stage_of (v ∷ s)) staged.0 (λ is. staged.1 (third_is_update t is)) staged.1

by_sealed : (s : Events) (m : List ℕ) (t : Turn) (reply : List ℕ) (own : Bool) → IsStaged (cond own (after_record s m t reply) s)
    → change_between (mark_of s) (mark_of (cond own (after_record s m t reply) s)) ≡ cond own (record_change s t) None
by_sealed s m t reply true staged = by_record s m t reply (takes END_SESSION t) staged
by_sealed s m t reply false staged = same_marks s

-- ---- Seconds.

by_tick : (s : Events) (seconds : ℕ) → change_between (mark_of s) (mark_of (after_tick s seconds)) ≡ tick_change s seconds
by_tick [] seconds = refl
by_tick (v ∷ s) seconds = go (is_timed (v ∷ s)) (nat_le (2 * period_of (v ∷ s)) (idle_of (v ∷ s) + seconds))
  where
    go : (timed late : Bool) → change_between (mark_of (v ∷ s)) (mark_of (cond (not timed) (v ∷ s) (cond late [] (Waited seconds ∷ v ∷ s)))) ≡ cond (timed && late) (gone (v ∷ s)) None
    go true true = refl
    go true false = same_marks (v ∷ s)
    go false late = same_marks (v ∷ s)

-- ---- A clear message.

abbrev begun : History → Turn → Events
begun h t = Began (negotiation_of (clear_turns h)) (request_in t.effect) (answer_in t.effect) ∷ []

by_exchange : (id : ℕ) (s : Events) (t : Turn) (h : History) → change_between (mark_of s) (mark_of (after_exchange id s t (negotiation_of (clear_turns h)))) ≡ exchange_change id s t
by_exchange id s t h = go (gives_id id (answer_in t.effect)) (is_past_handshake (stage_of s))
  where
    go : (gives past : Bool) → change_between (mark_of s) (mark_of (cond gives (begun h t) (cond past s []))) ≡ cond gives (change_between (mark_of s) (mark_of (begun h t))) (cond past None (gone s))
    go true past = refl
    go false true = same_marks s
    go false false = gone_is s

by_clear : (id : ℕ) (s : Events) (t : Turn) (h : History) (version exchange : Bool)
    → change_between (mark_of s) (mark_of (cond version [] (cond exchange (after_exchange id s t (negotiation_of (clear_turns h))) s))) ≡ cond version (gone s) (cond exchange (exchange_change id s t) None)
by_clear id s t h true exchange = gone_is s
by_clear id s t h false true = by_exchange id s t h
by_clear id s t h false false = same_marks s

pub caused : ChangesAreCaused
unfolding session_of
caused r (Clear tag t d) h id made = by_clear id (session_of id h) t h (takes GET_VERSION t) (takes PSK_EXCHANGE t)
caused r (Sealed tag m t reply d) h id made = by_sealed (session_of id h) m t reply (id_in_record m == id) (made_staged r (Sealed tag m t reply d ∷ h) id made)
caused r (Queued bytes) h id made = same_marks (session_of id h)
caused r (Ticked seconds) h id made = by_tick (session_of id h) seconds
caused r (Dropped which) h id made = absurd made
