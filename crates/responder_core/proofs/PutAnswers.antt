-- A connection in which the pending answer of a session gets other bytes, or was never seen: what of its history stays.
use Rattle.std.proofs.Common.{refl, ◌∙◌, ◌≡◌, ◌≢◌, ◌++◌, ◌*◌, ◌+◌, ℕ, List, [], ◌∷◌, drop, true, false, Bool, Option, Some, None, ap, sym, subst, eqb-true}
use Rattle.std.proofs.lemmas.Bool.{false≢true}
use Rattle.std.specs.Prelude.{◌==◌, ◌&&◌, ◌||◌, not, nat_le, slice_index, if◌then◌else◌}
use Rattle.responder_core.proofs.Recorded.{standing_with}
use Rattle.responder_core.specs.Coming as coming
use Rattle.responder_core.specs.Connected as connected
use Rattle.responder_core.specs.LiveSession.{IsSlotOf}
use Rattle.responder_core.specs.LiveSession as live
use Rattle.responder_core.specs.Pending.{history_changed, passes}
use Rattle.responder_core.specs.Sessions.{StandsFor, slot_of}
use Rattle.responder_core.specs.declared.connected.Connection.{Connection}
use Rattle.responder_core.specs.declared.in_sessions.live_session.LiveSession.{LiveSession}
use Rattle.responder_core.specs.declared.in_sessions.sessions.Sessions.{Sessions}
use Rattle.responder_rules.proofs.Replaced.{takes_unseen, takes_with}
use Rattle.responder_rules.specs.LargeAnswer.{effect_unseen, effect_with, last_takes, turn_unseen, turn_with}
use Rattle.responder_machine.specs.History.{History, Kept, KeptRecord, clear_turns, ended_of, kept_of, negotiation_of, queue_of}
use Rattle.responder_machine.specs.History.Entry.{Clear, Dropped, Queued, Sealed, Ticked}
use Rattle.responder_machine.specs.Session.{Event, Events, after_clear, after_record, after_tick, id_in_record, idle_of, is_live, is_timed, period_of, session_of, stage_of, turns_of, when_live, gives_id}
use Rattle.responder_machine.specs.Session.Event.{Began, Heard, Waited}
use Rattle.responder_machine.specs.Setup.{RspSetup}
use Rattle.responder_machine.specs.SizeLaws.{HasSizes}
use Rattle.responder_machine.specs.Turn.{Effect, Turn, is_data, is_taken, request_in, answer_in, takes}
use Rattle.responder_machine.specs.Turn.Effect.{NoEffect, Took, TookData}
use Rattle.responder_session.proofs.Pendings.{events_alike, forgotten_alike}
use Rattle.responder_session.specs.Pending.{IsAlike, events_changed}
use Rattle.responder_session.specs.Session as sessions
use Rattle.spdm_grammar.specs.declared.names.request_code.TheConstants.{END_SESSION, GET_MEASUREMENTS, GET_VERSION, PSK_EXCHANGE}
use Rattle.spdm_machine.specs.Keys.{Draw}
use Rattle.spdm_machine.specs.Sessions.{id_in_exchange, is_past_handshake}
use Rattle.spdm_machine.specs.Terms.{terms_of}
use Rattle.transcript.specs.Transcripts.{Negotiation}

-- MEASUREMENTS answer the last record of a session that was taken and is no CHUNK_GET.
abbrev Measures : Events → Type 0
Measures s = last_takes GET_MEASUREMENTS (turns_of s) ≡ true

-- ---- The session of an id, by the newest entry.

pub sealed_session : (id tag : ℕ) (m : List ℕ) (t : Turn) (reply : List ℕ) (d : Draw) (older : History) → session_of id (Sealed tag m t reply d ∷ older) ≡ (if id_in_record m == id then after_record (session_of id older) m t reply else session_of id older)
unfolding session_of
sealed_session id tag m t reply d older = refl

pub clear_session : (id tag : ℕ) (t : Turn) (d : Draw) (older : History) → session_of id (Clear tag t d ∷ older) ≡ after_clear id (session_of id older) t (negotiation_of (clear_turns older))
unfolding session_of
clear_session id tag t d older = refl

none_yet : (id : ℕ) → session_of id [] ≡ []
unfolding session_of
none_yet id = refl

not_own : (id i : ℕ) (n : ℕ) → i ≢ id → (n == id) ≡ true → (n == i) ≡ false
not_own id i n other is = by_test (n == i) refl
  where
    by_test : (b : Bool) → (n == i) ≡ b → b ≡ false
    by_test true same = absurd (other (sym (eqb-true n i same) ∙ eqb-true n id is))
    by_test false same = refl

measures_none : {A : Type 0} → Measures [] → A
measures_none is = absurd (false≢true is)

live_more : (s : Events) (e : Event) → is_live s ≡ true → when_live s e ≡ e ∷ s
live_more [] e live = absurd (false≢true live)
live_more (x ∷ s) e live = refl

record_live : (m : List ℕ) (t : Turn) (reply : List ℕ) (s : Events) → Measures (when_live s (Heard m t reply)) → is_live s ≡ true
record_live m t reply [] measures = measures_none measures
record_live m t reply (x ∷ s) measures = refl

-- A turn that changes only in its answer, and in how that goes; sessions in which MEASUREMENTS change so are alike.
pub record Keeps (change : Turn → Turn) : Type 0 where
  pub takes : (t : Turn) (code : ℕ) → takes code (change t) ≡ takes code t
  pub carries : (t : Turn) → is_data (change t).effect ≡ is_data t.effect
  pub alike : (s : Events) → last_takes GET_MEASUREMENTS (turns_of s) ≡ true → IsAlike s (events_changed change s)

module _ (change : Turn → Turn) (keeps : Keeps change) where
  -- ---- What does not hang on the bytes.

  -- One record, with its bytes or without them, after the same.
  module _ (tag : ℕ) (m : List ℕ) (t : Turn) (reply : List ℕ) (d : Draw) (same older : History) where
    abbrev one : Bool → History
    one b = if b then Sealed tag m (change t) reply d ∷ older else Sealed tag m t reply d ∷ same

    clear_by : (b : Bool) → clear_turns same ≡ clear_turns older → clear_turns (one b) ≡ clear_turns older
    clear_by true is = refl
    clear_by false is = is

    kept_by : (b : Bool) → kept_of same ≡ kept_of older → kept_of (one b) ≡ kept_of older
    kept_by true is = refl
    kept_by false is = is

    ended_by : (b : Bool) → ended_of same ≡ ended_of older → ended_of (one b) ≡ ended_of (Sealed tag m t reply d ∷ older)
    ended_by true is = ap (λ (x : Bool). if x then Some (record { sealed = m; reply = reply }) else ended_of older) (keeps.takes t END_SESSION)
    ended_by false is = ap (λ (x : Option KeptRecord). if takes END_SESSION t then Some (record { sealed = m; reply = reply }) else x) is

    queue_by : (b : Bool) → queue_of same ≡ queue_of older → queue_of (one b) ≡ queue_of (Sealed tag m t reply d ∷ older)
    queue_by true is = ap (λ (x : Bool). if x then drop 1 (queue_of older) else queue_of older) (keeps.carries t)
    queue_by false is = ap (λ (x : List (List ℕ)). if is_data t.effect then drop 1 x else x) is

  pub clear_same : (id : ℕ) (h : History) → clear_turns (history_changed change id h) ≡ clear_turns h
  clear_same id [] = refl
  clear_same id (Clear tag t d ∷ older) = ap (λ (ts : List Turn). t ∷ ts) (clear_same id older)
  clear_same id (Sealed tag m t reply d ∷ older) = clear_by tag m t reply d (history_changed change id older) older (id_in_record m == id && not (passes t)) (clear_same id older)
  clear_same id (Queued bytes ∷ older) = clear_same id older
  clear_same id (Ticked seconds ∷ older) = clear_same id older
  clear_same id (Dropped which ∷ older) = clear_same id older

  pub kept_same : (id : ℕ) (h : History) → kept_of (history_changed change id h) ≡ kept_of h
  kept_same id [] = refl
  kept_same id (Clear tag t d ∷ older) = ap (λ (k : Option Kept). if is_taken t then Some (record { tag = tag; message = t.message; reply = t.reply }) else k) (kept_same id older)
  kept_same id (Sealed tag m t reply d ∷ older) = kept_by tag m t reply d (history_changed change id older) older (id_in_record m == id && not (passes t)) (kept_same id older)
  kept_same id (Queued bytes ∷ older) = kept_same id older
  kept_same id (Ticked seconds ∷ older) = kept_same id older
  kept_same id (Dropped which ∷ older) = kept_same id older

  pub ended_same : (id : ℕ) (h : History) → ended_of (history_changed change id h) ≡ ended_of h
  ended_same id [] = refl
  ended_same id (Clear tag t d ∷ older) = ap (λ (k : Option KeptRecord). if takes GET_VERSION t || takes PSK_EXCHANGE t then None else k) (ended_same id older)
  ended_same id (Sealed tag m t reply d ∷ older) = ended_by tag m t reply d (history_changed change id older) older (id_in_record m == id && not (passes t)) (ended_same id older)
  ended_same id (Queued bytes ∷ older) = ended_same id older
  ended_same id (Ticked seconds ∷ older) = ended_same id older
  ended_same id (Dropped which ∷ older) = ended_same id older

  pub queue_same : (id : ℕ) (h : History) → queue_of (history_changed change id h) ≡ queue_of h
  queue_same id [] = refl
  queue_same id (Clear tag t d ∷ older) = queue_same id older
  queue_same id (Sealed tag m t reply d ∷ older) = queue_by tag m t reply d (history_changed change id older) older (id_in_record m == id && not (passes t)) (queue_same id older)
  queue_same id (Queued bytes ∷ older) = ap (λ (x : List (List ℕ)). x ++ bytes ∷ []) (queue_same id older)
  queue_same id (Ticked seconds ∷ older) = queue_same id older
  queue_same id (Dropped which ∷ older) = queue_same id older

  -- ---- The other sessions.

  module _ (id i : ℕ) (other : i ≢ id) where
    apart_by : (tag : ℕ) (m : List ℕ) (t : Turn) (reply : List ℕ) (d : Draw) (older : History) (own : Bool) (passing : Bool) → (id_in_record m == id) ≡ own → session_of i (history_changed change id older) ≡ session_of i older
        → session_of i (if own && not passing then Sealed tag m (change t) reply d ∷ older else Sealed tag m t reply d ∷ history_changed change id older) ≡ session_of i (Sealed tag m t reply d ∷ older)
    apart_by tag m t reply d older true true is same =
        sealed_session i tag m t reply d (history_changed change id older) ∙ ap (λ (s : Events). if id_in_record m == i then after_record s m t reply else s) same ∙ sym (sealed_session i tag m t reply d older)
    apart_by tag m t reply d older true false is same =
        let no = not_own id i (id_in_record m) other is in
        sealed_session i tag m (change t) reply d older ∙ ap (λ (b : Bool). if b then after_record (session_of i older) m (change t) reply else session_of i older) no
        ∙ sym (ap (λ (b : Bool). if b then after_record (session_of i older) m t reply else session_of i older) no) ∙ sym (sealed_session i tag m t reply d older)
    apart_by tag m t reply d older false passing is same =
        sealed_session i tag m t reply d (history_changed change id older) ∙ ap (λ (s : Events). if id_in_record m == i then after_record s m t reply else s) same ∙ sym (sealed_session i tag m t reply d older)

    pub others_same : (h : History) → session_of i (history_changed change id h) ≡ session_of i h
    unfolding session_of
    others_same [] = refl
    others_same (Clear tag t d ∷ older) = λ j. after_clear i (others_same older j) t (negotiation_of (clear_same id older j))
    others_same (Sealed tag m t reply d ∷ older) = apart_by tag m t reply d older (id_in_record m == id) (passes t) refl (others_same older)
    others_same (Queued bytes ∷ older) = others_same older
    others_same (Ticked seconds ∷ older) = ap (λ (s : Events). after_tick s seconds) (others_same older)
    others_same (Dropped which ∷ older) = ap (λ (s : Events). if which == i then [] else s) (others_same older)

  -- ---- The session.

  module _ (s e : Events) (same : Measures s → e ≡ events_changed change s) where
    alike : Measures s → IsAlike s e
    alike measures = subst (IsAlike s) (sym (same measures)) (keeps.alike s measures)

    -- A record that leaves it as pending as it was.
    passing_same : (m : List ℕ) (t : Turn) (reply : List ℕ) (b : Bool) → passes t ≡ true → Measures (if b then [] else when_live s (Heard m t reply))
        → (if b then [] else when_live e (Heard m t reply)) ≡ events_changed change (if b then [] else when_live s (Heard m t reply))
    passing_same m t reply true passing measures = measures_none measures
    passing_same m t reply false passing measures =
        let live = record_live m t reply s measures in
        let more = live_more s (Heard m t reply) live in
        let before : Measures s = ap (λ (b : Bool). if b then last_takes GET_MEASUREMENTS (turns_of s) else takes GET_MEASUREMENTS t) (sym passing) ∙ subst Measures more measures in
        live_more e (Heard m t reply) (sym (alike before).live ∙ live) ∙ ap (λ (x : Events). Heard m t reply ∷ x) (same before)
        ∙ ap (λ (b : Bool). if b then Heard m t reply ∷ events_changed change s else Heard m (change t) reply ∷ s) (sym passing)
        ∙ ap (events_changed change) (sym more)

    -- The record whose answer gets the bytes.
    reached_same : (m : List ℕ) (t : Turn) (reply : List ℕ) (b : Bool) → takes END_SESSION t ≡ b → passes t ≡ false → Measures (if b then [] else when_live s (Heard m t reply))
        → after_record s m (change t) reply ≡ events_changed change (if b then [] else when_live s (Heard m t reply))
    reached_same m t reply true ends passing measures = measures_none measures
    reached_same m t reply false ends passing measures =
        let live = record_live m t reply s measures in
        ap (λ (b : Bool). if b then [] else when_live s (Heard m (change t) reply)) (keeps.takes t END_SESSION ∙ ends)
        ∙ live_more s (Heard m (change t) reply) live
        ∙ ap (λ (b : Bool). if b then Heard m t reply ∷ events_changed change s else Heard m (change t) reply ∷ s) (sym passing)
        ∙ ap (events_changed change) (sym (live_more s (Heard m t reply) live))

    -- PSK_EXCHANGE of another session ends it in its handshake.
    past_same : (b : Bool) → is_past_handshake (stage_of s) ≡ b → Measures (if b then s else []) → (if is_past_handshake (stage_of e) then e else []) ≡ events_changed change (if b then s else [])
    past_same true is measures = ap (λ (b : Bool). if b then e else []) (ap is_past_handshake (sym (alike measures).stage) ∙ is) ∙ same measures
    past_same false is measures = measures_none measures

    cleared_same : (began : Events) (g p i : Bool) → Measures (if g then [] else (if p then (if i then began else (if is_past_handshake (stage_of s) then s else [])) else s)) → (Measures began → ⊥)
        → (if g then [] else (if p then (if i then began else (if is_past_handshake (stage_of e) then e else [])) else e))
        ≡ events_changed change (if g then [] else (if p then (if i then began else (if is_past_handshake (stage_of s) then s else [])) else s))
    cleared_same began true p i measures none = measures_none measures
    cleared_same began false true true measures none = absurd (none measures)
    cleared_same began false true false measures none = past_same (is_past_handshake (stage_of s)) refl measures
    cleared_same began false false i measures none = same measures

    -- Seconds pass.
    timed_same : Measures s → is_timed e ≡ is_timed s
    timed_same measures = (let a = alike measures in sym (λ j. is_past_handshake (a.stage j) && not (slice_index (a.answer j) 2 == 0)))

    waits_same : (seconds : ℕ) → Measures s → nat_le (2 * period_of e) (idle_of e + seconds) ≡ nat_le (2 * period_of s) (idle_of s + seconds)
    waits_same seconds measures = (let a = alike measures in sym (λ j. nat_le (2 * slice_index (a.answer j) 2) (a.idle j + seconds)))

    ticked_same : (seconds : ℕ) (b c : Bool) → not (is_timed s) ≡ b → nat_le (2 * period_of s) (idle_of s + seconds) ≡ c → Measures (if b then s else (if c then [] else Waited seconds ∷ s))
        → after_tick e seconds ≡ events_changed change (if b then s else (if c then [] else Waited seconds ∷ s))
    ticked_same seconds true c timed late measures =
        ap (λ (x : Bool). if not x then e else (if nat_le (2 * period_of e) (idle_of e + seconds) then [] else Waited seconds ∷ e)) (timed_same measures)
        ∙ ap (λ (x : Bool). if x then e else (if nat_le (2 * period_of e) (idle_of e + seconds) then [] else Waited seconds ∷ e)) timed ∙ same measures
    ticked_same seconds false true timed late measures = measures_none measures
    ticked_same seconds false false timed late measures =
        ap (λ (x : Bool). if not x then e else (if nat_le (2 * period_of e) (idle_of e + seconds) then [] else Waited seconds ∷ e)) (timed_same measures)
        ∙ ap (λ (x : Bool). if x then e else (if nat_le (2 * period_of e) (idle_of e + seconds) then [] else Waited seconds ∷ e)) timed
        ∙ ap (λ (x : Bool). if x then [] else Waited seconds ∷ e) (waits_same seconds measures ∙ late) ∙ ap (λ (x : Events). Waited seconds ∷ x) (same measures)

    -- It was dropped, or another one was.
    dropped_same : (b : Bool) → Measures (if b then [] else s) → (if b then [] else e) ≡ events_changed change (if b then [] else s)
    dropped_same true measures = measures_none measures
    dropped_same false measures = same measures

  module _ (id : ℕ) where
    sealed_same : (tag : ℕ) (m : List ℕ) (t : Turn) (reply : List ℕ) (d : Draw) (older : History) (own passing : Bool) → (id_in_record m == id) ≡ own → passes t ≡ passing
        → (Measures (session_of id older) → session_of id (history_changed change id older) ≡ events_changed change (session_of id older))
        → Measures (if own then after_record (session_of id older) m t reply else session_of id older)
        → session_of id (if own && not passing then Sealed tag m (change t) reply d ∷ older else Sealed tag m t reply d ∷ history_changed change id older)
        ≡ events_changed change (if own then after_record (session_of id older) m t reply else session_of id older)
    sealed_same tag m t reply d older true true is passing same measures =
        sealed_session id tag m t reply d (history_changed change id older)
        ∙ ap (λ (b : Bool). if b then after_record (session_of id (history_changed change id older)) m t reply else session_of id (history_changed change id older)) is
        ∙ passing_same (session_of id older) (session_of id (history_changed change id older)) same m t reply (takes END_SESSION t) passing measures
    sealed_same tag m t reply d older true false is passing same measures =
        sealed_session id tag m (change t) reply d older
        ∙ ap (λ (b : Bool). if b then after_record (session_of id older) m (change t) reply else session_of id older) is
        ∙ reached_same (session_of id older) (session_of id (history_changed change id older)) same m t reply (takes END_SESSION t) refl passing measures
    sealed_same tag m t reply d older false passing is pass same measures =
        sealed_session id tag m t reply d (history_changed change id older)
        ∙ ap (λ (b : Bool). if b then after_record (session_of id (history_changed change id older)) m t reply else session_of id (history_changed change id older)) is
        ∙ same measures

    pub own_same : (h : History) → Measures (session_of id h) → session_of id (history_changed change id h) ≡ events_changed change (session_of id h)
    unfolding session_of
    own_same [] measures = measures_none measures
    own_same (Clear tag t d ∷ older) measures =
        let n = negotiation_of (clear_turns older) in
        let s = session_of id older in
        let e = session_of id (history_changed change id older) in
        ap (after_clear id e t) (ap negotiation_of (clear_same id older))
        ∙ cleared_same s e (own_same older) (Began n (request_in t.effect) (answer_in t.effect) ∷ []) (takes GET_VERSION t) (takes PSK_EXCHANGE t) (gives_id id (answer_in t.effect)) measures false≢true
    own_same (Sealed tag m t reply d ∷ older) measures = sealed_same tag m t reply d older (id_in_record m == id) (passes t) refl refl (own_same older) measures
    own_same (Queued bytes ∷ older) measures = own_same older measures
    own_same (Ticked seconds ∷ older) measures =
        let s = session_of id older in
        ticked_same s (session_of id (history_changed change id older)) (own_same older) seconds (not (is_timed s)) (nat_le (2 * period_of s) (idle_of s + seconds)) refl refl measures
    own_same (Dropped which ∷ older) measures = dropped_same (session_of id older) (session_of id (history_changed change id older)) (own_same older) (which == id) measures

  -- ---- What is kept.

  pub live_changes : (r : RspSetup) (s : Events) (old new : LiveSession) → last_takes GET_MEASUREMENTS (turns_of s) ≡ true → live.StandsFor old r s → sessions.StandsFor new.session r.psk (events_changed change s)
      → new.idle ≡ old.idle → new.period ≡ old.period → live.StandsFor new r (events_changed change s)
  live_changes r s old new measures x session idle period =
      let a = keeps.alike s measures in
      record {
        session = session;
        idle = idle ∙ x.idle ∙ a.idle;
        period = period ∙ x.period ∙ ap (λ (m : List ℕ). slice_index m 2) a.answer;
        sizes = subst (λ (n : Negotiation). HasSizes r (terms_of n).common) a.negotiation x.sizes;
      }

  pub sessions_change : (r : RspSetup) (h : History) (id : ℕ) (old new : Sessions) → Measures (session_of id h) → StandsFor old r h → IsSlotOf (slot_of new id) r (events_changed change (session_of id h))
      → ((i : ℕ) → i ≢ id → slot_of new i ≡ slot_of old i) → new.ended ≡ old.ended → StandsFor new r (history_changed change id h)
  sessions_change r h id old new measures x own others ended =
      standing_with new r (history_changed change id h) id
      (subst (IsSlotOf (slot_of new id) r) (sym (own_same id h measures)) own)
      (λ i other. subst (IsSlotOf (slot_of new i) r) (sym (others_same id i other h)) (subst (λ (y : Option LiveSession). IsSlotOf y r (session_of i h)) (sym (others i other)) (x.slots i)))
      (ended ∙ x.ended ∙ sym (ended_same id h))

  pub connection_changes : (r : RspSetup) (h : History) (id : ℕ) (old : Connection) (now : Sessions) → connected.StandsFor old r h → StandsFor now r (history_changed change id h)
      → connected.StandsFor (record old { sessions = now }) r (history_changed change id h)
  connection_changes r h id old now x sessions = record {
    clear = record {
      requests = subst (coming.StandsFor old.clear.requests r) (sym (clear_same id h)) x.clear.requests;
      kept = x.clear.kept ∙ sym (kept_same id h);
    };
    sessions = sessions;
    queue = x.queue ∙ sym (queue_same id h);
    sizes = subst (connected.HasSizesAt r) (sym (clear_same id h)) x.sizes;
  }

-- ---- The two changes.

data_with : (answer : List ℕ) (e : Effect) → is_data (effect_with answer e) ≡ is_data e
data_with answer NoEffect = refl
data_with answer (Took asked request old large) = refl
data_with answer (TookData bytes old) = refl

data_unseen : (e : Effect) → is_data (effect_unseen e) ≡ is_data e
data_unseen NoEffect = refl
data_unseen (Took asked request answer large) = refl
data_unseen (TookData bytes answer) = refl

-- It gets other bytes.
pub gets_bytes : (answer : List ℕ) → Keeps (turn_with answer)
gets_bytes answer = record { takes = takes_with answer; carries = λ t. data_with answer t.effect; alike = events_alike answer }

-- It was never seen.
pub was_unseen : Keeps turn_unseen
was_unseen = record { takes = takes_unseen; carries = λ t. data_unseen t.effect; alike = forgotten_alike }
