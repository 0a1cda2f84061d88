-- A connection keeps the same of the history with the request of a late fetch at its place as of that with it in front, but
-- for the last record of the ended session.
use Rattle.std.proofs.Common.{◌≡◌, ◌+◌, ◌==◌, ◌||◌, ◌++◌, ◌∙◌, ℕ, zero, suc, List, [], ◌∷◌, refl, sym, ap, subst, arith, drop, Bool, true, false, Option, Some, None, is_some, unwrap_or, cond, inl, inr, eqb-true}
use Rattle.std.specs.Prelude.{not}
use Rattle.std.proofs.lemmas.Bool.{false≢true}
use Rattle.spdm_basis.proofs.Bools.{and_first, and_second}
use Rattle.check_late_laws.proofs.Late.BehindClear.{IsFreeCode, behind_same, code_with, phase_drops, phase_free, terms_drops, terms_free}
use Rattle.check_late_laws.proofs.Late.BehindSessions.{all_are_past, dropped_session, exchange_left, untouched_list}
use Rattle.check_late_laws.specs.Late.Passed.{AreBehind, StandsBack, touched}
use Rattle.check_late_laws.specs.Late.PassedLast.{IsFree, in_front, touched_by}
use Rattle.check_late_laws.specs.Late.PassedStands.{AreNear, EndedStays, FrontIsNear, NearGoesOn, NearIsKept}
use Rattle.responder_machine.proofs.Entries.{session_of-Clear, session_of-Sealed, session_of-no_effect}
use Rattle.responder_machine.proofs.GivenIds.{given_is, gives_some}
use Rattle.responder_machine.proofs.NoSession.{no_session}
use Rattle.responder_machine.specs.History.{Entry, History, Kept, KeptRecord, clear_turns, ended_of, kept_of, negotiation_of, phase_of, queue_of}
use Rattle.responder_machine.specs.History.Entry.{Clear, Sealed, Queued, Ticked, Dropped}
use Rattle.responder_machine.specs.LargeMessages.{chunks_of, chunks_with, given_of, handle_of, large_of, larges_of}
use Rattle.responder_machine.specs.May.{with_dropped}
use Rattle.responder_machine.specs.Responder.Outcome.{Adds}
use Rattle.responder_machine.specs.Session.{Events, after_clear, after_record, gives_id, id_in_record, is_live, session_of, stage_of}
use Rattle.responder_machine.specs.Session.Event.{Began}
use Rattle.responder_machine.specs.Setup.{RspSetup}
use Rattle.responder_machine.specs.Turn.{Effect, Turn, answer_in, code_in, handle_in, is_data, is_taken, large_in, request_in, takes}
use Rattle.responder_machine.specs.Turn.Effect.{NoEffect, Took, TookData}
use Rattle.spdm_grammar.specs.Message.{ChunkMessage}
use Rattle.spdm_grammar.specs.declared.names.request_code.TheConstants.{CHUNK_GET, END_SESSION, GET_CAPABILITIES, GET_VERSION, NEGOTIATE_ALGORITHMS, PSK_EXCHANGE}
use Rattle.spdm_grammar.specs.declared.told.phase.Phase.{Phase}
use Rattle.spdm_grammar.specs.declared.told.phase.Phase.TheVariants.{Versioned, Capable, Negotiated}
use Rattle.spdm_machine.specs.Keys.{Draw}
use Rattle.spdm_machine.specs.Sessions.{id_in_exchange, is_past_handshake}
use Rattle.spdm_machine.specs.Terms.{no_negotiation}
use Rattle.transcript.specs.Transcripts.{Negotiation}
use Rattle.capture_machine.proofs.DropsTell.{turns_stay}
use Rattle.capture_machine.specs.CapturedAnswers.{AreShown, request_in as request_of}
use Rattle.capture_machine.specs.LargeAnswers.{handle_shown, id_begun, is_unseen_effect, seen_turn}

-- ---- What came behind leads on from equal things to equal things.

sessions_on : (es : List Entry) (x y : History) (id : ℕ) → AreBehind es → session_of id x ≡ session_of id y → session_of id (es ++ x) ≡ session_of id (es ++ y)
sessions_on [] x y id are same = same
sessions_on (Clear tag t d ∷ es) x y id are same =
    session_of-no_effect id tag t d (es ++ x) are.0.1 ∙ sessions_on es x y id are.1 same ∙ sym (session_of-no_effect id tag t d (es ++ y) are.0.1)
sessions_on (Sealed tag m t reply d ∷ es) x y id are same =
    session_of-Sealed id tag m t reply d (es ++ x) ∙ ap (λ (s : Events). cond (id_in_record m == id) (after_record s m t reply) s) (sessions_on es x y id are.1 same)
    ∙ sym (session_of-Sealed id tag m t reply d (es ++ y))
sessions_on (Queued bytes ∷ es) x y id are same = absurd are.0
sessions_on (Ticked seconds ∷ es) x y id are same = absurd are.0
sessions_on (Dropped which ∷ es) x y id are same =
    dropped_session which id (es ++ x) ∙ ap (λ (s : Events). cond (which == id) [] s) (sessions_on es x y id are.1 same) ∙ sym (dropped_session which id (es ++ y))

queue_on : (es : List Entry) (x y : History) → AreBehind es → queue_of x ≡ queue_of y → queue_of (es ++ x) ≡ queue_of (es ++ y)
queue_on [] x y are same = same
queue_on (Clear tag t d ∷ es) x y are same = queue_on es x y are.1 same
queue_on (Sealed tag m t reply d ∷ es) x y are same = ap (λ (q : List (List ℕ)). cond (is_data t.effect) (drop 1 q) q) (queue_on es x y are.1 same)
queue_on (Queued bytes ∷ es) x y are same = absurd are.0
queue_on (Ticked seconds ∷ es) x y are same = absurd are.0
queue_on (Dropped which ∷ es) x y are same = queue_on es x y are.1 same

ended_on : (es : List Entry) (x y : History) → AreBehind es → ended_of x ≡ ended_of y → ended_of (es ++ x) ≡ ended_of (es ++ y)
ended_on [] x y are same = same
ended_on (Clear tag t d ∷ es) x y are same = ap (λ (o : Option KeptRecord). cond (takes GET_VERSION t || takes PSK_EXCHANGE t) None o) (ended_on es x y are.1 same)
ended_on (Sealed tag m t reply d ∷ es) x y are same = ap (λ (o : Option KeptRecord). cond (takes END_SESSION t) (Some (record { sealed = m; reply = reply })) o) (ended_on es x y are.1 same)
ended_on (Queued bytes ∷ es) x y are same = absurd are.0
ended_on (Ticked seconds ∷ es) x y are same = absurd are.0
ended_on (Dropped which ∷ es) x y are same = ended_on es x y are.1 same

touched_on : (es : List Entry) (x y : History) (id : ℕ) → AreBehind es → touched id x ≡ touched id y → touched id (es ++ x) ≡ touched id (es ++ y)
touched_on [] x y id are same = same
touched_on (Clear tag t d ∷ es) x y id are same = ap (λ (b : Bool). cond (is_taken t) false b) (touched_on es x y id are.1 same)
touched_on (Sealed tag m t reply d ∷ es) x y id are same = ap (λ (b : Bool). id_in_record m == id || b) (touched_on es x y id are.1 same)
touched_on (Queued bytes ∷ es) x y id are same = absurd are.0
touched_on (Ticked seconds ∷ es) x y id are same = absurd are.0
touched_on (Dropped which ∷ es) x y id are same = ap (λ (b : Bool). which == id || b) (touched_on es x y id are.1 same)

-- ---- Drops.

dropped_queue : (ids : List ℕ) (h : History) → queue_of (with_dropped h ids) ≡ queue_of h
dropped_queue [] h = refl
dropped_queue (id ∷ ids) h = dropped_queue ids (Dropped id ∷ h)

dropped_ended : (ids : List ℕ) (h : History) → ended_of (with_dropped h ids) ≡ ended_of h
dropped_ended [] h = refl
dropped_ended (id ∷ ids) h = dropped_ended ids (Dropped id ∷ h)

-- ---- One message in the clear.

stays : (id tag : ℕ) (t : Turn) (d : Draw) (h : History) → takes GET_VERSION t ≡ false → takes PSK_EXCHANGE t ≡ false → session_of id (Clear tag t d ∷ h) ≡ session_of id h
stays id tag t d h version exchange =
    let s : Events = session_of id h in
    let new : Events = Began (negotiation_of (clear_turns h)) (request_in t.effect) (answer_in t.effect) ∷ [] in
    let begun : Events = cond (gives_id id (answer_in t.effect)) new (cond (is_past_handshake (stage_of s)) s []) in
    session_of-Clear id tag t d h ∙ ap (λ (b : Bool). cond b [] (cond (takes PSK_EXCHANGE t) begun s)) version ∙ ap (λ (b : Bool). cond b begun s) exchange

-- PSK_EXCHANGE, by whether its answer gives this id.
exchanged : (id tag : ℕ) (t : Turn) (d : Draw) (h : History) → takes PSK_EXCHANGE t ≡ true
    → session_of id (Clear tag t d ∷ h)
    ≡ cond (gives_id id (answer_in t.effect)) (Began (negotiation_of (clear_turns h)) (request_in t.effect) (answer_in t.effect) ∷ []) (cond (is_past_handshake (stage_of (session_of id h))) (session_of id h) [])
exchanged id tag t d h exchange =
    let s : Events = session_of id h in
    let new : Events = Began (negotiation_of (clear_turns h)) (request_in t.effect) (answer_in t.effect) ∷ [] in
    let begun : Events = cond (gives_id id (answer_in t.effect)) new (cond (is_past_handshake (stage_of s)) s []) in
    let version : takes GET_VERSION t ≡ false = ap (λ (n : ℕ). n == GET_VERSION) (eqb-true (code_in t.effect) PSK_EXCHANGE exchange) in
    session_of-Clear id tag t d h ∙ ap (λ (b : Bool). cond b [] (cond (takes PSK_EXCHANGE t) begun s)) version ∙ ap (λ (b : Bool). cond b begun s) exchange

settled : (s : Events) → (is_live s ≡ true → is_past_handshake (stage_of s) ≡ true) → cond (is_past_handshake (stage_of s)) s [] ≡ s
settled [] past = refl
settled (x ∷ xs) past = ap (λ (b : Bool). cond b (x ∷ xs) []) (past refl)

unseen_handle : (e : Effect) → is_unseen_effect e ≡ true → handle_in e ≡ None
unseen_handle NoEffect is = refl
unseen_handle (Took a m [] None) is = refl
unseen_handle (Took a m [] (Some handle)) is = absurd (false≢true is)
unseen_handle (Took a m (b ∷ l) large) is = absurd (false≢true is)
unseen_handle (TookData bytes answer) is = refl

-- ---- The clear part.

handle_idle : (u : Turn) (ts : List Turn) → is_taken u ≡ false → u.effect ≡ NoEffect → handle_of (u ∷ ts) ≡ handle_of ts
handle_idle u ts not_taken none = ap (λ (e : Effect). unwrap_or (handle_in e) (handle_of ts)) none

larges_idle : (u : Turn) (ts : List Turn) → is_taken u ≡ false → u.effect ≡ NoEffect → larges_of (u ∷ ts) ≡ larges_of ts
larges_idle u ts not_taken none = ap (λ (e : Effect). cond (is_some (handle_in e)) (larges_of ts + 1) (larges_of ts)) none

-- For each of these the newest turn alone counts, where it is one that was taken and is no CHUNK_GET.
large_idle : (u : Turn) (ts : List Turn) → is_taken u ≡ false → u.effect ≡ NoEffect → large_of (u ∷ ts) ≡ large_of ts
large_idle u ts not_taken none = ap (λ (b : Bool). cond (not b || takes CHUNK_GET u) (large_of ts) (large_in u.effect)) not_taken

given_idle : (u : Turn) (ts : List Turn) → is_taken u ≡ false → u.effect ≡ NoEffect → given_of (u ∷ ts) ≡ given_of ts
given_idle u ts not_taken none = ap (λ (b : Bool). cond (not b) (given_of ts) (cond (takes CHUNK_GET u) (given_of ts + 1) 0)) not_taken

chunks_idle : (u : Turn) (ts : List Turn) → is_taken u ≡ false → u.effect ≡ NoEffect → chunks_of (u ∷ ts) ≡ chunks_of ts
chunks_idle u ts not_taken none = ap (λ (b : Bool). cond b (chunks_with u.chunk (chunks_of ts)) (chunks_of ts)) not_taken

module _ (u : Turn) (taken : is_taken u ≡ true) (get : takes CHUNK_GET u ≡ false) (whole : u.chunk ≡ None) where
  large_now : (ts : List Turn) → large_of (u ∷ ts) ≡ large_in u.effect
  large_now ts =
      ap (λ (b : Bool). cond (not b || takes CHUNK_GET u) (large_of ts) (large_in u.effect)) taken ∙ ap (λ (b : Bool). cond b (large_of ts) (large_in u.effect)) get

  given_now : (ts : List Turn) → given_of (u ∷ ts) ≡ 0
  given_now ts =
      ap (λ (b : Bool). cond (not b) (given_of ts) (cond (takes CHUNK_GET u) (given_of ts + 1) 0)) taken ∙ ap (λ (b : Bool). cond b (given_of ts + 1) 0) get

  chunks_now : (ts : List Turn) → chunks_of (u ∷ ts) ≡ []
  chunks_now ts =
      ap (λ (b : Bool). cond b (chunks_with u.chunk (chunks_of ts)) (chunks_of ts)) taken ∙ ap (λ (o : Option ChunkMessage). chunks_with o (chunks_of ts)) whole

-- ---- The request at its place, and in front.

module _ (r : RspSetup) (h : History) (s : StandsBack h) (whole dropped : List ℕ) (other : ℕ) (free : IsFree s.turn) (none : touched_by (id_begun (in_front h s other whole)) h ≡ false)
    (shown : AreShown r h (request_of (in_front h s other whole)) (Adds (in_front h s other whole)) dropped) where
  abbrev now : Turn
  now = seen_turn whole s.turn

  abbrev front : Entry
  front = in_front h s other whole

  abbrev back : Entry
  back = in_front h s s.tag whole

  abbrev asked : Entry
  asked = Clear s.tag s.turn s.draw

  abbrev g : History
  g = with_dropped h dropped

  abbrev k : History
  k = with_dropped s.before dropped

  code : code_in now.effect ≡ code_in s.turn.effect
  code = code_with whole (Some (handle_shown s.turn)) s.turn.effect

  free_now : IsFreeCode (code_in now.effect)
  free_now = subst IsFreeCode (sym code) free.code

  get : takes CHUNK_GET now ≡ false
  get = elim free_now [
    | inl is ↦ ap (λ (n : ℕ). n == CHUNK_GET) is
    | inr is ↦ ap (λ (n : ℕ). n == CHUNK_GET) is
  ]

  -- What depends on the clear part alone.
  by_turns : {A : Type 0} (F : List Turn → A) → ((u : Turn) (ts : List Turn) → is_taken u ≡ false → u.effect ≡ NoEffect → F (u ∷ ts) ≡ F ts) → F (now ∷ clear_turns g) ≡ F (now ∷ clear_turns k)
      → F (clear_turns (front ∷ g)) ≡ F (clear_turns (s.behind ++ back ∷ k))
  by_turns F idle same = same ∙ sym (behind_same F idle s.behind (back ∷ k) s.are)

  phase_idle : (u : Turn) (ts : List Turn) → is_taken u ≡ false → u.effect ≡ NoEffect → phase_of (u ∷ ts) ≡ phase_of ts
  phase_idle u ts not_taken none_took =
      ap (λ (e : Effect). cond (code_in e == GET_VERSION) Versioned (cond (code_in e == GET_CAPABILITIES) Capable (cond (code_in e == NEGOTIATE_ALGORITHMS) Negotiated (phase_of ts)))) none_took

  terms_idle : (u : Turn) (ts : List Turn) → is_taken u ≡ false → u.effect ≡ NoEffect → negotiation_of (u ∷ ts) ≡ negotiation_of ts
  terms_idle u ts not_taken none_took =
      ap (λ (n : ℕ). cond (n == GET_VERSION) (record no_negotiation { get_version = request_in u.effect; version = answer_in u.effect })
      (cond (n == GET_CAPABILITIES) (record (negotiation_of ts) { get_capabilities = request_in u.effect; capabilities = answer_in u.effect })
      (cond (n == NEGOTIATE_ALGORITHMS) (record (negotiation_of ts) { negotiate_algorithms = request_in u.effect; algorithms = answer_in u.effect }) (negotiation_of ts)))) (ap code_in none_took)

  agreed : negotiation_of (clear_turns g) ≡ negotiation_of (clear_turns k)
  agreed = terms_drops h s free.code dropped

  handles : handle_of (clear_turns g) ≡ handle_of (clear_turns k)
  handles =
      ap handle_of (turns_stay dropped h) ∙ ap (λ (l : History). handle_of (clear_turns l)) s.is ∙ behind_same handle_of handle_idle s.behind (asked ∷ s.before) s.are
      ∙ ap (λ (o : Option ℕ). unwrap_or o (handle_of (clear_turns s.before))) (unseen_handle s.turn.effect s.passed.unseen) ∙ sym (ap handle_of (turns_stay dropped s.before))

  counts : larges_of (clear_turns g) ≡ larges_of (clear_turns k)
  counts =
      ap larges_of (turns_stay dropped h) ∙ ap (λ (l : History). larges_of (clear_turns l)) s.is ∙ behind_same larges_of larges_idle s.behind (asked ∷ s.before) s.are
      ∙ ap (λ (o : Option ℕ). cond (is_some o) (larges_of (clear_turns s.before) + 1) (larges_of (clear_turns s.before))) (unseen_handle s.turn.effect s.passed.unseen)
      ∙ sym (ap larges_of (turns_stay dropped s.before))

  queues : queue_of (front ∷ g) ≡ queue_of (s.behind ++ back ∷ k)
  queues = dropped_queue dropped h ∙ ap queue_of s.is ∙ sym (queue_on s.behind (back ∷ k) (asked ∷ s.before) s.are (dropped_queue dropped s.before))

  -- ---- The sessions, where measurements are asked for.

  module _ (version : takes GET_VERSION now ≡ false) (no_exchange : takes PSK_EXCHANGE now ≡ false) where
    none_dropped : (ids : List ℕ) → AreShown r h (request_of front) (Adds front) ids → ids ≡ []
    none_dropped [] is = refl
    none_dropped (i ∷ []) is = absurd (false≢true (sym no_exchange ∙ and_first (takes PSK_EXCHANGE now) _ is))
    none_dropped (i ∷ j ∷ ids) is = absurd is

    measured : (id : ℕ) → session_of id (front ∷ g) ≡ session_of id (s.behind ++ back ∷ k)
    measured id =
        let empty = none_dropped dropped shown in
        let was : takes GET_VERSION s.turn ≡ false = ap (λ (n : ℕ). n == GET_VERSION) (sym code) ∙ version in
        let not_it : takes PSK_EXCHANGE s.turn ≡ false = ap (λ (n : ℕ). n == PSK_EXCHANGE) (sym code) ∙ no_exchange in
        stays id other now s.draw g version no_exchange ∙ ap (λ (l : List ℕ). session_of id (with_dropped h l)) empty ∙ ap (session_of id) s.is
        ∙ sym (sessions_on s.behind (back ∷ k) (asked ∷ s.before) id s.are (
        stays id s.tag now s.draw k version no_exchange ∙ ap (λ (l : List ℕ). session_of id (with_dropped s.before l)) empty ∙ sym (stays id s.tag s.turn s.draw s.before was not_it)))

  -- ---- Where a session is.

  module _ (psk : takes PSK_EXCHANGE now ≡ true) where
    was_psk : takes PSK_EXCHANGE s.turn ≡ true
    was_psk = ap (λ (n : ℕ). n == PSK_EXCHANGE) (sym code) ∙ psk

    abbrev new : ℕ
    new = id_in_exchange (answer_in now.effect)

    untouched_new : touched new h ≡ false
    untouched_new = sym (ap (λ (b : Bool). touched_by (cond b (Some new) None) h) psk) ∙ none

    -- Another session than that which begins is not dropped.
    other_stays : (ids : List ℕ) (x : History) (id : ℕ) → AreShown r h (request_of front) (Adds front) ids → (new == id) ≡ false → session_of id (with_dropped x ids) ≡ session_of id x
    other_stays [] x id is apart = refl
    other_stays (i ∷ []) x id is apart =
        let same : new ≡ i = eqb-true new i (and_second (takes PSK_EXCHANGE now) (new == i) is) in
        dropped_session i id x ∙ ap (λ (b : Bool). cond b [] (session_of id x)) (ap (λ (n : ℕ). n == id) (sym same) ∙ apart)
    other_stays (i ∷ j ∷ ids) x id is apart = absurd is

    given : (id : ℕ) → gives_id id (answer_in now.effect) ≡ true → session_of id (front ∷ g) ≡ session_of id (s.behind ++ back ∷ k)
    given id gives =
        let is : new ≡ id = given_is id (answer_in now.effect) gives in
        let fresh : Events → Events → Bool → Events = λ a b c. cond c a b in
        let there : touched id (s.behind ++ back ∷ k) ≡ false =
        touched_on s.behind (back ∷ k) (asked ∷ s.before) id s.are (
        ap (λ (b : Bool). cond b false (touched id k)) s.passed.taken ∙ sym (ap (λ (b : Bool). cond b false (touched id s.before)) s.passed.taken))
        ∙ ap (touched id) (sym s.is) ∙ subst (λ (n : ℕ). touched n h ≡ false) is untouched_new in
        exchanged id other now s.draw g psk
        ∙ ap (λ (b : Bool). cond b (Began (negotiation_of (clear_turns g)) (request_in now.effect) (answer_in now.effect) ∷ []) (cond (is_past_handshake (stage_of (session_of id g))) (session_of id g) [])) gives
        ∙ ap (λ (n : Negotiation). Began n (request_in now.effect) (answer_in now.effect) ∷ []) agreed
        ∙ sym (ap (λ (b : Bool). cond b (Began (negotiation_of (clear_turns k)) (request_in now.effect) (answer_in now.effect) ∷ []) (cond (is_past_handshake (stage_of (session_of id k))) (session_of id k) [])) gives)
        ∙ sym (exchanged id s.tag now s.draw k psk) ∙ sym (untouched_list s.behind (back ∷ k) id s.are there)

    kept : (id : ℕ) → (new == id) ≡ false → gives_id id (answer_in now.effect) ≡ false → session_of id (front ∷ g) ≡ session_of id (s.behind ++ back ∷ k)
    kept id apart gives =
        let now_h : session_of id g ≡ session_of id h = other_stays dropped h id shown apart in
        let now_k : session_of id k ≡ session_of id s.before = other_stays dropped s.before id shown apart in
        exchanged id other now s.draw g psk
        ∙ ap (λ (b : Bool). cond b (Began (negotiation_of (clear_turns g)) (request_in now.effect) (answer_in now.effect) ∷ []) (cond (is_past_handshake (stage_of (session_of id g))) (session_of id g) [])) gives
        ∙ ap (λ (x : Events). cond (is_past_handshake (stage_of x)) x []) now_h ∙ settled (session_of id h) (all_are_past h s id was_psk) ∙ ap (session_of id) s.is
        ∙ sym (sessions_on s.behind (back ∷ k) (asked ∷ s.before) id s.are (
        exchanged id s.tag now s.draw k psk
        ∙ ap (λ (b : Bool). cond b (Began (negotiation_of (clear_turns k)) (request_in now.effect) (answer_in now.effect) ∷ []) (cond (is_past_handshake (stage_of (session_of id k))) (session_of id k) [])) gives
        ∙ ap (λ (x : Events). cond (is_past_handshake (stage_of x)) x []) now_k ∙ sym (exchange_left id s.tag s.turn s.draw s.before s.passed.unseen was_psk)))

    apart_by : (n : ℕ) (b : Bool) → (new == suc n) ≡ b → gives_id (suc n) (answer_in now.effect) ≡ false → (new == suc n) ≡ false
    apart_by n false is gives = is
    apart_by n true is gives = absurd (false≢true (sym gives ∙ gives_some (suc n) (answer_in now.effect) (eqb-true new (suc n) is) (omega arith)))

    by_given : (n : ℕ) (b : Bool) → gives_id (suc n) (answer_in now.effect) ≡ b → session_of (suc n) (front ∷ g) ≡ session_of (suc n) (s.behind ++ back ∷ k)
    by_given n true gives = given (suc n) gives
    by_given n false gives = kept (suc n) (apart_by n (new == suc n) refl gives) gives

    begun : (id : ℕ) → session_of id (front ∷ g) ≡ session_of id (s.behind ++ back ∷ k)
    begun zero = no_session (front ∷ g) ∙ sym (no_session (s.behind ++ back ∷ k))
    begun (suc n) = by_given n (gives_id (suc n) (answer_in now.effect)) refl

  sessions : (id : ℕ) → session_of id (front ∷ g) ≡ session_of id (s.behind ++ back ∷ k)
  sessions id = elim free_now [
    | inl is ↦ measured (ap (λ (n : ℕ). n == GET_VERSION) is) (ap (λ (n : ℕ). n == PSK_EXCHANGE) is) id
    | inr is ↦ begun (ap (λ (n : ℕ). n == PSK_EXCHANGE) is) id
  ]

  pub near : AreNear (in_front h s other whole ∷ with_dropped h dropped) (s.behind ++ in_front h s s.tag whole ∷ with_dropped s.before dropped)
  near = record {
    phase = by_turns phase_of phase_idle (phase_free now (clear_turns g) free_now ∙ phase_drops h s free.code dropped ∙ sym (phase_free now (clear_turns k) free_now));
    negotiation = by_turns negotiation_of terms_idle (terms_free now (clear_turns g) free_now ∙ agreed ∙ sym (terms_free now (clear_turns k) free_now));
    large = by_turns large_of large_idle (large_now now s.passed.taken get free.whole (clear_turns g) ∙ sym (large_now now s.passed.taken get free.whole (clear_turns k)));
    given = by_turns given_of given_idle (given_now now s.passed.taken get free.whole (clear_turns g) ∙ sym (given_now now s.passed.taken get free.whole (clear_turns k)));
    handle = by_turns handle_of handle_idle (ap (unwrap_or (handle_in now.effect)) handles);
    larges = by_turns larges_of larges_idle (ap (λ (n : ℕ). cond (is_some (handle_in now.effect)) (n + 1) n) counts);
    chunks = by_turns chunks_of chunks_idle (chunks_now now s.passed.taken get free.whole (clear_turns g) ∙ sym (chunks_now now s.passed.taken get free.whole (clear_turns k)));
    sessions = sessions;
    queue = queues;
  }

pub front_is_near : FrontIsNear
front_is_near r h s whole dropped other free none shown = near r h s whole dropped other free none shown

-- ---- A further message.

pub near_goes_on : NearGoesOn
near_goes_on h g tag other t d near = record {
  phase = ap (λ (x : Phase). cond (takes GET_VERSION t) Versioned (cond (takes GET_CAPABILITIES t) Capable (cond (takes NEGOTIATE_ALGORITHMS t) Negotiated x))) near.phase;
  negotiation =
      ap (λ (n : Negotiation). cond (takes GET_VERSION t) (record no_negotiation { get_version = request_in t.effect; version = answer_in t.effect })
      (cond (takes GET_CAPABILITIES t) (record n { get_capabilities = request_in t.effect; capabilities = answer_in t.effect })
      (cond (takes NEGOTIATE_ALGORITHMS t) (record n { negotiate_algorithms = request_in t.effect; algorithms = answer_in t.effect }) n))) near.negotiation;
  large = ap (λ (o : Option (List ℕ)). cond (not (is_taken t) || takes CHUNK_GET t) o (large_in t.effect)) near.large;
  given = ap (λ (n : ℕ). cond (not (is_taken t)) n (cond (takes CHUNK_GET t) (n + 1) 0)) near.given;
  handle = ap (unwrap_or (handle_in t.effect)) near.handle;
  larges = ap (λ (n : ℕ). cond (is_some (handle_in t.effect)) (n + 1) n) near.larges;
  chunks = ap (λ (l : List ChunkMessage). cond (is_taken t) (chunks_with t.chunk l) l) near.chunks;
  sessions = λ id.
      session_of-Clear id tag t d h ∙ ap (λ (x : Events). after_clear id x t (negotiation_of (clear_turns h))) (near.sessions id)
      ∙ ap (λ (n : Negotiation). after_clear id (session_of id g) t n) near.negotiation ∙ sym (session_of-Clear id other t d g);
  queue = near.queue;
}

pub near_is_kept : NearIsKept
near_is_kept h g tag t d taken =
    let mine : Option Kept = Some (record { tag = tag; message = t.message; reply = t.reply }) in
    ap (λ (b : Bool). cond b mine (kept_of h)) taken ∙ sym (ap (λ (b : Bool). cond b mine (kept_of g)) taken)

-- ---- The last record of the ended session.

pub ended_stays : EndedStays
ended_stays h s whole dropped =
    let now : Turn = seen_turn whole s.turn in
    let code : code_in now.effect ≡ code_in s.turn.effect = code_with whole (Some (handle_shown s.turn)) s.turn.effect in
    ended_on s.behind (in_front h s s.tag whole ∷ with_dropped s.before dropped) (Clear s.tag s.turn s.draw ∷ s.before) s.are (
    ap (λ (n : ℕ). cond (n == GET_VERSION || n == PSK_EXCHANGE) None (ended_of (with_dropped s.before dropped))) code
    ∙ ap (λ (o : Option KeptRecord). cond (takes GET_VERSION s.turn || takes PSK_EXCHANGE s.turn) None o) (dropped_ended dropped s.before))
    ∙ ap ended_of (sym s.is)
