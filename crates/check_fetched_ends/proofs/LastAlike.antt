-- A connection that gave all chunks of a large response again stands for the history in which they were given one by
-- one.
use Rattle.std.proofs.Common.{◌≡◌, ◌≢◌, ◌<◌, ◌+◌, ◌==◌, ◌&&◌, ◌||◌, ◌++◌, ◌⊎◌, ◌∙◌, ℕ, zero, suc, List, [], ◌∷◌, refl, sym, ap, subst, arith, Bool, true, false, Option, Some, None, cond, eqb-true, inl, inr}
use Rattle.std.specs.Prelude.{MatchBool, not}
use Rattle.std.proofs.lemmas.Bool.{false≢true}
use Rattle.spdm_basis.proofs.Bools.{and_first}
use Rattle.chunking.specs.Cutting.{nth_chunk}
use Rattle.responder_core.specs.Connected as connected
use Rattle.responder_core.specs.declared.connected.Connection.{Connection}
use Rattle.check_fetched_laws.proofs.ClearLeft.{ended, get_others, gets_stay}
use Rattle.check_fetched_laws.proofs.ClearStands.{stands_alike}
use Rattle.check_fetched_laws.specs.ClearChunks.{get_entry, get_message, get_response}
use Rattle.check_fetched_laws.specs.ClearSessions.{AreGets, IsLeftBy, IsWithoutHandshake, is_in_handshake}
use Rattle.check_fetched_laws.specs.StandsAlike.{AreAlike}
use Rattle.check_fetched_ends.specs.GetsHeld.{AreGiven}
use Rattle.check_fetched_ends.specs.LastHeld.{gets_behind, transfer_at}
use Rattle.responder_machine.specs.History.{Entry, History, Kept, clear_turns, ended_of, kept_of, negotiation_of, queue_of}
use Rattle.responder_machine.specs.History.Entry.{Clear, Sealed, Queued, Ticked, Dropped}
use Rattle.responder_machine.specs.May.{with_dropped}
use Rattle.responder_machine.specs.Session.{Events, after_clear, gives_id, is_live, session_of, stage_of}
use Rattle.responder_machine.specs.Session.Event.{Began}
use Rattle.responder_machine.specs.Setup.{RspSetup}
use Rattle.responder_machine.specs.Turn.{Turn, answer_in, request_in, takes}
use Rattle.responder_machine.specs.Turn.Effect.{Took}
use Rattle.spdm_grammar.specs.Message.RequestMessage.{ChunkGet}
use Rattle.spdm_grammar.specs.Message.ResponseMessage.{ChunkResponse}
use Rattle.spdm_grammar.specs.Responses.{canonical_response}
use Rattle.spdm_grammar.specs.declared.names.request_code.TheConstants.{CHUNK_GET, GET_VERSION, PSK_EXCHANGE}
use Rattle.spdm_machine.specs.Sessions.{is_past_handshake}
use Rattle.transcript.specs.Transcripts.{Negotiation}
use Rattle.capture_machine.specs.LargeAnswers.{is_unseen_effect, seen, seen_turn, with_large}
use Rattle.capture_machine.specs.Rounds.{no_draw}

-- ---- The entries that ask for the first chunks.

abbrev pub gets_list : (tag transfer handle : ℕ) → (whole : List ℕ) → (count : ℕ) → List Entry
gets_list tag transfer handle whole zero = []
gets_list tag transfer handle whole (suc n) = get_entry tag handle n (canonical_response (ChunkResponse (nth_chunk transfer handle whole n))) ∷ gets_list tag transfer handle whole n

pub list_gets : (tag transfer handle : ℕ) (whole : List ℕ) (n : ℕ) → AreGets (gets_list tag transfer handle whole n)
list_gets tag transfer handle whole zero = tt
list_gets tag transfer handle whole (suc n) = (refl, list_gets tag transfer handle whole n)

module _ (tag handle transfer : ℕ) (whole : List ℕ) (h : History) (at : (n : ℕ) → transfer_at (gets_behind tag handle whole h n) whole ≡ transfer) where
  pub behind_list : (n : ℕ) → with_large None whole (gets_behind tag handle whole h n) ≡ gets_list tag transfer handle whole n ++ with_large None whole h
  behind_list zero = refl
  behind_list (suc n) =
      ap (λ (x : ℕ). get_entry tag handle n (canonical_response (ChunkResponse (nth_chunk x handle whole n))) ∷ with_large None whole (gets_behind tag handle whole h n)) (at n)
      ∙ ap (λ (l : History). get_entry tag handle n (canonical_response (ChunkResponse (nth_chunk transfer handle whole n))) ∷ l) (behind_list n)

abbrev pub get_turn : (handle number : ℕ) → (response : List ℕ) → Turn
get_turn handle number response = record {
  message = get_message handle number;
  refused = None;
  chunk = None;
  effect = Took (ChunkGet handle number) (get_message handle number) response None;
  reply = response;
}

-- Those that were given have the same turns.
pub turns_same : (tag transfer handle : ℕ) (whole : List ℕ) (es : List Entry) (n : ℕ) (g k : History) → AreGiven transfer handle whole es n → clear_turns g ≡ clear_turns k → clear_turns (gets_list tag transfer handle whole n ++ g) ≡ clear_turns (es ++ k)
turns_same tag transfer handle whole [] n g k given same = ap (λ (x : ℕ). clear_turns (gets_list tag transfer handle whole x ++ g)) given ∙ same
turns_same tag transfer handle whole (e ∷ es) n g k given same =
    let before : ℕ = given.0 in
    let one : n ≡ suc before = (let is = given.2 in omega (arith, is)) in
    ap (λ (x : ℕ). clear_turns (gets_list tag transfer handle whole x ++ g)) one
    ∙ ap (λ (l : List Turn). get_turn handle before (canonical_response (ChunkResponse (nth_chunk transfer handle whole before))) ∷ l) (turns_same tag transfer handle whole es before g k given.4 same)
    ∙ ap (λ (x : Entry). clear_turns (x ∷ es ++ k)) (sym given.3)

-- ---- CHUNK_GETs leave all but the turns and the kept message.

ended_by : {A : Type 0} (t : Turn) (rest : Option A) → takes CHUNK_GET t ≡ true → cond (takes GET_VERSION t || takes PSK_EXCHANGE t) None rest ≡ rest
ended_by t rest gets =
    let others = get_others t gets in
    ap (λ (b : Bool). cond (b || takes PSK_EXCHANGE t) None rest) others.0 ∙ ap (λ (b : Bool). cond b None rest) others.1

pub gets_ended : (gets : List Entry) (h : History) → AreGets gets → ended_of (gets ++ h) ≡ ended_of h
gets_ended [] h are = refl
gets_ended (Clear tag t d ∷ gets) h are = ended_by t (ended_of (gets ++ h)) (and_first (takes CHUNK_GET t) _ are.0) ∙ gets_ended gets h are.1
gets_ended (Sealed tag m t reply d ∷ gets) h are = absurd (false≢true are.0)
gets_ended (Queued bytes ∷ gets) h are = absurd (false≢true are.0)
gets_ended (Ticked seconds ∷ gets) h are = absurd (false≢true are.0)
gets_ended (Dropped id ∷ gets) h are = absurd (false≢true are.0)

gets_queue : (gets : List Entry) (h : History) → AreGets gets → queue_of (gets ++ h) ≡ queue_of h
gets_queue [] h are = refl
gets_queue (Clear tag t d ∷ gets) h are = gets_queue gets h are.1
gets_queue (Sealed tag m t reply d ∷ gets) h are = absurd (false≢true are.0)
gets_queue (Queued bytes ∷ gets) h are = absurd (false≢true are.0)
gets_queue (Ticked seconds ∷ gets) h are = absurd (false≢true are.0)
gets_queue (Dropped id ∷ gets) h are = absurd (false≢true are.0)

-- ---- Drops.

dropped_queue : (ids : List ℕ) (h : History) → queue_of (with_dropped h ids) ≡ queue_of h
dropped_queue [] h = refl
dropped_queue (id ∷ ids) h = dropped_queue ids (Dropped id ∷ h)

dropped_ended : (ids : List ℕ) (h : History) → ended_of (with_dropped h ids) ≡ ended_of h
dropped_ended [] h = refl
dropped_ended (id ∷ ids) h = dropped_ended ids (Dropped id ∷ h)

-- Each session is the same, or it is in its handshake in the one, and there is none in the other.
abbrev AreNear : Events → Events → Type 0
AreNear s u = (u ≡ s) ⊎ ((is_in_handshake s ≡ true) × (u ≡ []))

near_by : (b : Bool) (s u : Events) → AreNear s u → AreNear (cond b [] s) (cond b [] u)
near_by true s u near = inl refl
near_by false s u near = near

near_dropped : (ids : List ℕ) (h k : History) (id : ℕ) → AreNear (session_of id h) (session_of id k) → AreNear (session_of id (with_dropped h ids)) (session_of id (with_dropped k ids))
unfolding session_of
near_dropped [] h k id near = near
near_dropped (which ∷ ids) h k id near = near_dropped ids (Dropped which ∷ h) (Dropped which ∷ k) id (near_by (which == id) (session_of id h) (session_of id k) near)

near_without : (before left : History) (id : ℕ) → IsWithoutHandshake before left → AreNear (session_of id before) (session_of id left)
unfolding session_of
near_without before left id (inl none) = inl (ap (session_of id) none.1)
near_without before left id (inr one) = subst (λ (l : History). AreNear (session_of id before) (session_of id l)) (sym one.2) (by_id (one.0 == id) refl)
  where
    by_id : (b : Bool) → (one.0 == id) ≡ b → AreNear (session_of id before) (cond b [] (session_of id before))
    by_id false other = inl refl
    by_id true same = inr (subst (λ (n : ℕ). is_in_handshake (session_of n before) ≡ true) (eqb-true one.0 id same) one.1, refl)

-- PSK_EXCHANGE ends the handshake.
exchange_near : (id : ℕ) (t : Turn) (n : Negotiation) (s u : Events) → takes PSK_EXCHANGE t ≡ true → AreNear s u → after_clear id u t n ≡ after_clear id s t n
exchange_near id t n s u exchange (inl same) = ap (λ (x : Events). after_clear id x t n) same
exchange_near id t n s u exchange (inr gone) =
    ap (λ (x : Events). after_clear id x t n) gone.1
    ∙ ap (λ (b : Bool). at b []) exchange
    ∙ ap (λ (x : Events). cond (takes GET_VERSION t) [] (cond (gives_id id (answer_in t.effect)) new x)) (sym (ended s gone.0))
    ∙ ap (λ (b : Bool). at b s) (sym exchange)
  where
    new : Events
    new = Began n (request_in t.effect) (answer_in t.effect) ∷ []

    at : Bool → Events → Events
    at b x = cond (takes GET_VERSION t) [] (cond b (cond (gives_id id (answer_in t.effect)) new (cond (is_past_handshake (stage_of x)) x [])) x)

-- ---- Behind the request.

module _ (tag : ℕ) (t now : Turn) (before left : History) (leaves : IsLeftBy (Clear tag t no_draw) before left) (code : takes PSK_EXCHANGE now ≡ takes PSK_EXCHANGE t) (ids : List ℕ) (turns : clear_turns (with_dropped left ids) ≡ clear_turns (with_dropped before ids)) where
  abbrev gl : History
  gl = with_dropped left ids

  abbrev g : History
  g = with_dropped before ids

  session_same : (id : ℕ) → session_of id (Clear tag now no_draw ∷ gl) ≡ session_of id (Clear tag now no_draw ∷ g)
  unfolding session_of
  session_same id = ap (λ (l : List Turn). after_clear id (session_of id gl) now (negotiation_of l)) turns ∙ by_code (takes PSK_EXCHANGE t) refl leaves
    where
      by_code : (b : Bool) → takes PSK_EXCHANGE t ≡ b → MatchBool b (IsWithoutHandshake before left) (left ≡ before)
          → after_clear id (session_of id gl) now (negotiation_of (clear_turns g)) ≡ after_clear id (session_of id g) now (negotiation_of (clear_turns g))
      by_code true is without = exchange_near id now (negotiation_of (clear_turns g)) (session_of id g) (session_of id gl) (code ∙ is) (near_dropped ids before left id (near_without before left id without))
      by_code false is same = ap (λ (l : History). after_clear id (session_of id (with_dropped l ids)) now (negotiation_of (clear_turns g))) same

  ended_same : ended_of (Clear tag now no_draw ∷ gl) ≡ ended_of (Clear tag now no_draw ∷ g)
  ended_same = ap (λ o. cond (takes GET_VERSION now || takes PSK_EXCHANGE now) None o) (dropped_ended ids left ∙ by_code (takes PSK_EXCHANGE t) leaves ∙ sym (dropped_ended ids before))
    where
      by_code : (b : Bool) → MatchBool b (IsWithoutHandshake before left) (left ≡ before) → ended_of left ≡ ended_of before
      by_code true (inl none) = ap ended_of none.1
      by_code true (inr one) = ap ended_of one.2
      by_code false same = ap ended_of same

  queue_same : queue_of (Clear tag now no_draw ∷ gl) ≡ queue_of (Clear tag now no_draw ∷ g)
  queue_same = dropped_queue ids left ∙ by_code (takes PSK_EXCHANGE t) leaves ∙ sym (dropped_queue ids before)
    where
      by_code : (b : Bool) → MatchBool b (IsWithoutHandshake before left) (left ≡ before) → queue_of left ≡ queue_of before
      by_code true (inl none) = ap queue_of none.1
      by_code true (inr one) = ap queue_of one.2
      by_code false same = ap queue_of same

  -- The chunks were given, the newest under this tag.
  pub given_alike : (round transfer handle : ℕ) (whole : List ℕ) (gets : List Entry) (n : ℕ) → AreGets gets → AreGiven transfer handle whole gets n
      → AreAlike (gets_list round transfer handle whole (suc n) ++ Clear tag now no_draw ∷ with_dropped left ids) (get_entry round handle n (canonical_response (ChunkResponse (nth_chunk transfer handle whole n))) ∷ gets ++ Clear tag now no_draw ∷ with_dropped before ids)
  given_alike round transfer handle whole gets n are given =
      let newest : Entry = get_entry round handle n (canonical_response (ChunkResponse (nth_chunk transfer handle whole n))) in
      let all : List Entry = gets_list round transfer handle whole (suc n) in
      let first : AreGets all = list_gets round transfer handle whole (suc n) in
      let second : AreGets (newest ∷ gets) = (refl, are) in
      record {
        turns = ap (λ (l : List Turn). get_turn handle n (canonical_response (ChunkResponse (nth_chunk transfer handle whole n))) ∷ l) (turns_same round transfer handle whole gets n (Clear tag now no_draw ∷ gl) (Clear tag now no_draw ∷ g) given (ap (λ (l : List Turn). now ∷ l) turns));
        kept = refl;
        sessions = λ id. gets_stay all (Clear tag now no_draw ∷ gl) id first ∙ session_same id ∙ sym (gets_stay (newest ∷ gets) (Clear tag now no_draw ∷ g) id second);
        ended = gets_ended all (Clear tag now no_draw ∷ gl) first ∙ ended_same ∙ sym (gets_ended (newest ∷ gets) (Clear tag now no_draw ∷ g) second);
        queue = gets_queue all (Clear tag now no_draw ∷ gl) first ∙ queue_same ∙ sym (gets_queue (newest ∷ gets) (Clear tag now no_draw ∷ g) second);
      }
