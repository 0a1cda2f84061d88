-- An answer in the clear that goes whole, while a large response is fetched there, may be given with any bytes that
-- stand for that after it.
use Rattle.std.proofs.Common.{◌≡◌, ◌≤◌, ◌==◌, ◌&&◌, ◌||◌, ℕ, List, [], refl, sym, ap, ◌∙◌, subst, drop, take, length, Bool, true, false, Option, Some, None, cond}
use Rattle.std.specs.Prelude.{not, slice_index}
use Rattle.std.proofs.lemmas.Bool.{false≢true}
use Rattle.std.proofs.lemmas.List.{length-replicate}
use Rattle.std.proofs.lemmas.Option.{none-some}
use Rattle.negotiate.specs.declared.shared.Common.{Common}
use Rattle.responder_machine.proofs.Codes.{asked-code}
use Rattle.responder_machine.specs.Answer.{Free, answer_bytes, answer_to, request_at}
use Rattle.responder_machine.specs.Handling.{chunk_in, turn_of}
use Rattle.responder_machine.specs.History.{Entry, History, Kept, clear_turns, kept_of}
use Rattle.responder_machine.specs.History.Entry.{Clear}
use Rattle.responder_machine.specs.LargeMessages.{given_of, handle_of}
use Rattle.responder_machine.specs.May.{IsAllowed, with_dropped}
use Rattle.responder_machine.specs.Place.{Place, clear_place, place_terms, session_place}
use Rattle.responder_machine.specs.Refusal.{chunk_fault, code_of, has_pending, is_exchange_refused, is_get_refused, is_update_misplaced, is_verify_wrong, lacks_flag, phase_allows}
use Rattle.responder_machine.specs.Responder.{Outcome, is_repeat, kept_reply, on_clear, on_record}
use Rattle.responder_machine.specs.Responder.Outcome.{Same, Adds}
use Rattle.responder_machine.specs.Session.{id_in_record, session_of}
use Rattle.responder_machine.specs.Setup.{RspSetup}
use Rattle.responder_machine.specs.Turn.{Turn, takes}
use Rattle.spdm_grammar.specs.Codes.{code_for}
use Rattle.spdm_grammar.specs.Message.{RequestMessage}
use Rattle.spdm_grammar.specs.Message.RequestMessage.{GetVersion, GetCapabilities, NegotiateAlgorithms, GetMeasurements, PskExchange, PskFinish, Heartbeat, KeyUpdate, EndSession, ChunkSend, ChunkGet}
use Rattle.spdm_grammar.specs.declared.names.TheConstants.{MAX_MESSAGE_SIZE}
use Rattle.spdm_grammar.specs.declared.names.request_code.TheConstants.{CHUNK_GET, PSK_EXCHANGE}
use Rattle.spdm_grammar.specs.declared.told.phase.Phase.{Phase}
use Rattle.spdm_machine.specs.Bodies.{clear_body}
use Rattle.spdm_machine.specs.Terms.{hash_len}
use Rattle.capture_machine.proofs.ChunksGiven.{Chunked, gets_of}
use Rattle.capture_machine.proofs.FetchedAnswers.{again_none, always_none}
use Rattle.capture_machine.proofs.FetchedTells.{ReadsAlways, kept_large, repeat_same}
use Rattle.chunking.specs.Cutting.{chunk_end}
use Rattle.capture_machine.proofs.GetTells.{transfer_of}
use Rattle.capture_machine.specs.CapturedAnswers.{AreShown, MayLeadAfter, MayLeadTo, clear_answer, is_plain, record_answer}
use Rattle.capture_machine.specs.LargeAnswers.{place_named, takes_get, with_large}
use Rattle.capture_machine.specs.Rounds.{no_draw}
use Rattle.check_late_laws.proofs.ClearShort.{clear_short, least_fits, least_with}
use Rattle.check_late_laws.proofs.PlainWithin.{Moved}
use Rattle.check_late_laws.proofs.SessionMoved.{chunk_at, got_next}
use Rattle.check_late_laws.proofs.TurnsMoved.{Near}
use Rattle.check_late_laws.proofs.TurnsSame.{got_moved, turn_moved}
use Rattle.check_late_laws.proofs.WithinMoved.{pending_at}
use Rattle.check_late_laws.proofs.TurnsBeside.{Turns, chunks_beside, common_beside, given_beside, handle_beside, large_beside, phase_beside}

-- ---- What a clear message may lead to.

pub may_clear : (r : RspSetup) (g : History) (tag : ℕ) (body : List ℕ) (o : Outcome) (f : Free) → (slice_index body 0 == 5) ≡ true → IsAllowed g (clear_place g) f → length (clear_answer r (clear_place g) (drop 1 body) f) ≤ MAX_MESSAGE_SIZE → on_clear r g tag (drop 1 body) f no_draw ≡ o → MayLeadTo r g tag body o
unfolding MayLeadTo
may_clear r g tag body o f type fits few leads =
    let sealed : List ℕ = drop 1 body in
    let A : Bool → Type 0 = λ x. IsAllowed g (cond x (clear_place g) (session_place (session_of (id_in_record sealed) g))) f in
    let L : Bool → Type 0 = λ x. length (cond x (clear_answer r (clear_place g) sealed f) (record_answer r (session_of (id_in_record sealed) g) sealed f)) ≤ MAX_MESSAGE_SIZE in
    let O : Bool → Type 0 = λ x. cond x (on_clear r g tag sealed f no_draw) (on_record r g tag sealed f no_draw) ≡ o in
    (f, subst A (sym type) fits, subst L (sym type) few, subst O (sym type) leads)

-- And the values.
pub record ClearMay (r : RspSetup) (g : History) (tag : ℕ) (body : List ℕ) (o : Outcome) : Type 0 where
  pub free : Free
  pub fits : IsAllowed g (clear_place g) free
  pub few : length (clear_answer r (clear_place g) (drop 1 body) free) ≤ MAX_MESSAGE_SIZE
  pub leads : on_clear r g tag (drop 1 body) free no_draw ≡ o

pub clear_may : (r : RspSetup) (g : History) (tag : ℕ) (body : List ℕ) (o : Outcome) → (slice_index body 0 == 5) ≡ true → MayLeadTo r g tag body o → ClearMay r g tag body o
unfolding MayLeadTo
clear_may r g tag body o type may =
    let f : Free = may.0 in
    let sealed : List ℕ = drop 1 body in
    let A : Bool → Type 0 = λ x. IsAllowed g (cond x (clear_place g) (session_place (session_of (id_in_record sealed) g))) f in
    let L : Bool → Type 0 = λ x. length (cond x (clear_answer r (clear_place g) sealed f) (record_answer r (session_of (id_in_record sealed) g) sealed f)) ≤ MAX_MESSAGE_SIZE in
    let O : Bool → Type 0 = λ x. cond x (on_clear r g tag sealed f no_draw) (on_record r g tag sealed f no_draw) ≡ o in
    record { free = f; fits = subst A type may.1; few = subst L type may.2; leads = subst O type may.3 }

-- ---- A message with the code of CHUNK_GET.

pub data IsGetOnly (q : Option RequestMessage) : Type 0 where
  Unread : q ≡ None → IsGetOnly q
  Read : (a b : ℕ) → q ≡ Some (ChunkGet a b) → IsGetOnly q

other_code : (n : ℕ) (q : Option RequestMessage) → (n == CHUNK_GET) ≡ false → n ≡ CHUNK_GET → IsGetOnly q
other_code n q other is = absurd (false≢true (sym other ∙ ap (λ (k : ℕ). k == CHUNK_GET) is))

pub get_only : (q : Option RequestMessage) → ((x : RequestMessage) → q ≡ Some x → code_for x ≡ CHUNK_GET) → IsGetOnly q
get_only None code = Unread refl
get_only (Some (ChunkGet a b)) code = Read a b refl
get_only (Some GetVersion) code = other_code (code_for GetVersion) (Some GetVersion) refl (code GetVersion refl)
get_only (Some (GetCapabilities caps)) code = other_code (code_for (GetCapabilities caps)) (Some (GetCapabilities caps)) refl (code (GetCapabilities caps) refl)
get_only (Some (NegotiateAlgorithms offer)) code = other_code (code_for (NegotiateAlgorithms offer)) (Some (NegotiateAlgorithms offer)) refl (code (NegotiateAlgorithms offer) refl)
get_only (Some (GetMeasurements op)) code = other_code (code_for (GetMeasurements op)) (Some (GetMeasurements op)) refl (code (GetMeasurements op) refl)
get_only (Some (PskExchange x)) code = other_code (code_for (PskExchange x)) (Some (PskExchange x)) refl (code (PskExchange x) refl)
get_only (Some (PskFinish verify)) code = other_code (code_for (PskFinish verify)) (Some (PskFinish verify)) refl (code (PskFinish verify) refl)
get_only (Some Heartbeat) code = other_code (code_for Heartbeat) (Some Heartbeat) refl (code Heartbeat refl)
get_only (Some (KeyUpdate op tag)) code = other_code (code_for (KeyUpdate op tag)) (Some (KeyUpdate op tag)) refl (code (KeyUpdate op tag) refl)
get_only (Some EndSession) code = other_code (code_for EndSession) (Some EndSession) refl (code EndSession refl)
get_only (Some (ChunkSend c)) code = other_code (code_for (ChunkSend c)) (Some (ChunkSend c)) refl (code (ChunkSend c) refl)

module _ (r : RspSetup) (h : History) (v w : List ℕ) (tag : ℕ) (body : List ℕ) (type : (slice_index body 0 == 5) ≡ true) (turns : Turns (clear_turns (with_large (place_named body) v h)) (clear_turns (with_large (place_named body) w h))) where
  abbrev g : History
  g = with_large (place_named body) v h

  abbrev k : History
  k = with_large (place_named body) w h

  -- Some values are allowed there under which the answer is short.
  pub other_values : Free → Free
  other_values f = least_with (with_large (place_named body) w h) (clear_place (with_large (place_named body) w h)) f

  pub values_handle : (f : Free) → f.handle ≡ (other_values f).handle
  unfolding other_values
  values_handle f = refl

  other_short : (f : Free) → length (clear_answer r (clear_place g) (drop 1 body) f) ≤ MAX_MESSAGE_SIZE → length (clear_answer r (clear_place k) (drop 1 body) (other_values f)) ≤ MAX_MESSAGE_SIZE
  unfolding other_values
  other_short f few =
      clear_short r (clear_place g) (clear_place k) (chunks_beside (clear_turns g) (clear_turns k) turns) (drop 1 body) f (least_with k (clear_place k) f) (length-replicate {A = ℕ} (hash_len (place_terms (clear_place k))) 0) refl refl refl few

  pub other_may : (o : Outcome) (m : ClearMay r g tag body o) → on_clear r k tag (drop 1 body) (other_values m.free) no_draw ≡ o → MayLeadTo r k tag body o
  unfolding other_values
  other_may o m leads = may_clear r k tag body o (least_with k (clear_place k) m.free) type (least_fits g k (clear_place g) (clear_place k) m.free m.fits) (other_short m.free m.few) leads

  -- ---- A repeat.

  pub repeat_moved : (ids : List ℕ) (o : Outcome) → is_repeat (kept_of h) tag (drop 1 body) ≡ true → MayLeadAfter r g ids tag body o → AreShown r g body o ids → Moved r h w tag body ids o
  repeat_moved ids o again may shown =
      let none = again_none r h (place_named body) v ids tag body o type again may shown in
      let leads : MayLeadTo r g tag body o = subst (λ (l : List ℕ). MayLeadTo r (with_dropped g l) tag body o) none may.1 in
      let m = clear_may r g tag body o type leads in
      let kept : Outcome = Same (clear_body (kept_reply (kept_of h))) in
      let is : o ≡ kept = sym m.leads ∙ repeat_same r h (place_named body) v [] tag (drop 1 body) m.free again in
      let moved = other_may o m (repeat_same r h (place_named body) w [] tag (drop 1 body) (other_values m.free) again ∙ sym is) in
      subst (λ (l : List ℕ). Moved r h w tag body l o) (sym none) (record { may = (tt, moved); shown = tt; plain = ap (is_plain k) is })

  -- ---- CHUNK_GET.

  module _ (reads : ReadsAlways (drop 1 body)) (code : code_of (drop 1 body) ≡ CHUNK_GET) (size : (gets_of (place_named body) h ≡ 0 → ⊥) → length w ≡ length v) (one : Chunked (clear_place (with_large (place_named body) v h)) (place_named body) v h) (two : Chunked (clear_place (with_large (place_named body) w h)) (place_named body) w h) where
    abbrev m : List ℕ
    m = drop 1 body

    abbrev p : Place
    p = clear_place g

    abbrev q : Place
    q = clear_place k

    common : (place_terms p).common ≡ (place_terms q).common
    common = common_beside (clear_turns g) (clear_turns k) turns

    phase : p.phase ≡ q.phase
    phase = phase_beside (clear_turns g) (clear_turns k) turns

    pending : has_pending p ≡ has_pending q
    pending = pending_at p q (place_named body) h v w (ap (λ (c : Common). c.to_requester.transfer) common) (large_beside (clear_turns g) (clear_turns k) turns) one two size

    asked : request_at p m ≡ request_at q m
    asked = reads.reads (hash_len (place_terms p)) (hash_len (place_terms q))

    -- It is read as CHUNK_GET, or not at all.
    only : IsGetOnly (request_at p m)
    only = get_only (request_at p m) (λ x is. asked-code p m x is ∙ code)

    by_only : {A : Type 0} (F : Place → Option RequestMessage → A) → F p None ≡ F q None → ((a b : ℕ) → F p (Some (ChunkGet a b)) ≡ F q (Some (ChunkGet a b))) → F p (request_at p m) ≡ F q (request_at q m)
    by_only F none some = by_kind only
      where
        by_kind : IsGetOnly (request_at p m) → F p (request_at p m) ≡ F q (request_at q m)
        by_kind (Unread is) = ap (F p) is ∙ none ∙ sym (ap (F q) (sym asked ∙ is))
        by_kind (Read a b is) = ap (F p) is ∙ some a b ∙ sym (ap (F q) (sym asked ∙ is))

    near : Near r p q m
    near = record {
      at = refl;
      phase = phase;
      asked = asked;
      common = common;
      allowed = ap (λ (x : Phase). phase_allows x (has_pending p) (code_of m)) phase ∙ ap (λ (b : Bool). phase_allows q.phase b (code_of m)) pending;
      lacks = ap (lacks_flag (place_terms p)) code ∙ ap (λ (c : Common). (not c.chunk || false) || false) common ∙ sym (ap (lacks_flag (place_terms q)) code);
      exchange = by_only (λ x. is_exchange_refused r x) refl (λ a b. refl);
      verify = by_only (λ x. is_verify_wrong r x m) refl (λ a b. refl);
      update = by_only is_update_misplaced refl (λ a b. refl);
      fault = by_only (chunk_fault r) refl (λ a b. refl);
      get = by_only is_get_refused refl
          (λ a b. ap (λ (n : ℕ). not (a == n) || not (b == given_of (clear_turns g))) (handle_beside (clear_turns g) (clear_turns k) turns) ∙ ap (λ (n : ℕ). not (a == handle_of (clear_turns k)) || not (b == n)) (given_beside (clear_turns g) (clear_turns k) turns));
      full = ap (λ (n : ℕ). n == PSK_EXCHANGE && p.past_handshake == 4) code ∙ sym (ap (λ (n : ℕ). n == PSK_EXCHANGE && q.past_handshake == 4) code);
    }

    unread_same : (f : Free) → request_at p m ≡ None → answer_bytes r p m f ≡ answer_bytes r q m (other_values f)
    unfolding answer_bytes
    unread_same f is = ap (answer_to r p m f) is ∙ sym (ap (answer_to r q m (other_values f)) (sym asked ∙ is))

    same_handle : (f : Free) → f.handle ≡ (other_values f).handle
    unfolding other_values
    same_handle f = refl

    -- The same chunk.
    abbrev Chunks : Type 0
    Chunks = (length w ≡ length v) × (take (chunk_end (transfer_of p) (gets_of (place_named body) h)) w ≡ take (chunk_end (transfer_of p) (gets_of (place_named body) h)) v)

    turn_by_only : (f : Free) → (takes CHUNK_GET (turn_of r p m f) ≡ true → Chunks) → IsGetOnly (request_at p m) → turn_of r p m f ≡ turn_of r q m (other_values f)
    turn_by_only f chunk (Read a b is) =
        got_moved r p q m f (other_values f) near a b is refl
        (got_next r p q m f (λ takes_it handle. (let both = chunk takes_it in chunk_at p q (place_named body) h v w (ap (λ (c : Common). c.to_requester.transfer) common) (large_beside (clear_turns g) (clear_turns k) turns) (given_beside (clear_turns g) (clear_turns k) turns) one two both.0 both.1 handle)) a b is)
    turn_by_only f chunk (Unread is) =
        turn_moved r p q m f (other_values f) near (unread_same f is) (same_handle f) (λ d none sends. none-some d (sym (ap chunk_in is) ∙ sends))

    abbrev added : Free → Entry
    added f = Clear tag (turn_of r p m f) no_draw

    clear_adds : (x : List ℕ) (f : Free) → is_repeat (kept_of h) tag m ≡ false → on_clear r (with_large (place_named body) x h) tag m f no_draw ≡ Adds (Clear tag (turn_of r (clear_place (with_large (place_named body) x h)) m f) no_draw)
    unfolding on_clear
    clear_adds x f not_again =
        let e : Entry = Clear tag (turn_of r (clear_place (with_large (place_named body) x h)) m f) no_draw in
        ap (λ (o : Option Kept). cond (is_repeat o tag m) (Same (clear_body (kept_reply o))) (Adds e)) (kept_large (place_named body) x h) ∙ ap (λ (b : Bool). cond b (Same (clear_body (kept_reply (kept_of h)))) (Adds e)) not_again

    pub ask_moved : (ids : List ℕ) (o : Outcome) → ((e : Entry) → o ≡ Adds e → takes_get e ≡ true → Chunks) → (MayLeadTo r g tag body o → MayLeadTo r k tag body o → is_plain g o ≡ true → is_plain k o ≡ true) → MayLeadAfter r g ids tag body o → AreShown r g body o ids → is_plain g o ≡ true → Moved r h w tag body ids o
    ask_moved ids o chunk still may shown plain = by_repeat (is_repeat (kept_of h) tag m) refl
      where
        by_repeat : (b : Bool) → is_repeat (kept_of h) tag m ≡ b → Moved r h w tag body ids o
        by_repeat true again = repeat_moved ids o again may shown
        by_repeat false not_again =
            let none = always_none r g ids tag body o type reads may shown in
            let leads : MayLeadTo r g tag body o = subst (λ (l : List ℕ). MayLeadTo r (with_dropped g l) tag body o) none may.1 in
            let values = clear_may r g tag body o type leads in
            let is : o ≡ Adds (added values.free) = sym values.leads ∙ clear_adds v values.free not_again in
            let turn = turn_by_only values.free (λ takes_it. chunk (added values.free) is takes_it) only in
            let moved = other_may o values (clear_adds w (other_values values.free) not_again ∙ ap (λ (t : Turn). Adds (Clear tag t no_draw)) (sym turn) ∙ sym is) in
            subst (λ (l : List ℕ). Moved r h w tag body l o) (sym none) (record { may = (tt, moved); shown = tt; plain = still leads moved plain })
