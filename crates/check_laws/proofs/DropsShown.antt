-- An answer shows which session was dropped before its request.
use Rattle.std.proofs.Common.{◌≡◌, ◌==◌, ◌&&◌, ℕ, List, [], ◌∷◌, refl, sym, ap, ◌∙◌, subst, drop, Bool, true, false, Option, Some, None, is_some, cond, inl, inr, eqb-true, eq-eqb}
use Rattle.std.proofs.Math.Bool.{and-false}
use Rattle.std.proofs.lemmas.Bool.{false≢true, not-true}
use Rattle.std.proofs.lemmas.Option.{none-some, same_Some}
use Rattle.chunking.specs.Collecting.{joined_with, under_way}
use Rattle.responder_machine.specs.Answer.{Free, answer_bytes, answer_of, answer_to, request_at}
use Rattle.responder_machine.specs.Handling.{carried_turn, chunk_in, effect_of, goes_large, large_response, last_chunk_turn, request_effect, request_reply, taken_chunk, turn_by, turn_of}
use Rattle.responder_machine.specs.History.{History, kept_of}
use Rattle.responder_machine.specs.History.Entry.{Clear}
use Rattle.responder_machine.specs.LargeMessages.{chunks_of}
use Rattle.responder_machine.specs.May.{IsAllowed, MayDrop, with_dropped}
use Rattle.responder_machine.specs.Place.{Place, clear_place, inside, is_held}
use Rattle.responder_machine.specs.Refusal.{refusal}
use Rattle.responder_machine.specs.Responder.{Outcome, body_of, is_repeat, kept_reply, on_clear, on_record}
use Rattle.responder_machine.specs.Responder.Outcome.{Same, Unopened, Adds}
use Rattle.responder_machine.specs.Session.{id_in_record, is_live, is_timed, session_of}
use Rattle.responder_machine.specs.Setup.{RspSetup}
use Rattle.responder_machine.specs.Turn.Effect.{NoEffect, Took}
use Rattle.responder_machine.specs.Turn.{Effect, Turn, answer_in, code_in, handle_in, takes}
use Rattle.spdm_basis.proofs.Bools.{and_first, and_second}
use Rattle.spdm_grammar.specs.Message.{ChunkMessage, RequestMessage}
use Rattle.spdm_grammar.specs.Message.RequestMessage.{GetVersion, GetCapabilities, NegotiateAlgorithms, GetMeasurements, PskExchange, PskFinish, Heartbeat, KeyUpdate, EndSession, ChunkSend, ChunkGet}
use Rattle.spdm_grammar.specs.Responses.{canonical_response}
use Rattle.spdm_grammar.specs.declared.messages.error_code.ErrorCode.{ErrorCode}
use Rattle.spdm_grammar.specs.declared.names.request_code.TheConstants.{PSK_EXCHANGE}
use Rattle.spdm_machine.specs.Bodies.{clear_body}
use Rattle.spdm_machine.specs.Sessions.{id_in_exchange}
use Rattle.check_laws.specs.DropsShown.{clear_drops, dropped_for, id_begun, may_be_dropped, record_drops, response_of}
use Rattle.capture_machine.proofs.DropsTell.{RecordForm, fresh_id, held_before, kept_same, record_form, record_shown}
use Rattle.capture_machine.proofs.TurnsAlike.{is_request}
use Rattle.capture_machine.specs.CapturedAnswers.{AreShown, belongs_to, is_plain, shows}
use Rattle.capture_machine.specs.Rounds.{no_draw}

-- ---- The id that a reply shows.

-- An answer that did not go by LargeResponse is not long enough for it.
whole_by : (o : Option RequestMessage) (asked : RequestMessage) (text answer : List ℕ) (b : Bool) (n : ℕ) → o ≡ Some asked → is_some (handle_in (effect_of o text answer (cond b (Some n) None))) ≡ false → b ≡ false
whole_by o asked text answer b n is small = by_size b (subst (λ (x : Option RequestMessage). is_some (handle_in (effect_of x text answer (cond b (Some n) None))) ≡ false) is small)
  where
    by_size : (c : Bool) → is_some (handle_in (effect_of (Some asked) text answer (cond c (Some n) None))) ≡ false → c ≡ false
    by_size true small = absurd (false≢true (sym small))
    by_size false small = refl

goes_whole : (r : RspSetup) (p : Place) (m : List ℕ) (f : Free) (asked : RequestMessage) → request_at p m ≡ Some asked
    → is_some (handle_in (effect_of (request_at p m) m (answer_bytes r p m f) (cond (goes_large p (answer_bytes r p m f)) (Some f.handle) None))) ≡ false → goes_large p (answer_bytes r p m f) ≡ false
goes_whole r p m f asked is small = whole_by (request_at p m) asked m (answer_bytes r p m f) (goes_large p (answer_bytes r p m f)) f.handle is small

-- What took effect begins the session of this id.
abbrev begun_by : Effect → Option ℕ
begun_by effect = cond (code_in effect == PSK_EXCHANGE) (Some (id_in_exchange (answer_in effect))) None

response_begins : (r : RspSetup) (p : Place) (m : List ℕ) (f : Free) (asked : RequestMessage) → let answer = canonical_response (answer_of r p m f asked) in
    (id_begun answer ≡ begun_by (Took asked m answer None)) × (id_begun (response_of answer) ≡ begun_by (Took asked m answer None))
response_begins r p m f GetVersion = (refl, refl)
response_begins r p m f (GetCapabilities caps) = (refl, refl)
response_begins r p m f (NegotiateAlgorithms offer) = (refl, refl)
response_begins r p m f (GetMeasurements op) = (refl, refl)
response_begins r p m f (PskExchange x) = (refl, refl)
response_begins r p m f (PskFinish verify) = (refl, refl)
response_begins r p m f Heartbeat = (refl, refl)
response_begins r p m f (KeyUpdate op tag) = (refl, refl)
response_begins r p m f EndSession = (refl, refl)
response_begins r p m f (ChunkSend chunk) = (refl, refl)
response_begins r p m f (ChunkGet handle number) = (refl, refl)

-- An answer that goes whole.
reply_begins : (r : RspSetup) (p : Place) (m : List ℕ) (f : Free) → refusal r p m f ≡ None → is_some (handle_in (request_effect r p m f)) ≡ false
    → (id_begun (request_reply r p m f) ≡ begun_by (request_effect r p m f)) × (id_begun (response_of (request_reply r p m f)) ≡ begun_by (request_effect r p m f))
unfolding answer_bytes
reply_begins r p m f none small =
    let one = is_request r p m f none in
    let asked : RequestMessage = one.0 in
    let whole = goes_whole r p m f asked one.1 small in
    let text : List ℕ = canonical_response (answer_of r p m f asked) in
    let bytes : answer_bytes r p m f ≡ text = ap (answer_to r p m f) one.1 in
    let reply : request_reply r p m f ≡ text = ap (λ (b : Bool). cond b (large_response f.handle) (answer_bytes r p m f)) whole ∙ bytes in
    let effect : request_effect r p m f ≡ Took asked m text None =
    ap (λ (b : Bool). effect_of (request_at p m) m (answer_bytes r p m f) (cond b (Some f.handle) None)) whole
    ∙ ap (λ (l : List ℕ). effect_of (request_at p m) m l None) bytes ∙ ap (λ (o : Option RequestMessage). effect_of o m text None) one.1 in
    let known = response_begins r p m f asked in
    (ap id_begun reply ∙ known.0 ∙ sym (ap begun_by effect), ap (λ (l : List ℕ). id_begun (response_of l)) reply ∙ known.1 ∙ sym (ap begun_by effect))

-- The reply to a message shows the id of the session that its turn begins.
abbrev pub Begins : Turn → Type 0
Begins t = id_begun (response_of t.reply) ≡ begun_by t.effect

module _ (r : RspSetup) (p : Place) (m : List ℕ) (f : Free) where
  carried_begins : (c : ChunkMessage) (whole : List ℕ) (o : Option ErrorCode) → refusal r (inside p) whole f ≡ o → is_some (handle_in (carried_turn r (inside p) m f c whole o).effect) ≡ false → Begins (carried_turn r (inside p) m f c whole o)
  carried_begins c whole (Some e) is small = refl
  carried_begins c whole None is small = (reply_begins r (inside p) whole f is small).0

  chunk_begins : (c : ChunkMessage) (whole : List ℕ) (b : Bool) → is_some (handle_in (cond b (last_chunk_turn r (inside p) m f c whole) (taken_chunk m c NoEffect [])).effect) ≡ false
      → Begins (cond b (last_chunk_turn r (inside p) m f c whole) (taken_chunk m c NoEffect []))
  chunk_begins c whole true small = carried_begins c whole (refusal r (inside p) whole f) refl small
  chunk_begins c whole false small = refl

  by_begins : (o : Option ErrorCode) (c : Option ChunkMessage) → refusal r p m f ≡ o → is_some (handle_in (turn_by r p m f o c).effect) ≡ false → Begins (turn_by r p m f o c)
  by_begins (Some e) c is small = refl
  by_begins None None is small = (reply_begins r p m f is small).1
  by_begins None (Some c) is small = chunk_begins c (joined_with (under_way (chunks_of p.turns)) c) c.last small

  pub turn_begins : is_some (handle_in (turn_of r p m f).effect) ≡ false → Begins (turn_of r p m f)
  unfolding turn_of
  turn_begins small = by_begins (refusal r p m f) (chunk_in (request_at p m)) refl small

-- What it shows it begins.
shown_begins : (effect : Effect) (id : ℕ) → begun_by effect ≡ Some id → ((code_in effect == PSK_EXCHANGE) ≡ true) × (id_in_exchange (answer_in effect) ≡ id)
shown_begins effect id = by_code (code_in effect == PSK_EXCHANGE)
  where
    by_code : (b : Bool) → cond b (Some (id_in_exchange (answer_in effect))) None ≡ Some id → (b ≡ true) × (id_in_exchange (answer_in effect) ≡ id)
    by_code true is = (refl, same_Some _ id is)
    by_code false is = absurd (none-some id is)

-- ---- In the clear.

-- A session that may be dropped.
pub may_drop : (h : History) (id : ℕ) → may_be_dropped h id ≡ true → MayDrop h (id ∷ [])
may_drop h id is = (and_first _ _ is, and_second (is_live (session_of id h)) _ is, tt)

pub dropped_may : (h : History) (id : ℕ) → MayDrop h (id ∷ []) → may_be_dropped h id ≡ true
dropped_may h id may = ap (λ (b : Bool). b && is_timed (session_of id h)) may.0 ∙ may.1

-- Where nothing was dropped, a turn shows no session that may be.
none_for : (r : RspSetup) (h : History) (m : List ℕ) (f : Free) (q : Place) → IsAllowed h q f → is_some (handle_in (turn_of r (clear_place h) m f).effect) ≡ false
    → (o : Option ℕ) → id_begun (response_of (turn_of r (clear_place h) m f).reply) ≡ o → dropped_for h o ≡ []
none_for r h m f q fits small None is = refl
none_for r h m f q fits small (Some id) is = by_drop (may_be_dropped h id) refl
  where
    by_drop : (b : Bool) → may_be_dropped h id ≡ b → cond b (id ∷ []) [] ≡ []
    by_drop false no_one = refl
    by_drop true may =
        let t : Turn = turn_of r (clear_place h) m f in
        let known = shown_begins t.effect id (sym (turn_begins r (clear_place h) m f small) ∙ is) in
        absurd (false≢true (sym (fresh_id r h m f q fits known.0) ∙ ap (is_held h) known.1 ∙ held_before h id (may_drop h id may)))

module _ (r : RspSetup) (h : History) (tag : ℕ) (body : List ℕ) where
  abbrev m : List ℕ
  m = drop 1 body

  abbrev clear_at : History → Bool → Free → Outcome
  clear_at g again f = cond again (Same (clear_body (kept_reply (kept_of g)))) (Adds (Clear tag (turn_of r (clear_place g) m f) no_draw))

  -- Where nothing was dropped.
  clear_none : (q : Place) (f : Free) (again : Bool) → IsAllowed h q f → is_plain h (clear_at h again f) ≡ true → cond again [] (dropped_for h (id_begun (response_of (drop 1 (body_of (clear_at h again f)))))) ≡ []
  clear_none q f true fits plain = refl
  clear_none q f false fits plain = none_for r h m f q fits (not-true _ (and_first _ _ plain)) _ refl

  -- Where one was.
  clear_one : (id : ℕ) (f : Free) (again : Bool) → MayDrop h (id ∷ []) → let o = clear_at (with_dropped h (id ∷ [])) again f in
      is_plain h o ≡ true → shows r h body id o ≡ true → cond again [] (dropped_for h (id_begun (response_of (drop 1 (body_of o))))) ≡ id ∷ []
  clear_one id f true may plain shown = absurd (false≢true shown)
  clear_one id f false may plain shown =
      let g : History = with_dropped h (id ∷ []) in
      let t : Turn = turn_of r (clear_place g) m f in
      let begins = turn_begins r (clear_place g) m f (not-true _ (and_first _ _ plain)) in
      let takes_it : takes PSK_EXCHANGE t ≡ true = and_first _ _ shown in
      let at : id_in_exchange (answer_in t.effect) ≡ id = eqb-true _ id (and_second (takes PSK_EXCHANGE t) _ shown) in
      ap (dropped_for h) (begins ∙ ap (λ (b : Bool). cond b (Some (id_in_exchange (answer_in t.effect))) None) takes_it ∙ ap Some at)
      ∙ ap (λ (b : Bool). cond b (id ∷ []) []) (dropped_may h id may)

  -- And back.
  clear_shown : (ids : List ℕ) (f : Free) (again : Bool) → let o = clear_at (with_dropped h ids) again f in
      is_plain h o ≡ true → ids ≡ cond again [] (dropped_for h (id_begun (response_of (drop 1 (body_of o))))) → MayDrop h ids × AreShown r h body o ids
  clear_shown [] f again plain is = (tt, tt)
  clear_shown (id ∷ ids) f true plain is = absurd (cc)
  clear_shown (id ∷ ids) f false plain is =
      let g : History = with_dropped h (id ∷ ids) in
      let t : Turn = turn_of r (clear_place g) m f in
      let begins = turn_begins r (clear_place g) m f (not-true _ (and_first _ _ plain)) in
      by_id (id_begun (response_of t.reply)) is begins
    where
      at : Turn → Option ℕ
      at t = id_begun (response_of t.reply)

      by_may : (t : Turn) (other : ℕ) (b : Bool) → may_be_dropped h other ≡ b → id ∷ ids ≡ cond b (other ∷ []) [] → Some other ≡ begun_by t.effect
          → MayDrop h (id ∷ ids) × AreShown r h body (Adds (Clear tag t no_draw)) (id ∷ ids)
      by_may t other false may same begun = absurd (cc)
      by_may t other true may same begun =
          let known = shown_begins t.effect other (sym begun) in
          let P : List ℕ → Type 0 = λ l. MayDrop h l × AreShown r h body (Adds (Clear tag t no_draw)) l in
          subst P (sym same) (may_drop h other may, ap (λ (b : Bool). b && (id_in_exchange (answer_in t.effect) == other)) known.0 ∙ eq-eqb _ other known.1)

      by_id : (o : Option ℕ) → id ∷ ids ≡ dropped_for h o → o ≡ begun_by (turn_of r (clear_place (with_dropped h (id ∷ ids))) m f).effect
          → MayDrop h (id ∷ ids) × AreShown r h body (Adds (Clear tag (turn_of r (clear_place (with_dropped h (id ∷ ids))) m f) no_draw)) (id ∷ ids)
      by_id None same begun = absurd (cc)
      by_id (Some other) same begun = by_may (turn_of r (clear_place (with_dropped h (id ∷ ids))) m f) other (may_be_dropped h other) refl same begun

-- ---- In a session.

-- Any answer to a record, by its type.
module _ (r : RspSetup) (h : History) (tag : ℕ) (body : List ℕ) where
  abbrev request : List ℕ
  request = drop 1 body

  abbrev id : ℕ
  id = id_in_record request

  -- Where nothing was dropped.
  record_none : (o : Outcome) → RecordForm r h tag request o → record_drops r h request (body_of o) ≡ []
  record_none o (inl same) = ap (λ (x : Outcome). record_drops r h request (body_of x)) same.1
  record_none o (inr (inl none)) = ap (λ (x : Outcome). record_drops r h request (body_of x)) none.1 ∙ by_live (is_live (session_of id h)) refl
    where
      by_live : (b : Bool) → is_live (session_of id h) ≡ b → cond (belongs_to r (session_of id h) request && (is_live (session_of id h) && is_timed (session_of id h))) (id ∷ []) [] ≡ []
      by_live true is = ap (λ (b : Bool). cond (b && (is_live (session_of id h) && is_timed (session_of id h))) (id ∷ []) []) (none.2 is)
      by_live false is = ap (λ (b : Bool). cond (belongs_to r (session_of id h) request && (b && is_timed (session_of id h))) (id ∷ []) []) is
          ∙ ap (λ (b : Bool). cond b (id ∷ []) []) (and-false (belongs_to r (session_of id h) request))
  record_none o (inr (inr added)) = ap (λ (x : Outcome). record_drops r h request (body_of x)) added.2

  -- Where one was.
  record_one : (g : History) (which : ℕ) (o : Outcome) → MayDrop h (which ∷ []) → RecordForm r g tag request o → shows r h body which o ≡ true → record_drops r h request (body_of o) ≡ which ∷ []
  record_one g which o may form shown =
      let known = record_shown r h g tag body which o form shown in
      let at : ℕ → List ℕ = λ n. cond (belongs_to r (session_of n h) request && may_be_dropped h n) (n ∷ []) [] in
      ap (λ (x : Outcome). record_drops r h request (body_of x)) known.0.1 ∙ ap at known.1
      ∙ ap (λ (b : Bool). cond (b && may_be_dropped h which) (which ∷ []) []) known.2 ∙ ap (λ (b : Bool). cond b (which ∷ []) []) (dropped_may h which may)

  -- And back.
  is_none_of : (ids : List ℕ) (o : Outcome) → ids ≡ [] → MayDrop h ids × AreShown r h body o ids
  is_none_of ids o none = (let P : List ℕ → Type 0 = λ l. MayDrop h l × AreShown r h body o l in subst P (sym none) (tt, tt))

  record_back : (g : History) (ids : List ℕ) (o : Outcome) → RecordForm r g tag request o → ids ≡ record_drops r h request (body_of o) → MayDrop h ids × AreShown r h body o ids
  record_back g ids o (inl same) is = is_none_of ids o (is ∙ ap (λ (x : Outcome). record_drops r h request (body_of x)) same.1)
  record_back g ids o (inr (inr added)) is = is_none_of ids o (is ∙ ap (λ (x : Outcome). record_drops r h request (body_of x)) added.2)
  record_back g ids o (inr (inl none)) is = by_drop (belongs_to r (session_of id h) request && may_be_dropped h id) refl (is ∙ ap (λ (x : Outcome). record_drops r h request (body_of x)) none.1)
    where
      by_drop : (b : Bool) → (belongs_to r (session_of id h) request && may_be_dropped h id) ≡ b → ids ≡ cond b (id ∷ []) [] → MayDrop h ids × AreShown r h body o ids
      by_drop false test same = is_none_of ids o same
      by_drop true test same =
          let P : List ℕ → Type 0 = λ l. MayDrop h l × AreShown r h body o l in
          let shown : shows r h body id (Unopened none.0) ≡ true = ap (λ (b : Bool). b && belongs_to r (session_of id h) request) (eq-eqb id id refl) ∙ and_first _ _ test in
          subst P (sym same) (may_drop h id (and_second (belongs_to r (session_of id h) request) _ test), ap (shows r h body id) none.1 ∙ shown)

-- ---- A body.

module _ (r : RspSetup) (h : History) (tag : ℕ) (body : List ℕ) where
  abbrev pub outcome_by : Bool → History → Free → Outcome
  outcome_by clear g f = cond clear (on_clear r g tag (drop 1 body) f no_draw) (on_record r g tag (drop 1 body) f no_draw)

  abbrev pub drops_by : Bool → (answer : List ℕ) → List ℕ
  drops_by clear answer = cond clear (clear_drops h tag (drop 1 body) (drop 1 answer)) (record_drops r h (drop 1 body) answer)

  -- By the history before the drops, of which a repeat knows nothing.
  pub again_is : (ids : List ℕ) → is_repeat (kept_of (with_dropped h ids)) tag (drop 1 body) ≡ is_repeat (kept_of h) tag (drop 1 body)
  again_is ids = ap (λ o. is_repeat o tag (drop 1 body)) (kept_same ids h)

  drops_clear : (ids : List ℕ) (f : Free) (q : Place) (o : Outcome) → MayDrop h ids → IsAllowed (with_dropped h ids) q f → outcome_by true (with_dropped h ids) f ≡ o → AreShown r h body o ids → is_plain h o ≡ true → drops_by true (body_of o) ≡ ids
  unfolding on_clear
  drops_clear [] f q o may fits leads shown plain =
      let again : Bool = is_repeat (kept_of h) tag (drop 1 body) in
      subst (λ (x : Outcome). is_plain h x ≡ true → drops_by true (body_of x) ≡ []) leads (clear_none r h tag body q f again fits) plain
  drops_clear (which ∷ []) f q o may fits leads shown plain =
      let P : Outcome → Type 0 = λ x. is_plain h x ≡ true → shows r h body which x ≡ true → drops_by true (body_of x) ≡ which ∷ [] in
      subst P leads (clear_one r h tag body which f (is_repeat (kept_of h) tag (drop 1 body)) may) plain shown
  drops_clear (which ∷ other ∷ others) f q o may fits leads shown plain = absurd shown

  drops_record : (ids : List ℕ) (f : Free) (o : Outcome) → MayDrop h ids → outcome_by false (with_dropped h ids) f ≡ o → AreShown r h body o ids → drops_by false (body_of o) ≡ ids
  drops_record [] f o may leads shown = record_none r h tag body o (record_form r tag (drop 1 body) f o h leads)
  drops_record (which ∷ []) f o may leads shown = record_one r h tag body (with_dropped h (which ∷ [])) which o may (record_form r tag (drop 1 body) f o (with_dropped h (which ∷ [])) leads) shown
  drops_record (which ∷ other ∷ others) f o may leads shown = absurd shown

  -- The drops are those that the answer shows.
  pub drops_are : (clear : Bool) (ids : List ℕ) (f : Free) (q : Place) (o : Outcome) → MayDrop h ids → IsAllowed (with_dropped h ids) q f → outcome_by clear (with_dropped h ids) f ≡ o → AreShown r h body o ids → is_plain h o ≡ true → drops_by clear (body_of o) ≡ ids
  drops_are true ids f q o may fits leads shown plain = drops_clear ids f q o may fits leads shown plain
  drops_are false ids f q o may fits leads shown plain = drops_record ids f o may leads shown

  -- And those that it shows may have been, and are shown.
  pub drops_back : (clear : Bool) (ids : List ℕ) (f : Free) (o : Outcome) → outcome_by clear (with_dropped h ids) f ≡ o → is_plain h o ≡ true → ids ≡ drops_by clear (body_of o) → MayDrop h ids × AreShown r h body o ids
  unfolding on_clear
  drops_back true ids f o leads plain same =
      let g : History = with_dropped h ids in
      let P : Outcome → Type 0 = λ x. is_plain h x ≡ true → ids ≡ drops_by true (body_of x) → MayDrop h ids × AreShown r h body x ids in
      subst P leads (λ whole shown. clear_shown r h tag body ids f (is_repeat (kept_of g) tag (drop 1 body)) whole (shown ∙ ap (λ (b : Bool). cond b [] (dropped_for h (id_begun (response_of (drop 1 (body_of (outcome_by true g f))))))) (sym (again_is ids)))) plain same
  drops_back false ids f o leads plain same = record_back r h tag body (with_dropped h ids) ids o (record_form r tag (drop 1 body) f o (with_dropped h ids) leads) same
