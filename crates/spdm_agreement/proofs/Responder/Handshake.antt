-- The session in its handshake is the one that began last, and a responder has no other.
use Rattle.std.proofs.Common.{◌≡◌, ◌⊎◌, ℕ, ◌+◌, List, [], ◌∷◌, ◌++◌, Bool, true, false, cond, Option, Some, None, ◌==◌, ◌||◌, refl, sym, ap, ◌∙◌, subst, inl, inr, arith, eqb-true, eq-eqb, true≢false}
use Rattle.spdm_grammar.specs.Message.RequestMessage.{KeyUpdate}
use Rattle.spdm_grammar.specs.declared.told.phase.Stage.{Stage}
use Rattle.spdm_grammar.specs.declared.told.phase.Stage.TheVariants as stage
use Rattle.responder_machine.specs.History.{History, clear_turns, negotiation_of}
use Rattle.responder_machine.specs.History.Entry.{Clear, Sealed, Queued, Ticked, Dropped}
use Rattle.responder_machine.specs.ResponderLog.{began_by}
use Rattle.responder_machine.specs.Session.{Event, Events, session_of, is_live, stage_of, after_record, after_exchange, after_tick, id_in_record, exchange_answer, request_next, response_next, t2_of, gives_id}
use Rattle.spdm_machine.specs.Sessions.{is_past_handshake, id_in_exchange}
use Rattle.responder_machine.specs.Session.Event.{Began, Heard, Waited}
use Rattle.responder_machine.specs.Setup.{RspSetup}
use Rattle.responder_machine.specs.Turn.{Turn, Effect, takes, updates, answer_in, request_in}
use Rattle.responder_machine.specs.Turn.Effect.{NoEffect, Took, TookData}
use Rattle.spdm_agreement.specs.Marks.{Served, HasBegun, handshake}
use Rattle.spdm_agreement.specs.Marks.Served.{Finished, Refused}
use Rattle.spdm_agreement.specs.Reading.{First}
use Rattle.spdm_agreement.specs.Story.{Past, served_from, served_first, served_turn, record_marks, reply_text}
use Rattle.spdm_agreement.proofs.Responder.OpenSessions.{IsSteady, served_stands}
use Rattle.spdm_agreement.proofs.Responder.Replies.{updates_in}
use Rattle.spdm_grammar.specs.declared.names.request_code.TheConstants.{GET_VERSION, PSK_EXCHANGE, PSK_FINISH, KEY_UPDATE, END_SESSION}

-- The session that began last.
abbrev pub newest : List Served → Option First
newest [] = None
newest (Served.Began t ∷ older) = Some t
newest (_ ∷ older) = newest older

pub newest_begun : (m : List Served) (t : First) → newest m ≡ Some t → HasBegun m t
newest_begun [] t e = absurd (cc)
newest_begun (Served.Began s ∷ m) t e = let same : t ≡ s = cc in inl same
newest_begun (Finished s u ∷ m) t e = newest_begun m t e
newest_begun (Refused s b ∷ m) t e = newest_begun m t e
newest_begun (Served.Took u b c ∷ m) t e = newest_begun m t e

-- What is known of the session of an id while it is in its handshake: it began last; and before its first record it is the
-- one that is awaited, and no reply was sealed.
pub record ShakesAt (s : Events) (m : List Served) : Type 0 where
  pub last : is_live s ≡ true → is_past_handshake (stage_of s) ≡ false → newest m ≡ Some (served_first s)
  pub ready : is_live s ≡ true → is_past_handshake (stage_of s) ≡ false → request_next s ≡ 0 → (handshake m ≡ Some (served_first s)) × (response_next s ≡ 0)

gone : (m : List Served) → ShakesAt [] m
gone m = record { last = λ e. absurd (true≢false (sym e)); ready = λ e. absurd (true≢false (sym e)) }

-- After its handshake nothing is said of it.
pub behind : (s : Events) (m : List Served) → is_past_handshake (stage_of s) ≡ true → ShakesAt s m
behind s m past = record { last = λ l e. absurd (true≢false (sym past ∙ e)); ready = λ l e. absurd (true≢false (sym past ∙ e)) }

-- ---- Time.

ticked_by : (e : Event) (s : Events) (seconds : ℕ) (m : List Served) (a b : Bool) → ShakesAt (e ∷ s) m → ShakesAt (cond a (e ∷ s) (cond b [] (Waited seconds ∷ e ∷ s))) m
ticked_by e s seconds m true b i = i
ticked_by e s seconds m false true i = gone m
ticked_by e s seconds m false false i = record { last = λ l. i.last refl; ready = λ l. i.ready refl }

ticked : (s : Events) (seconds : ℕ) (m : List Served) → ShakesAt s m → ShakesAt (after_tick s seconds) m
ticked [] seconds m i = gone m
ticked (e ∷ s) seconds m i = ticked_by e s seconds m _ _ i

dropped : (s : Events) (m : List Served) (b : Bool) → ShakesAt s m → ShakesAt (cond b [] s) m
dropped s m true i = gone m
dropped s m false i = i

-- ---- In the clear.

kept_by : (s : Events) (m : List Served) (d : Bool) → is_past_handshake (stage_of s) ≡ d → ShakesAt (cond d s []) m
kept_by s m true is = behind s m is
kept_by s m false is = gone m

exchanged : (s : Events) (older : History) (t : Turn) (m : List Served) (c : Bool)
    → ShakesAt (cond c (Began (negotiation_of (clear_turns older)) (request_in t.effect) (answer_in t.effect) ∷ []) (cond (is_past_handshake (stage_of s)) s [])) (Served.Began (served_first (began_by older t)) ∷ m)
exchanged s older t m true = record { last = λ l e. refl; ready = λ l e n. (refl, refl) }
exchanged s older t m false = kept_by s _ (is_past_handshake (stage_of s)) refl

cleared_by : (id : ℕ) (s : Events) (older : History) (t : Turn) (m : List Served) (a b : Bool) → ShakesAt s m
    → ShakesAt (cond a [] (cond b (after_exchange id s t (negotiation_of (clear_turns older))) s)) (cond b (Served.Began (served_first (began_by older t)) ∷ []) [] ++ m)
cleared_by id s older t m true b i = gone _
cleared_by id s older t m false true i = exchanged s older t m (gives_id id (answer_in t.effect))
cleared_by id s older t m false false i = i

-- ---- In a session.

-- A record that counts as none before it, or changes a key, ends the handshake.
update_code : (e : Effect) → (updates_in 1 e || updates_in 2 e) ≡ true → takes KEY_UPDATE (record { message = []; refused = None; chunk = None; effect = e; reply = [] }) ≡ true
update_code (Took (KeyUpdate op tag) request answer large) e = refl
update_code (Took v request answer large) e = absurd (true≢false (sym e))
update_code NoEffect e = absurd (true≢false (sym e))
update_code (TookData bytes answer) e = absurd (true≢false (sym e))

past_by : (a b c : Bool) (g : Stage) → (is_past_handshake g ≡ true) ⊎ ((a ≡ true) ⊎ (c ≡ true)) → is_past_handshake (cond a stage.Open (cond b stage.Open (cond c stage.Verifying g))) ≡ true
past_by true b c g x = refl
past_by false true c g x = refl
past_by false false true g x = refl
past_by false false false g x = elim x [ inl p ↦ p | inr y ↦ elim y [ inl e ↦ absurd (true≢false (sym e)) | inr e ↦ absurd (true≢false (sym e)) ] ]

pub past_stays : (s : Events) (sealed : List ℕ) (t : Turn) (reply : List ℕ) → is_past_handshake (stage_of s) ≡ true → is_past_handshake (stage_of (Heard sealed t reply ∷ s)) ≡ true
past_stays s sealed t reply past = past_by (takes PSK_FINISH t) (updates 3 t) (takes KEY_UPDATE t) (stage_of s) (inl past)

counted_by : (a b c : Bool) (n : ℕ) → cond (a || b || c) 0 (n + 1) ≡ 0 → (a ≡ true) ⊎ ((b || c) ≡ true)
counted_by true b c n e = inl refl
counted_by false true c n e = inr refl
counted_by false false true n e = inr refl
counted_by false false false n e = absurd (omega arith)

first_ends : (s : Events) (sealed : List ℕ) (t : Turn) (reply : List ℕ) → request_next (Heard sealed t reply ∷ s) ≡ 0 → is_past_handshake (stage_of (Heard sealed t reply ∷ s)) ≡ true
first_ends s sealed t reply e = elim (counted_by (takes PSK_FINISH t) (updates 1 t) (updates 2 t) (request_next s) e) [
  | inl a ↦ past_by (takes PSK_FINISH t) (updates 3 t) (takes KEY_UPDATE t) (stage_of s) (inr (inl a))
  | inr u ↦ past_by (takes PSK_FINISH t) (updates 3 t) (takes KEY_UPDATE t) (stage_of s) (inr (inr (update_code t.effect u)))
]

-- Marks of records name no session that begins.
newest_turn : (g : Stage) (r : RspSetup) (s : Events) (sealed : List ℕ) (t : Turn) (reply : List ℕ) (m : List Served) → newest (served_turn g r s sealed t reply ++ m) ≡ newest m
newest_turn stage.Handshake r s sealed t reply m = go (takes PSK_FINISH t)
  where
    go : (b : Bool) → newest (cond b (Finished (served_first s) (t2_of (Heard sealed t reply ∷ s)) ∷ []) (Refused (served_first s) (reply_text t) ∷ []) ++ m) ≡ newest m
    go true = refl
    go false = refl
newest_turn stage.Open r s sealed t reply m = refl
newest_turn stage.Verifying r s sealed t reply m = refl

newest_record : (r : RspSetup) (s : Events) (sealed : List ℕ) (t : Turn) (reply : List ℕ) (m : List Served) → newest (record_marks r s sealed t reply ++ m) ≡ newest m
newest_record r [] sealed t reply m = refl
newest_record r (e ∷ s) sealed t reply m = newest_turn (stage_of (e ∷ s)) r (e ∷ s) sealed t reply m

heard_by : (r : RspSetup) (e : Event) (s : Events) (sealed : List ℕ) (t : Turn) (reply : List ℕ) (m : List Served) (b : Bool) → is_past_handshake (stage_of (e ∷ s)) ≡ b → ShakesAt (e ∷ s) m → ShakesAt (Heard sealed t reply ∷ e ∷ s) (record_marks r (e ∷ s) sealed t reply ++ m)
heard_by r e s sealed t reply m true is i = behind (Heard sealed t reply ∷ e ∷ s) (record_marks r (e ∷ s) sealed t reply ++ m) (past_stays (e ∷ s) sealed t reply is)
heard_by r e s sealed t reply m false is i = record {
  last = λ l past. newest_record r (e ∷ s) sealed t reply m ∙ i.last refl is;
  ready = λ l past n. absurd (true≢false (sym (first_ends (e ∷ s) sealed t reply n) ∙ past));
}

ended_by : (s : Events) (m : List Served) (b : Bool) → ShakesAt s m → ShakesAt (cond b [] s) m
ended_by s m true i = gone m
ended_by s m false i = i

heard : (r : RspSetup) (s : Events) (sealed : List ℕ) (t : Turn) (reply : List ℕ) (m : List Served) → ShakesAt s m → ShakesAt (after_record s sealed t reply) (record_marks r s sealed t reply ++ m)
heard r [] sealed t reply m i = ended_by [] m (takes END_SESSION t) (gone m)
heard r (e ∷ s) sealed t reply m i = ended_by (Heard sealed t reply ∷ e ∷ s) (record_marks r (e ∷ s) sealed t reply ++ m) (takes END_SESSION t) (heard_by r e s sealed t reply m (is_past_handshake (stage_of (e ∷ s))) refl i)

-- The session of another id: two are never in their handshake.
two_shake : (id of : ℕ) (own s : Events) (m : List Served) → (of ≡ id → ⊥) → (is_live own ≡ true → id_in_exchange (exchange_answer own) ≡ of) → (is_live s ≡ true → id_in_exchange (exchange_answer s) ≡ id) → ShakesAt own m → ShakesAt s m
    → is_live own ≡ true → is_past_handshake (stage_of own) ≡ false → is_live s ≡ true → is_past_handshake (stage_of s) ≡ false → ⊥
two_shake id of own s m other own_id s_id a b l p l' p' =
    let same : served_first own ≡ served_first s = some_first _ _ (sym (a.last l p) ∙ b.last l' p') in
    other (sym (own_id l) ∙ ap (λ (x : First). id_in_exchange x.answer) same ∙ s_id l')
  where
    some_first : (x y : First) → Some x ≡ Some y → x ≡ y
    some_first x y e = cc

handshake_stage : (g : Stage) (r : RspSetup) (s : Events) (sealed : List ℕ) (t : Turn) (reply : List ℕ) (m : List Served) → (is_past_handshake g ≡ false → ⊥) → handshake (served_turn g r s sealed t reply ++ m) ≡ handshake m
handshake_stage stage.Handshake r s sealed t reply m n = absurd (n refl)
handshake_stage stage.Open r s sealed t reply m n = refl
handshake_stage stage.Verifying r s sealed t reply m n = refl

handshake_record : (r : RspSetup) (s : Events) (sealed : List ℕ) (t : Turn) (reply : List ℕ) (m : List Served) → (is_live s ≡ true → is_past_handshake (stage_of s) ≡ false → ⊥) → handshake (record_marks r s sealed t reply ++ m) ≡ handshake m
handshake_record r [] sealed t reply m n = refl
handshake_record r (e ∷ s) sealed t reply m n = handshake_stage (stage_of (e ∷ s)) r (e ∷ s) sealed t reply m (n refl)

elsewhere : (r : RspSetup) (id of : ℕ) (own s : Events) (sealed : List ℕ) (t : Turn) (reply : List ℕ) (m : List Served) → (of ≡ id → ⊥) → (is_live own ≡ true → id_in_exchange (exchange_answer own) ≡ of) → (is_live s ≡ true → id_in_exchange (exchange_answer s) ≡ id)
    → ShakesAt own m → ShakesAt s m → ShakesAt s (record_marks r own sealed t reply ++ m)
elsewhere r id of own s sealed t reply m other own_id s_id a b = record {
  last = λ l p. newest_record r own sealed t reply m ∙ b.last l p;
  ready = λ l p n. (let was = b.ready l p n in (handshake_record r own sealed t reply m (λ l' p'. two_shake id of own s m other own_id s_id a b l' p' l p) ∙ was.0, was.1));
}

-- ---- All sessions.

sealed_by : (r : RspSetup) (id of : ℕ) (own s : Events) (sealed : List ℕ) (t : Turn) (reply : List ℕ) (m : List Served) (b : Bool) → (of == id) ≡ b → (of ≡ id → own ≡ s)
    → (is_live own ≡ true → id_in_exchange (exchange_answer own) ≡ of) → (is_live s ≡ true → id_in_exchange (exchange_answer s) ≡ id)
    → ShakesAt own m → ShakesAt s m → ShakesAt (cond b (after_record s sealed t reply) s) (record_marks r own sealed t reply ++ m)
sealed_by r id of own s sealed t reply m true is same own_id s_id a b =
    subst (λ (x : Events). ShakesAt (after_record x sealed t reply) (record_marks r own sealed t reply ++ m)) (same (eqb-true of id is)) (heard r own sealed t reply m a)
sealed_by r id of own s sealed t reply m false is same own_id s_id a b = elsewhere r id of own s sealed t reply m (λ e. true≢false (sym (eq-eqb of id e) ∙ is)) own_id s_id a b

pub shakes_stand : (prior : Past) → (r : RspSetup) (h : History) → IsSteady h → (id : ℕ) → ShakesAt (session_of id h) (served_from prior r h)
unfolding session_of
shakes_stand prior r [] steady id = gone (prior.served r)
shakes_stand prior r (Clear tag t d ∷ older) steady id = cleared_by id (session_of id older) older t (served_from prior r older) (takes GET_VERSION t) (takes PSK_EXCHANGE t) (shakes_stand prior r older steady id)
shakes_stand prior r (Sealed tag sealed t reply d ∷ older) steady id =
    let of = id_in_record sealed in
    sealed_by r id of (session_of of older) (session_of id older) sealed t reply (served_from prior r older) (of == id) refl (λ e. ap (λ (n : ℕ). session_of n older) e)
    (served_stands prior r.psk r older steady.1 of).own (served_stands prior r.psk r older steady.1 id).own (shakes_stand prior r older steady.1 of) (shakes_stand prior r older steady.1 id)
shakes_stand prior r (Queued bytes ∷ older) steady id = shakes_stand prior r older steady id
shakes_stand prior r (Ticked seconds ∷ older) steady id = ticked (session_of id older) seconds (served_from prior r older) (shakes_stand prior r older steady id)
shakes_stand prior r (Dropped which ∷ older) steady id = dropped (session_of id older) (served_from prior r older) (which == id) (shakes_stand prior r older steady id)
