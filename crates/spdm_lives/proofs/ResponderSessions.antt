-- Each session of a responder has a mark that it began, and each that finished began. No premise of chance is needed.
use Rattle.std.proofs.Common.{◌≡◌, ◌⊎◌, ℕ, List, [], ◌∷◌, ◌++◌, Bool, true, false, cond, ◌==◌, refl, sym, subst, inl, inr, true≢false}
use Rattle.responder_machine.specs.History.{History, clear_turns, negotiation_of}
use Rattle.responder_machine.specs.History.Entry.{Clear, Sealed, Queued, Ticked, Dropped}
use Rattle.responder_machine.specs.ResponderLog.{began_by}
use Rattle.responder_machine.specs.Session.{Event, Events, session_of, is_live, stage_of, t2_of, after_exchange, after_tick, id_in_record, gives_id, when_live}
use Rattle.responder_machine.specs.Session.Event.{Began, Heard, Waited}
use Rattle.responder_machine.specs.Setup.{RspSetup}
use Rattle.responder_machine.specs.Turn.{Turn, takes, answer_in, request_in}
use Rattle.spdm_agreement.proofs.Worlds.Behind.{begun_old}
use Rattle.spdm_agreement.specs.Marks.{Served, HasBegun, HasFinished, HasOpened}
use Rattle.spdm_agreement.specs.Marks as marks
use Rattle.spdm_agreement.specs.Reading.{First}
use Rattle.spdm_agreement.specs.Story.{served_marks, served_first, served_turn, record_marks, began_marks, reply_text}
use Rattle.spdm_grammar.specs.declared.names.request_code.TheConstants.{GET_VERSION, PSK_EXCHANGE, PSK_FINISH, END_SESSION}
use Rattle.spdm_grammar.specs.declared.told.phase.Stage.{Stage}
use Rattle.spdm_grammar.specs.declared.told.phase.Stage.TheVariants as stage
use Rattle.spdm_machine.specs.Sessions.{is_past_handshake}

-- It has a mark that it began, where there is a session.
pub record IsWell (m : List Served) (s : Events) : Type 0 where
  pub began : is_live s ≡ true → HasBegun m (served_first s)

gone : (m : List Served) → IsWell m []
gone m = record { began = λ l. absurd (true≢false (sym l)) }

more : (new m : List Served) (s : Events) → IsWell m s → IsWell (new ++ m) s
more new m s k = record { began = λ l. begun_old new m (served_first s) (k.began l) }

gone_if : (b : Bool) (m : List Served) (s : Events) → IsWell m s → IsWell m (cond b [] s)
gone_if true m s k = gone m
gone_if false m s k = k

either : (b : Bool) (m : List Served) (s x : Events) → IsWell m s → IsWell m x → IsWell m (cond b s x)
either true m s x k l = k
either false m s x k l = l

heard : (m : List Served) (sealed : List ℕ) (t : Turn) (reply : List ℕ) (s : Events) → IsWell m s → IsWell m (when_live s (Heard sealed t reply))
heard m sealed t reply [] k = gone m
heard m sealed t reply (e ∷ s) k = record { began = λ l. k.began refl }

ticked_by : (m : List Served) (e : Event) (s : Events) (seconds : ℕ) (a b : Bool) → IsWell m (e ∷ s) → IsWell m (cond a (e ∷ s) (cond b [] (Waited seconds ∷ e ∷ s)))
ticked_by m e s seconds true b k = k
ticked_by m e s seconds false true k = gone m
ticked_by m e s seconds false false k = record { began = λ l. k.began refl }

ticked : (m : List Served) (s : Events) (seconds : ℕ) → IsWell m s → IsWell m (after_tick s seconds)
ticked m [] seconds k = gone m
ticked m (e ∷ s) seconds k = ticked_by m e s seconds _ _ k

exchanged : (older : History) (t : Turn) (m : List Served) (s : Events) (c : Bool) → IsWell m s
    → IsWell (marks.Served.Began (served_first (began_by older t)) ∷ m) (cond c (Began (negotiation_of (clear_turns older)) (request_in t.effect) (answer_in t.effect) ∷ []) (cond (is_past_handshake (stage_of s)) s []))
exchanged older t m s true k = record { began = λ l. inl refl }
exchanged older t m s false k = either (is_past_handshake (stage_of s)) _ s [] (more (marks.Served.Began (served_first (began_by older t)) ∷ []) m s k) (gone _)

cleared : (id : ℕ) (older : History) (t : Turn) (m : List Served) (s : Events) (a b : Bool) → IsWell m s
    → IsWell (cond b (marks.Served.Began (served_first (began_by older t)) ∷ []) [] ++ m) (cond a [] (cond b (after_exchange id s t (negotiation_of (clear_turns older))) s))
cleared id older t m s true b k = gone _
cleared id older t m s false true k = exchanged older t m s (gives_id id (answer_in t.effect)) k
cleared id older t m s false false k = k

pub sessions_well : (r : RspSetup) (h : History) → (id : ℕ) → IsWell (served_marks r h) (session_of id h)
unfolding session_of
sessions_well r [] id = gone []
sessions_well r (Clear tag t d ∷ older) id = cleared id older t (served_marks r older) (session_of id older) (takes GET_VERSION t) (takes PSK_EXCHANGE t) (sessions_well r older id)
sessions_well r (Sealed tag sealed t reply d ∷ older) id =
    more (record_marks r (session_of (id_in_record sealed) older) sealed t reply) (served_marks r older) _
    (either (id_in_record sealed == id) (served_marks r older) _ _ (gone_if (takes END_SESSION t) (served_marks r older) _ (heard (served_marks r older) sealed t reply (session_of id older) (sessions_well r older id))) (sessions_well r older id))
sessions_well r (Queued bytes ∷ older) id = sessions_well r older id
sessions_well r (Ticked seconds ∷ older) id = ticked (served_marks r older) (session_of id older) seconds (sessions_well r older id)
sessions_well r (Dropped which ∷ older) id = gone_if (which == id) (served_marks r older) (session_of id older) (sessions_well r older id)

-- ---- What finished began.

finished_if : (b : Bool) (x : First) (v reply : List ℕ) (m : List Served) (t : First) → HasFinished (cond b (marks.Served.Finished x v ∷ []) (marks.Served.Refused x reply ∷ []) ++ m) t → (t ≡ x) ⊎ HasFinished m t
finished_if true x v reply m t o = o
finished_if false x v reply m t o = inr o

finished_by : (g : Stage) (r : RspSetup) (s : Events) (sealed : List ℕ) (turn : Turn) (reply : List ℕ) (m : List Served) (t : First) → HasFinished (served_turn g r s sealed turn reply ++ m) t → (t ≡ served_first s) ⊎ HasFinished m t
finished_by stage.Handshake r s sealed turn reply m t o = finished_if (takes PSK_FINISH turn) (served_first s) (t2_of (Heard sealed turn reply ∷ s)) (reply_text turn) m t o
finished_by stage.Open r s sealed turn reply m t o = inr o
finished_by stage.Verifying r s sealed turn reply m t o = inr o

finished_in : (r : RspSetup) (s : Events) (sealed : List ℕ) (turn : Turn) (reply : List ℕ) (m : List Served) (t : First) → HasFinished (record_marks r s sealed turn reply ++ m) t → ((is_live s ≡ true) × (t ≡ served_first s)) ⊎ HasFinished m t
finished_in r [] sealed turn reply m t o = inr o
finished_in r (e ∷ s) sealed turn reply m t o = elim (finished_by (stage_of (e ∷ s)) r (e ∷ s) sealed turn reply m t o) [ inl x ↦ inl (refl, x) | inr y ↦ inr y ]

began_finished : (b : Bool) (x : First) (m : List Served) (t : First) → HasFinished (cond b (marks.Served.Began x ∷ []) [] ++ m) t → HasFinished m t
began_finished true x m t o = o
began_finished false x m t o = o

pub finished_began : (r : RspSetup) (h : History) (t : First) → HasFinished (served_marks r h) t → HasBegun (served_marks r h) t
finished_began r [] t o = elim o [ ]
finished_began r (Clear tag turn d ∷ older) t o = begun_old (began_marks older turn) (served_marks r older) t (finished_began r older t (began_finished (takes PSK_EXCHANGE turn) (served_first (began_by older turn)) (served_marks r older) t o))
finished_began r (Sealed tag sealed turn reply d ∷ older) t o =
    let s = session_of (id_in_record sealed) older in
    begun_old (record_marks r s sealed turn reply) (served_marks r older) t (elim (finished_in r s sealed turn reply (served_marks r older) t o) [
      | inl x ↦ subst (HasBegun (served_marks r older)) (sym x.1) ((sessions_well r older (id_in_record sealed)).began x.0)
      | inr y ↦ finished_began r older t y
    ])
finished_began r (Queued bytes ∷ older) t o = finished_began r older t o
finished_began r (Ticked seconds ∷ older) t o = finished_began r older t o
finished_began r (Dropped which ∷ older) t o = finished_began r older t o

-- What opened finished.
pub opened_finished : (m : List Served) (t : First) (u : List ℕ) → HasOpened m t u → HasFinished m t
opened_finished [] t u o = elim o [ ]
opened_finished (marks.Served.Finished s v ∷ m) t u o = elim o [ inl e ↦ inl e.0 | inr y ↦ inr (opened_finished m t u y) ]
opened_finished (marks.Served.Began s ∷ m) t u o = opened_finished m t u o
opened_finished (marks.Served.Refused s b ∷ m) t u o = opened_finished m t u o
opened_finished (marks.Served.Took v b reply ∷ m) t u o = opened_finished m t u o

-- A record begins no session.
begins_if : (b : Bool) (x : First) (v reply : List ℕ) (m : List Served) (t : First) → HasBegun (cond b (marks.Served.Finished x v ∷ []) (marks.Served.Refused x reply ∷ []) ++ m) t → HasBegun m t
begins_if true x v reply m t o = o
begins_if false x v reply m t o = o

begins_turn : (g : Stage) (r : RspSetup) (s : Events) (sealed : List ℕ) (turn : Turn) (reply : List ℕ) (m : List Served) (t : First) → HasBegun (served_turn g r s sealed turn reply ++ m) t → HasBegun m t
begins_turn stage.Handshake r s sealed turn reply m t o = begins_if (takes PSK_FINISH turn) (served_first s) (t2_of (Heard sealed turn reply ∷ s)) (reply_text turn) m t o
begins_turn stage.Open r s sealed turn reply m t o = o
begins_turn stage.Verifying r s sealed turn reply m t o = o

pub record_begins : (r : RspSetup) (s : Events) (sealed : List ℕ) (turn : Turn) (reply : List ℕ) (m : List Served) (t : First) → HasBegun (record_marks r s sealed turn reply ++ m) t → HasBegun m t
record_begins r [] sealed turn reply m t o = o
record_begins r (e ∷ s) sealed turn reply m t o = begins_turn (stage_of (e ∷ s)) r (e ∷ s) sealed turn reply m t o
