-- A round in a session: a record that asks something of it is on its way to the responder, and then the record that
-- answers it is on its way back.
use Rattle.std.proofs.Common.{◌≡◌, ◌≢◌, ◌∙◌, ℕ, ◌≤◌, ◌+◌, ◌==◌, List, [], ◌∷◌, ◌++◌, Bool, true, false, None, refl, sym, ap, subst, inl, inr, arith, eq-eqb, eqb-true}
use Rattle.std.proofs.lemmas.Bool.{false≢true}
use Rattle.std.proofs.lemmas.List.Elements.{Contains-append_right}
use Rattle.key_schedule.specs.Purpose.{Purpose}
use Rattle.key_schedule.specs.Purpose.Kind.{ApplicationRecord, HandshakeRecord}
use Rattle.key_schedule.specs.declared.direction.Direction.TheVariants.{Request}
use Rattle.spdm_grammar.specs.declared.told.phase.Stage.{Stage}
use Rattle.spdm_grammar.specs.declared.told.phase.Stage.TheVariants as stage
use Rattle.spdm_grammar.specs.Message.RequestMessage.{PskExchange}
use Rattle.spdm_grammar.specs.Requests.{IsSoundRequest}
use Rattle.spdm_machine.specs.Keys.{context_of}
use Rattle.spdm_machine.specs.Sessions.{is_past_handshake, purpose_in}
use Rattle.spdm_machine.specs.Terms.{Terms, hash_len, terms_of}
use Rattle.spdm_machine.specs.TagLog.{Log}
use Rattle.requester_machine.specs.Does as asking_does
use Rattle.requester_machine.specs.Does.{body_chosen, requester_hears}
use Rattle.requester_machine.specs.History as asked
use Rattle.requester_machine.specs.History.{Led, outstanding}
use Rattle.requester_machine.specs.History.Effect.{Grants}
use Rattle.requester_machine.specs.History.Entry.{TookRecord}
use Rattle.requester_machine.specs.Message.{Ask}
use Rattle.requester_machine.specs.Message.Ask.{AskBeat, AskChunk, AskData, AskEnd, AskFinish, AskMeasure, AskUpdate, AskVerify}
use Rattle.requester_machine.specs.Order.{stage_for}
use Rattle.requester_machine.specs.Records.{request_purpose}
use Rattle.requester_machine.specs.Session as steps
use Rattle.requester_machine.specs.Session.{Steps}
use Rattle.requester_machine.specs.Session.Step.{Asked, Took as TookAnswer}
use Rattle.requester_machine.specs.Setup.{ReqSetup}
use Rattle.responder_machine.specs.Does as serving_does
use Rattle.responder_machine.specs.Does.{record_chosen, record_does, responder_does}
use Rattle.responder_machine.specs.History as served
use Rattle.responder_machine.specs.Session as events
use Rattle.responder_machine.specs.Session.{Events, id_in_record}
use Rattle.responder_machine.specs.Setup.{RspSetup}
use Rattle.spdm_progress.specs.InStep.{AreQuiet, AreResting, IsResting, TookEarlier, WasSealed, rsp_id}
use Rattle.spdm_progress.proofs.AlikeSessions.{IsFetched, MayBring, is_kept, still_in_step}
use Rattle.spdm_progress.proofs.StillKept.{AreAlike, IsSameSession}

-- ---- Records that were sealed before.

-- Of a longer log.
pub was_sealed_on : (psk : List ℕ) (acts log : Log) (s : Steps) (sealed : List ℕ) → WasSealed psk log s sealed → WasSealed psk (acts ++ log) s sealed
was_sealed_on psk acts log s sealed w = record { purpose = w.purpose; number = w.number; made = Contains-append_right acts log _ w.made; other = w.other }

pub last_waited : (old new : Events) → IsSameSession old new → events.last_of new ≡ events.last_of old
last_waited old new (inl same) = ap events.last_of same
last_waited old new (inr x) = ap events.last_of x.2

pub live_waited : (old new : Events) → IsSameSession old new → events.is_live new ≡ events.is_live old
live_waited old new (inl same) = ap events.is_live same
live_waited old new (inr x) = ap events.is_live x.2 ∙ sym x.1

pub turns_waited : (old new : Events) → IsSameSession old new → events.turns_of new ≡ events.turns_of old
turns_waited old new (inl same) = ap events.turns_of same
turns_waited old new (inr x) = ap events.turns_of x.2

pub resting_on : (psk : List ℕ) (acts log : Log) (s : Steps) (old new : Events) → IsSameSession old new → AreResting psk log s old → AreResting psk (acts ++ log) s new
resting_on psk acts log s old new same k = record {
  in_step = still_in_step s old new same k.in_step;
  stage = k.stage;
  two_bytes = k.two_bytes;
  last = λ kept is. was_sealed_on psk acts log s kept.sealed (k.last kept (sym (last_waited old new same) ∙ is));
}

-- ---- Requests that were taken before.

-- Where neither the responder took another clear request, nor the requester settled anything anew.
pub earlier_on : (q : ReqSetup) (first : ℕ) (h h' : asked.History) (g g' : served.History) → served.kept_of g' ≡ served.kept_of g → asked.negotiation_of h' ≡ asked.negotiation_of h → asked.draws_of q h ≤ asked.draws_of q h' → TookEarlier q first h g → TookEarlier q first h' g'
earlier_on q first h h' g g' kept same more e = record {
  kept = λ k is x d fits sound context whole above below.
      (let terms : asked.connection_terms h' ≡ asked.connection_terms h = ap terms_of same in
      e.kept k (sym kept ∙ is) x d fits (subst (λ (t : Terms). IsSoundRequest (hash_len t) (PskExchange x)) terms sound) (context ∙ ap (λ (t : Terms). context_of t.choice.hash d) terms) whole (omega arith) below);
}

-- ---- The other sessions of a pair.

-- What holds beside the session of this id, whose RspSessionID is this one.
pub record Beside (q : ReqSetup) (r : RspSetup) (first id rid : ℕ) (log : Log) (h : asked.History) (g : served.History) : Type 0 where
  pub made : asking_does.IsMade q h
  pub made_there : serving_does.IsMade r g
  pub phase : asked.phase_of h ≡ served.phase_of (served.clear_turns g)
  pub negotiation : asked.negotiation_of h ≡ served.negotiation_of (served.clear_turns g)
  pub earlier : TookEarlier q first h g
  pub sessions : (j : ℕ) → j ≢ id → steps.is_live (steps.session_of j h) ≡ true → IsResting q.psk log h g j
  pub own : (j : ℕ) → j ≢ id → steps.is_live (steps.session_of j h) ≡ true → rsp_id (steps.session_of j h) ≢ rid
  pub apart : (i j : ℕ) → i ≢ j → i ≢ id → j ≢ id → steps.is_live (steps.session_of i h) ≡ true → steps.is_live (steps.session_of j h) ≡ true → rsp_id (steps.session_of i h) ≢ rsp_id (steps.session_of j h)

-- Of two quiet ends.
pub beside_quiet : (q : ReqSetup) (r : RspSetup) (first id : ℕ) (log : Log) (h : asked.History) (g : served.History) → AreQuiet q r first log h g → steps.is_live (steps.session_of id h) ≡ true → Beside q r first id (rsp_id (steps.session_of id h)) log h g
beside_quiet q r first id log h g k live = record {
  made = k.made;
  made_there = k.made_there;
  phase = k.phase;
  negotiation = k.negotiation;
  earlier = k.earlier;
  sessions = λ j other live_j. k.sessions j live_j;
  own = λ j other live_j. k.apart j id other live_j live;
  apart = λ i j differ i_other j_other live_i live_j. k.apart i j differ live_i live_j;
}

-- A session that rests is established at the responder.
pub resting_past : (psk : List ℕ) (log : Log) (s : Steps) (e : Events) → AreResting psk log s e → is_past_handshake (events.stage_of e) ≡ true
resting_past psk log s e k = ap is_past_handshake (sym k.in_step.stage ∙ k.stage)

-- What leaves the other sessions so: they are the same at the requester, and, past their handshake, at the responder but
-- for time.
pub record KeepsBeside (q : ReqSetup) (r : RspSetup) (first id rid : ℕ) (h h' : asked.History) (g g' : served.History) : Type 0 where
  pub made : asking_does.IsMade q h'
  pub made_there : serving_does.IsMade r g'
  pub phase : asked.phase_of h' ≡ asked.phase_of h
  pub phase_there : served.phase_of (served.clear_turns g') ≡ served.phase_of (served.clear_turns g)
  pub negotiation : asked.negotiation_of h' ≡ asked.negotiation_of h
  pub negotiation_there : served.negotiation_of (served.clear_turns g') ≡ served.negotiation_of (served.clear_turns g)
  pub earlier : TookEarlier q first h g → TookEarlier q first h' g'
  pub same : (j : ℕ) → j ≢ id → steps.session_of j h' ≡ steps.session_of j h
  pub same_there : (j : ℕ) → j ≢ rid → is_past_handshake (events.stage_of (events.session_of j g)) ≡ true → IsSameSession (events.session_of j g) (events.session_of j g')

live_before : (q : ReqSetup) (r : RspSetup) (first id rid : ℕ) (h h' : asked.History) (g g' : served.History) → KeepsBeside q r first id rid h h' g g' → (j : ℕ) → j ≢ id → steps.is_live (steps.session_of j h') ≡ true → steps.is_live (steps.session_of j h) ≡ true
live_before q r first id rid h h' g g' keeps j other live = sym (ap steps.is_live (keeps.same j other)) ∙ live

pub beside_on : (q : ReqSetup) (r : RspSetup) (first id rid : ℕ) (acts log : Log) (h h' : asked.History) (g g' : served.History) → KeepsBeside q r first id rid h h' g g' → Beside q r first id rid log h g → Beside q r first id rid (acts ++ log) h' g'
beside_on q r first id rid acts log h h' g g' keeps k = record {
  made = keeps.made;
  made_there = keeps.made_there;
  phase = keeps.phase ∙ k.phase ∙ sym keeps.phase_there;
  negotiation = keeps.negotiation ∙ k.negotiation ∙ sym keeps.negotiation_there;
  earlier = keeps.earlier k.earlier;
  sessions = λ j other live.
      subst (λ (s : Steps). AreResting q.psk (acts ++ log) s (events.session_of (rsp_id s) g')) (sym (keeps.same j other))
      (resting_on q.psk acts log (steps.session_of j h) (events.session_of (rsp_id (steps.session_of j h)) g) (events.session_of (rsp_id (steps.session_of j h)) g')
      (keeps.same_there (rsp_id (steps.session_of j h)) (k.own j other (live_before q r first id rid h h' g g' keeps j other live)) (resting_past _ _ _ _ (k.sessions j other (live_before q r first id rid h h' g g' keeps j other live)))) (k.sessions j other (live_before q r first id rid h h' g g' keeps j other live)));
  own = λ j other live. subst (λ (s : Steps). rsp_id s ≢ rid) (sym (keeps.same j other)) (k.own j other (live_before q r first id rid h h' g g' keeps j other live));
  apart = λ i j differ i_other j_other live_i live_j.
      subst (λ (s : Steps). rsp_id s ≢ rsp_id (steps.session_of j h')) (sym (keeps.same i i_other))
      (subst (λ (s : Steps). rsp_id (steps.session_of i h) ≢ rsp_id s) (sym (keeps.same j j_other)) (k.apart i j differ i_other j_other (live_before q r first id rid h h' g g' keeps i i_other live_i) (live_before q r first id rid h h' g g' keeps j j_other live_j)));
}

-- ---- The next record is under another purpose or number than one that was just taken.

past_purpose : (psk : List ℕ) (s : Steps) (n : ℕ) → steps.stage_of s ≡ stage.Open → (purpose_in (steps.stage_of s) psk (steps.t1_of s) (steps.t2_of s) Request n).epoch ≡ n
past_purpose psk s n here = ap (λ (g : Stage). (purpose_in g psk (steps.t1_of s) (steps.t2_of s) Request n).epoch) here

shake_kind : (psk : List ℕ) (s : Steps) (n : ℕ) → steps.stage_of s ≡ stage.Handshake → (purpose_in (steps.stage_of s) psk (steps.t1_of s) (steps.t2_of s) Request n).kind ≡ HandshakeRecord
shake_kind psk s n shakes = ap (λ (g : Stage). (purpose_in g psk (steps.t1_of s) (steps.t2_of s) Request n).kind) shakes

one_more : (n : ℕ) → n ≡ n + 1 → ⊥
one_more n e = omega arith

moves_on : (ask : Ask) (psk inner sealed reply reply_inner answer : List ℕ) (s : Steps) → is_kept ask ≡ true → steps.stage_of s ≡ stage_for ask
    → request_purpose psk s ≡ request_purpose psk (TookAnswer reply reply_inner (Grants ask answer) ∷ Asked ask inner sealed ∷ s) → steps.request_next s ≡ steps.request_next (TookAnswer reply reply_inner (Grants ask answer) ∷ Asked ask inner sealed ∷ s) → ⊥
moves_on AskFinish psk inner sealed reply reply_inner answer s kept at purpose number = kinds_differ (sym (shake_kind psk s (steps.request_epoch s) at) ∙ ap (λ (p : Purpose). p.kind) purpose)
  where
    kinds_differ : HandshakeRecord ≡ ApplicationRecord → ⊥
    kinds_differ e = cc
moves_on AskData psk inner sealed reply reply_inner answer s kept at purpose number = one_more (steps.request_next s) number
moves_on AskBeat psk inner sealed reply reply_inner answer s kept at purpose number = one_more (steps.request_next s) number
moves_on (AskUpdate all) psk inner sealed reply reply_inner answer s kept at purpose number =
    one_more (steps.request_epoch s) (sym (past_purpose psk s (steps.request_epoch s) at) ∙ ap (λ (p : Purpose). p.epoch) purpose)
moves_on AskVerify psk inner sealed reply reply_inner answer s kept at purpose number = one_more (steps.request_next s) number
moves_on (AskMeasure op) psk inner sealed reply reply_inner answer s kept at purpose number = one_more (steps.request_next s) number
moves_on (AskChunk op handle n before) psk inner sealed reply reply_inner answer s kept at purpose number = one_more (steps.request_next s) number
moves_on AskEnd psk inner sealed reply reply_inner answer s kept at purpose number = absurd (false≢true kept)

-- Whatever it brings about.
abbrev MovesOn : Ask → (psk inner sealed reply reply_inner : List ℕ) → Steps → asked.Effect → Type 0
MovesOn ask psk inner sealed reply reply_inner s brought = request_purpose psk s ≡ request_purpose psk (TookAnswer reply reply_inner brought ∷ Asked ask inner sealed ∷ s) → steps.request_next s ≡ steps.request_next (TookAnswer reply reply_inner brought ∷ Asked ask inner sealed ∷ s) → ⊥

fetched_moves : (ask : Ask) (psk inner sealed reply reply_inner : List ℕ) (s : Steps) (brought : asked.Effect) → IsFetched brought → MovesOn ask psk inner sealed reply reply_inner s brought
fetched_moves ask psk inner sealed reply reply_inner s brought (inl is) = subst (MovesOn ask psk inner sealed reply reply_inner s) (sym is) (λ purpose number. one_more (steps.request_next s) number)
fetched_moves ask psk inner sealed reply reply_inner s brought (inr is) = subst (MovesOn ask psk inner sealed reply reply_inner s) (sym is.2) (λ purpose number. one_more (steps.request_next s) number)

pub moves_so : (ask : Ask) (psk inner sealed reply reply_inner answer : List ℕ) (s : Steps) (brought : asked.Effect) → MayBring ask answer brought → is_kept ask ≡ true → steps.stage_of s ≡ stage_for ask → MovesOn ask psk inner sealed reply reply_inner s brought
moves_so AskFinish psk inner sealed reply reply_inner answer s brought may kept at = subst (MovesOn AskFinish psk inner sealed reply reply_inner s) (sym may) (moves_on AskFinish psk inner sealed reply reply_inner answer s kept at)
moves_so AskData psk inner sealed reply reply_inner answer s brought may kept at = subst (MovesOn AskData psk inner sealed reply reply_inner s) (sym may) (moves_on AskData psk inner sealed reply reply_inner answer s kept at)
moves_so AskBeat psk inner sealed reply reply_inner answer s brought may kept at = subst (MovesOn AskBeat psk inner sealed reply reply_inner s) (sym may) (moves_on AskBeat psk inner sealed reply reply_inner answer s kept at)
moves_so (AskUpdate all) psk inner sealed reply reply_inner answer s brought may kept at = subst (MovesOn (AskUpdate all) psk inner sealed reply reply_inner s) (sym may) (moves_on (AskUpdate all) psk inner sealed reply reply_inner answer s kept at)
moves_so AskVerify psk inner sealed reply reply_inner answer s brought may kept at = subst (MovesOn AskVerify psk inner sealed reply reply_inner s) (sym may) (moves_on AskVerify psk inner sealed reply reply_inner answer s kept at)
moves_so (AskMeasure op) psk inner sealed reply reply_inner answer s brought may kept at = fetched_moves (AskMeasure op) psk inner sealed reply reply_inner s brought may
moves_so (AskChunk op handle n before) psk inner sealed reply reply_inner answer s brought may kept at = fetched_moves (AskChunk op handle n before) psk inner sealed reply reply_inner s brought may
moves_so AskEnd psk inner sealed reply reply_inner answer s brought may kept at = absurd (false≢true kept)

-- ---- Quiet again.

resting_of : (q : ReqSetup) (r : RspSetup) (first id rid : ℕ) (log : Log) (h : asked.History) (g : served.History) → Beside q r first id rid log h g → (steps.is_live (steps.session_of id h) ≡ true → IsResting q.psk log h g id) → (j : ℕ) → (b : Bool) → (j == id) ≡ b
    → steps.is_live (steps.session_of j h) ≡ true → IsResting q.psk log h g j
resting_of q r first id rid log h g k own j true same live =
    let e = eqb-true j id same in
    subst (IsResting q.psk log h g) (sym e) (own (ap (λ (i : ℕ). steps.is_live (steps.session_of i h)) (sym e) ∙ live))
resting_of q r first id rid log h g k own j false other live = k.sessions j (λ e. false≢true (sym other ∙ eq-eqb j id e)) live

apart_of : (q : ReqSetup) (r : RspSetup) (first id rid : ℕ) (log : Log) (h : asked.History) (g : served.History) → Beside q r first id rid log h g → (steps.is_live (steps.session_of id h) ≡ true → rsp_id (steps.session_of id h) ≡ rid) → (i j : ℕ) → (a b : Bool) → (i == id) ≡ a → (j == id) ≡ b → i ≢ j
    → steps.is_live (steps.session_of i h) ≡ true → steps.is_live (steps.session_of j h) ≡ true → rsp_id (steps.session_of i h) ≢ rsp_id (steps.session_of j h)
apart_of q r first id rid log h g k own i j true true e f differ live_i live_j = absurd (differ (eqb-true i id e ∙ sym (eqb-true j id f)))
apart_of q r first id rid log h g k own i j true false e f differ live_i live_j = λ same.
    let is = eqb-true i id e in
    let mine : rsp_id (steps.session_of i h) ≡ rid = ap (λ (n : ℕ). rsp_id (steps.session_of n h)) is ∙ own (ap (λ (n : ℕ). steps.is_live (steps.session_of n h)) (sym is) ∙ live_i) in
    k.own j (λ z. false≢true (sym f ∙ eq-eqb j id z)) live_j (sym same ∙ mine)
apart_of q r first id rid log h g k own i j false true e f differ live_i live_j = λ same.
    let is = eqb-true j id f in
    let mine : rsp_id (steps.session_of j h) ≡ rid = ap (λ (n : ℕ). rsp_id (steps.session_of n h)) is ∙ own (ap (λ (n : ℕ). steps.is_live (steps.session_of n h)) (sym is) ∙ live_j) in
    k.own i (λ z. false≢true (sym e ∙ eq-eqb i id z)) live_i (same ∙ mine)
apart_of q r first id rid log h g k own i j false false e f differ live_i live_j =
    k.apart i j differ (λ z. false≢true (sym e ∙ eq-eqb i id z)) (λ z. false≢true (sym f ∙ eq-eqb j id z)) live_i live_j

-- Where nothing is outstanding, and the session of this id is gone or rests at both ends too.
pub quiet_from : (q : ReqSetup) (r : RspSetup) (first id rid : ℕ) (log : Log) (h : asked.History) (g : served.History) → Beside q r first id rid log h g → outstanding h ≡ None
    → (steps.is_live (steps.session_of id h) ≡ true → (rsp_id (steps.session_of id h) ≡ rid) × IsResting q.psk log h g id) → AreQuiet q r first log h g
quiet_from q r first id rid log h g k none own = record {
  made = k.made;
  made_there = k.made_there;
  none = none;
  phase = k.phase;
  negotiation = k.negotiation;
  earlier = k.earlier;
  sessions = λ j live. resting_of q r first id rid log h g k (λ l. (own l).1) j (j == id) refl live;
  apart = λ i j differ live_i live_j. apart_of q r first id rid log h g k (λ l. (own l).0) i j (i == id) (j == id) refl refl differ live_i live_j;
}

-- Queued data and time leave two quiet ends so.
pub quiet_still : (q : ReqSetup) (r : RspSetup) (first : ℕ) (log : Log) (h : asked.History) (g later : served.History) → AreAlike r g later → AreQuiet q r first log h g → AreQuiet q r first log h later
quiet_still q r first log h g later alike k = record {
  made = k.made;
  made_there = alike.made k.made_there;
  none = k.none;
  phase = k.phase ∙ sym alike.clear.phase;
  negotiation = k.negotiation ∙ sym alike.clear.negotiation;
  earlier = earlier_on q first h h g later alike.clear.kept refl (omega arith) k.earlier;
  sessions = λ id live. resting_on q.psk [] log (steps.session_of id h) _ _ (alike.sessions (rsp_id (steps.session_of id h))) (k.sessions id live);
  apart = k.apart;
}

-- A requester that moved on, but not in its sessions nor in what it settled, is quiet with the same connection.
pub quiet_moved : (q : ReqSetup) (r : RspSetup) (first : ℕ) (acts log : Log) (h h' : asked.History) (g : served.History) → asking_does.IsMade q h' → outstanding h' ≡ None → asked.phase_of h' ≡ asked.phase_of h → asked.negotiation_of h' ≡ asked.negotiation_of h
    → asked.draws_of q h ≤ asked.draws_of q h' → ((j : ℕ) → steps.session_of j h' ≡ steps.session_of j h) → AreQuiet q r first log h g → AreQuiet q r first (acts ++ log) h' g
quiet_moved q r first acts log h h' g made none phase negotiation draws same k = record {
  made = made;
  made_there = k.made_there;
  none = none;
  phase = phase ∙ k.phase;
  negotiation = negotiation ∙ k.negotiation;
  earlier = earlier_on q first h h' g g refl negotiation draws k.earlier;
  sessions = λ j live.
      subst (λ (s : Steps). AreResting q.psk (acts ++ log) s (events.session_of (rsp_id s) g)) (sym (same j))
      (resting_on q.psk acts log (steps.session_of j h) (events.session_of (rsp_id (steps.session_of j h)) g) (events.session_of (rsp_id (steps.session_of j h)) g) (inl refl) (k.sessions j (sym (ap steps.is_live (same j)) ∙ live)));
  apart = λ i j differ live_i live_j.
      subst (λ (s : Steps). rsp_id s ≢ rsp_id (steps.session_of j h')) (sym (same i)) (subst (λ (s : Steps). rsp_id (steps.session_of i h) ≢ rsp_id s) (sym (same j)) (k.apart i j differ (sym (ap steps.is_live (same i)) ∙ live_i) (sym (ap steps.is_live (same j)) ∙ live_j)));
}

-- A responder that took a clear request which neither begins a session nor settles anything is quiet with the requester.
pub quiet_there : (q : ReqSetup) (r : RspSetup) (first : ℕ) (acts log : Log) (h : asked.History) (g g' : served.History) → serving_does.IsMade r g' → served.phase_of (served.clear_turns g') ≡ served.phase_of (served.clear_turns g)
    → served.negotiation_of (served.clear_turns g') ≡ served.negotiation_of (served.clear_turns g) → TookEarlier q first h g' → ((j : ℕ) → events.session_of j g' ≡ events.session_of j g) → AreQuiet q r first log h g → AreQuiet q r first (acts ++ log) h g'
quiet_there q r first acts log h g g' made phase negotiation earlier same k = record {
  made = k.made;
  made_there = made;
  none = k.none;
  phase = k.phase ∙ sym phase;
  negotiation = k.negotiation ∙ sym negotiation;
  earlier = earlier;
  sessions = λ j live. resting_on q.psk acts log (steps.session_of j h) (events.session_of (rsp_id (steps.session_of j h)) g) (events.session_of (rsp_id (steps.session_of j h)) g') (inl (same (rsp_id (steps.session_of j h)))) (k.sessions j live);
  apart = k.apart;
}

-- A longer log changes nothing.
pub quiet_longer : (q : ReqSetup) (r : RspSetup) (first : ℕ) (acts log : Log) (h : asked.History) (g : served.History) → AreQuiet q r first log h g → AreQuiet q r first (acts ++ log) h g
quiet_longer q r first acts log h g k = quiet_there q r first acts log h g g k.made_there refl refl k.earlier (λ j. refl) k
