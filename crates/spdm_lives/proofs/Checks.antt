-- A tag that an end compared belongs to a session of its own history. No premise of chance is needed.
use Rattle.std.proofs.Common.{◌≡◌, ◌⊎◌, ℕ, List, [], ◌∷◌, ◌++◌, drop, Bool, true, false, cond, Option, Some, None, Result, Ok, is_none, ◌==◌, ◌&&◌, refl, ap, ◌∙◌, subst, inl, inr, eq-eqb}
use Rattle.std.specs.Prelude.{slice_index}
use Rattle.key_schedule.specs.Purpose.{Purpose, Kind}
use Rattle.key_schedule.specs.Purpose.Kind.{Verify, HandshakeRecord, ApplicationRecord}
use Rattle.key_schedule.specs.declared.direction.Direction.{Direction}
use Rattle.key_schedule.specs.declared.direction.Direction.TheVariants.{Request, Response}
use Rattle.requester_machine.proofs.MadeOrder.{in_order}
use Rattle.requester_machine.specs.Answers.{with_answer}
use Rattle.requester_machine.specs.Asking as asking
use Rattle.requester_machine.specs.ClearAnswers.{Carried, carried_by, reading_of}
use Rattle.requester_machine.specs.ClearAnswers.Carried.{Whole}
use Rattle.requester_machine.specs.Does as asks
use Rattle.requester_machine.specs.History as asked
use Rattle.requester_machine.specs.History.{Effect}
use Rattle.requester_machine.specs.History.Effect.{Answers}
use Rattle.requester_machine.specs.History.Entry.{Told, TookClear, TookRecord}
use Rattle.requester_machine.specs.InnerMessages.{with_record}
use Rattle.requester_machine.specs.Message.{Aim, Ask, Content, Sent, asked_in}
use Rattle.requester_machine.specs.Message.Aim.{InSession}
use Rattle.requester_machine.specs.Message.Content.{Clear as InClear, Sealed as InRecord}
use Rattle.requester_machine.specs.Order.{Waits, waits_for, waits_aim}
use Rattle.requester_machine.specs.Order.Waits.{ForRecord, Rests}
use Rattle.requester_machine.specs.Records.{answer_purpose, asks_all}
use Rattle.requester_machine.specs.RequesterLog as asked_log
use Rattle.requester_machine.specs.Session as requester
use Rattle.requester_machine.specs.Setup.{ReqSetup}
use Rattle.responder_machine.specs.Answer.{Free, request_at}
use Rattle.responder_machine.specs.Does as serves
use Rattle.responder_machine.specs.History as served
use Rattle.responder_machine.specs.History.Entry.{Clear, Sealed, Queued, Ticked, Dropped}
use Rattle.responder_machine.specs.Handling.{turn_of}
use Rattle.responder_machine.specs.Place.{clear_place, session_place}
use Rattle.responder_machine.specs.Records.{opening_fault, opened, reply_record, request_purpose}
use Rattle.responder_machine.specs.Refusal.{refused_form}
use Rattle.responder_machine.specs.Responder.{Outcome, on_clear, on_record, to_session, in_session, in_session_by, is_repeat, repeats, inner_refusal, inner_reply, session_turn}
use Rattle.responder_machine.specs.ResponderLog as served_log
use Rattle.responder_machine.specs.Session as responder
use Rattle.responder_machine.specs.Setup.{RspSetup}
use Rattle.responder_machine.specs.Turn.{Turn, takes}
use Rattle.spdm_agreement.proofs.Messages.Beginnings as sessions
use Rattle.spdm_agreement.proofs.Messages.Beginnings.{transcript_of}
use Rattle.spdm_agreement.proofs.Requester.OpenSessions.{asked_stands}
use Rattle.spdm_agreement.proofs.Requester.RecordsTaken.{held_at}
use Rattle.spdm_agreement.proofs.Requester.Waiting as requester_steady
use Rattle.spdm_agreement.proofs.Requester.Waiting.{live_made, recording}
use Rattle.spdm_agreement.proofs.Responder.FinishPlace as responder_steady
use Rattle.spdm_agreement.proofs.Responder.OpenSessions.{served_stands}
use Rattle.spdm_agreement.proofs.Worlds.Behind.{accepted_old, opened_old, begun_old, served_old, open_opened, held_opened}
use Rattle.spdm_agreement.specs.Marks.{Asked, Served, IsAccepted, IsOpened, HasBegun, HasOpened}
use Rattle.spdm_agreement.specs.Moves.{IsPassed}
use Rattle.spdm_agreement.specs.Reading.{First}
use Rattle.spdm_agreement.specs.Story.{no_past, asked_marks, asked_first, served_marks, served_first}
use Rattle.spdm_grammar.specs.Message.{RequestMessage, ResponseMessage}
use Rattle.spdm_grammar.specs.Message.RequestMessage.{PskExchange, PskFinish}
use Rattle.spdm_grammar.specs.Message.ResponseMessage.{PskExchangeRsp}
use Rattle.spdm_grammar.specs.declared.messages.malformed.Malformed.{Malformed}
use Rattle.spdm_grammar.specs.declared.names.message_type.TheConstants.{SPDM}
use Rattle.spdm_grammar.specs.declared.names.request_code.TheConstants.{PSK_EXCHANGE}
use Rattle.spdm_grammar.specs.declared.told.event.ReqIgnored.{ReqIgnored}
use Rattle.spdm_grammar.specs.declared.told.event.ReqIgnored.TheVariants as ignored
use Rattle.spdm_grammar.specs.declared.told.phase.Phase.{Phase}
use Rattle.spdm_grammar.specs.declared.told.phase.Stage.{Stage}
use Rattle.spdm_grammar.specs.declared.told.phase.Stage.TheVariants as stage
use Rattle.spdm_basis.specs.declared.causes.record_fault.RecordFault.{RecordFault}
use Rattle.spdm_lives.proofs.RequesterSessions.{accepted_marked, ordered_accepted}
use Rattle.spdm_lives.proofs.ResponderSessions.{sessions_well}
use Rattle.spdm_machine.specs.Keys.{Draw}
use Rattle.spdm_machine.specs.Sessions.{is_past_handshake, purpose_in}
use Rattle.spdm_machine.specs.TagLog.{Log}
use Rattle.spdm_machine.specs.TagLog.Act.{Made, Checked}

-- ---- Comparisons among acts.

pub passed_in : (p : Purpose) (i : List ℕ) (a b : Log) → IsPassed p i (a ++ b) → IsPassed p i a ⊎ IsPassed p i b
passed_in p i [] b x = inr x
passed_in p i (Made q j v ∷ a) b x = passed_in p i a b x
passed_in p i (Checked q j v w ∷ a) b x = elim x [ inl e ↦ inl (inl e) | inr y ↦ elim (passed_in p i a b y) [ inl z ↦ inl (inr z) | inr z ↦ inr z ] ]

-- All that was compared in these acts was compared for this.
pub record AllFor (Here : Purpose → Type 0) (acts : Log) : Type 0 where
  pub all : (p : Purpose) (i : List ℕ) → IsPassed p i acts → Here p

nothing : (Here : Purpose → Type 0) → AllFor Here []
nothing Here = record { all = λ p i x. absurd x }

one : (Here : Purpose → Type 0) (q : Purpose) (j v w : List ℕ) → Here q → AllFor Here (Checked q j v w ∷ [])
one Here q j v w h = record { all = λ p i x. elim x [ inl e ↦ subst Here e.0 h | inr y ↦ absurd y ] }

one_if : (Here : Purpose → Type 0) (b : Bool) (q : Purpose) (j v w : List ℕ) → Here q → AllFor Here (cond b (Checked q j v w ∷ []) [])
one_if Here true q j v w h = one Here q j v w h
one_if Here false q j v w h = nothing Here

both : (Here : Purpose → Type 0) (a b : Log) → AllFor Here a → AllFor Here b → AllFor Here (a ++ b)
both Here a b x y = record { all = λ p i z. elim (passed_in p i a b z) [ inl w ↦ x.all p i w | inr w ↦ y.all p i w ] }

made : (Here : Purpose → Type 0) (q : Purpose) (j v : List ℕ) (a : Log) → AllFor Here a → AllFor Here (Made q j v ∷ a)
made Here q j v a x = record { all = λ p i z. x.all p i z }

either : (Here : Purpose → Type 0) (b : Bool) (x y : Log) → AllFor Here x → AllFor Here y → AllFor Here (cond b x y)
either Here true x y f g = f
either Here false x y f g = g

-- ---- The requester.

-- A tag is one of a session of the requester: it accepted the session, or opened it; verify data that it compares are those
-- of the responder.
abbrev pub IsAskedAs : List Asked → Kind → Direction → (transcript : List ℕ) → Type 0
IsAskedAs m Verify Response t1 = Unit {0}
IsAskedAs m HandshakeRecord Response t1 = (t : First) × IsAccepted m t × (transcript_of t ≡ t1)
IsAskedAs m ApplicationRecord Response u = (t : First) × IsOpened m t u
IsAskedAs m kind Request t1 = ⊥

abbrev pub IsAsked : ReqSetup → List Asked → Purpose → Type 0
IsAsked q m p = (p.psk ≡ q.psk) × IsAskedAs m p.kind p.direction p.transcript

asked_more : (new m : List Asked) (kind : Kind) (direction : Direction) (t1 : List ℕ) → IsAskedAs m kind direction t1 → IsAskedAs (new ++ m) kind direction t1
asked_more new m Verify Response t1 a = tt
asked_more new m Verify Request t1 a = absurd a
asked_more new m HandshakeRecord Response t1 a = (a.0, accepted_old new m a.0 a.1, a.2)
asked_more new m HandshakeRecord Request t1 a = absurd a
asked_more new m ApplicationRecord Response t1 a = (a.0, opened_old new m a.0 t1 a.1)
asked_more new m ApplicationRecord Request t1 a = absurd a

pub asked_later : (q : ReqSetup) (new m : List Asked) (p : Purpose) → IsAsked q m p → IsAsked q (new ++ m) p
asked_later q new m p a = (a.0, asked_more new m p.kind p.direction p.transcript a.1)

staged_asked : (q : ReqSetup) (g : Stage) (s : requester.Steps) (m : List Asked) (e : ℕ) → IsAccepted m (asked_first s) → (is_past_handshake g ≡ true → IsOpened m (asked_first s) (requester.t2_of s))
    → IsAsked q m (purpose_in g q.psk (requester.t1_of s) (requester.t2_of s) Response e)
staged_asked q stage.Handshake s m e a o = (refl, (asked_first s, a, refl))
staged_asked q stage.Open s m e a o = (refl, (asked_first s, o refl))
staged_asked q stage.Verifying s m e a o = (refl, (asked_first s, o refl))

either_asked : (q : ReqSetup) (m : List Asked) (b : Bool) (x y : Purpose) → IsAsked q m x → IsAsked q m y → IsAsked q m (cond b x y)
either_asked q m true x y a c = a
either_asked q m false x y a c = c

module _ (q : ReqSetup) (h : asked.History) (is : asks.IsMade q h) where
  abbrev Here : Purpose → Type 0
  Here = IsAsked q (asked_marks q h)

  -- The session that was asked something was accepted.
  waiting_session : (x : Sent) (id : ℕ) (ask : Ask) → asked.outstanding h ≡ Some x → x.aim ≡ InSession id ask → (requester.is_live (requester.session_of id h) ≡ true) × (requester.is_accepted (requester.session_of id h) ≡ true)
  waiting_session x id ask waits aims =
      let w : waits_for id (asked.outstanding h) ≡ ForRecord ask = ap (waits_for id) waits ∙ ap (waits_aim id) aims ∙ ap (λ (b : Bool). cond b (ForRecord ask) Rests) (eq-eqb id id refl) in
      let live = live_made q h is id in
      let asks = recording (waits_for id (asked.outstanding h)) ask (requester.session_of id h) w live (in_order q h id is).fits in
      (subst (λ (y : Waits). requester_steady.LiveAs y (requester.session_of id h)) w live, ordered_accepted (requester.session_of id h) ask (in_order q h id is).ordered asks)

  purpose_here : (id : ℕ) (ask : Ask) → (requester.is_live (requester.session_of id h) ≡ true) × (requester.is_accepted (requester.session_of id h) ≡ true) → Here (answer_purpose q.psk (requester.session_of id h) ask)
  purpose_here id ask k =
      let s = requester.session_of id h in
      let at = staged_asked q (requester.stage_of s) s (asked_marks q h) (requester.response_epoch s) (accepted_marked q h is id k.1)
      (λ past. open_opened (sessions.reading_of q.psk) id (asked_marks q h) (asked_first s) (requester.t2_of s) ((asked_stands no_past q.psk q h (requester_steady.made_steady q h is) id).told (held_at s k.0 past))) in
      either_asked q (asked_marks q h) (asks_all ask) _ _ at at

  -- A record.
  aim_here : (x : Sent) (aim : Aim) (sealed : List ℕ) → asked.outstanding h ≡ Some x → x.aim ≡ aim → AllFor Here (asked_log.check_at q h sealed aim)
  aim_here x (InSession id ask) sealed waits aims = one_if Here _ _ _ _ _ (purpose_here id ask (waiting_session x id ask waits aims))
  aim_here x _ sealed waits aims = nothing Here

  sealed_here : (o : Option Sent) (sealed : List ℕ) → asked.outstanding h ≡ o → AllFor Here (asked_log.sealed_check q h sealed o)
  sealed_here None sealed waits = nothing Here
  sealed_here (Some x) sealed waits = aim_here x x.aim sealed waits refl

  -- Verify data of the responder.
  read_here : (asked : RequestMessage) (answer : List ℕ) (r : Result ResponseMessage Malformed) → AllFor Here (asked_log.read_check q h asked answer r)
  read_here (PskExchange exchange) answer (Ok (PskExchangeRsp rsp)) = one Here _ _ _ _ (refl, tt)
  read_here _ answer _ = nothing Here

  carried_here : (asked : RequestMessage) (c : Carried) → AllFor Here (asked_log.carried_check q h asked c)
  carried_here asked (Whole answer place) = read_here asked answer (reading_of h asked answer)
  carried_here asked _ = nothing Here

  asked_here : (m : List ℕ) (aim : Aim) (o : Option RequestMessage) → AllFor Here (asked_log.aim_check q h m aim o)
  asked_here m aim None = nothing Here
  asked_here m aim (Some asked) = carried_here asked (carried_by q h m aim)

  clear_here : (m : List ℕ) (o : Option Sent) → AllFor Here (asked_log.clear_check q h m o)
  clear_here m None = nothing Here
  clear_here m (Some x) = asked_here m x.aim (asked_in x.aim)

  ignored_here : (body : List ℕ) (cause : ReqIgnored) → AllFor Here (asked_log.ignored_acts q h body cause)
  ignored_here body ignored.BadVerify = clear_here (drop 1 body) (asked.outstanding h)
  ignored_here body (ignored.Record fault) = sealed_here (asked.outstanding h) (drop 1 body) refl
  ignored_here body _ = nothing Here

  -- What is made is not compared.
  record_makes : (s : requester.Steps) (c : Content) → AllFor Here (asked_log.record_made q.psk s c)
  record_makes s (InClear message) = nothing Here
  record_makes s (InRecord sealed inner pad) = made Here _ _ _ [] (nothing Here)

  sent_makes : (s : requester.Steps) (o : Option Sent) → AllFor Here (asked_log.sent_made q.psk s o)
  sent_makes s None = nothing Here
  sent_makes s (Some x) = record_makes s x.content

  answer_makes : (effect : Effect) (next : Option Sent) → AllFor Here (asked_log.answer_made q.psk h effect next)
  answer_makes (Answers (PskExchange exchange) answer) next = both Here (asked_log.sent_made q.psk (with_answer h exchange answer) next) (asked_log.finish_made q.psk (with_answer h exchange answer) ∷ []) (sent_makes (with_answer h exchange answer) next) (made Here _ _ _ [] (nothing Here))
  answer_makes (Answers _ answer) next = nothing Here
  answer_makes _ next = nothing Here

  pub asked_checks : (body : List ℕ) (o : asking.Outcome) → AllFor Here (asked_log.acts_of q h body o)
  asked_checks body (asking.Outcome.Fails fault) = nothing Here
  asked_checks body (asking.Outcome.Ignores cause) = ignored_here body cause
  asked_checks body (asking.Outcome.Warns code) = nothing Here
  asked_checks body (asking.Outcome.Resends sent) = nothing Here
  asked_checks body (asking.Outcome.Adds (Told command sent d)) = record_makes (asked_log.steps_at h sent.aim) sent.content
  asked_checks body (asking.Outcome.Adds (TookClear tag m led d)) = both Here _ _ (answer_makes led.effect led.next) (clear_here m (asked.outstanding h))
  asked_checks body (asking.Outcome.Adds (TookRecord tag id sealed inner led d)) = both Here _ _ (sent_makes (with_record (record { id = id; steps = requester.session_of id h; sealed = sealed; inner = inner }) led.effect) led.next) (sealed_here (asked.outstanding h) sealed refl)

-- ---- The responder.

-- A tag is one of a session of the responder: it began the session, or opened it; it is one of the requester.
abbrev pub IsServedAs : List Served → Kind → Direction → (transcript : List ℕ) → Type 0
IsServedAs m Verify Request t1 = (t : First) × HasBegun m t × (transcript_of t ≡ t1)
IsServedAs m HandshakeRecord Request t1 = (t : First) × HasBegun m t × (transcript_of t ≡ t1)
IsServedAs m ApplicationRecord Request u = (t : First) × HasOpened m t u
IsServedAs m kind Response t1 = ⊥

abbrev pub IsServed : RspSetup → List Served → Purpose → Type 0
IsServed r m p = (p.psk ≡ r.psk) × IsServedAs m p.kind p.direction p.transcript

served_more : (new m : List Served) (kind : Kind) (direction : Direction) (t1 : List ℕ) → IsServedAs m kind direction t1 → IsServedAs (new ++ m) kind direction t1
served_more new m Verify Request t1 a = (a.0, begun_old new m a.0 a.1, a.2)
served_more new m Verify Response t1 a = absurd a
served_more new m HandshakeRecord Request t1 a = (a.0, begun_old new m a.0 a.1, a.2)
served_more new m HandshakeRecord Response t1 a = absurd a
served_more new m ApplicationRecord Request t1 a = (a.0, served_old new m a.0 t1 a.1)
served_more new m ApplicationRecord Response t1 a = absurd a

pub served_later : (r : RspSetup) (new m : List Served) (p : Purpose) → IsServed r m p → IsServed r (new ++ m) p
served_later r new m p a = (a.0, served_more new m p.kind p.direction p.transcript a.1)

staged_served : (r : RspSetup) (g : Stage) (s : responder.Events) (m : List Served) (e : ℕ) → HasBegun m (served_first s) → (is_past_handshake g ≡ true → HasOpened m (served_first s) (responder.t2_of s))
    → IsServed r m (purpose_in g r.psk (responder.t1_of s) (responder.t2_of s) Request e)
staged_served r stage.Handshake s m e b o = (refl, (served_first s, b, refl))
staged_served r stage.Open s m e b o = (refl, (served_first s, o refl))
staged_served r stage.Verifying s m e b o = (refl, (served_first s, o refl))

pub held_there : (s : responder.Events) → responder.is_live s ≡ true → is_past_handshake (responder.stage_of s) ≡ true → (responder.is_live s && is_past_handshake (responder.stage_of s)) ≡ true
held_there [] l p = l
held_there (e ∷ s) l p = p

module _ (r : RspSetup) (h : served.History) (is : serves.IsMade r h) where
  abbrev There : Purpose → Type 0
  There = IsServed r (served_marks r h)

  began_there : (id : ℕ) → responder.is_live (responder.session_of id h) ≡ true → HasBegun (served_marks r h) (served_first (responder.session_of id h))
  began_there id live = (sessions_well r h id).began live

  request_there : (id : ℕ) → responder.is_live (responder.session_of id h) ≡ true → There (request_purpose r.psk (responder.session_of id h))
  request_there id live =
      let s = responder.session_of id h in
      staged_served r (responder.stage_of s) s (served_marks r h) (responder.request_epoch s) (began_there id live)
      (λ past. held_opened (sessions.reading_of r.psk) id (served_marks r h) (served_first s) (responder.t2_of s) ((served_stands no_past r.psk r h (responder_steady.made_steady r h is) id).told (held_there s live past)))

  record_there : (id : ℕ) (sealed : List ℕ) → responder.is_live (responder.session_of id h) ≡ true → AllFor There (served_log.record_check r (responder.session_of id h) sealed)
  record_there id sealed live = either There (responder.is_spent (responder.session_of id h)) _ _ (nothing There) (one_if There _ _ _ _ _ (request_there id live))

  finish_there : (id : ℕ) (m : List ℕ) (o : Option RequestMessage) → responder.is_live (responder.session_of id h) ≡ true → AllFor There (served_log.finish_check r (responder.session_of id h) m o)
  finish_there id m (Some (PskFinish received)) live = one There _ _ _ _ (refl, (served_first (responder.session_of id h), began_there id live, refl))
  finish_there id m _ live = nothing There

  inner_there : (id : ℕ) (inner : List ℕ) → responder.is_live (responder.session_of id h) ≡ true → AllFor There (served_log.inner_acts r (responder.session_of id h) inner)
  inner_there id inner live =
      let s = responder.session_of id h in
      either There (is_none (inner_refusal (responder.stage_of s) inner) && (slice_index inner 0 == SPDM)) _ _
      (either There (is_none (refused_form r (session_place s) (drop 1 inner))) _ _ (finish_there id (drop 1 inner) (request_at (session_place s) (drop 1 inner)) live) (nothing There)) (nothing There)

  opened_there : (id : ℕ) (sealed : List ℕ) (t : Turn) (reply : List ℕ) → responder.is_live (responder.session_of id h) ≡ true → AllFor There (served_log.opened_acts r (responder.session_of id h) sealed t reply)
  opened_there id sealed t reply live = made There _ _ _ _ (both There _ _ (inner_there id (opened r.psk (responder.session_of id h) sealed) live) (record_there id sealed live))

  unopened_by : (s : responder.Events) (id : ℕ) (sealed : List ℕ) → responder.session_of id h ≡ s → AllFor There (served_log.unopened_acts r s sealed)
  unopened_by [] id sealed e = nothing There
  unopened_by (x ∷ s) id sealed e = subst (λ (y : responder.Events). AllFor There (served_log.record_check r y sealed)) e (record_there id sealed (ap responder.is_live e))

  clear_there : (t : Turn) (b : Bool) → AllFor There (cond b (served_log.response_made r (served_log.began_by h t) ∷ []) [])
  clear_there t true = made There _ _ _ [] (nothing There)
  clear_there t false = nothing There

  -- An outcome that compares tags of sessions of its history alone.
  abbrev IsFine : List ℕ → Outcome → Type 0
  IsFine body o = AllFor There (served_log.acts_of r h body o)

  fine_if : (body : List ℕ) (b : Bool) (x y : Outcome) → IsFine body x → IsFine body y → IsFine body (cond b x y)
  fine_if body true x y f g = f
  fine_if body false x y f g = g

  clear_fine : (body : List ℕ) (tag : ℕ) (m : List ℕ) (f : Free) (d : Draw) → IsFine body (on_clear r h tag m f d)
  unfolding on_clear
  clear_fine body tag m f d = fine_if body (is_repeat (served.kept_of h) tag m) _ _ (nothing There) (clear_there (turn_of r (clear_place h) m f) (takes PSK_EXCHANGE (turn_of r (clear_place h) m f)))

  by_fine : (body : List ℕ) (phase : Phase) (s : responder.Events) (f : Free) (tag : ℕ) (sealed : List ℕ) (d : Draw) (o : Option RecordFault) → sealed ≡ drop 1 body → responder.session_of (responder.id_in_record sealed) h ≡ s → responder.is_live s ≡ true
      → IsFine body (in_session_by r phase s f tag sealed d o)
  by_fine body phase s f tag sealed d (Some fault) whole e live =
      subst (λ (l : List ℕ). AllFor There (served_log.unopened_acts r (responder.session_of (responder.id_in_record l) h) l)) whole (unopened_by (responder.session_of (responder.id_in_record sealed) h) (responder.id_in_record sealed) sealed refl)
  by_fine body phase s f tag sealed d None whole e live =
      let t = session_turn r s (opened r.psk s sealed) f in
      opened_there (responder.id_in_record sealed) sealed t (reply_record r.psk s t (inner_reply t) f.pad) (ap responder.is_live e ∙ live)

  in_fine : (body : List ℕ) (phase : Phase) (s : responder.Events) (f : Free) (tag : ℕ) (sealed : List ℕ) (d : Draw) → sealed ≡ drop 1 body → responder.session_of (responder.id_in_record sealed) h ≡ s → responder.is_live s ≡ true
      → IsFine body (in_session r phase s f tag sealed d)
  unfolding in_session
  in_fine body phase s f tag sealed d whole e live = by_fine body phase s f tag sealed d (opening_fault r.psk s sealed) whole e live

  to_fine : (body : List ℕ) (phase : Phase) (s : responder.Events) (f : Free) (tag : ℕ) (sealed : List ℕ) (d : Draw) → sealed ≡ drop 1 body → responder.session_of (responder.id_in_record sealed) h ≡ s → IsFine body (to_session r phase s f tag sealed d)
  to_fine body phase [] f tag sealed d whole e =
      subst (λ (l : List ℕ). AllFor There (served_log.unopened_acts r (responder.session_of (responder.id_in_record l) h) l)) whole (unopened_by (responder.session_of (responder.id_in_record sealed) h) (responder.id_in_record sealed) sealed refl)
  to_fine body phase (x ∷ s) f tag sealed d whole e = fine_if body (repeats (responder.last_of (x ∷ s)) sealed) _ _ (nothing There) (in_fine body phase (x ∷ s) f tag sealed d whole e refl)

  record_fine : (body : List ℕ) (tag : ℕ) (sealed : List ℕ) (f : Free) (d : Draw) → sealed ≡ drop 1 body → IsFine body (on_record r h tag sealed f d)
  unfolding on_record
  record_fine body tag sealed f d whole =
      fine_if body (repeats (served.ended_of h) sealed) _ _ (nothing There) (to_fine body (served.phase_of (served.clear_turns h)) (responder.session_of (responder.id_in_record sealed) h) f tag sealed d whole refl)

  pub served_checks : (tag : ℕ) (body : List ℕ) (d : Draw) → IsFine body (serves.responder_does r h tag body d)
  served_checks tag body d = fine_if body (slice_index body 0 == SPDM) _ _ (clear_fine body tag (drop 1 body) (serves.clear_chosen r h d) d) (record_fine body tag (drop 1 body) (serves.record_chosen r h (drop 1 body) d) d refl)
