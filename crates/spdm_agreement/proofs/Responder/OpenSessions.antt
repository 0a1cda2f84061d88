-- The sessions that a responder holds open are those that its marks tell.
use Rattle.std.proofs.Common.{◌≡◌, ℕ, List, [], ◌∷◌, ◌++◌, Bool, true, false, Some, None, ◌==◌, ◌&&◌, not, refl, sym, ap, ◌∙◌, subst, eqb-true, eq-eqb, cond, true≢false}
use Rattle.spdm_grammar.specs.declared.told.phase.Stage.{Stage}
use Rattle.spdm_grammar.specs.declared.told.phase.Stage.TheVariants as stage
use Rattle.responder_machine.proofs.GivenIds.{given_is}
use Rattle.responder_machine.proofs.NoSession.{no_session}
use Rattle.responder_machine.specs.History.{History, clear_turns, negotiation_of}
use Rattle.responder_machine.specs.History.Entry.{Clear, Sealed, Queued, Ticked, Dropped}
use Rattle.responder_machine.specs.ResponderLog.{began_by}
use Rattle.responder_machine.specs.Session.{Event, Events, session_of, is_live, stage_of, after_record, after_exchange, after_tick, id_in_record, exchange_of, exchange_answer, finish_of, finish_answer, session_vca, t2_of, gives_id}
use Rattle.spdm_machine.specs.Sessions.{is_past_handshake, id_in_exchange}
use Rattle.responder_machine.specs.Session.Event.{Began, Heard, Waited}
use Rattle.responder_machine.specs.Setup.{RspSetup}
use Rattle.responder_machine.specs.Turn.{Turn, takes, answer_in, request_in}
use Rattle.spdm_agreement.specs.Marks.{Served, served_open}
use Rattle.spdm_agreement.specs.Marks.Served.{Finished, Refused, Took}
use Rattle.spdm_agreement.specs.Reading.{First}
use Rattle.spdm_agreement.specs.Story.{Past, served_from, served_first, served_turn, record_marks, reply_text, taken_text}
use Rattle.spdm_agreement.proofs.Messages.Beginnings.{reading_of}
use Rattle.transcript.specs.Transcripts as transcript
use Rattle.spdm_grammar.specs.declared.names.request_code.TheConstants.{GET_VERSION, PSK_EXCHANGE, PSK_FINISH, END_SESSION}

-- A record in the handshake ends it only where it is PSK_FINISH, and after it there is none.
abbrev pub EndsByFinish : Stage → Events → List ℕ → Turn → List ℕ → Type 0
EndsByFinish stage.Handshake s sealed t reply = is_past_handshake (stage_of (Heard sealed t reply ∷ s)) ≡ true → takes PSK_FINISH t ≡ true
EndsByFinish stage.Open s sealed t reply = takes PSK_FINISH t ≡ false
EndsByFinish stage.Verifying s sealed t reply = takes PSK_FINISH t ≡ false

abbrev pub IsSteady : History → Type 0
IsSteady [] = Unit {0}
IsSteady (Sealed tag sealed t reply d ∷ older) = EndsByFinish (stage_of (session_of (id_in_record sealed) older)) (session_of (id_in_record sealed) older) sealed t reply × IsSteady older
IsSteady (_ ∷ older) = IsSteady older

-- ---- One session.

-- What is known of the session of an id and the marks.
pub record ServedAt (psk : List ℕ) (id : ℕ) (s : Events) (m : List Served) : Type 0 where
  pub own : is_live s ≡ true → id_in_exchange (exchange_answer s) ≡ id
  pub told : (is_live s && is_past_handshake (stage_of s)) ≡ true → served_open (reading_of psk) id m ≡ Some (served_first s, t2_of s)

gone : (psk : List ℕ) (id : ℕ) (m : List Served) → ServedAt psk id [] m
gone psk id m = record { own = λ e. absurd (true≢false (sym e)); told = λ e. absurd (true≢false (sym e)) }

-- Marks that are not of this id change nothing.
past : (psk : List ℕ) (id : ℕ) (s : Events) (m m' : List Served) → served_open (reading_of psk) id m' ≡ served_open (reading_of psk) id m → ServedAt psk id s m → ServedAt psk id s m'
past psk id s m m' same i = record { own = i.own; told = λ e. same ∙ i.told e }

-- ---- Time.

ticked_by : (psk : List ℕ) (id : ℕ) (e : Event) (s : Events) (seconds : ℕ) (m : List Served) (a b : Bool) → ServedAt psk id (e ∷ s) m → ServedAt psk id (cond a (e ∷ s) (cond b [] (Waited seconds ∷ e ∷ s))) m
ticked_by psk id e s seconds m true b i = i
ticked_by psk id e s seconds m false true i = gone psk id m
ticked_by psk id e s seconds m false false i = record { own = i.own; told = i.told }

ticked : (psk : List ℕ) (id : ℕ) (s : Events) (seconds : ℕ) (m : List Served) → ServedAt psk id s m → ServedAt psk id (after_tick s seconds) m
ticked psk id [] seconds m i = gone psk id m
ticked psk id (e ∷ s) seconds m i = ticked_by psk id e s seconds m _ _ i

dropped : (psk : List ℕ) (id : ℕ) (s : Events) (m : List Served) (b : Bool) → ServedAt psk id s m → ServedAt psk id (cond b [] s) m
dropped psk id s m true i = gone psk id m
dropped psk id s m false i = i

-- ---- In the clear.

and_true : (b : Bool) → (b && true) ≡ b
and_true true = refl
and_true false = refl

-- An id but 0 that an answer does not give does not stand in it.
not_given : (id : ℕ) (answer : List ℕ) → (id == 0) ≡ false → gives_id id answer ≡ false → (id_in_exchange answer == id) ≡ false
not_given id answer some is =
    let same : Bool = id_in_exchange answer == id in
    sym (and_true same) ∙ ap (λ (b : Bool). same && not b) (sym some) ∙ is

exchanged : (psk : List ℕ) (id : ℕ) (s : Events) (older : History) (t : Turn) (m : List Served) (c d : Bool) → (id ≡ 0 → s ≡ []) → gives_id id (answer_in t.effect) ≡ c → ServedAt psk id s m
    → ServedAt psk id (cond c (Began (negotiation_of (clear_turns older)) (request_in t.effect) (answer_in t.effect) ∷ []) (cond d s [])) (Served.Began (served_first (began_by older t)) ∷ m)
exchanged psk id s older t m true d none is i = record { own = λ e. given_is id (answer_in t.effect) is; told = λ e. absurd (true≢false (sym e)) }
exchanged psk id s older t m false true none is i = by_zero (id == 0) refl
  where
    marks : List Served
    marks = Served.Began (served_first (began_by older t)) ∷ m

    by_zero : (b : Bool) → (id == 0) ≡ b → ServedAt psk id s marks
    by_zero true same = subst (λ (e : Events). ServedAt psk id e marks) (sym (none (eqb-true id 0 same))) (gone psk id marks)
    by_zero false some = past psk id s m marks (ap (λ (b : Bool). cond b None (served_open (reading_of psk) id m)) (not_given id (answer_in t.effect) some is)) i
exchanged psk id s older t m false false none is i = gone psk id _

cleared_by : (psk : List ℕ) (id : ℕ) (s : Events) (older : History) (t : Turn) (m : List Served) (a b : Bool) → (id ≡ 0 → s ≡ []) → ServedAt psk id s m
    → ServedAt psk id (cond a [] (cond b (after_exchange id s t (negotiation_of (clear_turns older))) s)) (cond b (Served.Began (served_first (began_by older t)) ∷ []) [] ++ m)
cleared_by psk id s older t m true b none i = gone psk id _
cleared_by psk id s older t m false true none i = exchanged psk id s older t m _ (is_past_handshake (stage_of s)) none refl i
cleared_by psk id s older t m false false none i = i

-- ---- In a session.

-- The session of another id.
elsewhere_turn : (psk : List ℕ) (id : ℕ) (x : First) (u : List ℕ) (reply : List ℕ) (m : List Served) (b : Bool) → (id_in_exchange x.answer == id) ≡ false
    → served_open (reading_of psk) id (cond b (Finished x u ∷ []) (Refused x reply ∷ []) ++ m) ≡ served_open (reading_of psk) id m
elsewhere_turn psk id x u reply m true other = ap (λ (b : Bool). cond b (Some (x, u)) (served_open (reading_of psk) id m)) other
elsewhere_turn psk id x u reply m false other = refl

elsewhere_stage : (psk : List ℕ) (r : RspSetup) (id : ℕ) (g : Stage) (s : Events) (sealed : List ℕ) (t : Turn) (reply : List ℕ) (m : List Served) → (id_in_exchange (exchange_answer s) == id) ≡ false
    → served_open (reading_of psk) id (served_turn g r s sealed t reply ++ m) ≡ served_open (reading_of psk) id m
elsewhere_stage psk r id stage.Handshake s sealed t reply m other = elsewhere_turn psk id (served_first s) (t2_of (Heard sealed t reply ∷ s)) (reply_text t) m (takes PSK_FINISH t) other
elsewhere_stage psk r id stage.Open s sealed t reply m other = refl
elsewhere_stage psk r id stage.Verifying s sealed t reply m other = refl

pub not_same : (a b : ℕ) → (a ≡ b → ⊥) → (a == b) ≡ false
not_same a b n = go (a == b) refl
  where
    go : (c : Bool) → (a == b) ≡ c → (a == b) ≡ false
    go true e = absurd (n (eqb-true a b e))
    go false e = e

elsewhere : (psk : List ℕ) (r : RspSetup) (id of : ℕ) (s : Events) (sealed : List ℕ) (t : Turn) (reply : List ℕ) (m : List Served) → (of == id) ≡ false → (is_live s ≡ true → id_in_exchange (exchange_answer s) ≡ of)
    → served_open (reading_of psk) id (record_marks r s sealed t reply ++ m) ≡ served_open (reading_of psk) id m
elsewhere psk r id of [] sealed t reply m other own = refl
elsewhere psk r id of (e ∷ s) sealed t reply m other own = elsewhere_stage psk r id (stage_of (e ∷ s)) (e ∷ s) sealed t reply m (ap (λ (n : ℕ). n == id) (own refl) ∙ other)

-- The session itself.
finished_by : (psk : List ℕ) (id : ℕ) (e : Event) (s : Events) (sealed : List ℕ) (t : Turn) (reply : List ℕ) (m : List Served) (b : Bool) → id_in_exchange (exchange_answer (e ∷ s)) ≡ id → (is_past_handshake (stage_of (Heard sealed t reply ∷ e ∷ s)) ≡ true → b ≡ true)
    → ServedAt psk id (Heard sealed t reply ∷ e ∷ s) (cond b (Finished (served_first (e ∷ s)) (t2_of (Heard sealed t reply ∷ e ∷ s)) ∷ []) (Refused (served_first (e ∷ s)) (reply_text t) ∷ []) ++ m)
finished_by psk id e s sealed t reply m true own ends = record {
  own = λ l. own;
  told = λ l. ap (λ (b : Bool). cond b (Some (served_first (e ∷ s), t2_of (Heard sealed t reply ∷ e ∷ s))) (served_open (reading_of psk) id m)) (eq-eqb _ _ own);
}
finished_by psk id e s sealed t reply m false own ends = record { own = λ l. own; told = λ l. absurd (true≢false (sym (ends l))) }

pub same_second : (s : Events) (sealed : List ℕ) (t : Turn) (reply : List ℕ) → takes PSK_FINISH t ≡ false → t2_of s ≡ t2_of (Heard sealed t reply ∷ s)
same_second s sealed t reply other =
    sym (ap (λ (b : Bool). transcript.t2_of (session_vca s) (exchange_of s) (exchange_answer s) (cond b (request_in t.effect) (finish_of s)) (cond b (answer_in t.effect) (finish_answer s))) other)

taken_by : (psk : List ℕ) (id : ℕ) (e : Event) (s : Events) (sealed : List ℕ) (t : Turn) (reply : List ℕ) (x : Served) (m : List Served) → is_past_handshake (stage_of (e ∷ s)) ≡ true → takes PSK_FINISH t ≡ false
    → served_open (reading_of psk) id (x ∷ m) ≡ served_open (reading_of psk) id m → ServedAt psk id (e ∷ s) m → ServedAt psk id (Heard sealed t reply ∷ e ∷ s) (x ∷ m)
taken_by psk id e s sealed t reply x m past_it other same i = record {
  own = λ l. i.own refl;
  told = λ l. same ∙ i.told past_it ∙ ap (λ (u : List ℕ). Some (served_first (e ∷ s), u)) (same_second (e ∷ s) sealed t reply other);
}

heard_stage : (psk : List ℕ) (r : RspSetup) (id : ℕ) (g : Stage) (e : Event) (s : Events) (sealed : List ℕ) (t : Turn) (reply : List ℕ) (m : List Served) → stage_of (e ∷ s) ≡ g → EndsByFinish g (e ∷ s) sealed t reply
    → ServedAt psk id (e ∷ s) m → ServedAt psk id (Heard sealed t reply ∷ e ∷ s) (served_turn g r (e ∷ s) sealed t reply ++ m)
heard_stage psk r id stage.Handshake e s sealed t reply m is steady i = finished_by psk id e s sealed t reply m (takes PSK_FINISH t) (i.own refl) steady
heard_stage psk r id stage.Open e s sealed t reply m is steady i = taken_by psk id e s sealed t reply (Took (t2_of (e ∷ s)) (taken_text r.psk (e ∷ s) sealed) (reply_text t)) m (ap is_past_handshake is) steady refl i
heard_stage psk r id stage.Verifying e s sealed t reply m is steady i = taken_by psk id e s sealed t reply (Took (t2_of (e ∷ s)) (taken_text r.psk (e ∷ s) sealed) (reply_text t)) m (ap is_past_handshake is) steady refl i

ended_by : (psk : List ℕ) (id : ℕ) (s : Events) (m : List Served) (b : Bool) → ServedAt psk id s m → ServedAt psk id (cond b [] s) m
ended_by psk id s m true i = gone psk id m
ended_by psk id s m false i = i

heard : (psk : List ℕ) (r : RspSetup) (id : ℕ) (s : Events) (sealed : List ℕ) (t : Turn) (reply : List ℕ) (m : List Served) → EndsByFinish (stage_of s) s sealed t reply
    → ServedAt psk id s m → ServedAt psk id (after_record s sealed t reply) (record_marks r s sealed t reply ++ m)
heard psk r id [] sealed t reply m steady i = ended_by psk id [] m (takes END_SESSION t) (gone psk id m)
heard psk r id (e ∷ s) sealed t reply m steady i =
    ended_by psk id (Heard sealed t reply ∷ e ∷ s) (record_marks r (e ∷ s) sealed t reply ++ m) (takes END_SESSION t)
    (heard_stage psk r id (stage_of (e ∷ s)) e s sealed t reply m refl steady i)

-- ---- All sessions.

sealed_by : (psk : List ℕ) (r : RspSetup) (id of : ℕ) (own s : Events) (sealed : List ℕ) (t : Turn) (reply : List ℕ) (m : List Served) (b : Bool) → (of == id) ≡ b → (of ≡ id → own ≡ s) → EndsByFinish (stage_of own) own sealed t reply
    → ServedAt psk of own m → ServedAt psk id s m → ServedAt psk id (cond b (after_record s sealed t reply) s) (record_marks r own sealed t reply ++ m)
sealed_by psk r id of own s sealed t reply m true is same steady o i =
    subst (λ (x : Events). ServedAt psk id (after_record x sealed t reply) (record_marks r own sealed t reply ++ m)) (same (eqb-true of id is))
    (heard psk r id own sealed t reply m steady (subst (λ (x : Events). ServedAt psk id x m) (sym (same (eqb-true of id is))) i))
sealed_by psk r id of own s sealed t reply m false is same steady o i = past psk id s m _ (elsewhere psk r id of own sealed t reply m is o.own) i

pub served_stands : (prior : Past) → (psk : List ℕ) (r : RspSetup) (h : History) → IsSteady h → (id : ℕ) → ServedAt psk id (session_of id h) (served_from prior r h)
unfolding session_of
served_stands prior psk r [] steady id = gone psk id (prior.served r)
served_stands prior psk r (Clear tag t d ∷ older) steady id = cleared_by psk id (session_of id older) older t (served_from prior r older) (takes GET_VERSION t) (takes PSK_EXCHANGE t) (λ zero. ap (λ (n : ℕ). session_of n older) zero ∙ no_session older) (served_stands prior psk r older steady id)
served_stands prior psk r (Sealed tag sealed t reply d ∷ older) steady id =
    sealed_by psk r id (id_in_record sealed) (session_of (id_in_record sealed) older) (session_of id older) sealed t reply (served_from prior r older) (id_in_record sealed == id) refl
    (λ e. ap (λ (n : ℕ). session_of n older) e) steady.0 (served_stands prior psk r older steady.1 (id_in_record sealed)) (served_stands prior psk r older steady.1 id)
served_stands prior psk r (Queued bytes ∷ older) steady id = served_stands prior psk r older steady id
served_stands prior psk r (Ticked seconds ∷ older) steady id = ticked psk id (session_of id older) seconds (served_from prior r older) (served_stands prior psk r older steady id)
served_stands prior psk r (Dropped which ∷ older) steady id = dropped psk id (session_of id older) (served_from prior r older) (which == id) (served_stands prior psk r older steady id)
