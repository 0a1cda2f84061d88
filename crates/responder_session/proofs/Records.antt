-- A record at a live session, as the responder handles it in its history.
use Rattle.std.proofs.Common.{◌≡◌, ◌∙◌, ap, sym, refl, ℕ, List, [], ◌∷◌, Bool, true, false}
use Rattle.std.proofs.lemmas.Bool.{false≢true, eq-eqb}
use Rattle.std.specs.Prelude.{if◌then◌else◌, Option, Some, None}
use Rattle.responder_machine.specs.Answer.{Free}
use Rattle.responder_machine.specs.Heard.{heard_of, heard_in, record_id}
use Rattle.responder_machine.specs.History.{History, ended_of, clear_turns, phase_of}
use Rattle.responder_machine.specs.History.Entry.{Sealed}
use Rattle.responder_machine.specs.Records.{opening_fault}
use Rattle.responder_machine.specs.Responder.{on_record, to_session, in_session, in_session_by, repeats, kept_record}
use Rattle.responder_machine.specs.Responder.Outcome.{Same as SendsAgain}
use Rattle.responder_machine.specs.Session.{Events, session_of, id_in_record, is_live, last_of, after_record}
use Rattle.responder_machine.specs.Session.Event.{Began, Heard, Waited}
use Rattle.responder_machine.specs.Setup.{RspSetup}
use Rattle.responder_machine.specs.Turn.{Turn, is_data}
use Rattle.spdm_basis.specs.declared.values.session_id.SessionId.{SessionId}
use Rattle.spdm_grammar.specs.declared.messages.error_code.ErrorCode.{ErrorCode}
use Rattle.spdm_grammar.specs.declared.told.phase.Phase.{Phase}
use Rattle.spdm_machine.specs.Bodies.{record_body}
use Rattle.spdm_machine.specs.Keys.{Draw}
use Rattle.responder_session.specs.Laws.{ToldIsRecord, TookIsRecord, told_as}
use Rattle.responder_session.specs.Staged.{BehindHasReply}
use Rattle.responder_session.specs.Took.{act_by, turn_in, reply_in}
use Rattle.responder_session.specs.declared.told.RspAct.TheVariants as act
use Rattle.responder_session.specs.declared.told.RspTold.TheVariants as told
use Rattle.spdm_grammar.specs.declared.told.heard.Heard.TheVariants as heard
use Rattle.responder_machine.specs.Refusal.{code_of}
use Rattle.responder_session.specs.declared.took.RspTook.TheVariants as took

to_live : (r : RspSetup) (phase : Phase) (s : Events) (f : Free) (tag : ℕ) (sealed : List ℕ) (d : Draw) → is_live s ≡ true
    → to_session r phase s f tag sealed d ≡ (if repeats (last_of s) sealed then SendsAgain (record_body (kept_record (last_of s))) else in_session_by r phase s f tag sealed d (opening_fault r.psk s sealed))
unfolding in_session
to_live r phase [] f tag sealed d live = absurd (false≢true live)
to_live r phase (e ∷ s) f tag sealed d live = refl

on_live : (r : RspSetup) (h : History) (tag : ℕ) (sealed : List ℕ) (f : Free) (d : Draw) → is_live (session_of (id_in_record sealed) h) ≡ true → repeats (ended_of h) sealed ≡ false
    → on_record r h tag sealed f d
    ≡ (if repeats (last_of (session_of (id_in_record sealed) h)) sealed then SendsAgain (record_body (kept_record (last_of (session_of (id_in_record sealed) h))))
    else in_session_by r (phase_of (clear_turns h)) (session_of (id_in_record sealed) h) f tag sealed d (opening_fault r.psk (session_of (id_in_record sealed) h) sealed))
unfolding on_record
on_live r h tag sealed f d live other =
    ap (λ (b : Bool). if b then SendsAgain (record_body (kept_record (ended_of h))) else to_session r (phase_of (clear_turns h)) (session_of (id_in_record sealed) h) f tag sealed d) other
    ∙ to_live r (phase_of (clear_turns h)) (session_of (id_in_record sealed) h) f tag sealed d live

pub chosen : {A : Type 0} (b c : Bool) (x y : A) → b ≡ c → (if b then x else y) ≡ (if c then x else y)
chosen b c x y h = ap (λ (z : Bool). if z then x else y) h

told_by : (t : Turn) (id : SessionId) (refused : Option ErrorCode) → heard_in t id refused ≡ told_as id (act_by t refused)
told_by t id (Some code) = refl
told_by t id None = by_data (is_data t.effect) t id
  where
    by_data : (b : Bool) (t : Turn) (id : SessionId) → (if b then heard.Taken id else heard.Answered (code_of t.message)) ≡ told_as id (if b then act.Data else act.Answered (code_of t.message))
    by_data true t id = refl
    by_data false t id = refl

own_record : (h : History) (tag : ℕ) (sealed : List ℕ) (t : Turn) (reply : List ℕ) (d : Draw)
    → session_of (id_in_record sealed) (Sealed tag sealed t reply d ∷ h) ≡ after_record (session_of (id_in_record sealed) h) sealed t reply
unfolding session_of
own_record h tag sealed t reply d = ap (λ (b : Bool). if b then after_record (session_of (id_in_record sealed) h) sealed t reply else session_of (id_in_record sealed) h) (eq-eqb (id_in_record sealed) (id_in_record sealed) refl)

pub told_is_record : ToldIsRecord
told_is_record r h tag sealed f d after (told.Moved act) live other (first, opens, stands, is) =
    let s = session_of (id_in_record sealed) h in
    let adds = on_live r h tag sealed f d live other ∙ chosen (repeats (last_of s) sealed) false (SendsAgain (record_body (kept_record (last_of s)))) _ first
    ∙ ap (in_session_by r (phase_of (clear_turns h)) s f tag sealed d) opens in (
      adds,
      ap heard_of adds ∙ told_by (turn_in r s f sealed) (record_id sealed) (turn_in r s f sealed).refused ∙ ap (told_as (record_id sealed)) (sym is),
      own_record h tag sealed (turn_in r s f sealed) (reply_in r s f sealed) d,
    )
told_is_record r h tag sealed f d after told.Same live other (first, stands) =
    on_live r h tag sealed f d live other ∙ chosen _ true _ _ first
told_is_record r h tag sealed f d after (told.Unopened fault) live other (first, faulty, stands) =
    let s = session_of (id_in_record sealed) h in
    on_live r h tag sealed f d live other ∙ chosen _ false _ _ first ∙ ap (in_session_by r (phase_of (clear_turns h)) s f tag sealed d) faulty

pub took_is_record : TookIsRecord
took_is_record r h tag sealed f d (took.Moved after told) live other (first, opens, stands, is) =
    let s = session_of (id_in_record sealed) h in
    let adds = on_live r h tag sealed f d live other ∙ chosen (repeats (last_of s) sealed) false (SendsAgain (record_body (kept_record (last_of s)))) _ first
    ∙ ap (in_session_by r (phase_of (clear_turns h)) s f tag sealed d) opens in (
      adds,
      ap heard_of adds ∙ told_by (turn_in r s f sealed) (record_id sealed) (turn_in r s f sealed).refused ∙ ap (told_as (record_id sealed)) (sym is),
      own_record h tag sealed (turn_in r s f sealed) (reply_in r s f sealed) d,
    )
took_is_record r h tag sealed f d (took.Same same) live other (first, stands) =
    on_live r h tag sealed f d live other ∙ chosen _ true _ _ first
took_is_record r h tag sealed f d (took.Unopened same fault) live other (first, faulty, stands) =
    let s = session_of (id_in_record sealed) h in
    on_live r h tag sealed f d live other ∙ chosen _ false _ _ first ∙ ap (in_session_by r (phase_of (clear_turns h)) s f tag sealed d) faulty

-- ---- A session behind its handshake took a record.

pub behind_has_reply : BehindHasReply
behind_has_reply [] h = absurd (false≢true h)
behind_has_reply (Began negotiation exchange answer ∷ older) h = behind_has_reply older h
behind_has_reply (Heard m t reply ∷ older) h = refl
behind_has_reply (Waited seconds ∷ older) h = behind_has_reply older h
