-- Keys of answers in sessions, and which records open there.
use Rattle.std.proofs.Common.{refl, ◌∙◌, ◌≡◌, ◌<◌, ℕ, List, [], true, false, Bool, Option, Some, None, ap, sym, subst, arith}
use Rattle.std.proofs.lemmas.Bool.Decides.{nat_tests}
use Rattle.std.specs.Prelude.{◌==◌, ◌&&◌, not, MatchOption, OnOk, Result, Ok, Err, is_none, is_ok}
use Rattle.responder_core.proofs.Shown.{in_slot, no_slot}
use Rattle.responder_core.specs.LiveSession as lives
use Rattle.responder_core.specs.LiveSession.{IsSlotOf}
use Rattle.responder_core.specs.OwnAnswers.{IsNextKey, IsReplyKey, has_next, opens_in}
use Rattle.responder_core.specs.Sessions.{StandsFor, slot_of}
use Rattle.responder_core.specs.declared.in_sessions.live_session.LiveSession.{LiveSession}
use Rattle.responder_core.specs.declared.in_sessions.sessions.Sessions.{Sessions}
use Rattle.responder_machine.specs.Answer.{Free}
use Rattle.responder_machine.specs.History.{History}
use Rattle.responder_machine.specs.Records.{opened, opening_fault}
use Rattle.responder_machine.specs.Session.{Events, id_in_record, is_live, response_next, session_of}
use Rattle.responder_machine.specs.Setup.{RspSetup}
use Rattle.responder_session.specs.OwnAnswers.{IsKeyOfNext, IsKeyOfReply}
use Rattle.responder_session.specs.Took.{turn_in}
use Rattle.responder_session.specs.declared.answer_key.AnswerKey.{AnswerKey}

-- ---- The session that a record names.

named : (old : Sessions) (r : RspSetup) (h : History) (sealed : List ℕ) (id : ℕ) → StandsFor old r h → id ≡ id_in_record sealed → IsSlotOf (slot_of old id) r (session_of (id_in_record sealed) h)
named old r h sealed id stands is = subst (λ (n : ℕ). IsSlotOf (slot_of old n) r (session_of (id_in_record sealed) h)) (sym is) (stands.slots (id_in_record sealed))

pub slot_named : (old : Sessions) (r : RspSetup) (h : History) (sealed : List ℕ) (id : ℕ) (live : LiveSession) → StandsFor old r h → id ≡ id_in_record sealed → slot_of old id ≡ Some live
    → lives.StandsFor live r (session_of (id_in_record sealed) h)
slot_named old r h sealed id live stands is found = in_slot r (session_of (id_in_record sealed) h) (slot_of old id) live found (named old r h sealed id stands is)

pub none_named : (old : Sessions) (r : RspSetup) (h : History) (sealed : List ℕ) (id : ℕ) → StandsFor old r h → id ≡ id_in_record sealed → slot_of old id ≡ None
    → session_of (id_in_record sealed) h ≡ []
none_named old r h sealed id stands is none = no_slot r (session_of (id_in_record sealed) h) (slot_of old id) none (named old r h sealed id stands is)

-- ---- What a live session tells.

pub with_live : (s : Events) (b : Bool) → is_live s ≡ true → b ≡ (is_live s && b)
with_live s b live = ap (λ (x : Bool). x && b) (sym live)

pub of_ok : {U E : Type 0} (x : Result U E) (P : Type 0) → is_ok x ≡ true → OnOk x P → P
of_ok (Ok u) P ok p = p
of_ok (Err e) P ok p = absurd (cc)

spent_key : (live : Bool) (n : ℕ) → n ≡ 65536 → (live && not (n == 65536)) ≡ false
spent_key true n is = grind (arith, nat_tests)
spent_key false n is = refl

fresh_key : (live : Bool) (n : ℕ) → live ≡ true → n < 65536 → (live && not (n == 65536)) ≡ true
fresh_key true n is few = grind (arith, nat_tests)
fresh_key false n is few = absurd (cc)

pub next_key : (r : RspSetup) (s : Events) (x : Option AnswerKey) → is_live s ≡ true
    → MatchOption x (response_next s ≡ 65536) (λ key. (response_next s < 65536) × IsKeyOfNext key r.psk s) → IsNextKey r s x
next_key r s None live told = spent_key (is_live s) (response_next s) told
next_key r s (Some key) live told = (fresh_key (is_live s) (response_next s) live told.0, told.1)

pub reply_key : (r : RspSetup) (s : Events) (f : Free) (request inner : List ℕ) (x : Option AnswerKey) → is_live s ≡ true
    → MatchOption x (is_none (opening_fault r.psk s request) ≡ false)
    (λ key. (opening_fault r.psk s request ≡ None) × (inner ≡ opened r.psk s request) × IsKeyOfReply key r.psk s (turn_in r s f request))
    → IsReplyKey r s f request inner x
reply_key r s f request inner None live told = sym (with_live s (is_none (opening_fault r.psk s request)) live) ∙ told
reply_key r s f request inner (Some key) live told = (sym (with_live s (is_none (opening_fault r.psk s request)) live) ∙ ap is_none told.0, told.1, told.2)

-- ---- No session has a key, and opens nothing.

pub no_next : (r : RspSetup) (s : Events) → s ≡ [] → IsNextKey r s None
no_next r s none = ap has_next none

pub no_reply : (r : RspSetup) (s : Events) (f : Free) (request inner : List ℕ) → s ≡ [] → IsReplyKey r s f request inner None
no_reply r s f request inner none = ap (λ (e : Events). opens_in r e request) none
