-- The exchanges that a responder took under a T2 are turns of one session, and it keeps that whatever it does.
use Rattle.std.proofs.Common.{◌≡◌, ◌+◌, ◌&&◌, ℕ, List, [], ◌∷◌, ◌++◌, Bool, true, false, cond, refl, sym, ap, ◌∙◌, subst, arith, bytes_eq, true≢false}
use Rattle.std.proofs.lemmas.Slice.Eq.{bytes_eq-Decides}
use Rattle.responder_machine.specs.History.{History, clear_turns, negotiation_of}
use Rattle.responder_machine.specs.ResponderLog.{began_by}
use Rattle.responder_machine.specs.Session.{Event, Events, after_exchange, after_tick, gives_id, is_live, response_next, session_negotiation, session_of, stage_of, t2_of, turns_of}
use Rattle.responder_machine.specs.Session.Event.{Began, Heard, Waited}
use Rattle.responder_machine.specs.Setup.{RspSetup}
use Rattle.responder_machine.specs.Turn.{Turn, answer_in, request_in, takes, updates}
use Rattle.spdm_agreement.proofs.Messages.Beginnings.{reading_of}
use Rattle.spdm_agreement.proofs.Responder.Counts.{IsCounted, with_taken}
use Rattle.spdm_agreement.proofs.Responder.DataAnswered as serves
use Rattle.spdm_agreement.proofs.Responder.OpenSessions.{EndsByFinish, same_second}
use Rattle.spdm_agreement.specs.Marks.{Exchange, Served, count_of, taken}
use Rattle.spdm_agreement.specs.Marks.Served.{Finished, Refused, Took}
use Rattle.spdm_agreement.specs.Reading.{First}
use Rattle.spdm_agreement.specs.Story.{Past, reply_text, served_first, served_from, served_turn, taken_text}
use Rattle.spdm_grammar.specs.declared.names.request_code.TheConstants.{PSK_FINISH}
use Rattle.spdm_grammar.specs.declared.told.phase.Stage.{Stage}
use Rattle.spdm_grammar.specs.declared.told.phase.Stage.TheVariants as stage
use Rattle.spdm_machine.specs.Sessions.{is_past_handshake}
use Rattle.attest_laws.proofs.Exchanges.{AreServed, AreTurns, IsTurn, served_more}

-- The exchanges under the T2 of a session that is held open are its turns.
pub record IsShown (r : RspSetup) (s : Events) (m : List Served) : Type 0 where
  pub shows : (is_live s && is_past_handshake (stage_of s)) ≡ true → AreTurns r (session_negotiation s) (taken (t2_of s) m) (turns_of s)

pub gone : (r : RspSetup) (m : List Served) → IsShown r [] m
gone r m = record { shows = λ e. absurd (true≢false (sym e)) }

-- Marks that are not of its T2 change nothing.
pub past_marks : (r : RspSetup) (s : Events) (m m' : List Served) → ((is_live s && is_past_handshake (stage_of s)) ≡ true → taken (t2_of s) m' ≡ taken (t2_of s) m) → IsShown r s m → IsShown r s m'
past_marks r s m m' same i = record { shows = λ e. subst (λ (xs : List Exchange). AreTurns r (session_negotiation s) xs (turns_of s)) (sym (same e)) (i.shows e) }

-- ---- Time.

ticked_by : (r : RspSetup) (e : Event) (s : Events) (seconds : ℕ) (m : List Served) (a b : Bool) → IsShown r (e ∷ s) m → IsShown r (cond a (e ∷ s) (cond b [] (Waited seconds ∷ e ∷ s))) m
ticked_by r e s seconds m true b i = i
ticked_by r e s seconds m false true i = gone r m
ticked_by r e s seconds m false false i = record { shows = i.shows }

pub ticked : (r : RspSetup) (s : Events) (seconds : ℕ) (m : List Served) → IsShown r s m → IsShown r (after_tick s seconds) m
ticked r [] seconds m i = gone r m
ticked r (e ∷ s) seconds m i = ticked_by r e s seconds m _ _ i

-- ---- In the clear.

exchanged : (r : RspSetup) (s : Events) (older : History) (t : Turn) (m : List Served) (c d : Bool) → IsShown r s m
    → IsShown r (cond c (Began (negotiation_of (clear_turns older)) (request_in t.effect) (answer_in t.effect) ∷ []) (cond d s [])) (Served.Began (served_first (began_by older t)) ∷ m)
exchanged r s older t m true d i = record { shows = λ e. absurd (true≢false (sym e)) }
exchanged r s older t m false true i = record { shows = i.shows }
exchanged r s older t m false false i = gone r _

pub cleared : (r : RspSetup) (id : ℕ) (s : Events) (older : History) (t : Turn) (m : List Served) (a b : Bool) → IsShown r s m
    → IsShown r (cond a [] (cond b (after_exchange id s t (negotiation_of (clear_turns older))) s)) (cond b (Served.Began (served_first (began_by older t)) ∷ []) [] ++ m)
cleared r id s older t m true b i = gone r _
cleared r id s older t m false true i = exchanged r s older t m (gives_id id (answer_in t.effect)) (is_past_handshake (stage_of s)) i
cleared r id s older t m false false i = i

pub cleared_taken : (u : List ℕ) (x : First) (m : List Served) (b : Bool) → taken u (cond b (Served.Began x ∷ []) [] ++ m) ≡ taken u m
cleared_taken u x m true = refl
cleared_taken u x m false = refl

-- ---- A record.

-- What a record is to its session.
pub record IsRecorded (r : RspSetup) (s : Events) (sealed : List ℕ) (t : Turn) (reply : List ℕ) : Type 0 where
  pub turn : IsTurn r (session_negotiation s) (taken_text r.psk s sealed, reply_text t) t (turns_of s)
  pub steady : EndsByFinish (stage_of s) s sealed t reply

-- Right behind PSK_FINISH nothing was taken.
none_counted : (ends : Exchange → Bool) (xs : List Exchange) (b : Bool) → (x : Exchange) → cond b 1 (count_of ends 1 xs + 1) ≡ 0 → ⊥
none_counted ends xs true x e = omega (arith, e)
none_counted ends xs false x e = omega (arith, e)

none_taken : (ends : Exchange → Bool) (xs : List Exchange) → count_of ends 1 xs ≡ 0 → xs ≡ []
none_taken ends [] e = refl
none_taken ends (x ∷ older) e = absurd (none_counted ends older (ends x) x e)

finished_by : (r : RspSetup) (e : Event) (s : Events) (sealed : List ℕ) (t : Turn) (reply : List ℕ) (m : List Served) (b : Bool) → takes PSK_FINISH t ≡ b → (is_past_handshake (stage_of (Heard sealed t reply ∷ e ∷ s)) ≡ true → takes PSK_FINISH t ≡ true)
    → IsCounted r.psk (Heard sealed t reply ∷ e ∷ s) m → IsShown r (Heard sealed t reply ∷ e ∷ s) m
finished_by r e s sealed t reply m true is ends counted = record {
  shows = λ l.
      (let own = Heard sealed t reply ∷ e ∷ s in
      let none : response_next own ≡ 0 = ap (λ (b : Bool). cond b 0 (cond (updates 2 t) 1 (response_next (e ∷ s) + 1))) is in
      subst (λ (xs : List Exchange). AreTurns r (session_negotiation own) xs (turns_of own)) (sym (none_taken (reading_of r.psk).is_update_all (taken (t2_of own) m) (sym (counted.counts l).response_next ∙ none))) tt);
}
finished_by r e s sealed t reply m false is ends counted = record { shows = λ l. absurd (true≢false (sym (ends l) ∙ is)) }

took : (r : RspSetup) (e : Event) (s : Events) (sealed : List ℕ) (t : Turn) (reply : List ℕ) (m : List Served) → IsRecorded r (e ∷ s) sealed t reply → takes PSK_FINISH t ≡ false → is_past_handshake (stage_of (e ∷ s)) ≡ true → IsShown r (e ∷ s) m
    → AreTurns r (session_negotiation (e ∷ s)) (taken (t2_of (e ∷ s)) (Took (t2_of (e ∷ s)) (taken_text r.psk (e ∷ s) sealed) (reply_text t) ∷ m)) (t ∷ turns_of (e ∷ s))
took r e s sealed t reply m k other past i =
    subst (λ (xs : List Exchange). AreTurns r (session_negotiation (e ∷ s)) xs (t ∷ turns_of (e ∷ s))) (sym (with_taken (t2_of (e ∷ s)) (taken_text r.psk (e ∷ s) sealed) (reply_text t) m)) (k.turn, i.shows past)

pub own_stage : (r : RspSetup) (e : Event) (s : Events) (sealed : List ℕ) (t : Turn) (reply : List ℕ) (m : List Served) (g : Stage) → stage_of (e ∷ s) ≡ g → EndsByFinish g (e ∷ s) sealed t reply → IsRecorded r (e ∷ s) sealed t reply → IsShown r (e ∷ s) m
    → IsCounted r.psk (Heard sealed t reply ∷ e ∷ s) (served_turn g r (e ∷ s) sealed t reply ++ m) → IsShown r (Heard sealed t reply ∷ e ∷ s) (served_turn g r (e ∷ s) sealed t reply ++ m)
own_stage r e s sealed t reply m stage.Handshake is steady k i counted = finished_by r e s sealed t reply _ (takes PSK_FINISH t) refl steady counted
own_stage r e s sealed t reply m stage.Open is steady k i counted = record {
  shows = λ l. subst (λ (u : List ℕ). AreTurns r (session_negotiation (e ∷ s)) (taken u (Took (t2_of (e ∷ s)) (taken_text r.psk (e ∷ s) sealed) (reply_text t) ∷ m)) (t ∷ turns_of (e ∷ s))) (same_second (e ∷ s) sealed t reply steady)
      (took r e s sealed t reply m k steady (ap is_past_handshake is) i);
}
own_stage r e s sealed t reply m stage.Verifying is steady k i counted = record {
  shows = λ l. subst (λ (u : List ℕ). AreTurns r (session_negotiation (e ∷ s)) (taken u (Took (t2_of (e ∷ s)) (taken_text r.psk (e ∷ s) sealed) (reply_text t) ∷ m)) (t ∷ turns_of (e ∷ s))) (same_second (e ∷ s) sealed t reply steady)
      (took r e s sealed t reply m k steady (ap is_past_handshake is) i);
}

pub ended_by : (r : RspSetup) (s : Events) (m : List Served) (b : Bool) → (b ≡ false → IsShown r s m) → IsShown r (cond b [] s) m
ended_by r s m true i = gone r m
ended_by r s m false i = i refl

-- ---- All exchanges.

abbrev pub AllServed : RspSetup → List Served → Type 0
AllServed r m = (u : List ℕ) → AreServed r (taken u m)

all_turn : (x : First) (u reply : List ℕ) (r : RspSetup) (m : List Served) (b : Bool) → AllServed r m → AllServed r (cond b (Finished x u ∷ []) (Refused x reply ∷ []) ++ m)
all_turn x u reply r m true all = λ v. all v
all_turn x u reply r m false all = λ v. all v

all_took : (r : RspSetup) (e : Event) (s : Events) (sealed : List ℕ) (t : Turn) (reply : List ℕ) (m : List Served) → IsRecorded r (e ∷ s) sealed t reply → takes PSK_FINISH t ≡ false → is_past_handshake (stage_of (e ∷ s)) ≡ true → IsShown r (e ∷ s) m → AllServed r m
    → AllServed r (Took (t2_of (e ∷ s)) (taken_text r.psk (e ∷ s) sealed) (reply_text t) ∷ m)
all_took r e s sealed t reply m k other past i all = λ v.
    served_more r (taken_text r.psk (e ∷ s) sealed, reply_text t) (taken v m) (bytes_eq (t2_of (e ∷ s)) v)
    (λ same. subst (λ (u : List ℕ). AreServed r ((taken_text r.psk (e ∷ s) sealed, reply_text t) ∷ taken u m)) ((bytes_eq-Decides (t2_of (e ∷ s)) v).0 same)
    (record { negotiation = session_negotiation (e ∷ s); turns = t ∷ turns_of (e ∷ s); are = (k.turn, i.shows past) }))
    (all v)

pub all_stage : (r : RspSetup) (e : Event) (s : Events) (sealed : List ℕ) (t : Turn) (reply : List ℕ) (m : List Served) (g : Stage) → stage_of (e ∷ s) ≡ g → EndsByFinish g (e ∷ s) sealed t reply → IsRecorded r (e ∷ s) sealed t reply → IsShown r (e ∷ s) m → AllServed r m
    → AllServed r (served_turn g r (e ∷ s) sealed t reply ++ m)
all_stage r e s sealed t reply m stage.Handshake is steady k i all = all_turn (served_first (e ∷ s)) (t2_of (Heard sealed t reply ∷ e ∷ s)) (reply_text t) r m (takes PSK_FINISH t) all
all_stage r e s sealed t reply m stage.Open is steady k i all = all_took r e s sealed t reply m k steady (ap is_past_handshake is) i all
all_stage r e s sealed t reply m stage.Verifying is steady k i all = all_took r e s sealed t reply m k steady (ap is_past_handshake is) i all

-- ---- What a responder keeps.

-- Of what it goes on from, its exchanges are asked to be such.
pub record IsKept (prior : Past) (r : RspSetup) (h : History) : Type 0 where
  pub kept : serves.IsKept prior r h
  pub held : (id : ℕ) → IsShown r (session_of id h) (served_from prior r h)
  pub all : AllServed r (prior.served r) → AllServed r (served_from prior r h)
