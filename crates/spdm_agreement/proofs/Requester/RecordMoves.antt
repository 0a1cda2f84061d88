-- What a requester does with a record is a run of moves.
use Rattle.std.proofs.Common.{◌≡◌, ℕ, List, [], ◌∷◌, ◌++◌, drop, take, true, false, Option, Some, None, refl, sym, ap, ◌∙◌, inl, inr, subst}
use Rattle.std.specs.Prelude.{slice_index}
use Rattle.byteorder.specs.Endian.{little_number}
use Rattle.requester_machine.specs.History.{History, Effect, Led}
use Rattle.requester_machine.specs.History.Effect.{Grants}
use Rattle.requester_machine.specs.InnerMessages.{Came, with_record}
use Rattle.requester_machine.specs.Commands.{Free}
use Rattle.requester_machine.specs.Message.{Ask, Sent}
use Rattle.requester_machine.specs.Message.Ask.{AskFinish, AskVerify, AskChunk}
use Rattle.requester_machine.specs.Order.{may_bring, stage_for}
use Rattle.requester_machine.specs.Records.{answer_fault, answer_inner}
use Rattle.requester_machine.specs.RequesterLog.{sent_made, record_check}
use Rattle.requester_machine.specs.Session.{Step, Steps, session_vca, exchange_of, exchange_answer, finish_of, stage_of, t2_of, finishes}
use Rattle.requester_machine.specs.Session.Step.{Started, Accepted, Asked, Took}
use Rattle.requester_machine.proofs.Steps.{stage_behind}
use Rattle.secured_record.specs.Format.{plain_text}
use Rattle.spdm_machine.specs.Sessions.{is_past_handshake}
use Rattle.requester_machine.specs.Setup.{ReqSetup}
use Rattle.spdm_machine.specs.TagLog.{Log}
use Rattle.transcript.specs.Transcripts as transcript
use Rattle.spdm_agreement.specs.Marks as marks
use Rattle.spdm_agreement.specs.Marks.{Served, Text, asked_open, finishing}
use Rattle.spdm_agreement.specs.Story.{asked_first, answer_text, next_marks, content_marks}
use Rattle.spdm_agreement.proofs.Requester.ExchangeMoves.{finish_inner, opens}
use Rattle.spdm_agreement.proofs.Requester.Comparisons.{join}
use Rattle.spdm_agreement.proofs.Requester.Entries.{RequestTells, verify_tells, chunk_tells}
use Rattle.spdm_agreement.proofs.Requester.Counts.{HeldAt, HeldWell, held_heard, update_told, text_tells}
use Rattle.spdm_agreement.proofs.Requester.Waiting.{is_finish, finishes_only}
use Rattle.spdm_agreement.proofs.Requester.RecordLeads.{RecordLed, IsNext, NextRecord, InnerTells}
use Rattle.spdm_agreement.proofs.Requester.SealAndHear.{at, says, hears, inner_as}
use Rattle.spdm_agreement.proofs.Worlds.EndSteps.{OwnLeads}
use Rattle.spdm_agreement.proofs.Messages.Beginnings.{reading_of, finish_reply}
use Rattle.spdm_grammar.specs.declared.names.response_code.TheConstants.{PSK_EXCHANGE_RSP, PSK_FINISH_RSP}
use Rattle.spdm_agreement.proofs.Requester.OpenSessions.{same_second}

-- ---- A reply.

abbrev pub came_at : ReqSetup → ℕ → Steps → Ask → List ℕ → Came
came_at q id s ask sealed = record { id = id; steps = s; sealed = sealed; inner = answer_inner q.psk s ask sealed }

-- The session stays as it was counted.
pub replied_held : (q : ReqSetup) (s : Steps) (m : List marks.Asked) (ask : Ask) (b sealed : List ℕ) (effect : Effect) → HeldWell q.psk s m (Some b) → RequestTells ask b → may_bring effect ask ≡ true → finishes effect ≡ false → InnerTells effect (answer_inner q.psk s ask sealed)
    → HeldWell q.psk (Took sealed (answer_inner q.psk s ask sealed) effect ∷ s) (marks.Asked.Heard (t2_of s) b (answer_text q.psk s ask sealed) ∷ m) None
replied_held q s m ask b sealed effect k t brings other tells =
    let text = answer_text q.psk s ask sealed in
    let inner = answer_inner q.psk s ask sealed in
    let told = update_told q.psk effect ask b text (little_number 2 text) brings (subst (InnerTells effect) (inner_as q.psk s ask sealed) tells) t in
    subst (λ (u : List ℕ). HeldAt q.psk u (Took sealed inner effect ∷ s) (marks.Asked.Heard (t2_of s) b text ∷ m) None) (same_second s sealed inner effect other)
    (held_heard q.psk (t2_of s) s m b text sealed inner effect k other told.0 told.1 told.2)

pub asks_past : (ask : Ask) → is_finish ask ≡ false → is_past_handshake (stage_for ask) ≡ true
asks_past AskFinish e = absurd (cc)
asks_past AskVerify e = refl
asks_past _ e = refl

pub next_is_no_finish : (q : ReqSetup) (h : History) (f : Free) (came : Came) (effect : Effect) (ask : Ask) (x : Sent) (n : IsNext q h f came effect ask x) → is_finish n.asks ≡ false
next_is_no_finish q h f came effect ask x n = elim n.kind [ inl v ↦ ap is_finish v.0 | inr c ↦ ap is_finish c.4 ]

pub next_tells : (q : ReqSetup) (h : History) (f : Free) (came : Came) (effect : Effect) (ask : Ask) (x : Sent) (n : IsNext q h f came effect ask x) → RequestTells n.asks (plain_text n.inner f.pad)
next_tells q h f came effect ask x n = elim n.kind [
  | inl v ↦ subst (λ (a : Ask). RequestTells a (plain_text n.inner f.pad)) (sym v.0) (subst (λ (i : List ℕ). RequestTells AskVerify (plain_text i f.pad)) (sym v.1) (verify_tells (with_record came effect) f.pad))
  | inr c ↦ subst (λ (a : Ask). RequestTells a (plain_text n.inner f.pad)) (sym c.4) (subst (λ (i : List ℕ). RequestTells (AskChunk c.0 c.1 c.2 c.3) (plain_text i f.pad)) (sym c.5) (chunk_tells c.0 c.1 c.2 c.3 c.2 f.pad))
]

abbrev replied : List ℕ → Steps → List ℕ → List ℕ → List marks.Asked → List marks.Asked
replied u s b text m = marks.Asked.Heard u b text ∷ m

next_leads : (q : ReqSetup) (h : History) (f : Free) (id of : ℕ) (y : Step) (ys : Steps) (m : List marks.Asked) (served : List Served) (log : Log) (ask : Ask) (b sealed : List ℕ) (effect : Effect) (next : Option Sent)
    → stage_of (y ∷ ys) ≡ stage_for ask → asked_open (reading_of q.psk) of m ≡ Some (asked_first (y ∷ ys), t2_of (y ∷ ys)) → HeldWell q.psk (y ∷ ys) m (Some b) → RequestTells ask b → may_bring effect ask ≡ true → finishes effect ≡ false
    → InnerTells effect (answer_inner q.psk (y ∷ ys) ask sealed) → NextRecord q h f (came_at q id (y ∷ ys) ask sealed) effect ask next
    → OwnLeads (reading_of q.psk) (at (marks.Asked.Heard (t2_of (y ∷ ys)) b (answer_text q.psk (y ∷ ys) ask sealed) ∷ m) served log)
    (at (next_marks (Took sealed (answer_inner q.psk (y ∷ ys) ask sealed) effect ∷ y ∷ ys) next ++ marks.Asked.Heard (t2_of (y ∷ ys)) b (answer_text q.psk (y ∷ ys) ask sealed) ∷ m) served (sent_made q.psk (Took sealed (answer_inner q.psk (y ∷ ys) ask sealed) effect ∷ y ∷ ys) next ++ log))
next_leads q h f id of y ys m served log ask b sealed effect None g is k t brings other tells n = ([], tt, refl)
next_leads q h f id of y ys m served log ask b sealed effect (Some x) g is k t brings other tells n =
    let s = y ∷ ys in
    let later = Took sealed (answer_inner q.psk s ask sealed) effect ∷ s in
    let m' = marks.Asked.Heard (t2_of s) b (answer_text q.psk s ask sealed) ∷ m in
    let past : is_past_handshake (stage_of later) ≡ true = ap is_past_handshake (ap (stage_behind effect) g ∙ n.fits) ∙ asks_past n.asks (next_is_no_finish q h f (came_at q id s ask sealed) effect ask x n) in
    subst (λ (z : Sent). OwnLeads (reading_of q.psk) (at m' served log) (at (content_marks later z.content ++ m') served (sent_made q.psk later (Some z) ++ log))) (sym n.is)
    (says q.psk later of m' served log n.inner f.pad past (is ∙ ap (λ (u : List ℕ). Some (asked_first s, u)) (same_second s sealed (answer_inner q.psk s ask sealed) effect other)) (replied_held q s m ask b sealed effect k t brings other tells))

open_finish : (ask : Ask) (effect : Effect) → is_finish ask ≡ false → may_bring effect ask ≡ true → finishes effect ≡ false
open_finish ask effect n brings = finishes_only effect ask brings ∙ n

-- Of an established session.
pub replies : (q : ReqSetup) (h : History) (f : Free) (id : ℕ) (y : Step) (ys : Steps) (m : List marks.Asked) (served : List Served) (log : Log) (ask : Ask) (b sealed : List ℕ) (led : Led)
    → is_finish ask ≡ false → stage_of (y ∷ ys) ≡ stage_for ask → asked_open (reading_of q.psk) id m ≡ Some (asked_first (y ∷ ys), t2_of (y ∷ ys)) → HeldWell q.psk (y ∷ ys) m (Some b) → RequestTells ask b
    → answer_fault q.psk (y ∷ ys) ask sealed ≡ None → RecordLed q h f (came_at q id (y ∷ ys) ask sealed) ask led
    → OwnLeads (reading_of q.psk) (at m served log)
    (at (next_marks (Took sealed (answer_inner q.psk (y ∷ ys) ask sealed) led.effect ∷ y ∷ ys) led.next ++ marks.Asked.Heard (t2_of (y ∷ ys)) b (answer_text q.psk (y ∷ ys) ask sealed) ∷ m) served
    (sent_made q.psk (Took sealed (answer_inner q.psk (y ∷ ys) ask sealed) led.effect ∷ y ∷ ys) led.next ++ (record_check q (y ∷ ys) ask sealed ++ log)))
replies q h f id y ys m served log ask b sealed led n g is k t opened shape =
    let r = reading_of q.psk in
    let s = y ∷ ys in
    let past : is_past_handshake (stage_of s) ≡ true = ap is_past_handshake g ∙ asks_past ask n in
    let heard = hears q s id m served log ask b sealed past is k t opened in
    let m' = marks.Asked.Heard (t2_of s) b (answer_text q.psk s ask sealed) ∷ m in
    let later = Took sealed (answer_inner q.psk s ask sealed) led.effect ∷ s in
    elim shape [
      | inl a ↦ join r (at m served log) (at m' served (record_check q s ask sealed ++ log)) (at (next_marks later led.next ++ m') served (sent_made q.psk later led.next ++ (record_check q s ask sealed ++ log))) heard
          (next_leads q h f id id y ys m served (record_check q s ask sealed ++ log) ask b sealed led.effect led.next g is k t a.brings (open_finish ask led.effect n a.brings) a.tells a.next)
      | inr e ↦ subst (λ (o : Option Sent). OwnLeads r (at m served log) (at (next_marks later o ++ m') served (sent_made q.psk later o ++ (record_check q s ask sealed ++ log)))) (sym e.next) heard
    ]

-- ---- PSK_FINISH_RSP.

pub finish_effect : (effect : Effect) → finishes effect ≡ true → (a : List ℕ) × (effect ≡ Grants AskFinish a)
finish_effect (Grants AskFinish a) e = (a, refl)
finish_effect (Grants _ a) e = absurd (cc)
finish_effect _ e = absurd (cc)

abbrev pub shaken : List ℕ → transcript.Negotiation → (exchange answer sealed : List ℕ) → Steps
shaken psk n exchange answer sealed = Asked AskFinish (finish_inner psk (Accepted answer ∷ Started n exchange ∷ [])) sealed ∷ Accepted answer ∷ Started n exchange ∷ []

inner_from : List ℕ → List ℕ
inner_from text = drop 1 (take (little_number 2 text) (drop 2 text))

finish_inside : drop 1 (take (little_number 2 (plain_text (5 ∷ finish_reply) [])) (drop 2 (plain_text (5 ∷ finish_reply) []))) ≡ finish_reply
finish_inside = refl

pub opens_by : (q : ReqSetup) (n : transcript.Negotiation) (exchange answer x : List ℕ) (m : List marks.Asked) (served : List Served) (log : Log) (sealed : List ℕ) (effect : Effect)
    → finishing m ≡ Some (asked_first (shaken q.psk n exchange answer x)) → answer_fault q.psk (shaken q.psk n exchange answer x) AskFinish sealed ≡ None → finishes effect ≡ true → InnerTells effect (answer_inner q.psk (shaken q.psk n exchange answer x) AskFinish sealed)
    → OwnLeads (reading_of q.psk) (at m served log)
    (at (marks.Asked.Opened (asked_first (shaken q.psk n exchange answer x)) (t2_of (Took sealed (answer_inner q.psk (shaken q.psk n exchange answer x) AskFinish sealed) effect ∷ shaken q.psk n exchange answer x)) ∷ m) served (record_check q (shaken q.psk n exchange answer x) AskFinish sealed ++ log))
opens_by q n exchange answer x m served log sealed effect waits opened ends tells =
    let s = shaken q.psk n exchange answer x in
    let text = answer_text q.psk s AskFinish sealed in
    let inner = answer_inner q.psk s AskFinish sealed in
    let e = finish_effect effect ends in
    let t = subst (λ (z : Effect). InnerTells z inner) e.1 tells in
    let inside : (slice_index (take (little_number 2 text) (drop 2 text)) 0 ≡ 5) × (slice_index (drop 1 (take (little_number 2 text) (drop 2 text))) 1 ≡ PSK_FINISH_RSP) =
    subst (λ (z : List ℕ). (slice_index z 0 ≡ 5) × (slice_index (drop 1 z) 1 ≡ PSK_FINISH_RSP)) (inner_as q.psk s AskFinish sealed) (t.0, t.1) in
    let whole : text ≡ (reading_of q.psk).finish_answer (asked_first s) → e.0 ≡ finish_reply = λ same. t.2 ∙ ap (λ (z : List ℕ). drop 1 z) (inner_as q.psk s AskFinish sealed) ∙ ap (λ (z : List ℕ). drop 1 (take (little_number 2 z) (drop 2 z))) same ∙ finish_inside in
    opens q s (t2_of (Took sealed inner effect ∷ s)) m served log sealed refl refl waits opened (text_tells (little_number 2 text) text PSK_EXCHANGE_RSP inside.0 inside.1 refl)
    (λ same. ap (λ (z : Effect). t2_of (Took sealed inner z ∷ s)) e.1 ∙ ap (λ (a : List ℕ). transcript.t2_of (session_vca s) (exchange_of s) (exchange_answer s) (finish_of s) a) (whole same))
