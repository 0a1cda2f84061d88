-- What a requester's history keeps, it keeps with a record that is taken.
use Rattle.std.proofs.Common.{◌≡◌, ℕ, List, [], ◌∷◌, ◌++◌, Bool, true, false, cond, Option, Some, None, ◌==◌, refl, sym, ap, ◌∙◌, inl, inr, subst, true≢false, bytes_eq}
use Rattle.requester_machine.specs.Commands.{Free}
use Rattle.requester_machine.specs.History.{History, Effect, Led}
use Rattle.requester_machine.specs.Message.{Ask, Sent}
use Rattle.requester_machine.specs.Message.Ask.{AskFinish}
use Rattle.requester_machine.specs.InnerMessages.{with_record}
use Rattle.requester_machine.specs.Records.{answer_inner, sealed_next}
use Rattle.requester_machine.specs.Session.{Step, Steps, t2_of, finishes, ends, with_sent, with_aim, after_record}
use Rattle.requester_machine.specs.Session.Step.{Took, Asked}
use Rattle.secured_record.specs.Format.{plain_text}
use Rattle.requester_machine.specs.Setup.{ReqSetup}
use Rattle.transcript.specs.Transcripts as transcript
use Rattle.spdm_agreement.specs.Marks as marks
use Rattle.spdm_agreement.specs.Marks.{Text, heard, outstanding}
use Rattle.spdm_agreement.specs.Reading.{First}
use Rattle.spdm_agreement.specs.Story.{asked_first, answer_text, next_marks, content_marks}
use Rattle.spdm_agreement.proofs.Requester.CommandMoves.{own_asked}
use Rattle.spdm_agreement.proofs.Requester.Entries.{RequestTells}
use Rattle.spdm_agreement.proofs.Requester.Counts.{HeldAt, HeldWell, held_opened, held_past, held_past_heard, held_past_sealed}
use Rattle.spdm_agreement.proofs.Requester.HistoryInvariant.{waiting_in, waiting_text, is_held}
use Rattle.spdm_agreement.proofs.Requester.Waiting.{is_finish, finishes_only}
use Rattle.spdm_agreement.proofs.Requester.RecordLeads.{RecordLed, NextRecord}
use Rattle.spdm_agreement.proofs.Requester.RecordsTaken.{answered_finish}
use Rattle.spdm_agreement.proofs.Requester.RecordMoves.{came_at, replied_held, shaken, finish_effect, next_is_no_finish}
use Rattle.spdm_agreement.proofs.Requester.OpenSessions.{same_second}

-- The session to which the record came.
own_next : (q : ReqSetup) (h : History) (f : Free) (of id : ℕ) (s : Steps) (m : List marks.Asked) (ask : Ask) (sealed inner : List ℕ) (effect : Effect) (next : Option Sent) → (of == id) ≡ true → NextRecord q h f (came_at q of s ask sealed) effect ask next
    → HeldWell q.psk (Took sealed inner effect ∷ s) m None → HeldWell q.psk (with_sent id next (Took sealed inner effect ∷ s)) (next_marks (Took sealed inner effect ∷ s) next ++ m) (waiting_text id next)
own_next q h f of id s m ask sealed inner effect None is n k = k
own_next q h f of id s m ask sealed inner effect (Some x) is n k =
    let later = Took sealed inner effect ∷ s in
    subst (λ (z : Sent). HeldWell q.psk (with_aim id z.aim z.content later) (content_marks later z.content ++ m) (waiting_in id z.aim z.content)) (sym n.is)
    (subst (λ (c : Bool). HeldWell q.psk (cond c (Asked n.asks n.inner (sealed_next q.psk (with_record (came_at q of s ask sealed) effect) n.inner f.pad) ∷ later) later) (marks.Asked.Sealed (t2_of later) (plain_text n.inner f.pad) ∷ m) (cond c (Some (plain_text n.inner f.pad)) None)) (sym is)
    (own_asked q.psk n.asks n.inner (sealed_next q.psk (with_record (came_at q of s ask sealed) effect) n.inner f.pad) (plain_text n.inner f.pad) later m (next_is_no_finish q h f (came_at q of s ask sealed) effect ask x n) refl k))

-- Any other session.
other_next : (q : ReqSetup) (h : History) (f : Free) (of id : ℕ) (s other : Steps) (m : List marks.Asked) (ask : Ask) (sealed inner : List ℕ) (effect : Effect) (next : Option Sent) → (of == id) ≡ false → NextRecord q h f (came_at q of s ask sealed) effect ask next
    → bytes_eq (t2_of (Took sealed inner effect ∷ s)) (t2_of other) ≡ false → HeldWell q.psk other m None → HeldWell q.psk other (next_marks (Took sealed inner effect ∷ s) next ++ m) (waiting_text id next)
other_next q h f of id s other m ask sealed inner effect None is n apart k = k
other_next q h f of id s other m ask sealed inner effect (Some x) is n apart k =
    let later = Took sealed inner effect ∷ s in
    subst (λ (z : Sent). HeldWell q.psk other (content_marks later z.content ++ m) (waiting_in id z.aim z.content)) (sym n.is)
    (subst (λ (c : Bool). HeldWell q.psk other (marks.Asked.Sealed (t2_of later) (plain_text n.inner f.pad) ∷ m) (cond c (Some (plain_text n.inner f.pad)) None)) (sym is)
    (held_past_sealed q.psk (t2_of later) (t2_of other) other m (plain_text n.inner f.pad) None apart k))

no_steps : (psk : List ℕ) (m : List marks.Asked) (w : Option Text) (s : Steps) → s ≡ [] → is_held s ≡ true → HeldWell psk s m w
no_steps psk m w s e held = absurd (true≢false (sym (subst (λ (x : Steps). is_held x ≡ true) e held)))

abbrev pub behind : Bool → ℕ → Option Sent → (sealed inner : List ℕ) → Effect → Steps → Steps
behind c id next sealed inner effect s = cond c (with_sent id next (after_record sealed inner effect s)) s

-- ---- After the handshake.

pub past_held : (q : ReqSetup) (h : History) (f : Free) (of id : ℕ) (y : Step) (ys : Steps) (other : Steps) (m : List marks.Asked) (ask : Ask) (b sealed : List ℕ) (led : Led) (c : Bool) → (of == id) ≡ c → (c ≡ true → y ∷ ys ≡ other)
    → is_finish ask ≡ false → HeldWell q.psk (y ∷ ys) m (Some b) → RequestTells ask b → RecordLed q h f (came_at q of (y ∷ ys) ask sealed) ask led
    → (c ≡ false → is_held other ≡ true → HeldWell q.psk other m None) → (c ≡ false → is_held other ≡ true → bytes_eq (t2_of (y ∷ ys)) (t2_of other) ≡ false)
    → is_held (behind c id led.next sealed (answer_inner q.psk (y ∷ ys) ask sealed) led.effect other) ≡ true
    → HeldWell q.psk (behind c id led.next sealed (answer_inner q.psk (y ∷ ys) ask sealed) led.effect other)
    (next_marks (Took sealed (answer_inner q.psk (y ∷ ys) ask sealed) led.effect ∷ y ∷ ys) led.next ++ marks.Asked.Heard (t2_of (y ∷ ys)) b (answer_text q.psk (y ∷ ys) ask sealed) ∷ m) (waiting_text id led.next)
past_held q h f of id y ys other m ask b sealed led true is same n k t shape all differs held =
    let s = y ∷ ys in
    let inner = answer_inner q.psk s ask sealed in
    let later = Took sealed inner led.effect ∷ s in
    let mark = marks.Asked.Heard (t2_of s) b (answer_text q.psk s ask sealed) in
    let there : after_record sealed inner led.effect other ≡ cond (ends led.effect) [] later = ap (after_record sealed inner led.effect) (sym (same refl)) in
    elim shape [
      | inl a ↦ (let e : after_record sealed inner led.effect other ≡ later = there ∙ ap (λ (c : Bool). cond c [] later) a.stays in
          subst (λ (x : Steps). HeldWell q.psk (with_sent id led.next x) (next_marks later led.next ++ mark ∷ m) (waiting_text id led.next)) (sym e)
          (own_next q h f of id s (mark ∷ m) ask sealed inner led.effect led.next is a.next (replied_held q s m ask b sealed led.effect k t a.brings (finishes_only led.effect ask a.brings ∙ n) a.tells)))
      | inr e ↦ no_steps q.psk _ _ _ (ap (λ (o : Option Sent). with_sent id o (after_record sealed inner led.effect other)) e.next ∙ there ∙ ap (λ (c : Bool). cond c [] later) e.ends_it) held
    ]
past_held q h f of id y ys other m ask b sealed led false is same n k t shape all differs held =
    let s = y ∷ ys in
    let inner = answer_inner q.psk s ask sealed in
    let later = Took sealed inner led.effect ∷ s in
    let mark = marks.Asked.Heard (t2_of s) b (answer_text q.psk s ask sealed) in
    let past = held_past_heard q.psk (t2_of s) (t2_of other) other m b (answer_text q.psk s ask sealed) None (differs refl held) (all refl held) in
    elim shape [
      | inl a ↦ other_next q h f of id s other (mark ∷ m) ask sealed inner led.effect led.next is a.next
          (ap (λ (u : List ℕ). bytes_eq u (t2_of other)) (sym (same_second s sealed inner led.effect (finishes_only led.effect ask a.brings ∙ n))) ∙ differs refl held) past
      | inr e ↦ subst (λ (o : Option Sent). HeldWell q.psk other (next_marks later o ++ mark ∷ m) (waiting_text id o)) (sym e.next) past
    ]

-- ---- In the handshake.

other_opened : (psk : List ℕ) (other : Steps) (m : List marks.Asked) (t : First) (u : List ℕ) (c : Bool) → HeldWell psk other m None → HeldWell psk other (cond c (marks.Asked.Opened t u ∷ []) [] ++ m) None
other_opened psk other m t u true k = held_past psk u (t2_of other) other m (marks.Asked.Opened t u ∷ m) None refl refl k
other_opened psk other m t u false k = k

own_opened : (q : ReqSetup) (n : transcript.Negotiation) (exchange answer x : List ℕ) (m : List marks.Asked) (sealed inner : List ℕ) (effect : Effect) (t : First) (v : List ℕ) → finishes effect ≡ true
    → heard (t2_of (Took sealed inner effect ∷ shaken q.psk n exchange answer x)) m ≡ [] → outstanding (t2_of (Took sealed inner effect ∷ shaken q.psk n exchange answer x)) m ≡ None
    → HeldWell q.psk (Took sealed inner effect ∷ shaken q.psk n exchange answer x) (marks.Asked.Opened t v ∷ m) None
own_opened q n exchange answer x m sealed inner effect t v ends e o =
    let s = shaken q.psk n exchange answer x in
    let g = finish_effect effect ends in
    let u = t2_of (Took sealed inner effect ∷ s) in
    subst (λ (z : Effect). HeldAt q.psk u (Took sealed inner z ∷ s) (marks.Asked.Opened t v ∷ m) None) (sym g.1)
    (held_opened q.psk u (marks.Asked.Opened t v ∷ m) g.0 sealed inner s e o refl refl)

pub finish_held : (q : ReqSetup) (h : History) (f : Free) (of id : ℕ) (n : transcript.Negotiation) (exchange answer x : List ℕ) (other : Steps) (m : List marks.Asked) (sealed : List ℕ) (led : Led) (c : Bool) → (c ≡ true → shaken q.psk n exchange answer x ≡ other)
    → RecordLed q h f (came_at q of (shaken q.psk n exchange answer x) AskFinish sealed) AskFinish led
    → (c ≡ false → is_held other ≡ true → HeldWell q.psk other m None)
    → (finishes led.effect ≡ true → (heard (t2_of (Took sealed (answer_inner q.psk (shaken q.psk n exchange answer x) AskFinish sealed) led.effect ∷ shaken q.psk n exchange answer x)) m ≡ [])
    × (outstanding (t2_of (Took sealed (answer_inner q.psk (shaken q.psk n exchange answer x) AskFinish sealed) led.effect ∷ shaken q.psk n exchange answer x)) m ≡ None))
    → is_held (behind c id led.next sealed (answer_inner q.psk (shaken q.psk n exchange answer x) AskFinish sealed) led.effect other) ≡ true
    → HeldWell q.psk (behind c id led.next sealed (answer_inner q.psk (shaken q.psk n exchange answer x) AskFinish sealed) led.effect other)
    (cond (finishes led.effect) (marks.Asked.Opened (asked_first (shaken q.psk n exchange answer x)) (t2_of (Took sealed (answer_inner q.psk (shaken q.psk n exchange answer x) AskFinish sealed) led.effect ∷ shaken q.psk n exchange answer x)) ∷ []) [] ++ m) (waiting_text id led.next)
finish_held q h f of id n exchange answer x other m sealed led true same shape all quiet held =
    let s = shaken q.psk n exchange answer x in
    let inner = answer_inner q.psk s AskFinish sealed in
    let later = Took sealed inner led.effect ∷ s in
    let there : after_record sealed inner led.effect other ≡ cond (ends led.effect) [] later = ap (after_record sealed inner led.effect) (sym (same refl)) in
    elim shape [
      | inl a ↦ (let g = answered_finish q h f (came_at q of s AskFinish sealed) led a in
          let e : after_record sealed inner led.effect other ≡ later = there ∙ ap (λ (c : Bool). cond c [] later) a.stays in
          subst (λ (o : Option Sent). HeldWell q.psk (with_sent id o (after_record sealed inner led.effect other)) (cond (finishes led.effect) (marks.Asked.Opened (asked_first s) (t2_of later) ∷ []) [] ++ m) (waiting_text id o)) (sym g.1)
          (subst (λ (z : Steps). HeldWell q.psk z (cond (finishes led.effect) (marks.Asked.Opened (asked_first s) (t2_of later) ∷ []) [] ++ m) None) (sym e)
          (subst (λ (c : Bool). HeldWell q.psk later (cond c (marks.Asked.Opened (asked_first s) (t2_of later) ∷ []) [] ++ m) None) (sym g.0)
          (own_opened q n exchange answer x m sealed inner led.effect (asked_first s) (t2_of later) g.0 (quiet g.0).0 (quiet g.0).1))))
      | inr e ↦ no_steps q.psk _ _ _ (ap (λ (o : Option Sent). with_sent id o (after_record sealed inner led.effect other)) e.next ∙ there ∙ ap (λ (c : Bool). cond c [] later) e.ends_it) held
    ]
finish_held q h f of id n exchange answer x other m sealed led false same shape all quiet held =
    let s = shaken q.psk n exchange answer x in
    let inner = answer_inner q.psk s AskFinish sealed in
    let later = Took sealed inner led.effect ∷ s in
    let k = other_opened q.psk other m (asked_first s) (t2_of later) (finishes led.effect) (all refl held) in
    let none : led.next ≡ None = elim shape [ inl a ↦ (answered_finish q h f (came_at q of s AskFinish sealed) led a).1 | inr e ↦ e.next ] in
    subst (λ (o : Option Sent). HeldWell q.psk other (cond (finishes led.effect) (marks.Asked.Opened (asked_first s) (t2_of later) ∷ []) [] ++ m) (waiting_text id o)) (sym none) k
