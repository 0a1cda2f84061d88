-- An answer that goes whole, and a LargeResponse, tell what they lead to at the responder.
use Rattle.std.proofs.lemmas.Bool.{not-true}
use Rattle.std.proofs.Common.{◌≡◌, ◌≤◌, ◌==◌, ℕ, List, [], ◌∷◌, refl, sym, ap, ◌∙◌, subst, length, drop, Bool, true, false, cond}
use Rattle.std.specs.Prelude.{slice_index}
use Rattle.spdm_grammar.specs.declared.names.TheConstants.{MAX_MESSAGE_SIZE}
use Rattle.responder_machine.specs.Answer.{Free, answer_bytes}
use Rattle.responder_machine.specs.History.{History, Entry}
use Rattle.responder_machine.specs.History.Entry.{Clear, Sealed, Queued, Ticked, Dropped}
use Rattle.responder_machine.specs.May.{IsAllowed, MayDrop, with_dropped, place_for}
use Rattle.responder_machine.specs.Place.{clear_place, session_place}
use Rattle.responder_machine.specs.Records.{opened}
use Rattle.responder_machine.specs.Responder.{Outcome, on_clear, on_record, body_of, after}
use Rattle.responder_machine.specs.Responder.Outcome.{Same, Unopened, Adds}
use Rattle.responder_machine.specs.Session.{session_of, id_in_record}
use Rattle.responder_machine.specs.Setup.{RspSetup}
use Rattle.capture_machine.specs.CapturedAnswers.{MayLeadTo, MayLeadAfter, AreShown, is_plain, clear_answer, record_answer}
use Rattle.capture_machine.specs.LargeAnswers.{is_large, unseen}
use Rattle.capture_machine.specs.Rounds.{no_draw}
use Rattle.capture_machine.proofs.TurnsAlike.{turns_same, turns_large, turns_erased}
use Rattle.capture_machine.proofs.RepliesTell.{EntriesAlike, OutcomesAlike}
use Rattle.capture_machine.proofs.RecordsTell.{record_told}
use Rattle.capture_machine.proofs.DropsTell.{clear_drops, no_clear_drop, one_drop, RecordForm, record_form, record_shown, no_record_drop}
use Rattle.spdm_basis.proofs.Bools.{and_first}

-- ---- What a body may lead to, by its type.

pub record ClearLed (r : RspSetup) (h : History) (tag : ℕ) (body : List ℕ) (o : Outcome) : Type 0 where
  pub free : Free
  pub allowed : IsAllowed h (place_for h body) free
  pub leads : on_clear r h tag (drop 1 body) free no_draw ≡ o

pub record RecordLed (r : RspSetup) (h : History) (tag : ℕ) (body : List ℕ) (o : Outcome) : Type 0 where
  pub free : Free
  pub few : length free.reply ≤ 1024
  pub short : length (answer_bytes r (session_place (session_of (id_in_record (drop 1 body)) h)) (drop 1 (opened r.psk (session_of (id_in_record (drop 1 body)) h) (drop 1 body))) free) ≤ MAX_MESSAGE_SIZE
  pub leads : on_record r h tag (drop 1 body) free no_draw ≡ o

pub led_clear : (r : RspSetup) (h : History) (tag : ℕ) (body : List ℕ) (o : Outcome) → (slice_index body 0 == 5) ≡ true → MayLeadTo r h tag body o → ClearLed r h tag body o
unfolding MayLeadTo
led_clear r h tag body o is may = record {
  free = may.0;
  allowed = may.1;
  leads = sym (ap (λ (b : Bool). cond b (on_clear r h tag (drop 1 body) may.0 no_draw) (on_record r h tag (drop 1 body) may.0 no_draw)) is) ∙ may.3;
}

pub led_record : (r : RspSetup) (h : History) (tag : ℕ) (body : List ℕ) (o : Outcome) → (slice_index body 0 == 5) ≡ false → MayLeadTo r h tag body o → RecordLed r h tag body o
unfolding MayLeadTo
led_record r h tag body o is may = record {
  free = may.0;
  few = may.1.reply;
  short = subst (λ (b : Bool). length (cond b (clear_answer r (clear_place h) (drop 1 body) may.0) (record_answer r (session_of (id_in_record (drop 1 body)) h) (drop 1 body) may.0)) ≤ MAX_MESSAGE_SIZE) is may.2;
  leads = sym (ap (λ (b : Bool). cond b (on_clear r h tag (drop 1 body) may.0 no_draw) (on_record r h tag (drop 1 body) may.0 no_draw)) is) ∙ may.3;
}

-- Two outcomes of one clear body.
pub clear_alike : (r : RspSetup) (h : History) (ids others : List ℕ) (tag : ℕ) (body : List ℕ) (o q : Outcome) → ClearLed r (with_dropped h ids) tag body o → ClearLed r (with_dropped h others) tag body q
    → body_of o ≡ body_of q → OutcomesAlike o q
clear_alike r h ids others tag body o q one two same =
    let P : Outcome → Type 0 = λ x. OutcomesAlike x q in
    let Q : Outcome → Type 0 = λ x. OutcomesAlike (on_clear r (with_dropped h ids) tag (drop 1 body) one.free no_draw) x in
    subst P one.leads (subst Q two.leads (clear_drops r h ids others tag (drop 1 body) one.free two.free (ap body_of one.leads ∙ same ∙ sym (ap body_of two.leads))))

-- Two outcomes of one record, where nothing was dropped.
pub record_alike : (r : RspSetup) (h : History) (tag : ℕ) (body : List ℕ) (o q : Outcome) → RecordLed r h tag body o → RecordLed r h tag body q → body_of o ≡ body_of q → OutcomesAlike o q
record_alike r h tag body o q one two same =
    let P : Outcome → Type 0 = λ x. OutcomesAlike x q in
    let Q : Outcome → Type 0 = λ x. OutcomesAlike (on_record r h tag (drop 1 body) one.free no_draw) x in
    subst P one.leads (subst Q two.leads (record_told r tag one.free two.free no_draw one.few two.few h (drop 1 body) one.short two.short (ap body_of one.leads ∙ same ∙ sym (ap body_of two.leads))))

-- ---- Whole answers.

pub unopened_alike : (o q : Outcome) (b c : List ℕ) → o ≡ Unopened b → q ≡ Unopened c → body_of o ≡ body_of q → OutcomesAlike o q
unopened_alike o q b c is are same =
    let P : Outcome → Type 0 = λ x. OutcomesAlike x q in
    let Q : Outcome → Type 0 = λ x. OutcomesAlike (Unopened b) x in
    subst P (sym is) (subst Q (sym are) (sym (ap body_of is) ∙ same ∙ ap body_of are))

clear_plain : (r : RspSetup) (h : History) (ids others : List ℕ) (tag : ℕ) (body : List ℕ) (o q : Outcome) → MayDrop h ids → MayDrop h others → ClearLed r (with_dropped h ids) tag body o → ClearLed r (with_dropped h others) tag body q
    → AreShown r h body o ids → AreShown r h body q others → is_plain h o ≡ true → is_plain h q ≡ true → body_of o ≡ body_of q → (ids ≡ others) × OutcomesAlike o q
clear_plain r h [] [] tag body o q may might one two shown show plain plane same = (refl, clear_alike r h [] [] tag body o q one two same)
clear_plain r h (id ∷ []) (other ∷ []) tag body o q may might one two shown show plain plane same =
    let alike = clear_alike r h (id ∷ []) (other ∷ []) tag body o q one two same in
    (ap (λ (n : ℕ). n ∷ []) (one_drop r h body id other o q alike plain shown show), alike)
clear_plain r h [] (id ∷ []) tag body o q may might one two shown show plain plane same =
    absurd (no_clear_drop r h tag (drop 1 body) body one.free (place_for h body) id o q one.allowed might one.leads (clear_alike r h [] (id ∷ []) tag body o q one two same) plane show)
clear_plain r h (id ∷ []) [] tag body o q may might one two shown show plain plane same =
    absurd (no_clear_drop r h tag (drop 1 body) body two.free (place_for h body) id q o two.allowed may two.leads (clear_alike r h [] (id ∷ []) tag body q o two one (sym same)) plain shown)
clear_plain r h (id ∷ x ∷ xs) others tag body o q may might one two shown show plain plane same = absurd shown
clear_plain r h ids (id ∷ x ∷ xs) tag body o q may might one two shown show plain plane same = absurd show

pub form_of : (r : RspSetup) (h : History) (tag : ℕ) (body : List ℕ) (o : Outcome) → RecordLed r h tag body o → RecordForm r h tag (drop 1 body) o
form_of r h tag body o led = record_form r tag (drop 1 body) led.free o h led.leads

record_plain : (r : RspSetup) (h : History) (ids others : List ℕ) (tag : ℕ) (body : List ℕ) (o q : Outcome) → MayDrop h ids → MayDrop h others → RecordLed r (with_dropped h ids) tag body o → RecordLed r (with_dropped h others) tag body q
    → AreShown r h body o ids → AreShown r h body q others → body_of o ≡ body_of q → (ids ≡ others) × OutcomesAlike o q
record_plain r h [] [] tag body o q may might one two shown show same = (refl, record_alike r h tag body o q one two same)
record_plain r h (id ∷ []) (other ∷ []) tag body o q may might one two shown show same =
    let a = record_shown r h (Dropped id ∷ h) tag body id o (form_of r (Dropped id ∷ h) tag body o one) shown in
    let b = record_shown r h (Dropped other ∷ h) tag body other q (form_of r (Dropped other ∷ h) tag body q two) show in
    (ap (λ (n : ℕ). n ∷ []) (sym a.1 ∙ b.1), unopened_alike o q _ _ a.0.1 b.0.1 same)
record_plain r h [] (id ∷ []) tag body o q may might one two shown show same =
    absurd (no_record_drop r h (Dropped id ∷ h) tag body id o q might (form_of r h tag body o one) (form_of r (Dropped id ∷ h) tag body q two) show same)
record_plain r h (id ∷ []) [] tag body o q may might one two shown show same =
    absurd (no_record_drop r h (Dropped id ∷ h) tag body id q o may (form_of r h tag body q two) (form_of r (Dropped id ∷ h) tag body o one) shown (sym same))
record_plain r h (id ∷ x ∷ xs) others tag body o q may might one two shown show same = absurd shown
record_plain r h ids (id ∷ x ∷ xs) tag body o q may might one two shown show same = absurd show

-- An answer that goes whole tells the sessions that it shows as dropped, and what the request led to.
pub plain_told : (r : RspSetup) (h : History) (ids others : List ℕ) (tag : ℕ) (body : List ℕ) (o q : Outcome) → MayLeadAfter r h ids tag body o → MayLeadAfter r h others tag body q
    → AreShown r h body o ids → AreShown r h body q others → is_plain h o ≡ true → is_plain h q ≡ true → body_of o ≡ body_of q → (ids ≡ others) × OutcomesAlike o q
plain_told r h ids others tag body o q one two shown show plain plane same = by_type (slice_index body 0 == 5) refl
  where
    by_type : (b : Bool) → (slice_index body 0 == 5) ≡ b → (ids ≡ others) × OutcomesAlike o q
    by_type true is = clear_plain r h ids others tag body o q one.0 two.0 (led_clear r (with_dropped h ids) tag body o is one.1) (led_clear r (with_dropped h others) tag body q is two.1) shown show plain plane same
    by_type false is = record_plain r h ids others tag body o q one.0 two.0 (led_record r (with_dropped h ids) tag body o is one.1) (led_record r (with_dropped h others) tag body q is two.1) shown show same

-- ---- Entries.

-- An entry whose answer goes whole is told.
pub entries_same : (e f : Entry) → EntriesAlike e f → is_large e ≡ false → e ≡ f
entries_same (Clear tag t d) (Clear tag' u d') alike small = let a = alike.0 in let b = turns_same t u alike.1 small in let c = alike.2 in cc
entries_same (Sealed tag m t reply d) (Sealed tag' n u answer d') alike small = let a = alike.0 in let b = alike.1 in let c = turns_same t u alike.2 small in let x = alike.3 in let y = alike.4 in cc
entries_same (Clear tag t d) (Sealed tag' n u answer d') alike small = absurd alike
entries_same (Clear tag t d) (Queued bytes) alike small = absurd alike
entries_same (Clear tag t d) (Ticked seconds) alike small = absurd alike
entries_same (Clear tag t d) (Dropped id) alike small = absurd alike
entries_same (Sealed tag m t reply d) (Clear tag' u d') alike small = absurd alike
entries_same (Sealed tag m t reply d) (Queued bytes) alike small = absurd alike
entries_same (Sealed tag m t reply d) (Ticked seconds) alike small = absurd alike
entries_same (Sealed tag m t reply d) (Dropped id) alike small = absurd alike
entries_same (Queued bytes) f alike small = absurd alike
entries_same (Ticked seconds) f alike small = absurd alike
entries_same (Dropped id) f alike small = absurd alike

-- Any other is told but for the bytes of the answer.
pub entries_erased : (e f : Entry) → EntriesAlike e f → (unseen e ≡ unseen f) × (is_large e ≡ is_large f)
entries_erased (Clear tag t d) (Clear tag' u d') alike = (let a = alike.0 in let b = turns_erased t u alike.1 in let c = alike.2 in cc, turns_large t u alike.1)
entries_erased (Sealed tag m t reply d) (Sealed tag' n u answer d') alike = (let a = alike.0 in let b = alike.1 in let c = turns_erased t u alike.2 in let x = alike.3 in let y = alike.4 in cc, turns_large t u alike.2)
entries_erased (Clear tag t d) (Sealed tag' n u answer d') alike = absurd alike
entries_erased (Clear tag t d) (Queued bytes) alike = absurd alike
entries_erased (Clear tag t d) (Ticked seconds) alike = absurd alike
entries_erased (Clear tag t d) (Dropped id) alike = absurd alike
entries_erased (Sealed tag m t reply d) (Clear tag' u d') alike = absurd alike
entries_erased (Sealed tag m t reply d) (Queued bytes) alike = absurd alike
entries_erased (Sealed tag m t reply d) (Ticked seconds) alike = absurd alike
entries_erased (Sealed tag m t reply d) (Dropped id) alike = absurd alike
entries_erased (Queued bytes) f alike = absurd alike
entries_erased (Ticked seconds) f alike = absurd alike
entries_erased (Dropped id) f alike = absurd alike

-- A whole answer leads to one history.
pub plain_next : (h next : History) (ids others : List ℕ) (o q : Outcome) → ids ≡ others → OutcomesAlike o q → is_plain h o ≡ true → after (with_dropped next ids) o ≡ after (with_dropped next others) q
plain_next h next ids others (Same b) (Same c) is alike plain = ap (with_dropped next) is
plain_next h next ids others (Unopened b) (Unopened c) is alike plain = ap (with_dropped next) is
plain_next h next ids others (Adds e) (Adds f) is alike plain =
    let same : e ≡ f = entries_same e f alike (not-true _ (and_first _ _ plain)) in
    ap (λ l. e ∷ with_dropped next l) is ∙ ap (λ x. x ∷ with_dropped next others) same
plain_next h next ids others (Same b) (Unopened c) is alike plain = absurd alike
plain_next h next ids others (Same b) (Adds f) is alike plain = absurd alike
plain_next h next ids others (Unopened b) (Same c) is alike plain = absurd alike
plain_next h next ids others (Unopened b) (Adds f) is alike plain = absurd alike
plain_next h next ids others (Adds e) (Same c) is alike plain = absurd alike
plain_next h next ids others (Adds e) (Unopened c) is alike plain = absurd alike
