-- An answer of one body leads from dialogues that are alike to dialogues that are alike, while no large response is
-- fetched.
use Rattle.std.proofs.Common.{◌≡◌, ◌-◌, ◌==◌, ◌||◌, ℕ, List, [], ◌∷◌, refl, sym, ap, ◌∙◌, subst, drop, Bool, true, false, Option, Some, None, is_some, cond, inl, inr}
use Rattle.std.specs.Prelude.{not, slice_index}
use Rattle.std.proofs.lemmas.Bool.{false≢true}
use Rattle.std.proofs.lemmas.Option.{none-some, same_Some}
use Rattle.requester_machine.specs.History as requester_history
use Rattle.requester_machine.specs.History.{outstanding}
use Rattle.requester_machine.specs.Setup.{ReqSetup}
use Rattle.responder_machine.specs.History.{History, Entry}
use Rattle.responder_machine.specs.May.{MayDrop, with_dropped, place_for}
use Rattle.responder_machine.specs.Responder.{Outcome, after, body_of, sent_by}
use Rattle.responder_machine.specs.Responder.Outcome.{Same, Unopened, Adds}
use Rattle.responder_machine.specs.Setup.{RspSetup, towards}
use Rattle.capture_machine.specs.Capture.{Replies}
use Rattle.capture_machine.specs.CapturedAnswers.{Answers, Hears, MayLeadTo, MayLeadAfter, AreShown, is_plain}
use Rattle.capture_machine.specs.LargeAnswers.{is_fetching, while_fetched}
use Rattle.capture_machine.specs.Rounds.{Dialogue, Round}
use Rattle.world_machine.specs.Setup.{Configuration, known_of}
use Rattle.capture_machine.proofs.RepliesTell.{OutcomesAlike}
use Rattle.capture_machine.proofs.DropsTell.{no_clear_drop, no_record_drop}
use Rattle.capture_machine.proofs.PlainTells.{ClearLed, RecordLed, led_clear, led_record, clear_alike, record_alike, form_of, plain_told, plain_next}
use Rattle.capture_machine.proofs.LargeTells.{adds_here, large_next, large_apart}
use Rattle.capture_machine.proofs.AskersAlike.{AskersAlike}
use Rattle.capture_machine.proofs.AskersBegin.{dial}
use Rattle.capture_machine.proofs.AskersHear.{hears_step, same_round}
use Rattle.capture_machine.proofs.ShownAlike.{fetching_alike}
use Rattle.capture_machine.proofs.Alike.{Alike, FetchesAlike}
use Rattle.capture_machine.proofs.Alike.FetchesAlike.{NoneFetched, BothFetched}

-- ---- An answer that goes whole, beside one before which nothing was dropped.

clear_nil : (r : RspSetup) (h : History) (ids : List ℕ) (tag : ℕ) (body : List ℕ) (o q : Outcome) → MayDrop h ids → ClearLed r (with_dropped h ids) tag body o → ClearLed r h tag body q
    → AreShown r h body o ids → is_plain h o ≡ true → body_of o ≡ body_of q → OutcomesAlike o q
clear_nil r h [] tag body o q may one two shown plain same = clear_alike r h [] [] tag body o q one two same
clear_nil r h (id ∷ []) tag body o q may one two shown plain same =
    absurd (no_clear_drop r h tag (drop 1 body) body two.free (place_for h body) id q o two.allowed may two.leads (clear_alike r h [] (id ∷ []) tag body q o two one (sym same)) plain shown)
clear_nil r h (id ∷ x ∷ xs) tag body o q may one two shown plain same = absurd shown

record_nil : (r : RspSetup) (h : History) (ids : List ℕ) (tag : ℕ) (body : List ℕ) (o q : Outcome) → MayDrop h ids → RecordLed r (with_dropped h ids) tag body o → RecordLed r h tag body q
    → AreShown r h body o ids → body_of o ≡ body_of q → OutcomesAlike o q
record_nil r h [] tag body o q may one two shown same = record_alike r h tag body o q one two same
record_nil r h (id ∷ []) tag body o q may one two shown same =
    absurd (no_record_drop r h (with_dropped h (id ∷ [])) tag body id q o may (form_of r h tag body q two) (form_of r (with_dropped h (id ∷ [])) tag body o one) shown (sym same))
record_nil r h (id ∷ x ∷ xs) tag body o q may one two shown same = absurd shown

nil_told : (r : RspSetup) (h : History) (ids : List ℕ) (tag : ℕ) (body : List ℕ) (o q : Outcome) → MayLeadAfter r h ids tag body o → MayLeadTo r h tag body q → AreShown r h body o ids → is_plain h o ≡ true → body_of o ≡ body_of q
    → OutcomesAlike o q
nil_told r h ids tag body o q one two shown plain same = by_type (slice_index body 0 == 5) refl
  where
    by_type : (b : Bool) → (slice_index body 0 == 5) ≡ b → OutcomesAlike o q
    by_type true is = clear_nil r h ids tag body o q one.0 (led_clear r (with_dropped h ids) tag body o is one.1) (led_clear r h tag body q is two) shown plain same
    by_type false is = record_nil r h ids tag body o q one.0 (led_record r (with_dropped h ids) tag body o is one.1) (led_record r h tag body q is two) shown same

-- A repeat leaves the history, and no drop counts before it.
again_next : (r : RspSetup) (h : History) (body answer ids : List ℕ) (o : Outcome) → OutcomesAlike o (Same answer) → AreShown r h body o ids → after (with_dropped h ids) o ≡ h
again_next r h body answer [] (Same b) alike shown = refl
again_next r h body answer (id ∷ []) (Same b) alike shown = absurd (false≢true shown)
again_next r h body answer (id ∷ x ∷ xs) (Same b) alike shown = absurd shown
again_next r h body answer ids (Unopened b) alike shown = absurd alike
again_next r h body answer ids (Adds e) alike shown = absurd alike

-- No new LargeResponse is a repeat of one.
same_apart : (r : RspSetup) (h : History) (ids : List ℕ) (tag : ℕ) (body answer : List ℕ) (e : Entry) → MayLeadAfter r h ids tag body (Adds e) → MayLeadTo r h tag body (Same answer) → sent_by e ≡ answer → ⊥
same_apart r h ids tag body answer e one two same = by_type (slice_index body 0 == 5) refl
  where
    by_type : (b : Bool) → (slice_index body 0 == 5) ≡ b → ⊥
    by_type true is = clear_alike r h ids [] tag body (Adds e) (Same answer) (led_clear r (with_dropped h ids) tag body (Adds e) is one.1) (led_clear r h tag body (Same answer) is two) same
    by_type false is = record_alike r h tag body (Adds e) (Same answer) (adds_here r h ids tag body e (led_record r (with_dropped h ids) tag body (Adds e) is one.1)) (led_record r h tag body (Same answer) is two) same

-- ---- The responder's side.

while_alike : (b : Bool) (x y : Option (List ℕ)) → FetchesAlike x y → FetchesAlike (cond b x None) (cond b y None)
while_alike true x y alike = alike
while_alike false x y alike = NoneFetched

-- What an answer leads to is told: the history, and, where the requester asks for a chunk in response to it, whether a
-- large response is fetched from then on.
pub record Told (b : Bool) (next other : History) (fetching fetches : Option (List ℕ)) : Type 0 where
  pub history : next ≡ other
  pub fetched : FetchesAlike (cond b fetching None) (cond b fetches None)

pub into_fetched : (c : Bool) (a b x y : Option (List ℕ)) → a ≡ x → b ≡ y → FetchesAlike x y → FetchesAlike (cond c a None) (cond c b None)
into_fetched c a b x y is are alike =
    let P : Option (List ℕ) → Type 0 = λ o. FetchesAlike (cond c o None) (cond c b None) in
    let Q : Option (List ℕ) → Type 0 = λ o. FetchesAlike (cond c x None) (cond c o None) in
    subst P (sym is) (subst Q (sym are) (while_alike c x y alike))

-- Where none is fetched, the requester asks for no chunk.
none_asked : (b : Bool) (o : Option (List ℕ)) → o ≡ None → (not b || is_some o) ≡ true → b ≡ false
none_asked false o none known = refl
none_asked true o none known = absurd (false≢true (sym (ap is_some none) ∙ known))

unasked : (b : Bool) (x y : Option (List ℕ)) → b ≡ false → FetchesAlike (cond b x None) (cond b y None)
unasked b x y is = subst (λ (c : Bool). FetchesAlike (cond c x None) (cond c y None)) (sym is) NoneFetched

pub answers_told : (r : RspSetup) (h : History) (q k : ReqSetup) (m n : requester_history.History) (s t : Option Round) (u v : Option (List ℕ)) (round : Round) (answer : List ℕ) (next other : History) (fetching fetches : Option (List ℕ)) (c : Bool)
    → (not c || is_some fetching) ≡ true → (not c || is_some fetches) ≡ true
    → Answers r (dial q m h s u None) round answer next fetching → Answers r (dial k n h t v None) round answer other fetches → Told c next other fetching fetches
unfolding Answers
answers_told r h q k m n s t u v round answer next other fetching fetches c one two (inl a) (inl b) =
    let told = plain_told r h a.0.0 b.0.0 round.tag round.body a.0.1 b.0.1 a.0.2 b.0.2 a.0.3 b.0.3 a.0.4 b.0.4 (a.0.5 ∙ sym b.0.5) in
    record { history = a.0.6 ∙ plain_next h h a.0.0 b.0.0 a.0.1 b.0.1 told.0 told.1 a.0.4 ∙ sym b.0.6; fetched = into_fetched c fetching fetches None None a.1 b.1 NoneFetched }
answers_told r h q k m n s t u v round answer next other fetching fetches c one two (inr (inl a)) (inr (inl b)) =
    record {
      history = a.1.6 ∙ large_next r h a.1.0 b.1.0 round.tag round.body a.1.1 b.1.1 a.1.2 b.1.2 (a.1.5 ∙ sym b.1.5) ∙ sym b.1.6;
      fetched = into_fetched c fetching fetches (Some a.0) (Some b.0) a.2 b.2 (BothFetched a.0 b.0);
    }
answers_told r h q k m n s t u v round answer next other fetching fetches c one two (inr (inr (inl a))) (inr (inr (inl b))) =
    record { history = a.1.4 ∙ sym b.1.4; fetched = into_fetched c fetching fetches (Some a.0) (Some b.0) a.2 b.2 (BothFetched a.0 b.0) }
answers_told r h q k m n s t u v round answer next other fetching fetches c one two (inl a) (inr (inl b)) =
    absurd (large_apart r h a.0.0 b.1.0 round.tag round.body a.0.1 b.1.1 a.0.2 b.1.2 a.0.3 a.0.4 b.1.3 (a.0.5 ∙ sym b.1.5))
answers_told r h q k m n s t u v round answer next other fetching fetches c one two (inr (inl a)) (inl b) =
    absurd (large_apart r h b.0.0 a.1.0 round.tag round.body b.0.1 a.1.1 b.0.2 a.1.2 b.0.3 b.0.4 a.1.3 (b.0.5 ∙ sym a.1.5))
answers_told r h q k m n s t u v round answer next other fetching fetches c one two (inl a) (inr (inr (inl b))) =
    let alike = nil_told r h a.0.0 round.tag round.body a.0.1 (Same answer) a.0.2 b.1.1 a.0.3 a.0.4 a.0.5 in
    record { history = a.0.6 ∙ again_next r h round.body answer a.0.0 a.0.1 alike a.0.3 ∙ sym b.1.4; fetched = unasked c fetching fetches (none_asked c fetching a.1 one) }
answers_told r h q k m n s t u v round answer next other fetching fetches c one two (inr (inr (inl a))) (inl b) =
    let alike = nil_told r h b.0.0 round.tag round.body b.0.1 (Same answer) b.0.2 a.1.1 b.0.3 b.0.4 b.0.5 in
    record { history = a.1.4 ∙ sym (again_next r h round.body answer b.0.0 b.0.1 alike b.0.3) ∙ sym b.0.6; fetched = unasked c fetching fetches (none_asked c fetches b.1 two) }
answers_told r h q k m n s t u v round answer next other fetching fetches c one two (inr (inl a)) (inr (inr (inl b))) =
    absurd (same_apart r h a.1.0 round.tag round.body answer a.1.1 a.1.2 b.1.1 a.1.5)
answers_told r h q k m n s t u v round answer next other fetching fetches c one two (inr (inr (inl a))) (inr (inl b)) =
    absurd (same_apart r h b.1.0 round.tag round.body answer b.1.1 b.1.2 a.1.1 b.1.5)
answers_told r h q k m n s t u v round answer next other fetching fetches c one two (inr (inr (inr a))) b = absurd (none-some a.0.0 a.0.3)
answers_told r h q k m n s t u v round answer next other fetching fetches c one two a (inr (inr (inr b))) = absurd (none-some b.0.0 b.0.3)

-- ---- Both sides.

pub none_fetched : (o p : Option (List ℕ)) → FetchesAlike o p → o ≡ None → p ≡ None
none_fetched _ _ NoneFetched none = refl
none_fetched _ _ (BothFetched w v) none = absurd (none-some w (sym none))

-- What the requesters heard.
heard_alike : (d e : Dialogue) (round : Round) (tag : ℕ) (answer : List ℕ) (g l : requester_history.History) → Alike d e → d.round ≡ Some round → round.tag ≡ tag → Hears d tag answer g → Hears e tag answer l
    → AskersAlike (Some round) g l d.sending e.sending
heard_alike d e round tag answer g l a is one mine yours =
    let T : Option Round → Type 0 = λ o. Hears (dial d.setup d.requester d.responder o d.sending d.fetching) tag answer g in
    let U : ReqSetup → Type 0 = λ q. Hears (dial q e.requester e.responder e.round e.sending e.fetching) tag answer l in
    let V : Option Round → Type 0 = λ o. Hears (dial d.setup e.requester e.responder o e.sending e.fetching) tag answer l in
    let A : Option Round → Type 0 = λ o. AskersAlike o d.requester e.requester d.sending e.sending in
    hears_step d.setup round d.requester e.requester d.sending e.sending d.responder e.responder d.fetching e.fetching tag answer g l (subst A is a.askers) one (subst T is mine)
    (subst V (sym a.round ∙ is) (subst U (sym a.setup) yours))

-- The requester asks for a chunk.
abbrev pub gets : requester_history.History → Bool
gets h = is_fetching (outstanding h)

-- Both ask for one, or neither does.
pub gets_alike : (d e : Dialogue) (round : Round) (tag : ℕ) (answer : List ℕ) (g l : requester_history.History) → Alike d e → d.round ≡ Some round → round.tag ≡ tag → Hears d tag answer g → Hears e tag answer l → gets g ≡ gets l
gets_alike d e round tag answer g l a is one mine yours = fetching_alike (Some round) g l d.sending e.sending (heard_alike d e round tag answer g l a is one mine yours)

both_get : (w : Configuration) (d e : Dialogue) (tag : ℕ) (answer : List ℕ) (next other : Dialogue) → Alike d e → (c : Replies w d tag answer next) (k : Replies w e tag answer other) → gets c.4.3.0 ≡ gets k.4.3.0
both_get w d e tag answer next other a c k = gets_alike d e c.0 tag answer c.4.3.0 k.4.3.0 a c.1 c.2 c.4.3.1 k.4.3.1

known_alike : (w : Configuration) (d e : Dialogue) (tag : ℕ) (answer : List ℕ) (next other : Dialogue) → Alike d e → (c : Replies w d tag answer next) (k : Replies w e tag answer other) → (not (gets c.4.3.0) || is_some k.4.1) ≡ true
known_alike w d e tag answer next other a c k = ap (λ (b : Bool). not b || is_some k.4.1) (both_get w d e tag answer next other a c k) ∙ k.4.3.3

-- Where the answer is told, dialogues stay alike.
pub replied_by : (w : Configuration) (d e : Dialogue) (tag : ℕ) (answer : List ℕ) (next other : Dialogue) (a : Alike d e) (c : Replies w d tag answer next) (k : Replies w e tag answer other)
    → c.0 ≡ k.0 → Told (gets c.4.3.0) c.4.0 k.4.0 c.4.1 k.4.1 → Alike next other
replied_by w d e tag answer next other a c k one told =
    let rd : Round = c.0 in
    let askers = heard_alike d e rd tag answer c.4.3.0 k.4.3.0 a c.1 c.2 c.4.3.1 k.4.3.1 in
    let after : Round = record rd { waiting = rd.waiting - 1; answered = true } in
    let end : Alike (record d { requester = c.4.3.0; responder = c.4.0; fetching = while_fetched c.4.3.0 c.4.1; round = Some after })
    (record e { requester = k.4.3.0; responder = k.4.0; fetching = while_fetched k.4.3.0 k.4.1; round = Some (record k.0 { waiting = k.0.waiting - 1; answered = true }) }) = record {
      setup = a.setup;
      round = ap (λ (x : Round). Some (record x { waiting = x.waiting - 1; answered = true })) one;
      responder = told.history;
      askers = same_round rd after c.4.3.0 k.4.3.0 d.sending e.sending refl askers;
      fetches = subst (λ (b : Bool). FetchesAlike (cond (gets c.4.3.0) c.4.1 None) (cond b k.4.1 None)) (both_get w d e tag answer next other a c k) told.fetched;
    } in
    let P : Dialogue → Type 0 = λ x. Alike x other in
    let Q : Dialogue → Type 0 = λ x. Alike (record d { requester = c.4.3.0; responder = c.4.0; fetching = while_fetched c.4.3.0 c.4.1; round = Some after }) x in
    subst P (sym c.4.3.2) (subst Q (sym k.4.3.2) end)

-- The answer in the other dialogue, as one in this dialogue's round and history.
pub answer_moved : (w : Configuration) (d e : Dialogue) (rd other : Round) (answer : List ℕ) (next : History) (fetching o : Option (List ℕ)) → Alike d e → rd ≡ other → e.fetching ≡ o
    → Answers (towards w.responder (known_of e.setup)) e other answer next fetching
    → Answers (towards w.responder (known_of d.setup)) (dial e.setup e.requester d.responder e.round e.sending o) rd answer next fetching
answer_moved w d e rd other answer next fetching o a one is answers =
    let S : ReqSetup → Type 0 = λ q. Answers (towards w.responder (known_of q)) (dial e.setup e.requester e.responder e.round e.sending e.fetching) other answer next fetching in
    let H : History → Type 0 = λ h. Answers (towards w.responder (known_of d.setup)) (dial e.setup e.requester h e.round e.sending e.fetching) other answer next fetching in
    let G : Option (List ℕ) → Type 0 = λ x. Answers (towards w.responder (known_of d.setup)) (dial e.setup e.requester d.responder e.round e.sending x) other answer next fetching in
    let R : Round → Type 0 = λ x. Answers (towards w.responder (known_of d.setup)) (dial e.setup e.requester d.responder e.round e.sending o) x answer next fetching in
    subst R (sym one) (subst G is (subst H (sym a.responder) (subst S (sym a.setup) answers)))

pub same_rounds : (w : Configuration) (d e : Dialogue) (tag : ℕ) (answer : List ℕ) (next other : Dialogue) → Alike d e → (c : Replies w d tag answer next) (k : Replies w e tag answer other) → c.0 ≡ k.0
same_rounds w d e tag answer next other a c k = same_Some c.0 k.0 (sym c.1 ∙ a.round ∙ k.1)

pub replied : (w : Configuration) (d e : Dialogue) (tag : ℕ) (answer : List ℕ) (next other : Dialogue) → Alike d e → d.fetching ≡ None
    → Replies w d tag answer next → Replies w e tag answer other → Alike next other
replied w d e tag answer next other a none c k =
    let one = same_rounds w d e tag answer next other a c k in
    let r : RspSetup = towards w.responder (known_of d.setup) in
    let F : Option (List ℕ) → Type 0 = λ o. Answers r (dial d.setup d.requester d.responder d.round d.sending o) c.0 answer c.4.0 c.4.1 in
    let yours = answer_moved w d e c.0 k.0 answer k.4.0 k.4.1 None a one (none_fetched d.fetching e.fetching a.fetches none) k.4.2 in
    replied_by w d e tag answer next other a c k one
    (answers_told r d.responder d.setup e.setup d.requester e.requester d.round e.round d.sending e.sending c.0 answer c.4.0 k.4.0 c.4.1 k.4.1 (gets c.4.3.0)
    c.4.3.3 (known_alike w d e tag answer next other a c k) (subst F none c.4.2) yours)
