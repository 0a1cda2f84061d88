-- Epochs, numbers and the waiting request of a session that a requester holds open, counted in its steps and in its marks.
use Rattle.std.proofs.Common.{◌≡◌, ℕ, ◌+◌, ◌-◌, List, [], ◌∷◌, drop, take, Bool, true, false, cond, Option, Some, None, ◌==◌, ◌&&◌, refl, sym, ap, ◌∙◌, arith, bytes_eq, suc, zero, true≢false}
use Rattle.std.specs.Prelude.{slice_index, ◌||◌}
use Rattle.key_schedule.specs.Purpose.{Purpose, application_record}
use Rattle.key_schedule.specs.declared.direction.Direction.{Direction}
use Rattle.key_schedule.specs.declared.direction.Direction.TheVariants.{Request, Response}
use Rattle.requester_machine.specs.History.{Effect}
use Rattle.requester_machine.specs.History.Effect.{Nothing, Grants}
use Rattle.requester_machine.specs.Message.{Ask}
use Rattle.requester_machine.specs.Message.Ask.{AskFinish, AskUpdate, AskVerify}
use Rattle.requester_machine.specs.Order.{may_bring, is_same}
use Rattle.requester_machine.specs.Records.{request_purpose, response_purpose, answer_purpose, answer_number, asks_all}
use Rattle.requester_machine.specs.Session.{Steps, stage_of, t1_of, t2_of, request_epoch, response_epoch, request_next, response_next, finishes, updates, updates_all, verifies}
use Rattle.requester_machine.specs.Session.Step.{Asked, Took}
use Rattle.spdm_grammar.specs.declared.told.phase.Stage.{Stage}
use Rattle.spdm_grammar.specs.declared.told.phase.Stage.TheVariants as stage
use Rattle.spdm_machine.specs.Sessions.{purpose_in}
use Rattle.spdm_machine.specs.Sessions.{is_past_handshake}
use Rattle.spdm_agreement.specs.Marks as marks
use Rattle.spdm_agreement.specs.Marks.{Text, Exchange, outstanding, heard, epoch_of, count_of, reply_number}
use Rattle.spdm_agreement.specs.Reading.{First}
use Rattle.spdm_agreement.proofs.Requester.Entries.{RequestTells, asks_update, asks_verify}
use Rattle.spdm_agreement.proofs.Requester.RecordLeads.{InnerTells}
use Rattle.spdm_agreement.proofs.Delivery.Data.{is_verification, is_any_update, verifying}
use Rattle.spdm_agreement.proofs.Messages.Beginnings.{reading_of, is_message}
use Rattle.spdm_agreement.proofs.Moves.MarkEffects.{own_key}
use Rattle.spdm_grammar.specs.declared.names.response_code.TheConstants.{HEARTBEAT_ACK, KEY_UPDATE_ACK}

abbrev pub waits : Option Text → ℕ
waits None = 0
waits (Some b) = 1

-- The last update is not verified yet.
abbrev pub is_verifying : Stage → Bool
is_verifying stage.Handshake = false
is_verifying stage.Open = false
is_verifying stage.Verifying = true

-- What is counted in the steps of a session is counted in the marks under a T2, and w waits. Its stage is that of the
-- exchanges under it.
pub record HeldAt (psk u : List ℕ) (s : Steps) (m : List marks.Asked) (w : Option Text) : Type 0 where
  pub request_epoch : request_epoch s ≡ epoch_of (reading_of psk).is_update (heard u m)
  pub request_next : request_next s ≡ count_of (reading_of psk).is_update 0 (heard u m) + waits w
  pub response_epoch : response_epoch s ≡ epoch_of (reading_of psk).is_update_all (heard u m)
  pub response_next : response_next s ≡ count_of (reading_of psk).is_update_all 1 (heard u m)
  pub outstanding : outstanding u m ≡ w
  pub stands : is_verifying (stage_of s) ≡ verifying (heard u m)

abbrev pub HeldWell : List ℕ → Steps → List marks.Asked → Option Text → Type 0
HeldWell psk s m w = HeldAt psk (t2_of s) s m w

-- ---- Purposes and numbers.

pub purpose_past : (g : Stage) (psk t1 t2 : List ℕ) (direction : Direction) (e : ℕ) → is_past_handshake g ≡ true → purpose_in g psk t1 t2 direction e ≡ application_record psk t2 direction e
purpose_past stage.Handshake psk t1 t2 direction e past = absurd (cc)
purpose_past stage.Open psk t1 t2 direction e past = refl
purpose_past stage.Verifying psk t1 t2 direction e past = refl

pub request_under : (psk : List ℕ) (s : Steps) (m : List marks.Asked) (w : Option Text) → is_past_handshake (stage_of s) ≡ true → HeldWell psk s m w
    → request_purpose psk s ≡ marks.request_purpose (reading_of psk) (t2_of s) (heard (t2_of s) m)
request_under psk s m w past k =
    purpose_past (stage_of s) psk (t1_of s) (t2_of s) Request (request_epoch s) past ∙ ap (λ (e : ℕ). application_record psk (t2_of s) Request e) k.request_epoch

pub request_number : (psk : List ℕ) (s : Steps) (m : List marks.Asked) → HeldWell psk s m None → request_next s ≡ marks.request_number (reading_of psk) (heard (t2_of s) m)
request_number psk s m k = (let e = k.request_next in omega arith)

-- The answer is opened as if it granted what was asked.
granted_all : (psk : List ℕ) (ask : Ask) (b : Text) → RequestTells ask b → (reading_of psk).is_update_all (b, (reading_of psk).granted) ≡ asks_all ask
granted_all psk ask b t = t.all (reading_of psk).granted ∙ and_yes (asks_all ask)
  where
    and_yes : (c : Bool) → (c && true) ≡ c
    and_yes true = refl
    and_yes false = refl

answer_by : (P : Purpose) (psk u : List ℕ) (e e' : ℕ) (c : Bool) → P ≡ application_record psk u Response e → e ≡ e'
    → cond c (record P { epoch = e + 1 }) P ≡ application_record psk u Response (cond c (e' + 1) e')
answer_by P psk u e e' true is same = ap (λ (x : Purpose). record x { epoch = e + 1 }) is ∙ ap (λ (n : ℕ). application_record psk u Response (n + 1)) same
answer_by P psk u e e' false is same = is ∙ ap (λ (n : ℕ). application_record psk u Response n) same

pub answer_under : (psk : List ℕ) (s : Steps) (m : List marks.Asked) (ask : Ask) (b : Text) (w : Option Text) → is_past_handshake (stage_of s) ≡ true → HeldWell psk s m w → RequestTells ask b
    → answer_purpose psk s ask ≡ marks.reply_purpose (reading_of psk) (t2_of s) ((b, (reading_of psk).granted) ∷ heard (t2_of s) m)
answer_under psk s m ask b w past k t =
    answer_by (response_purpose psk s) psk (t2_of s) (response_epoch s) (epoch_of (reading_of psk).is_update_all (heard (t2_of s) m)) (asks_all ask)
    (purpose_past (stage_of s) psk (t1_of s) (t2_of s) Response (response_epoch s) past) k.response_epoch
    ∙ ap (λ (c : Bool). application_record psk (t2_of s) Response (cond c (epoch_of (reading_of psk).is_update_all (heard (t2_of s) m) + 1) (epoch_of (reading_of psk).is_update_all (heard (t2_of s) m)))) (sym (granted_all psk ask b t))

number_by : (n k : ℕ) (c : Bool) → n ≡ k → cond c 0 n ≡ cond c 1 (k + 1) - 1
number_by n k true e = refl
number_by n k false e = omega arith

pub answer_at : (psk : List ℕ) (s : Steps) (m : List marks.Asked) (ask : Ask) (b : Text) (w : Option Text) → HeldWell psk s m w → RequestTells ask b
    → answer_number s ask ≡ reply_number (reading_of psk) ((b, (reading_of psk).granted) ∷ heard (t2_of s) m)
answer_at psk s m ask b w k t =
    number_by (response_next s) (count_of (reading_of psk).is_update_all 1 (heard (t2_of s) m)) (asks_all ask) k.response_next
    ∙ ap (λ (c : Bool). cond c 1 (count_of (reading_of psk).is_update_all 1 (heard (t2_of s) m) + 1) - 1) (sym (granted_all psk ask b t))

-- ---- What an answer updates.

first_of_taken : (n : ℕ) (l : List ℕ) (x : ℕ) → slice_index (take n l) 0 ≡ suc x → slice_index l 0 ≡ suc x
first_of_taken zero l x e = absurd (omega arith)
first_of_taken (suc n) [] x e = absurd (omega arith)
first_of_taken (suc n) (y ∷ l) x e = e

third_of_taken : (n : ℕ) (l : List ℕ) (x : ℕ) → slice_index (drop 1 (take n l)) 1 ≡ suc x → slice_index l 2 ≡ suc x
third_of_taken zero l x e = absurd (omega arith)
third_of_taken (suc n) [] x e = absurd (omega arith)
third_of_taken (suc zero) (y ∷ l) x e = absurd (omega arith)
third_of_taken (suc (suc n)) (y ∷ []) x e = absurd (omega arith)
third_of_taken (suc (suc zero)) (y ∷ z ∷ l) x e = absurd (omega arith)
third_of_taken (suc (suc (suc n))) (y ∷ z ∷ []) x e = absurd (omega arith)
third_of_taken (suc (suc (suc n))) (y ∷ z ∷ v ∷ l) x e = e

behind_first : (l : List ℕ) → slice_index (drop 2 l) 0 ≡ slice_index l 2
behind_first [] = refl
behind_first (x ∷ []) = refl
behind_first (x ∷ y ∷ l) = refl

behind_third : (l : List ℕ) → slice_index (drop 2 l) 2 ≡ slice_index l 4
behind_third [] = refl
behind_third (x ∷ []) = refl
behind_third (x ∷ y ∷ l) = refl

-- The message in a text is determined by its inner message.
pub text_tells : (n : ℕ) (text : List ℕ) (code : ℕ) → slice_index (take n (drop 2 text)) 0 ≡ 5 → slice_index (drop 1 (take n (drop 2 text))) 1 ≡ suc code → (suc code == suc code) ≡ true → is_message (suc code) text ≡ true
text_tells n text code five is same =
    let one : slice_index text 2 ≡ 5 = sym (behind_first text) ∙ first_of_taken n (drop 2 text) 4 five in
    let two : slice_index text 4 ≡ suc code = sym (behind_third text) ∙ third_of_taken n (drop 2 text) code is in
    ap (λ (x : ℕ). x == 5 && slice_index text 4 == suc code) one ∙ ap (λ (x : ℕ). x == suc code) two ∙ same

same_of : (a b : Bool) → is_same a b ≡ true → b ≡ a
same_of true true e = refl
same_of true false e = absurd (cc)
same_of false true e = absurd (cc)
same_of false false e = refl

brings_update : (effect : Effect) (ask : Ask) → may_bring effect ask ≡ true → (asks_update ask ≡ updates effect) × (asks_all ask ≡ updates_all effect)
brings_update Nothing (AskUpdate all) e = absurd (cc)
brings_update Nothing _ e = (refl, refl)
brings_update (Grants (AskUpdate all) a) (AskUpdate asked) e = (refl, same_of all asked e)
brings_update (Grants (AskUpdate all) a) _ e = absurd (cc)
brings_update (Grants _ a) (AskUpdate asked) e = absurd (cc)
brings_update (Grants _ a) _ e = (refl, refl)
brings_update _ ask e = absurd (cc)

brings_verify : (effect : Effect) (ask : Ask) → may_bring effect ask ≡ true → asks_verify ask ≡ verifies effect
brings_verify Nothing AskVerify e = absurd (cc)
brings_verify Nothing _ e = refl
brings_verify (Grants AskVerify a) AskVerify e = refl
brings_verify (Grants AskVerify a) _ e = absurd (cc)
brings_verify (Grants _ a) AskVerify e = absurd (cc)
brings_verify (Grants _ a) _ e = refl
brings_verify _ ask e = absurd (cc)

inner_verifies : (effect : Effect) (n : ℕ) (text : List ℕ) → InnerTells effect (take n (drop 2 text)) → verifies effect ≡ true → is_message KEY_UPDATE_ACK text ≡ true
inner_verifies (Grants AskVerify a) n text tells e = text_tells n text HEARTBEAT_ACK tells.0 tells.1 refl
inner_verifies (Grants _ a) n text tells e = absurd (cc)
inner_verifies _ n text tells e = absurd (cc)

no_both : (effect : Effect) → verifies effect ≡ true → updates effect ≡ false
no_both (Grants AskVerify a) e = refl
no_both (Grants _ a) e = absurd (cc)
no_both _ e = absurd (cc)

inner_updates : (effect : Effect) (n : ℕ) (text : List ℕ) → InnerTells effect (take n (drop 2 text)) → updates effect ≡ true → is_message KEY_UPDATE_ACK text ≡ true
inner_updates (Grants (AskUpdate all) a) n text tells e = text_tells n text HEARTBEAT_ACK tells.0 tells.1 refl
inner_updates (Grants _ a) n text tells e = absurd (cc)
inner_updates _ n text tells e = absurd (cc)

all_updates : (effect : Effect) → updates_all effect ≡ true → updates effect ≡ true
all_updates (Grants (AskUpdate all) a) e = refl
all_updates (Grants _ a) e = absurd (cc)
all_updates _ e = absurd (cc)

and_itself : (c d : Bool) → (c ≡ true → d ≡ true) → (c && d) ≡ c
and_itself true d f = f refl
and_itself false d f = refl

-- An exchange updates keys where the record that was taken says so.
pub update_told : (psk : List ℕ) (effect : Effect) (ask : Ask) (b text : Text) (n : ℕ) → may_bring effect ask ≡ true → InnerTells effect (take n (drop 2 text)) → RequestTells ask b
    → ((reading_of psk).is_update (b, text) ≡ updates effect) × ((reading_of psk).is_update_all (b, text) ≡ updates_all effect) × (is_verification (b, text) ≡ verifies effect)
update_told psk effect ask b text n brings tells t =
    let same = brings_update effect ask brings in (
      t.update text ∙ ap (λ (c : Bool). c && is_message KEY_UPDATE_ACK text) same.0 ∙ and_itself (updates effect) (is_message KEY_UPDATE_ACK text) (inner_updates effect n text tells),
      t.all text ∙ ap (λ (c : Bool). c && is_message KEY_UPDATE_ACK text) same.1 ∙ and_itself (updates_all effect) (is_message KEY_UPDATE_ACK text) (λ e. inner_updates effect n text tells (all_updates effect e)),
      t.verify text ∙ ap (λ (c : Bool). c && is_message KEY_UPDATE_ACK text) (brings_verify effect ask brings) ∙ and_itself (verifies effect) (is_message KEY_UPDATE_ACK text) (inner_verifies effect n text tells),
    )

-- ---- Marks.

heard_own : (u b reply : List ℕ) (m : List marks.Asked) → heard u (marks.Asked.Heard u b reply ∷ m) ≡ (b, reply) ∷ heard u m
heard_own u b reply m = ap (λ (c : Bool). cond c ((b, reply) ∷ heard u m) (heard u m)) (own_key u)

epochs_by : (c d : Bool) (n k : ℕ) → d ≡ c → n ≡ k → cond c (n + 1) n ≡ cond d (k + 1) k
epochs_by c d n k e f = ap (λ (x : ℕ). cond c (x + 1) x) f ∙ ap (λ (x : Bool). cond x (k + 1) k) (sym e)

requests_by : (finish c d : Bool) (n k : ℕ) → finish ≡ false → d ≡ c → n ≡ k + 1 → cond (finish || c) 0 n ≡ cond d 0 (k + 1) + 0
requests_by true c d n k f e g = absurd (cc)
requests_by false true d n k f e g = (rw e refl)
requests_by false false d n k f e g = (rw e (omega arith))

responses_by : (finish c d : Bool) (n k : ℕ) → finish ≡ false → d ≡ c → n ≡ k → cond finish 0 (cond c 1 (n + 1)) ≡ cond d 1 (k + 1)
responses_by true c d n k f e g = absurd (cc)
responses_by false true d n k f e g = (rw e refl)
responses_by false false d n k f e g = (rw e (omega arith))

stages_by : (finish v up c d : Bool) (g : Stage) (k : Bool) → finish ≡ false → (v ≡ true → up ≡ false) → d ≡ up → c ≡ v → is_verifying g ≡ k
    → is_verifying (cond (finish || v) stage.Open (cond up stage.Verifying g)) ≡ cond d true (cond c false k)
stages_by true v up c d g k f n e o s = absurd (cc)
stages_by false true true c d g k f n e o s = absurd (true≢false (n refl))
stages_by false true false c d g k f n e o s = (rw e (rw o refl))
stages_by false false true c d g k f n e o s = (rw e refl)
stages_by false false false c d g k f n e o s = (rw e (rw o s))

-- A reply is taken.
pub held_heard : (psk u : List ℕ) (s : Steps) (m : List marks.Asked) (b reply sealed inner : List ℕ) (effect : Effect) → HeldAt psk u s m (Some b) → finishes effect ≡ false
    → (reading_of psk).is_update (b, reply) ≡ updates effect → (reading_of psk).is_update_all (b, reply) ≡ updates_all effect → is_verification (b, reply) ≡ verifies effect
    → HeldAt psk u (Took sealed inner effect ∷ s) (marks.Asked.Heard u b reply ∷ m) None
held_heard psk u s m b reply sealed inner effect k other one all third =
    let e = heard_own u b reply m in
    let r = reading_of psk in
    record {
      request_epoch = epochs_by (updates effect) (r.is_update (b, reply)) _ _ one k.request_epoch ∙ ap (epoch_of r.is_update) (sym e);
      request_next = requests_by (finishes effect) (updates effect) (r.is_update (b, reply)) _ _ other one k.request_next ∙ ap (λ (l : List Exchange). count_of r.is_update 0 l + 0) (sym e);
      response_epoch = epochs_by (updates_all effect) (r.is_update_all (b, reply)) _ _ all k.response_epoch ∙ ap (epoch_of r.is_update_all) (sym e);
      response_next = responses_by (finishes effect) (updates_all effect) (r.is_update_all (b, reply)) _ _ other all k.response_next ∙ ap (count_of r.is_update_all 1) (sym e);
      outstanding = ap (λ (c : Bool). cond c None (outstanding u m)) (own_key u);
      stands = stages_by (finishes effect) (verifies effect) (updates effect) (is_verification (b, reply)) (is_any_update (b, reply)) (stage_of s) (verifying (heard u m)) other (no_both effect) one third k.stands ∙ ap verifying (sym e);
    }

-- A request is sealed.
pub held_asked : (psk u : List ℕ) (s : Steps) (m : List marks.Asked) (ask : Ask) (b sealed inner : List ℕ) → HeldAt psk u s m None → HeldAt psk u (Asked ask inner sealed ∷ s) (marks.Asked.Sealed u b ∷ m) (Some b)
held_asked psk u s m ask b sealed inner k = record {
  request_epoch = k.request_epoch;
  request_next = (let e = k.request_next in omega arith);
  response_epoch = k.response_epoch;
  response_next = k.response_next;
  outstanding = ap (λ (c : Bool). cond c (Some b) (outstanding u m)) (own_key u);
  stands = k.stands;
}

-- Other sessions have other T2.
pub held_past : (psk u v : List ℕ) (s : Steps) (m m' : List marks.Asked) (w : Option Text) → heard v m' ≡ heard v m → outstanding v m' ≡ outstanding v m → HeldAt psk v s m w → HeldAt psk v s m' w
held_past psk u v s m m' w e o k = record {
  request_epoch = k.request_epoch ∙ ap (epoch_of (reading_of psk).is_update) (sym e);
  request_next = k.request_next ∙ ap (λ (l : List Exchange). count_of (reading_of psk).is_update 0 l + waits w) (sym e);
  response_epoch = k.response_epoch ∙ ap (epoch_of (reading_of psk).is_update_all) (sym e);
  response_next = k.response_next ∙ ap (count_of (reading_of psk).is_update_all 1) (sym e);
  outstanding = o ∙ k.outstanding;
  stands = k.stands ∙ ap verifying (sym e);
}

pub held_past_heard : (psk u v : List ℕ) (s : Steps) (m : List marks.Asked) (b reply : Text) (w : Option Text) → bytes_eq u v ≡ false → HeldAt psk v s m w → HeldAt psk v s (marks.Asked.Heard u b reply ∷ m) w
held_past_heard psk u v s m b reply w other k =
    held_past psk u v s m (marks.Asked.Heard u b reply ∷ m) w (ap (λ (c : Bool). cond c ((b, reply) ∷ heard v m) (heard v m)) other) (ap (λ (c : Bool). cond c None (outstanding v m)) other) k

pub held_past_sealed : (psk u v : List ℕ) (s : Steps) (m : List marks.Asked) (b : Text) (w : Option Text) → bytes_eq u v ≡ false → HeldAt psk v s m w → HeldAt psk v s (marks.Asked.Sealed u b ∷ m) w
held_past_sealed psk u v s m b w other k = held_past psk u v s m (marks.Asked.Sealed u b ∷ m) w refl (ap (λ (c : Bool). cond c (Some b) (outstanding v m)) other) k

-- Other marks do not bear on what is held.
pub held_same : (psk v : List ℕ) (s : Steps) (m : List marks.Asked) (w : Option Text) (t : First) (u : List ℕ) (id draw : ℕ) → HeldAt psk v s m w
    → HeldAt psk v s (marks.Asked.Opened t u ∷ m) w × HeldAt psk v s (marks.Asked.Accepted t ∷ m) w × HeldAt psk v s (marks.Asked.Started id draw ∷ m) w
held_same psk v s m w t u id draw k = (
  held_past psk u v s m (marks.Asked.Opened t u ∷ m) w refl refl k,
  held_past psk u v s m (marks.Asked.Accepted t ∷ m) w refl refl k,
  held_past psk u v s m (marks.Asked.Started id draw ∷ m) w refl refl k,
)

-- A session opens.
pub held_opened : (psk u : List ℕ) (m : List marks.Asked) (answer sealed inner : List ℕ) (s : Steps) → heard u m ≡ [] → outstanding u m ≡ None → request_epoch s ≡ 0 → response_epoch s ≡ 0
    → HeldAt psk u (Took sealed inner (Grants AskFinish answer) ∷ s) m None
held_opened psk u m answer sealed inner s e o f g = record {
  request_epoch = f ∙ ap (epoch_of (reading_of psk).is_update) (sym e);
  request_next = ap (λ (l : List Exchange). count_of (reading_of psk).is_update 0 l + 0) (sym e);
  response_epoch = g ∙ ap (epoch_of (reading_of psk).is_update_all) (sym e);
  response_next = ap (count_of (reading_of psk).is_update_all 1) (sym e);
  outstanding = o;
  stands = ap verifying (sym e);
}
