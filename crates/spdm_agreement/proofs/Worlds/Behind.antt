-- What an end goes on from stands behind the marks of its history: what is told of all of them is told of one part or of
-- the other.
use Rattle.std.proofs.Common.{◌≡◌, ◌⊎◌, ℕ, List, [], ◌∷◌, ◌++◌, Bool, true, false, cond, None, Some, ◌==◌, refl, sym, ap, ◌∙◌, inl, inr, append_assoc, bytes_eq}
use Rattle.requester_machine.specs.History as asked
use Rattle.requester_machine.specs.History.Entry.{Told, TookClear, TookRecord}
use Rattle.requester_machine.specs.Session as requester
use Rattle.requester_machine.specs.Setup.{ReqSetup}
use Rattle.responder_machine.specs.History as served
use Rattle.responder_machine.specs.History.Entry.{Clear, Sealed, Queued, Ticked, Dropped}
use Rattle.responder_machine.specs.Session as responder
use Rattle.responder_machine.specs.Setup.{RspSetup}
use Rattle.spdm_agreement.specs.Marks as marks
use Rattle.spdm_agreement.specs.Marks.{Asked, Served, Text, Exchange, IsAccepted, IsOpened, OpenedApart, HasBegun, HasOpened, HasFinished, asked_open, served_open, requests, heard, taken}
use Rattle.spdm_agreement.specs.Marks.Asked.{Started, Accepted, Opened, Heard}
use Rattle.spdm_agreement.specs.Marks.Served.{Began, Finished, Refused, Took}
use Rattle.spdm_agreement.specs.Reading.{First, Reading}
use Rattle.spdm_agreement.specs.Story.{Past, asked_from, asked_marks, served_from, served_marks, began_marks, clear_marks, command_marks, record_marks, taken_marks}
use Rattle.spdm_machine.proofs.Members.{none_some, some_same}

pub asked_behind : (prior : Past) (q : ReqSetup) (h : asked.History) → asked_from prior q h ≡ asked_marks q h ++ prior.asked q
asked_behind prior q [] = refl
asked_behind prior q (Told c x d ∷ older) = ap (λ (m : List Asked). command_marks older c x d ++ m) (asked_behind prior q older) ∙ sym (append_assoc (command_marks older c x d) (asked_marks q older) (prior.asked q))
asked_behind prior q (TookClear tag m led d ∷ older) = ap (λ (m : List Asked). clear_marks older led.effect ++ m) (asked_behind prior q older) ∙ sym (append_assoc (clear_marks older led.effect) (asked_marks q older) (prior.asked q))
asked_behind prior q (TookRecord tag id sealed inner led d ∷ older) =
    let new = taken_marks (requester.stage_of (requester.session_of id older)) q (requester.session_of id older) (asked.outstanding older) sealed inner led in
    ap (λ (m : List Asked). new ++ m) (asked_behind prior q older) ∙ sym (append_assoc new (asked_marks q older) (prior.asked q))

pub served_behind : (prior : Past) (r : RspSetup) (h : served.History) → served_from prior r h ≡ served_marks r h ++ prior.served r
served_behind prior r [] = refl
served_behind prior r (Clear tag t d ∷ older) = ap (λ (m : List Served). began_marks older t ++ m) (served_behind prior r older) ∙ sym (append_assoc (began_marks older t) (served_marks r older) (prior.served r))
served_behind prior r (Sealed tag sealed t reply d ∷ older) =
    let new = record_marks r (responder.session_of (responder.id_in_record sealed) older) sealed t reply in
    ap (λ (m : List Served). new ++ m) (served_behind prior r older) ∙ sym (append_assoc new (served_marks r older) (prior.served r))
served_behind prior r (Queued bytes ∷ older) = served_behind prior r older
served_behind prior r (Ticked seconds ∷ older) = served_behind prior r older
served_behind prior r (Dropped id ∷ older) = served_behind prior r older

-- ---- The requester.

pub accepted_new : (new old : List Asked) (t : First) → IsAccepted new t → IsAccepted (new ++ old) t
accepted_new [] old t a = elim a [ ]
accepted_new (Accepted s ∷ new) old t a = elim a [ inl e ↦ inl e | inr y ↦ inr (accepted_new new old t y) ]
accepted_new (Started id draw ∷ new) old t a = accepted_new new old t a
accepted_new (Opened s v ∷ new) old t a = accepted_new new old t a
accepted_new (marks.Asked.Sealed v b ∷ new) old t a = accepted_new new old t a
accepted_new (Heard v b reply ∷ new) old t a = accepted_new new old t a

pub accepted_old : (new old : List Asked) (t : First) → IsAccepted old t → IsAccepted (new ++ old) t
accepted_old [] old t a = a
accepted_old (Accepted s ∷ new) old t a = inr (accepted_old new old t a)
accepted_old (Started id draw ∷ new) old t a = accepted_old new old t a
accepted_old (Opened s v ∷ new) old t a = accepted_old new old t a
accepted_old (marks.Asked.Sealed v b ∷ new) old t a = accepted_old new old t a
accepted_old (Heard v b reply ∷ new) old t a = accepted_old new old t a

pub opened_new : (new old : List Asked) (t : First) (u : List ℕ) → IsOpened new t u → IsOpened (new ++ old) t u
opened_new [] old t u a = elim a [ ]
opened_new (Opened s v ∷ new) old t u a = elim a [ inl e ↦ inl e | inr y ↦ inr (opened_new new old t u y) ]
opened_new (Started id draw ∷ new) old t u a = opened_new new old t u a
opened_new (Accepted s ∷ new) old t u a = opened_new new old t u a
opened_new (marks.Asked.Sealed v b ∷ new) old t u a = opened_new new old t u a
opened_new (Heard v b reply ∷ new) old t u a = opened_new new old t u a

pub opened_old : (new old : List Asked) (t : First) (u : List ℕ) → IsOpened old t u → IsOpened (new ++ old) t u
opened_old [] old t u a = a
opened_old (Opened s v ∷ new) old t u a = inr (opened_old new old t u a)
opened_old (Started id draw ∷ new) old t u a = opened_old new old t u a
opened_old (Accepted s ∷ new) old t u a = opened_old new old t u a
opened_old (marks.Asked.Sealed v b ∷ new) old t u a = opened_old new old t u a
opened_old (Heard v b reply ∷ new) old t u a = opened_old new old t u a

pub apart_new : (new old : List Asked) → OpenedApart (new ++ old) → OpenedApart new
apart_new [] old o = tt
apart_new (Opened s v ∷ new) old o = (λ t a. o.0 t (opened_new new old t v a), apart_new new old o.1)
apart_new (Started id draw ∷ new) old o = apart_new new old o
apart_new (Accepted s ∷ new) old o = apart_new new old o
apart_new (marks.Asked.Sealed v b ∷ new) old o = apart_new new old o
apart_new (Heard v b reply ∷ new) old o = apart_new new old o

-- A session that is open by the marks opened.
pub open_opened : (r : Reading) (id : ℕ) (m : List Asked) (t : First) (u : List ℕ) → asked_open r id m ≡ Some (t, u) → IsOpened m t u
open_opened r id [] t u e = absurd (none_some (t, u) e)
open_opened r id (Accepted s ∷ m) t u e = go (r.requester_id s == id) e (λ x. open_opened r id m t u x)
  where
    go : (b : Bool) → cond b None (asked_open r id m) ≡ Some (t, u) → (asked_open r id m ≡ Some (t, u) → IsOpened m t u) → IsOpened m t u
    go true e f = absurd (none_some (t, u) e)
    go false e f = f e
open_opened r id (Opened s v ∷ m) t u e = go (r.requester_id s == id) e (λ x. open_opened r id m t u x)
  where
    go : (b : Bool) → cond b (Some (s, v)) (asked_open r id m) ≡ Some (t, u) → (asked_open r id m ≡ Some (t, u) → IsOpened m t u) → ((t ≡ s) × (u ≡ v)) ⊎ IsOpened m t u
    go true e f = (let same : (s, v) ≡ (t, u) = some_same _ _ e in inl (ap (λ (x : First × List ℕ). x.0) (sym same), ap (λ (x : First × List ℕ). x.1) (sym same)))
    go false e f = inr (f e)
open_opened r id (Started n draw ∷ m) t u e = open_opened r id m t u e
open_opened r id (marks.Asked.Sealed v b ∷ m) t u e = open_opened r id m t u e
open_opened r id (Heard v b reply ∷ m) t u e = open_opened r id m t u e

more_if : {A : Type 0} (b : Bool) (x : A) (new old all : List A) → all ≡ new ++ old → cond b (x ∷ all) all ≡ cond b (x ∷ new) new ++ old
more_if {A = A} true x new old all e = ap (λ (l : List A). x ∷ l) e
more_if false x new old all e = e

pub requests_behind : (u : List ℕ) (new old : List Asked) → requests u (new ++ old) ≡ requests u new ++ requests u old
requests_behind u [] old = refl
requests_behind u (marks.Asked.Sealed v b ∷ new) old = more_if (bytes_eq v u) b (requests u new) (requests u old) (requests u (new ++ old)) (requests_behind u new old)
requests_behind u (Started id draw ∷ new) old = requests_behind u new old
requests_behind u (Accepted s ∷ new) old = requests_behind u new old
requests_behind u (Opened s v ∷ new) old = requests_behind u new old
requests_behind u (Heard v b reply ∷ new) old = requests_behind u new old

pub heard_behind : (u : List ℕ) (new old : List Asked) → heard u (new ++ old) ≡ heard u new ++ heard u old
heard_behind u [] old = refl
heard_behind u (Heard v b reply ∷ new) old = more_if (bytes_eq v u) (b, reply) (heard u new) (heard u old) (heard u (new ++ old)) (heard_behind u new old)
heard_behind u (Started id draw ∷ new) old = heard_behind u new old
heard_behind u (Accepted s ∷ new) old = heard_behind u new old
heard_behind u (Opened s v ∷ new) old = heard_behind u new old
heard_behind u (marks.Asked.Sealed v b ∷ new) old = heard_behind u new old

-- ---- The responder.

pub begun_new : (new old : List Served) (t : First) → HasBegun new t → HasBegun (new ++ old) t
begun_new [] old t a = elim a [ ]
begun_new (Began s ∷ new) old t a = elim a [ inl e ↦ inl e | inr y ↦ inr (begun_new new old t y) ]
begun_new (Finished s v ∷ new) old t a = begun_new new old t a
begun_new (Refused s b ∷ new) old t a = begun_new new old t a
begun_new (Took v b reply ∷ new) old t a = begun_new new old t a

pub served_in : (new old : List Served) (t : First) (u : List ℕ) → HasOpened (new ++ old) t u → HasOpened new t u ⊎ HasOpened old t u
served_in [] old t u a = inr a
served_in (Finished s v ∷ new) old t u a = elim a [ inl e ↦ inl (inl e) | inr y ↦ elim (served_in new old t u y) [ inl x ↦ inl (inr x) | inr z ↦ inr z ] ]
served_in (Began s ∷ new) old t u a = served_in new old t u a
served_in (Refused s b ∷ new) old t u a = served_in new old t u a
served_in (Took v b reply ∷ new) old t u a = served_in new old t u a

pub finished_in : (new old : List Served) (t : First) → HasFinished (new ++ old) t → HasFinished new t ⊎ HasFinished old t
finished_in [] old t a = inr a
finished_in (Finished s v ∷ new) old t a = elim a [ inl e ↦ inl (inl e) | inr y ↦ elim (finished_in new old t y) [ inl x ↦ inl (inr x) | inr z ↦ inr z ] ]
finished_in (Began s ∷ new) old t a = finished_in new old t a
finished_in (Refused s b ∷ new) old t a = finished_in new old t a
finished_in (Took v b reply ∷ new) old t a = finished_in new old t a

pub taken_behind : (u : List ℕ) (new old : List Served) → taken u (new ++ old) ≡ taken u new ++ taken u old
taken_behind u [] old = refl
taken_behind u (Took v b reply ∷ new) old = more_if (bytes_eq v u) (b, reply) (taken u new) (taken u old) (taken u (new ++ old)) (taken_behind u new old)
taken_behind u (Began s ∷ new) old = taken_behind u new old
taken_behind u (Finished s v ∷ new) old = taken_behind u new old
taken_behind u (Refused s b ∷ new) old = taken_behind u new old

pub begun_old : (new old : List Served) (t : First) → HasBegun old t → HasBegun (new ++ old) t
begun_old [] old t a = a
begun_old (Began s ∷ new) old t a = inr (begun_old new old t a)
begun_old (Finished s v ∷ new) old t a = begun_old new old t a
begun_old (Refused s b ∷ new) old t a = begun_old new old t a
begun_old (Took v b reply ∷ new) old t a = begun_old new old t a

pub served_new : (new old : List Served) (t : First) (u : List ℕ) → HasOpened new t u → HasOpened (new ++ old) t u
served_new [] old t u a = elim a [ ]
served_new (Finished s v ∷ new) old t u a = elim a [ inl e ↦ inl e | inr y ↦ inr (served_new new old t u y) ]
served_new (Began s ∷ new) old t u a = served_new new old t u a
served_new (Refused s b ∷ new) old t u a = served_new new old t u a
served_new (Took v b reply ∷ new) old t u a = served_new new old t u a

pub served_old : (new old : List Served) (t : First) (u : List ℕ) → HasOpened old t u → HasOpened (new ++ old) t u
served_old [] old t u a = a
served_old (Finished s v ∷ new) old t u a = inr (served_old new old t u a)
served_old (Began s ∷ new) old t u a = served_old new old t u a
served_old (Refused s b ∷ new) old t u a = served_old new old t u a
served_old (Took v b reply ∷ new) old t u a = served_old new old t u a

-- A session that is open by the marks opened.
pub held_opened : (r : Reading) (id : ℕ) (m : List Served) (t : First) (u : List ℕ) → served_open r id m ≡ Some (t, u) → HasOpened m t u
held_opened r id [] t u e = absurd (none_some (t, u) e)
held_opened r id (Began s ∷ m) t u e = go (r.responder_id s == id) e (λ x. held_opened r id m t u x)
  where
    go : (b : Bool) → cond b None (served_open r id m) ≡ Some (t, u) → (served_open r id m ≡ Some (t, u) → HasOpened m t u) → HasOpened m t u
    go true e f = absurd (none_some (t, u) e)
    go false e f = f e
held_opened r id (Finished s v ∷ m) t u e = go (r.responder_id s == id) e (λ x. held_opened r id m t u x)
  where
    go : (b : Bool) → cond b (Some (s, v)) (served_open r id m) ≡ Some (t, u) → (served_open r id m ≡ Some (t, u) → HasOpened m t u) → ((t ≡ s) × (u ≡ v)) ⊎ HasOpened m t u
    go true e f = (let same : (s, v) ≡ (t, u) = some_same _ _ e in inl (ap (λ (x : First × List ℕ). x.0) (sym same), ap (λ (x : First × List ℕ). x.1) (sym same)))
    go false e f = inr (f e)
held_opened r id (Refused s b ∷ m) t u e = held_opened r id m t u e
held_opened r id (Took v b reply ∷ m) t u e = held_opened r id m t u e
