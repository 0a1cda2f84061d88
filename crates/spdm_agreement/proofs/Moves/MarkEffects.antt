-- What a mark does to what is counted out of the marks of one end.
use Rattle.std.proofs.Common.{◌≡◌, ◌⊎◌, ℕ, ◌<◌, ◌≤◌, List, [], ◌∷◌, Option, Some, None, Bool, true, false, refl, sym, ap, ◌∙◌, subst, inl, inr, arith, cond, ◌==◌, eq-eqb, eqb-true, true≢false, bytes_eq}
use Rattle.std.proofs.lemmas.Slice.Eq.{bytes_eq-Decides}
use Rattle.spdm_agreement.specs.Marks.{Asked, Served, Text, Exchange, IsAccepted, IsOpened, HasBegun, HasOpened, HasReplied, next_asked, waiting, finishing, asked_open, next_served, handshake, served_open, requests, outstanding, heard, taken, firsts}
use Rattle.spdm_agreement.specs.Marks.Asked.{Started, Accepted, Opened, Sealed, Heard}
use Rattle.spdm_agreement.specs.Marks.Served.{Began, Finished, Refused, Took}
use Rattle.spdm_agreement.specs.Reading.{First, Reading}
use Rattle.spdm_agreement.proofs.Moves.Invariant.{AskedWell, ServedWell, Talks}
use Rattle.spdm_machine.proofs.Members.{none_some, some_same}

pub differ : (a b : ℕ) → (a == b) ≡ false → a ≡ b → ⊥
differ a b f e = true≢false (sym (eq-eqb a b e) ∙ f)

-- What is kept by T2: one case for the T2 that a mark names, and one for the others.
pub at_key : (P : List ℕ → Bool → Type 0) (k : List ℕ) → P k true → ((u : List ℕ) → P u false) → (u : List ℕ) → P u (bytes_eq k u)
at_key P k its others u = go (bytes_eq k u) refl
  where
    go : (c : Bool) → bytes_eq k u ≡ c → P u c
    go true e = subst (λ (x : List ℕ). P x true) ((bytes_eq-Decides k u).0 e) its
    go false e = others u

pub own_key : (u : List ℕ) → bytes_eq u u ≡ true
own_key u = (bytes_eq-Decides u u).1 refl

-- ---- The requester.

-- What is said of the open session of an id.
abbrev OpenAt : Reading → (First → Type 0) → (First → List ℕ → Type 0) → ℕ → First × List ℕ → Type 0
OpenAt r Accepts Opens id x = Opens x.0 x.1 × (r.requester_id x.0 ≡ id) × ((s : First) → Accepts s → r.requester_id s ≡ id → r.requester_draw s ≤ r.requester_draw x.0)

accept_opens : (r : Reading) (b : Bool) (h : List Asked) (t : First) (id : ℕ) (x : First × List ℕ) → AskedWell r h → (r.requester_id t == id) ≡ b → cond b None (asked_open r id h) ≡ Some x
    → OpenAt r (λ s. (s ≡ t) ⊎ IsAccepted h s) (IsOpened h) id x
accept_opens r true h t id x i e is = absurd (none_some _ is)
accept_opens r false h t id x i e is =
    let l = i.opens id x is in
    (l.0, l.1, λ s a o. elim a [ inl e' ↦ absurd (differ _ _ e (ap r.requester_id (sym e') ∙ o)) | inr b ↦ l.2 s b o ])

pub asks_accept : (r : Reading) (h : List Asked) (t : First) (x : ℕ × ℕ) → waiting h ≡ Some x → r.requester_draw t ≡ x.1 → r.is_sound t ≡ true → AskedWell r h → AskedWell r (Accepted t ∷ h)
asks_accept r h t x w d well i =
    let all = i.waits x w in
    let below : (s : First) → IsAccepted h s → r.requester_draw s < r.requester_draw t = λ s a. (let n = all.1 s a in omega arith) in
    let new : IsAccepted h t → ⊥ = λ a. (let n = below t a in omega arith) in
    record {
      below = λ s a. elim a [ inl e ↦ (let n = all.0 in let k = ap r.requester_draw e in omega arith) | inr b ↦ i.below s b ];
      waits = λ y e. absurd (none_some _ e);
      once = λ s s' a b e. elim a [
        | inl es ↦ elim b [ inl et ↦ es ∙ sym et | inr y ↦ absurd (let n = below s' y in let k = ap r.requester_draw es in omega arith) ]
        | inr z ↦ elim b [ inl et ↦ absurd (let n = below s z in let k = ap r.requester_draw et in omega arith) | inr y ↦ i.once s s' z y e ]
      ];
      apart = (new, i.apart);
      seconds = i.seconds;
      well = λ s a. elim a [ inl e ↦ ap r.is_sound e ∙ well | inr b ↦ i.well s b ];
      finishes = λ s e. subst (λ (z : First). ((z ≡ t) ⊎ IsAccepted h z) × ((s' : First) → (s' ≡ t) ⊎ IsAccepted h s' → r.requester_draw s' ≤ r.requester_draw z) × ((u : List ℕ) → IsOpened h z u → ⊥)) (some_same _ _ e)
          (inl refl, (λ s' a. elim a [ inl es ↦ rw es (omega arith) | inr b ↦ (let n = below s' b in omega arith) ]), (λ u o. new (i.opened t u o).0));
      opens = λ id y e. accept_opens r _ h t id y i refl e;
      opened = λ s u o. (let l = i.opened s u o in (inr l.0, l.1));
      quiet = i.quiet;
      talks = i.talks;
    }

pub asks_start : (r : Reading) (h : List Asked) (id draw : ℕ) → next_asked h ≤ draw → AskedWell r h → AskedWell r (Started id draw ∷ h)
asks_start r h id draw new i = record {
  below = λ t a. (let n = i.below t a in omega arith);
  waits = λ y e. (let same = some_same _ _ e in rw (← same) ((omega arith), (λ t a. (let n = i.below t a in omega arith))));
  once = i.once;
  apart = i.apart;
  seconds = i.seconds;
  well = i.well;
  finishes = λ y e. absurd (none_some _ e);
  opens = i.opens;
  opened = i.opened;
  quiet = i.quiet;
  talks = i.talks;
}

open_opens : (r : Reading) (b : Bool) (h : List Asked) (t : First) (u : List ℕ) (id : ℕ) (x : First × List ℕ) → AskedWell r h → finishing h ≡ Some t → (r.requester_id t == id) ≡ b → cond b (Some (t, u)) (asked_open r id h) ≡ Some x
    → OpenAt r (IsAccepted h) (λ s v. ((s ≡ t) × (v ≡ u)) ⊎ IsOpened h s v) id x
open_opens r true h t u id x i f e is =
    let l = i.finishes t f in
    subst (λ (z : First × List ℕ). OpenAt r (IsAccepted h) (λ s v. ((s ≡ t) × (v ≡ u)) ⊎ IsOpened h s v) id z) (some_same _ _ is) (inl (refl, refl), eqb-true _ _ e, λ s a o. l.1 s a)
open_opens r false h t u id x i f e is = (let l = i.opens id x is in (inr l.0, l.1, l.2))

pub asks_open : (r : Reading) (h : List Asked) (t : First) (u : List ℕ) → finishing h ≡ Some t → u ≡ r.second t → AskedWell r h → AskedWell r (Opened t u ∷ h)
asks_open r h t u f right i = record {
  below = i.below;
  waits = i.waits;
  once = i.once;
  apart = i.apart;
  seconds = (
    λ s o. (let was = i.opened s u o in
        (i.finishes t f).2 u (subst (λ (z : First). IsOpened h z u) (r.second_tells s t (i.well s was.0) (i.well t (i.finishes t f).0) (sym was.1 ∙ right)) o)),
    i.seconds,
  );
  well = i.well;
  finishes = λ y e. absurd (none_some _ e);
  opens = λ id y e. open_opens r _ h t u id y i f refl e;
  opened = λ s v o. elim o [
    | inl e ↦ (subst (λ (z : First). IsAccepted h z) (sym e.0) (i.finishes t f).0, e.1 ∙ right ∙ ap r.second (sym e.0))
    | inr y ↦ i.opened s v y
  ];
  quiet = λ v n. i.quiet v (λ s o. n s (inr o));
  talks = i.talks;
}

talks_none : (o : Option Text) (asks : List Text) (replies : List Exchange) → o ≡ None → Talks o asks replies → asks ≡ firsts replies
talks_none None asks replies e t = t
talks_none (Some b) asks replies e t = absurd (none_some _ (sym e))

pub talks_some : (o : Option Text) (b : Text) (asks : List Text) (replies : List Exchange) → o ≡ Some b → Talks o asks replies → asks ≡ b ∷ firsts replies
talks_some None b asks replies e t = absurd (none_some _ e)
talks_some (Some c) b asks replies e t = t ∙ ap (λ (x : Text). x ∷ firsts replies) (some_same _ _ e)

pub asks_say : (r : Reading) (h : List Asked) (t : First) (u b : List ℕ) → IsOpened h t u → outstanding u h ≡ None → AskedWell r h → AskedWell r (Sealed u b ∷ h)
asks_say r h t u b opened o i = record {
  below = i.below;
  waits = i.waits;
  once = i.once;
  apart = i.apart;
  seconds = i.seconds;
  well = i.well;
  finishes = i.finishes;
  opens = i.opens;
  opened = i.opened;
  quiet = at_key (λ v c. ((s : First) → IsOpened h s v → ⊥) → (cond c (b ∷ requests v h) (requests v h) ≡ []) × (heard v h ≡ []) × (cond c (Some b) (outstanding v h) ≡ None)) u
      (λ n. absurd (n t opened)) i.quiet;
  talks = at_key (λ v c. Talks (cond c (Some b) (outstanding v h)) (cond c (b ∷ requests v h) (requests v h)) (heard v h)) u
      (ap (λ (l : List Text). b ∷ l) (talks_none _ _ _ o (i.talks u))) i.talks;
}

pub asks_hear : (r : Reading) (h : List Asked) (u b reply : List ℕ) → outstanding u h ≡ Some b → AskedWell r h → AskedWell r (Heard u b reply ∷ h)
asks_hear r h u b reply o i = record {
  below = i.below;
  waits = i.waits;
  once = i.once;
  apart = i.apart;
  seconds = i.seconds;
  well = i.well;
  finishes = i.finishes;
  opens = i.opens;
  opened = i.opened;
  quiet = at_key (λ v c. ((s : First) → IsOpened h s v → ⊥) → (requests v h ≡ []) × (cond c ((b, reply) ∷ heard v h) (heard v h) ≡ []) × (cond c None (outstanding v h) ≡ None)) u
      (λ n. absurd (none_some _ (sym (i.quiet u n).2 ∙ o))) i.quiet;
  talks = at_key (λ v c. Talks (cond c None (outstanding v h)) (requests v h) (cond c ((b, reply) ∷ heard v h) (heard v h))) u
      (talks_some _ _ _ _ o (i.talks u)) i.talks;
}

-- ---- The responder.

abbrev ServedAt : Reading → (First → Type 0) → (First → List ℕ → Type 0) → ℕ → First × List ℕ → Type 0
ServedAt r Begins Opens id x = Opens x.0 x.1 × (r.responder_id x.0 ≡ id) × ((s : First) → Begins s → r.responder_id s ≡ id → r.responder_draw s ≤ r.responder_draw x.0)

begin_opens : (r : Reading) (b : Bool) (h : List Served) (t : First) (id : ℕ) (x : First × List ℕ) → ServedWell r h → (r.responder_id t == id) ≡ b → cond b None (served_open r id h) ≡ Some x
    → ServedAt r (λ s. (s ≡ t) ⊎ HasBegun h s) (HasOpened h) id x
begin_opens r true h t id x i e is = absurd (none_some _ is)
begin_opens r false h t id x i e is =
    let l = i.opens id x is in
    (l.0, l.1, λ s a o. elim a [ inl e' ↦ absurd (differ _ _ e (ap r.responder_id (sym e') ∙ o)) | inr b ↦ l.2 s b o ])

pub serves_begin : (r : Reading) (h : List Served) (t : First) → r.is_sound t ≡ true → next_served r h ≤ r.responder_draw t → ServedWell r h → ServedWell r (Began t ∷ h)
serves_begin r h t well d i =
    let below : (s : First) → HasBegun h s → r.responder_draw s < r.responder_draw t = λ s a. (let n = i.below s a in omega arith) in
    record {
      below = λ s a. elim a [ inl e ↦ (let k = ap r.responder_draw e in omega arith) | inr b ↦ (let n = i.below s b in omega arith) ];
      once = λ s s' a b e. elim a [
        | inl es ↦ elim b [ inl et ↦ es ∙ sym et | inr y ↦ absurd (let n = below s' y in let k = ap r.responder_draw es in omega arith) ]
        | inr z ↦ elim b [ inl et ↦ absurd (let n = below s z in let k = ap r.responder_draw et in omega arith) | inr y ↦ i.once s s' z y e ]
      ];
      well = λ s a. elim a [ inl e ↦ ap r.is_sound e ∙ well | inr b ↦ i.well s b ];
      shakes = λ s e. subst (λ (z : First). ((z ≡ t) ⊎ HasBegun h z) × ((s' : First) → (s' ≡ t) ⊎ HasBegun h s' → r.responder_draw s' ≤ r.responder_draw z) × ((b : Text) → HasReplied r h z b → ⊥)) (some_same _ _ e)
          (inl refl, (λ s' a. elim a [ inl es ↦ rw es (omega arith) | inr b ↦ (let n = below s' b in omega arith) ]), (λ b o. (let n = below t (i.replied t b o) in omega arith)));
      opens = λ id x e. begin_opens r _ h t id x i refl e;
      opened = i.opened;
      seconds = i.seconds;
      replied = λ s b o. inr (i.replied s b o);
      answers = i.answers;
      only = i.only;
      quiet = i.quiet;
    }

finish_opens : (r : Reading) (b : Bool) (h : List Served) (t : First) (u : List ℕ) (id : ℕ) (x : First × List ℕ) → ServedWell r h → handshake h ≡ Some t → (r.responder_id t == id) ≡ b → cond b (Some (t, u)) (served_open r id h) ≡ Some x
    → ServedAt r (HasBegun h) (λ s v. ((s ≡ t) × (v ≡ u)) ⊎ HasOpened h s v) id x
finish_opens r true h t u id x i f e is =
    subst (λ (z : First × List ℕ). ServedAt r (HasBegun h) (λ s v. ((s ≡ t) × (v ≡ u)) ⊎ HasOpened h s v) id z) (some_same _ _ is) (inl (refl, refl), eqb-true _ _ e, λ s a o. (i.shakes t f).1 s a)
finish_opens r false h t u id x i f e is = (let l = i.opens id x is in (inr l.0, l.1, l.2))

-- One more reply of a handshake is the only one of its T1.
reply_only : (r : Reading) (h : List Served) (t : First) (a : List ℕ) → ServedWell r h → handshake h ≡ Some t → (s : First) (b c : Text) → ((s ≡ t) × (b ≡ a)) ⊎ HasReplied r h s b → ((s ≡ t) × (c ≡ a)) ⊎ HasReplied r h s c → b ≡ c
reply_only r h t a i f s b c x y =
    let none : (d : Text) → s ≡ t → HasReplied r h s d → ⊥ = λ d e o. (i.shakes t f).2 d (subst (λ (z : First). HasReplied r h z d) e o) in
    elim x [
      | inl ex ↦ elim y [ inl ey ↦ ex.1 ∙ sym ey.1 | inr hy ↦ absurd (none c ex.0 hy) ]
      | inr hx ↦ elim y [ inl ey ↦ absurd (none b ey.0 hx) | inr hy ↦ i.only s b c hx hy ]
    ]

pub serves_finish : (r : Reading) (h : List Served) (t : First) (u : List ℕ) → handshake h ≡ Some t → u ≡ r.second t → ServedWell r h → ServedWell r (Finished t u ∷ h)
serves_finish r h t u f right i = record {
  below = i.below;
  once = i.once;
  well = i.well;
  shakes = λ s e. absurd (none_some _ e);
  opens = λ id x e. finish_opens r _ h t u id x i f refl e;
  opened = λ s v o. elim o [ inl e ↦ (inl e.0, e.1 ∙ right ∙ ap r.second (sym e.0)) | inr y ↦ (let l = i.opened s v y in (inr l.0, l.1)) ];
  seconds = λ s a. elim a [
    | inl e ↦ (inl (e, ap r.second e ∙ sym right), inl (e, ap r.finish_answer e))
    | inr b ↦ (let l = i.seconds s b in (inr l.0, inr l.1))
  ];
  replied = λ s b o. elim o [ inl e ↦ subst (λ (z : First). HasBegun h z) (sym e.0) (i.shakes t f).0 | inr y ↦ i.replied s b y ];
  answers = λ s b o opens. elim o [ inl e ↦ (inl e.0, e.1 ∙ ap r.finish_answer (sym e.0)) | inr y ↦ (let l = i.answers s b y opens in (inr l.0, l.1)) ];
  only = reply_only r h t (r.finish_answer t) i f;
  quiet = λ v n. i.quiet v (λ s o. n s (inr o));
}

pub serves_refuse : (r : Reading) (h : List Served) (t : First) (reply : List ℕ) → handshake h ≡ Some t → r.opens reply ≡ false → ServedWell r h → ServedWell r (Refused t reply ∷ h)
serves_refuse r h t reply f closed i = record {
  below = i.below;
  once = i.once;
  well = i.well;
  shakes = λ s e. absurd (none_some _ e);
  opens = i.opens;
  opened = i.opened;
  seconds = λ s a. (let l = i.seconds s a in (l.0, inr l.1));
  replied = λ s b o. elim o [ inl e ↦ subst (λ (z : First). HasBegun h z) (sym e.0) (i.shakes t f).0 | inr y ↦ i.replied s b y ];
  answers = λ s b o opens. elim o [ inl e ↦ absurd (true≢false (sym opens ∙ ap r.opens e.1 ∙ closed)) | inr y ↦ i.answers s b y opens ];
  only = reply_only r h t reply i f;
  quiet = i.quiet;
}

pub serves_take : (r : Reading) (h : List Served) (t : First) (u b reply : List ℕ) → HasOpened h t u → ServedWell r h → ServedWell r (Took u b reply ∷ h)
serves_take r h t u b reply opened i = record {
  below = i.below;
  once = i.once;
  well = i.well;
  shakes = i.shakes;
  opens = i.opens;
  opened = i.opened;
  seconds = i.seconds;
  replied = i.replied;
  answers = i.answers;
  only = i.only;
  quiet = at_key (λ v c. ((s : First) → HasOpened h s v → ⊥) → cond c ((b, reply) ∷ taken v h) (taken v h) ≡ []) u (λ n. absurd (n t opened)) i.quiet;
}
