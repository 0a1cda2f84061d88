-- What each move adds to the marks and to the log keeps the invariant.
use Rattle.std.proofs.Common.{◌≡◌, ◌⊎◌, ℕ, ◌<◌, ◌≤◌, List, [], ◌∷◌, length, Some, None, Bool, true, false, refl, sym, ap, ◌∙◌, subst, inl, inr, arith, cond, drop}
use Rattle.std.specs.Prelude.{slice_index}
use Rattle.key_schedule.specs.Purpose.{Purpose, Kind, application_record}
use Rattle.key_schedule.specs.Purpose.Kind.{Verify, HandshakeRecord, ApplicationRecord}
use Rattle.key_schedule.specs.declared.direction.Direction.{Direction}
use Rattle.key_schedule.specs.declared.direction.Direction.TheVariants.{Request, Response}
use Rattle.spdm_machine.specs.TagLog.{Log}
use Rattle.spdm_machine.specs.TagLog.Act.{Made, Checked}
use Rattle.world_machine.specs.Agreement.{IsMade}
use Rattle.world_machine.specs.Chance.{NoChance, AreAlike, IsValueMade}
use Rattle.spdm_agreement.specs.Marks.{Asked, Served, Text, Exchange, IsAccepted, IsOpened, HasBegun, HasFinished, HasOpened, HasReplied, next_asked, waiting, finishing, asked_open, next_served, handshake, outstanding, heard, taken, epoch_of, request_number, reply_number, request_purpose, reply_purpose, request_input, reply_input}
use Rattle.spdm_agreement.specs.Marks.Asked.{Started, Accepted, Opened, Sealed, Heard}
use Rattle.spdm_agreement.specs.Marks.Served.{Began, Finished, Refused, Took}
use Rattle.spdm_agreement.specs.Moves.{IsPassed, request_shake, response_shake, request_verify, response_verify}
use Rattle.spdm_agreement.specs.Reading.{First, Reading, covered}
use Rattle.spdm_agreement.proofs.Moves.Earlier.{IsEarlier, earlier_if, same_place, same_count, longer, not_same_place}
use Rattle.spdm_agreement.proofs.Moves.Invariant.{Linked, IsRequest, IsReply, IsBackedAs, IsBacked, Invariant, IsAhead, WasSaid}
use Rattle.spdm_agreement.proofs.Moves.MarkEffects.{at_key, own_key, asks_accept, asks_start, asks_open, asks_say, asks_hear, serves_begin, serves_finish, serves_refuse, serves_take}
use Rattle.spdm_machine.proofs.Members.{none_some, some_same}

-- ---- Without chance, what passed was made for just this.

found : (log : Log) (p : Purpose) (i v : List ℕ) → AreAlike p i v log → IsValueMade v log → IsMade p i log
found [] p i v a m = elim m [ ]
found (Made q j u ∷ older) p i v a m = elim m [ inl e ↦ (let same = a.0 e in inl (sym same.0, sym same.1)) | inr y ↦ inr (found older p i v a.1 y) ]
found (Checked q j u w ∷ older) p i v a m = found older p i v a.1 m

pub passed_made : (log : Log) (p : Purpose) (i : List ℕ) → NoChance log → IsPassed p i log → IsMade p i log
passed_made [] p i n m = elim m [ ]
passed_made (Made q j v ∷ older) p i n m = inr (passed_made older p i n.1 m)
passed_made (Checked q j v w ∷ older) p i n m = elim m [
  | inl e ↦ subst (λ (x : Purpose). IsMade x i older) e.0 (subst (λ (x : List ℕ). IsMade q x older) e.1 (found older q j v n.0 (n.1 e.2)))
  | inr y ↦ passed_made older p i n.2 y
]

-- ---- What the marks of one state hold, those of another hold too.

pub record Grows (r : Reading) (asked : List Asked) (served : List Served) (asked' : List Asked) (served' : List Served) : Type 0 where
  pub accepted : (t : First) → IsAccepted asked t → IsAccepted asked' t
  pub opened : (t : First) (u : List ℕ) → IsOpened asked t u → IsOpened asked' t u
  pub begun : (t : First) → HasBegun served t → HasBegun served' t
  pub finished : (t : First) (u : List ℕ) → HasOpened served t u → HasOpened served' t u
  pub replied : (t : First) (b : Text) → HasReplied r served t b → HasReplied r served' t b
  pub said : (u b : List ℕ) (l : List Exchange) → WasSaid (outstanding u asked) (heard u asked) b l → WasSaid (outstanding u asked') (heard u asked') b l
  pub took : (u : List ℕ) (l : List Exchange) → IsEarlier l (taken u served) → IsEarlier l (taken u served')

backed_as_grows : (r : Reading) (asked : List Asked) (served : List Served) (asked' : List Asked) (served' : List Served) → Grows r asked served asked' served' → (kind : Kind) (direction : Direction) (t1 : List ℕ) (e : ℕ) (i : List ℕ) → IsBackedAs r asked served kind direction t1 e i → IsBackedAs r asked' served' kind direction t1 e i
backed_as_grows r asked served asked' served' g Verify Request t1 e i b = (b.0, b.1, g.accepted b.0 b.2)
backed_as_grows r asked served asked' served' g Verify Response t1 e i b = (b.0, b.1, g.begun b.0 b.2)
backed_as_grows r asked served asked' served' g HandshakeRecord Request t1 e i b = record { first = b.first; is = b.is; story = g.accepted b.first b.story; covers = b.covers }
backed_as_grows r asked served asked' served' g HandshakeRecord Response t1 e i b = record { first = b.first; is = b.is; reply = b.reply; story = g.replied b.first b.reply b.story; covers = b.covers }
backed_as_grows r asked served asked' served' g ApplicationRecord Request u e i b = record { first = b.first; is = g.opened b.first u b.is; text = b.text; older = b.older; covers = b.covers; when = b.when; was = g.said u _ _ b.was }
backed_as_grows r asked served asked' served' g ApplicationRecord Response u e i b = record { first = b.first; is = g.finished b.first u b.is; text = b.text; reply = b.reply; older = b.older; covers = b.covers; when = b.when; was = g.took u _ b.was }

backed_grows : (r : Reading) (asked : List Asked) (served : List Served) (asked' : List Asked) (served' : List Served) → Grows r asked served asked' served' → (p : Purpose) (i : List ℕ) → IsBacked r asked served p i → IsBacked r asked' served' p i
backed_grows r asked served asked' served' g p i b = backed_as_grows r asked served asked' served' g p.kind p.direction p.transcript p.epoch i b

-- One more tag was made, and the marks of its maker tell its story.
backed_more : {M : Purpose → List ℕ → Type 0} (r : Reading) (asked : List Asked) (served : List Served) (asked' : List Asked) (served' : List Served) (p₀ : Purpose) (i₀ : List ℕ) → Grows r asked served asked' served'
    → IsBacked r asked' served' p₀ i₀ → ((p : Purpose) (i : List ℕ) → M p i → p.psk ≡ r.psk → IsBacked r asked served p i)
    → (p : Purpose) (i : List ℕ) → ((p₀ ≡ p) × (i₀ ≡ i)) ⊎ M p i → p.psk ≡ r.psk → IsBacked r asked' served' p i
backed_more r asked served asked' served' p₀ i₀ g new old p i m own = elim m [
  | inl e ↦ subst (λ (x : Purpose). IsBacked r asked' served' x i) e.0 (subst (λ (j : List ℕ). IsBacked r asked' served' p₀ j) e.1 new)
  | inr y ↦ backed_grows r asked served asked' served' g p i (old p i y own)
]

abbrev newest_reply : List Exchange → Text
newest_reply [] = []
newest_reply (x ∷ older) = x.1

-- ---- Records that are equal have one number and one text.

pub same_number : (r : Reading) (t t' : First) (p q : Purpose) (n m : ℕ) (b c : Text) → covered r t p n b ≡ covered r t' q m c → n ≡ m
same_number r t t' p q n m b c e = ap (λ (l : List ℕ). slice_index l 0) e

pub same_text : (r : Reading) (t t' : First) (p q : Purpose) (n m : ℕ) (b c : Text) → t ≡ t' → p ≡ q → covered r t p n b ≡ covered r t' q m c → b ≡ c
same_text r t t' p q n m b c first same e =
    let number : n ≡ m = same_number r t t' p q n m b c e in
    let text : r.sealed t p n b ≡ r.sealed t' q m c = ap (λ (l : List ℕ). drop 1 l) e in
    r.sealed_tells t p n b c (text ∙ ap (λ (x : First). r.sealed x q m c) (sym first) ∙ ap (λ (x : Purpose). r.sealed t x m c) (sym same) ∙ ap (λ (x : ℕ). r.sealed t p x c) (sym number))

strict : (a b : ℕ) → a ≤ b → (a ≡ b → ⊥) → a < b
strict a b l n = omega (arith, n)

pub check_keeps : (r : Reading) (asked : List Asked) (served : List Served) (log : Log) (p : Purpose) (i v w : List ℕ) → Invariant r asked served log → Invariant r asked served (Checked p i v w ∷ log)
check_keeps r asked served log p i v w k = record { asks = k.asks; serves = k.serves; links = k.links; backed = k.backed }

module _ (r : Reading) (asked : List Asked) (served : List Served) (log : Log) (k : Invariant r asked served log) where
  pub start_keeps : (id draw : ℕ) → next_asked asked ≤ draw → Invariant r (Started id draw ∷ asked) served log
  start_keeps id draw new = record {
    asks = asks_start r asked id draw new k.asks;
    serves = k.serves;
    links = (let l = k.links in record { accepted = l.accepted; finished = l.finished; replied = l.replied; opened = l.opened; ever = l.ever; order = l.order; ahead = l.ahead });
    backed = λ p i m own. backed_grows r asked served (Started id draw ∷ asked) served (record { accepted = λ t a. a; opened = λ t u a. a; begun = λ t a. a; finished = λ t u a. a; replied = λ t b a. a; said = λ u b l a. a; took = λ u l a. a }) p i (k.backed p i m own);
  }

  accept_opened : (b : Bool) (id : ℕ) (x : First × List ℕ) → cond b None (asked_open r id asked) ≡ Some x → HasFinished served x.0
  accept_opened true id x e = absurd (none_some _ e)
  accept_opened false id x e = k.links.opened id x e

  pub begin_keeps : (t : First) → r.is_sound t ≡ true → next_served r served ≤ r.responder_draw t → (v : List ℕ) → Invariant r asked (Began t ∷ served) (Made (response_verify r t) (r.transcript t) v ∷ log)
  begin_keeps t well d v = record {
    asks = k.asks;
    serves = serves_begin r served t well d k.serves;
    links = (let l = k.links in record { accepted = λ s a. inr (l.accepted s a); finished = l.finished; replied = l.replied; opened = l.opened; ever = l.ever; order = l.order; ahead = l.ahead });
    backed = backed_more r asked served asked (Began t ∷ served) (response_verify r t) (r.transcript t) (record { accepted = λ t a. a; opened = λ t u a. a; begun = λ t a. inr a; finished = λ t u a. a; replied = λ t b a. a; said = λ u b l a. a; took = λ u l a. a }) (t, refl, inl refl) k.backed;
  }

  pub accept_keeps : (t : First) (x : ℕ × ℕ) → r.is_sound t ≡ true → waiting asked ≡ Some x → r.requester_draw t ≡ x.1 → HasBegun served t
      → (input v w : List ℕ) → Invariant r (Accepted t ∷ asked) served (Made (request_shake r t) (covered r t (request_shake r t) 0 (r.finish t)) w ∷ Made (request_verify r t) input v ∷ log)
  accept_keeps t x well w d b input v w' = record {
    asks = asks_accept r asked t x w d well k.asks;
    serves = k.serves;
    links = record {
      accepted = λ s a. elim a [ inl e ↦ subst (λ (y : First). HasBegun served y) (sym e) b | inr y ↦ l.accepted s y ];
      finished = λ s f. inr (l.finished s f);
      replied = λ s b y. inr (l.replied s b y);
      opened = λ id y e. accept_opened _ id y e;
      ever = l.ever;
      order = λ s z a f lt. elim a [
        | inl e ↦ absurd (let before = (k.asks.waits x w).1 z (l.finished z f) in let is = ap r.requester_draw e in omega arith)
        | inr y ↦ l.order s z y f lt
      ];
      ahead = l.ahead;
    };
    backed = backed_more r asked' served asked' served (request_shake r t) (covered r t (request_shake r t) 0 (r.finish t)) (record { accepted = λ t a. a; opened = λ t u a. a; begun = λ t a. a; finished = λ t u a. a; replied = λ t b a. a; said = λ u b l a. a; took = λ u l a. a }) (record { first = t; is = refl; story = inl refl; covers = refl })
        (backed_more r asked served asked' served (request_verify r t) input (record { accepted = λ t a. inr a; opened = λ t u a. a; begun = λ t a. a; finished = λ t u a. a; replied = λ t b a. a; said = λ u b l a. a; took = λ u l a. a }) (t, refl, inl refl) k.backed);
  }
    where
      l : Linked r asked served
      l = k.links

      asked' : List Asked
      asked' = Accepted t ∷ asked

  pub finish_keeps : (t : First) (u : List ℕ) → handshake served ≡ Some t → IsAccepted asked t → u ≡ r.second t
      → (v : List ℕ) → Invariant r asked (Finished t u ∷ served) (Made (response_shake r t) (covered r t (response_shake r t) 0 (r.finish_answer t)) v ∷ log)
  finish_keeps t u w a right v = record {
    asks = k.asks;
    serves = serves_finish r served t u w right k.serves;
    links = record {
      accepted = l.accepted;
      finished = λ s f. elim f [ inl e ↦ subst (λ (y : First). IsAccepted asked y) (sym e) a | inr y ↦ l.finished s y ];
      replied = λ s b f. elim f [ inl e ↦ subst (λ (y : First). IsAccepted asked y) (sym e.0) a | inr y ↦ l.replied s b y ];
      opened = λ id y e. inr (l.opened id y e);
      ever = λ s v o. inr (l.ever s v o);
      order = λ s z b f lt. elim f [
        | inl e ↦ subst (λ (y : First). r.responder_draw s < r.responder_draw y) (sym e)
            (strict _ _ (newest.1 s (l.accepted s b))
            (λ eq. (let is = ap r.requester_draw (k.serves.once s t (l.accepted s b) newest.0 eq) in let was = ap r.requester_draw e in omega arith)))
        | inr y ↦ l.order s z b y lt
      ];
      ahead = l.ahead;
    };
    backed = backed_more r asked served asked (Finished t u ∷ served) (response_shake r t) (covered r t (response_shake r t) 0 (r.finish_answer t)) (record { accepted = λ t a. a; opened = λ t u a. a; begun = λ t a. a; finished = λ t u a. inr a; replied = λ t b a. inr a; said = λ u b l a. a; took = λ u l a. a }) (record { first = t; is = refl; reply = r.finish_answer t; story = inl (refl, refl); covers = refl }) k.backed;
  }
    where
      l : Linked r asked served
      l = k.links

      newest : HasBegun served t × ((s : First) → HasBegun served s → r.responder_draw s ≤ r.responder_draw t) × ((b : Text) → HasReplied r served t b → ⊥)
      newest = k.serves.shakes t w

  pub refuse_keeps : (t : First) (reply : List ℕ) → handshake served ≡ Some t → IsAccepted asked t → r.opens reply ≡ false
      → (v : List ℕ) → Invariant r asked (Refused t reply ∷ served) (Made (response_shake r t) (covered r t (response_shake r t) 0 reply) v ∷ log)
  refuse_keeps t reply w a closed v = record {
    asks = k.asks;
    serves = serves_refuse r served t reply w closed k.serves;
    links = (let l = k.links in record { accepted = l.accepted; finished = l.finished; replied = λ s b f. elim f [ inl e ↦ subst (λ (y : First). IsAccepted asked y) (sym e.0) a | inr y ↦ l.replied s b y ]; opened = l.opened; ever = l.ever; order = l.order; ahead = l.ahead });
    backed = backed_more r asked served asked (Refused t reply ∷ served) (response_shake r t) (covered r t (response_shake r t) 0 reply) (record { accepted = λ t a. a; opened = λ t u a. a; begun = λ t a. a; finished = λ t u a. a; replied = λ t b a. inr a; said = λ u b l a. a; took = λ u l a. a }) (record { first = t; is = refl; reply = reply; story = inl (refl, refl); covers = refl }) k.backed;
  }

  open_opened : (b : Bool) (t : First) (u : List ℕ) (id : ℕ) (x : First × List ℕ) → HasFinished served t → cond b (Some (t, u)) (asked_open r id asked) ≡ Some x → HasFinished served x.0
  open_opened true t u id x f e = subst (λ (z : First × List ℕ). HasFinished served z.0) (some_same _ _ e) f
  open_opened false t u id x f e = k.links.opened id x e

  pub open_keeps : (t : First) (u : List ℕ) → finishing asked ≡ Some t → HasFinished served t → u ≡ r.second t → Invariant r (Opened t u ∷ asked) served log
  open_keeps t u w f right = record {
    asks = asks_open r asked t u w right k.asks;
    serves = k.serves;
    links = (let l = k.links in record { accepted = l.accepted; finished = l.finished; replied = l.replied; opened = λ id y e. open_opened _ t u id y f e; ever = λ s v o. elim o [ inl e ↦ subst (λ (z : First). HasFinished served z) (sym e.0) f | inr y ↦ l.ever s v y ]; order = l.order; ahead = l.ahead });
    backed = λ p i m own. backed_grows r asked served (Opened t u ∷ asked) served (record { accepted = λ t a. a; opened = λ t u a. inr a; begun = λ t a. a; finished = λ t u a. a; replied = λ t b a. a; said = λ u b l a. a; took = λ u l a. a }) p i (k.backed p i m own);
  }

  say_ahead : (u b : List ℕ) → outstanding u asked ≡ None → IsAhead (Some b) (heard u asked) (taken u served)
  say_ahead u b o = elim (k.links.ahead u) [ inl e ↦ inl e | inr x ↦ absurd (none_some _ (sym o ∙ x.2)) ]

  say_said : (u b : List ℕ) → outstanding u asked ≡ None → (c : List ℕ) (l : List Exchange) → WasSaid (outstanding u asked) (heard u asked) c l → WasSaid (Some b) (heard u asked) c l
  say_said u b o c l w = elim w [ inl e ↦ absurd (none_some _ (sym o ∙ e.0)) | inr x ↦ inr x ]

  pub say_keeps : (t : First) (u b : List ℕ) → IsOpened asked t u → outstanding u asked ≡ None
      → (v : List ℕ) → Invariant r (Sealed u b ∷ asked) served (Made (request_purpose r u (heard u asked)) (request_input r t u (heard u asked) b) v ∷ log)
  say_keeps t u b opened o v = record {
    asks = asks_say r asked t u b opened o k.asks;
    serves = k.serves;
    links = (let l = k.links in record {
      accepted = l.accepted;
      finished = l.finished;
      replied = l.replied;
      opened = l.opened;
      ever = l.ever;
      order = l.order;
      ahead = at_key (λ u' c. IsAhead (cond c (Some b) (outstanding u' asked)) (heard u' asked) (taken u' served)) u (say_ahead u b o) l.ahead;
    });
    backed = backed_more r asked served (Sealed u b ∷ asked) served (request_purpose r u (heard u asked)) (request_input r t u (heard u asked) b)
        (record {
          accepted = λ t a. a;
          opened = λ t u a. a;
          begun = λ t a. a;
          finished = λ t u a. a;
          replied = λ t b a. a;
          took = λ u l a. a;
          said = at_key (λ u' c. (d : List ℕ) (l : List Exchange) → WasSaid (outstanding u' asked) (heard u' asked) d l → WasSaid (cond c (Some b) (outstanding u' asked)) (heard u' asked) d l) u (say_said u b o) (λ u' d l a. a);
        })
        (record { first = t; is = opened; text = b; older = heard u asked; covers = refl; when = refl; was = rw (own_key u) (inl (refl, refl)) }) k.backed;
  }

  -- A T2 under which both ends have something is that of one session.
  same_first : (s t : First) (u : List ℕ) → IsOpened asked s u → HasOpened served t u → s ≡ t
  same_first s t u a b =
      let own = k.asks.opened s u a in
      let their = k.serves.opened t u b in
      r.second_tells s t (k.asks.well s own.0) (k.serves.well t (k.serves.replied t (r.finish_answer t) (k.serves.seconds t their.0).1)) (sym own.1 ∙ their.1)

  -- A request that passed is the one that waits, and was not taken yet.
  next_request : (t : First) (u b : List ℕ) → HasOpened served t u → IsRequest r asked u (epoch_of r.is_update (taken u served)) (request_input r t u (taken u served) b) → (outstanding u asked ≡ Some b) × (taken u served ≡ heard u asked)
  next_request t u b opened is = elim (k.links.ahead u) [
    | inl same ↦ elim is.was [
      | inl w ↦ (w.0 ∙ ap (λ (x : Text). Some x) (sym text), same)
      | inr w ↦ absurd (not_same_place r.is_update 0 (is.text, w.0) is.older (taken u served) (rw same w.1) is.when place)
    ]
    | inr x ↦ elim is.was [
      | inl w ↦ absurd (not_same_place r.is_update 0 (x.0, x.1) is.older (taken u served) (rw (x.3, w.1) (inl refl)) is.when place)
      | inr w ↦ absurd (not_same_place r.is_update 0 (is.text, w.0) is.older (taken u served) (rw x.3 (inr w.1)) is.when place)
    ]
  ]
    where
      place : request_number r (taken u served) ≡ request_number r is.older
      place = same_number r t is.first (request_purpose r u (taken u served)) (request_purpose r u is.older) _ _ b is.text is.covers

      text : b ≡ is.text
      text = same_text r t is.first (request_purpose r u (taken u served)) (request_purpose r u is.older) _ _ b is.text (sym (same_first is.first t u is.is opened)) (ap (λ (e : ℕ). application_record r.psk u Request e) is.when) is.covers

  pub take_keeps : (t : First) (u b reply : List ℕ) → HasOpened served t u → IsRequest r asked u (epoch_of r.is_update (taken u served)) (request_input r t u (taken u served) b)
      → (v : List ℕ) → Invariant r asked (Took u b reply ∷ served) (Made (reply_purpose r u ((b, reply) ∷ taken u served)) (reply_input r t u ((b, reply) ∷ taken u served) reply) v ∷ log)
  take_keeps t u b reply opened is v = record {
    asks = k.asks;
    serves = serves_take r served t u b reply opened k.serves;
    links = (let l = k.links in record {
      accepted = l.accepted;
      finished = l.finished;
      replied = l.replied;
      opened = l.opened;
      ever = l.ever;
      order = l.order;
      ahead = at_key (λ u' c. IsAhead (outstanding u' asked) (heard u' asked) (cond c ((b, reply) ∷ taken u' served) (taken u' served))) u
          (let n = next_request t u b opened is in inr (b, reply, n.0, ap (λ (x : List Exchange). (b, reply) ∷ x) n.1)) l.ahead;
    });
    backed = backed_more r asked served asked (Took u b reply ∷ served) (reply_purpose r u ((b, reply) ∷ taken u served)) (reply_input r t u ((b, reply) ∷ taken u served) reply)
        (record { accepted = λ t a. a; opened = λ t u a. a; begun = λ t a. a; finished = λ t u a. a; replied = λ t b a. a; said = λ u' b l a. a; took = λ u' l a. earlier_if _ (b, reply) _ _ a })
        (record { first = t; is = opened; text = b; reply = reply; older = taken u served; covers = refl; when = refl; was = rw (own_key u) (inl refl) }) k.backed;
  }

  -- A reply that passed is the one to the request that waits.
  next_reply : (t : First) (u b reply : List ℕ) → IsOpened asked t u → outstanding u asked ≡ Some b → IsReply r served u (epoch_of r.is_update_all ((b, r.granted) ∷ heard u asked)) (reply_input r t u ((b, r.granted) ∷ heard u asked) reply) → taken u served ≡ (b, reply) ∷ heard u asked
  next_reply t u b reply opened o is = elim (k.links.ahead u) [
    | inl same ↦ absurd (behind (subst (λ (l : List Exchange). IsEarlier ((is.text, is.reply) ∷ is.older) l) same is.was))
    | inr x ↦ elim (subst (λ (l : List Exchange). IsEarlier ((is.text, is.reply) ∷ is.older) l) x.3 is.was) [
      | inl e ↦ (x.3 ∙ (let w : x.0 ≡ b = some_same _ _ (sym x.2 ∙ o) in let y : x.1 ≡ is.reply = ap newest_reply (sym e) in rw (w, y, text) refl))
      | inr early ↦ absurd (behind early)
    ]
  ]
    where
      text : reply ≡ is.reply
      text = same_text r t is.first (reply_purpose r u ((b, r.granted) ∷ heard u asked)) (reply_purpose r u ((is.text, is.reply) ∷ is.older)) _ _ reply is.reply (same_first t is.first u opened is.is) (ap (λ (e : ℕ). application_record r.psk u Response e) is.when) is.covers

      number : reply_number r ((b, r.granted) ∷ heard u asked) ≡ reply_number r ((is.text, is.reply) ∷ is.older)
      number = same_number r t is.first (reply_purpose r u ((b, r.granted) ∷ heard u asked)) (reply_purpose r u ((is.text, is.reply) ∷ is.older)) _ _ reply is.reply is.covers

      behind : IsEarlier ((is.text, is.reply) ∷ is.older) (heard u asked) → ⊥
      behind early =
          let same : (b, r.granted) ∷ heard u asked ≡ (is.text, is.reply) ∷ is.older = same_place r.is_update_all 1 _ _ ((b, r.granted) ∷ heard u asked) (inl refl) (inr early) is.when (same_count r (b, r.granted) (is.text, is.reply) (heard u asked) is.older number) in
          let l = longer (is.text, is.reply) is.older (heard u asked) early in let n = ap length same in omega arith

  hear_said : (u b reply : List ℕ) → outstanding u asked ≡ Some b → (c : List ℕ) (l : List Exchange) → WasSaid (outstanding u asked) (heard u asked) c l → WasSaid None ((b, reply) ∷ heard u asked) c l
  hear_said u b reply o c l w = elim w [
    | inl e ↦ (let same : b ≡ c = some_same _ _ (sym o ∙ e.0) in inr (reply, inl (rw (← same, e.1) refl)))
    | inr x ↦ inr (x.0, inr x.1)
  ]

  pub hear_keeps : (t : First) (u b reply : List ℕ) → IsOpened asked t u → outstanding u asked ≡ Some b → IsReply r served u (epoch_of r.is_update_all ((b, r.granted) ∷ heard u asked)) (reply_input r t u ((b, r.granted) ∷ heard u asked) reply) → Invariant r (Heard u b reply ∷ asked) served log
  hear_keeps t u b reply opened o is = record {
    asks = asks_hear r asked u b reply o k.asks;
    serves = k.serves;
    links = (let l = k.links in record {
      accepted = l.accepted;
      finished = l.finished;
      replied = l.replied;
      opened = l.opened;
      ever = l.ever;
      order = l.order;
      ahead = at_key (λ u' c. IsAhead (cond c None (outstanding u' asked)) (cond c ((b, reply) ∷ heard u' asked) (heard u' asked)) (taken u' served)) u (inl (next_reply t u b reply opened o is)) l.ahead;
    });
    backed = λ p i m own. backed_grows r asked served (Heard u b reply ∷ asked) served (record {
      accepted = λ t a. a;
      opened = λ t u a. a;
      begun = λ t a. a;
      finished = λ t u a. a;
      replied = λ t b a. a;
      took = λ u l a. a;
      said = at_key (λ u' c. (d : List ℕ) (l : List Exchange) → WasSaid (outstanding u' asked) (heard u' asked) d l → WasSaid (cond c None (outstanding u' asked)) (cond c ((b, reply) ∷ heard u' asked) (heard u' asked)) d l) u (hear_said u b reply o) (λ u' d l a. a);
    }) p i (k.backed p i m own);
  }
