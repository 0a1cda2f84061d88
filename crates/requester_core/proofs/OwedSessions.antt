-- A record that a requester sent last, by itself on what it took or by a command, in its sessions.
use Rattle.std.proofs.Common.{refl, ◌≡◌, ◌≢◌, ◌∙◌, ℕ, List, [], ◌∷◌, Bool, true, false, Option, Some, None, ap, sym, subst, eq-eqb, length}
use Rattle.std.proofs.lemmas.Bool.{false≢true}
use Rattle.std.specs.Prelude.{◌==◌, if◌then◌else◌}
use Rattle.requester_core.proofs.SessionsAsked.{is_other, of_each}
use Rattle.requester_core.proofs.SessionsRecorded.{is_sealed, named_is}
use Rattle.requester_core.specs.Owed.{AreRepaddedIn, TookLast, owed_with}
use Rattle.requester_machine.specs.Owed.{content_with, with_next}
use Rattle.requester_core.specs.OwnRecords.{IsSlotRepadded}
use Rattle.requester_core.specs.Sessions.{IsNamed, StandsFor, session_at, session_for, slot_of}
use Rattle.requester_core.specs.Slot.{IsSlotOf}
use Rattle.requester_core.specs.declared.in_sessions.sessions.Sessions.{Sessions}
use Rattle.requester_core.specs.declared.in_sessions.slot.Slot.{Slot}
use Rattle.psk_session.specs.Course.{with_asked}
use Rattle.requester_machine.specs.History.{History, asks_session, connection_terms, negotiation_of, next_handle, next_tag, outstanding, phase_of}
use Rattle.requester_machine.specs.History.Entry.{Told, TookClear, TookRecord}
use Rattle.requester_machine.specs.Holds.{Holds, LiveAt, Waits}
use Rattle.requester_machine.specs.Message.{Aim, Ask, Command, Content, Sent, body_of}
use Rattle.requester_machine.specs.Message.Aim.{InSession}
use Rattle.requester_machine.specs.Message.Command.{Beat, Connect, End, Measure, Open, Retry, Send, Update}
use Rattle.requester_machine.specs.Message.Content.{Sealed}
use Rattle.requester_machine.specs.Order.{FitsWaits, IsInOrder, IsOrdered, waits_for}
use Rattle.requester_machine.specs.Order as orders
use Rattle.requester_machine.specs.Order.Waits.{ForExchange, ForRecord, Rests}
use Rattle.requester_machine.specs.Records.{sealed_next}
use Rattle.requester_machine.specs.Session.{Steps, Step, after_clear, after_record, is_live, session_negotiation, session_of, when_live, with_aim, with_content, with_sent}
use Rattle.requester_machine.specs.Session.Step.{Asked}
use Rattle.requester_machine.specs.Setup.{ReqSetup}
use Rattle.requester_machine.specs.Shown.{last_data}
use Rattle.requester_machine.specs.UnderWay.{AreBehind, HasSizes, IsCommon, IsOutstanding, IsSealed, is_capable}
use Rattle.spdm_grammar.specs.declared.told.phase.Phase.{Phase}
use Rattle.spdm_grammar.specs.declared.told.phase.Phase.TheVariants.{Negotiated}
use Rattle.spdm_machine.specs.Bodies.{record_body}
use Rattle.spdm_machine.specs.Keys.{Draw}
use Rattle.spdm_machine.specs.Terms.{terms_of}
use Rattle.transcript.specs.Transcripts.{Negotiation}

-- ---- What does not hang on the message that is sent last.

pub record IsSameBeside (h g : History) : Type 0 where
  pub phase : phase_of h ≡ phase_of g
  pub negotiation : negotiation_of h ≡ negotiation_of g
  pub tag : next_tag h ≡ next_tag g
  pub handle : next_handle h ≡ next_handle g
  pub brought : last_data h ≡ last_data g

pub same_beside : (bare : History) (x : Sent) (content : Content) → IsSameBeside (with_next (Some x) bare) (with_next (Some (record x { content = content })) bare)
same_beside [] x content = record { phase = refl; negotiation = refl; tag = refl; handle = refl; brought = refl }
same_beside (Told command sent d ∷ older) x content = record { phase = refl; negotiation = refl; tag = refl; handle = refl; brought = refl }
same_beside (TookClear tag m led d ∷ older) x content = record { phase = refl; negotiation = refl; tag = refl; handle = refl; brought = refl }
same_beside (TookRecord tag id sealed inner led d ∷ older) x content = record { phase = refl; negotiation = refl; tag = refl; handle = refl; brought = refl }

pub sent_last : (bare : History) (id : ℕ) (x : Sent) → TookLast bare id → outstanding (with_next (Some x) bare) ≡ Some x
sent_last [] id x took = absurd took
sent_last (Told command sent d ∷ older) id x took = absurd took
sent_last (TookClear tag m led d ∷ older) id x took = refl
sent_last (TookRecord tag of sealed inner led d ∷ older) id x took = refl

pub as_long : (next : Option Sent) (bare : History) → length (with_next next bare) ≡ length bare
as_long next [] = refl
as_long next (Told command sent d ∷ older) = refl
as_long next (TookClear tag m led d ∷ older) = refl
as_long next (TookRecord tag of sealed inner led d ∷ older) = refl

-- ---- The sessions.

aside : (id i : ℕ) (ask : Ask) (x : Sent) (s : Steps) → x.aim ≡ InSession id ask → (id == i) ≡ false → with_sent i (Some x) s ≡ s
aside id i ask x s aims not_own = ap (λ (a : Aim). with_aim i a x.content s) aims ∙ ap (λ (b : Bool). if b then with_content ask x.content s else s) not_own

at_own : (id : ℕ) (ask : Ask) (x : Sent) (s : Steps) → x.aim ≡ InSession id ask → with_sent id (Some x) s ≡ with_content ask x.content s
at_own id ask x s aims = ap (λ (a : Aim). with_aim id a x.content s) aims ∙ ap (λ (b : Bool). if b then with_content ask x.content s else s) (eq-eqb id id refl)

-- The message is one more that was sent, in each of them.
steps_with : (bare : History) (id : ℕ) (ask : Ask) (x : Sent) (i : ℕ) → TookLast bare id → x.aim ≡ InSession id ask → session_of i (with_next (Some x) bare) ≡ with_sent i (Some x) (session_of i bare)
unfolding session_of
steps_with [] id ask x i took aims = absurd took
steps_with (Told command sent d ∷ older) id ask x i took aims = absurd took
steps_with (TookClear tag m led d ∷ older) id ask x i took aims = ap (λ (o : Option Sent). with_sent i (Some x) (with_sent i o (after_clear i led.effect (session_of i older)))) (sym took)
steps_with (TookRecord tag of sealed inner led d ∷ older) id ask x i took aims = by_id (of == i) refl
  where
    by_id : (b : Bool) → (of == i) ≡ b
        → (if b then with_sent i (Some x) (after_record sealed inner led.effect (session_of i older)) else session_of i older)
        ≡ with_sent i (Some x) (if b then with_sent i led.next (after_record sealed inner led.effect (session_of i older)) else session_of i older)
    by_id true is = ap (λ (o : Option Sent). with_sent i (Some x) (with_sent i o (after_record sealed inner led.effect (session_of i older)))) (sym took.0)
    by_id false is = sym (aside id i ask x (session_of i older) aims (ap (λ (n : ℕ). n == i) (sym took.1) ∙ is))

-- A history by the message that it sent last, and what it is without that: a record of the session with this
-- ReqSessionID is one more that was sent, in each of them.
pub record IsLast (bare : History) (whole : Sent → History) (id : ℕ) (ask : Ask) : Type 0 where
  pub last : (x : Sent) → outstanding (whole x) ≡ Some x
  pub steps : (x : Sent) (i : ℕ) → x.aim ≡ InSession id ask → session_of i (whole x) ≡ with_sent i (Some x) (session_of i bare)
  pub beside : (x : Sent) (content : Content) → IsSameBeside (whole x) (whole (record x { content = content }))

abbrev pub upon : History → Sent → History
upon bare x = with_next (Some x) bare

pub upon_last : (bare : History) (id : ℕ) (ask : Ask) → TookLast bare id → IsLast bare (upon bare) id ask
upon_last bare id ask took = record {
  last = λ x. sent_last bare id x took;
  steps = λ x i aims. steps_with bare id ask x i took aims;
  beside = λ x content. same_beside bare x content;
}

abbrev pub telling : History → Command → Draw → Sent → History
telling older command d x = Told command x d ∷ older

told_steps : (older : History) (command : Command) (d : Draw) (x : Sent) (i : ℕ) → asks_session command ≡ true → session_of i (telling older command d x) ≡ with_sent i (Some x) (session_of i older)
unfolding session_of
told_steps older Connect d x i is = absurd (false≢true is)
told_steps older (Open summary) d x i is = absurd (false≢true is)
told_steps older (Send id bytes) d x i is = refl
told_steps older (Beat id) d x i is = refl
told_steps older (Update id all) d x i is = refl
told_steps older (Measure None op) d x i is = absurd (false≢true is)
told_steps older (Measure (Some id) op) d x i is = refl
told_steps older (End id) d x i is = refl
told_steps older Retry d x i is = absurd (false≢true is)

pub telling_last : (older : History) (command : Command) (d : Draw) (id : ℕ) (ask : Ask) → asks_session command ≡ true → IsLast older (telling older command d) id ask
telling_last older command d id ask is = record {
  last = λ x. refl;
  steps = λ x i aims. told_steps older command d x i is;
  beside = λ x content. record { phase = refl; negotiation = refl; tag = refl; handle = refl; brought = refl };
}

abbrev behind : Steps → Steps
behind [] = []
behind (_ ∷ older) = older

step_behind : (x : Steps) (step : Step) (older : Steps) → when_live x step ≡ step ∷ older → (is_live x ≡ true) × (older ≡ x)
step_behind [] step older is = absurd (cc is)
step_behind (y ∷ ys) step older is = (refl, sym (ap behind is))

-- The message is a record of its session, sealed as the next one.
pub record IsOwed (q : ReqSetup) (bare : History) (whole : Sent → History) (id : ℕ) (ask : Ask) (sent : Sent) : Type 0 where
  pub inner : List ℕ
  pub pad : List ℕ
  pub live : is_live (session_of id bare) ≡ true
  pub content_is : sent.content ≡ Sealed (sealed_next q.psk (session_of id bare) inner pad) inner pad
  pub steps : session_of id (whole sent) ≡ with_asked q.psk (session_of id bare) ask inner pad

pub is_owed : (q : ReqSetup) (bare : History) (whole : Sent → History) (id : ℕ) (ask : Ask) (sent : Sent) → IsLast bare whole id ask → sent.aim ≡ InSession id ask → Holds q (whole sent) → IsOwed q bare whole id ask sent
is_owed q bare whole id ask sent is aims holds =
    let h = whole sent in
    let x = session_of id bare in
    let s : IsSealed q h id ask sent.content = is_sealed q h sent id ask holds (is.last sent) aims in
    let steps : session_of id h ≡ when_live x (Asked ask s.inner s.sealed) =
    is.steps sent id aims ∙ at_own id ask sent x aims ∙ ap (λ (c : Content). with_content ask c x) s.content_is in
    let older = step_behind x (Asked ask s.inner s.sealed) s.older (sym steps ∙ s.steps) in
    let sealed : s.sealed ≡ sealed_next q.psk x s.inner s.pad = s.sealed_is ∙ ap (λ (o : Steps). sealed_next q.psk o s.inner s.pad) older.1 in
    record {
      inner = s.inner;
      pad = s.pad;
      live = older.0;
      content_is = s.content_is ∙ ap (λ (b : List ℕ). Sealed b s.inner s.pad) sealed;
      steps = s.steps ∙ ap (λ (o : Steps). Asked ask s.inner s.sealed ∷ o) older.1 ∙ ap (λ (b : List ℕ). Asked ask s.inner b ∷ x) sealed;
    }

pub others_as : (bare : History) (whole : Sent → History) (id : ℕ) (ask : Ask) (x : Sent) → IsLast bare whole id ask → x.aim ≡ InSession id ask → (i : ℕ) → i ≢ id → session_of i (whole x) ≡ session_of i bare
others_as bare whole id ask x is aims i ne = is.steps x i aims ∙ aside id i ask x (session_of i bare) aims (is_other id i ne)

-- ---- With another padding.

fits_as : (w : orders.Waits) (psk : List ℕ) (s : Steps) (a : Ask) (inner pad other : List ℕ) → FitsWaits w (with_asked psk s a inner pad) → FitsWaits w (with_asked psk s a inner other)
fits_as Rests psk s a inner pad other fits = fits
fits_as ForExchange psk s a inner pad other fits = fits
fits_as (ForRecord ask) psk s a inner pad other fits = fits

module _ (q : ReqSetup) (bare : History) (whole : Sent → History) (id : ℕ) (ask : Ask) (sent : Sent) (ends : IsLast bare whole id ask) (aims : sent.aim ≡ InSession id ask) (owed : IsOwed q bare whole id ask sent) (pad : List ℕ) where
  abbrev old_history : History
  old_history = whole sent

  abbrev its_steps : Steps
  its_steps = session_of id bare

  abbrev new_sent : Sent
  new_sent = owed_with q bare id pad sent

  abbrev new_history : History
  new_history = whole new_sent

  content_as : new_sent.content ≡ Sealed (sealed_next q.psk its_steps owed.inner pad) owed.inner pad
  content_as = ap (content_with q.psk its_steps pad) owed.content_is

  steps_as : session_of id new_history ≡ with_asked q.psk its_steps ask owed.inner pad
  steps_as =
      ends.steps new_sent id aims ∙ at_own id ask new_sent its_steps aims ∙ ap (λ (c : Content). with_content ask c its_steps) content_as
      ∙ alive its_steps (Asked ask owed.inner (sealed_next q.psk its_steps owed.inner pad)) owed.live
    where
      alive : (x : Steps) (step : Step) → is_live x ≡ true → when_live x step ≡ step ∷ x
      alive [] step live = absurd (cc live)
      alive (y ∷ ys) step live = refl

  others_stay : (i : ℕ) → i ≢ id → session_of i old_history ≡ session_of i new_history
  others_stay i ne = others_as bare whole id ask sent ends aims i ne ∙ sym (others_as bare whole id ask new_sent ends aims i ne)

  beside : IsSameBeside old_history new_history
  beside = ends.beside sent new_sent.content

  live_as : (s t : Steps) → is_live t ≡ is_live s → session_negotiation t ≡ session_negotiation s
      → (is_live s ≡ true → (session_negotiation s ≡ negotiation_of old_history) × (phase_of old_history ≡ Negotiated))
      → is_live t ≡ true → (session_negotiation t ≡ negotiation_of new_history) × (phase_of new_history ≡ Negotiated)
  live_as s t same under is live = (let l = is (sym same ∙ live) in (under ∙ l.0 ∙ beside.negotiation, sym beside.phase ∙ l.1))

  live_at : ((i : ℕ) → LiveAt old_history i) → (i : ℕ) → LiveAt new_history i
  live_at at = of_each (LiveAt new_history) id
      (live_as (session_of id old_history) (session_of id new_history) (ap is_live steps_as ∙ sym (ap is_live owed.steps)) (ap session_negotiation steps_as ∙ sym (ap session_negotiation owed.steps)) (at id))
      (λ i ne. live_as (session_of i old_history) (session_of i new_history) (ap is_live (sym (others_stay i ne))) (ap session_negotiation (sym (others_stay i ne))) (at i))

  behind_ask : Holds q old_history → AreBehind q ask
  behind_ask holds = (subst (IsOutstanding q old_history sent.content) aims (subst (Waits q old_history) (ends.last sent) holds.waits)).1

  outstanding_as : Holds q old_history → IsOutstanding q new_history new_sent.content (InSession id ask)
  outstanding_as holds = (
    record {
      older = its_steps;
      inner = owed.inner;
      sealed = sealed_next q.psk its_steps owed.inner pad;
      pad = pad;
      live = owed.live;
      steps = steps_as;
      content_is = content_as;
      sealed_is = refl;
    },
    behind_ask holds,
  )

  pub holds_as : Holds q old_history → Holds q new_history
  holds_as holds = record {
    live = live_at holds.live;
    known = subst (λ (n : Negotiation). HasSizes q → is_capable (phase_of new_history) ≡ true → IsCommon q (terms_of n).common) beside.negotiation
        (subst (λ (p : Phase). HasSizes q → is_capable p ≡ true → IsCommon q (connection_terms old_history).common) beside.phase holds.known);
    waits = subst (Waits q new_history) (sym (ends.last new_sent)) (subst (IsOutstanding q new_history new_sent.content) (sym aims) (outstanding_as holds));
  }

  order_as : (i : ℕ) → IsInOrder (outstanding old_history) i (session_of i old_history) → IsInOrder (outstanding new_history) i (session_of i new_history)
  order_as = of_each (λ i. IsInOrder (outstanding old_history) i (session_of i old_history) → IsInOrder (outstanding new_history) i (session_of i new_history)) id own others
    where
      waits_as : (i : ℕ) → waits_for i (outstanding old_history) ≡ waits_for i (outstanding new_history)
      waits_as i = ap (waits_for i) (ends.last sent) ∙ sym (ap (waits_for i) (ends.last new_sent))

      own : IsInOrder (outstanding old_history) id (session_of id old_history) → IsInOrder (outstanding new_history) id (session_of id new_history)
      own o =
          let w = waits_for id (outstanding new_history) in
          let fits = subst (λ (x : orders.Waits). FitsWaits x (with_asked q.psk its_steps ask owed.inner owed.pad)) (waits_as id) (subst (FitsWaits (waits_for id (outstanding old_history))) owed.steps o.fits) in
          record {
            ordered = subst IsOrdered (sym steps_as) (subst IsOrdered owed.steps o.ordered);
            fits = subst (FitsWaits w) (sym steps_as) (fits_as w q.psk its_steps ask owed.inner owed.pad pad fits);
          }

      others : (i : ℕ) → i ≢ id → IsInOrder (outstanding old_history) i (session_of i old_history) → IsInOrder (outstanding new_history) i (session_of i new_history)
      others i ne o = record {
        ordered = subst IsOrdered (others_stay i ne) o.ordered;
        fits = subst (λ (x : orders.Waits). FitsWaits x (session_of i new_history)) (waits_as i) (subst (FitsWaits (waits_for i (outstanding old_history))) (others_stay i ne) o.fits);
      }

  pub stands_as : (old new : Sessions) → StandsFor old q old_history → IsSlotOf (slot_of new id) q.psk (with_asked q.psk its_steps ask owed.inner pad) → ((i : ℕ) → i ≢ id → slot_of new i ≡ slot_of old i) → new.id ≡ old.id → StandsFor new q new_history
  stands_as old new stands own others named = record {
    holds = holds_as stands.holds;
    orders = λ i. order_as i (stands.orders i);
    slots = of_each (λ i. IsSlotOf (slot_of new i) q.psk (session_of i new_history)) id (subst (IsSlotOf (slot_of new id) q.psk) (sym steps_as) own)
        (λ i ne. subst (λ (y : Slot). IsSlotOf y q.psk (session_of i new_history)) (sym (others i ne)) (subst (IsSlotOf (slot_of old i) q.psk) (others_stay i ne) (stands.slots i)));
    named = subst (λ (w : Option Sent). IsNamed (session_for w) new.id) (sym (ends.last new_sent))
        (subst (IsNamed (session_at sent.aim)) (sym named) (subst (λ (w : Option Sent). IsNamed (session_for w) old.id) (ends.last sent) stands.named));
  }

-- ---- All together.

abbrev record_in : List ℕ → List ℕ
record_in [] = []
record_in (_ ∷ sealed) = sealed

body_as : (q : ReqSetup) (bare : History) (whole : Sent → History) (id : ℕ) (ask : Ask) (sent : Sent) (pad : List ℕ) (owed : IsOwed q bare whole id ask sent)
    → body_of (owed_with q bare id pad sent).content ≡ record_body (sealed_next q.psk (session_of id bare) owed.inner pad)
body_as q bare whole id ask sent pad owed = ap (λ (c : Content). body_of (content_with q.psk (session_of id bare) pad c)) owed.content_is

are_repadded : (old new : Sessions) (q : ReqSetup) (bare : History) (whole : Sent → History) (id : ℕ) (ask : Ask) (sent : Sent) (sealed : List ℕ) (b : Bool) (ends : IsLast bare whole id ask) (aims : sent.aim ≡ InSession id ask) (owed : IsOwed q bare whole id ask sent)
    → StandsFor old q (whole sent) → IsSlotRepadded q.psk (session_of id bare) ask owed.inner sealed (slot_of new id) b → ((i : ℕ) → i ≢ id → slot_of new i ≡ slot_of old i) → new.id ≡ old.id → AreRepaddedIn q bare whole id sent sealed new b
are_repadded old new q bare whole id ask sent sealed true ends aims owed stands own others named = (
  own.0,
  own.1,
  body_as q bare whole id ask sent own.0 owed ∙ ap record_body (sym own.2),
  stands_as q bare whole id ask sent ends aims owed own.0 old new stands own.3 others named,
)
are_repadded old new q bare whole id ask sent sealed false ends aims owed stands own others named =
    λ fits pad most is. own fits (pad, most, ap record_in (sym is ∙ body_as q bare whole id ask sent pad owed))

-- By what is done at the slot of the session that is kept as the one that is waited for.
pub repadded : (old new : Sessions) (q : ReqSetup) (bare : History) (whole : Sent → History) (id : ℕ) (ask : Ask) (sent : Sent) (sealed : List ℕ) (b : Bool) → IsLast bare whole id ask → sent.aim ≡ InSession id ask → StandsFor old q (whole sent)
    → ((psk : List ℕ) (s : Steps) (a : Ask) (inner pad : List ℕ) → IsSlotOf (slot_of old old.id) psk (with_asked psk s a inner pad) → IsSlotRepadded psk s a inner sealed (slot_of new old.id) b)
    → ((i : ℕ) → i ≢ old.id → slot_of new i ≡ slot_of old i) → new.id ≡ old.id → AreRepaddedIn q bare whole id sent sealed new b
repadded old new q bare whole id ask sent sealed b ends aims stands at others named =
    let s = session_of id bare in
    let owed = is_owed q bare whole id ask sent ends aims stands.holds in
    let its : old.id ≡ id = named_is old q (whole sent) sent id ask stands (ends.last sent) aims in
    let slot = subst (IsSlotOf (slot_of old old.id) q.psk) (ap (λ (i : ℕ). session_of i (whole sent)) its ∙ owed.steps) (stands.slots old.id) in
    let own = subst (λ (i : ℕ). IsSlotRepadded q.psk s ask owed.inner sealed (slot_of new i) b) its (at q.psk s ask owed.inner owed.pad slot) in
    let rest = subst (λ (k : ℕ). (i : ℕ) → i ≢ k → slot_of new i ≡ slot_of old i) its others in
    are_repadded old new q bare whole id ask sent sealed b ends aims owed stands own rest named
