-- In each walk a message in the clear that was taken was no repeat.
use Rattle.std.proofs.Common.{◌≡◌, ◌==◌, ◌++◌, ◌∙◌, ℕ, List, [], ◌∷◌, refl, sym, ap, subst, drop, Bool, true, false, Option, Some, None, Result, Ok, Err, cond, inl, inr}
use Rattle.std.specs.Prelude.{MatchBool, slice_index}
use Rattle.check_laws.specs.Order.{is_answer, is_request}
use Rattle.check_laws.specs.Walks.{StepsBy, StepsTo, Walks}
use Rattle.check_late_laws.specs.Late.PassedLast.{RequestWasAnew}
use Rattle.mctp_framing.specs.Gathering.{Gathered}
use Rattle.mctp_framing.specs.Gathering.Gathered.{Whole, More, Dropped as Lost}
use Rattle.mctp_framing.specs.Packet.{PacketFields, parsed}
use Rattle.requester_machine.specs.Setup.{ReqSetup}
use Rattle.responder_machine.proofs.Making.{turn_message}
use Rattle.responder_machine.specs.Answer.{Free}
use Rattle.responder_machine.specs.Handling.{turn_of}
use Rattle.responder_machine.specs.History.{Entry, History, Kept, kept_of}
use Rattle.responder_machine.specs.History.Entry.{Clear, Sealed, Queued, Ticked, Dropped}
use Rattle.responder_machine.specs.May.{with_dropped}
use Rattle.responder_machine.specs.Place.{clear_place}
use Rattle.responder_machine.specs.Responder.{Outcome, after, is_repeat, kept_reply, on_clear}
use Rattle.responder_machine.specs.Responder.Outcome.{Same, Unopened, Adds}
use Rattle.responder_machine.specs.Setup.{RspSetup, towards}
use Rattle.responder_machine.specs.Turn.{is_taken}
use Rattle.spdm_basis.specs.declared.PacketFault.{PacketFault}
use Rattle.spdm_machine.specs.Bodies.{clear_body}
use Rattle.spdm_machine.specs.Packets.{gathered_from}
use Rattle.capture_machine.proofs.DropsTell.{kept_same, record_form}
use Rattle.capture_machine.proofs.PlainTells.{led_clear, led_record}
use Rattle.capture_machine.specs.Capture.{AsksBy, RepliesBy}
use Rattle.capture_machine.specs.CapturedAnswers.{Answers, AnswersAgain, AnswersLarge, AnswersPlainly, Completes, MayLeadTo}
use Rattle.capture_machine.specs.LargeAnswers.{dropped_before_large, is_unseen_in, judging, place_named, seen, unseen, with_large}
use Rattle.capture_machine.specs.Rounds.{Dialogue, Round, no_draw}
use Rattle.world_machine.specs.Setup.{Configuration, known_of}

-- ---- What is kept of an entry.

abbrev pub AnewHere : Entry → History → Type 0
AnewHere (Clear tag t d) h = is_taken t ≡ true → is_repeat (kept_of h) tag t.message ≡ false
AnewHere _ h = Unit {0}

-- Of each one of the history.
abbrev pub AllAnew : History → Type 0
AllAnew [] = Unit {0}
AllAnew (e ∷ h) = AnewHere e h × AllAnew h

anew_same : (e : Entry) (g h : History) → kept_of g ≡ kept_of h → AnewHere e g → AnewHere e h
anew_same (Clear tag t d) g h same old = λ taken. ap (λ (k : Option Kept). is_repeat k tag t.message) (sym same) ∙ old taken
anew_same (Sealed tag m t reply d) g h same old = tt
anew_same (Queued bytes) g h same old = tt
anew_same (Ticked seconds) g h same old = tt
anew_same (Dropped id) g h same old = tt

seen_anew : (w : List ℕ) (e : Entry) (h : History) → AnewHere e h → AnewHere (seen w e) h
seen_anew w (Clear tag t d) h old = old
seen_anew w (Sealed tag m t reply d) h old = tt
seen_anew w (Queued bytes) h old = tt
seen_anew w (Ticked seconds) h old = tt
seen_anew w (Dropped id) h old = tt

unseen_anew : (e : Entry) (h : History) → AnewHere e h → AnewHere (unseen e) h
unseen_anew (Clear tag t d) h old = old
unseen_anew (Sealed tag m t reply d) h old = tt
unseen_anew (Queued bytes) h old = tt
unseen_anew (Ticked seconds) h old = tt
unseen_anew (Dropped id) h old = tt

-- ---- The kept message stays with other bytes, and with drops.

kept_more : (e : Entry) (g h : History) → kept_of g ≡ kept_of h → kept_of (e ∷ g) ≡ kept_of (e ∷ h)
kept_more (Clear tag t d) g h same = ap (λ (k : Option Kept). cond (is_taken t) (Some (record { tag = tag; message = t.message; reply = t.reply })) k) same
kept_more (Sealed tag m t reply d) g h same = same
kept_more (Queued bytes) g h same = same
kept_more (Ticked seconds) g h same = same
kept_more (Dropped id) g h same = same

kept_seen : (w : List ℕ) (e : Entry) (h : History) → kept_of (seen w e ∷ h) ≡ kept_of (e ∷ h)
kept_seen w (Clear tag t d) h = refl
kept_seen w (Sealed tag m t reply d) h = refl
kept_seen w (Queued bytes) h = refl
kept_seen w (Ticked seconds) h = refl
kept_seen w (Dropped id) h = refl

either_kept : (b : Bool) (x y : History) (k : Option Kept) → kept_of x ≡ k → kept_of y ≡ k → kept_of (cond b x y) ≡ k
either_kept true x y k one other = one
either_kept false x y k one other = other

either_anew : (b : Bool) (x y : History) → AllAnew x → AllAnew y → AllAnew (cond b x y)
either_anew true x y one other = one
either_anew false x y one other = other

pub kept_large : (place : Option ℕ) (w : List ℕ) (h : History) → kept_of (with_large place w h) ≡ kept_of h
kept_large place w [] = refl
kept_large place w (e ∷ h) =
    either_kept (is_unseen_in place e) (seen w e ∷ h) (e ∷ with_large place w h) (kept_of (e ∷ h)) (kept_seen w e h) (kept_more e (with_large place w h) h (kept_large place w h))

kept_judging : (fetching : Option (List ℕ)) (body : List ℕ) (h : History) → kept_of (judging fetching body h) ≡ kept_of h
kept_judging None body h = refl
kept_judging (Some w) body h = kept_large (place_named body) w h

pub kept_before : (place : Option ℕ) (ids : List ℕ) (h : History) → kept_of (dropped_before_large place ids h) ≡ kept_of h
kept_before place ids [] = refl
kept_before place ids (e ∷ h) =
    either_kept (is_unseen_in place e) (e ∷ with_dropped h ids) (e ∷ dropped_before_large place ids h) (kept_of (e ∷ h)) (kept_more e (with_dropped h ids) h (kept_same ids h))
    (kept_more e (dropped_before_large place ids h) h (kept_before place ids h))

dropped_anew : (ids : List ℕ) (h : History) → AllAnew h → AllAnew (with_dropped h ids)
dropped_anew [] h all = all
dropped_anew (id ∷ ids) h all = dropped_anew ids (Dropped id ∷ h) (tt, all)

large_anew : (place : Option ℕ) (w : List ℕ) (h : History) → AllAnew h → AllAnew (with_large place w h)
large_anew place w [] all = tt
large_anew place w (e ∷ h) all =
    either_anew (is_unseen_in place e) (seen w e ∷ h) (e ∷ with_large place w h) (seen_anew w e h all.0, all.1)
    (anew_same e h (with_large place w h) (sym (kept_large place w h)) all.0, large_anew place w h all.1)

pub before_anew : (place : Option ℕ) (ids : List ℕ) (h : History) → AllAnew h → AllAnew (dropped_before_large place ids h)
before_anew place ids [] all = tt
before_anew place ids (e ∷ h) all =
    either_anew (is_unseen_in place e) (e ∷ with_dropped h ids) (e ∷ dropped_before_large place ids h) (anew_same e h (with_dropped h ids) (sym (kept_same ids h)) all.0, dropped_anew ids h all.1)
    (anew_same e h (dropped_before_large place ids h) (sym (kept_before place ids h)) all.0, before_anew place ids h all.1)

-- ---- What a body leads to.

added : (one other : Entry) → Adds one ≡ Adds other → one ≡ other
added one other same = cc

clear_anew : (r : RspSetup) (g : History) (tag : ℕ) (m : List ℕ) (f : Free) (e : Entry) → on_clear r g tag m f no_draw ≡ Adds e → AnewHere e g
unfolding on_clear
clear_anew r g tag m f e leads = by_repeat (is_repeat (kept_of g) tag m) refl leads
  where
    by_repeat : (b : Bool) → is_repeat (kept_of g) tag m ≡ b → cond b (Same (clear_body (kept_reply (kept_of g)))) (Adds (Clear tag (turn_of r (clear_place g) m f) no_draw)) ≡ Adds e → AnewHere e g
    by_repeat true is same = absurd (cc)
    by_repeat false is same =
        subst (λ (x : Entry). AnewHere x g) (added (Clear tag (turn_of r (clear_place g) m f) no_draw) e same) (λ taken. ap (is_repeat (kept_of g) tag) (turn_message r (clear_place g) m f) ∙ is)

pub led_anew : (r : RspSetup) (g : History) (tag : ℕ) (body : List ℕ) (e : Entry) → MayLeadTo r g tag body (Adds e) → AnewHere e g
led_anew r g tag body e may = by_type (slice_index body 0 == 5) refl
  where
    by_type : (b : Bool) → (slice_index body 0 == 5) ≡ b → AnewHere e g
    by_type true type = let led = led_clear r g tag body (Adds e) type may in clear_anew r g tag (drop 1 body) led.free e led.leads
    by_type false type =
        let led = led_record r g tag body (Adds e) type may in
        elim (record_form r tag (drop 1 body) led.free (Adds e) g led.leads) [
          | inl same ↦ absurd (let x = same.1 in cc)
          | inr (inl none) ↦ absurd (let x = none.1 in cc)
          | inr (inr sealed) ↦ subst (λ (x : Entry). AnewHere x g) (added (Sealed tag (drop 1 body) sealed.0 sealed.1 no_draw) e (sym sealed.2)) tt
        ]

after_anew : (r : RspSetup) (g h : History) (tag : ℕ) (body : List ℕ) (o : Outcome) → MayLeadTo r g tag body o → kept_of g ≡ kept_of h → AllAnew h → AllAnew (after h o)
after_anew r g h tag body (Same b) may same all = all
after_anew r g h tag body (Unopened b) may same all = all
after_anew r g h tag body (Adds e) may same all = (anew_same e g h same (led_anew r g tag body e may), all)

-- ---- A walk.

pub drops_kept : (fetching : Option (List ℕ)) (body : List ℕ) (h : History) (ids : List ℕ) → kept_of (with_dropped (judging fetching body h) ids) ≡ kept_of h
drops_kept fetching body h ids = kept_same ids (judging fetching body h) ∙ kept_judging fetching body h

answers_anew : (r : RspSetup) (d : Dialogue) (round : Round) (answer : List ℕ) (next : History) (fetching : Option (List ℕ)) → Answers r d round answer next fetching → AllAnew d.responder → AllAnew next
unfolding Answers
answers_anew r d round answer next fetching (inl a) all =
    let p : AnswersPlainly r d round answer next = a.0 in
    subst AllAnew (sym p.6)
    (after_anew r (with_dropped (judging d.fetching round.body d.responder) p.0) (with_dropped d.responder p.0) round.tag round.body p.1 p.2.1
    (drops_kept d.fetching round.body d.responder p.0 ∙ sym (kept_same p.0 d.responder)) (dropped_anew p.0 d.responder all))
answers_anew r d round answer next fetching (inr (inl a)) all =
    let p : AnswersLarge r d round answer next a.0 = a.1 in
    let g : History = with_dropped (judging d.fetching round.body d.responder) p.0 in
    subst AllAnew (sym p.6)
    (unseen_anew p.1 d.responder (anew_same p.1 g d.responder (drops_kept d.fetching round.body d.responder p.0) (led_anew r g round.tag round.body p.1 p.2.1)), all)
answers_anew r d round answer next fetching (inr (inr (inl a))) all =
    let p : AnswersAgain r d round answer next a.0 = a.1 in subst AllAnew (sym p.4) all
answers_anew r d round answer next fetching (inr (inr (inr a))) all =
    let p : Completes r d round answer next = a.0 in
    let place : Option ℕ = place_named round.body in
    let before : History = dropped_before_large place p.1 d.responder in
    let k : History = judging d.fetching round.body d.responder in
    subst AllAnew (sym p.8) (
      anew_same p.2 k (with_large place p.0 before) (kept_judging d.fetching round.body d.responder ∙ sym (kept_large place p.0 before ∙ kept_before place p.1 d.responder))
          (led_anew r k round.tag round.body p.2 p.4),
      large_anew place p.0 before (before_anew place p.1 d.responder all),
    )

pub asks_keep : (d : Dialogue) (g : Gathered) (next : Dialogue) → AsksBy d g next → next.responder ≡ d.responder
asks_keep d (Whole route body) next asks = elim asks.2 [
  | inl copies ↦ ap (λ (x : Dialogue). x.responder) copies.4
  | inr begins ↦ ap (λ (x : Dialogue). x.responder) begins.2.3
]
asks_keep d More next asks = ap (λ (x : Dialogue). x.responder) asks
asks_keep d (Lost cause) next asks = absurd asks

replies_anew : (w : Configuration) (d : Dialogue) (g : Gathered) (next : Dialogue) → AllAnew d.responder → RepliesBy w d g next → AllAnew next.responder
replies_anew w d (Whole route body) next all replies =
    let c = replies.2 in
    subst (λ (x : Dialogue). AllAnew x.responder) (sym c.4.3.2) (answers_anew (towards w.responder (known_of d.setup)) d c.0 body c.4.0 c.4.1 c.4.2 all)
replies_anew w d More next all replies = subst (λ (x : Dialogue). AllAnew x.responder) (sym replies) all
replies_anew w d (Lost cause) next all replies = absurd replies

step_anew : (w : Configuration) (eid : ℕ) (older : List (List ℕ)) (d next : Dialogue) (r : Result PacketFields PacketFault) → AllAnew d.responder → StepsBy w eid older d next r → AllAnew next.responder
step_anew w eid older d next (Err fault) all step = subst (λ (x : Dialogue). AllAnew x.responder) (sym step) all
step_anew w eid older d next (Ok p) all step = by_ends (is_request w.responder.eid eid p) (is_answer w.responder.eid eid p) step
  where
    by_ends : (b c : Bool) → MatchBool b (AsksBy d (gathered_from w.responder.eid eid older p) next) (MatchBool c (RepliesBy w d (gathered_from eid w.responder.eid older p) next) (next ≡ d)) → AllAnew next.responder
    by_ends true c asks = subst AllAnew (sym (asks_keep d (gathered_from w.responder.eid eid older p) next asks)) all
    by_ends false true replies = replies_anew w d (gathered_from eid w.responder.eid older p) next all replies
    by_ends false false same = subst (λ (x : Dialogue). AllAnew x.responder) (sym same) all

pub walk_anew : (w : Configuration) (q : ReqSetup) (older : List (List ℕ)) (d : Dialogue) → Walks w q older d → AllAnew d.responder
unfolding StepsTo
walk_anew w q [] d walk = subst (λ (x : Dialogue). AllAnew x.responder) (sym walk) tt
walk_anew w q (packet ∷ older) d walk = step_anew w q.eid older walk.0 d (parsed packet) (walk_anew w q older walk.0 walk.1) walk.2

-- ---- The request.

older_anew : (es : List Entry) (h : History) → AllAnew (es ++ h) → AllAnew h
older_anew [] h all = all
older_anew (e ∷ es) h all = older_anew es h all.1

pub request_was_anew : RequestWasAnew
request_was_anew w q older d walk s = (older_anew s.behind (Clear s.tag s.turn s.draw ∷ s.before) (subst AllAnew s.is (walk_anew w q older d walk))).0 s.passed.taken
