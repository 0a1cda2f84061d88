-- In a walk no large response is pending in the clear: what was not seen is not, and what was seen was given whole.
use Rattle.std.proofs.Common.{◌≡◌, ◌+◌, ◌==◌, ◌&&◌, ◌||◌, ℕ, List, [], ◌∷◌, refl, sym, ap, ◌∙◌, subst, drop, Bool, true, false, Option, Some, None, Result, Ok, Err, cond, inl, inr, eqb-true, is_some, arith}
use Rattle.std.proofs.lemmas.Bool.{false≢true, not-true}
use Rattle.std.proofs.lemmas.Bool.Decides.{nat_tests}
use Rattle.std.specs.Prelude.{MatchBool, nat_lt, not, slice_index}
use Rattle.chunking.specs.Cutting.{chunk_count}
use Rattle.mctp_framing.specs.Gathering.{Gathered}
use Rattle.mctp_framing.specs.Gathering.Gathered.{Whole, More, Dropped as Lost}
use Rattle.mctp_framing.specs.Packet.{PacketFields, parsed}
use Rattle.spdm_basis.proofs.Bools.{and_second}
use Rattle.spdm_basis.specs.declared.PacketFault.{PacketFault}
use Rattle.spdm_grammar.specs.declared.names.request_code.TheConstants.{CHUNK_GET, GET_CAPABILITIES, GET_VERSION, NEGOTIATE_ALGORITHMS}
use Rattle.spdm_machine.specs.Packets.{gathered_from}
use Rattle.spdm_machine.specs.Terms.{no_negotiation, terms_of}
use Rattle.requester_machine.specs.Setup.{ReqSetup}
use Rattle.responder_machine.specs.Handling.{turn_of}
use Rattle.responder_machine.specs.History.{Entry, History, clear_turns, negotiation_of}
use Rattle.responder_machine.specs.History.Entry.{Clear, Sealed, Queued, Ticked, Dropped}
use Rattle.responder_machine.specs.LargeMessages.{given_of, large_of, pending_of, still_pending}
use Rattle.responder_machine.specs.May.{with_dropped}
use Rattle.responder_machine.specs.Place.{Place, clear_place, inside}
use Rattle.responder_machine.specs.Refusal.{has_pending}
use Rattle.responder_machine.specs.Responder.{Outcome, after}
use Rattle.responder_machine.specs.Responder.Outcome.{Same, Unopened, Adds}
use Rattle.responder_machine.specs.Session.{id_in_record}
use Rattle.responder_machine.specs.Setup.{RspSetup, towards}
use Rattle.responder_machine.specs.Turn.{Effect, Turn, answer_in, code_in, handle_in, is_taken, large_in, request_in, takes}
use Rattle.responder_machine.specs.Turn.Effect.{NoEffect, Took, TookData}
use Rattle.check_laws.specs.Order.{is_answer, is_request}
use Rattle.check_laws.specs.Walks.{StepsBy, StepsTo, Walks}
use Rattle.check_fetched_laws.specs.ClearMeanwhile.{NonePendsInClear}
use Rattle.transcript.specs.Transcripts.{Negotiation}
use Rattle.capture_machine.proofs.ChunksGiven.{given_idle, large_idle, large_other}
use Rattle.capture_machine.proofs.DropsTell.{clear_form, turns_stay}
use Rattle.capture_machine.proofs.GetTells.{IsIdle, turn_idle}
use Rattle.capture_machine.proofs.PlacesServed.{get_settles, idle_settles, named_session}
use Rattle.capture_machine.proofs.PlainTells.{led_clear, led_record}
use Rattle.capture_machine.proofs.RecordAdds.{record_added}
use Rattle.capture_machine.proofs.UnseenStands.{with_idle}
use Rattle.capture_machine.specs.Capture.{AsksBy, RepliesBy}
use Rattle.capture_machine.specs.CapturedAnswers.{Answers, MayLeadTo, is_plain}
use Rattle.capture_machine.specs.LargeAnswers.{dropped_before_large, effect_with, gives_last, is_large, is_unseen_in, judging, place_named, seen, turn_with, unseen, with_large}
use Rattle.capture_machine.specs.Rounds.{Dialogue, Round, no_draw}
use Rattle.world_machine.specs.Setup.{Configuration, known_of}
use Rattle.check_late_laws.proofs.Late.SessionsQuiet.{more_given, none_handled, not_large}
use Rattle.capture_machine.proofs.PlacesServed.{inside_pending}

-- ---- The turns of the clear part.

abbrev transfer_at : List Turn → ℕ
transfer_at ts = (terms_of (negotiation_of ts)).common.to_requester.transfer

abbrev Quiet : List Turn → Type 0
Quiet ts = is_some (pending_of (transfer_at ts) ts) ≡ false

quiet_next : (t : Turn) (ts : List Turn) → IsIdle t → is_some (handle_in t.effect) ≡ false → Quiet ts → Quiet (t ∷ ts)
quiet_next t ts idle small quiet = by_taken (is_taken t) refl
  where
    P : ℕ → ℕ → Option (List ℕ) → Type 0
    P transfer n o = is_some (still_pending transfer n o) ≡ false

    get_kept : (b c : Bool) → is_taken t ≡ b → takes CHUNK_GET t ≡ c → b ≡ true → c ≡ true → (large_of (t ∷ ts) ≡ large_of ts) × (given_of (t ∷ ts) ≡ given_of ts + 1)
    get_kept b c taken gets one two = (
      ap (λ (x : Bool). cond (not (is_taken t) || x) (large_of ts) (large_in t.effect)) (gets ∙ two) ∙ ap (λ (x : Bool). cond (not x || true) (large_of ts) (large_in t.effect)) (taken ∙ one),
      ap (λ (x : Bool). cond (not x) (given_of ts) (cond (takes CHUNK_GET t) (given_of ts + 1) 0)) (taken ∙ one) ∙ ap (λ (x : Bool). cond x (given_of ts + 1) 0) (gets ∙ two),
    )

    by_get : (c : Bool) → takes CHUNK_GET t ≡ c → is_taken t ≡ true → Quiet (t ∷ ts)
    by_get true gets taken =
        let kept = get_kept true true taken gets refl refl in
        let settles = ap (λ (n : Negotiation). (terms_of n).common.to_requester.transfer) (get_settles t ts gets) in
        subst (λ (x : ℕ). P x (given_of (t ∷ ts)) (large_of (t ∷ ts))) (sym settles)
        (subst (λ (n : ℕ). P (transfer_at ts) n (large_of (t ∷ ts))) (sym kept.1)
        (subst (P (transfer_at ts) (given_of ts + 1)) (sym kept.0) (more_given (transfer_at ts) (given_of ts) (large_of ts) quiet)))
    by_get false other taken =
        subst (P (transfer_at (t ∷ ts)) (given_of (t ∷ ts))) (sym (large_other t ts taken other ∙ not_large t.effect small)) refl

    by_taken : (b : Bool) → is_taken t ≡ b → Quiet (t ∷ ts)
    by_taken true taken = by_get (takes CHUNK_GET t) refl taken
    by_taken false refused =
        let settles = ap (λ (n : Negotiation). (terms_of n).common.to_requester.transfer) (idle_settles t ts idle refused) in
        subst (λ (x : ℕ). P x (given_of (t ∷ ts)) (large_of (t ∷ ts))) (sym settles)
        (subst (λ (n : ℕ). P (transfer_at ts) n (large_of (t ∷ ts))) (sym (given_idle t ts refused))
        (subst (P (transfer_at ts) (given_of ts)) (sym (large_idle t ts refused)) quiet))

-- ---- An entry.

abbrev QuietIn : History → Type 0
QuietIn h = Quiet (clear_turns h)

abbrev IdleIn : Entry → Type 0
IdleIn (Clear tag t d) = IsIdle t
IdleIn _ = Unit {0}

abbrev IsKindOf : (clear : Bool) → Entry → Type 0
IsKindOf true (Clear tag t d) = Unit {0}
IsKindOf true _ = ⊥
IsKindOf false (Clear tag t d) = ⊥
IsKindOf false _ = Unit {0}

entry_led : (r : RspSetup) (h : History) (tag : ℕ) (body : List ℕ) (e : Entry) → MayLeadTo r h tag body (Adds e) → (b : Bool) → (slice_index body 0 == 5) ≡ b → IdleIn e × IsKindOf b e
entry_led r h tag body e may true is =
    let led = led_clear r h tag body (Adds e) is may in
    elim (clear_form r h tag (drop 1 body) led.free (Adds e) led.leads) [
      | inl same ↦ absurd (let x = same.1 in cc)
      | inr adds ↦
          let same : Clear tag (turn_of r (clear_place h) (drop 1 body) led.free) no_draw ≡ e = cc (sym adds) in
          subst (λ (x : Entry). IdleIn x × IsKindOf true x) same (turn_idle r (clear_place h) (drop 1 body) led.free, tt)
    ]
entry_led r h tag body e may false is =
    let led = led_record r h tag body (Adds e) is may in
    subst (λ (x : Entry). IdleIn x × IsKindOf false x) (record_added r led.free tag (drop 1 body) e h led.leads) (tt, tt)

idle_led : (r : RspSetup) (h : History) (tag : ℕ) (body : List ℕ) (e : Entry) → MayLeadTo r h tag body (Adds e) → IdleIn e
idle_led r h tag body e may = (entry_led r h tag body e may (slice_index body 0 == 5) refl).0

quiet_adds : (e : Entry) (h : History) → IdleIn e → is_large e ≡ false → QuietIn h → QuietIn (e ∷ h)
quiet_adds (Clear tag t d) h idle small quiet = quiet_next t (clear_turns h) idle small quiet
quiet_adds (Sealed tag m t reply d) h idle small quiet = quiet
quiet_adds (Queued bytes) h idle small quiet = quiet
quiet_adds (Ticked seconds) h idle small quiet = quiet
quiet_adds (Dropped id) h idle small quiet = quiet

quiet_unseen : (e : Entry) (h : History) → IdleIn e → QuietIn h → QuietIn (unseen e ∷ h)
quiet_unseen (Clear tag t d) h idle quiet = quiet_next (turn_with [] None t) (clear_turns h) (with_idle [] None t idle) (none_handled t.effect) quiet
quiet_unseen (Sealed tag m t reply d) h idle quiet = quiet
quiet_unseen (Queued bytes) h idle quiet = quiet
quiet_unseen (Ticked seconds) h idle quiet = quiet
quiet_unseen (Dropped id) h idle quiet = quiet

-- ---- A history.

same_next : (e : Entry) (g h : History) → clear_turns g ≡ clear_turns h → clear_turns (e ∷ g) ≡ clear_turns (e ∷ h)
same_next (Clear tag t d) g h same = ap (λ (ts : List Turn). t ∷ ts) same
same_next (Sealed tag m t reply d) g h same = same
same_next (Queued bytes) g h same = same
same_next (Ticked seconds) g h same = same
same_next (Dropped id) g h same = same

-- What was dropped before the request is no turn.
before_same : (place : Option ℕ) (ids : List ℕ) (h : History) → clear_turns (dropped_before_large place ids h) ≡ clear_turns h
before_same place ids [] = refl
before_same place ids (e ∷ h) = by_is (is_unseen_in place e) (before_same place ids h)
  where
    by_is : (b : Bool) → clear_turns (dropped_before_large place ids h) ≡ clear_turns h → clear_turns (cond b (e ∷ with_dropped h ids) (e ∷ dropped_before_large place ids h)) ≡ clear_turns (e ∷ h)
    by_is true rest = same_next e (with_dropped h ids) h (turns_stay ids h)
    by_is false rest = same_next e (dropped_before_large place ids h) h rest

large_same : (place : Option ℕ) (w ids : List ℕ) (h : History) → clear_turns (with_large place w (dropped_before_large place ids h)) ≡ clear_turns (with_large place w h)
large_same place w ids [] = refl
large_same place w ids (e ∷ h) = by_is (is_unseen_in place e) refl (large_same place w ids h)
  where
    by_is : (b : Bool) → is_unseen_in place e ≡ b → clear_turns (with_large place w (dropped_before_large place ids h)) ≡ clear_turns (with_large place w h)
        → clear_turns (with_large place w (cond b (e ∷ with_dropped h ids) (e ∷ dropped_before_large place ids h))) ≡ clear_turns (cond b (seen w e ∷ h) (e ∷ with_large place w h))
    by_is true is rest =
        ap (λ (b : Bool). clear_turns (cond b (seen w e ∷ with_dropped h ids) (e ∷ with_large place w (with_dropped h ids)))) is ∙ same_next (seen w e) (with_dropped h ids) h (turns_stay ids h)
    by_is false is rest =
        ap (λ (b : Bool). clear_turns (cond b (seen w e ∷ dropped_before_large place ids h) (e ∷ with_large place w (dropped_before_large place ids h)))) is
        ∙ same_next e (with_large place w (dropped_before_large place ids h)) (with_large place w h) rest

-- The large response of a session is in no turn of the clear part.
turns_fetched : (id : ℕ) (w : List ℕ) (h : History) → clear_turns (with_large (Some id) w h) ≡ clear_turns h
turns_fetched id w [] = refl
turns_fetched id w (Clear tag t d ∷ h) = ap (λ (ts : List Turn). t ∷ ts) (turns_fetched id w h)
turns_fetched id w (Sealed tag m t reply d ∷ h) = by_is (is_unseen_in (Some id) (Sealed tag m t reply d)) (turns_fetched id w h)
  where
    by_is : (b : Bool) → clear_turns (with_large (Some id) w h) ≡ clear_turns h → clear_turns (cond b (seen w (Sealed tag m t reply d) ∷ h) (Sealed tag m t reply d ∷ with_large (Some id) w h)) ≡ clear_turns h
    by_is true rest = refl
    by_is false rest = rest
turns_fetched id w (Queued bytes ∷ h) = turns_fetched id w h
turns_fetched id w (Ticked seconds ∷ h) = turns_fetched id w h
turns_fetched id w (Dropped which ∷ h) = turns_fetched id w h

dropped_quiet : (ids : List ℕ) (h : History) → QuietIn h → QuietIn (with_dropped h ids)
dropped_quiet ids h quiet = subst Quiet (sym (turns_stay ids h)) quiet

plain_small : (h : History) (e : Entry) → is_plain h (Adds e) ≡ true → is_large e ≡ false
plain_small h e plain = first (is_large e) _ plain
  where
    first : (a b : Bool) → (not a && b) ≡ true → a ≡ false
    first true b is = absurd (false≢true is)
    first false b is = refl

after_quiet : (r : RspSetup) (k h j : History) (tag : ℕ) (body : List ℕ) (o : Outcome) → MayLeadTo r k tag body o → is_plain j o ≡ true → QuietIn h → QuietIn (after h o)
after_quiet r k h j tag body (Same b) may plain quiet = quiet
after_quiet r k h j tag body (Unopened b) may plain quiet = quiet
after_quiet r k h j tag body (Adds e) may plain quiet = quiet_adds e h (idle_led r k tag body e may) (plain_small j e plain) quiet

last_quiet : (e : Entry) (g h : History) (b : Bool) → IsKindOf b e → gives_last g e ≡ true → clear_turns h ≡ cond b (clear_turns g) (clear_turns h) → (b ≡ false → QuietIn h) → QuietIn (e ∷ h)
last_quiet (Clear tag t d) g h true kind last same rest =
    let p : Place = clear_place (Clear tag t d ∷ g) in
    let none : has_pending p ≡ false = sym (inside_pending (is_some t.chunk) p) ∙ not-true _ (and_second _ _ last) in
    subst Quiet (ap (λ (ts : List Turn). t ∷ ts) (sym same)) none
last_quiet (Clear tag t d) g h false kind last same rest = absurd kind
last_quiet (Sealed tag m t reply d) g h true kind last same rest = absurd kind
last_quiet (Sealed tag m t reply d) g h false kind last same rest = rest refl
last_quiet (Queued bytes) g h true kind last same rest = absurd kind
last_quiet (Queued bytes) g h false kind last same rest = rest refl
last_quiet (Ticked seconds) g h true kind last same rest = absurd kind
last_quiet (Ticked seconds) g h false kind last same rest = rest refl
last_quiet (Dropped id) g h true kind last same rest = absurd kind
last_quiet (Dropped id) g h false kind last same rest = rest refl

completes_quiet : (r : RspSetup) (h : History) (tag : ℕ) (body w ids : List ℕ) (e : Entry) → MayLeadTo r (with_large (place_named body) w h) tag body (Adds e) → gives_last (with_large (place_named body) w h) e ≡ true → QuietIn h
    → QuietIn (e ∷ with_large (place_named body) w (dropped_before_large (place_named body) ids h))
completes_quiet r h tag body w ids e may last quiet = by_type (slice_index body 0 == 5) refl
  where
    place : Option ℕ
    place = place_named body

    by_type : (b : Bool) → (slice_index body 0 == 5) ≡ b → QuietIn (e ∷ with_large place w (dropped_before_large place ids h))
    by_type true is = last_quiet e (with_large place w h) (with_large place w (dropped_before_large place ids h)) true (entry_led r _ tag body e may true is).1 last (large_same place w ids h) (λ no. absurd (false≢true (sym no)))
    by_type false is =
        last_quiet e (with_large place w h) (with_large place w (dropped_before_large place ids h)) false (entry_led r _ tag body e may false is).1 last refl
        (λ yes. subst Quiet (sym (ap (λ (o : Option ℕ). clear_turns (with_large o w (dropped_before_large place ids h))) (named_session body is) ∙ turns_fetched (id_in_record (drop 1 body)) w (dropped_before_large place ids h) ∙ before_same place ids h)) quiet)

-- ---- An answer.

answers_stand : (r : RspSetup) (d : Dialogue) (round : Round) (answer : List ℕ) (next : History) (fetching : Option (List ℕ)) → Answers r d round answer next fetching → QuietIn d.responder → QuietIn next
unfolding Answers
answers_stand r d round answer next fetching (inl a) stands =
    subst QuietIn (sym a.0.6) (after_quiet r (with_dropped (judging d.fetching round.body d.responder) a.0.0) (with_dropped d.responder a.0.0) (judging d.fetching round.body d.responder) round.tag round.body a.0.1 a.0.2.1 a.0.4 (dropped_quiet a.0.0 d.responder stands))
answers_stand r d round answer next fetching (inr (inl a)) stands =
    subst QuietIn (sym a.1.6) (quiet_unseen a.1.1 d.responder (idle_led r (with_dropped (judging d.fetching round.body d.responder) a.1.0) round.tag round.body a.1.1 a.1.2.1) stands)
answers_stand r d round answer next fetching (inr (inr (inl a))) stands = subst QuietIn (sym a.1.4) stands
answers_stand r d round answer next fetching (inr (inr (inr a))) stands =
    let J : Option (List ℕ) → Type 0 = λ x. MayLeadTo r (judging x round.body d.responder) round.tag round.body (Adds a.0.2) in
    let L : Option (List ℕ) → Type 0 = λ x. gives_last (judging x round.body d.responder) a.0.2 ≡ true in
    subst QuietIn (sym a.0.8) (completes_quiet r d.responder round.tag round.body a.0.0 a.0.1 a.0.2 (subst J a.0.3 a.0.4) (subst L a.0.3 a.0.5) stands)

-- ---- A walk.

asks_stand : (d : Dialogue) (g : Gathered) (next : Dialogue) → QuietIn d.responder → AsksBy d g next → QuietIn next.responder
asks_stand d (Whole route body) next stands asks = elim asks.2 [
  | inl copies ↦ subst QuietIn (sym (ap (λ (x : Dialogue). x.responder) copies.4)) stands
  | inr begins ↦ subst QuietIn (sym (ap (λ (x : Dialogue). x.responder) begins.2.3)) stands
]
asks_stand d More next stands asks = subst (λ (x : Dialogue). QuietIn x.responder) (sym asks) stands
asks_stand d (Lost cause) next stands asks = absurd asks

replies_stand : (w : Configuration) (d : Dialogue) (g : Gathered) (next : Dialogue) → QuietIn d.responder → RepliesBy w d g next → QuietIn next.responder
replies_stand w d (Whole route body) next stands replies =
    let c = replies.2 in
    subst QuietIn (sym (ap (λ (x : Dialogue). x.responder) c.4.3.2)) (answers_stand (towards w.responder (known_of d.setup)) d c.0 body c.4.0 c.4.1 c.4.2 stands)
replies_stand w d More next stands replies = subst (λ (x : Dialogue). QuietIn x.responder) (sym replies) stands
replies_stand w d (Lost cause) next stands replies = absurd replies

step_stands : (w : Configuration) (eid : ℕ) (older : List (List ℕ)) (d next : Dialogue) (r : Result PacketFields PacketFault) → QuietIn d.responder → StepsBy w eid older d next r → QuietIn next.responder
step_stands w eid older d next (Err fault) stands step = subst (λ (x : Dialogue). QuietIn x.responder) (sym step) stands
step_stands w eid older d next (Ok p) stands step = by_ends (is_request w.responder.eid eid p) (is_answer w.responder.eid eid p) step
  where
    by_ends : (b c : Bool) → MatchBool b (AsksBy d (gathered_from w.responder.eid eid older p) next) (MatchBool c (RepliesBy w d (gathered_from eid w.responder.eid older p) next) (next ≡ d)) → QuietIn next.responder
    by_ends true c asks = asks_stand d (gathered_from w.responder.eid eid older p) next stands asks
    by_ends false true replies = replies_stand w d (gathered_from eid w.responder.eid older p) next stands replies
    by_ends false false same = subst (λ (x : Dialogue). QuietIn x.responder) (sym same) stands

pub walks_quiet : (w : Configuration) (q : ReqSetup) (older : List (List ℕ)) (d : Dialogue) → Walks w q older d → QuietIn d.responder
unfolding StepsTo
walks_quiet w q [] d walk = subst (λ (x : Dialogue). QuietIn x.responder) (sym walk) refl
walks_quiet w q (packet ∷ older) d walk = step_stands w q.eid older walk.0 d (parsed packet) (walks_quiet w q older walk.0 walk.1) walk.2

pub none_pends_in_clear : NonePendsInClear
none_pends_in_clear w q older d walk = walks_quiet w q older d walk
