-- In each walk a reply in the clear that is LargeResponse belongs to a request whose answer went so: it was not seen, or it has
-- its handle. And while nothing is pending, the request that a repeat is compared with is one of the first kind.
use Rattle.std.proofs.Common.{◌≡◌, ◌≢◌, ◌⊎◌, ◌==◌, ◌&&◌, ◌||◌, ◌++◌, ◌+◌, ◌-◌, ◌≤◌, ◌<◌, ◌∙◌, ℕ, List, [], ◌∷◌, refl, sym, ap, subst, drop, length, arith, Bool, true, false, Option, Some, None, Result, Ok, Err, is_some, cond, inl, inr}
use Rattle.std.specs.Prelude.{MatchBool, nat_lt, not, slice_index}
use Rattle.std.proofs.lemmas.Bool.{false≢true}
use Rattle.check_responder.proofs.LargeReplies.{turn_tells}
use Rattle.check_responder.specs.JudgedResponder.{shows_large}
use Rattle.check_laws.specs.DropsShown.{response_of}
use Rattle.check_laws.specs.Order.{is_answer, is_request}
use Rattle.check_laws.specs.Walks.{StepsBy, StepsTo, Walks}
use Rattle.chunking.specs.Cutting.{chunk_count}
use Rattle.check_fetched_ends.proofs.BegunPassed.{plain_large}
use Rattle.check_fetched_ends.proofs.BegunStands.{ceil_some}
use Rattle.check_fetched_ends.specs.BegunHeld.{has_free_length}
use Rattle.check_late_laws.proofs.Late.BehindClear.{code_with}
use Rattle.check_late_laws.proofs.Late.WalksAnew.{asks_keep}
use Rattle.mctp_framing.specs.Gathering.{Gathered}
use Rattle.mctp_framing.specs.Gathering.Gathered.{Whole, More, Dropped as Lost}
use Rattle.mctp_framing.specs.Packet.{PacketFields, parsed}
use Rattle.requester_machine.specs.Setup.{ReqSetup}
use Rattle.responder_machine.proofs.Making.{turn_message}
use Rattle.responder_machine.specs.Answer.{Free}
use Rattle.responder_machine.specs.Handling.{turn_of}
use Rattle.responder_machine.specs.History.{Entry, History, clear_turns, kept_of}
use Rattle.responder_machine.specs.History.Entry.{Clear, Sealed, Queued, Ticked, Dropped}
use Rattle.responder_machine.specs.LargeMessages.{given_of, large_of, still_pending}
use Rattle.responder_machine.specs.May.{with_dropped}
use Rattle.responder_machine.specs.Place.{clear_place, place_terms}
use Rattle.responder_machine.specs.Refusal.{code_of, has_pending}
use Rattle.responder_machine.specs.Responder.{Outcome, after, kept_reply}
use Rattle.responder_machine.specs.Responder.Outcome.{Same, Unopened, Adds}
use Rattle.responder_machine.specs.Setup.{RspSetup, towards}
use Rattle.responder_machine.specs.Turn.{Effect, Turn, code_in, handle_in, is_taken, large_in, takes}
use Rattle.responder_machine.specs.Turn.Effect.{NoEffect, Took, TookData}
use Rattle.spdm_basis.specs.declared.PacketFault.{PacketFault}
use Rattle.spdm_grammar.specs.declared.names.request_code.TheConstants.{CHUNK_GET, CHUNK_SEND}
use Rattle.spdm_machine.specs.Packets.{gathered_from}
use Rattle.capture_machine.proofs.ChunksGiven.{given_idle, large_idle, large_other}
use Rattle.capture_machine.proofs.DropsTell.{clear_form}
use Rattle.capture_machine.proofs.FetchedSessions.{takes_with}
use Rattle.capture_machine.proofs.PlainTells.{led_clear, led_record}
use Rattle.capture_machine.proofs.RecordAdds.{record_added}
use Rattle.capture_machine.proofs.SmallGets.{gets_are_small}
use Rattle.capture_machine.specs.Capture.{AsksBy, RepliesBy}
use Rattle.capture_machine.specs.CapturedAnswers.{Answers, AnswersAgain, AnswersLarge, AnswersPlainly, Completes, MayLeadTo}
use Rattle.capture_machine.specs.LargeAnswers.{dropped_before_large, effect_with, handle_shown, is_large, is_unseen_effect, is_unseen_in, judging, place_named, repeats_large, seen, takes_get, unseen, with_large}
use Rattle.capture_machine.specs.Rounds.{Dialogue, Round, no_draw}
use Rattle.world_machine.specs.Setup.{Configuration, known_of}

-- ---- An entry.

-- The answer went by LargeResponse: it was not seen, or it has its handle.
abbrev went_large : Effect → Bool
went_large e = is_unseen_effect e || is_some (handle_in e)

-- GET_MEASUREMENTS and PSK_EXCHANGE are whole in their message, and what took effect has its code.
abbrev IsWholeFree : Turn → Type 0
IsWholeFree t = has_free_length (code_of t.message) ≡ true → (t.chunk ≡ None) × (code_in t.effect ≡ code_of t.message)

-- Its reply is LargeResponse only where its answer went so, and then it is no CHUNK_GET.
pub record IsShown (t : Turn) : Type 0 where
  pub went : went_large t.effect ≡ true
  pub other : takes CHUNK_GET t ≡ false
  pub free : IsWholeFree t

abbrev pub ShowsIn : Entry → Type 0
ShowsIn (Clear tag t d) = shows_large (response_of t.reply) ≡ true → IsShown t
ShowsIn _ = Unit {0}

abbrev pub AllShow : History → Type 0
AllShow [] = Unit {0}
AllShow (e ∷ h) = ShowsIn e × AllShow h

or_true : (b : Bool) → (b || true) ≡ true
or_true true = refl
or_true false = refl

seen_went : (w : List ℕ) (n : ℕ) (e : Effect) → went_large e ≡ true → went_large (effect_with w (Some n) e) ≡ true
seen_went w n NoEffect is = absurd (false≢true is)
seen_went w n (Took asked request answer large) is = or_true (is_unseen_effect (Took asked request w (Some n)))
seen_went w n (TookData bytes answer) is = absurd (false≢true is)

unseen_went : (e : Effect) → went_large e ≡ true → went_large (effect_with [] None e) ≡ true
unseen_went NoEffect is = absurd (false≢true is)
unseen_went (Took asked request answer large) is = refl
unseen_went (TookData bytes answer) is = absurd (false≢true is)

seen_shows : (w : List ℕ) (e : Entry) → ShowsIn e → ShowsIn (seen w e)
seen_shows w (Clear tag t d) old = λ shows.
    let is = old shows in record {
      went = seen_went w (handle_shown t) t.effect is.went;
      other = takes_with w (Some (handle_shown t)) CHUNK_GET t ∙ is.other;
      free = λ code. ((is.free code).0, code_with w (Some (handle_shown t)) t.effect ∙ (is.free code).1);
    }
seen_shows w (Sealed tag m t reply d) old = tt
seen_shows w (Queued bytes) old = tt
seen_shows w (Ticked seconds) old = tt
seen_shows w (Dropped id) old = tt

unseen_shows : (e : Entry) → ShowsIn e → ShowsIn (unseen e)
unseen_shows (Clear tag t d) old = λ shows.
    let is = old shows in record {
      went = unseen_went t.effect is.went;
      other = takes_with [] None CHUNK_GET t ∙ is.other;
      free = λ code. ((is.free code).0, code_with [] None t.effect ∙ (is.free code).1);
    }
unseen_shows (Sealed tag m t reply d) old = tt
unseen_shows (Queued bytes) old = tt
unseen_shows (Ticked seconds) old = tt
unseen_shows (Dropped id) old = tt

-- ---- A history.

either_shows : (b : Bool) (x y : History) → AllShow x → AllShow y → AllShow (cond b x y)
either_shows true x y one other = one
either_shows false x y one other = other

dropped_shows : (ids : List ℕ) (h : History) → AllShow h → AllShow (with_dropped h ids)
dropped_shows [] h all = all
dropped_shows (id ∷ ids) h all = dropped_shows ids (Dropped id ∷ h) (tt, all)

large_shows : (place : Option ℕ) (w : List ℕ) (h : History) → AllShow h → AllShow (with_large place w h)
large_shows place w [] all = tt
large_shows place w (e ∷ h) all = either_shows (is_unseen_in place e) (seen w e ∷ h) (e ∷ with_large place w h) (seen_shows w e all.0, all.1) (all.0, large_shows place w h all.1)

before_shows : (place : Option ℕ) (ids : List ℕ) (h : History) → AllShow h → AllShow (dropped_before_large place ids h)
before_shows place ids [] all = tt
before_shows place ids (e ∷ h) all =
    either_shows (is_unseen_in place e) (e ∷ with_dropped h ids) (e ∷ dropped_before_large place ids h) (all.0, dropped_shows ids h all.1) (all.0, before_shows place ids h all.1)

-- ---- What a body leads to.

-- An answer that did not go so is not one.
none_get : (large get : Bool) → (get ≡ true → large ≡ false) → large ≡ true → get ≡ false
none_get large false small is = refl
none_get large true small is = absurd (false≢true (sym (small refl) ∙ is))

free_is : (n : ℕ) → has_free_length n ≡ true → n ≢ CHUNK_SEND
free_is n is same = absurd (false≢true (sym (ap has_free_length same) ∙ is))

module _ (r : RspSetup) (g : History) (tag : ℕ) (body m : List ℕ) (f : Free) where
  abbrev t : Turn
  t = turn_of r (clear_place g) m f

  whole_free : is_some (handle_in t.effect) ≡ true → IsWholeFree t
  whole_free large code =
      let plain = plain_large r (clear_place g) m f (free_is (code_of m) (ap (λ (l : List ℕ). has_free_length (code_of l)) (sym (turn_message r (clear_place g) m f)) ∙ code)) large in
      (plain.chunk, sym (code_with [] None t.effect) ∙ plain.code ∙ ap code_of (sym (turn_message r (clear_place g) m f)))

  turn_shows : MayLeadTo r g tag body (Adds (Clear tag t no_draw)) → ShowsIn (Clear tag t no_draw)
  turn_shows may = λ shows.
      let large : is_some (handle_in t.effect) ≡ true = sym (turn_tells r (clear_place g) m f) ∙ shows in record {
        went = ap (λ (b : Bool). is_unseen_effect t.effect || b) large ∙ or_true (is_unseen_effect t.effect);
        other = none_get (is_some (handle_in t.effect)) (takes CHUNK_GET t) (λ gets. gets_are_small r g tag body (Clear tag t no_draw) may gets) large;
        free = whole_free large;
      }

led_shows : (r : RspSetup) (g : History) (tag : ℕ) (body : List ℕ) (e : Entry) → MayLeadTo r g tag body (Adds e) → ShowsIn e
led_shows r g tag body e may = by_type (slice_index body 0 == 5) refl
  where
    by_type : (b : Bool) → (slice_index body 0 == 5) ≡ b → ShowsIn e
    by_type true type =
        let led = led_clear r g tag body (Adds e) type may in
        elim (clear_form r g tag (drop 1 body) led.free (Adds e) led.leads) [
          | inl same ↦ absurd (let x = same.1 in cc)
          | inr adds ↦
              let is : Clear tag (turn_of r (clear_place g) (drop 1 body) led.free) no_draw ≡ e = cc (sym adds) in
              subst ShowsIn is (turn_shows r g tag body (drop 1 body) led.free (subst (λ (x : Entry). MayLeadTo r g tag body (Adds x)) (sym is) may))
        ]
    by_type false type =
        let led = led_record r g tag body (Adds e) type may in
        subst ShowsIn (record_added r led.free tag (drop 1 body) e g led.leads) tt

after_shows : (r : RspSetup) (g h : History) (tag : ℕ) (body : List ℕ) (o : Outcome) → MayLeadTo r g tag body o → AllShow h → AllShow (after h o)
after_shows r g h tag body (Same b) may all = all
after_shows r g h tag body (Unopened b) may all = all
after_shows r g h tag body (Adds e) may all = (led_shows r g tag body e may, all)

-- ---- A walk.

answers_show : (r : RspSetup) (d : Dialogue) (round : Round) (answer : List ℕ) (next : History) (fetching : Option (List ℕ)) → Answers r d round answer next fetching → AllShow d.responder → AllShow next
unfolding Answers
answers_show r d round answer next fetching (inl a) all =
    let p : AnswersPlainly r d round answer next = a.0 in
    subst AllShow (sym p.6)
    (after_shows r (with_dropped (judging d.fetching round.body d.responder) p.0) (with_dropped d.responder p.0) round.tag round.body p.1 p.2.1 (dropped_shows p.0 d.responder all))
answers_show r d round answer next fetching (inr (inl a)) all =
    let p : AnswersLarge r d round answer next a.0 = a.1 in
    subst AllShow (sym p.6) (unseen_shows p.1 (led_shows r (with_dropped (judging d.fetching round.body d.responder) p.0) round.tag round.body p.1 p.2.1), all)
answers_show r d round answer next fetching (inr (inr (inl a))) all =
    let p : AnswersAgain r d round answer next a.0 = a.1 in subst AllShow (sym p.4) all
answers_show r d round answer next fetching (inr (inr (inr a))) all =
    let p : Completes r d round answer next = a.0 in
    let place : Option ℕ = place_named round.body in
    subst AllShow (sym p.8) (led_shows r (judging d.fetching round.body d.responder) round.tag round.body p.2 p.4, large_shows place p.0 (dropped_before_large place p.1 d.responder) (before_shows place p.1 d.responder all))

replies_show : (w : Configuration) (d : Dialogue) (g : Gathered) (next : Dialogue) → AllShow d.responder → RepliesBy w d g next → AllShow next.responder
replies_show w d (Whole route body) next all replies =
    let c = replies.2 in
    subst (λ (x : Dialogue). AllShow x.responder) (sym c.4.3.2) (answers_show (towards w.responder (known_of d.setup)) d c.0 body c.4.0 c.4.1 c.4.2 all)
replies_show w d More next all replies = subst (λ (x : Dialogue). AllShow x.responder) (sym replies) all
replies_show w d (Lost cause) next all replies = absurd replies

step_shows : (w : Configuration) (eid : ℕ) (older : List (List ℕ)) (d next : Dialogue) (r : Result PacketFields PacketFault) → AllShow d.responder → StepsBy w eid older d next r → AllShow next.responder
step_shows w eid older d next (Err fault) all step = subst (λ (x : Dialogue). AllShow x.responder) (sym step) all
step_shows w eid older d next (Ok p) all step = by_ends (is_request w.responder.eid eid p) (is_answer w.responder.eid eid p) step
  where
    by_ends : (b c : Bool) → MatchBool b (AsksBy d (gathered_from w.responder.eid eid older p) next) (MatchBool c (RepliesBy w d (gathered_from eid w.responder.eid older p) next) (next ≡ d)) → AllShow next.responder
    by_ends true c asks = subst AllShow (sym (asks_keep d (gathered_from w.responder.eid eid older p) next asks)) all
    by_ends false true replies = replies_show w d (gathered_from eid w.responder.eid older p) next all replies
    by_ends false false same = subst (λ (x : Dialogue). AllShow x.responder) (sym same) all

pub walk_shows : (w : Configuration) (q : ReqSetup) (older : List (List ℕ)) (d : Dialogue) → Walks w q older d → AllShow d.responder
unfolding StepsTo
walk_shows w q [] d walk = subst (λ (x : Dialogue). AllShow x.responder) (sym walk) tt
walk_shows w q (packet ∷ older) d walk = step_shows w q.eid older walk.0 d (parsed packet) (walk_shows w q older walk.0 walk.1) walk.2

-- ---- The newest request in the clear that was taken.

-- A large response follows no chunk.
abbrev IsWhole : History → Type 0
IsWhole h = (is_some (large_of (clear_turns h)) ≡ true) × (given_of (clear_turns h) ≡ 0)

has_large : (e : Effect) → is_some (handle_in e) ≡ true → is_some (large_in e) ≡ true
has_large NoEffect is = absurd (false≢true is)
has_large (Took asked request answer None) is = absurd (false≢true is)
has_large (Took asked request answer (Some handle)) is = refl
has_large (TookData bytes answer) is = absurd (false≢true is)

given_other : (t : Turn) (h : History) → is_taken t ≡ true → takes CHUNK_GET t ≡ false → given_of (t ∷ clear_turns h) ≡ 0
given_other t h taken other =
    ap (λ (b : Bool). cond (not b) (given_of (clear_turns h)) (cond (takes CHUNK_GET t) (given_of (clear_turns h) + 1) 0)) taken
    ∙ ap (λ (b : Bool). cond b (given_of (clear_turns h) + 1) 0) other

newest_turn : (tag : ℕ) (t : Turn) (h : History) → is_taken t ≡ true → takes CHUNK_GET t ≡ false → (b : Bool) → is_unseen_effect t.effect ≡ b → (b || is_some (handle_in t.effect)) ≡ true → (is_unseen_effect t.effect ≡ true) ⊎ IsWhole (Clear tag t no_draw ∷ h)
newest_turn tag t h taken other true un is = inl un
newest_turn tag t h taken other false un is = inr (ap (λ (o : Option (List ℕ)). is_some o) (large_other t (clear_turns h) taken other) ∙ has_large t.effect is, given_other t h taken other)

newest_shows : (h : History) → AllShow h → shows_large (response_of (kept_reply (kept_of h))) ≡ true → (repeats_large None h ≡ true) ⊎ IsWhole h
newest_shows [] all shows = absurd (false≢true shows)
newest_shows (Clear tag t d ∷ h) all shows = by_taken (is_taken t) refl (newest_shows h all.1)
  where
    by_taken : (b : Bool) → is_taken t ≡ b → (shows_large (response_of (kept_reply (kept_of h))) ≡ true → (repeats_large None h ≡ true) ⊎ IsWhole h) → (repeats_large None (Clear tag t d ∷ h) ≡ true) ⊎ IsWhole (Clear tag t d ∷ h)
    by_taken true taken older =
        let own : shows_large (response_of t.reply) ≡ true =
        sym (ap (λ (b : Bool). shows_large (response_of (kept_reply (cond b (Some (record { tag = tag; message = t.message; reply = t.reply })) (kept_of h))))) taken) ∙ shows in
        let is = all.0 own in
        elim (newest_turn tag t h taken is.other (is_unseen_effect t.effect) refl is.went) [
          | inl un ↦ inl (ap (λ (b : Bool). cond b (is_unseen_effect t.effect) (repeats_large None h)) taken ∙ un)
          | inr whole ↦ inr whole
        ]
    by_taken false refused older =
        let own : shows_large (response_of (kept_reply (kept_of h))) ≡ true =
        sym (ap (λ (b : Bool). shows_large (response_of (kept_reply (cond b (Some (record { tag = tag; message = t.message; reply = t.reply })) (kept_of h))))) refused) ∙ shows in
        elim (older own) [
          | inl un ↦ inl (ap (λ (b : Bool). cond b (is_unseen_effect t.effect) (repeats_large None h)) refused ∙ un)
          | inr whole ↦ inr (ap (λ (o : Option (List ℕ)). is_some o) (large_idle t (clear_turns h) refused) ∙ whole.0, given_idle t (clear_turns h) refused ∙ whole.1)
        ]
newest_shows (Sealed tag m t reply d ∷ h) all shows = newest_shows h all.1 shows
newest_shows (Queued bytes ∷ h) all shows = newest_shows h all.1 shows
newest_shows (Ticked seconds ∷ h) all shows = newest_shows h all.1 shows
newest_shows (Dropped id ∷ h) all shows = newest_shows h all.1 shows

still_by : (transfer n : ℕ) (o : Option (List ℕ)) → 12 < transfer → is_some o ≡ true → n ≡ 0 → is_some (still_pending transfer n o) ≡ true
still_by transfer n None wide some none = absurd (false≢true some)
still_by transfer n (Some whole) wide some none =
    ap (λ (k : ℕ). is_some (cond (nat_lt k (chunk_count transfer whole)) (Some whole) None)) none
    ∙ ap (λ (b : Bool). is_some (cond b (Some whole) None)) (ceil_some (length whole) (transfer - 12) (omega (arith, wide)))

-- While nothing is pending in the clear, a repeat of a request that got LargeResponse gets it again for an answer that was not
-- seen.
pub repeats_shown : (h : History) → AllShow h → 12 < (place_terms (clear_place h)).common.to_requester.transfer → has_pending (clear_place h) ≡ false → shows_large (response_of (kept_reply (kept_of h))) ≡ true → repeats_large None h ≡ true
repeats_shown h all wide idle shows = elim (newest_shows h all shows) [
  | inl un ↦ un
  | inr whole ↦
      absurd (false≢true (sym idle ∙ still_by (place_terms (clear_place h)).common.to_requester.transfer (given_of (clear_turns h)) (large_of (clear_turns h)) wide whole.0 whole.1))
]

-- Any entry that stands in it.
pub shows_at : (es : List Entry) (e : Entry) (h : History) → AllShow (es ++ e ∷ h) → ShowsIn e
shows_at [] e h all = all.0
shows_at (x ∷ es) e h all = shows_at es e h all.1
