-- In a walk no large response is pending in a session: what was not seen is not, and what was seen was given whole.
use Rattle.std.proofs.Common.{◌≡◌, ◌*◌, ◌+◌, ◌==◌, ◌||◌, ◌⊎◌, ◌∙◌, ℕ, List, [], ◌∷◌, refl, sym, ap, subst, drop, arith, Bool, true, false, Option, Some, None, Result, Ok, Err, is_some, cond, eq-eqb, eqb-true, inl, inr}
use Rattle.std.specs.Prelude.{MatchBool, nat_le, nat_lt, not, slice_index}
use Rattle.std.proofs.lemmas.Bool.{eqb-false, false≢true, not-true}
use Rattle.std.proofs.lemmas.Bool.Decides.{nat_tests}
use Rattle.check_laws.specs.Order.{is_answer, is_request}
use Rattle.check_laws.specs.Walks.{StepsBy, StepsTo, Walks}
use Rattle.chunking.specs.Cutting.{chunk_count}
use Rattle.check_late_laws.proofs.Late.SettledSessions.{IsSettled, settled_sessions}
use Rattle.check_laws.proofs.BegunAtLast.{settled}
use Rattle.check_laws.proofs.StepsOfWalks.{completes_since, walks_held}
use Rattle.check_late_laws.proofs.Late.SessionNewest.{again_leaves_others}
use Rattle.mctp_framing.specs.Gathering.{Gathered}
use Rattle.mctp_framing.specs.Gathering.Gathered.{Whole, More, Dropped as Lost}
use Rattle.mctp_framing.specs.Packet.{PacketFields, parsed}
use Rattle.requester_machine.specs.Setup.{ReqSetup}
use Rattle.responder_machine.specs.History.{Entry, History, clear_turns, negotiation_of}
use Rattle.responder_machine.specs.History.Entry.{Clear, Sealed, Queued, Ticked, Dropped}
use Rattle.responder_machine.specs.LargeMessages.{given_of, large_of, pending_of, still_pending}
use Rattle.responder_machine.specs.May.{with_dropped}
use Rattle.responder_machine.specs.Place.{session_place}
use Rattle.responder_machine.specs.Records.{opened}
use Rattle.responder_machine.specs.Refusal.{has_pending}
use Rattle.responder_machine.specs.Responder.{Outcome, after}
use Rattle.responder_machine.specs.Responder.Outcome.{Same, Unopened, Adds}
use Rattle.responder_machine.specs.Session.{Events, after_exchange, after_record, gives_id, id_in_record, idle_of, is_timed, period_of, session_of, session_terms, stage_of, turns_of, when_live}
use Rattle.responder_machine.specs.Session.Event.{Began, Heard, Waited}
use Rattle.responder_machine.specs.Setup.{RspSetup, towards}
use Rattle.responder_machine.specs.Turn.{Effect, Turn, answer_in, handle_in, is_taken, large_in, request_in, takes}
use Rattle.responder_machine.specs.Turn.Effect.{NoEffect, Took, TookData}
use Rattle.spdm_basis.proofs.Bools.{and_first, and_second}
use Rattle.spdm_basis.specs.declared.PacketFault.{PacketFault}
use Rattle.spdm_grammar.specs.declared.names.request_code.TheConstants.{CHUNK_GET, END_SESSION, GET_VERSION, PSK_EXCHANGE}
use Rattle.spdm_machine.specs.Packets.{gathered_from}
use Rattle.spdm_machine.specs.Sessions.{is_past_handshake}
use Rattle.transcript.specs.Transcripts.{Negotiation}
use Rattle.capture_machine.proofs.Fetching.{IsSound}
use Rattle.capture_machine.proofs.PlacesServed.{named_clear, named_session}
use Rattle.capture_machine.proofs.PlainTells.{led_record}
use Rattle.capture_machine.proofs.RecordAdds.{record_added}
use Rattle.capture_machine.proofs.SmallGets.{gets_are_small}
use Rattle.capture_machine.specs.Capture.{AsksBy, RepliesBy}
use Rattle.capture_machine.specs.CapturedAnswers.{Answers, AreShown, Completes, MayHaveLed, MayLeadTo, MayLeadToEntry, is_plain, request_in as asked_body}
use Rattle.capture_machine.specs.LargeAnswers.{begun_with, dropped_before_large, effect_with, gives_last, is_in, is_large, is_unseen_in, is_untouched, judging, place_named, seen, unseen, with_large}
use Rattle.capture_machine.specs.Rounds.{Dialogue, Round}
use Rattle.world_machine.specs.Setup.{Configuration, known_of}

-- ---- The turns of a session.

-- Nothing is pending in it.
abbrev pub QuietAt : Events → Type 0
QuietAt s = has_pending (session_place s) ≡ false

pub not_large : (x : Effect) → is_some (handle_in x) ≡ false → large_in x ≡ None
not_large NoEffect small = refl
not_large (Took a m answer None) small = refl
not_large (Took a m answer (Some handle)) small = absurd (false≢true (sym small))
not_large (TookData bytes answer) small = refl

-- With one chunk more no more is pending.
pub more_given : (transfer n : ℕ) (o : Option (List ℕ)) → is_some (still_pending transfer n o) ≡ false → is_some (still_pending transfer (n + 1) o) ≡ false
more_given transfer n None none = refl
more_given transfer n (Some w) none = by_test (nat_lt n (chunk_count transfer w)) (nat_lt (n + 1) (chunk_count transfer w)) refl refl none
  where
    by_test : (a b : Bool) → nat_lt n (chunk_count transfer w) ≡ a → nat_lt (n + 1) (chunk_count transfer w) ≡ b → is_some (cond a (Some w) None) ≡ false → is_some (cond b (Some w) None) ≡ false
    by_test true b is next none = absurd (false≢true (sym none))
    by_test false false is next none = refl
    by_test false true is next none = absurd (false≢true (sym is ∙ less n (chunk_count transfer w) next))
      where
        less : (a c : ℕ) → nat_lt (a + 1) c ≡ true → nat_lt a c ≡ true
        less a c h = grind (arith, nat_tests)

turn_quiet : (transfer : ℕ) (t : Turn) (ts : List Turn) → is_some (handle_in t.effect) ≡ false → is_some (pending_of transfer ts) ≡ false → is_some (pending_of transfer (t ∷ ts)) ≡ false
turn_quiet transfer t ts small quiet = by_parts (is_taken t) (takes CHUNK_GET t)
  where
    by_parts : (taken gets : Bool) → is_some (still_pending transfer (cond (not taken) (given_of ts) (cond gets (given_of ts + 1) 0)) (cond (not taken || gets) (large_of ts) (large_in t.effect))) ≡ false
    by_parts false gets = quiet
    by_parts true true = more_given transfer (given_of ts) (large_of ts) quiet
    by_parts true false = ap (λ (o : Option (List ℕ)). is_some (still_pending transfer 0 o)) (not_large t.effect small)

quiet_without : (s : Events) → turns_of s ≡ [] → QuietAt s
quiet_without s none = ap (λ (l : List Turn). is_some (pending_of (session_terms s).common.to_requester.transfer l)) none

heard_quiet : (s : Events) (m : List ℕ) (t : Turn) (reply : List ℕ) → is_some (handle_in t.effect) ≡ false → QuietAt s → QuietAt (when_live s (Heard m t reply))
heard_quiet [] m t reply small quiet = refl
heard_quiet (x ∷ xs) m t reply small quiet = turn_quiet (session_terms (x ∷ xs)).common.to_requester.transfer t (turns_of (x ∷ xs)) small quiet

pick_quiet : (b : Bool) (s u : Events) → QuietAt s → QuietAt u → QuietAt (cond b s u)
pick_quiet true s u one other = one
pick_quiet false s u one other = other

-- ---- An entry.

entry_quiet : (id : ℕ) (e : Entry) (h : History) → is_large e ≡ false → QuietAt (session_of id h) → QuietAt (session_of id (e ∷ h))
unfolding session_of
entry_quiet id (Clear tag t d) h small quiet =
    let s : Events = session_of id h in
    let n : Negotiation = negotiation_of (clear_turns h) in
    let past : Events = cond (is_past_handshake (stage_of s)) s [] in
    let new : Events = Began n (request_in t.effect) (answer_in t.effect) ∷ [] in
    let others : Events = cond (gives_id id (answer_in t.effect)) new past in
    pick_quiet (takes GET_VERSION t) [] (cond (takes PSK_EXCHANGE t) others s) refl
    (pick_quiet (takes PSK_EXCHANGE t) others s (pick_quiet (gives_id id (answer_in t.effect)) new past refl (pick_quiet (is_past_handshake (stage_of s)) s [] quiet refl)) quiet)
entry_quiet id (Sealed tag m t reply d) h small quiet =
    let s : Events = session_of id h in
    pick_quiet (id_in_record m == id) (after_record s m t reply) s (pick_quiet (takes END_SESSION t) [] (when_live s (Heard m t reply)) refl (heard_quiet s m t reply small quiet)) quiet
entry_quiet id (Queued bytes) h small quiet = quiet
entry_quiet id (Ticked seconds) h small quiet =
    let s : Events = session_of id h in
    let gone : Bool = nat_le (2 * period_of s) (idle_of s + seconds) in
    pick_quiet (not (is_timed s)) s (cond gone [] (Waited seconds ∷ s)) quiet (pick_quiet gone [] (Waited seconds ∷ s) refl quiet)
entry_quiet id (Dropped which) h small quiet = pick_quiet (which == id) [] (session_of id h) refl quiet

-- ---- A history.

abbrev QuietIn : History → Type 0
QuietIn h = (id : ℕ) → QuietAt (session_of id h)

none_quiet : QuietIn []
unfolding session_of
none_quiet id = refl

adds_quiet : (e : Entry) (h : History) → is_large e ≡ false → QuietIn h → QuietIn (e ∷ h)
adds_quiet e h small quiet = λ id. entry_quiet id e h small (quiet id)

dropped_quiet : (ids : List ℕ) (h : History) → QuietIn h → QuietIn (with_dropped h ids)
dropped_quiet [] h quiet = quiet
dropped_quiet (id ∷ ids) h quiet = dropped_quiet ids (Dropped id ∷ h) (adds_quiet (Dropped id) h refl quiet)

pub none_handled : (x : Effect) → is_some (handle_in (effect_with [] None x)) ≡ false
none_handled NoEffect = refl
none_handled (Took a m answer large) = refl
none_handled (TookData bytes answer) = refl

unseen_small : (e : Entry) → is_large (unseen e) ≡ false
unseen_small (Clear tag t d) = none_handled t.effect
unseen_small (Sealed tag m t reply d) = none_handled t.effect
unseen_small (Queued bytes) = refl
unseen_small (Ticked seconds) = refl
unseen_small (Dropped id) = refl

after_quiet : (g h : History) (o : Outcome) → is_plain g o ≡ true → QuietIn h → QuietIn (after h o)
after_quiet g h (Same b) plain quiet = quiet
after_quiet g h (Unopened b) plain quiet = quiet
after_quiet g h (Adds e) plain quiet = adds_quiet e h (not-true (is_large e) (and_first _ _ plain)) quiet

-- ---- The last chunk in the clear.

module _ (r : RspSetup) (d : Dialogue) (round : Round) (answer : List ℕ) (next : History) (c : Completes r d round answer next) (quiet : QuietIn d.responder) where
  abbrev h : History
  h = d.responder

  small : is_large c.2 ≡ false
  small = gets_are_small r (judging d.fetching round.body d.responder) round.tag round.body c.2 c.4 (and_first _ _ c.5)

  by_settled : (id : ℕ) (o : Option ℕ) (new : Events) → IsSettled id o new (session_of id d.responder) → QuietAt new
  by_settled id o new (inl same) = subst QuietAt (sym same) (quiet id)
  by_settled id o new (inr begins) = quiet_without new begins.0

  clear_completes : IsSound d → d.round ≡ Some round → (slice_index round.body 0 == 5) ≡ true → QuietIn next
  clear_completes sound at type =
      let named : place_named round.body ≡ None = named_clear round.body type in
      let since = completes_since r d round answer next sound at c named in
      let led = subst (λ (p : Option ℕ). MayHaveLed r p c.0 c.1 h) named c.6 in
      let untouched = subst (λ (p : Option ℕ). is_untouched p (begun_with p c.0 h) h ≡ true) named c.9 in
      let behind : next ≡ c.2 ∷ settled None c.0 c.1 h = c.8 ∙ ap (λ (p : Option ℕ). c.2 ∷ settled p c.0 c.1 h) named in
      subst QuietIn (sym behind)
      (λ id. entry_quiet id c.2 (settled None c.0 c.1 h) small (by_settled id (begun_with None c.0 h) (session_of id (settled None c.0 c.1 h)) (settled_sessions r c.0 c.1 id h since led untouched)))

-- ---- The last chunk in a session.

-- None was dropped before its request.
sealed_none : (r : RspSetup) (w : List ℕ) (h : History) (id : ℕ) (e : Entry) (ids : List ℕ) → is_unseen_in (Some id) e ≡ true → AreShown r h (asked_body (seen w e)) (Adds (seen w e)) ids → ids ≡ []
sealed_none r w h id (Sealed tag m t reply d) [] is shown = refl
sealed_none r w h id (Sealed tag m t reply d) (k ∷ []) is shown = absurd (false≢true shown)
sealed_none r w h id (Sealed tag m t reply d) (k ∷ j ∷ js) is shown = absurd shown
sealed_none r w h id (Clear tag t d) ids is shown = absurd (false≢true is)
sealed_none r w h id (Queued bytes) ids is shown = absurd (false≢true is)
sealed_none r w h id (Ticked seconds) ids is shown = absurd (false≢true is)
sealed_none r w h id (Dropped which) ids is shown = absurd (false≢true is)

pub none_dropped : (r : RspSetup) (id : ℕ) (w ids : List ℕ) (h : History) → MayHaveLed r (Some id) w ids h → ids ≡ []
none_dropped r id w ids [] led = absurd led
none_dropped r id w ids (e ∷ h) led = by_unseen (is_unseen_in (Some id) e) refl led (none_dropped r id w ids h)
  where
    by_unseen : (b : Bool) → is_unseen_in (Some id) e ≡ b → MatchBool b (MayLeadToEntry r ids h (seen w e)) (MayHaveLed r (Some id) w ids h) → (MayHaveLed r (Some id) w ids h → ids ≡ []) → ids ≡ []
    by_unseen true is led rest = sealed_none r w h id e ids is led.1
    by_unseen false is led rest = rest led

before_step : (b : Bool) (id : ℕ) (e : Entry) (h : History) → dropped_before_large (Some id) [] h ≡ h → cond b (e ∷ h) (e ∷ dropped_before_large (Some id) [] h) ≡ e ∷ h
before_step true id e h rest = refl
before_step false id e h rest = ap (λ (l : History). e ∷ l) rest

before_none : (id : ℕ) (h : History) → dropped_before_large (Some id) [] h ≡ h
before_none id [] = refl
before_none id (e ∷ h) = before_step (is_unseen_in (Some id) e) id e h (before_none id h)

last_quiet : (id : ℕ) (e : Entry) (g : History) → is_in (Some id) e ≡ true → gives_last g e ≡ true → QuietAt (session_of id (e ∷ g))
last_quiet id (Sealed tag m t reply d) g is last =
    subst (λ (n : ℕ). QuietAt (session_of n (Sealed tag m t reply d ∷ g))) (eqb-true (id_in_record m) id is) (not-true _ (and_second (takes CHUNK_GET t) _ last))
last_quiet id (Clear tag t d) g is last = absurd (false≢true is)
last_quiet id (Queued bytes) g is last = absurd (false≢true is)
last_quiet id (Ticked seconds) g is last = absurd (false≢true is)
last_quiet id (Dropped which) g is last = absurd (false≢true is)

module _ (r : RspSetup) (d : Dialogue) (round : Round) (answer : List ℕ) (next : History) (c : Completes r d round answer next) (quiet : QuietIn d.responder) (type : (slice_index round.body 0 == 5) ≡ false) where
  abbrev id : ℕ
  id = id_in_record (drop 1 round.body)

  abbrev g : History
  g = with_large (Some (id_in_record (drop 1 round.body))) c.0 d.responder

  named : place_named round.body ≡ Some id
  named = named_session round.body type

  judged : judging d.fetching round.body d.responder ≡ g
  judged = ap (λ (o : Option (List ℕ)). judging o round.body d.responder) c.3 ∙ ap (λ (p : Option ℕ). with_large p c.0 d.responder) named

  may : MayLeadTo r g round.tag round.body (Adds c.2)
  may = subst (λ (l : History). MayLeadTo r l round.tag round.body (Adds c.2)) judged c.4

  last : gives_last g c.2 ≡ true
  last = subst (λ (l : History). gives_last l c.2 ≡ true) judged c.5

  -- The chunk came in this session.
  mine : is_in (Some id) c.2 ≡ true
  mine =
      let led = led_record r g round.tag round.body (Adds c.2) type may in
      subst (λ (e : Entry). is_in (Some id) e ≡ true) (record_added r led.free round.tag (drop 1 round.body) c.2 g led.leads) (eq-eqb id id refl)

  behind : next ≡ c.2 ∷ g
  behind =
      c.8 ∙ ap (λ (p : Option ℕ). c.2 ∷ settled p c.0 c.1 d.responder) named
      ∙ ap (λ (ids : List ℕ). c.2 ∷ settled (Some id) c.0 ids d.responder) (none_dropped r id c.0 c.1 d.responder (subst (λ (p : Option ℕ). MayHaveLed r p c.0 c.1 d.responder) named c.6))
      ∙ ap (λ (l : History). c.2 ∷ with_large (Some id) c.0 l) (before_none id d.responder)

  by_id : (other : ℕ) (b : Bool) → (other == id) ≡ b → QuietAt (session_of other (c.2 ∷ g))
  by_id other true is = subst (λ (n : ℕ). QuietAt (session_of n (c.2 ∷ g))) (sym (eqb-true other id is)) (last_quiet id c.2 g mine last)
  by_id other false is =
      entry_quiet other c.2 g (gets_are_small r g round.tag round.body c.2 may (and_first _ _ last))
      (subst QuietAt (sym (again_leaves_others d id other c.0 (eqb-false other id is)).0) (quiet other))

  session_completes : QuietIn next
  session_completes = subst QuietIn (sym behind) (λ other. by_id other (other == id) refl)

-- ---- An answer.

completes_quiet : (r : RspSetup) (d : Dialogue) (round : Round) (answer : List ℕ) (next : History) → IsSound d → d.round ≡ Some round → Completes r d round answer next → QuietIn d.responder → QuietIn next
completes_quiet r d round answer next sound at c quiet = by_type (slice_index round.body 0 == 5) refl
  where
    by_type : (b : Bool) → (slice_index round.body 0 == 5) ≡ b → QuietIn next
    by_type true is = clear_completes r d round answer next c quiet sound at is
    by_type false is = session_completes r d round answer next c quiet is

answers_quiet : (r : RspSetup) (d : Dialogue) (round : Round) (answer : List ℕ) (next : History) (fetching : Option (List ℕ)) → IsSound d → d.round ≡ Some round → Answers r d round answer next fetching → QuietIn d.responder → QuietIn next
unfolding Answers
answers_quiet r d round answer next fetching sound at (inl a) quiet =
    subst QuietIn (sym a.0.6) (after_quiet (judging d.fetching round.body d.responder) (with_dropped d.responder a.0.0) a.0.1 a.0.4 (dropped_quiet a.0.0 d.responder quiet))
answers_quiet r d round answer next fetching sound at (inr (inl a)) quiet = subst QuietIn (sym a.1.6) (adds_quiet (unseen a.1.1) d.responder (unseen_small a.1.1) quiet)
answers_quiet r d round answer next fetching sound at (inr (inr (inl a))) quiet = subst QuietIn (sym a.1.4) quiet
answers_quiet r d round answer next fetching sound at (inr (inr (inr a))) quiet = completes_quiet r d round answer next sound at a.0 quiet

-- ---- A walk.

asks_quiet : (d : Dialogue) (g : Gathered) (next : Dialogue) → QuietIn d.responder → AsksBy d g next → QuietIn next.responder
asks_quiet d (Whole route body) next quiet asks = elim asks.2 [
  | inl copies ↦ subst QuietIn (sym (ap (λ (x : Dialogue). x.responder) copies.4)) quiet
  | inr begins ↦ subst QuietIn (sym (ap (λ (x : Dialogue). x.responder) begins.2.3)) quiet
]
asks_quiet d More next quiet asks = subst (λ (x : Dialogue). QuietIn x.responder) (sym asks) quiet
asks_quiet d (Lost cause) next quiet asks = absurd asks

replies_quiet : (w : Configuration) (d : Dialogue) (g : Gathered) (next : Dialogue) → IsSound d → QuietIn d.responder → RepliesBy w d g next → QuietIn next.responder
replies_quiet w d (Whole route body) next sound quiet replies =
    let c = replies.2 in
    subst QuietIn (sym (ap (λ (x : Dialogue). x.responder) c.4.3.2)) (answers_quiet (towards w.responder (known_of d.setup)) d c.0 body c.4.0 c.4.1 sound c.1 c.4.2 quiet)
replies_quiet w d More next sound quiet replies = subst (λ (x : Dialogue). QuietIn x.responder) (sym replies) quiet
replies_quiet w d (Lost cause) next sound quiet replies = absurd replies

step_quiet : (w : Configuration) (eid : ℕ) (older : List (List ℕ)) (d next : Dialogue) (r : Result PacketFields PacketFault) → IsSound d → QuietIn d.responder → StepsBy w eid older d next r → QuietIn next.responder
step_quiet w eid older d next (Err fault) sound quiet step = subst (λ (x : Dialogue). QuietIn x.responder) (sym step) quiet
step_quiet w eid older d next (Ok p) sound quiet step = by_ends (is_request w.responder.eid eid p) (is_answer w.responder.eid eid p) step
  where
    by_ends : (b c : Bool) → MatchBool b (AsksBy d (gathered_from w.responder.eid eid older p) next) (MatchBool c (RepliesBy w d (gathered_from eid w.responder.eid older p) next) (next ≡ d)) → QuietIn next.responder
    by_ends true c asks = asks_quiet d (gathered_from w.responder.eid eid older p) next quiet asks
    by_ends false true replies = replies_quiet w d (gathered_from eid w.responder.eid older p) next sound quiet replies
    by_ends false false same = subst (λ (x : Dialogue). QuietIn x.responder) (sym same) quiet

pub none_pends_in_session : (w : Configuration) (q : ReqSetup) (older : List (List ℕ)) (d : Dialogue) → Walks w q older d → (id : ℕ) → has_pending (session_place (session_of id d.responder)) ≡ false
unfolding StepsTo
none_pends_in_session w q [] d walk = subst (λ (x : Dialogue). QuietIn x.responder) (sym walk) none_quiet
none_pends_in_session w q (packet ∷ older) d walk =
    step_quiet w q.eid older walk.0 d (parsed packet) (walks_held w q older walk.0 walk.1).sound (none_pends_in_session w q older walk.0 walk.1) walk.2
