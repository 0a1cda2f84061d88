-- LargeResponse in answer to a record, in response to which the requester asks for no chunk: what is kept after it.
use Rattle.std.proofs.Common.{◌≡◌, ◌<◌, ◌+◌, ◌==◌, ◌&&◌, ℕ, List, [], ◌∷◌, refl, sym, ap, ◌∙◌, subst, drop, length, Bool, true, false, Ok, Some, None, cond, eq-eqb, is_some, not, inr}
use Rattle.std.specs.Prelude.{is_none, slice_index}
use Rattle.std.proofs.lemmas.Bool.{false≢true}
use Rattle.mctp_framing.specs.Cutting.{RouteFields}
use Rattle.mctp_framing.specs.Gathering.Gathered.{Whole}
use Rattle.spdm_basis.proofs.Bools.{and_first, and_second}
use Rattle.check_ends.proofs.InTurn.{AnswersInTurn}
use Rattle.check_responder.specs.AnswerKeys.{StandFor, will_take}
use Rattle.check_responder.specs.JudgedResponder.{IsAnswerer}
use Rattle.check_requester.specs.JudgedRequester.{Carries, IsAsker}
use Rattle.check_requester.specs.HeardKept.{asks_upon, heard_kept}
use Rattle.check_ends.specs.Party.{StandBehind}
use Rattle.check_ends.specs.PartyReplies.{IsReplied}
use Rattle.check_ends.specs.declared.continuation.Continuation.TheVariants as onward
use Rattle.check_ends.specs.declared.party.Party.{Party}
use Rattle.check_laws.proofs.RepliesTold.{replies_are_told}
use Rattle.check_laws.specs.Keeping.{Keeps, Kept, RepliesKept, restored}
use Rattle.check_laws.specs.LargeShown.{IsShownLarge, begun_large, large_shown, whole_of}
use Rattle.check_laws.specs.RepliesShown.{responder_for}
use Rattle.check_laws.specs.RepliesTold.{begun as begun_kept}
use Rattle.check_laws.specs.Rows as rows_of
use Rattle.check_laws.specs.declared.verdict.Seen.{Seen}
use Rattle.responder_core.specs.Pending.{history_unseen, passes}
use Rattle.responder_rules.specs.LargeAnswer.{last_takes, turn_unseen}
use Rattle.requester_machine.specs.May.{IsSetUp}
use Rattle.requester_machine.specs.Setup.{ReqSetup}
use Rattle.responder_machine.specs.Answer.{request_at}
use Rattle.responder_machine.specs.History.{Entry, History, ended_of}
use Rattle.responder_machine.specs.History.Entry.{Clear, Sealed, Queued, Ticked, Dropped}
use Rattle.responder_machine.specs.LargeMessages.{large_of}
use Rattle.responder_machine.specs.Place.{session_place}
use Rattle.responder_machine.specs.Records.{opened, opening_fault}
use Rattle.responder_machine.specs.Responder.{repeats}
use Rattle.responder_machine.specs.Session.{Event, Events, after_record, id_in_record, is_live, last_of, session_of, session_terms, turns_of, when_live}
use Rattle.responder_machine.specs.Session.Event.{Heard}
use Rattle.responder_machine.specs.Setup.{RspSetup}
use Rattle.responder_machine.specs.Turn.{Turn, takes}
use Rattle.spdm_grammar.specs.Message.RequestMessage.{GetMeasurements}
use Rattle.spdm_grammar.specs.declared.names.request_code.TheConstants.{END_SESSION, GET_MEASUREMENTS}
use Rattle.spdm_machine.specs.Bodies.{record_body}
use Rattle.spdm_machine.specs.Keys.{Draw}
use Rattle.capture_machine.specs.LargeAnswers.{turn_with, unseen, with_large}
use Rattle.capture_machine.specs.SessionTable.{Row, number_from}
use Rattle.world_machine.specs.Setup.{Configuration}
use Rattle.check_late_laws.specs.Fetching.{Fetching}
use Rattle.check_fetched_ends.proofs.BeginsThere.{begun, judged_is, next, shown_is}
use Rattle.check_fetched_ends.proofs.BegunStands.{none_behind}
use Rattle.check_fetched_laws.proofs.SeenKeys.{keys_unseen}
use Rattle.check_fetched_ends.specs.Fetched.{rows_upon}

-- ---- The newest record of a session.

live_behind : (s : Events) (e : Event) → is_live s ≡ true → when_live s e ≡ e ∷ s
live_behind [] e live = absurd (false≢true live)
live_behind (x ∷ s) e live = refl

behind_entry : (P : Events → Type 0) (n : ℕ) (m : List ℕ) (t : Turn) (reply : List ℕ) (tag : ℕ) (d : Draw) (h : History) → id_in_record m ≡ n → takes END_SESSION t ≡ false → is_live (session_of n h) ≡ true
    → P (Heard m t reply ∷ session_of n h) → P (session_of n (Sealed tag m t reply d ∷ h))
unfolding session_of
behind_entry P n m t reply tag d h here ends live is =
    subst (λ (b : Bool). P (cond b (after_record (session_of n h) m t reply) (session_of n h))) (sym (eq-eqb (id_in_record m) n here))
    (subst (λ (b : Bool). P (cond b [] (when_live (session_of n h) (Heard m t reply)))) (sym ends)
    (subst P (sym (live_behind (session_of n h) (Heard m t reply) live)) is))

-- Its large response was never seen.
unseen_there : (n tag : ℕ) (m : List ℕ) (t : Turn) (reply : List ℕ) (d : Draw) (h : History) → id_in_record m ≡ n → passes t ≡ false → turn_unseen t ≡ turn_with [] None t
    → history_unseen n (Sealed tag m t reply d ∷ h) ≡ unseen (Sealed tag m t reply d) ∷ h
unseen_there n tag m t reply d h here none same =
    let older : History = Sealed tag m t reply d ∷ history_unseen n h in
    ap (λ (b : Bool). cond (b && not (passes t)) (Sealed tag m (turn_unseen t) reply d ∷ h) older) (eq-eqb (id_in_record m) n here)
    ∙ ap (λ (b : Bool). cond (not b) (Sealed tag m (turn_unseen t) reply d ∷ h) older) none ∙ ap (λ (x : Turn). Sealed tag m x reply d ∷ h) same

-- The same of an entry that is such a record.
abbrev IsNewest : ℕ → Entry → Type 0
IsNewest n (Sealed tag m t reply d) = (id_in_record m ≡ n) × (passes t ≡ false) × (turn_unseen t ≡ turn_with [] None t)
IsNewest n _ = ⊥

pub unseen_newest : (n : ℕ) (x : Entry) (h : History) → IsNewest n x → history_unseen n (x ∷ h) ≡ unseen x ∷ h
unseen_newest n (Sealed tag m t reply d) h is = unseen_there n tag m t reply d h is.0 is.1 is.2
unseen_newest n (Clear tag t d) h is = absurd is
unseen_newest n (Queued bytes) h is = absurd is
unseen_newest n (Ticked seconds) h is = absurd is
unseen_newest n (Dropped id) h is = absurd is

module _ (w : Configuration) (q : ReqSetup) (older : List (List ℕ)) (k : Kept) (route : RouteFields) (answer : List ℕ) (byte : w.responder.beat < 256) (limits : IsSetUp k.setup) (carries : Carries w q older k) (turn : AnswersInTurn k route answer)
    (type : (slice_index turn.round.body 0 == 5) ≡ false) (will : will_take (responder_for w k) k.responder turn.round.body ≡ true) (large : IsShownLarge (responder_for w k) k.responder turn.round.tag turn.round.body answer) (op : ℕ)
    (asks : request_at (session_place (session_of (id_in_record (drop 1 turn.round.body)) k.responder)) (drop 1 (opened (responder_for w k).psk (session_of (id_in_record (drop 1 turn.round.body)) k.responder) (drop 1 turn.round.body))) ≡ Some (GetMeasurements op))
    (six : record_body (drop 1 turn.round.body) ≡ turn.round.body) (wide : 12 < (session_terms (session_of (id_in_record (drop 1 turn.round.body)) k.responder)).common.to_requester.transfer) where
  abbrev r : RspSetup
  r = responder_for w k

  abbrev h : History
  h = k.responder

  abbrev m : List ℕ
  m = drop 1 turn.round.body

  abbrev id : ℕ
  id = id_in_record (drop 1 turn.round.body)

  abbrev s : Events
  s = session_of id h

  abbrev e : Entry
  e = begun w q older k route answer byte limits carries turn type will large op asks

  abbrev f : Fetching
  f = next w q older k route answer byte limits carries turn type will large op asks

  live : is_live s ≡ true
  live =
      let fault : Bool = is_none (opening_fault (responder_for w k).psk s m) in
      let fresh : Bool = not (repeats (last_of s) m) in
      and_first (is_live s) fault (and_second fresh (is_live s && fault) (and_second (not (repeats (ended_of h) m)) (fresh && (is_live s && fault)) (and_second (not (slice_index turn.round.body 0 == 5)) (not (repeats (ended_of h) m) && (fresh && (is_live s && fault))) will)))

  judged : with_large (Some id) (whole_of e) (unseen e ∷ h) ≡ e ∷ h
  judged = judged_is w q older k route answer byte limits carries turn type will large op asks

  -- ---- What is asked of the connection, to forget the answer.

  pub large_there : (n : ℕ) → n ≡ id → is_some (large_of (turns_of (session_of n (e ∷ h)))) ≡ true
  large_there n is =
      subst (λ (i : ℕ). is_some (large_of (turns_of (session_of i (e ∷ h)))) ≡ true) (sym is)
      (behind_entry (λ (x : Events). is_some (large_of (turns_of x)) ≡ true) id m _ _ _ _ h refl refl live refl)

  pub measures_there : (n : ℕ) → n ≡ id → last_takes GET_MEASUREMENTS (turns_of (session_of n (e ∷ h))) ≡ true
  measures_there n is =
      subst (λ (i : ℕ). last_takes GET_MEASUREMENTS (turns_of (session_of i (e ∷ h))) ≡ true) (sym is)
      (behind_entry (λ (x : Events). last_takes GET_MEASUREMENTS (turns_of x) ≡ true) id m _ _ _ _ h refl refl live refl)

  pub forgot : (n : ℕ) → n ≡ id → history_unseen n (e ∷ h) ≡ unseen e ∷ h
  forgot n is = unseen_newest n e h (sym is, refl, refl)

  -- ---- What is kept.

  pub unfetched_replies : Keeps w q older k → asks_upon k route.tag answer ≡ false → RepliesKept w k (Whole route answer) f.kept
  unfetched_replies keeps idle =
      let is : unseen e ∷ h ≡ begun_large h (large_shown r h turn.round.tag turn.round.body answer) =
      sym (ap (begun_large h) (shown_is r h turn.round.tag turn.round.body answer type will large op asks)) in
      let kept : f.kept ≡ begun_kept w k route.tag turn.round answer = ap (λ (l : History). heard_kept k l route.tag turn.round answer) is in
      (replies_are_told w q older k f.kept (Whole route answer) byte limits keeps).1 (inr (turn.body, turn.owner, (turn.round, turn.answers, large, idle, kept)))

  module _ (rows : List Row) (new : Party) (table : List Seen) (keeps : Keeps w q older k) (idle : asks_upon k route.tag answer ≡ false) (asker : IsAsker new.asker q f.kept) (answerer : IsAnswerer new.answerer (responder_for w k) (unseen e ∷ k.responder))
      (keys : StandFor new.keys (responder_for w k) (e ∷ k.responder)) (number : new.number ≡ number_from 1 q.eid w.requesters) (places : rows_of.StandFor new.places (restored f.kept) (rows_upon k f.kept rows))
      (stands : rows_of.StandsForRows table w (length older + 1) (rows_upon k f.kept rows)) where
    pub goes_unfetched : IsReplied w q older rows k route answer (Ok onward.Kept) new table
    goes_unfetched =
        let none = none_behind w q older k route answer byte limits carries turn type will large op asks six wide in (
          f.kept,
          unfetched_replies keeps idle,
          record {
            party = record { asker = asker; answerer = answerer; keys = keys_unseen new.keys r id (whole_of e) (unseen e ∷ h) none (subst (StandFor new.keys r) (sym judged) keys); number = number; places = places };
            stands = stands;
          },
        )
