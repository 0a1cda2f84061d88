-- What is kept of a large response whose fetch begins in a session.
use Rattle.std.proofs.Common.{◌≡◌, ◌<◌, ◌+◌, ◌*◌, ◌≤◌, ◌==◌, ◌&&◌, ℕ, zero, suc, List, ◌∷◌, [], refl, sym, ap, ◌∙◌, subst, drop, length, arith, Bool, true, false, Some, None, cond, eq-eqb, is_some}
use Rattle.std.specs.Int.{div_ceil}
use Rattle.std.specs.Prelude.{is_none, nat_lt, not, slice_index}
use Rattle.std.proofs.lemmas.Bool.{false≢true}
use Rattle.std.proofs.lemmas.Bool.Decides.{nat_tests}
use Rattle.std.proofs.lemmas.Grind.{div_ceil_times}
use Rattle.mctp_framing.specs.Cutting.{RouteFields}
use Rattle.spdm_basis.proofs.Bools.{and_first, and_second}
use Rattle.check_ends.proofs.InTurn.{AnswersInTurn}
use Rattle.check_responder.specs.AnswerKeys.{StandFor, will_take}
use Rattle.check_responder.specs.JudgedResponder.{IsAnswerer}
use Rattle.check_requester.specs.JudgedRequester.{Carries, IsAsker}
use Rattle.check_ends.specs.declared.party.Party.{Party}
use Rattle.check_laws.proofs.OneWalk.{walks_alike}
use Rattle.check_laws.specs.Keeping.{Kept, restored}
use Rattle.check_laws.specs.LargeShown.{IsShownLarge}
use Rattle.check_laws.specs.RepliesShown.{responder_for}
use Rattle.check_laws.specs.Rows as rows_of
use Rattle.chunking.specs.Cutting.{unit_of}
use Rattle.check_fetched_laws.proofs.VersionWalks.{walks_form}
use Rattle.check_fetched_laws.specs.JudgedFor.{session_with}
use Rattle.check_late_laws.specs.Fetching.{Fetching, number_of}
use Rattle.check_late_laws.specs.LargeAnswers.{StandsFor}
use Rattle.measurements.specs.Records.{is_missing}
use Rattle.requester_machine.specs.May.{IsSetUp}
use Rattle.requester_machine.specs.Setup.{ReqSetup}
use Rattle.responder_machine.specs.Answer.{request_at}
use Rattle.responder_machine.specs.History.{Entry, History, ended_of}
use Rattle.responder_machine.specs.History.Entry.{Sealed}
use Rattle.responder_machine.specs.Place.{place_terms, session_place}
use Rattle.responder_machine.specs.Records.{opened, opening_fault}
use Rattle.responder_machine.specs.Responder.{repeats}
use Rattle.responder_machine.specs.Refusal.{has_pending}
use Rattle.responder_machine.specs.Session.{Event, Events, after_record, id_in_record, is_live, last_of, session_of, session_terms, when_live}
use Rattle.responder_machine.specs.Session.Event.{Heard}
use Rattle.responder_machine.specs.Setup.{RspSetup, inventory_of}
use Rattle.spdm_grammar.specs.Message.RequestMessage.{GetMeasurements}
use Rattle.responder_machine.specs.Turn.{Turn, takes}
use Rattle.spdm_grammar.specs.declared.names.request_code.TheConstants.{END_SESSION}
use Rattle.spdm_machine.specs.Bodies.{record_body}
use Rattle.spdm_machine.specs.Keys.{Draw}
use Rattle.capture_machine.proofs.UnseenStands.{UnseenStand}
use Rattle.capture_machine.specs.LargeAnswers.{unseen, with_large}
use Rattle.capture_machine.specs.Rounds.{Dialogue}
use Rattle.capture_machine.specs.SessionTable.{Row, number_from}
use Rattle.world_machine.specs.Setup.{Configuration}
use Rattle.check_laws.specs.LargeShown.{whole_of}
use Rattle.check_fetched_laws.proofs.AnewSessions.{IsReady, live_ready}
use Rattle.check_fetched_ends.proofs.BeginsThere.{asks_one, at_is, begun, judged_is, next, none_came, stands}
use Rattle.check_fetched_laws.proofs.SeenKeys.{keys_unseen}
use Rattle.check_fetched_ends.specs.Fetched.{rows_upon}
use Rattle.check_fetched_ends.specs.InSession.{AreLengths, AsksFor, IsFetchedIn}
use Rattle.check_fetched_ends.specs.declared.session_fetch.in_session.InSession.{InSession}

-- Some chunk is to be given.
none_more : (n x unit : ℕ) → 0 < x → x ≤ n * unit → nat_lt 0 n ≡ true
none_more zero x unit some most = absurd (omega (arith, some, most))
none_more (suc n) x unit some most = grind (arith, nat_tests)

pub ceil_some : (x unit : ℕ) → 0 < unit → nat_lt 0 (div_ceil (x + 4) unit) ≡ true
ceil_some x unit some = let around = div_ceil_times (x + 4) unit some in none_more (div_ceil (x + 4) unit) (x + 4) unit (omega arith) around.0

live_behind : (s : Events) (e : Event) → is_live s ≡ true → when_live s e ≡ e ∷ s
live_behind [] e live = absurd (false≢true live)
live_behind (x ∷ s) e live = refl

pub behind_entry : (P : Events → Type 0) (n : ℕ) (m : List ℕ) (t : Turn) (reply : List ℕ) (tag : ℕ) (d : Draw) (h : History) → id_in_record m ≡ n → takes END_SESSION t ≡ false → is_live (session_of n h) ≡ true
    → P (Heard m t reply ∷ session_of n h) → P (session_of n (Sealed tag m t reply d ∷ h))
unfolding session_of
behind_entry P n m t reply tag d h here ends live is =
    subst (λ (b : Bool). P (cond b (after_record (session_of n h) m t reply) (session_of n h))) (sym (eq-eqb (id_in_record m) n here))
    (subst (λ (b : Bool). P (cond b [] (when_live (session_of n h) (Heard m t reply)))) (sym ends)
    (subst P (sym (live_behind (session_of n h) (Heard m t reply) live)) is))

module _ (w : Configuration) (q : ReqSetup) (older : List (List ℕ)) (k : Kept) (route : RouteFields) (answer : List ℕ) (byte : w.responder.beat < 256) (limits : IsSetUp k.setup) (carries : Carries w q older k) (turn : AnswersInTurn k route answer)
    (type : (slice_index turn.round.body 0 == 5) ≡ false) (will : will_take (responder_for w k) k.responder turn.round.body ≡ true) (large : IsShownLarge (responder_for w k) k.responder turn.round.tag turn.round.body answer) (op : ℕ)
    (asks : request_at (session_place (session_of (id_in_record (drop 1 turn.round.body)) k.responder)) (drop 1 (opened (responder_for w k).psk (session_of (id_in_record (drop 1 turn.round.body)) k.responder) (drop 1 turn.round.body))) ≡ Some (GetMeasurements op))
    (six : record_body (drop 1 turn.round.body) ≡ turn.round.body) (wide : 12 < (session_terms (session_of (id_in_record (drop 1 turn.round.body)) k.responder)).common.to_requester.transfer) where
  abbrev r : RspSetup
  r = responder_for w k

  abbrev h : History
  h = k.responder

  abbrev m : List ℕ
  m = drop 1 turn.round.body

  abbrev id : ℕ
  id = id_in_record (drop 1 turn.round.body)

  abbrev s : Events
  s = session_of id h

  abbrev e : Entry
  e = begun w q older k route answer byte limits carries turn type will large op asks

  abbrev f : Fetching
  f = next w q older k route answer byte limits carries turn type will large op asks

  pub none_behind : UnseenStand (unseen e ∷ h)
  none_behind =
      let d : Dialogue = record (restored k) { fetching = carries.0 } in
      (λ is. (refl, record { taken = refl; other = refl }), (walks_alike w q older d d carries.1 carries.1).one.unseen)

  live : is_live s ≡ true
  live =
      let fault : Bool = is_none (opening_fault (responder_for w k).psk s m) in
      let fresh : Bool = not (repeats (last_of s) m) in
      and_first (is_live s) fault (and_second fresh (is_live s && fault) (and_second (not (repeats (ended_of h) m)) (fresh && (is_live s && fault)) (and_second (not (slice_index turn.round.body 0 == 5)) (not (repeats (ended_of h) m) && (fresh && (is_live s && fault))) will)))

  judged : with_large (Some id) (whole_of e) (unseen e ∷ h) ≡ e ∷ h
  judged = judged_is w q older k route answer byte limits carries turn type will large op asks

  -- A chunk is left to be given there.
  pending_is : has_pending (session_place (session_with id (unseen e ∷ h) (whole_of e))) ≡ true
  pending_is =
      let unit : ℕ = unit_of (session_terms s).common.to_requester.transfer in
      let some : nat_lt 0 (div_ceil (length (whole_of e) + 4) unit) ≡ true = ceil_some (length (whole_of e)) unit (omega (arith, wide)) in
      ap (λ (l : History). has_pending (session_place (session_of id l))) judged
      ∙ behind_entry (λ (x : Events). has_pending (session_place x) ≡ true) id m _ _ _ _ h refl refl live (ap (λ (b : Bool). is_some (cond b (Some (whole_of e)) None)) some)

  sizes_are : (session_terms (session_with id (unseen e ∷ h) (whole_of e))).common ≡ (place_terms f.place).common
  sizes_are =
      ap (λ (l : History). (session_terms (session_of id l)).common) judged
      ∙ behind_entry (λ (x : Events). (session_terms x).common ≡ (session_terms s).common) id m _ _ _ _ h refl refl live refl

  -- GET_VERSION would be no repeat there.
  ready : IsReady w.responder.transfer h
  ready =
      let d : Dialogue = record (restored k) { fetching = carries.0 } in
      live_ready w.responder.transfer id h (walks_form w.responder.transfer w refl q older d carries.1) (walks_alike w q older d d carries.1 carries.1).one.unseen live

  -- What the calls leave stands for it.
  module _ (rows : List Row) (new : Party) (fetched : InSession) (asker : IsAsker new.asker q f.kept) (answerer : IsAnswerer new.answerer (responder_for w k) (e ∷ k.responder)) (keys : StandFor new.keys (responder_for w k) (e ∷ k.responder))
      (number : new.number ≡ number_from 1 q.eid w.requesters) (places : rows_of.StandFor new.places (restored f.kept) (rows_upon k f.kept rows)) (id_is : fetched.id ≡ id) (op_is : fetched.op ≡ op)
      (lengths : AreLengths (session_place s) fetched.least fetched.most) (came : (g : Fetching) → number_of g ≡ 0 → StandsFor fetched.answer g) (left : fetched.left ≡ true) (found : is_missing op (inventory_of (responder_for w k)) ≡ false) where
    pub begun_stands : IsFetchedIn new fetched w q f (rows_upon k f.kept rows)
    begun_stands = record {
      beside = record { asker = asker; keys = keys_unseen new.keys r id (whole_of e) (unseen e ∷ h) none_behind (subst (StandFor new.keys r) (sym judged) keys); number = number; places = places };
      at = at_is w q older k route answer byte limits carries turn type will large op asks ∙ ap Some (sym id_is);
      answer = came f (none_came w q older k route answer byte limits carries turn type will large op asks);
      lengths = lengths;
      asks = subst (λ (n : ℕ). AsksFor r n f.place fetched.op f.kept.responder) (sym id_is) (subst (λ (n : ℕ). AsksFor r id f.place n f.kept.responder) (sym op_is)
          (λ v fits. asks_one r h turn.round.tag turn.round.body answer type will large op asks byte six v fits));
      found = subst (λ (n : ℕ). is_missing n (inventory_of r) ≡ false) (sym op_is) found;
      whole = whole_of e;
      stands = stands w q older k route answer byte limits carries turn type will large op asks;
      judges = subst (λ (n : ℕ). IsAnswerer new.answerer r (with_large (Some n) (whole_of e) f.kept.responder)) (sym id_is) (subst (IsAnswerer new.answerer r) (sym judged) answerer);
      pending = subst (λ (n : ℕ). has_pending (session_place (session_with n f.kept.responder (whole_of e))) ≡ true) (sym id_is) pending_is ∙ sym left;
      uncounted = λ none live. absurd (false≢true (sym none ∙ left));
      sizes = λ some. subst (λ (n : ℕ). (session_terms (session_with n f.kept.responder (whole_of e))).common ≡ (place_terms f.place).common) (sym id_is) sizes_are;
      room = ready.room;
      anew = ready.anew;
    }
