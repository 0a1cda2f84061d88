-- LargeResponse in the clear, in response to which the requester asks for a chunk: what is kept of the large response
-- that is fetched from then on.
use Rattle.std.proofs.Common.{◌≡◌, ◌≤◌, ◌<◌, ◌+◌, ◌==◌, ◌&&◌, ◌↔◌, ℕ, List, [], ◌∷◌, ◌++◌, refl, sym, ap, ◌∙◌, subst, drop, take, length, arith, Bool, true, false, Option, Some, None, is_some, cond, inl, inr}
use Rattle.std.specs.Prelude.{nat_lt, slice_index}
use Rattle.std.proofs.lemmas.Slice.Eq.{bytes_eq-Decides}
use Rattle.spdm_basis.proofs.Bools.{and_second}
use Rattle.mctp_framing.specs.Cutting.{RouteFields}
use Rattle.mctp_framing.specs.Gathering.Gathered.{Whole}
use Rattle.check_ends.proofs.InTurn.{AnswersInTurn}
use Rattle.check_requester.specs.JudgedRequester.{Carries}
use Rattle.check_requester.specs.HeardKept.{asks_upon, heard_kept}
use Rattle.check_laws.proofs.LargeShown.{large_is_shown}
use Rattle.check_laws.specs.Keeping.{Kept, restored}
use Rattle.check_laws.specs.LargeShown.{IsShownLarge, begun_large, large_shown}
use Rattle.check_laws.specs.RepliesShown.{responder_for}
use Rattle.check_fetched_laws.proofs.LargeSized.{large_is_sized}
use Rattle.check_fetched_laws.proofs.LargeTurns.{large_is_unseen}
use Rattle.check_fetched_laws.specs.ClearSessions.{IsUnseenRequest}
use Rattle.responder_core.proofs.Whole.{turn_short}
use Rattle.check_fetched_ends.proofs.HeardOn.{heard_on}
use Rattle.check_fetched_ends.proofs.HeldNever.{clear_shape}
use Rattle.check_fetched_ends.proofs.HeldTurns.{IsLargeTurn, large_turn}
use Rattle.check_fetched_ends.specs.Held.{IsLedTo}
use Rattle.spdm_grammar.specs.declared.names.TheConstants.{MAX_MESSAGE_SIZE}
use Rattle.check_late_laws.specs.Fetching.{Fetching, MayStand, HasSize, answer_by, bytes_given, bytes_in, gives_in, number_given, number_of, size_in, size_told}
use Rattle.check_late_laws.specs.FetchingLaws.{BeginsFetching, place_in}
use Rattle.requester_machine.specs.May.{IsSetUp}
use Rattle.requester_machine.specs.Setup.{ReqSetup}
use Rattle.responder_machine.specs.Handling.{turn_of}
use Rattle.responder_machine.specs.History.{Entry, History, clear_turns, kept_of, phase_of}
use Rattle.responder_machine.specs.History.Entry.{Clear}
use Rattle.responder_machine.specs.May.{with_dropped}
use Rattle.responder_machine.specs.Place.{Place, clear_place, inside}
use Rattle.responder_machine.specs.Refusal.{sizes_are_known}
use Rattle.responder_machine.specs.Responder.{is_repeat, sent_by}
use Rattle.responder_machine.specs.Responder.Outcome.{Adds}
use Rattle.responder_machine.specs.Setup.{RspSetup}
use Rattle.responder_machine.specs.Turn.{Turn, is_taken}
use Rattle.capture_machine.proofs.DropsTell.{clear_form, turns_stay}
use Rattle.capture_machine.proofs.FetchBegins.{Leaves, large_leaves}
use Rattle.capture_machine.proofs.PlacesServed.{named_clear}
use Rattle.capture_machine.proofs.PlainTells.{led_clear}
use Rattle.spdm_machine.specs.Bodies.{clear_body}
use Rattle.capture_machine.specs.CapturedAnswers.{AnswersLarge, MayLeadTo}
use Rattle.capture_machine.specs.LargeAnswers.{IsLargeAnswer, is_large, is_unseen_effect, is_unseen_in, place_named, place_of, turn_with, unseen}
use Rattle.capture_machine.specs.Rounds.{Round, no_draw}
use Rattle.world_machine.specs.Setup.{Configuration}

module _ (w : Configuration) (q : ReqSetup) (older : List (List ℕ)) (k : Kept) (route : RouteFields) (answer : List ℕ) (byte : w.responder.beat < 256) (limits : IsSetUp k.setup) (carries : Carries w q older k) (turn : AnswersInTurn k route answer)
    (type : (slice_index turn.round.body 0 == 5) ≡ true) (large : IsShownLarge (responder_for w k) k.responder turn.round.tag turn.round.body answer) where
  abbrev r : RspSetup
  r = responder_for w k

  abbrev h : History
  h = k.responder

  abbrev round : Round
  round = turn.round

  abbrev pub behind : History
  behind = begun_large k.responder (large_shown (responder_for w k) k.responder turn.round.tag turn.round.body answer)

  abbrev pub next : Fetching
  next = record { kept = heard_kept k behind route.tag turn.round answer; at = place_named turn.round.body; place = place_in k.responder behind }

  pub at_is : next.at ≡ None
  at_is = named_clear round.body type

  abbrev Given : Type 0
  Given = (whole : List ℕ) × AnswersLarge (responder_for w k) (restored k) turn.round answer behind whole

  given : Given
  given = (large_is_shown r (restored k) round answer behind byte).1 (large, refl)

  -- It is kept after it.
  pub begins : asks_upon k route.tag answer ≡ true → BeginsFetching w k (Whole route answer) next
  begins fetches =
      let heard = heard_on w q older k limits carries route.tag round answer turn.answers.0 turn.answers.1 None behind in
      (turn.body, turn.owner, (round, turn.answers, (behind, next.place, inl (given, refl), (heard.history, heard.hears, heard.asks ∙ fetches, ap (λ (x : Kept). record next { kept = x }) (sym heard.kept)))))

  -- What came, and what it leaves.
  pub record IsBegunHere : Type 0 where
    pub turned : Turn
    pub added : behind ≡ Clear turn.round.tag (turn_with [] None turned) no_draw ∷ k.responder
    pub reply : turned.reply ≡ drop 1 answer
    pub unseen : IsUnseenRequest (Clear turn.round.tag (turn_with [] None turned) no_draw)
    pub sized : sizes_are_known (phase_of (clear_turns k.responder)) ≡ true
    pub whole : List ℕ
    pub fits : IsLargeAnswer (cond (is_some turned.chunk) (inside (clear_place k.responder)) (clear_place k.responder)) whole
    pub leaves : Leaves (place_named turn.round.body) turn.round.tag turn.round.body (Clear turn.round.tag turned no_draw)
    pub facts : IsLargeTurn (responder_for w k) (clear_turns k.responder) (drop 1 turn.round.body) turned
    pub typed : slice_index answer 0 ≡ 5
    pub short : (responder_for w k).transfer ≤ (responder_for w k).max → (responder_for w k).max ≤ MAX_MESSAGE_SIZE → turned.refused ≡ None → length (drop 1 turn.round.body) ≤ MAX_MESSAGE_SIZE

  abbrev IsShort : Turn → Type 0
  IsShort t = r.transfer ≤ r.max → r.max ≤ MAX_MESSAGE_SIZE → t.refused ≡ None → length (drop 1 round.body) ≤ MAX_MESSAGE_SIZE

  by_entry : (dropped : List ℕ) (t : Turn) (e : Entry) (whole : List ℕ) → IsLargeTurn r (clear_turns (with_dropped h dropped)) (drop 1 round.body) t → IsShort t → Clear round.tag t no_draw ≡ e → sizes_are_known (phase_of (clear_turns (with_dropped h dropped))) ≡ true → IsUnseenRequest (unseen e)
      → Leaves (place_named round.body) round.tag round.body e → IsLargeAnswer (place_of h e) whole → sent_by e ≡ answer → behind ≡ unseen e ∷ h → IsBegunHere
  by_entry dropped t e whole facts short is sized none leaves fits sent made = record {
    turned = t;
    added = made ∙ ap (λ (x : Entry). unseen x ∷ h) (sym is);
    reply = ap (drop 1) (ap sent_by is ∙ sent);
    unseen = subst (λ (x : Entry). IsUnseenRequest (unseen x)) (sym is) none;
    sized = ap (λ l. sizes_are_known (phase_of l)) (sym (turns_stay dropped h)) ∙ sized;
    whole = whole;
    fits = subst (λ (x : Entry). IsLargeAnswer (place_of h x) whole) (sym is) fits;
    leaves = subst (Leaves (place_named round.body) round.tag round.body) (sym is) leaves;
    facts = subst (λ l. IsLargeTurn r l (drop 1 round.body) t) (turns_stay dropped h) facts;
    typed = ap (λ (l : List ℕ). slice_index l 0) (sym (ap sent_by is ∙ sent));
    short = short;
  }

  pub begun_here : IsBegunHere
  begun_here =
      let c = given.1 in
      let led = led_clear r (with_dropped h c.0) round.tag round.body (Adds c.1) type c.2.1 in
      elim (clear_form r (with_dropped h c.0) round.tag (drop 1 round.body) led.free (Adds c.1) led.leads) [
        | inl same ↦ absurd (let x = same.1 in cc)
        | inr adds ↦
            let t : Turn = turn_of r (clear_place (with_dropped h c.0)) (drop 1 round.body) led.free in
            let same : Clear round.tag t no_draw ≡ c.1 = cc (sym adds) in
            by_entry c.0 t c.1 given.0 (large_turn r led.free (with_dropped h c.0) (drop 1 round.body) (ap is_large same ∙ c.3)) (turn_short r (with_dropped h c.0) (drop 1 round.body) led.free) same (large_is_sized r (with_dropped h c.0) round.tag round.body c.1 type c.2.1 c.3)
            (large_is_unseen r (with_dropped h c.0) round.tag round.body c.1 type c.2.1 c.3) (large_leaves r (with_dropped h c.0) round.tag round.body c.1 c.2.1 c.3) c.4 c.5 c.6
      ]

  -- No chunk came yet.
  unseen_here : is_unseen_in next.at (Clear turn.round.tag (turn_with [] None begun_here.turned) no_draw) ≡ true
  unseen_here = ap (λ (o : Option ℕ). is_unseen_in o (Clear turn.round.tag (turn_with [] None begun_here.turned) no_draw)) at_is ∙ begun_here.unseen.0

  none_by : (b : Bool) (n m : ℕ) → b ≡ true → cond b 0 (cond (gives_in next.at (Clear turn.round.tag (turn_with [] None begun_here.turned) no_draw)) n m) ≡ 0
  none_by true n m is = refl
  none_by false n m is = absurd (cc)

  pub none_came : number_of next ≡ 0
  none_came =
      ap (number_given next.at) begun_here.added ∙ none_by (is_unseen_in next.at (Clear turn.round.tag (turn_with [] None begun_here.turned) no_draw)) (number_given next.at h + 1) (number_given next.at h) unseen_here

  -- ---- The newest request is the one that it answers.

  pub taken : is_taken begun_here.turned ≡ true
  taken = (begun_here.leaves.stands.1 begun_here.unseen.0).taken

  pub kept_here : kept_of behind ≡ Some (record { tag = turn.round.tag; message = begun_here.turned.message; reply = begun_here.turned.reply })
  kept_here =
      ap kept_of begun_here.added
      ∙ ap (λ (b : Bool). cond b (Some (record { tag = turn.round.tag; message = begun_here.turned.message; reply = begun_here.turned.reply })) (kept_of h)) taken

  pub asked_is : begun_here.turned.message ≡ drop 1 turn.round.body
  asked_is =
      let again : is_repeat (kept_of behind) round.tag (drop 1 round.body) ≡ true = ap (λ (l : History). is_repeat (kept_of l) round.tag (drop 1 round.body)) begun_here.added ∙ begun_here.leaves.again h type in
      (bytes_eq-Decides _ _).0 (and_second (round.tag == round.tag) _ (ap (λ o. is_repeat o round.tag (drop 1 round.body)) (sym kept_here) ∙ again))

  -- It is what the request led to, but for the answer.
  pub led_here : IsLedTo (responder_for w k) k.responder (Clear turn.round.tag (turn_with [] None begun_here.turned) no_draw)
  led_here =
      let c = given.1 in
      let body : round.body ≡ clear_body begun_here.turned.message = clear_shape round.body type ∙ ap clear_body (sym asked_is) in
      let same : unseen c.1 ∷ h ≡ Clear round.tag (turn_with [] None begun_here.turned) no_draw ∷ h = sym c.6 ∙ begun_here.added in
      (c.0, c.1, subst (λ (l : List ℕ). MayLeadTo r (with_dropped h c.0) round.tag l (Adds c.1)) body c.2.1, c.3, (cc same))
