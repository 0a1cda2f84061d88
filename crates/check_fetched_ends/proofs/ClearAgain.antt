-- While nothing is fetched, an answer in the clear that brings no new LargeResponse, and in response to which the
-- requester asks for a chunk, is the same LargeResponse again, plain or in an acknowledgement, to a repeat of a request
-- whose large response passed unseen.
use Rattle.std.proofs.Common.{◌≡◌, ◌<◌, ◌≤◌, ◌==◌, ◌&&◌, ◌⊎◌, ◌∙◌, ℕ, List, [], refl, sym, ap, subst, drop, length, arith, Bool, true, false, Option, Some, None, Result, Ok, Err, is_some, cond, inl, inr}
use Rattle.std.specs.Prelude.{not, slice_index}
use Rattle.std.proofs.lemmas.Bool.{false≢true, not-false}
use Rattle.check_ends.proofs.InTurn.{AnswersInTurn}
use Rattle.check_laws.proofs.KnownFetches.{kept_asks_none}
use Rattle.check_responder.proofs.LargeReplies.{turn_tells}
use Rattle.check_responder.specs.JudgedResponder.{shows_large}
use Rattle.check_requester.specs.HeardKept.{asks_upon}
use Rattle.check_laws.proofs.KeptAnswers.{kept_is_restored}
use Rattle.check_laws.specs.AnswersShown.{values_shown_by}
use Rattle.check_laws.specs.DropsShown.{IsShownAnswer, drops_shown_by, outcome_shown, response_of}
use Rattle.check_laws.specs.Keeping.{Keeps, Kept, restored}
use Rattle.check_laws.specs.RepliesShown.{heard_from, no_values, responder_for}
use Rattle.check_laws.specs.Walks.{Walks}
use Rattle.check_fetched_laws.proofs.RestQuiet.{none_pends_in_clear}
use Rattle.check_fetched_laws.proofs.ChunkAsked.{IsShownLarge, asks_may, chunk_shows, whole_shows}
use Rattle.check_fetched_ends.proofs.HeldNever.{clear_shape}
use Rattle.check_fetched_ends.proofs.LargeShows.{repeats_shown, walk_shows}
use Rattle.check_fetched_ends.proofs.LateShown.{same_form}
use Rattle.check_fetched_ends.proofs.SameChunks.{same_common, walks_agree}
use Rattle.mctp_framing.specs.Cutting.{RouteFields}
use Rattle.negotiate.specs.declared.shared.Common.{Common}
use Rattle.requester_machine.proofs.ClearLeads.{clear_leads}
use Rattle.requester_machine.proofs.Heard.{test_is_false}
use Rattle.requester_machine.specs.Answers.{may_be_large}
use Rattle.requester_machine.specs.Bodies.{body_fault}
use Rattle.requester_machine.specs.ClearAnswers.{clear_led}
use Rattle.requester_machine.specs.Hearing.{clear_outcome, hears, hears_by, hears_to}
use Rattle.requester_machine.specs.History as requester_history
use Rattle.requester_machine.specs.History.{Led, connection_terms, outstanding, phase_of}
use Rattle.requester_machine.specs.Holds.{Holds, Waits}
use Rattle.requester_machine.specs.Message.{Aim, Sent, body_of}
use Rattle.requester_machine.specs.Message.Aim.{Plain, ByChunks, ForChunk, InSession}
use Rattle.requester_machine.specs.Setup.{ReqSetup}
use Rattle.requester_machine.specs.Shown.{after}
use Rattle.requester_machine.specs.UnderWay.{HasSizes, IsAwaited, IsOutstanding, is_capable}
use Rattle.responder_machine.specs.Answer.{Free}
use Rattle.responder_machine.specs.Handling.{turn_of}
use Rattle.responder_machine.specs.History.{History, clear_turns, kept_of, negotiation_of}
use Rattle.responder_machine.specs.History as responder_history
use Rattle.responder_machine.specs.History.Entry.{Clear}
use Rattle.responder_machine.specs.May.{with_dropped}
use Rattle.responder_machine.specs.Place.{clear_place, place_terms}
use Rattle.responder_machine.specs.Responder.Outcome.{Same, Unopened, Adds}
use Rattle.responder_machine.specs.Responder.{Outcome, is_repeat, kept_reply, on_clear}
use Rattle.responder_machine.specs.Responder as responder
use Rattle.responder_machine.specs.Setup.{RspSetup}
use Rattle.responder_machine.specs.Turn.{Turn, handle_in}
use Rattle.spdm_basis.proofs.Bools.{and_first}
use Rattle.spdm_grammar.specs.Message.{RequestMessage}
use Rattle.spdm_grammar.specs.Message.RequestMessage.{GetVersion, GetCapabilities, NegotiateAlgorithms, GetMeasurements, PskExchange, PskFinish, Heartbeat, KeyUpdate, EndSession, ChunkSend, ChunkGet}
use Rattle.spdm_grammar.specs.declared.told.event.ReqIgnored.{ReqIgnored}
use Rattle.spdm_machine.specs.Bodies.{clear_body}
use Rattle.capture_machine.proofs.DropsTell.{clear_form, kept_same}
use Rattle.capture_machine.proofs.PlainTells.{led_clear}
use Rattle.capture_machine.proofs.SmallGets.{chunk_sized}
use Rattle.capture_machine.specs.CapturedAnswers.{MayLeadTo, is_plain}
use Rattle.capture_machine.specs.LargeAnswers.{is_fetching, is_for_chunk, repeats_large}
use Rattle.capture_machine.specs.Rounds.{Round, no_draw}
use Rattle.world_machine.specs.Setup.{Configuration}

-- The requester awaits the answer to a request that may have a large one only while its sizes are known.
capable : (q : ReqSetup) (h : requester_history.History) (a : RequestMessage) → IsAwaited q h a → may_be_large a ≡ true → is_capable (phase_of h) ≡ true
capable q h GetVersion awaited may = absurd (false≢true may)
capable q h (GetCapabilities caps) awaited may = absurd (false≢true may)
capable q h (NegotiateAlgorithms offer) awaited may = ap is_capable awaited.0
capable q h (GetMeasurements op) awaited may = ap is_capable awaited
capable q h (PskExchange x) awaited may = ap is_capable awaited.0
capable q h (PskFinish verify) awaited may = absurd awaited
capable q h Heartbeat awaited may = absurd awaited
capable q h (KeyUpdate op n) awaited may = absurd awaited
capable q h EndSession awaited may = absurd awaited
capable q h (ChunkSend x) awaited may = absurd awaited
capable q h (ChunkGet n k) awaited may = absurd awaited

-- It awaits the answer to this request, whole in the message or in chunks.
abbrev pub IsFor : Aim → RequestMessage → Type 0
IsFor aim a = (aim ≡ Plain a) ⊎ ((handle : ℕ) × (number : ℕ) × (aim ≡ ByChunks a handle number))

module _ (w : Configuration) (q : ReqSetup) (older : List (List ℕ)) (k : Kept) (route : RouteFields) (answer : List ℕ) (keeps : Keeps w q older k) (turn : AnswersInTurn k route answer)
    (type : (slice_index turn.round.body 0 == 5) ≡ true) (holds : Holds k.setup (restored k).requester) where
  abbrev r : RspSetup
  r = responder_for w k

  abbrev h : History
  h = k.responder

  abbrev m : List ℕ
  m = drop 1 turn.round.body

  abbrev asker : requester_history.History
  asker = (restored k).requester

  walk : Walks w q older (restored k)
  walk = (kept_is_restored w q older k keeps).0

  none : is_fetching (outstanding asker) ≡ false
  none = kept_asks_none w q older k keeps

  body_is : turn.round.body ≡ clear_body m
  body_is = clear_shape turn.round.body type

  -- ---- The requester.

  -- What it awaits while it asks for a chunk on the answer.
  pub record IsAsked : Type 0 where
    pub sent : Sent
    pub waits : outstanding (restored k).requester ≡ Some sent
    pub tagged : (sent.tag == turn.round.tag) ≡ true
    pub asked : RequestMessage
    pub aims : IsFor sent.aim asked
    pub may : may_be_large asked ≡ true
    pub known : is_capable (phase_of (restored k).requester) ≡ true
    pub shown : shows_large (response_of (drop 1 answer)) ≡ true
    pub chunk : (connection_terms (restored k).requester).common.chunk ≡ true

  abbrev Gets : Result Led ReqIgnored → Type 0
  Gets x = is_fetching (outstanding (after asker (clear_outcome turn.round.tag (drop 1 answer) no_draw x))) ≡ true

  module _ (s : Sent) (waits : outstanding asker ≡ Some s) (tagged : (s.tag == turn.round.tag) ≡ true) where
    own : IsOutstanding k.setup asker s.content s.aim
    own = subst (Waits k.setup asker) waits holds.waits

    asked_by : (a : RequestMessage) → IsFor s.aim a → IsAwaited k.setup asker a → may_be_large a ≡ true → IsShownLarge k.setup asker no_values (drop 1 answer) → IsAsked
    asked_by a aims awaited may is = record { sent = s; waits = waits; tagged = tagged; asked = a; aims = aims; may = may; known = capable k.setup asker a awaited may; shown = is.0; chunk = is.1 }

    whole_asked : (a : RequestMessage) → s.aim ≡ Plain a → (x : Result Led ReqIgnored) → clear_led k.setup asker no_values (Plain a) a (drop 1 answer) ≡ x → Gets x → IsAsked
    whole_asked a aims (Err cause) is gets = absurd (false≢true (sym none ∙ gets))
    whole_asked a aims (Ok led) is gets =
        let may = asks_may k.setup asker no_values (drop 1 answer) (Plain a) a led refl (clear_leads k.setup asker no_values (Plain a) (drop 1 answer) a led refl is) gets in
        asked_by a (inl aims) (subst (IsOutstanding k.setup asker s.content) aims own).0 may (whole_shows k.setup asker no_values (drop 1 answer) a led is gets)

    chunk_asked : (a : RequestMessage) (handle number : ℕ) → s.aim ≡ ByChunks a handle number → (x : Result Led ReqIgnored) → clear_led k.setup asker no_values (ByChunks a handle number) a (drop 1 answer) ≡ x → Gets x → IsAsked
    chunk_asked a handle number aims (Err cause) is gets = absurd (false≢true (sym none ∙ gets))
    chunk_asked a handle number aims (Ok led) is gets =
        let may = asks_may k.setup asker no_values (drop 1 answer) (ByChunks a handle number) a led refl (clear_leads k.setup asker no_values (ByChunks a handle number) (drop 1 answer) a led refl is) gets in
        asked_by a (inr (handle, number, aims)) (subst (IsOutstanding k.setup asker s.content) aims own).0 may (chunk_shows k.setup asker no_values (drop 1 answer) a handle number led is gets)

    pub sent_is : body_of s.content ≡ clear_body m
    sent_is = (walks_agree w q older (restored k) walk).body s turn.round waits turn.answers.0 tagged ∙ body_is

    by_aim : (aim : Aim) → s.aim ≡ aim → is_fetching (outstanding (after asker (hears_to k.setup asker no_values turn.round.tag answer no_draw aim))) ≡ true → IsAsked
    by_aim (Plain a) aims gets = whole_asked a aims (clear_led k.setup asker no_values (Plain a) a (drop 1 answer)) refl gets
    by_aim (ByChunks a handle number) aims gets = chunk_asked a handle number aims (clear_led k.setup asker no_values (ByChunks a handle number) a (drop 1 answer)) refl gets
    by_aim (ForChunk a handle number before) aims gets = absurd (false≢true (sym none ∙ ap is_fetching waits ∙ ap is_for_chunk aims))
    by_aim (InSession id ask) aims gets =
        let is = subst (IsOutstanding k.setup asker s.content) aims own in
        absurd (let x : slice_index (clear_body m) 0 ≡ 6 = ap (λ (l : List ℕ). slice_index l 0) (sym sent_is ∙ ap body_of is.0.content_is) in omega (arith, x))

  by_cause : (o : Option Sent) (cause : Option ReqIgnored) → outstanding asker ≡ o → body_fault k.setup o false turn.round.tag answer ≡ cause
      → is_fetching (outstanding (after asker (hears_by k.setup asker no_values turn.round.tag answer no_draw o cause))) ≡ true → IsAsked
  by_cause o (Some cause) waits is gets = absurd (false≢true (sym none ∙ gets))
  by_cause None None waits is gets = absurd (false≢true (sym none ∙ gets))
  by_cause (Some s) None waits is gets = by_aim s waits (not-false (s.tag == turn.round.tag) (test_is_false k.setup (Some s) false turn.round.tag answer is 2)) s.aim refl gets

  module _ (asks : asks_upon k route.tag answer ≡ true) where
    pub asked_for : IsAsked
    unfolding heard_from hears
    asked_for = by_cause (outstanding asker) (body_fault k.setup (outstanding asker) false turn.round.tag answer) refl refl (ap (λ (n : ℕ). asks_upon k n answer) turn.answers.1 ∙ asks)

    -- Chunks are in common at the responder too, so the requester takes 42 bytes.
    pub chunks_there : (place_terms (clear_place k.responder)).common.chunk ≡ true
    chunks_there = ap (λ (c : Common). c.chunk) (sym (same_common w q older (restored k) walk asked_for.known)) ∙ asked_for.chunk

    pub wide_there : 12 < (place_terms (clear_place k.responder)).common.to_requester.transfer
    wide_there = let least = chunk_sized (negotiation_of (clear_turns h)) chunks_there in omega (arith, least)

    -- ---- The responder.

    -- It is a repeat, and the answer is its reply, whose large response was not seen.
    pub record IsAgain : Type 0 where
      pub again : is_repeat (kept_of k.responder) turn.round.tag (drop 1 turn.round.body) ≡ true
      pub same : clear_body (kept_reply (kept_of k.responder)) ≡ answer
      pub unseen : repeats_large None k.responder ≡ true

    module _ (is : IsShownAnswer (responder_for w k) k.responder turn.round.tag turn.round.body answer) where
      abbrev ids : List ℕ
      ids = drops_shown_by (responder_for w k) k.responder turn.round.tag turn.round.body answer

      abbrev g : History
      g = with_dropped k.responder (drops_shown_by (responder_for w k) k.responder turn.round.tag turn.round.body answer)

      abbrev o : Outcome
      o = outcome_shown (responder_for w k) k.responder turn.round.tag turn.round.body answer

      may_lead : MayLeadTo r g turn.round.tag turn.round.body o
      unfolding MayLeadTo
      may_lead = (values_shown_by r g turn.round.tag turn.round.body answer, is.0.0, is.0.1, is.0.2)

      unseen_by : clear_body (kept_reply (kept_of k.responder)) ≡ answer → repeats_large None k.responder ≡ true
      unseen_by same =
          repeats_shown h (walk_shows w q older (restored k) walk) wide_there (none_pends_in_clear w q older (restored k) walk)
          (ap (λ (l : List ℕ). shows_large (response_of (drop 1 l))) same ∙ asked_for.shown)

      repeated : (f : Free) (b : List ℕ) → on_clear r g turn.round.tag m f no_draw ≡ Same b → o ≡ Same b → IsAgain
      repeated f b leads made =
          let form = same_form r g turn.round.tag m f b leads in
          let same : clear_body (kept_reply (kept_of k.responder)) ≡ answer = ap (λ (x : Option responder_history.Kept). clear_body (kept_reply x)) (sym (kept_same ids h)) ∙ sym form.1 ∙ ap responder.body_of (sym made) ∙ is.2 in
          record {
            again = ap (λ (x : Option responder_history.Kept). is_repeat x turn.round.tag m) (sym (kept_same ids h)) ∙ form.0;
            same = same;
            unseen = unseen_by same;
          }

      -- Any other answer is no LargeResponse.
      not_added : (t : Turn) → shows_large (response_of t.reply) ≡ is_some (handle_in t.effect) → o ≡ Adds (Clear turn.round.tag t no_draw) → ⊥
      not_added t tells made =
          let reply : drop 1 answer ≡ t.reply = ap (drop 1) (sym is.2 ∙ ap responder.body_of made) in
          let went : is_some (handle_in t.effect) ≡ true = sym tells ∙ ap (λ (l : List ℕ). shows_large (response_of l)) (sym reply) ∙ asked_for.shown in
          let small : not (is_some (handle_in t.effect)) ≡ true = and_first (not (is_some (handle_in t.effect))) _ (ap (is_plain h) (sym made) ∙ is.1) in
          false≢true (ap not (sym went) ∙ small)

      pub left_again : IsAgain
      left_again =
          let led = led_clear r g turn.round.tag turn.round.body o type may_lead in
          elim (clear_form r g turn.round.tag m led.free o led.leads) [
            | inl same ↦ repeated led.free same.0 (led.leads ∙ same.1) same.1
            | inr adds ↦ absurd (not_added (turn_of r (clear_place g) m led.free) (turn_tells r (clear_place g) m led.free) adds)
          ]
