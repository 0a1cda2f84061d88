-- LargeResponse in the clear to GET_MEASUREMENTS or PSK_EXCHANGE, each whole in one message, in response to which the
-- requester asks for no chunk: what is kept after it.
use Rattle.std.proofs.Common.{◌≡◌, ◌≢◌, ◌≤◌, ◌<◌, ◌+◌, ◌==◌, ◌||◌, ◌⊎◌, ◌∙◌, ℕ, List, [], ◌∷◌, refl, sym, ap, subst, drop, length, Bool, true, false, Option, Some, None, is_some, cond, inl, inr, arith, eqb-true}
use Rattle.std.specs.Prelude.{slice_index}
use Rattle.std.proofs.lemmas.Bool.{false≢true}
use Rattle.mctp_framing.specs.Cutting.{RouteFields}
use Rattle.mctp_framing.specs.Gathering.Gathered.{Whole}
use Rattle.check_ends.proofs.InTurn.{AnswersInTurn}
use Rattle.check_responder.specs.AnswerKeys as answer_keys
use Rattle.check_requester.specs.JudgedRequester.{Carries, IsAsker}
use Rattle.check_requester.specs.HeardKept.{asks_upon}
use Rattle.check_ends.specs.Party.{StandBehind}
use Rattle.check_ends.specs.declared.party.Party.{Party}
use Rattle.check_laws.proofs.LargeShown.{large_is_shown}
use Rattle.check_laws.proofs.RepliesTold.{replies_are_told}
use Rattle.check_laws.specs.ChangeLaws.{AnswerAccepts, LargeAnswerChanges}
use Rattle.check_laws.specs.Changes.{IsChange, views_in}
use Rattle.check_laws.specs.Keeping.{Keeps, Kept, RepliesKept, restored}
use Rattle.check_laws.specs.KeptChanges.{accepted_from}
use Rattle.check_laws.specs.LargeShown.{IsShownLarge}
use Rattle.check_laws.specs.RepliesShown.{responder_for}
use Rattle.check_laws.specs.Rows as rows_of
use Rattle.check_laws.specs.declared.change.Change.{Change}
use Rattle.check_laws.specs.declared.verdict.Seen.{Seen}
use Rattle.responder_core.specs.Connected as connected
use Rattle.responder_core.specs.UnseenRequests.{IsTurnOf, IsUnseenTurn}
use Rattle.responder_core.specs.declared.connected.Connection.{Connection}
use Rattle.check_fetched_ends.proofs.ChangesOn.{accepted_on, asked_on}
use Rattle.check_fetched_ends.proofs.HeldBefore.{here, keys_begun}
use Rattle.check_fetched_ends.proofs.HeldBegins.{behind, next}
use Rattle.check_late_laws.proofs.Late.LargeAccepts.{large_accepts_none}
use Rattle.check_fetched_ends.specs.BegunHeld.{has_free_length}
use Rattle.check_fetched_ends.specs.Fetched.{rows_upon}
use Rattle.check_late_laws.specs.Fetching.{Fetching}
use Rattle.requester_machine.specs.History.{outstanding}
use Rattle.requester_machine.specs.May.{IsSetUp}
use Rattle.requester_machine.specs.Setup.{ReqSetup}
use Rattle.responder_machine.proofs.Codes.{asked-code}
use Rattle.responder_machine.specs.Answer.{Free, answer_bytes, request_at}
use Rattle.responder_machine.specs.Handling.{chunk_in, effect_of, goes_large, large_response, plain_turn, turn_by, turn_of}
use Rattle.responder_machine.specs.History.{Entry, History}
use Rattle.responder_machine.specs.History.Entry.{Clear}
use Rattle.responder_machine.specs.May.{with_dropped}
use Rattle.responder_machine.specs.Place.{Place, clear_place}
use Rattle.responder_machine.specs.Refusal.{code_of, refusal}
use Rattle.responder_machine.specs.Responder.{sent_by}
use Rattle.responder_machine.specs.Responder.Outcome.{Adds}
use Rattle.responder_machine.specs.Setup.{RspSetup}
use Rattle.responder_machine.specs.Turn.{Turn, answer_in, code_in, handle_in, is_taken}
use Rattle.responder_machine.specs.Turn.Effect.{Took}
use Rattle.spdm_grammar.specs.Message.{ChunkMessage, RequestMessage}
use Rattle.spdm_grammar.specs.Message.RequestMessage.{ChunkSend}
use Rattle.spdm_grammar.specs.declared.messages.error_code.ErrorCode.{ErrorCode}
use Rattle.spdm_grammar.specs.declared.names.request_code.TheConstants.{CHUNK_GET, CHUNK_SEND, GET_CAPABILITIES, GET_MEASUREMENTS, GET_VERSION, NEGOTIATE_ALGORITHMS, PSK_EXCHANGE}
use Rattle.capture_machine.proofs.DropsTell.{clear_form}
use Rattle.capture_machine.proofs.PlainTells.{led_clear}
use Rattle.capture_machine.proofs.TurnsAlike.{chunk_is}
use Rattle.capture_machine.specs.LargeAnswers.{is_fetching, is_large, turn_with, unseen}
use Rattle.capture_machine.specs.Rounds.{no_draw}
use Rattle.capture_machine.specs.SessionTable.{Row, number_from}
use Rattle.world_machine.specs.Setup.{Configuration}

-- ---- The turn.

-- A message that is no chunk got LargeResponse in it, and what is kept of that has the message's code.
pub record IsPlainLarge (m : List ℕ) (t : Turn) : Type 0 where
  pub chunk : t.chunk ≡ None
  pub taken : is_taken t ≡ true
  pub message : t.message ≡ m
  pub handle : ℕ
  pub reply : t.reply ≡ large_response handle
  pub answer : answer_in (turn_with [] None t).effect ≡ []
  pub none : handle_in (turn_with [] None t).effect ≡ None
  pub code : code_in (turn_with [] None t).effect ≡ code_of m

module _ (r : RspSetup) (p : Place) (m : List ℕ) (f : Free) where
  abbrev made : Option RequestMessage → Bool → Turn
  made q b = record {
    message = m;
    refused = None;
    chunk = None;
    effect = effect_of q m (answer_bytes r p m f) (cond b (Some f.handle) None);
    reply = cond b (large_response f.handle) (answer_bytes r p m f);
  }

  by_request : (q : Option RequestMessage) (b : Bool) → request_at p m ≡ q → is_some (handle_in (made q b).effect) ≡ true → IsPlainLarge m (made q b)
  by_request None b is large = absurd (false≢true large)
  by_request (Some q) false is large = absurd (false≢true large)
  by_request (Some q) true is large = record { chunk = refl; taken = refl; message = refl; handle = f.handle; reply = refl; answer = refl; none = refl; code = asked-code p m q is }

  by_parts : (o : Option ErrorCode) (c : Option ChunkMessage) → code_of m ≢ CHUNK_SEND → chunk_in (request_at p m) ≡ c → is_some (handle_in (turn_by r p m f o c).effect) ≡ true → IsPlainLarge m (turn_by r p m f o c)
  by_parts (Some e) c other is large = absurd (false≢true large)
  by_parts None None other is large = by_request (request_at p m) (goes_large p (answer_bytes r p m f)) refl large
  by_parts None (Some c) other is large = absurd (other (sym (asked-code p m (ChunkSend c) (chunk_is (request_at p m) c is))))

  pub plain_large : code_of m ≢ CHUNK_SEND → is_some (handle_in (turn_of r p m f).effect) ≡ true → IsPlainLarge m (turn_of r p m f)
  unfolding turn_of
  plain_large other large = by_parts (refusal r p m f) (chunk_in (request_at p m)) other refl large

-- ---- The requests whose answers have a free length.

free_is : (n : ℕ) → has_free_length n ≡ true → (n ≡ GET_MEASUREMENTS) ⊎ (n ≡ PSK_EXCHANGE)
free_is n is = by_first (n == GET_MEASUREMENTS) refl is
  where
    by_first : (b : Bool) → (n == GET_MEASUREMENTS) ≡ b → (b || n == PSK_EXCHANGE) ≡ true → (n ≡ GET_MEASUREMENTS) ⊎ (n ≡ PSK_EXCHANGE)
    by_first true one two = inl (eqb-true n GET_MEASUREMENTS one)
    by_first false one two = inr (eqb-true n PSK_EXCHANGE two)

no_chunk : (n : ℕ) → has_free_length n ≡ true → n ≢ CHUNK_SEND
no_chunk n is same = elim (free_is n is) [
  | inl one ↦ (let no = sym one ∙ same in absurd (omega (arith, no)))
  | inr one ↦ (let no = sym one ∙ same in absurd (omega (arith, no)))
]

unseen_as : (m : List ℕ) (t : Turn) → IsPlainLarge m t → has_free_length (code_of m) ≡ true → IsUnseenTurn (turn_with [] None t)
unseen_as m t is free = elim (free_is (code_of m) free) [
  | inl one ↦
      let code = is.code ∙ one in record {
        taken = is.taken;
        whole = is.chunk;
        unseen = is.answer;
        no_handle = is.none;
        no_get = ap (λ (n : ℕ). n == CHUNK_GET) code;
        no_version = ap (λ (n : ℕ). n == GET_VERSION) code;
        no_capabilities = ap (λ (n : ℕ). n == GET_CAPABILITIES) code;
        no_algorithms = ap (λ (n : ℕ). n == NEGOTIATE_ALGORITHMS) code;
      }
  | inr one ↦
      let code = is.code ∙ one in record {
        taken = is.taken;
        whole = is.chunk;
        unseen = is.answer;
        no_handle = is.none;
        no_get = ap (λ (n : ℕ). n == CHUNK_GET) code;
        no_version = ap (λ (n : ℕ). n == GET_VERSION) code;
        no_capabilities = ap (λ (n : ℕ). n == GET_CAPABILITIES) code;
        no_algorithms = ap (λ (n : ℕ). n == NEGOTIATE_ALGORITHMS) code;
      }
]

module _ (w : Configuration) (q : ReqSetup) (older : List (List ℕ)) (k : Kept) (route : RouteFields) (answer : List ℕ) (byte : w.responder.beat < 256) (limits : IsSetUp k.setup) (carries : Carries w q older k) (turn : AnswersInTurn k route answer)
    (type : (slice_index turn.round.body 0 == 5) ≡ true) (large : IsShownLarge (responder_for w k) k.responder turn.round.tag turn.round.body answer) (free : has_free_length (code_of (drop 1 turn.round.body)) ≡ true) where
  abbrev r : RspSetup
  r = responder_for w k

  abbrev h : History
  h = k.responder

  abbrev m : List ℕ
  m = drop 1 turn.round.body

  abbrev now : History
  now = behind w q older k route answer byte limits carries turn type large

  abbrev f : Fetching
  f = next w q older k route answer byte limits carries turn type large

  -- What came.
  pub record IsPassed : Type 0 where
    pub turned : Turn
    pub plain : IsPlainLarge (drop 1 turn.round.body) turned
    pub added : behind w q older k route answer byte limits carries turn type large ≡ Clear turn.round.tag (turn_with [] None turned) no_draw ∷ k.responder
    pub reply : turned.reply ≡ drop 1 answer

  passed_by : (t : Turn) (e : Entry) → IsPlainLarge m t → Clear turn.round.tag t no_draw ≡ e → sent_by e ≡ answer → now ≡ unseen e ∷ h → IsPassed
  passed_by t e plain is sent made = record {
    turned = t;
    plain = plain;
    added = made ∙ ap (λ (x : Entry). unseen x ∷ h) (sym is);
    reply = ap (drop 1) (ap sent_by is ∙ sent);
  }

  pub passed : IsPassed
  passed =
      let given = (large_is_shown r (restored k) turn.round answer now byte).1 (large, refl) in
      let c = given.1 in
      let g : History = with_dropped h c.0 in
      let led = led_clear r g turn.round.tag turn.round.body (Adds c.1) type c.2.1 in
      elim (clear_form r g turn.round.tag m led.free (Adds c.1) led.leads) [
        | inl same ↦ absurd (let x = same.1 in cc)
        | inr adds ↦
            let t : Turn = turn_of r (clear_place g) m led.free in
            let same : Clear turn.round.tag t no_draw ≡ c.1 = cc (sym adds) in
            passed_by t c.1 (plain_large r (clear_place g) m led.free (no_chunk (code_of m) free) (ap is_large same ∙ c.3)) same c.5 c.6
      ]

  abbrev pub left_turn : Turn
  left_turn = turn_with [] None passed.turned

  pub unseen_turn : IsUnseenTurn left_turn
  unseen_turn = unseen_as m passed.turned passed.plain free

  pub turn_is : IsTurnOf left_turn (drop 1 turn.round.body) (drop 1 answer) (code_of (drop 1 turn.round.body) == PSK_EXCHANGE)
  turn_is = record { message = passed.plain.message; reply = passed.reply; exchange = ap (λ (n : ℕ). n == PSK_EXCHANGE) passed.plain.code }

  -- No session is accepted by it.
  pub accepts_none : is_fetching (outstanding (restored k).requester) ≡ false → accepted_from k turn.round.tag answer ≡ None
  accepts_none none = large_accepts_none k turn.round.tag answer passed.plain.handle none (sym passed.reply ∙ passed.plain.reply)

  -- What the table is told.
  pub passed_change : AnswerAccepts → LargeAnswerChanges → (change : Change) → change.begun ≡ None → change.accepted ≡ accepted_from k turn.round.tag answer → change.answered ≡ None → change.asked ≡ None
      → change.views ≡ views_in now → IsChange change (restored k) (restored f.kept)
  passed_change accepts law change begun accepted answered asked views =
      let changes = law (restored k) (restored f.kept) (Clear turn.round.tag passed.turned no_draw) passed.added in record {
        begun = begun ∙ sym changes.0;
        accepted = accepted ∙ sym (accepted_on k now route.tag turn.round answer turn.answers.0 turn.answers.1 accepts);
        answered = answered ∙ sym changes.1;
        asked = asked ∙ sym (asked_on k now route.tag turn.round answer turn.answers.0 turn.answers.1);
        views = views;
      }

  -- ---- What is kept.

  pub passes : Keeps w q older k → asks_upon k route.tag answer ≡ false → RepliesKept w k (Whole route answer) f.kept
  passes keeps idle = (replies_are_told w q older k f.kept (Whole route answer) byte limits keeps).1 (inr (turn.body, turn.owner, (turn.round, turn.answers, large, idle, refl)))

  module _ (rows : List Row) (new : Party) (table : List Seen) (asker : IsAsker new.asker q f.kept) (stands : connected.StandsFor new.answerer.connection (responder_for w k) (Clear turn.round.tag left_turn no_draw ∷ k.responder))
      (keys : answer_keys.StandFor new.keys (responder_for w k) k.responder) (number : new.number ≡ number_from 1 q.eid w.requesters) (places : rows_of.StandFor new.places (restored f.kept) (rows_upon k f.kept rows))
      (entries : rows_of.StandsForRows table w (length older + 1) (rows_upon k f.kept rows)) where
    pub passed_stands : StandBehind new table w q older rows k f.kept
    passed_stands = record {
      party = record {
        asker = asker;
        answerer = subst (connected.StandsFor new.answerer.connection r) (sym passed.added) stands;
        keys = keys_begun w q older k route answer byte limits carries turn type large new.keys keys;
        number = number;
        places = places;
      };
      stands = entries;
    }
