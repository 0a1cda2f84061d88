-- The answer to a record of the session holds a chunk that fits: other bytes are put in the connection, and it is read with them.
use Rattle.std.proofs.Common.{◌≡◌, ◌≤◌, ◌<◌, ◌-◌, ◌^◌, ◌==◌, ℕ, List, refl, sym, ap, ◌∙◌, subst, length, arith, true, false, Option, Some}
use Rattle.std.specs.Prelude.{slice_index}
use Rattle.std.proofs.lemmas.Bool.{false≢true}
use Rattle.mctp_framing.specs.Cutting.{RouteFields}
use Rattle.check_requester.proofs.FewMessages.{kept_messages}
use Rattle.check_ends.proofs.InTurn.{AnswersInTurn}
use Rattle.check_responder.specs.AnswerKeys.{StandFor}
use Rattle.check_responder.specs.declared.judged_responder.JudgedResponder.{JudgedResponder}
use Rattle.check_ends.specs.declared.party.Party.{Party}
use Rattle.check_laws.specs.RepliesShown.{responder_for}
use Rattle.responder_core.specs.declared.connected.Connection.{Connection}
use Rattle.check_fetched_laws.specs.AnswerTexts.{Holds}
use Rattle.check_fetched_laws.specs.JudgedFor.{IsLong, IsMeasured, JudgesFor, session_with}
use Rattle.check_late_laws.specs.Fetching.{Fetching, IsFetchingOf, MayStand, bytes_of, number_of, size_of}
use Rattle.requester_machine.specs.May.{IsSetUp}
use Rattle.requester_machine.specs.Setup.{ReqSetup}
use Rattle.responder_machine.specs.BoundLaws.{messages_of}
use Rattle.responder_machine.specs.History.{History}
use Rattle.responder_machine.specs.Place.{session_place}
use Rattle.responder_machine.specs.Refusal.{has_pending}
use Rattle.responder_machine.specs.Setup.{RspSetup}
use Rattle.spdm_grammar.specs.declared.names.TheConstants.{MAX_MESSAGE_SIZE}
use Rattle.capture_machine.specs.LargeAnswers.{with_large}
use Rattle.capture_machine.specs.SessionTable.{Row}
use Rattle.world_machine.specs.Setup.{Configuration}
use Rattle.check_fetched_ends.proofs.Filled.{stands_now}
use Rattle.check_fetched_ends.proofs.InSessionPut.{common_same, long, measured, pending_same}
use Rattle.check_fetched_ends.proofs.InSessionRecord.{unseen_stand}
use Rattle.check_fetched_ends.proofs.InSessionTold.{few_large}
use Rattle.check_fetched_ends.proofs.InSessionWrong.{Fits}
use Rattle.check_fetched_laws.proofs.SeenKeys.{keys_given}
use Rattle.check_fetched_ends.proofs.TextsAlike.{text_moved}
use Rattle.check_fetched_ends.specs.InSession.{AreFitting, IsFetchedIn, IsReadIn, IsTextOf, bytes_with, filled, is_chunk, size_with}
use Rattle.check_fetched_ends.specs.declared.session_fetch.in_session.InSession.{InSession}

module _ (w : Configuration) (q : ReqSetup) (older : List (List ℕ)) (rows : List Row) (f : Fetching) (route : RouteFields) (answer : List ℕ) (byte : w.responder.beat < 256) (limits : IsSetUp f.kept.setup) (own : IsFetchingOf w q older f) (turn : AnswersInTurn f.kept route answer)
    (party : Party) (fetched : InSession) (kept : IsFetchedIn party fetched w q f rows) (message : List ℕ) where
  abbrev r : RspSetup
  r = responder_for w f.kept

  abbrev h : History
  h = f.kept.responder

  -- Few messages came.
  pub few_kept : length older < 2 ^ 64 - 1 → messages_of (with_large (Some fetched.id) kept.whole f.kept.responder) < 2 ^ 64 - 1
  few_kept less =
      let one = kept_messages w q older f.kept (Some kept.whole, own.all kept.whole kept.stands, own.kept) in
      let same = few_large (Some fetched.id) kept.whole f.kept.responder in omega (arith, one, same, less)

  -- The keys may open an answer with those bytes too.
  pub keys_kept : (slice_index turn.round.body 0 == 5) ≡ false → StandFor party.keys (responder_for w f.kept) (with_large (Some fetched.id) kept.whole f.kept.responder)
  keys_kept type = keys_given party.keys r fetched.id kept.whole h (unseen_stand w q older f route answer byte limits own turn fetched.id kept.at type kept.whole kept.stands) kept.beside.keys

  abbrev size : ℕ
  size = size_with fetched.answer.number fetched.answer.size message

  abbrev bytes : List ℕ
  bytes = bytes_with fetched.answer.number fetched.answer.bytes message

  size_is : size ≡ size_with (number_of f) (size_of f) message
  size_is = ap (λ (n : ℕ). size_with n fetched.answer.size message) kept.answer.number ∙ ap (λ (o : Option ℕ). size_with (number_of f) o message) kept.answer.size

  bytes_are : bytes ≡ bytes_with (number_of f) (bytes_of f) message
  bytes_are = ap (λ (n : ℕ). bytes_with n fetched.answer.bytes message) kept.answer.number ∙ ap (λ (l : List ℕ). bytes_with (number_of f) l message) kept.answer.bytes

  -- What the program tests is what the chunk shows.
  pub fits_kept : Fits f fetched.least fetched.most message → AreFitting fetched message
  fits_kept fits = record {
    least = subst (λ (n : ℕ). fetched.least ≤ n) (sym size_is) fits.least_is;
    most = subst (λ (n : ℕ). n ≤ fetched.most) (sym size_is) fits.most_is;
    few = subst (λ (n : ℕ). n ≤ MAX_MESSAGE_SIZE) (sym size_is) fits.few;
    within = subst (λ (n : ℕ). length bytes ≤ n) (sym size_is) (subst (λ (l : List ℕ). length l ≤ size_with (number_of f) (size_of f) message) (sym bytes_are) fits.within);
  }

  module _ (fits : AreFitting fetched message) (whole : List ℕ) (fills : whole ≡ filled fetched.answer.number fetched.answer.size fetched.answer.bytes message) where
    pub fills_there : whole ≡ filled (number_of f) (size_of f) (bytes_of f) message
    fills_there =
        fills ∙ ap (λ (n : ℕ). filled n fetched.answer.size fetched.answer.bytes message) kept.answer.number
        ∙ ap (λ (o : Option ℕ). filled (number_of f) o fetched.answer.bytes message) kept.answer.size ∙ ap (λ (l : List ℕ). filled (number_of f) (size_of f) l message) kept.answer.bytes

    pub stand_there : MayStand f whole
    stand_there =
        subst (MayStand f) (sym fills_there)
        (stands_now f fetched.least fetched.most kept.lengths message
        (subst (λ (n : ℕ). length (bytes_with (number_of f) (bytes_of f) message) ≤ n) size_is (subst (λ (l : List ℕ). length l ≤ size) bytes_are fits.within))
        (subst (λ (n : ℕ). fetched.least ≤ n) size_is fits.least) (subst (λ (n : ℕ). n ≤ fetched.most) size_is fits.most))

    module _ (left : fetched.left ≡ true) (type : (slice_index turn.round.body 0 == 5) ≡ false) (sealed : (slice_index answer 0 == 5) ≡ false) (text : List ℕ) (read : IsTextOf (responder_for w f.kept) (with_large (Some fetched.id) kept.whole f.kept.responder) turn.round.body answer text)
        (holds : Holds text message) (chunk : is_chunk message ≡ true) where
      pending_there : has_pending (session_place (session_with fetched.id h whole)) ≡ true
      pending_there = sym (pending_same w q older f route answer byte limits own turn fetched.id kept.at type kept.whole whole kept.stands stand_there) ∙ kept.pending ∙ left

      -- The connection judges with the new bytes.
      pub judges_there : (new : Connection) → ((s : RspSetup) (g : History) (l : List ℕ) → IsMeasured fetched.id g l → IsMeasured fetched.id g whole → IsLong fetched.id g l (length whole) → JudgesFor party.answerer.connection s g (Some fetched.id) l → JudgesFor new s g (Some fetched.id) whole)
          → JudgesFor new (responder_for w f.kept) f.kept.responder (Some fetched.id) whole
      judges_there new put =
          put r h kept.whole (measured w q older f route answer byte limits own turn fetched.id kept.at type kept.whole whole kept.stands stand_there kept.whole kept.stands (kept.pending ∙ left))
          (measured w q older f route answer byte limits own turn fetched.id kept.at type kept.whole whole kept.stands stand_there whole stand_there pending_there)
          (long w q older f route answer byte limits own turn fetched.id kept.at type kept.whole whole kept.stands stand_there (kept.sizes left)) kept.judges

      pub read_there : (answerer : JudgedResponder) → JudgesFor answerer.connection (responder_for w f.kept) f.kept.responder (Some fetched.id) whole
          → IsReadIn (record party { answerer = answerer }) fetched w q f rows turn.round.body answer message whole
      read_there answerer judges = record {
        kept = record {
          beside = record { asker = kept.beside.asker; keys = kept.beside.keys; number = kept.beside.number; places = kept.beside.places };
          at = kept.at;
          answer = kept.answer;
          lengths = kept.lengths;
          asks = kept.asks;
          found = kept.found;
          whole = whole;
          stands = stand_there;
          judges = judges;
          pending = pending_there ∙ sym left;
          uncounted = λ none live. absurd (false≢true (sym none ∙ left));
          sizes = λ some. sym (common_same w q older f route answer byte limits own turn fetched.id kept.at type kept.whole whole kept.stands stand_there) ∙ kept.sizes some;
          room = kept.room;
          anew = kept.anew;
        };
        same = refl;
        left = left;
        record_is = type;
        sealed = sealed;
        text = text;
        read = text_moved r fetched.id h (unseen_stand w q older f route answer byte limits own turn fetched.id kept.at type kept.whole kept.stands) turn.round.body kept.whole whole answer text read;
        holds = holds;
        chunk = chunk;
        fits = fits;
        fills = fills;
      }
