-- The next chunk of a large response that is fetched in the clear, and more follow: what is kept after it.
use Rattle.std.proofs.Common.{◌≡◌, ◌≢◌, ◌≤◌, ◌<◌, ◌+◌, ◌==◌, ◌++◌, ℕ, List, [], ◌∷◌, refl, sym, ap, ◌∙◌, subst, drop, take, length, arith, Bool, true, false, Option, Some, None, cond, inl, Ok}
use Rattle.std.specs.Prelude.{nat_lt, slice_index}
use Rattle.std.proofs.lemmas.Bool.Decides.{nat_tests}
use Rattle.mctp_framing.specs.Cutting.{RouteFields}
use Rattle.mctp_framing.specs.Gathering.Gathered.{Whole}
use Rattle.check_ends.proofs.InTurn.{AnswersInTurn}
use Rattle.check_responder.specs.AnswerKeys as answer_keys
use Rattle.check_responder.specs.AnswerKeys.{StandFor}
use Rattle.check_requester.specs.JudgedRequester.{Carries}
use Rattle.check_requester.specs.HeardKept.{asks_upon, heard_kept}
use Rattle.check_ends.specs.declared.party.Party.{Party}
use Rattle.check_laws.specs.Changes.{answered_in, views_in}
use Rattle.check_laws.specs.Keeping.{Kept, restored}
use Rattle.check_laws.specs.RepliesShown.{responder_for}
use Rattle.check_laws.specs.declared.verdict.Seen.{Seen}
use Rattle.chunking.specs.Cutting.{chunk_count, chunk_end, nth_chunk, unit_of}
use Rattle.check_fetched_laws.proofs.ClearChunks.{next_is_given}
use Rattle.check_fetched_laws.proofs.ClearViews.{keys_stand_on}
use Rattle.check_fetched_laws.proofs.MeanwhileClear.{get_goes_on}
use Rattle.check_fetched_laws.specs.ClearChunks.{clear_with, get_entry, get_message, get_response}
use Rattle.check_fetched_ends.proofs.HasGets.{gets_more, views_held}
use Rattle.check_fetched_ends.proofs.HeardOn.{heard_on}
use Rattle.check_fetched_ends.proofs.HeldCut.{can_be_cut}
use Rattle.check_fetched_ends.proofs.HeldGave.{e, gave_there, get, message_is, p, response}
use Rattle.check_fetched_ends.proofs.HeldRounds.{asked, response_is, transfer_is}
use Rattle.check_fetched_ends.specs.Fetched.{IsRepliedTo, rows_upon}
use Rattle.check_fetched_ends.specs.GetsHeld.{GiveAll, GivesChunk}
use Rattle.check_fetched_ends.specs.Held.{IsHeardHeld, IsHeldIn, IsQuiet, IsResponse, StandsBefore, chunk_held, repeats_held}
use Rattle.check_fetched_ends.specs.declared.clear_fetch.held.Held.{Held}
use Rattle.check_fetched_ends.specs.declared.upon.Upon.TheVariants as upon
use Rattle.check_late_laws.proofs.Gave.{bytes_begin, bytes_next, number_next, size_next}
use Rattle.check_late_laws.proofs.GoesLaws.{plain_of, stood_of}
use Rattle.check_late_laws.proofs.GoesWith.{told_whole}
use Rattle.check_late_laws.specs.Fetching.{Fetching, IsFetchingOf, MayStand, answer_by, dialogue_of, number_given, number_of}
use Rattle.check_late_laws.specs.FetchingLaws.{GoesFetching}
use Rattle.check_late_laws.specs.FetchingShown.{ShowsChunk}
use Rattle.check_late_laws.specs.LargeAnswers as large_answers
use Rattle.requester_machine.specs.May.{IsSetUp}
use Rattle.requester_machine.specs.Setup.{ReqSetup}
use Rattle.responder_machine.specs.History.{Entry, History, kept_of}
use Rattle.responder_machine.specs.History as responder_history
use Rattle.responder_machine.specs.Place.{place_terms}
use Rattle.responder_machine.specs.Setup.{RspSetup}
use Rattle.spdm_basis.proofs.Bools.{suc_units}
use Rattle.spdm_grammar.specs.Message.RequestMessage.{GetVersion}
use Rattle.spdm_grammar.specs.Message.ResponseMessage.{ChunkResponse}
use Rattle.spdm_grammar.specs.Requests.{canonical_request}
use Rattle.spdm_grammar.specs.Responses.{canonical_response}
use Rattle.spdm_grammar.specs.declared.names.TheConstants.{MAX_MESSAGE_SIZE}
use Rattle.spdm_machine.specs.Bodies.{clear_body}
use Rattle.check_late_laws.proofs.Sized.{chunk_few, transfer_few}
use Rattle.capture_machine.proofs.GetTells.{transfer_of}
use Rattle.capture_machine.specs.CapturedAnswers.{AnswersPlainly}
use Rattle.capture_machine.specs.Rounds.{Round}
use Rattle.capture_machine.specs.SessionTable.{Row}
use Rattle.world_machine.specs.Setup.{Configuration}

more_by : (n c : ℕ) → n < c → (n + 1 == c) ≡ false → nat_lt (n + 1) c ≡ true
more_by n c less last = grind (arith, nat_tests)

none_either : (b : Bool) (o : Option ℕ) → o ≡ None → cond b o None ≡ None
none_either true o is = is
none_either false o is = refl

abbrev first : Entry → History → Entry
first e [] = e
first e (x ∷ l) = x

module _ (w : Configuration) (q : ReqSetup) (older : List (List ℕ)) (rows : List Row) (f : Fetching) (own : IsFetchingOf w q older f) (party : Party) (held : Held) (kept : IsHeldIn party held w q f rows) (route : RouteFields) (answer : List ℕ) (limits : IsSetUp f.kept.setup) (turn : AnswersInTurn f.kept route answer) (other : turn.round.body ≢ clear_body (canonical_request GetVersion)) (anew : repeats_held held turn.round.tag turn.round.body ≡ false)
    (v : List ℕ) (stand : MayStand f v) (is_chunk : IsResponse (chunk_held held turn.round.body v) answer) (between : (chunk_held held turn.round.body v).last ≡ false) where
  abbrev r : RspSetup
  r = responder_for w f.kept

  abbrev h : History
  h = f.kept.responder

  abbrev round : Round
  round = turn.round

  abbrev at : f.kept.round ≡ Some turn.round
  at = turn.answers.0

  abbrev pub added : Entry
  added = e w q older rows f own party held kept turn.round turn.answers.0 other anew v stand

  abbrev reply : List ℕ
  reply = response w q older rows f own party held kept turn.round turn.answers.0 other anew v stand

  pub answer_is : answer ≡ clear_body reply
  answer_is = sym is_chunk ∙ ap clear_body (sym (response_is w q older rows f own party held kept round at other anew v stand))

  more : nat_lt (number_of f + 1) (chunk_count (place_terms (clear_with h v)).common.to_requester.transfer v) ≡ true
  more =
      let cut = can_be_cut w q older rows f own party held kept round at other anew v stand in
      ap (λ (t : ℕ). nat_lt (number_of f + 1) (chunk_count t v)) (transfer_is w q older rows f own party held kept round at other v)
      ∙ ap (λ (n : ℕ). nat_lt (n + 1) (chunk_count held.transfer v)) (sym kept.answer.number) ∙ more_by held.answer.number (chunk_count held.transfer v) cut.more between

  pub plainly : AnswersPlainly r (dialogue_of f v) round answer (added ∷ h)
  plainly =
      let asks = asked w q older rows f own party held kept round at other anew v stand in
      (get_goes_on next_is_given r (dialogue_of f v) v round asks.handle (number_of f) answer (added ∷ h) refl asks.body asks.next).1 (answer_is, more, refl)

  carries : Carries w q older f.kept
  carries = (Some v, own.all v stand, own.kept)

  abbrev pub next : Fetching
  next = record f { kept = heard_kept f.kept (added ∷ h) route.tag round answer }

  pub goes : asks_upon f.kept route.tag answer ≡ true → GoesFetching w f (Whole route answer) next
  goes asks =
      let heard = heard_on w q older f.kept limits carries route.tag round answer turn.answers.0 turn.answers.1 (Some v) (added ∷ h) in
      (turn.body, turn.owner, (round, turn.answers, (v, added ∷ h, stand, plainly, (heard.history, heard.hears, heard.asks ∙ asks, ap (λ (x : Kept). record f { kept = x }) (sym heard.kept)))))

  pub quiet : IsQuiet h (added ∷ h)
  quiet = record { begun = refl; taken = none_either (nat_lt (length h) (length (added ∷ h))) (answered_in (added ∷ h)) refl; views = views_stay }
    where
      views_stay : views_in (added ∷ h) ≡ views_in h
      views_stay =
          let b = kept.before in
          views_held held.late held.tag b.turn (added ∷ b.gets) b.before b.left (added ∷ h) (gets_more held.late held.tag b.turn b.gets b.before h added b.behind) (refl, b.are) b.unseen b.left_is
          ∙ sym (views_held held.late held.tag b.turn b.gets b.before b.left h b.behind b.are b.unseen b.left_is)

  abbrev pub shows : ShowsChunk f next answer
  shows =
      let gave = gave_there w q older rows f own party held kept round at other anew v stand in
      let place = p w q older rows f own party held kept round at other anew v stand in
      let n : ℕ = number_given f.at h in record {
        entry = added;
        behind = refl;
        sent = sym answer_is;
        gives = gave.here;
        whole = v;
        stands = stand;
        transfer = transfer_of place;
        handle = gave.handle;
        chunk = gave.gives;
        more = gave.more;
        wide = gave.wide;
        number = number_next f.at h v place added gave;
        bytes = bytes_next f.at h v place added gave;
        begins = bytes_begin f.at h v place added gave ∙ ap (λ (x : ℕ). take x v) (let x = suc_units n (unit_of (transfer_of place)) in omega (arith, x));
        size = told_whole f.at h v place added gave f.place stand;
        told = size_next f.at h v place added gave;
      }

  pub its_message : answer_by shows.entry ≡ drop 1 answer
  its_message = ap (drop 1) (sym answer_is)

  -- What is kept of the newest request fits.
  pub few_asked : length (drop 1 turn.round.body) ≤ MAX_MESSAGE_SIZE
  few_asked =
      let asks = asked w q older rows f own party held kept round at other anew v stand in
      subst (λ (l : List ℕ). length (drop 1 l) ≤ MAX_MESSAGE_SIZE) (sym asks.body) (omega arith)

  pub few_given : length (drop 1 answer) ≤ MAX_MESSAGE_SIZE
  few_given =
      let asks = asked w q older rows f own party held kept round at other anew v stand in
      subst (λ (l : List ℕ). length (drop 1 l) ≤ MAX_MESSAGE_SIZE) (sym answer_is)
      (chunk_few (place_terms (clear_with h v)).common.to_requester.transfer asks.handle v (number_of f) (transfer_few (clear_with h v)))

  abbrev pub newly_kept : Option responder_history.Kept
  newly_kept = Some (record { tag = turn.round.tag; message = drop 1 turn.round.body; reply = drop 1 answer })

  kept_is : newly_kept ≡ kept_of (added ∷ h)
  kept_is =
      let asks = asked w q older rows f own party held kept round at other anew v stand in
      ap (λ (l : List ℕ). Some (record { tag = turn.round.tag; message = drop 1 l; reply = drop 1 answer })) asks.body
      ∙ ap (λ (l : List ℕ). Some (record { tag = turn.round.tag; message = get_message asks.handle (number_of f); reply = drop 1 l })) answer_is

  before_then : (newest : _) → newest ≡ newly_kept → (came : _) → StandsBefore party.answerer party.keys (record held { newest = newest; answer = came }) r (added ∷ h)
  before_then newest is came =
      let b = kept.before in record {
        gets = added ∷ b.gets;
        turn = b.turn;
        before = b.before;
        left = b.left;
        behind = gets_more held.late held.tag b.turn b.gets b.before h added b.behind;
        are = (refl, b.are);
        unseen = b.unseen;
        left_is = b.left_is;
        led = b.led;
        sized = b.sized;
        stands = b.stands;
        keys = b.keys;
        request = b.request;
        reply = b.reply;
        newest = is ∙ kept_is;
      }

  -- ---- The chunks that were given.

  gave_then : asks_upon f.kept route.tag answer ≡ true → GiveAll held.transfer next
  gave_then asks u may =
      let heard = heard_on w q older f.kept limits carries route.tag round answer turn.answers.0 turn.answers.1 (Some v) (added ∷ h) in
      let stood : MayStand f u = stood_of w q older f own route.tag round answer v (added ∷ h) heard.history stand at plainly heard.hears (heard.asks ∙ asks) u may in
      let plain : AnswersPlainly r (dialogue_of f u) round answer (added ∷ h) = plain_of w q older f own route.tag round answer v (added ∷ h) heard.history stand at plainly heard.hears (heard.asks ∙ asks) u may in
      let it = asked w q older rows f own party held kept round at other anew u stood in
      let gives = (get_goes_on next_is_given r (dialogue_of f u) u round it.handle (number_of f) answer (added ∷ h) refl it.body it.next).0 plain in
      let entry : GivesChunk held.transfer it.handle u (number_of f) round.tag added =
      ap (first added) gives.2 ∙ ap (λ (t : ℕ). get_entry round.tag it.handle (number_of f) (canonical_response (ChunkResponse (nth_chunk t it.handle u (number_of f))))) (transfer_is w q older rows f own party held kept round at other u) in
      let place = p w q older rows f own party held kept round at other anew v stand in (
        number_of f,
        round.tag,
        number_next f.at h v place added (gave_there w q older rows f own party held kept round at other anew v stand),
        subst (λ (n : ℕ). GivesChunk held.transfer n u (number_of f) round.tag added) (sym it.next.same) entry,
        kept.gave u stood,
      )

  -- What the calls leave of what is held.
  pub record IsNewlyHeld (newly : Held) : Type 0 where
    pub same : newly ≡ record held { newest = newly.newest; answer = newly.answer }
    pub newest : newly.newest ≡ newly_kept
    pub came : large_answers.StandsFor newly.answer next

  pub kept_then : (new : Party) (newly : Held) (table : List Seen) → asks_upon f.kept route.tag answer ≡ true → IsHeardHeld party new table w q older rows f next → IsNewlyHeld newly → IsHeldIn new newly w q next (rows_upon f.kept next.kept rows)
  kept_then new newly table asks heard now = subst (λ (x : Held). IsHeldIn new x w q next (rows_upon f.kept next.kept rows)) (sym now.same) (record {
    beside = record {
      asker = heard.asker;
      keys = subst (λ k. StandFor k r (added ∷ h)) (sym heard.keys) (keys_stand_on party.keys r (added ∷ []) h (tt, tt) kept.beside.keys);
      number = heard.number ∙ kept.beside.number;
      places = heard.places;
    };
    at = kept.at;
    before = subst (λ k. StandsBefore new.answerer k (record held { newest = newly.newest; answer = newly.answer }) r (added ∷ h)) (sym heard.keys)
        (subst (λ s. StandsBefore s party.keys (record held { newest = newly.newest; answer = newly.answer }) r (added ∷ h)) (sym heard.answerer) (before_then newly.newest now.newest newly.answer));
    answer = now.came;
    lengths = kept.lengths;
    transfer = kept.transfer;
    gave = gave_then asks;
  })

  pub fetched_on : (new : Party) (newly : Held) (table : List Seen) → asks_upon f.kept route.tag answer ≡ true → IsHeardHeld party new table w q older rows f next → IsNewlyHeld newly
      → IsRepliedTo w q older rows f route answer (Ok upon.Fetched) new (IsHeldIn new newly w q) table
  fetched_on new newly table asks heard now = (next, goes asks, kept_then new newly table asks heard now, heard.stands)
