-- An answer while a large one is fetched in the clear, by what it was found to be: what is reported of it.
use Rattle.std.proofs.Common.{◌≡◌, ◌≢◌, ◌∙◌, ◌↔◌, ◌≤◌, IsTrue, ℕ, List, ◌∷◌, refl, sym, ap, subst, drop, length, Bool, true, false, Option, Some, None, Result, Ok}
use Rattle.std.specs.Prelude.{OnOk}
use Rattle.spdm_basis.specs.declared.OutOfMemory.{OutOfMemory}
use Rattle.spdm_grammar.specs.declared.names.TheConstants.{MAX_MESSAGE_SIZE}
use Rattle.check_late_laws.specs.FetchingShown.{ShowsChunk}
use Rattle.check_late_laws.specs.LargeAnswers as large_answers
use Rattle.std.proofs.lemmas.Bool.{false≢true}
use Rattle.mctp_framing.specs.Cutting.{RouteFields}
use Rattle.check_ends.proofs.InTurn.{AnswersInTurn}
use Rattle.check_requester.specs.HeardKept.{asks_upon, heard_kept}
use Rattle.check_responder.specs.ShownBy.{HasFewBlocks}
use Rattle.check_ends.specs.declared.party.Party.{Party}
use Rattle.check_laws.specs.KeptChanges.{accepted_from}
use Rattle.check_laws.specs.Order.{body_in, tag_in}
use Rattle.check_laws.specs.RepliesShown.{responder_for}
use Rattle.check_laws.specs.declared.verdict.Seen.{Seen}
use Rattle.check_fetched_ends.proofs.ClearAsks.{clear_asks_on}
use Rattle.check_fetched_ends.proofs.HeldCut.{filled_cut, may_stand}
use Rattle.check_fetched_ends.proofs.HeldSame as same
use Rattle.check_fetched_ends.proofs.HeldTook as took
use Rattle.check_fetched_ends.specs.Fetched.{IsRepliedTo}
use Rattle.check_fetched_ends.specs.Held.{AreHeldFitting, CanBeCut, IsHeardHeld, IsHeldIn, IsQuiet, IsShownHeld, filled_with, repeats_held}
use Rattle.check_fetched_ends.specs.declared.clear_fetch.held.Held.{Held}
use Rattle.check_fetched_ends.specs.declared.clear_fetch.shown.Shown.{Shown}
use Rattle.check_fetched_ends.specs.declared.clear_fetch.shown.Shown.TheVariants as shown
use Rattle.check_fetched_ends.specs.declared.upon.Upon.TheVariants as upon
use Rattle.check_late_laws.proofs.PlainLaws.{Now, now}
use Rattle.check_late_laws.proofs.PlainLaws.Now.{Version, Chunk}
use Rattle.check_late_laws.specs.Fetching.{Fetching, IsFetchingOf, MayStand, answer_by, dialogue_of}
use Rattle.requester_machine.specs.History.{outstanding}
use Rattle.requester_machine.specs.May.{IsSetUp}
use Rattle.requester_machine.specs.Setup.{ReqSetup}
use Rattle.check_laws.specs.Keeping.{restored}
use Rattle.responder_machine.specs.History.{History}
use Rattle.spdm_grammar.specs.Message.RequestMessage.{GetVersion}
use Rattle.spdm_grammar.specs.Requests.{canonical_request}
use Rattle.spdm_machine.specs.Bodies.{clear_body}
use Rattle.capture_machine.specs.CapturedAnswers.{AnswersPlainly}
use Rattle.capture_machine.specs.LargeAnswers.{is_fetching}
use Rattle.capture_machine.specs.Rounds.{Round}
use Rattle.capture_machine.specs.SessionTable.{Row}
use Rattle.world_machine.specs.Setup.{Configuration}

module _ (w : Configuration) (q : ReqSetup) (older : List (List ℕ)) (rows : List Row) (f : Fetching) (own : IsFetchingOf w q older f) (party : Party) (held : Held) (kept : IsHeldIn party held w q f rows) (route : RouteFields) (answer : List ℕ) (limits : IsSetUp f.kept.setup) (turn : AnswersInTurn f.kept route answer) (other : turn.round.body ≢ clear_body (canonical_request GetVersion)) where
  -- A chunk is awaited.
  pub awaits : is_fetching (outstanding (restored f.kept).requester) ≡ true
  awaits = by_now (now w q older f own turn.round turn.answers.0 own.stands.0 own.stands.1)
    where
      by_now : Now f turn.round own.stands.0 → is_fetching (outstanding (restored f.kept).requester) ≡ true
      by_now (Version version) = absurd (other version)
      by_now (Chunk gets fetch) = gets

  -- What it was found to be.
  pub shown_as : (tag : ℕ) (body : List ℕ) (told : Shown) → tag ≡ turn.round.tag → body ≡ turn.round.body
      → ((repeats_held held tag body ≡ false → AreHeldFitting held (drop 1 answer) → CanBeCut held (filled_with held answer)) → IsShownHeld held tag body answer told)
      → IsShownHeld held turn.round.tag turn.round.body answer told
  shown_as tag body told one two tells =
      let P : ℕ → List ℕ → Type 0 = λ n l. (repeats_held held n l ≡ false → AreHeldFitting held (drop 1 answer) → CanBeCut held (filled_with held answer)) → IsShownHeld held n l answer told in
      subst (P turn.round.tag) two (subst (λ (n : ℕ). P n body) one tells) (λ anew fits. filled_cut w q older rows f own party held kept turn.round turn.answers.0 other anew answer fits)

  -- On an answer that goes whole the requester asks for a chunk, and takes it for no PSK_EXCHANGE_RSP.
  abbrev pub IsAskedOn : Type 0
  IsAskedOn = (asks_upon f.kept route.tag answer ≡ true) × (accepted_from f.kept route.tag answer ≡ None)

  asks_on : (v : List ℕ) (behind : History) → MayStand f v → AnswersPlainly (responder_for w f.kept) (dialogue_of f v) turn.round answer behind → IsAskedOn
  asks_on v behind stand plain =
      subst (λ (n : ℕ). (asks_upon f.kept n answer ≡ true) × (accepted_from f.kept n answer ≡ None)) turn.answers.1 (clear_asks_on w q older f turn.round answer v behind own kept.at turn.answers.0 other stand plain)

  pub same_asks : IsShownHeld held turn.round.tag turn.round.body answer shown.Same → HasFewBlocks (responder_for w f.kept) → IsAskedOn
  same_asks told few = asks_on own.stands.0 f.kept.responder own.stands.1 (same.plainly w q older rows f own party held kept route answer limits turn other told.0 few told.1)

  module _ (new : Party) (table : List Seen) where
    -- The same again.
    abbrev pub next_same : Fetching
    next_same = record f { kept = heard_kept f.kept f.kept.responder route.tag turn.round answer }

    pub same_on : IsShownHeld held turn.round.tag turn.round.body answer shown.Same → HasFewBlocks (responder_for w f.kept) → IsHeardHeld party new table w q older rows f next_same
        → IsRepliedTo w q older rows f route answer (Ok upon.Fetched) new (IsHeldIn new held w q) table
    same_on told few heard = same.fetched_same w q older rows f own party held kept route answer limits turn other told.0 few told.1 new table (same_asks told few).0 heard

  -- The next chunk, and more follow.
  module _ (told : IsShownHeld held turn.round.tag turn.round.body answer shown.Between) where
    abbrev v : List ℕ
    v = filled_with held answer

    pub stand : MayStand f (filled_with held answer)
    stand = may_stand w q rows f party held kept (drop 1 answer) told.1.fits

    abbrev pub behind_took : History
    behind_took = took.added w q older rows f own party held kept route answer limits turn other told.0 (filled_with held answer) stand told.1.chunk told.1.last ∷ f.kept.responder

    abbrev pub next_took : Fetching
    next_took = took.next w q older rows f own party held kept route answer limits turn other told.0 (filled_with held answer) stand told.1.chunk told.1.last

    abbrev pub IsNewly : Held → Type 0
    IsNewly newly = took.IsNewlyHeld w q older rows f own party held kept route answer limits turn other told.0 (filled_with held answer) stand told.1.chunk told.1.last newly

    pub took_quiet : IsQuiet f.kept.responder (took.added w q older rows f own party held kept route answer limits turn other told.0 (filled_with held answer) stand told.1.chunk told.1.last ∷ f.kept.responder)
    took_quiet = took.quiet w q older rows f own party held kept route answer limits turn other told.0 (filled_with held answer) stand told.1.chunk told.1.last

    pub took_asks : IsAskedOn
    took_asks = asks_on (filled_with held answer) next_took.kept.responder stand (took.plainly w q older rows f own party held kept route answer limits turn other told.0 (filled_with held answer) stand told.1.chunk told.1.last)

    pub took_on : (new : Party) (newly : Held) (table : List Seen) → IsHeardHeld party new table w q older rows f next_took → IsNewly newly
        → IsRepliedTo w q older rows f route answer (Ok upon.Fetched) new (IsHeldIn new newly w q) table
    took_on new newly table heard now = took.fetched_on w q older rows f own party held kept route answer limits turn other told.0 (filled_with held answer) stand told.1.chunk told.1.last new newly table took_asks.0 heard now

    -- What the chunk leaves of what is held.
    pub newly_is : (newly : Held) (tag : ℕ) (body : List ℕ) → tag ≡ turn.round.tag → body ≡ turn.round.body → newly ≡ record held { newest = newly.newest; answer = newly.answer }
        → (length (drop 1 body) ≤ MAX_MESSAGE_SIZE → length (drop 1 answer) ≤ MAX_MESSAGE_SIZE → newly.newest ≡ Some (record { tag = tag; message = drop 1 body; reply = drop 1 answer }))
        → ((f next : Fetching) (sent : List ℕ) (shown : ShowsChunk f next sent) → answer_by shown.entry ≡ drop 1 answer → large_answers.StandsFor held.answer f → large_answers.StandsFor newly.answer next)
        → IsNewly newly
    newly_is newly tag body one two is newest came =
        let few : length (drop 1 body) ≤ MAX_MESSAGE_SIZE =
        subst (λ (l : List ℕ). length (drop 1 l) ≤ MAX_MESSAGE_SIZE) (sym two) (took.few_asked w q older rows f own party held kept route answer limits turn other told.0 (filled_with held answer) stand told.1.chunk told.1.last) in
        record {
          same = is;
          newest = newest few (took.few_given w q older rows f own party held kept route answer limits turn other told.0 (filled_with held answer) stand told.1.chunk told.1.last)
              ∙ ap (λ (n : ℕ). Some (record { tag = n; message = drop 1 body; reply = drop 1 answer })) one ∙ ap (λ (l : List ℕ). Some (record { tag = turn.round.tag; message = drop 1 l; reply = drop 1 answer })) two;
          came = came f next_took answer (took.shows w q older rows f own party held kept route answer limits turn other told.0 (filled_with held answer) stand told.1.chunk told.1.last)
              (took.its_message w q older rows f own party held kept route answer limits turn other told.0 (filled_with held answer) stand told.1.chunk told.1.last) kept.answer;
        }

-- ---- What the calls tell.

module _ (f : Fetching) (route : RouteFields) (answer : List ℕ) (turn : AnswersInTurn f.kept route answer) (seen : Option Round) (now_is : seen ≡ f.kept.round) where
  pub round_is : seen ≡ Some turn.round
  round_is = now_is ∙ turn.answers.0

  pub body_is : (body : List ℕ) → body ≡ body_in seen → body ≡ turn.round.body
  body_is body is = is ∙ ap body_in round_is

  pub tag_is : (tag : ℕ) → tag ≡ tag_in seen → tag ≡ turn.round.tag
  tag_is tag is = is ∙ ap tag_in round_is

  -- The request is no GET_VERSION.
  pub not_version : (body : List ℕ) → body ≡ body_in seen → (result : Bool) → (IsTrue result ↔ (clear_body (canonical_request GetVersion) ≡ body)) → result ≡ false → turn.round.body ≢ clear_body (canonical_request GetVersion)
  not_version body of result told none = λ is. false≢true (sym none ∙ told.1 (sym (body_is body of ∙ is)))

-- What is reported of a result, where it is this one.
pub heard_as : (P : Type 0) (result : Result Unit OutOfMemory) (it : Unit) → OnOk result P → result ≡ Ok it → P
heard_as P result it told was = subst (λ (x : Result Unit OutOfMemory). OnOk x P) was told
