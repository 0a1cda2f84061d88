-- Whether the requester asks for a chunk on an answer tells whether a large response is fetched after it.
use Rattle.std.proofs.Common.{◌≡◌, ◌∙◌, ◌||◌, ℕ, List, refl, sym, ap, Bool, true, false, Option, Some, None, is_some, cond, inl}
use Rattle.std.specs.Prelude.{not}
use Rattle.std.proofs.lemmas.Bool.{false≢true}
use Rattle.std.proofs.lemmas.Option.{none-some}
use Rattle.mctp_framing.specs.Cutting.{RouteFields}
use Rattle.mctp_framing.specs.Gathering.Gathered.{Whole}
use Rattle.check_requester.specs.JudgedRequester.{Carries}
use Rattle.check_requester.specs.HeardKept.{asks_upon, heard_kept}
use Rattle.check_laws.specs.Keeping.{Kept}
use Rattle.check_laws.specs.RepliesShown.{AnswersRound, answered, responder_for}
use Rattle.check_fetched_ends.proofs.HeardOn.{IsHeardOn, asks_on, heard_on}
use Rattle.check_fetched_ends.specs.AsksUpon.{AnswersTellAsking, PlainEndsFetching}
use Rattle.check_late_laws.specs.Fetching.{Fetching, IsFetchingOf, MayStand, dialogue_of}
use Rattle.check_late_laws.specs.FetchingLaws.{EndsFetching, GoesFetching, TurnsFetching}
use Rattle.requester_machine.specs.History as requester_history
use Rattle.requester_machine.specs.History.{outstanding}
use Rattle.requester_machine.specs.May.{IsSetUp}
use Rattle.requester_machine.specs.Setup.{ReqSetup}
use Rattle.responder_machine.specs.History.{History}
use Rattle.capture_machine.specs.Capture.{IsBody, RepliesBy}
use Rattle.capture_machine.specs.CapturedAnswers.{Answers, AnswersPlainly, Hears}
use Rattle.capture_machine.specs.LargeAnswers.{is_fetching, while_fetched}
use Rattle.capture_machine.specs.Rounds.{Dialogue, Round}
use Rattle.world_machine.specs.Setup.{Configuration}

none_by : (b : Bool) (o : Option (List ℕ)) → cond b o None ≡ None → (not b || is_some o) ≡ true → b ≡ false
none_by false o none known = refl
none_by true None none known = absurd (false≢true known)
none_by true (Some x) none known = absurd (none-some x (sym none))

module _ (w : Configuration) (q : ReqSetup) (older : List (List ℕ)) (f : Fetching) (route : RouteFields) (answer : List ℕ) (limits : IsSetUp f.kept.setup) (own : IsFetchingOf w q older f) where
  carries : (whole : List ℕ) → MayStand f whole → Carries w q older f.kept
  carries whole stand = (Some whole, own.all whole stand, own.kept)

  asks_as : (whole : List ℕ) → MayStand f whole → (round : Round) → f.kept.round ≡ Some round → round.tag ≡ route.tag → (g : requester_history.History) → Hears (dialogue_of f whole) route.tag answer g
      → asks_upon f.kept route.tag answer ≡ is_fetching (outstanding g)
  asks_as whole stand round at one g hears = sym (asks_on w q older f.kept limits (carries whole stand) route.tag round answer at one (Some whole) g hears)

  pub goes_asks : (next : Fetching) → GoesFetching w f (Whole route answer) next → asks_upon f.kept route.tag answer ≡ true
  goes_asks next c = let it = c.2.2 in asks_as it.0 it.2 c.2.0 c.2.1.0 c.2.1.1 it.4.0 it.4.1 ∙ it.4.2

  pub turns_asks : (next : Fetching) → TurnsFetching w f (Whole route answer) next → asks_upon f.kept route.tag answer ≡ true
  turns_asks next c = let it = c.2.2 in asks_as it.0 it.3 c.2.0 c.2.1.0 c.2.1.1 it.5.0 it.5.1 ∙ it.5.2

  pub ends_asks : (next : Kept) → EndsFetching w f (Whole route answer) next → asks_upon f.kept route.tag answer ≡ false
  ends_asks next c =
      let it = c.3.2 in
      let heard = it.4.3 in
      asks_as c.0 c.2 it.0 it.1 it.2 heard.0 heard.1
      ∙ none_by (is_fetching (outstanding heard.0)) it.4.1 (sym (ap (λ (d : Dialogue). d.fetching) heard.2) ∙ c.4) heard.3

  module _ (body : IsBody answer) (owner : route.owner ≡ false) (round : Round) (answers : AnswersRound f.kept route.tag round) (whole : List ℕ) (h : History) (stand : MayStand f whole)
      (plainly : AnswersPlainly (responder_for w f.kept) (dialogue_of f whole) round answer h) (idle : asks_upon f.kept route.tag answer ≡ false) where
    heard : IsHeardOn f.kept (dialogue_of f whole) route.tag round answer h
    heard = heard_on w q older f.kept limits (carries whole stand) route.tag round answer answers.0 answers.1 (Some whole) h

    abbrev behind : Dialogue
    behind = record (dialogue_of f whole) { requester = heard.history; responder = h; fetching = while_fetched heard.history (Some whole); round = Some (answered round) }

    awaits_none : is_fetching (outstanding heard.history) ≡ false
    awaits_none = heard.asks ∙ idle

    replies : RepliesBy w (dialogue_of f whole) (Whole route answer) behind
    unfolding Answers
    replies = (body, owner, (round, answers.0, answers.1, answers.2, (h, Some whole, inl (plainly, refl), (heard.history, heard.hears, refl, ap (λ (b : Bool). not b || true) awaits_none))))

    pub plain_ends : EndsFetching w f (Whole route answer) (heard_kept f.kept h route.tag round answer)
    plain_ends = (whole, behind, stand, replies, ap (λ (b : Bool). cond b (Some whole) None) awaits_none, sym heard.kept)

pub answers_tell_asking : AnswersTellAsking
answers_tell_asking w q older f route answer limits own = record {
  goes = goes_asks w q older f route answer limits own;
  turns = turns_asks w q older f route answer limits own;
  ends = ends_asks w q older f route answer limits own;
}

pub plain_ends_fetching : PlainEndsFetching
plain_ends_fetching w q older f route answer round whole h limits own body owner answers stand plainly idle = plain_ends w q older f route answer limits own body owner round answers whole h stand plainly idle
