-- The same answer again to a repeat, while a large one is fetched in the clear: nothing more is kept of it.
use Rattle.std.proofs.Common.{◌≡◌, ◌≢◌, ◌==◌, ℕ, List, ◌∷◌, refl, sym, ap, ◌∙◌, subst, drop, length, arith, Bool, true, false, Option, Some, None, cond, Ok}
use Rattle.std.specs.Prelude.{nat_lt, slice_index}
use Rattle.std.proofs.lemmas.Bool.Decides.{nat_tests}
use Rattle.mctp_framing.specs.Cutting.{RouteFields}
use Rattle.mctp_framing.specs.Gathering.Gathered.{Whole}
use Rattle.check_ends.proofs.InTurn.{AnswersInTurn}
use Rattle.check_responder.specs.AnswerKeys.{StandFor}
use Rattle.check_requester.specs.JudgedRequester.{Carries}
use Rattle.check_requester.specs.HeardKept.{asks_upon, heard_kept}
use Rattle.check_responder.specs.ShownBy.{HasFewBlocks}
use Rattle.check_ends.specs.declared.party.Party.{Party}
use Rattle.check_laws.specs.Changes.{answered_in}
use Rattle.check_laws.specs.Keeping.{Kept}
use Rattle.check_laws.specs.RepliesShown.{responder_for}
use Rattle.check_laws.specs.declared.verdict.Seen.{Seen}
use Rattle.check_fetched_laws.proofs.NoneTurns.{repeat_may_go}
use Rattle.check_fetched_ends.proofs.HeardOn.{heard_on}
use Rattle.check_fetched_ends.proofs.HeldNever.{clear_shape}
use Rattle.check_fetched_ends.proofs.HeldRounds.{again_is, type}
use Rattle.check_fetched_ends.specs.Fetched.{IsRepliedTo, rows_upon}
use Rattle.check_fetched_ends.specs.Held.{IsHeardHeld, IsHeldIn, IsQuiet, StandsBefore, repeats_held}
use Rattle.check_fetched_ends.specs.declared.clear_fetch.held.Held.{Held}
use Rattle.check_fetched_ends.specs.declared.upon.Upon.TheVariants as upon
use Rattle.check_late_laws.specs.Fetching.{Fetching, IsFetchingOf, MayStand, dialogue_of}
use Rattle.check_late_laws.specs.FetchingLaws.{GoesFetching}
use Rattle.requester_machine.specs.May.{IsSetUp}
use Rattle.requester_machine.specs.Setup.{ReqSetup}
use Rattle.responder_machine.specs.History.{History, kept_of}
use Rattle.responder_machine.specs.Responder.{is_repeat, kept_reply}
use Rattle.responder_machine.specs.Setup.{RspSetup}
use Rattle.spdm_grammar.specs.Message.RequestMessage.{GetVersion}
use Rattle.spdm_grammar.specs.Requests.{canonical_request}
use Rattle.spdm_machine.specs.Bodies.{clear_body}
use Rattle.capture_machine.specs.CapturedAnswers.{AnswersPlainly}
use Rattle.capture_machine.specs.Rounds.{Round}
use Rattle.capture_machine.specs.SessionTable.{Row}
use Rattle.world_machine.specs.Setup.{Configuration}

not_longer : (n : ℕ) → nat_lt n n ≡ false
not_longer n = grind (arith, nat_tests)

module _ (w : Configuration) (q : ReqSetup) (older : List (List ℕ)) (rows : List Row) (f : Fetching) (own : IsFetchingOf w q older f) (party : Party) (held : Held) (kept : IsHeldIn party held w q f rows) (route : RouteFields) (answer : List ℕ) (limits : IsSetUp f.kept.setup) (turn : AnswersInTurn f.kept route answer) (other : turn.round.body ≢ clear_body (canonical_request GetVersion)) (again : repeats_held held turn.round.tag turn.round.body ≡ true)
    (few : HasFewBlocks (responder_for w f.kept)) (is_same : clear_body (kept_reply held.newest) ≡ answer) where
  abbrev r : RspSetup
  r = responder_for w f.kept

  abbrev h : History
  h = f.kept.responder

  abbrev round : Round
  round = turn.round

  abbrev v : List ℕ
  v = own.stands.0

  pub plainly : AnswersPlainly r (dialogue_of f own.stands.0) turn.round answer f.kept.responder
  plainly =
      let body : round.body ≡ clear_body (drop 1 round.body) = clear_shape round.body (type w q older rows f own party held kept round turn.answers.0 other) in
      let here : is_repeat (kept_of h) round.tag (drop 1 round.body) ≡ true = sym (again_is w q older rows f own party held kept round turn.answers.0 other) ∙ again in
      subst (λ (l : List ℕ). AnswersPlainly r (dialogue_of f v) round l h) (ap (λ o. clear_body (kept_reply o)) (sym kept.before.newest) ∙ is_same)
      (repeat_may_go r (dialogue_of f v) v round (drop 1 round.body) few refl body here)

  carries : Carries w q older f.kept
  carries = (Some v, own.all v own.stands.1, own.kept)

  abbrev pub next : Fetching
  next = record f { kept = heard_kept f.kept f.kept.responder route.tag turn.round answer }

  pub goes : asks_upon f.kept route.tag answer ≡ true → GoesFetching w f (Whole route answer) next
  goes asks =
      let heard = heard_on w q older f.kept limits carries route.tag round answer turn.answers.0 turn.answers.1 (Some v) h in
      (turn.body, turn.owner, (round, turn.answers, (v, h, own.stands.1, plainly, (heard.history, heard.hears, heard.asks ∙ asks, ap (λ (x : Kept). record f { kept = x }) (sym heard.kept)))))

  pub quiet : IsQuiet f.kept.responder f.kept.responder
  quiet = record { begun = refl; taken = ap (λ (b : Bool). cond b (answered_in h) None) (not_longer (length h)); views = refl }

  pub kept_then : (new : Party) (table : List Seen) → IsHeardHeld party new table w q older rows f next → IsHeldIn new held w q next (rows_upon f.kept next.kept rows)
  kept_then new table heard = record {
    beside = record {
      asker = heard.asker;
      keys = subst (λ k. StandFor k r h) (sym heard.keys) kept.beside.keys;
      number = heard.number ∙ kept.beside.number;
      places = heard.places;
    };
    at = kept.at;
    before = subst (λ k. StandsBefore new.answerer k held r h) (sym heard.keys) (subst (λ s. StandsBefore s party.keys held r h) (sym heard.answerer) kept.before);
    answer = record { size = kept.answer.size; number = kept.answer.number; bytes = kept.answer.bytes };
    lengths = kept.lengths;
    transfer = kept.transfer;
    gave = kept.gave;
  }

  pub fetched_same : (new : Party) (table : List Seen) → asks_upon f.kept route.tag answer ≡ true → IsHeardHeld party new table w q older rows f next
      → IsRepliedTo w q older rows f route answer (Ok upon.Fetched) new (IsHeldIn new held w q) table
  fetched_same new table asks heard = (next, goes asks, kept_then new table heard, heard.stands)
