-- What the calls tell of a chunk of a large response that is fetched in a session.
use Rattle.std.proofs.Common.{◌≡◌, ◌≤◌, ◌<◌, ◌-◌, ◌^◌, ◌==◌, ◌||◌, ℕ, List, [], ◌∷◌, sym, ap, ◌∙◌, subst, drop, length, arith, Bool, true, false, Option, Some, eqb-true}
use Rattle.std.specs.Prelude.{slice_index}
use Rattle.std.proofs.lemmas.Bool.{false≢true}
use Rattle.mctp_framing.specs.Cutting.{RouteFields}
use Rattle.check_requester.proofs.FewMessages.{after_more}
use Rattle.check_ends.proofs.InTurn.{AnswersInTurn}
use Rattle.check_ends.proofs.KeptTyped.{kept_body}
use Rattle.check_responder.specs.AnswerKeys.{StandFor}
use Rattle.check_responder.specs.JudgedResponder.{IsAnswerer, history_shown}
use Rattle.check_responder.specs.RecordAnswers.{IsGivenTo, history_behind}
use Rattle.check_responder.specs.declared.judged_responder.JudgedResponder.{JudgedResponder}
use Rattle.check_responder.specs.declared.given.Given.{Given}
use Rattle.check_responder.specs.declared.given.Given.TheVariants as given
use Rattle.check_ends.specs.declared.party.Party.{Party}
use Rattle.check_laws.specs.AnswersShown.{values_shown_by}
use Rattle.check_laws.specs.Keeping.{Kept, restored}
use Rattle.check_laws.specs.LargeShown.{last_shown}
use Rattle.check_laws.specs.Order.{body_in, tag_in}
use Rattle.check_laws.specs.RepliesShown.{responder_for}
use Rattle.check_late_laws.proofs.PlainLaws.{Now, now}
use Rattle.check_late_laws.proofs.PlainLaws.Now.{Version, Chunk}
use Rattle.check_late_laws.specs.Fetching.{Fetching, IsFetchingOf, MayStand}
use Rattle.requester_machine.specs.History.{outstanding}
use Rattle.requester_machine.specs.May.{IsSetUp}
use Rattle.requester_machine.specs.Setup.{ReqSetup}
use Rattle.responder_machine.specs.Answer.{Free}
use Rattle.responder_machine.specs.BoundLaws.{messages_of}
use Rattle.responder_machine.specs.History.{Entry, History}
use Rattle.responder_machine.specs.May.{on_body, with_dropped}
use Rattle.responder_machine.specs.Responder.{after}
use Rattle.responder_machine.specs.Responder.Outcome.{Adds}
use Rattle.responder_machine.specs.Setup.{RspSetup}
use Rattle.spdm_grammar.specs.declared.names.TheConstants.{MAX_MESSAGE_SIZE}
use Rattle.spdm_machine.specs.Bodies.{record_body}
use Rattle.capture_machine.specs.LargeAnswers.{is_fetching, with_large}
use Rattle.capture_machine.specs.Rounds.{Round, no_draw}
use Rattle.capture_machine.specs.SessionTable.{Row}
use Rattle.world_machine.specs.Setup.{Configuration}
use Rattle.check_fetched_ends.proofs.Filled.{filled_long}
use Rattle.check_fetched_ends.proofs.InSessionLast.{last_adds, last_entry}
use Rattle.check_fetched_ends.proofs.InSessionRecord.{unseen_stand}
use Rattle.check_fetched_ends.proofs.InSessionTold.{carries}
use Rattle.check_fetched_laws.proofs.RecordTaken.{body_adds, shown_behind}
use Rattle.check_fetched_laws.proofs.SeenKeys.{keys_given}
use Rattle.check_fetched_ends.specs.InSession.{IsReadIn}
use Rattle.check_fetched_ends.specs.declared.session_fetch.in_session.InSession.{InSession}

-- A body of type 6 is its record.
other_six : (n : ℕ) → (n == 5) ≡ false → (n == 5 || n == 6) ≡ true → n ≡ 6
other_six n none is = eqb-true n 6 (sym (ap (λ (b : Bool). b || n == 6) none) ∙ is)

record_again : (body : List ℕ) → slice_index body 0 ≡ 6 → record_body (drop 1 body) ≡ body
record_again [] is = absurd (omega (arith, is))
record_again (x ∷ body) is = ap (λ (n : ℕ). n ∷ body) (sym is)

-- An answer is one of them.
pub whole_not_last : Some given.Last ≡ Some given.Whole → ⊥
whole_not_last is = absurd (cc)

pub large_not_whole : Some given.Large ≡ Some given.Whole → ⊥
large_not_whole is = absurd (cc)

pub large_not_last : Some given.Large ≡ Some given.Last → ⊥
large_not_last is = absurd (cc)

module _ (w : Configuration) (q : ReqSetup) (older : List (List ℕ)) (rows : List Row) (f : Fetching) (route : RouteFields) (answer : List ℕ) (byte : w.responder.beat < 256) (limits : IsSetUp f.kept.setup) (own : IsFetchingOf w q older f) (turn : AnswersInTurn f.kept route answer)
    (party : Party) (fetched : InSession) (message whole : List ℕ) (read : IsReadIn party fetched w q f rows turn.round.body answer message whole) where
  abbrev k : Kept
  k = f.kept

  abbrev r : RspSetup
  r = responder_for w f.kept

  abbrev h : History
  h = f.kept.responder

  abbrev g : History
  g = with_large (Some fetched.id) whole f.kept.responder

  abbrev round : Round
  round = turn.round

  abbrev stand : MayStand f whole
  stand = subst (MayStand f) read.same read.kept.stands

  abbrev pub values : Free
  values = values_shown_by r g round.tag round.body answer

  abbrev pub entry : Entry
  entry = last_entry w q older rows f route answer byte limits own turn party fetched message whole read

  -- ---- The request.

  own_body : (request : List ℕ) → request ≡ drop 1 round.body → record_body request ≡ round.body
  own_body request is =
      ap record_body is ∙ record_again round.body (other_six (slice_index round.body 0) read.record_is (kept_body w q older k round (carries w q older rows f route answer byte limits own turn party fetched message whole read) turn.answers.0))

  -- The requester awaits a chunk.
  pub awaits : true ≡ is_fetching (outstanding (restored f.kept).requester)
  awaits = by_now (now w q older f own round turn.answers.0 whole stand)
    where
      by_now : Now f round whole → true ≡ is_fetching (outstanding (restored f.kept).requester)
      by_now (Version is) = absurd (false≢true (sym read.record_is ∙ ap (λ (l : List ℕ). slice_index l 0 == 5) is))
      by_now (Chunk gets fetch) = sym gets

  -- ---- What the responder gives.

  pub given_is : (request : List ℕ) (result : Option Given) → request ≡ drop 1 turn.round.body → IsGivenTo (responder_for w f.kept) (with_large (Some fetched.id) whole f.kept.responder) turn.round.tag (record_body request) answer result
      → IsGivenTo (responder_for w f.kept) (with_large (Some fetched.id) whole f.kept.responder) turn.round.tag turn.round.body answer result
  given_is request result is told = subst (λ (b : List ℕ). IsGivenTo r g round.tag b answer result) (own_body request is) told

  -- Both a chunk and the last one lead to one entry.
  pub behind_whole : (new : JudgedResponder) (request : List ℕ) → request ≡ drop 1 turn.round.body → IsAnswerer new (responder_for w f.kept) (history_behind (responder_for w f.kept) (with_large (Some fetched.id) whole f.kept.responder) turn.round.tag (record_body request) answer given.Whole)
      → IsAnswerer new (responder_for w f.kept) (entry ∷ with_large (Some fetched.id) whole f.kept.responder)
  behind_whole new request is stands =
      subst (IsAnswerer new r) (shown_behind r g round.tag round.body answer read.record_is read.read.taken read.sealed)
      (subst (λ (b : List ℕ). IsAnswerer new r (history_shown r g round.tag b answer)) (own_body request is) stands)

  pub behind_last : (new : JudgedResponder) (request : List ℕ) → request ≡ drop 1 turn.round.body → IsAnswerer new (responder_for w f.kept) (history_behind (responder_for w f.kept) (with_large (Some fetched.id) whole f.kept.responder) turn.round.tag (record_body request) answer given.Last)
      → IsAnswerer new (responder_for w f.kept) (entry ∷ with_large (Some fetched.id) whole f.kept.responder)
  behind_last new request is stands =
      subst (IsAnswerer new r) (ap (after g) (last_adds w q older rows f route answer byte limits own turn party fetched message whole read))
      (subst (λ (b : List ℕ). IsAnswerer new r (after g (last_shown r g round.tag b answer))) (own_body request is) stands)

  pub few_behind : messages_of (with_large (Some fetched.id) whole f.kept.responder) < 2 ^ 64 - 1 → messages_of (entry ∷ with_large (Some fetched.id) whole f.kept.responder) < 2 ^ 64
  few_behind small = (let more = after_more g (Adds entry) in omega (arith, small, more))

  -- The bytes are no more than those of a message.
  pub long_whole : length whole ≤ MAX_MESSAGE_SIZE
  long_whole =
      let long = ap (λ (l : List ℕ). length l) read.fills in
      let all = filled_long fetched.answer.number fetched.answer.size fetched.answer.bytes message read.fits.within in
      let few = read.fits.few in omega (arith, long, all, few)

  -- ---- The keys.

  pub keys_before : StandFor party.keys (responder_for w f.kept) (with_large (Some fetched.id) whole f.kept.responder)
  keys_before = keys_given party.keys r fetched.id whole h (unseen_stand w q older f route answer byte limits own turn fetched.id read.kept.at read.record_is whole stand) read.kept.beside.keys

  -- What is handed in leads to that entry.
  pub adds_at : (seen : Option Round) → seen ≡ Some turn.round
      → after (with_dropped (with_large (Some fetched.id) whole f.kept.responder) []) (on_body (responder_for w f.kept) (with_dropped (with_large (Some fetched.id) whole f.kept.responder) []) (tag_in seen) (body_in seen) values no_draw) ≡ entry ∷ with_large (Some fetched.id) whole f.kept.responder
  adds_at seen is =
      ap (λ (o : Option Round). after g (on_body r g (tag_in o) (body_in o) values no_draw)) is ∙ ap (after g) (body_adds r g round.tag round.body answer read.record_is read.read.taken values)
