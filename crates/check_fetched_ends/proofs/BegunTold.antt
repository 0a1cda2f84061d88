-- What the calls tell of LargeResponse by which a fetch begins in a session.
use Rattle.std.proofs.Common.{◌≡◌, ◌<◌, ◌-◌, ◌^◌, ◌==◌, ◌&&◌, ◌||◌, ℕ, List, [], ◌∷◌, sym, ap, ◌∙◌, subst, drop, arith, Bool, true, false, Option, Some, cond, eqb-true}
use Rattle.std.specs.Prelude.{slice_index}
use Rattle.mctp_framing.specs.Cutting.{RouteFields}
use Rattle.check_requester.proofs.FewMessages.{after_more}
use Rattle.check_ends.proofs.InTurn.{AnswersInTurn}
use Rattle.check_responder.specs.AnswerKeys.{will_take}
use Rattle.check_responder.specs.JudgedResponder.{IsAnswerer}
use Rattle.check_requester.specs.JudgedRequester.{Carries}
use Rattle.check_responder.specs.RecordAnswers.{history_behind}
use Rattle.check_responder.specs.declared.judged_responder.JudgedResponder.{JudgedResponder}
use Rattle.check_responder.specs.declared.given.Given.TheVariants as given
use Rattle.check_laws.specs.Keeping.{Kept}
use Rattle.check_laws.specs.LargeShown.{IsShownLarge, drops_before, first_dropped, large_shown}
use Rattle.check_laws.specs.Order.{body_in, tag_in}
use Rattle.check_laws.specs.RepliesShown.{responder_for}
use Rattle.requester_machine.specs.May.{IsSetUp}
use Rattle.requester_machine.specs.Setup.{ReqSetup}
use Rattle.responder_machine.specs.Answer.{request_at}
use Rattle.responder_machine.specs.BoundLaws.{messages_of}
use Rattle.responder_machine.specs.History.{Entry, History}
use Rattle.responder_machine.specs.May.{on_body, with_dropped}
use Rattle.responder_machine.specs.Place.{held_of, session_place}
use Rattle.responder_machine.specs.Records.{opened}
use Rattle.responder_machine.specs.Responder.{Outcome, after}
use Rattle.responder_machine.specs.Responder.Outcome.{Adds}
use Rattle.responder_machine.specs.Session.{id_in_record, session_of}
use Rattle.responder_machine.specs.Setup.{RspSetup}
use Rattle.spdm_grammar.specs.Message.RequestMessage.{GetMeasurements}
use Rattle.spdm_machine.specs.Bodies.{record_body}
use Rattle.capture_machine.specs.Capture.{IsBody}
use Rattle.capture_machine.specs.Rounds.{Round, no_draw}
use Rattle.world_machine.specs.Setup.{Configuration}
use Rattle.check_fetched_ends.proofs.BeginsThere.{begun, f0, on_is, shown_is}

-- A body of type 6 is its record.
other_six : (n : ℕ) → (n == 5) ≡ false → (n == 5 || n == 6) ≡ true → n ≡ 6
other_six n none is = eqb-true n 6 (sym (ap (λ (b : Bool). b || n == 6) none) ∙ is)

record_again : (body : List ℕ) → slice_index body 0 ≡ 6 → record_body (drop 1 body) ≡ body
record_again [] is = absurd (omega (arith, is))
record_again (x ∷ body) is = ap (λ (n : ℕ). n ∷ body) (sym is)

pub six_again : (body : List ℕ) → (slice_index body 0 == 5) ≡ false → IsBody body → record_body (drop 1 body) ≡ body
six_again body type typed = record_again body (other_six (slice_index body 0) type typed)

module _ (w : Configuration) (q : ReqSetup) (older : List (List ℕ)) (k : Kept) (route : RouteFields) (answer : List ℕ) (byte : w.responder.beat < 256) (limits : IsSetUp k.setup) (carries : Carries w q older k) (turn : AnswersInTurn k route answer)
    (type : (slice_index turn.round.body 0 == 5) ≡ false) (will : will_take (responder_for w k) k.responder turn.round.body ≡ true) (large : IsShownLarge (responder_for w k) k.responder turn.round.tag turn.round.body answer) (op : ℕ)
    (asks : request_at (session_place (session_of (id_in_record (drop 1 turn.round.body)) k.responder)) (drop 1 (opened (responder_for w k).psk (session_of (id_in_record (drop 1 turn.round.body)) k.responder) (drop 1 turn.round.body))) ≡ Some (GetMeasurements op)) where
  abbrev r : RspSetup
  r = responder_for w k

  abbrev h : History
  h = k.responder

  abbrev round : Round
  round = turn.round

  abbrev e : Entry
  e = begun w q older k route answer byte limits carries turn type will large op asks

  no_drops : drops_before h round.body ≡ []
  no_drops = ap (λ (b : Bool). cond (b && held_of h == 4) (first_dropped h (1 ∷ 2 ∷ 3 ∷ 4 ∷ [])) []) type

  pub behind_large : (new : JudgedResponder) → IsAnswerer new (responder_for w k) (history_behind (responder_for w k) k.responder turn.round.tag turn.round.body answer given.Large) → IsAnswerer new (responder_for w k) (e ∷ k.responder)
  behind_large new is =
      subst (λ (o : Outcome). IsAnswerer new r (after h o)) (shown_is r h round.tag round.body answer type will large op asks)
      (subst (λ (l : List ℕ). IsAnswerer new r (after (with_dropped h l) (large_shown r h round.tag round.body answer))) no_drops is)

  pub adds_there : (seen : Option Round) → seen ≡ Some turn.round
      → after (with_dropped k.responder []) (on_body (responder_for w k) (with_dropped k.responder []) (tag_in seen) (body_in seen) (f0 (responder_for w k) k.responder turn.round.tag turn.round.body answer type will large) no_draw) ≡ e ∷ k.responder
  adds_there seen is =
      ap (λ (o : Option Round). after h (on_body r h (tag_in o) (body_in o) (f0 r h round.tag round.body answer type will large) no_draw)) is ∙ ap (after h) (on_is r h round.tag round.body answer type will large op asks)

  pub few_begun : messages_of k.responder < 2 ^ 64 - 1 → messages_of (e ∷ k.responder) < 2 ^ 64
  few_begun small = (let more = after_more h (Adds e) in omega (arith, small, more))
