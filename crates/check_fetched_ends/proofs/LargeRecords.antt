-- A record that gets LargeResponse asks for measurements in its session, and gets it in a record.
use Rattle.std.proofs.Common.{◌≡◌, ◌==◌, ◌&&◌, ◌∙◌, ℕ, List, [], ◌∷◌, refl, sym, ap, subst, drop, Bool, true, false, Some, eq-eqb}
use Rattle.std.specs.Prelude.{slice_index}
use Rattle.std.proofs.lemmas.Bool.{false≢true}
use Rattle.std.proofs.lemmas.Option.{same_Some}
use Rattle.check_ends.proofs.InTurn.{AnswersInTurn}
use Rattle.check_responder.specs.AnswerKeys.{asks_for}
use Rattle.check_laws.specs.AnswersShown.{values_shown_by}
use Rattle.check_laws.specs.Keeping.{Kept}
use Rattle.check_laws.specs.LargeShown.{IsShownLarge}
use Rattle.check_laws.specs.RepliesShown.{responder_for}
use Rattle.check_fetched_laws.proofs.LargeTaken.{large_taken}
use Rattle.check_fetched_ends.proofs.LargeTurns.{is_large_turn}
use Rattle.check_fetched_ends.proofs.NeverPrepared.{adds, goes}
use Rattle.check_fetched_ends.specs.BegunIn.{IsLargeInRecord}
use Rattle.mctp_framing.specs.Cutting.{RouteFields}
use Rattle.responder_machine.proofs.Codes.{asked-code}
use Rattle.responder_machine.specs.Answer.{Free}
use Rattle.responder_machine.specs.History.{History}
use Rattle.responder_machine.specs.Place.{session_place}
use Rattle.responder_machine.specs.Records.{opened}
use Rattle.responder_machine.specs.Responder.{Outcome, body_of}
use Rattle.responder_machine.specs.Session.{Events, id_in_record, session_of}
use Rattle.responder_machine.specs.Setup.{RspSetup}
use Rattle.spdm_grammar.specs.Message.RequestMessage.{GetMeasurements}
use Rattle.spdm_grammar.specs.declared.names.request_code.TheConstants.{GET_MEASUREMENTS}
use Rattle.capture_machine.specs.Rounds.{Round}
use Rattle.world_machine.specs.Setup.{Configuration}

second : (l : List ℕ) → slice_index (drop 1 l) 1 ≡ slice_index l 2
second [] = refl
second (x ∷ l) = refl

module _ (r : RspSetup) (h : History) (tag : ℕ) (body answer : List ℕ) (type : (slice_index body 0 == 5) ≡ false) (large : IsShownLarge r h tag body answer) where
  abbrev s : Events
  s = session_of (id_in_record (drop 1 body)) h

  abbrev inner : List ℕ
  inner = opened r.psk (session_of (id_in_record (drop 1 body)) h) (drop 1 body)

  abbrev f : Free
  f = values_shown_by r h tag body answer

  code_is : (slice_index inner 2 == GET_MEASUREMENTS) ≡ true
  code_is =
      let turn = is_large_turn r s inner f (goes r h tag body answer type large) in
      eq-eqb (slice_index inner 2) GET_MEASUREMENTS (sym (second inner) ∙ sym (asked-code (session_place s) (drop 1 inner) (GetMeasurements turn.op) turn.asks))

  pub large_asks : asks_for r h body GET_MEASUREMENTS ≡ true
  large_asks = ap (λ (b : Bool). b && (slice_index inner 2 == GET_MEASUREMENTS)) (large_taken r h tag body answer type large) ∙ code_is

  pub large_sealed : (slice_index answer 0 == 5) ≡ false
  large_sealed = ap (λ (l : List ℕ). slice_index l 0 == 5) (sym (sym (ap (λ (o : Outcome). body_of o) (adds r h tag body answer type large)) ∙ large.2))

-- One that asks for none gets none.
pub none_asked : (w : Configuration) (k : Kept) (tag : ℕ) (answer body : List ℕ) → ((round : Round) → k.round ≡ Some round → body ≡ round.body)
    → asks_for (responder_for w k) k.responder body GET_MEASUREMENTS ≡ false → IsLargeInRecord w k tag answer → ⊥
none_asked w k tag answer body at none is =
    let r : RspSetup = responder_for w k in
    let asked : List ℕ = is.0.body in
    false≢true
    (sym none ∙ ap (λ (l : List ℕ). asks_for r k.responder l GET_MEASUREMENTS) (at is.0 is.1.0) ∙ large_asks r k.responder is.0.tag asked answer is.2 is.3)

module _ (w : Configuration) (k : Kept) (route : RouteFields) (answer : List ℕ) (turn : AnswersInTurn k route answer) where
  -- It is LargeResponse to the record of this round.
  pub record IsRecordHere : Type 0 where
    pub type : (slice_index turn.round.body 0 == 5) ≡ false
    pub large : IsShownLarge (responder_for w k) k.responder turn.round.tag turn.round.body answer

  pub record_here : IsLargeInRecord w k route.tag answer → IsRecordHere
  record_here is =
      let same : is.0 ≡ turn.round = same_Some is.0 turn.round (sym is.1.0 ∙ turn.answers.0) in record {
        type = subst (λ (x : Round). (slice_index x.body 0 == 5) ≡ false) same is.2;
        large = subst (λ (x : Round). IsShownLarge (responder_for w k) k.responder x.tag x.body answer) same is.3;
      }
