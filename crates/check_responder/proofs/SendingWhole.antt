-- While a large request is sent no answer begins a large response, and none ends one.
use Rattle.std.proofs.Common.{◌≡◌, ◌∙◌, ◌&&◌, ℕ, List, refl, sym, ap, Bool, true, false, not}
use Rattle.std.proofs.lemmas.Bool.{false≢true}
use Rattle.requester_machine.specs.Setup.{ReqSetup}
use Rattle.responder_machine.specs.History.{History}
use Rattle.responder_machine.specs.May.{on_body, with_dropped}
use Rattle.responder_machine.specs.Responder.{Outcome}
use Rattle.responder_machine.specs.Responder.Outcome.{Same, Unopened, Adds}
use Rattle.responder_machine.specs.Setup.{RspSetup}
use Rattle.spdm_basis.proofs.Bools.{and_first, and_second}
use Rattle.check_laws.specs.AnswersShown.{is_whole, values_shown_by}
use Rattle.check_laws.specs.LargeShown.{IsShownLarge, drops_before, ends_large, last_shown}
use Rattle.check_responder.specs.ClearAnswers.{EndsLarge}
use Rattle.check_laws.proofs.Large.ChunkAnswers.{chunks_lead_plainly}
use Rattle.check_laws.proofs.Large.ChunkRounds.{sending_asks_chunk}
use Rattle.check_laws.specs.Large.Sending.{IsSendingOf, Sending}
use Rattle.capture_machine.specs.CapturedAnswers.{is_plain}
use Rattle.capture_machine.specs.LargeAnswers.{gives_last, is_large}
use Rattle.capture_machine.specs.Rounds.{no_draw}
use Rattle.world_machine.specs.Setup.{Configuration}

-- What leads plainly brings no LargeResponse.
plain_whole : (h : History) (o : Outcome) → is_plain h o ≡ true → is_whole o ≡ true
plain_whole h (Same body) plain = refl
plain_whole h (Unopened body) plain = refl
plain_whole h (Adds entry) plain = and_first (not (is_large entry)) (not (gives_last h entry)) plain

not_both : (b : Bool) → not b ≡ true → b ≡ true → ⊥
not_both true off on = false≢true off
not_both false off on = false≢true on

-- Nor the last chunk of a large response.
plain_ends : (h : History) (o : Outcome) → is_plain h o ≡ true → ends_large h o ≡ true → ⊥
plain_ends h (Same body) plain ends = false≢true ends
plain_ends h (Unopened body) plain ends = false≢true ends
plain_ends h (Adds entry) plain ends = not_both (gives_last h entry) (and_second (not (is_large entry)) (not (gives_last h entry)) plain) ends

module _ (w : Configuration) (q : ReqSetup) (older : List (List ℕ)) (s : Sending) (own : IsSendingOf w q older s) (r : RspSetup) (answer : List ℕ) where
  abbrev h : History
  h = s.responder

  pub never_large : IsShownLarge r h s.round.tag s.round.body answer → ⊥
  never_large c =
      let g : History = with_dropped h (drops_before h s.round.body) in
      let plain = chunks_lead_plainly r g s.round.tag s.round.body (values_shown_by r g s.round.tag s.round.body answer) (sending_asks_chunk w q older s own) in
      false≢true (sym c.1 ∙ ap is_whole (sym c.0.2) ∙ plain_whole g (on_body r g s.round.tag s.round.body (values_shown_by r g s.round.tag s.round.body answer) no_draw) plain)

  pub never_last : EndsLarge r h s.round.tag s.round.body answer → ⊥
  never_last c =
      let plain = chunks_lead_plainly r h s.round.tag s.round.body (values_shown_by r h s.round.tag s.round.body answer) (sending_asks_chunk w q older s own) in
      plain_ends h (on_body r h s.round.tag s.round.body (values_shown_by r h s.round.tag s.round.body answer) no_draw) plain (ap (ends_large h) c.0.2 ∙ c.1)
