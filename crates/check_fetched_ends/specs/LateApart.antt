-- The last chunk of a large response in the clear whose fetch began late, where its verify data are alone wrong. This
-- project's own.
use Rattle.std.specs.Prelude.{◌≡◌, ◌≢◌, ◌↔◌, ◌++◌, ℕ, List, slice_index, true, false, Some, None}
use Rattle.check_late_laws.specs.Late.Passed.{StandsBack}
use Rattle.check_late_laws.specs.Late.PassedLast.{AreSince, IsFree, WasAnew, in_front, touched_by}
use Rattle.responder_machine.specs.History.{Entry, History}
use Rattle.responder_machine.specs.Responder.Outcome.{Adds}
use Rattle.responder_machine.specs.Responder.{sent_by}
use Rattle.responder_machine.specs.Setup.{RspSetup}
use Rattle.spdm_grammar.specs.declared.names.response_code.TheConstants.{PSK_EXCHANGE_RSP}
use Rattle.capture_machine.specs.CapturedAnswers.{MayLeadTo, MayLeadToEntry}
use Rattle.capture_machine.specs.Difference.{CompletesApart, is_apart, verify_size}
use Rattle.capture_machine.specs.LargeAnswers.{gives_last, id_begun, judging, place_named}
use Rattle.capture_machine.specs.Rounds.{Dialogue, Round}

-- An answer is the last chunk of these bytes, from which others are apart in verify data alone; the request may lead to those as
-- the newest one under this tag, and no mark is set of the session that they begin.
pub record IsLateApart (r : RspSetup) (d : Dialogue) (round : Round) (answer : List ℕ) (h : History) (s : StandsBack h) (whole : List ℕ) (tag : ℕ) : Type 0 where
  pub bytes : List ℕ
  pub dropped : List ℕ
  pub entry : Entry
  pub chunk : MayLeadTo r (judging d.fetching round.body d.responder) round.tag round.body (Adds entry)
  pub last : gives_last (judging d.fetching round.body d.responder) entry ≡ true
  pub sent : sent_by entry ≡ answer
  pub led : MayLeadToEntry r dropped h (in_front h s tag bytes)
  pub code : slice_index bytes 1 ≡ PSK_EXCHANGE_RSP
  pub apart : is_apart (verify_size d) bytes whole ≡ true
  pub untouched : touched_by (id_begun (in_front h s tag bytes)) h ≡ false

-- While these bytes stand for the large response of the request, and only messages in the clear came since its repeat,
-- an answer is apart from one that completes it exactly when that is so.
abbrev pub LateApart : Type 0
LateApart = (r : RspSetup) (d : Dialogue) (round : Round) (answer : List ℕ) (since : List Entry) (h : History) (s : StandsBack h) (whole : List ℕ) (tag : ℕ)
    → d.responder ≡ since ++ h → d.fetching ≡ Some whole → place_named round.body ≡ None → AreSince since → IsFree s.turn → WasAnew h s → tag ≢ s.tag
    → CompletesApart r d round answer ↔ IsLateApart r d round answer h s whole tag
