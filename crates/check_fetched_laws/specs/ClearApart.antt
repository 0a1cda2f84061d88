-- Whether the verify data of the last chunk of a large response are alone wrong, which is fetched in the clear. This
-- project's own.
use Rattle.std.specs.Prelude.{◌≡◌, ◌<◌, ◌==◌, ◌↔◌, ℕ, List, ◌∷◌, ◌++◌, slice_index, true, Some}
use Rattle.requester_machine.specs.Setup.{ReqSetup}
use Rattle.responder_machine.specs.History.{Entry, History}
use Rattle.responder_machine.specs.May.{with_dropped}
use Rattle.responder_machine.specs.Responder.Outcome.{Adds}
use Rattle.responder_machine.specs.Responder.{body_of, sent_by}
use Rattle.responder_machine.specs.Setup.{RspSetup, towards}
use Rattle.spdm_grammar.specs.declared.names.response_code.TheConstants.{PSK_EXCHANGE_RSP}
use Rattle.check_laws.specs.AnswersShown.{LeadsAt, values_shown_by}
use Rattle.check_laws.specs.LargeShown.{ends_large, last_shown}
use Rattle.check_laws.specs.Walks.{Walks}
use Rattle.check_fetched_laws.specs.ClearSessions.{AreGets, IsUnseenRequest}
use Rattle.check_fetched_laws.specs.LastShown.{drops_with}
use Rattle.check_fetched_laws.specs.WholeValues.{values_with_whole}
use Rattle.capture_machine.specs.CapturedAnswers.{request_in, tag_in}
use Rattle.capture_machine.specs.Difference.{CompletesApart, RepliesApart, is_apart, verify_size}
use Rattle.capture_machine.specs.LargeAnswers.{place_named, seen, with_large}
use Rattle.capture_machine.specs.Rounds.{Dialogue, Round}
use Rattle.world_machine.specs.Setup.{Configuration, known_of}
use Rattle.spdm_grammar.specs.declared.names.message_type.TheConstants.{SPDM}

-- The request of an entry whose answer was not seen leads, after these drops, to other bytes as its large response at
-- the drops and the values that the whole shows, which are allowed.
abbrev pub LeadsToOther : RspSetup → (before : History) → Entry → (whole other : List ℕ) → Type 0
LeadsToOther r before entry whole other =
    let e = seen whole entry in
    let g = with_dropped before (drops_with before e) in
    LeadsAt r g (tag_in e) (request_in e) (Adds (seen other entry)) (values_with_whole r g (tag_in e) (request_in e) (sent_by e) whole)

-- An answer is the last chunk of these bytes as the large response of a history, and they are apart from those that the
-- request leads to at the values which they show.
pub record IsLastApart (r : RspSetup) (h : History) (round : Round) (answer whole : List ℕ) (entry : Entry) (before : History) (size : ℕ) : Type 0 where
  pub leads : let g = with_large (place_named round.body) whole h in LeadsAt r g round.tag round.body (last_shown r g round.tag round.body answer) (values_shown_by r g round.tag round.body answer)
  pub last : let g = with_large (place_named round.body) whole h in ends_large g (last_shown r g round.tag round.body answer) ≡ true
  pub body : let g = with_large (place_named round.body) whole h in body_of (last_shown r g round.tag round.body answer) ≡ answer
  pub other : List ℕ
  pub led : LeadsToOther r before entry whole other
  pub code : slice_index other 1 ≡ PSK_EXCHANGE_RSP
  pub apart : is_apart size other whole ≡ true

-- So, while a large response is fetched in the clear, it is determined by what the last chunk and the whole answer show
-- whether verify data are alone wrong. The heartbeat period is a byte.
abbrev pub LastApartIsShown : Type 0
LastApartIsShown = (r : RspSetup) (d : Dialogue) (round : Round) (answer whole : List ℕ) (gets : List Entry) (entry : Entry) (before : History)
    → r.beat < 256 → d.fetching ≡ Some whole → (slice_index round.body 0 == SPDM) ≡ true
    → AreGets gets → IsUnseenRequest entry → d.responder ≡ gets ++ entry ∷ before
    → CompletesApart r d round answer ↔ IsLastApart r d.responder round answer whole entry before (verify_size d)

-- No other answer in the clear is apart meanwhile.
abbrev pub RepliesAreNotApart : Type 0
RepliesAreNotApart = (c : Configuration) (q : ReqSetup) (older : List (List ℕ)) (d : Dialogue) (whole : List ℕ) (round : Round) (answer : List ℕ)
    → Walks c q older d → d.fetching ≡ Some whole → d.round ≡ Some round → (slice_index round.body 0 == SPDM) ≡ true
    → RepliesApart (towards c.responder (known_of d.setup)) d round answer → ⊥
