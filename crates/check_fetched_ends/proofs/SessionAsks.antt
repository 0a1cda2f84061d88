-- On what comes in the clear the requester asks for a chunk, while a large response is fetched in a session.
use Rattle.std.proofs.Common.{◌≡◌, ◌≢◌, ◌∙◌, ◌==◌, ℕ, List, refl, sym, ap, Bool, true, false, Option, Some, None, cond}
use Rattle.std.specs.Prelude.{slice_index}
use Rattle.std.proofs.lemmas.Bool.{false≢true}
use Rattle.std.proofs.lemmas.Option.{none-some}
use Rattle.check_laws.specs.KeptChanges.{accepted_from}
use Rattle.check_laws.specs.Keeping.{restored}
use Rattle.check_laws.specs.RepliesShown.{heard_from, no_values}
use Rattle.check_fetched_laws.proofs.WalksSound.{walks_sound}
use Rattle.check_late_laws.proofs.Late.AsksOn.{AsksOn, clear_in_session_on}
use Rattle.check_fetched_ends.proofs.ClearAsks.{gets_is, place_is}
use Rattle.check_fetched_ends.specs.AsksUpon.{SessionAsksOn}
use Rattle.check_late_laws.specs.Fetching.{Fetching, IsFetchingOf, dialogue_of}
use Rattle.requester_machine.specs.Hearing.{hears}
use Rattle.requester_machine.specs.History as requester_history
use Rattle.requester_machine.specs.History.{outstanding}
use Rattle.requester_machine.specs.Message.{Aim, Sent}
use Rattle.requester_machine.specs.Message.Aim.{Plain, ByChunks, ForChunk, InSession}
use Rattle.requester_machine.specs.Setup.{ReqSetup}
use Rattle.spdm_grammar.specs.Message.RequestMessage.{GetVersion}
use Rattle.spdm_grammar.specs.Requests.{canonical_request}
use Rattle.spdm_machine.specs.Bodies.{clear_body}
use Rattle.capture_machine.proofs.AskersAim.{Asker, IsAt}
use Rattle.capture_machine.specs.LargeAnswers.{is_fetching, is_for_chunk}
use Rattle.capture_machine.specs.Rounds.{Round, no_draw}
use Rattle.world_machine.specs.Setup.{Configuration}

sealed_of : (b : Bool) (n id : ℕ) → cond b None (Some n) ≡ Some id → b ≡ false
sealed_of true n id is = absurd (none-some id is)
sealed_of false n id is = refl

module _ (w : Configuration) (q : ReqSetup) (older : List (List ℕ)) (f : Fetching) (round : Round) (answer : List ℕ) (id : ℕ) (own : IsFetchingOf w q older f) (there : f.at ≡ Some id) (at : f.kept.round ≡ Some round) (other : round.body ≢ clear_body (canonical_request GetVersion))
    (clear : (slice_index answer 0 == 5) ≡ true) where
  abbrev asker : requester_history.History
  asker = (restored f.kept).requester

  type : (slice_index round.body 0 == 5) ≡ false
  type = sealed_of (slice_index round.body 0 == 5) _ id (place_is w q older f round own at other ∙ there)

  gets : is_fetching (outstanding asker) ≡ true
  gets = gets_is w q older f round own.stands.0 own at other own.stands.1

  asks : Asker asker round.body
  asks = (walks_sound w q older (dialogue_of f own.stands.0) (own.all own.stands.0 own.stands.1)).asker round at

  by_aim : (s : Sent) → outstanding asker ≡ Some s → (aim : Aim) → s.aim ≡ aim → is_for_chunk aim ≡ true → IsAt asker round.body aim → AsksOn asker (hears f.kept.setup asker false round.tag answer no_values no_draw)
  by_aim s waits (InSession of ask) aims for here = clear_in_session_on f.kept.setup asker no_values round.tag answer gets s of ask waits aims clear
  by_aim s waits (ForChunk a handle number before) aims for here = absurd (false≢true (sym type ∙ here))
  by_aim s waits (Plain a) aims for here = absurd (false≢true for)
  by_aim s waits (ByChunks a handle number) aims for here = absurd (false≢true for)

  pub asks_on : AsksOn asker (hears f.kept.setup asker false round.tag answer no_values no_draw)
  asks_on = by_waits (outstanding asker) refl
    where
      by_waits : (o : Option Sent) → outstanding asker ≡ o → AsksOn asker (hears f.kept.setup asker false round.tag answer no_values no_draw)
      by_waits None waits = absurd (false≢true (sym (ap is_fetching waits) ∙ gets))
      by_waits (Some s) waits = by_aim s waits s.aim refl (sym (ap is_fetching waits) ∙ gets) (asks s waits).here

pub session_asks_on : SessionAsksOn
unfolding heard_from accepted_from
session_asks_on w q older f round answer id own there at other clear = asks_on w q older f round answer id own there at other clear
