-- What is reported of a request that is no first chunk, where no large one is in progress, in terms of walks.
use Rattle.std.proofs.Common.{◌≡◌, ◌∙◌, ℕ, List, refl, sym, ap, subst, false, Option, Some, None, Result, Ok, Err, is_some}
use Rattle.std.proofs.lemmas.Bool.{false≢true}
use Rattle.mctp_framing.specs.Cutting.{RouteFields}
use Rattle.mctp_framing.specs.Gathering.Gathered.{Whole}
use Rattle.requester_machine.specs.Setup.{ReqSetup}
use Rattle.spdm_grammar.specs.declared.told.why.Why as declared
use Rattle.check_ends.proofs.BeginsTold.{refused_on, whole_on}
use Rattle.check_requester.specs.JudgedRequester.{is_first_chunk}
use Rattle.check_ends.specs.Conversation.{IsAskedOf, IsBeginning, IsRequest, StandsBehind}
use Rattle.check_ends.specs.Party.{IsAskedWhole}
use Rattle.check_ends.specs.declared.conversation.Conversation.{Conversation}
use Rattle.check_laws.specs.Keeping.{Keeps, Kept}
use Rattle.check_laws.specs.declared.verdict.Seen.{Seen}
use Rattle.check_laws.specs.declared.sending_large.large_request.LargeRequest.{LargeRequest}
use Rattle.capture_machine.specs.SessionTable.{Row}
use Rattle.world_machine.specs.Setup.{Configuration}

pub none_sent : (o : Option LargeRequest) → is_some o ≡ false → o ≡ None
none_sent None is = refl
none_sent (Some x) is = absurd (false≢true (sym is))

-- A large request begins with a first chunk.
pub none_begins : (k : Kept) (route : RouteFields) (body : List ℕ) → is_first_chunk body ≡ false → IsBeginning k route body None
none_begins k route body plain = λ next begins. false≢true (sym plain ∙ ap is_first_chunk (sym begins.4.4))

module _ (w : Configuration) (q : ReqSetup) (older : List (List ℕ)) (rows : List Row) (packet : List ℕ) (route : RouteFields) (body : List ℕ) (at : IsRequest w q older packet route body) (k : Kept) (keeps : Keeps w q older k) where
  pub plainly_on : IsBeginning k route body None → (result : Result Unit declared.Why) (new : Conversation) (table : List Seen) → new.large ≡ None
      → IsAskedWhole w q older rows k route body result new.party table → IsAskedOf w q older rows packet (Whole route body) result new table
  plainly_on none (Ok u) new table rest told =
      subst (λ (o : Option LargeRequest). StandsBehind new.party o table w q older rows packet) (sym rest) (whole_on w q older rows packet route body at k keeps new.party table told)
  plainly_on none (Err why) new table rest told = refused_on w q older rows packet route body at k keeps new.party table why none told
