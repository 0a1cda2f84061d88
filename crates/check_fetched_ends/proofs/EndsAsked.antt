-- What is kept after a request, while a large response is fetched.
use Rattle.std.proofs.Common.{◌≡◌, ◌∙◌, ℕ, List, ◌∷◌, sym, subst, Option, Some, None, Result, Ok, Err}
use Rattle.mctp_framing.specs.Cutting.{RouteFields}
use Rattle.mctp_framing.specs.Gathering.Gathered.{Whole}
use Rattle.requester_machine.specs.Setup.{ReqSetup}
use Rattle.spdm_grammar.specs.declared.told.why.Why as declared
use Rattle.check_ends.proofs.PartyAsked.{asks_same}
use Rattle.check_ends.specs.Conversation.{IsRequest}
use Rattle.check_ends.specs.Party.{IsAskedBeside}
use Rattle.check_ends.specs.declared.conversation.Conversation.{Conversation}
use Rattle.check_laws.specs.Judged.{why_of}
use Rattle.check_laws.specs.Keeping.{Kept}
use Rattle.check_laws.specs.declared.verdict.Seen.{Seen}
use Rattle.check_fetched_ends.proofs.EndsKept.{fetched_as}
use Rattle.check_fetched_ends.proofs.FetchedAsked.{asked_reason, kept_behind, none_on, walk_before}
use Rattle.check_fetched_ends.specs.JudgedEnds.{IsAskedOf, IsFetched, StandsBehind}
use Rattle.check_fetched_ends.specs.declared.fetch.Fetch.{Fetch}
use Rattle.check_late_laws.specs.Fetching.{Fetching, IsFetchingOf, dialogue_of}
use Rattle.capture_machine.specs.SessionTable.{Row}
use Rattle.world_machine.specs.Setup.{Configuration}

module _ (w : Configuration) (q : ReqSetup) (older : List (List ℕ)) (rows : List Row) (packet : List ℕ) (route : RouteFields) (body : List ℕ) (at : IsRequest w q older packet route body) (f : Fetching) (own : IsFetchingOf w q older f)
    (old new : Conversation) (fetched : Fetch) (is : IsFetched old.party fetched w q f rows) (none : old.large ≡ None) (large : new.large ≡ old.large) (answerer : new.party.answerer ≡ old.party.answerer) (keys : new.party.keys ≡ old.party.keys) where
  pub asked_on : (o : Option Fetch) (table : List Seen) (result : Result Unit declared.Why) → o ≡ Some fetched → IsAskedBeside w q older rows f.kept route body result new.party table → IsAskedOf w q older rows packet (Whole route body) result (record { talk = new; fetched = o }) table
  asked_on o table (Ok u) same told =
      let next : Kept = told.0 in
      let kept = asks_same f.kept next route body told.1 in
      let behind : Fetching = record f { kept = next } in
      let over : IsFetchingOf w q (packet ∷ older) behind = kept_behind w q older packet route body at f own next told.1 in
      let stands = fetched_as old.party new.party fetched w q f next rows _ is (record { answerer = answerer; keys = keys; setup = kept.0; responder = kept.1; beside = told.2.beside }) in
      subst (λ (x : Option Fetch). StandsBehind (record { talk = new; fetched = x }) table w q older rows packet) (sym same) (record {
        before = dialogue_of f own.stands.0;
        came = walk_before w q older packet route body at f own;
        after = dialogue_of behind over.stands.0;
        goes = over.all over.stands.0 over.stands.1;
        stands = (large ∙ none, (behind, over, stands));
        entries = told.2.stands;
      })
  asked_on o table (Err why) same told = (none_on w q older packet route body at f own told.0, asked_reason w q older packet route body at f own (why_of why) told.1)
