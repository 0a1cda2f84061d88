-- What is reported of an answer where no large request is in progress, in terms of walks.
use Rattle.std.proofs.Common.{◌≡◌, ℕ, List, ◌∷◌, refl, sym, subst, Some, None, Ok, Err, Result}
use Rattle.mctp_framing.specs.Cutting.{RouteFields}
use Rattle.mctp_framing.specs.Gathering.{Gathered}
use Rattle.mctp_framing.specs.Gathering.Gathered.{Whole}
use Rattle.requester_machine.specs.Setup.{ReqSetup}
use Rattle.responder_machine.specs.Setup.{towards}
use Rattle.spdm_grammar.specs.declared.told.why.Why as declared
use Rattle.check_laws.proofs.AnsweredOn.{replies_from}
use Rattle.check_laws.proofs.GoingOn.{none_fetched}
use Rattle.check_laws.proofs.KeptAnswers.{kept_is_restored, kept_replies}
use Rattle.check_laws.proofs.OneWalk.{walks_alike}
use Rattle.check_laws.proofs.PairWalks.{walks_setup}
use Rattle.check_laws.proofs.Refused.{kept_tells_apart}
use Rattle.check_laws.specs.Judged.{why_of}
use Rattle.check_laws.specs.Keeping.{Keeps, Kept, RepliesKept, restored}
use Rattle.check_laws.specs.ReasonsEach.{IsAnsweredReason}
use Rattle.check_laws.specs.RepliesShown.{responder_for}
use Rattle.check_laws.specs.Walks.{Walks}
use Rattle.check_laws.specs.declared.verdict.Seen.{Seen}
use Rattle.check_ends.specs.Conversation.{IsAnswer, IsJudgedAnswer, NoneGoesOn, StandsBehind}
use Rattle.check_ends.specs.PartyReplies.{IsGoingWhy, IsReplied, RepliesOnward}
use Rattle.check_ends.specs.declared.continuation.Continuation.{Continuation}
use Rattle.check_ends.specs.declared.continuation.Continuation.TheVariants as onward
use Rattle.check_ends.specs.declared.party.Party.{Party}
use Rattle.check_laws.proofs.Large.Onward.{came, replied}
use Rattle.capture_machine.specs.Capture.{RepliesBy}
use Rattle.capture_machine.specs.Difference.{GoesApart, Why, goes_why}
use Rattle.capture_machine.specs.Difference.Why.{BadPacket, UnknownEnd, WrongTurn, BadRequest, BadReply, BadVerify, BadRecord}
use Rattle.capture_machine.specs.Rounds.{Dialogue}
use Rattle.capture_machine.specs.SessionTable.{Row}
use Rattle.world_machine.specs.Setup.{Configuration, known_of}

module _ (w : Configuration) (q : ReqSetup) (older : List (List ℕ)) (rows : List Row) (packet : List ℕ) (route : RouteFields) (answer : List ℕ) (at : IsAnswer w q older packet route answer) (k : Kept) (keeps : Keeps w q older k) where
  walk_before : Walks w q older (restored k)
  walk_before = (kept_is_restored w q older k keeps).0

  -- What it makes of what is kept, is kept after it.
  kept_behind : (next : Kept) → RepliesKept w k (Whole route answer) next → Keeps w q (packet ∷ older) next
  kept_behind next replies = kept_replies w q older packet at.fields k next at.parses at.other at.goes keeps (subst (λ (g : Gathered). RepliesKept w k g next) (sym at.whole) replies)

  walk_behind : (next : Kept) → RepliesKept w k (Whole route answer) next → Walks w q (packet ∷ older) (restored next)
  walk_behind next replies = (kept_is_restored w q (packet ∷ older) next (kept_behind next replies)).0

  -- Where it does not go on from what is kept, no walk goes on with it.
  pub none_on : ((next : Dialogue) → RepliesBy w (restored k) (Whole route answer) next → ⊥) → NoneGoesOn w q older packet
  none_on never d over =
      let it = came w q older packet at.fields at.parses d over in
      let replies : RepliesBy w it.0 (Whole route answer) d = subst (λ (g : Gathered). RepliesBy w it.0 g d) at.whole (replied w q older packet at.fields at.parses at.other at.goes it.0 d it.2) in
      let alike = (walks_alike w q older it.0 (restored k) it.1 walk_before).alike in
      let more = replies_from w it.0 (restored k) (Whole route answer) d alike (none_fetched it.0.fetching None alike.fetches refl) replies in
      never more.0 more.1

  -- ---- And why.

  own_setup : k.setup ≡ q
  own_setup = walks_setup w q older (restored k) walk_before

  other_reason : (why : Why) → (GoesApart (towards w.responder (known_of q)) (restored k) (Whole route answer) → ⊥) × (goes_why (towards w.responder (known_of q)) (restored k) (Whole route answer) ≡ Some why)
      → (((d : Dialogue) × Walks w q older d × GoesApart (towards w.responder (known_of q)) d (Whole route answer)) → ⊥)
      × ((d : Dialogue) × Walks w q older d × (goes_why (towards w.responder (known_of q)) d (Whole route answer) ≡ Some why))
  other_reason why is = (λ c. is.0 ((kept_tells_apart w q older k c.0 (Whole route answer) keeps c.1).1.0 c.2), (restored k, walk_before, is.1))

  reason_in : (why : Why) → IsGoingWhy (towards w.responder (known_of q)) k (Whole route answer) why → IsAnsweredReason w q older (Whole route answer) why
  reason_in BadVerify is = (restored k, walk_before, is)
  reason_in BadPacket is = other_reason BadPacket is
  reason_in UnknownEnd is = other_reason UnknownEnd is
  reason_in WrongTurn is = other_reason WrongTurn is
  reason_in BadRequest is = other_reason BadRequest is
  reason_in BadReply is = other_reason BadReply is
  reason_in BadRecord is = other_reason BadRecord is

  answered_reason : (why : Why) → IsGoingWhy (responder_for w k) k (Whole route answer) why → IsAnsweredReason w q older (Whole route answer) why
  answered_reason why is = reason_in why (subst (λ (a : ReqSetup). IsGoingWhy (towards w.responder (known_of a)) k (Whole route answer) why) own_setup is)

  -- ---- What is told.

  kept_on : (party : Party) (table : List Seen) → RepliesOnward w q older rows k route answer onward.Kept party table → StandsBehind party None table w q older rows packet
  kept_on party table c = record {
    before = restored k;
    came = walk_before;
    after = restored c.0;
    goes = walk_behind c.0 c.1;
    stands = (c.0, kept_behind c.0 c.1, c.2.party);
    entries = c.2.stands;
  }

  pub told_on : (told : Result Continuation declared.Why) (party : Party) (table : List Seen) → IsReplied w q older rows k route answer told party table → IsJudgedAnswer w q older rows packet route answer told party None table
  told_on (Ok onward.Kept) party table c = kept_on party table c
  told_on (Ok onward.Large) party table c = (k, keeps, c)
  told_on (Ok (onward.Asked why)) party table c = ((k, keeps, c.0), answered_reason (why_of why) c.1)
  told_on (Err why) party table c = (none_on c.0, answered_reason (why_of why) c.1)
