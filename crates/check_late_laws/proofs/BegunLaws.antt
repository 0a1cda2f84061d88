-- How a large response comes to be fetched, and how it comes to be so no more.
use Rattle.std.proofs.Common.{◌≡◌, ℕ, List, ◌∷◌, refl, sym, ap, ◌∙◌, subst, Some, None}
use Rattle.std.proofs.lemmas.Option.{none-some}
use Rattle.mctp_framing.specs.Gathering.{Gathered}
use Rattle.mctp_framing.specs.Gathering.Gathered.{Whole, More, Dropped}
use Rattle.requester_machine.specs.History.{outstanding}
use Rattle.responder_machine.specs.Setup.{towards}
use Rattle.spdm_machine.specs.Packets.{gathered_from}
use Rattle.check_laws.proofs.AnsweredOn.{replies_from}
use Rattle.check_laws.proofs.GoingOn.{none_fetched}
use Rattle.check_laws.proofs.KeptAnswers.{kept_is_restored}
use Rattle.check_laws.proofs.OneWalk.{walks_alike}
use Rattle.check_laws.specs.Keeping.{restored}
use Rattle.check_laws.specs.RepliesShown.{responder_for}
use Rattle.check_laws.specs.Walks.{Walks}
use Rattle.capture_machine.proofs.Fetching.{while_parts}
use Rattle.capture_machine.specs.Capture.{RepliesBy}
use Rattle.capture_machine.specs.LargeAnswers.{is_fetching, place_named}
use Rattle.capture_machine.specs.Rounds.{Dialogue}
use Rattle.world_machine.specs.Setup.{known_of}
use Rattle.check_late_laws.specs.Fetching.{Fetching, IsFetchingOf, dialogue_of, number_of}
use Rattle.check_late_laws.specs.FetchingLaws.{BeginsFetching, BegunIsFetching, FetchingBegins, FetchingEnds, FetchingIsAlone, kept_behind}
use Rattle.check_late_laws.proofs.Asked.{fetched_walk}
use Rattle.check_late_laws.proofs.Begun.{from_largely, none_before}
use Rattle.check_late_laws.proofs.BegunWalks.{begun_keeps, both_fetched, other_stands}
use Rattle.check_late_laws.proofs.Packets.{came_replied, goes_replied}

pub fetching_begins : FetchingBegins
fetching_begins w q older packet p k after parses not is keeps c = by_gathered (gathered_from q.eid w.responder.eid older p) refl c
  where
    by_gathered : (y : Gathered) → gathered_from q.eid w.responder.eid older p ≡ y → BeginsFetching w k y after → IsFetchingOf w q (packet ∷ older) after × (number_of after ≡ 0)
    by_gathered (Whole route answer) at (body_is, owner, (round, (here, own, waits), (h, place, from, (l, hears, gets, made)))) =
        let d : Dialogue = restored k in
        let walk : Walks w q older d = (kept_is_restored w q older k keeps).0 in
        let keep = begun_keeps w q older packet p parses is d walk refl route.tag round answer h place l
        (λ n one. subst (λ (y : Gathered). RepliesBy w d y n) (sym at) (body_is, owner, one)) here own waits from hears gets in
        subst (λ (x : Fetching). IsFetchingOf w q (packet ∷ older) x × (number_of x ≡ 0)) (sym made) (keep (λ x over.
        let came = came_replied w q older packet p parses is x over in
        let b : Dialogue = came.0 in
        let back = (walks_alike w q older b d came.1 walk).alike in
        let none : b.fetching ≡ None = none_fetched b.fetching None back.fetches refl in
        let replies = (subst (λ (y : Gathered). RepliesBy w b y x) at came.2).2 in
        other_stands w q older packet p parses is d walk refl route.tag round answer h place l
        (λ n one. subst (λ (y : Gathered). RepliesBy w d y n) (sym at) (body_is, owner, one)) here own waits from hears gets x over b came.1 replies (sym none)
        (λ v some. none_before (towards w.responder (known_of b.setup)) b replies.0 answer replies.4.0 replies.4.1 v replies.4.2 none some)))
    by_gathered More at c = absurd c
    by_gathered (Dropped cause) at c = absurd c

pub begun_is_fetching : BegunIsFetching
begun_is_fetching w q older packet p k d whole parses not is keeps over fetches =
    let walk = (kept_is_restored w q older k keeps).0 in
    let came = came_replied w q older packet p parses is d over in
    let a = (walks_alike w q older came.0 (restored k) came.1 walk).alike in
    let g : Gathered = gathered_from q.eid w.responder.eid older p in
    let more = replies_from w came.0 (restored k) g d a (none_fetched came.0.fetching None a.fetches refl) came.2 in
    let mine = goes_replied w q older packet p parses is (restored k) more.0 walk more.1 in
    let both = both_fetched d.fetching more.0.fetching whole (walks_alike w q (packet ∷ older) d more.0 over mine).alike.fetches fetches in
    by_gathered g more.0 both.0 both.1 more.1
  where
    by_gathered : (y : Gathered) (n : Dialogue) (v : List ℕ) → n.fetching ≡ Some v → RepliesBy w (restored k) y n → (next : Fetching) × BeginsFetching w k y next
    by_gathered (Whole route answer) n v some (body_is, owner, c) =
        let parts = while_parts (is_fetching (outstanding c.4.3.0)) c.4.1 v (ap (λ (x : Dialogue). x.fetching) (sym c.4.3.2) ∙ some) in
        let largely = none_before (responder_for w k) (restored k) c.0 answer c.4.0 c.4.1 v c.4.2 refl parts.1 in
        let from = from_largely (responder_for w k) (restored k) c.0 answer c.4.0 v largely in (
          record { kept = kept_behind k c.0 c.4.3.0 c.4.0; at = place_named c.0.body; place = from.0 },
          (body_is, owner, (c.0, (c.1, c.2, c.3), (c.4.0, from.0, from.1, (c.4.3.0, c.4.3.1, parts.0, refl)))),
        )
    by_gathered More n v some same = absurd (none-some v (ap (λ (x : Dialogue). x.fetching) (sym same) ∙ some))
    by_gathered (Dropped cause) n v some c = absurd c

pub fetching_is_alone : FetchingIsAlone
fetching_is_alone w q older f own = (
  λ k keeps. (let one = own.each keeps.0 keeps.1 in none-some one.0 (sym keeps.3 ∙ one.2)),
  λ d walk. (fetched_walk w q older f d own walk).unsent,
)

pub fetching_ends : FetchingEnds
fetching_ends w q older packet p f k parses not is own c =
    let d : Dialogue = dialogue_of f c.0 in
    (c.1, goes_replied w q older packet p parses is d c.1 (own.all c.0 c.2) c.3, unsent c.1 (gathered_from q.eid w.responder.eid older p) c.3, c.4, c.5)
  where
    unsent : (x : Dialogue) (g : Gathered) → RepliesBy w (dialogue_of f c.0) g x → x.sending ≡ None
    unsent x (Whole route body) replies = ap (λ (y : Dialogue). y.sending) replies.2.4.3.2
    unsent x More replies = ap (λ (y : Dialogue). y.sending) replies
    unsent x (Dropped cause) replies = absurd replies
