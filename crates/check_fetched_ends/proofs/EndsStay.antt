-- A packet between the responder and another requester leaves what is kept of this one; so does a packet after which
-- more of a body is awaited.
use Rattle.std.proofs.Common.{◌≡◌, ◌≢◌, ◌<◌, ◌∙◌, ◌⊎◌, ℕ, List, ◌∷◌, refl, sym, ap, subst, true, false, Option, Some, None, Ok, inl, inr}
use Rattle.mctp_framing.specs.Gathering.{Gathered}
use Rattle.mctp_framing.specs.Gathering.Gathered.{More}
use Rattle.mctp_framing.specs.Packet.{PacketFields, parsed}
use Rattle.requester_machine.specs.Setup.{ReqSetup}
use Rattle.check_ends.proofs.AwaitingStay.{awaiting_stay}
use Rattle.check_ends.proofs.OthersStay.{conversations_stay}
use Rattle.check_ends.specs.Party.{IsBeside}
use Rattle.check_ends.specs.declared.conversation.Conversation.{Conversation}
use Rattle.check_ends.specs.declared.party.Party.{Party}
use Rattle.check_laws.specs.Keeping.{Kept, restored}
use Rattle.check_laws.specs.Order.{is_answer, is_request}
use Rattle.check_laws.specs.Rows.{OtherPlacesStay}
use Rattle.check_fetched_ends.proofs.EndsKept.{beside_of, fetched_as}
use Rattle.check_fetched_ends.specs.JudgedEnds.{AwaitingEndsStay, OtherEndsStay, StandsAs}
use Rattle.check_fetched_ends.specs.declared.fetch.Fetch.{Fetch}
use Rattle.check_late_laws.proofs.Asked.{fetching_asks, fetching_stays}
use Rattle.check_late_laws.proofs.GoesLaws.{fetching_goes}
use Rattle.check_late_laws.specs.Fetching.{Fetching, IsFetchingOf}
use Rattle.check_late_laws.specs.FetchingLaws.{AsksFetching, GoesFetching}
use Rattle.spdm_machine.specs.Packets.{gathered_from}
use Rattle.capture_machine.specs.Rounds.{Dialogue}
use Rattle.capture_machine.specs.SessionTable.{Row, rows_between}
use Rattle.world_machine.specs.Setup.{Configuration}

-- ---- Of others.

beside_stays : OtherPlacesStay → (seen : Party) (w : Configuration) (q : ReqSetup) (k : Kept) (rows : List Row) (before after : Dialogue) → q.eid ≢ after.setup.eid → IsBeside seen w q k rows → IsBeside seen w q k (rows_between before after rows)
beside_stays others seen w q k rows before after apart beside = record {
  asker = beside.asker;
  keys = beside.keys;
  number = beside.number;
  places = others seen.places before after (restored k) rows (λ same. apart (ap (λ (x : ReqSetup). x.eid) (sym beside.asker.setup) ∙ same)) beside.places;
}

others_by : OtherPlacesStay → (talk : Conversation) (fetched : Option Fetch) (w : Configuration) (q : ReqSetup) (older : List (List ℕ)) (packet : List ℕ) (p : PacketFields) (before after : Dialogue) (rows : List Row) → q.eid ≢ after.setup.eid → parsed packet ≡ Ok p
    → is_request w.responder.eid q.eid p ≡ false → is_answer w.responder.eid q.eid p ≡ false → StandsAs talk fetched w q older rows → StandsAs talk fetched w q (packet ∷ older) (rows_between before after rows)
others_by others talk None w q older packet p before after rows apart parses not nor stands = conversations_stay others talk w q older packet p before after rows apart parses not nor stands
others_by others talk (Some fetched) w q older packet p before after rows apart parses not nor stands =
    let f : Fetching = stands.1.0 in
    let is = stands.1.2 in
    let beside = beside_stays others talk.party w q f.kept rows before after apart (beside_of talk.party fetched w q f rows is) in
    (stands.0, (f, fetching_stays w q older packet p f parses not nor stands.1.1, fetched_as talk.party talk.party fetched w q f f.kept rows (rows_between before after rows) is (record { answerer = refl; keys = refl; setup = refl; responder = refl; beside = beside })))

pub other_ends : OtherPlacesStay → OtherEndsStay
other_ends others seen w q older packet p before after rows apart parses not nor stands = others_by others seen.talk seen.fetched w q older packet p before after rows apart parses not nor stands

-- ---- Where more is awaited.

module _ (w : Configuration) (q : ReqSetup) (older : List (List ℕ)) (packet : List ℕ) (p : PacketFields) (byte : w.responder.beat < 256) (parses : parsed packet ≡ Ok p) where
  Awaits : Type 0
  Awaits =
      ((is_request w.responder.eid q.eid p ≡ true) × (gathered_from w.responder.eid q.eid older p ≡ More))
      ⊎ ((is_request w.responder.eid q.eid p ≡ false) × (is_answer w.responder.eid q.eid p ≡ true) × (gathered_from q.eid w.responder.eid older p ≡ More))

  fetched_on : (f : Fetching) → Awaits → IsFetchingOf w q older f → IsFetchingOf w q (packet ∷ older) f
  unfolding Awaits
  fetched_on f (inl c) own =
      fetching_asks w q older packet p f f parses c.0 own (subst (λ (g : Gathered). AsksFetching f g f) (sym c.1) (f.kept, refl, refl))
  fetched_on f (inr c) own = fetching_goes w q older packet p f f parses c.0 c.1 own (subst (λ (g : Gathered). GoesFetching w f g f) (sym c.2) refl)

  awaits_by : (talk : Conversation) (fetched : Option Fetch) (rows : List Row) → Awaits → StandsAs talk fetched w q older rows → StandsAs talk fetched w q (packet ∷ older) rows
  unfolding Awaits
  awaits_by talk None rows c stands = awaiting_stay talk w q older packet p rows byte parses c stands
  awaits_by talk (Some fetched) rows c stands = (stands.0, (stands.1.0, fetched_on stands.1.0 c stands.1.1, stands.1.2))

pub awaiting_ends : AwaitingEndsStay
unfolding Awaits
awaiting_ends seen w q older packet p rows byte parses c stands = awaits_by w q older packet p byte parses seen.talk seen.fetched rows c stands
