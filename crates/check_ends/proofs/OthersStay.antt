-- A packet between the responder and another requester leaves what is kept of this one.
use Rattle.std.proofs.Common.{◌≡◌, ◌≢◌, ◌∙◌, ◌+◌, ℕ, List, ◌∷◌, sym, ap, length, false, Option, Some, None, Ok, arith}
use Rattle.mctp_framing.specs.Packet.{PacketFields, parsed}
use Rattle.requester_machine.specs.Setup.{ReqSetup}
use Rattle.check_laws.proofs.KeptAnswers.{kept_stays}
use Rattle.check_laws.specs.Keeping.{Kept, restored}
use Rattle.check_laws.specs.Order.{is_answer, is_request}
use Rattle.check_laws.specs.Rows.{OtherPlacesStay}
use Rattle.check_ends.specs.Conversation.{OtherConversationsStay, StandsAs, meanwhile}
use Rattle.check_ends.specs.Party.{IsParty}
use Rattle.check_ends.specs.declared.party.Party.{Party}
use Rattle.check_laws.proofs.Large.Replied.{sending_stays}
use Rattle.check_laws.specs.declared.sending_large.large_request.LargeRequest.{LargeRequest}
use Rattle.capture_machine.specs.Rounds.{Dialogue}
use Rattle.capture_machine.specs.SessionTable.{Row, rows_between}
use Rattle.world_machine.specs.Setup.{Configuration}

party_stays : OtherPlacesStay → (seen : Party) (w : Configuration) (q : ReqSetup) (k : Kept) (rows : List Row) (before after : Dialogue) → q.eid ≢ after.setup.eid → IsParty seen w q k rows → IsParty seen w q k (rows_between before after rows)
party_stays others seen w q k rows before after apart party = record {
  asker = party.asker;
  answerer = party.answerer;
  keys = party.keys;
  number = party.number;
  places = others seen.places before after (restored k) rows (λ same. apart (ap (λ (x : ReqSetup). x.eid) (sym party.asker.setup) ∙ same)) party.places;
}

stay : OtherPlacesStay → (party : Party) (large : Option LargeRequest) (w : Configuration) (q : ReqSetup) (older : List (List ℕ)) (packet : List ℕ) (p : PacketFields) (before after : Dialogue) (rows : List Row) → q.eid ≢ after.setup.eid → parsed packet ≡ Ok p
    → is_request w.responder.eid q.eid p ≡ false → is_answer w.responder.eid q.eid p ≡ false → StandsAs party large w q older rows → StandsAs party large w q (packet ∷ older) (rows_between before after rows)
stay others party None w q older packet p before after rows apart parses not nor stands =
    (stands.0, kept_stays w q older packet p stands.0 parses not nor stands.1, party_stays others party w q stands.0 rows before after apart stands.2)
stay others party (Some large) w q older packet p before after rows apart parses not nor stands =
    let way = stands.1 in (
      stands.0,
      record {
        sending = sending_stays w q older packet p stands.0 parses not nor way.sending;
        chunks = way.chunks;
        kept = party_stays others party w q (meanwhile stands.0) rows before after apart way.kept;
        earlier = way.earlier;
        before = way.before;
        fewer = (let f = way.fewer in let l : length (packet ∷ older) ≡ length older + 1 = omega arith in omega (arith, f, l));
      },
    )

pub conversations_stay : OtherPlacesStay → OtherConversationsStay
conversations_stay others seen w q older packet p before after rows apart parses not nor stands = stay others seen.party seen.large w q older packet p before after rows apart parses not nor stands
