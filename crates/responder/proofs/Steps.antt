-- The steps of a responder, by what comes of a packet at a connection.
use Rattle.std.proofs.Common.{refl, ◌≡◌, ◌≢◌, ◌≤◌, ◌<◌, ◌∙◌, ◌+◌, ◌^◌, ℕ, List, [], ◌∷◌, length, Bool, true, false, cond, not, Option, Some, None, Result, Ok, Err, ap, sym, subst, arith, slice_set, eq-eqb, ne_eqb}
use Rattle.std.proofs.lemmas.Bool.Decides.{nat_tests}
use Rattle.std.specs.List.{position_from}
use Rattle.std.specs.Prelude.{◌==◌, ◌||◌}
use Rattle.mctp_framing.specs.Cutting.{RouteFields}
use Rattle.mctp_framing.specs.Gathering.{Gathered, gathered}
use Rattle.mctp_framing.specs.Gathering.Gathered.{Dropped, More, Whole}
use Rattle.mctp_framing.specs.Packet.{PacketFields, parsed}
use Rattle.responder.proofs.Found.{Hit, none_here, none_known, others_stand, others_without}
use Rattle.responder.proofs.Reached.{after_reached, all_draws_after, apart_stays}
use Rattle.responder.specs.Came.{Came, IsFollowed, came_of, came_whole, data_or, history_after, sent_of, step_of, told_of}
use Rattle.responder.specs.Came.Came.{Does, Told}
use Rattle.responder.specs.Peers.{IsTaken, gathered_at}
use Rattle.responder.specs.SetUp.{IsPart}
use Rattle.responder.specs.Standing.{ArePeers, IsReached, IsStep, StandsFor, has_eid}
use Rattle.responder.specs.declared.part.Part.{Part}
use Rattle.responder.specs.declared.peer.Peer.{Peer}
use Rattle.responder.specs.declared.serving.Responder.{Responder}
use Rattle.responder.specs.declared.shared.Shared.{Shared}
use Rattle.responder_machine.proofs.Connected.{changed_keeps}
use Rattle.responder_machine.specs.Does.{responder_does}
use Rattle.responder_machine.specs.EndLaws.{receiver_of}
use Rattle.responder_machine.specs.Independence.Given.{Packet}
use Rattle.responder_machine.specs.Responder.{after}
use Rattle.responder_machine.specs.Responding.{Connection, Responding, RspStep, all_draws, changed, changed_if, connection_of, data_of, hears_from, hears_gathered, hears_packet, hears_whole, ignores, is_worn, last_data, next_draw, responder_hears, with_history, with_taken, worn_step}
use Rattle.responder_machine.specs.Setup.{RspSetup}
use Rattle.spdm_basis.specs.declared.DropCause.TheVariants.{NotOurs}
use Rattle.spdm_basis.specs.declared.PacketFault.{PacketFault}
use Rattle.spdm_basis.specs.declared.values.session_id.SessionId.{SessionId}
use Rattle.spdm_grammar.specs.declared.told.heard.Heard.{Heard}
use Rattle.spdm_grammar.specs.declared.told.heard.Heard.TheVariants as heard
use Rattle.spdm_grammar.specs.declared.told.heard.RspIgnored.TheVariants as ignored
use Rattle.spdm_machine.proofs.Members.{IsIn, found_in}
use Rattle.spdm_machine.specs.Keys.{Draw, draw_of}
use Rattle.spdm_machine.specs.Packets.{body_type, fields_in, fields_with, gathered_from}

-- ---- A step is told, sent and left as what came says.

by_choice : (b : Bool) (r : Responding) (c : Connection) (packet : List ℕ) (x y : Came) → cond b (step_of r c packet x) (step_of r c packet y) ≡ step_of r c packet (cond b x y)
by_choice true r c packet x y = refl
by_choice false r c packet x y = refl

whole_step : (r : Responding) (d : Draw) (c : Connection) (packet : List ℕ) (route : RouteFields) (body : List ℕ) → hears_whole r d c packet route body ≡ step_of r c packet (came_whole c d route body)
whole_step r d c packet route body =
    let other : Came = Told (heard.Ignored ignored.OtherType) in
    let does : Came = Does route body (responder_does c.setup c.history route.tag body d) in
    let known : Bool = not (body_type body == 5 || body_type body == 6) in
    ap (λ (s : RspStep). cond (not route.owner) (ignores r packet (heard.Ignored ignored.NotRequest)) s) (by_choice known r c packet other does)
    ∙ by_choice (not route.owner) r c packet (Told (heard.Ignored ignored.NotRequest)) (cond known other does)

pub gathered_step : (r : Responding) (d : Draw) (c : Connection) (packet : List ℕ) (g : Gathered) → hears_gathered r d c packet g ≡ step_of r c packet (came_of c d g)
gathered_step r d c packet (Whole route body) = whole_step r d c packet route body
gathered_step r d c packet More = refl
gathered_step r d c packet (Dropped cause) = refl

pub step_told : (r : Responding) (c : Connection) (packet : List ℕ) (x : Came) → (step_of r c packet x).heard ≡ told_of x
step_told r c packet (Told told) = refl
step_told r c packet (Does route body o) = refl

pub step_sent : (r : Responding) (c : Connection) (packet : List ℕ) (x : Came) → (step_of r c packet x).sent ≡ sent_of c x
step_sent r c packet (Told told) = refl
step_sent r c packet (Does route body o) = refl

-- Where nothing has an outcome the connections are what they were.
pub unchanged : (eid : ℕ) (cs : List Connection) → with_history eid (λ h. h) cs ≡ cs
unchanged eid [] = refl
unchanged eid (c ∷ others) = ap (λ (d : Connection). d ∷ with_history eid (λ h. h) others) (same (c.setup.peer == eid)) ∙ ap (λ (ds : List Connection). c ∷ ds) (unchanged eid others)
  where
    same : (b : Bool) → cond b (changed (λ h. h) c) c ≡ c
    same true = refl
    same false = refl

last_taken : (r : Responding) (given : List (List ℕ)) (connections : List Connection) (x : Option (SessionId × List ℕ)) → data_or (last_data r) x ≡ last_data (record r { given = given; taken = with_taken x r.taken; connections = connections })
last_taken r given connections None = refl
last_taken r given connections (Some new) = refl

-- ---- What is kept after a packet of a requester.

pub record Follows (r : Responding) (c : Connection) (packet : List ℕ) (fields : PacketFields) (x : Came) (old new : Responder) : Type 0 where
  pub parses : parsed packet ≡ Ok fields
  pub is : IsIn r.connections c
  pub part : new.part ≡ old.part
  pub given : new.given ≡ old.given + 1
  pub shared : IsFollowed x old.shared new.shared
  pub peers : ArePeers new.peers.items r.part (fields ∷ fields_in r.given) (with_history c.setup.peer (λ h. history_after h x) r.connections)

more_fields : (packet : List ℕ) (fields : PacketFields) (others : List PacketFields) → parsed packet ≡ Ok fields → fields ∷ others ≡ fields_with (parsed packet) others
more_fields packet fields others is = ap (λ (p : Result PacketFields PacketFault). fields_with p others) (sym is)

pub stands_after : (r : Responding) (c : Connection) (packet : List ℕ) (fields : PacketFields) (x : Came) (old new : Responder) → StandsFor old r → Follows r c packet fields x old new → IsReached (step_of r c packet x).after → StandsFor new (step_of r c packet x).after
stands_after r c packet fields (Told told) old new stands follows reached =
    let length_is = stands.given in
    let more = follows.given in
    record {
      part = subst (λ (part : Part). IsPart part r.part) (sym follows.part) stands.part;
      seed = follows.shared.seed ∙ stands.seed;
      number = follows.shared.number ∙ (let number = stands.number in omega (arith, number));
      last = follows.shared.last ∙ stands.last;
      given = omega (arith, length_is, more);
      peers = subst (λ (cs : List Connection). ArePeers new.peers.items r.part (fields_in (packet ∷ r.given)) cs) (unchanged c.setup.peer r.connections)
          (subst (λ (fs : List PacketFields). ArePeers new.peers.items r.part fs (with_history c.setup.peer (λ h. h) r.connections)) (more_fields packet fields (fields_in r.given) follows.parses) follows.peers);
      apart = stands.apart;
      reached = reached;
      first = stands.first;
    }
stands_after r c packet fields (Does route body o) old new stands follows reached =
    let length_is = stands.given in
    let more = follows.given in
    let number = stands.number in
    let draws = all_draws_after r.connections c (Does route body o) stands.apart follows.is in
    let counted = follows.shared.number in
    record {
      part = subst (λ (part : Part). IsPart part r.part) (sym follows.part) stands.part;
      seed = follows.shared.seed ∙ stands.seed;
      number = omega (arith, counted, number, draws);
      last = follows.shared.last ∙ ap (λ (xs : List ℕ). data_or xs (data_of o)) stands.last ∙ last_taken r (packet ∷ r.given) (with_history c.setup.peer (λ h. after h o) r.connections) (data_of o);
      given = omega (arith, length_is, more);
      peers = subst (λ (fs : List PacketFields). ArePeers new.peers.items r.part fs (with_history c.setup.peer (λ h. after h o) r.connections)) (more_fields packet fields (fields_in r.given) follows.parses) follows.peers;
      apart = apart_stays (changed_if c.setup.peer (λ h. after h o)) r.connections (changed_keeps c.setup.peer (λ h. after h o)) stands.apart;
      reached = reached;
      first = stands.first;
    }

-- ---- A packet that nothing comes of.

pub record Rests (r : Responding) (packet : List ℕ) (old new : Responder) : Type 0 where
  pub part : new.part ≡ old.part
  pub given : new.given ≡ old.given + 1
  pub shared : new.shared ≡ old.shared
  pub peers : ArePeers new.peers.items r.part (fields_in (packet ∷ r.given)) r.connections

pub rests_after : (r : Responding) (packet : List ℕ) (told : Heard) (old new : Responder) → StandsFor old r → Rests r packet old new → IsReached (ignores r packet told).after → StandsFor new (ignores r packet told).after
rests_after r packet told old new stands rests reached =
    let length_is = stands.given in
    let more = rests.given in
    record {
      part = subst (λ (part : Part). IsPart part r.part) (sym rests.part) stands.part;
      seed = ap (λ (s : Shared). s.draws.seed) rests.shared ∙ stands.seed;
      number = ap (λ (s : Shared). s.draws.number) rests.shared ∙ stands.number;
      last = ap (λ (s : Shared). s.last) rests.shared ∙ stands.last;
      given = omega (arith, length_is, more);
      peers = rests.peers;
      apart = stands.apart;
      reached = reached;
      first = stands.first;
    }

-- ---- The step of a responder that is not worn.

pub fresh_step : (r : Responding) (packet : List ℕ) → is_worn r ≡ false → responder_hears r packet ≡ hears_packet r (next_draw r) packet (parsed packet)
unfolding responder_hears
fresh_step r packet fresh = ap (λ (b : Bool). cond b (worn_step r) (hears_packet r (next_draw r) packet (parsed packet))) fresh

pub worn_is : (r : Responding) (packet : List ℕ) → is_worn r ≡ true → responder_hears r packet ≡ worn_step r
unfolding responder_hears
worn_is r packet worn = ap (λ (b : Bool). cond b (worn_step r) (hears_packet r (next_draw r) packet (parsed packet))) worn

pub reached_fresh : (r : Responding) (packet : List ℕ) → is_worn r ≡ false → IsReached r → IsReached (hears_packet r (next_draw r) packet (parsed packet)).after
reached_fresh r packet fresh x = subst (λ (s : RspStep). IsReached s.after) (fresh_step r packet fresh) (after_reached r (Packet packet) x)

-- A packet that parses, by its destination and the connection with its source.
pub for_another : (r : Responding) (d : Draw) (packet : List ℕ) (fields : PacketFields) → parsed packet ≡ Ok fields → (fields.to == r.part.eid) ≡ false → hears_packet r d packet (parsed packet) ≡ ignores r packet (heard.Ignored (ignored.Dropped NotOurs))
for_another r d packet fields is other =
    ap (λ (p : Result PacketFields PacketFault). hears_packet r d packet p) is
    ∙ ap (λ (b : Bool). cond (not b) (ignores r packet (heard.Ignored (ignored.Dropped NotOurs))) (hears_from r d packet fields (connection_of fields.from r.connections))) other

pub for_us : (r : Responding) (d : Draw) (packet : List ℕ) (fields : PacketFields) (o : Option Connection) → parsed packet ≡ Ok fields → (fields.to == r.part.eid) ≡ true → connection_of fields.from r.connections ≡ o → hears_packet r d packet (parsed packet) ≡ hears_from r d packet fields o
for_us r d packet fields o is own from =
    ap (λ (p : Result PacketFields PacketFault). hears_packet r d packet p) is
    ∙ ap (λ (b : Bool). cond (not b) (ignores r packet (heard.Ignored (ignored.Dropped NotOurs))) (hears_from r d packet fields (connection_of fields.from r.connections))) own
    ∙ ap (λ (x : Option Connection). hears_from r d packet fields x) from

-- ---- The steps, as they are at the return.

pub fresh_is : (old : Responder) (r : Responding) → StandsFor old r → old.given < 2 ^ 40 → is_worn r ≡ false
fresh_is old r stands few =
    let below : length r.given < 2 ^ 40 = subst (λ (n : ℕ). n < 2 ^ 40) stands.given few in
    grind (arith, nat_tests, below)

pub worn_now : (old : Responder) (r : Responding) → StandsFor old r → 2 ^ 40 ≤ old.given → is_worn r ≡ true
worn_now old r stands many =
    let above : 2 ^ 40 ≤ length r.given = subst (λ (n : ℕ). 2 ^ 40 ≤ n) stands.given many in
    grind (arith, nat_tests, above)

-- What leaves the responder as it was, but for the count.
pub record IsCounted (old new : Responder) : Type 0 where
  pub few : old.given < 2 ^ 40
  pub part : new.part ≡ old.part
  pub given : new.given ≡ old.given + 1
  pub shared : new.shared ≡ old.shared
  pub peers : new.peers.items ≡ old.peers.items

ignored_step : (r : Responding) (packet : List ℕ) (told : Heard) (out : List (List ℕ)) (old new : Responder) → StandsFor old r → IsCounted old new → out ≡ []
    → ArePeers old.peers.items r.part (fields_in (packet ∷ r.given)) r.connections → hears_packet r (next_draw r) packet (parsed packet) ≡ ignores r packet told
    → IsStep (hears_packet r (next_draw r) packet (parsed packet)) told out new
ignored_step r packet told out old new stands counted empty peers is =
    let reached = subst (λ (s : RspStep). IsReached s.after) is (reached_fresh r packet (fresh_is old r stands counted.few) stands.reached) in
    subst (λ (s : RspStep). IsStep s told out new) (sym is) (record {
      told = refl;
      sent = empty;
      stands = rests_after r packet told old new stands (record {
        part = counted.part;
        given = counted.given;
        shared = counted.shared;
        peers = subst (λ (xs : List Peer). ArePeers xs r.part (fields_in (packet ∷ r.given)) r.connections) (sym counted.peers) peers;
      }) reached;
    })

pub broken_step : (r : Responding) (packet : List ℕ) (fault : PacketFault) (out : List (List ℕ)) (old new : Responder) → StandsFor old r → IsCounted old new → out ≡ [] → parsed packet ≡ Err fault
    → IsStep (hears_packet r (next_draw r) packet (parsed packet)) (heard.Ignored (ignored.Packet fault)) out new
broken_step r packet fault out old new stands counted empty is =
    ignored_step r packet (heard.Ignored (ignored.Packet fault)) out old new stands counted empty
    (subst (λ (fs : List PacketFields). ArePeers old.peers.items r.part fs r.connections) (ap (λ (p : Result PacketFields PacketFault). fields_with p (fields_in r.given)) (sym is)) stands.peers)
    (ap (λ (p : Result PacketFields PacketFault). hears_packet r (next_draw r) packet p) is)

pub another_step : (r : Responding) (packet : List ℕ) (fields : PacketFields) (out : List (List ℕ)) (old new : Responder) → StandsFor old r → IsCounted old new → out ≡ [] → parsed packet ≡ Ok fields → fields.to ≢ old.part.eid.number
    → IsStep (hears_packet r (next_draw r) packet (parsed packet)) (heard.Ignored (ignored.Dropped NotOurs)) out new
another_step r packet fields out old new stands counted empty is other =
    let elsewhere : (fields.to == r.part.eid) ≡ false = ne_eqb _ _ (λ same. other (same ∙ stands.part.eid)) in
    ignored_step r packet (heard.Ignored (ignored.Dropped NotOurs)) out old new stands counted empty
    (subst (λ (fs : List PacketFields). ArePeers old.peers.items r.part fs r.connections) (more_fields packet fields (fields_in r.given) is)
    (others_stand r.part (fields_in r.given) fields old.peers.items r.connections stands.peers (none_here r.part fields old.peers.items elsewhere)))
    (for_another r (next_draw r) packet fields is elsewhere)

pub unknown_step : (r : Responding) (packet : List ℕ) (fields : PacketFields) (out : List (List ℕ)) (old new : Responder) → StandsFor old r → IsCounted old new → out ≡ [] → parsed packet ≡ Ok fields → fields.to ≡ old.part.eid.number
    → position_from (has_eid fields.from) 0 old.peers.items ≡ None → IsStep (hears_packet r (next_draw r) packet (parsed packet)) (heard.Ignored ignored.UnknownPeer) out new
unknown_step r packet fields out old new stands counted empty is own none =
    let here : (fields.to == r.part.eid) ≡ true = eq-eqb _ _ (own ∙ sym stands.part.eid) in
    let unknown = none_known r.part (fields_in r.given) fields 0 old.peers.items r.connections stands.peers none in
    ignored_step r packet (heard.Ignored ignored.UnknownPeer) out old new stands counted empty
    (subst (λ (fs : List PacketFields). ArePeers old.peers.items r.part fs r.connections) (more_fields packet fields (fields_in r.given) is)
    (others_stand r.part (fields_in r.given) fields old.peers.items r.connections stands.peers unknown.0))
    (for_us r (next_draw r) packet fields None is here unknown.1)

-- A packet of a requester.
pub gathers : (r : Responding) (c : Connection) (fields : PacketFields) → c.setup.eid ≡ r.part.eid → gathered_from c.setup.eid c.setup.peer r.given fields ≡ gathered_at r.part (fields_in r.given) c fields
unfolding gathered_from
gathers r c fields own = ap (λ (n : ℕ). gathered (receiver_of n c.setup.peer) (fields_in r.given) fields) own

drawn_next : (old : Responder) (r : Responding) → StandsFor old r → next_draw r ≡ draw_of old.shared.draws.seed old.shared.draws.number
unfolding next_draw
drawn_next old r stands = ap (λ (s : List ℕ). draw_of s (r.first + all_draws r.connections)) (sym stands.seed) ∙ ap (draw_of old.shared.draws.seed) (sym stands.number)

pub taken_step : (r : Responding) (packet : List ℕ) (fields : PacketFields) (old new : Responder) (place : ℕ) (hit : Hit r.part (fields_in r.given) fields.from 0 place old.peers.items r.connections) (peer : Peer) (told : Heard) (out : List (List ℕ)) → StandsFor old r
    → parsed packet ≡ Ok fields → fields.to ≡ old.part.eid.number → old.given < 2 ^ 40 → new.part ≡ old.part → new.given ≡ old.given + 1 → new.peers.items ≡ slice_set old.peers.items place peer
    → IsTaken r.part (fields_in r.given) hit.c fields told out peer old.shared new.shared → IsStep (hears_packet r (next_draw r) packet (parsed packet)) told out new
taken_step r packet fields old new place hit peer told out stands is own few part given items taken =
    let c : Connection = hit.c in
    let here : (fields.to == r.part.eid) ≡ true = eq-eqb _ _ (own ∙ sym stands.part.eid) in
    let d : Draw = draw_of old.shared.draws.seed old.shared.draws.number in
    let g : Gathered = gathered_at r.part (fields_in r.given) c fields in
    let x : Came = came_of c d g in
    let step =
    for_us r (next_draw r) packet fields (Some c) is here hit.found ∙ ap (hears_gathered r (next_draw r) c packet) (gathers r c fields (ap (λ (s : RspSetup). s.eid) hit.stands.setup))
    ∙ ap (λ (e : Draw). hears_gathered r e c packet g) (drawn_next old r stands) ∙ gathered_step r d c packet g in
    let reached = subst (λ (s : RspStep). IsReached s.after) step (reached_fresh r packet (fresh_is old r stands few) stands.reached) in
    let at = hit.at in
    let there : hit.k ≡ place = omega (arith, at) in
    subst (λ (s : RspStep). IsStep s told out new) (sym step) (record {
      told = taken.met.told ∙ sym (step_told r c packet x);
      sent = taken.met.sent ∙ sym (step_sent r c packet x);
      stands = stands_after r c packet fields x old new stands (record {
        parses = is;
        is = (found_in (λ (y : Connection). y.setup.peer == fields.from) r.connections c hit.found).0;
        part = part;
        given = given;
        shared = taken.met.shared;
        peers = subst (λ (xs : List Peer). ArePeers xs r.part (fields ∷ fields_in r.given) (with_history c.setup.peer (λ h. history_after h x) r.connections)) (ap (λ (n : ℕ). slice_set old.peers.items n peer) there ∙ sym items)
            (hit.change (fields ∷ fields_in r.given) (others_without r.part (fields_in r.given) fields) peer (λ h. history_after h x) taken.stands);
      }) reached;
    })
