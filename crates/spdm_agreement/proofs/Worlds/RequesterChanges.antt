-- A requester of a world goes on: what its run keeps of the whole world.
use Rattle.std.proofs.Common.{◌≡◌, ◌≢◌, ◌⊎◌, ℕ, ◌==◌, List, ◌++◌, Bool, true, false, cond, refl, sym, ap, ◌∙◌, subst, inl, inr, eqb-true, eq-eqb, true≢false}
use Rattle.key_schedule.specs.Purpose.{Purpose}
use Rattle.requester_machine.specs.History as asked
use Rattle.responder_machine.specs.History as served
use Rattle.responder_machine.specs.Setup.{RspSetup}
use Rattle.requester_machine.specs.Setup.{ReqSetup}
use Rattle.spdm_machine.specs.TagLog.{Act}
use Rattle.world_machine.specs.Agreement.{IsMade}
use Rattle.world_machine.specs.Chance.{NoChance}
use Rattle.requester_machine.specs.Requesting.{Requesting}
use Rattle.responder_machine.specs.Responding.{Connection}
use Rattle.world_machine.specs.World.{World, SentPacket, replaced, with_requester}
use Rattle.spdm_agreement.specs.Claims.{IsReached}
use Rattle.spdm_agreement.proofs.Worlds.Fits.{Apart, IsPair, IsAsking, Fits, own_reach, others_reach}
use Rattle.spdm_machine.proofs.Members.{IsIn, in_map, map_in}
use Rattle.spdm_agreement.proofs.Worlds.EndSteps.{OwnLeads}
use Rattle.spdm_agreement.proofs.Worlds.Owners.{own_made}
use Rattle.spdm_agreement.proofs.Worlds.Pairs.{state_of}
use Rattle.spdm_agreement.proofs.Messages.Beginnings.{reading_of}
use Rattle.spdm_agreement.specs.Story.{Past}

-- A requester after something: its set-up stays.
abbrev pub renewed : Requesting → List (List ℕ) → ℕ → asked.History → Requesting
renewed a given commands history = record a { given = given; commands = commands; history = history }

-- Where a requester of the new list comes from.
pub record Origin (rs : List Requesting) (new x : Requesting) : Type 0 where
  pub old : Requesting
  pub is : IsIn rs old
  pub same : ((old.setup.eid ≡ new.setup.eid) × (x ≡ new)) ⊎ ((old.setup.eid ≢ new.setup.eid) × (x ≡ old))

origin_by : (rs : List Requesting) (new old x : Requesting) (b : Bool) → (old.setup.eid == new.setup.eid) ≡ b → IsIn rs old → x ≡ cond b new old → Origin rs new x
origin_by rs new old x true e m is = record { old = old; is = m; same = inl (eqb-true _ _ e, is) }
origin_by rs new old x false e m is = record { old = old; is = m; same = inr (λ s. true≢false (sym (eq-eqb _ _ s) ∙ e), is) }

pub origin : (rs : List Requesting) (new x : Requesting) → IsIn (with_requester new rs) x → Origin rs new x
origin rs new x m = (let o = in_map (replaced new) rs x m in origin_by rs new o.0 x (o.0.setup.eid == new.setup.eid) refl o.1 o.2)

module _ (rs : List Requesting) (cs : List Connection) (apart : Apart rs cs) (a : Requesting) (is : IsIn rs a) (given : List (List ℕ)) (commands : ℕ) (history : asked.History) where
  abbrev new : Requesting
  new = renewed a given commands history

  -- The set-up of a requester of the new list is that of one of the old list.
  record Stays (x : Requesting) : Type 0 where
    old : Requesting
    in_old : IsIn rs old
    number : x.setup.eid ≡ old.setup.eid
    setup : x.setup ≡ old.setup
    same : ((old ≡ a) × (x ≡ new)) ⊎ ((old.setup.eid ≢ a.setup.eid) × (x ≡ old))

  stays : (x : Requesting) → IsIn (with_requester new rs) x → Stays x
  stays x m =
      let o = origin rs new x m in
      elim o.same [
        | inl s ↦ (let own = apart.eids o.old a o.is is s.0 in record {
          old = o.old;
          in_old = o.is;
          number = ap (λ (y : Requesting). y.setup.eid) s.1 ∙ sym s.0;
          setup = ap (λ (y : Requesting). y.setup) s.1 ∙ sym (ap (λ (y : Requesting). y.setup) own);
          same = inl (own, s.1);
        })
        | inr s ↦ record {
          old = o.old;
          in_old = o.is;
          number = ap (λ (y : Requesting). y.setup.eid) s.1;
          setup = ap (λ (y : Requesting). y.setup) s.1;
          same = inr (s.0, s.1);
        }
      ]

  alike : (x y : Requesting) (p : Stays x) (q : Stays y) → p.old ≡ q.old → x ≡ y
  alike x y p q e = elim p.same [
    | inl s ↦ elim q.same [ inl t ↦ s.1 ∙ sym t.1 | inr t ↦ absurd (t.0 (ap (λ (z : Requesting). z.setup.eid) (sym e ∙ s.0))) ]
    | inr s ↦ elim q.same [ inl t ↦ absurd (s.0 (ap (λ (z : Requesting). z.setup.eid) (e ∙ t.0))) | inr t ↦ s.1 ∙ e ∙ sym t.1 ]
  ]

  -- Each old requester has its place in the new list.
  placed_by : (o : Requesting) → IsIn rs o → (x : Requesting) × IsIn (with_requester new rs) x × (x.setup ≡ o.setup) × (x.setup.eid ≡ o.setup.eid)
  placed_by o m =
      let placed = map_in (replaced new) rs o m in
      let s = stays (replaced new o) placed in
      go (o.setup.eid == a.setup.eid) refl
    where
      go : (b : Bool) → (o.setup.eid == a.setup.eid) ≡ b → (x : Requesting) × IsIn (with_requester new rs) x × (x.setup ≡ o.setup) × (x.setup.eid ≡ o.setup.eid)
      go b e = (replaced new o, map_in (replaced new) rs o m, at b e, counted b e)
        where
          at : (b : Bool) → (o.setup.eid == a.setup.eid) ≡ b → (replaced new o).setup ≡ o.setup
          at true e = ap (λ (c : Bool). (cond c new o).setup) e ∙ sym (ap (λ (y : Requesting). y.setup) (apart.eids o a m is (eqb-true _ _ e)))
          at false e = ap (λ (c : Bool). (cond c new o).setup) e

          counted : (b : Bool) → (o.setup.eid == a.setup.eid) ≡ b → (replaced new o).setup.eid ≡ o.setup.eid
          counted true e = ap (λ (c : Bool). (cond c new o).setup.eid) e ∙ sym (eqb-true _ _ e)
          counted false e = ap (λ (c : Bool). (cond c new o).setup.eid) e

  pub still_apart : Apart (with_requester new rs) cs
  still_apart = record {
    eids = λ x y m n e. (let p = stays x m in let q = stays y n in alike x y p q (apart.eids p.old q.old p.in_old q.in_old (sym p.number ∙ e ∙ q.number)));
    keys = λ x y m n e. (let p = stays x m in let q = stays y n in p.number ∙ apart.keys p.old q.old p.in_old q.in_old (sym (ap (λ (s : ReqSetup). s.psk) p.setup) ∙ e ∙ ap (λ (s : ReqSetup). s.psk) q.setup) ∙ sym q.number);
    peers = apart.peers;
    paired = λ c m. (let o = apart.paired c m in let x = placed_by o.0 o.1 in (x.0, x.1, o.2 ∙ sym (ap (λ (s : ReqSetup). s.eid) x.2), o.3 ∙ sym (ap (λ (s : ReqSetup). s.psk) x.2)));
    served = λ x m. (let p = stays x m in let c = apart.served p.old p.in_old in (c.0, c.1, c.2 ∙ sym (ap (λ (s : ReqSetup). s.eid) p.setup)));
  }

module _ (prior : Past) (KeptAsked : ReqSetup → asked.History → Type 0) (KeptServed : RspSetup → served.History → Type 0) (world : World) (k : Fits prior KeptAsked KeptServed world)
    (a : Requesting) (is : IsIn world.requesters a) (given : List (List ℕ)) (commands : ℕ) (history : asked.History) (acts : List Act) (n : NoChance (acts ++ world.log)) where
  abbrev next : Requesting
  next = renewed a given commands history

  abbrev later : List SentPacket → World
  later sent = record { requesters = with_requester next world.requesters; responder = world.responder; sent = sent; log = acts ++ world.log }

  -- The run of this requester and its connection.
  abbrev Runs : Type 0
  Runs = (c : Connection) → IsPair world.requesters world.responder.connections a c → OwnLeads (reading_of a.setup.psk) (state_of prior a c world.log) (state_of prior next c (acts ++ world.log))

  pub now_reached : Runs → (c : Connection) → IsPair world.requesters world.responder.connections a c → IsReached (reading_of a.setup.psk) (state_of prior next c (acts ++ world.log))
  now_reached runs c pair = own_reach (reading_of a.setup.psk) (state_of prior a c world.log) (state_of prior next c (acts ++ world.log)) (k.pairs a c pair) (runs c pair) n

  all_ask : IsAsking prior KeptAsked KeptServed next → (x : Requesting) → IsIn (with_requester next world.requesters) x → IsAsking prior KeptAsked KeptServed x
  all_ask well x m =
      let p = stays world.requesters world.responder.connections k.apart a is given commands history x m in
      elim p.same [
        | inl s ↦ subst (IsAsking prior KeptAsked KeptServed) (sym s.1) well
        | inr s ↦ subst (IsAsking prior KeptAsked KeptServed) (sym s.1) (k.asks p.old p.in_old)
      ]

  other_pair : Runs → (o : Requesting) (c : Connection) → IsPair world.requesters world.responder.connections o c → o.setup.eid ≢ a.setup.eid → IsReached (reading_of o.setup.psk) (state_of prior o c (acts ++ world.log))
  other_pair runs o c pair differ =
      let own = k.apart.served a is in
      others_reach (reading_of a.setup.psk) (reading_of o.setup.psk) (state_of prior a own.0 world.log) (state_of prior next own.0 (acts ++ world.log)) (state_of prior o c world.log).asked (state_of prior o c world.log).served
      (λ e. differ (sym (k.apart.keys a o is pair.requester e)))
      (runs own.0 (record { requester = is; connection = own.1; peer = own.2 }))
      (k.pairs o c pair) n

  all_reached : Runs → (x : Requesting) (c : Connection) → IsPair (with_requester next world.requesters) world.responder.connections x c → IsReached (reading_of x.setup.psk) (state_of prior x c (acts ++ world.log))
  all_reached runs x c pair =
      let p = stays world.requesters world.responder.connections k.apart a is given commands history x pair.requester in
      let peer : c.setup.peer ≡ p.old.setup.eid = pair.peer ∙ ap (λ (s : ReqSetup). s.eid) p.setup in
      elim p.same [
        | inl s ↦ subst (λ (y : Requesting). IsReached (reading_of y.setup.psk) (state_of prior y c (acts ++ world.log))) (sym s.1)
            (now_reached runs c (record { requester = is; connection = pair.connection; peer = peer ∙ ap (λ (y : Requesting). y.setup.eid) s.0 }))
        | inr s ↦ subst (λ (y : Requesting). IsReached (reading_of y.setup.psk) (state_of prior y c (acts ++ world.log))) (sym s.1)
            (other_pair runs p.old c (record { requester = p.in_old; connection = pair.connection; peer = peer }) s.0)
      ]

  all_owned : Runs → (p : Purpose) (i : List ℕ) → IsMade p i (acts ++ world.log) → (x : Requesting) × IsIn (with_requester next world.requesters) x × (p.psk ≡ x.setup.psk)
  all_owned runs p i made =
      let own = k.apart.served a is in
      let pair : IsPair world.requesters world.responder.connections a own.0 = record { requester = is; connection = own.1; peer = own.2 } in
      elim (own_made (reading_of a.setup.psk) (state_of prior a own.0 world.log) (state_of prior next own.0 (acts ++ world.log)) p i (runs own.0 pair) made) [
        | inl e ↦ (let x = placed_by world.requesters world.responder.connections k.apart a is given commands history a is in (x.0, x.1, e ∙ sym (ap (λ (s : ReqSetup). s.psk) x.2)))
        | inr l ↦ (let o = k.owned p i l in let x = placed_by world.requesters world.responder.connections k.apart a is given commands history o.0 o.1 in (x.0, x.1, o.2 ∙ sym (ap (λ (s : ReqSetup). s.psk) x.2)))
      ]

  pub requester_goes : (sent : List SentPacket) → IsAsking prior KeptAsked KeptServed next → Runs → Fits prior KeptAsked KeptServed (later sent)
  requester_goes sent well runs = record {
    apart = still_apart world.requesters world.responder.connections k.apart a is given commands history;
    asks = all_ask well;
    serves = k.serves;
    wear = k.wear;
    draws = k.draws;
    owned = all_owned runs;
    pairs = all_reached runs;
  }
