-- The world in which nothing has happened yet, but what was before.
use Rattle.std.proofs.Common.{◌≡◌, ◌≢◌, ℕ, ◌+◌, ◌≤◌, List, [], ◌∷◌, map, refl, sym, ap, ◌∙◌, subst, inl, inr, arith}
use Rattle.key_schedule.specs.Purpose.{Purpose}
use Rattle.requester_machine.specs.History as asked
use Rattle.responder_machine.specs.History as served
use Rattle.responder_machine.specs.Setup.{RspSetup, RspPart, Known, towards}
use Rattle.requester_machine.specs.Setup.{ReqSetup, ReqEnd}
use Rattle.requester_machine.specs.Requesting.{Requesting, new_requesting}
use Rattle.responder_machine.specs.Responding.{Connection, new_connection, all_draws}
use Rattle.world_machine.specs.Setup.{WorldSetup, known_of}
use Rattle.world_machine.specs.Agreement.{IsMade}
use Rattle.world_machine.specs.World.{World, new_world}
use Rattle.spdm_agreement.specs.Claims.{IsReached}
use Rattle.spdm_agreement.specs.Configured.{IsConfigured, IsRequester, IsResponder, AreApart, HasDraws, setups_of}
use Rattle.spdm_agreement.proofs.Worlds.Fits.{Apart, IsAsking, IsServing, Fits}
use Rattle.responder_machine.proofs.Connected.{PeersDiffer}
use Rattle.spdm_machine.proofs.Members.{IsIn, all_in, in_map, map_in}
use Rattle.spdm_agreement.proofs.Worlds.EndSteps.{AskedStarts, ServedStarts}
use Rattle.spdm_agreement.proofs.Worlds.Pairs.{state_of}
use Rattle.spdm_agreement.proofs.Messages.Beginnings.{reading_of}
use Rattle.spdm_agreement.specs.Story.{Past, no_past}
use Rattle.spdm_agreement.specs.Marks.{next_asked, next_served}

-- No two set-ups have one of these in common.
abbrev DifferBy : {B : Type 0} → (ReqSetup → B) → List ReqSetup → Type 0
DifferBy f [] = Unit {0}
DifferBy f (q ∷ others) = ((o : ReqSetup) → IsIn others o → f q ≡ f o → ⊥) × DifferBy f others

eids_differ : (qs : List ReqSetup) → AreApart qs → DifferBy (λ (q : ReqSetup). q.eid) qs
eids_differ [] apart = tt
eids_differ (q ∷ others) apart = (λ o m e. (all_in (λ (other : ReqSetup). (q.eid ≢ other.eid) × (q.psk ≢ other.psk)) others apart.0 o m).0 e, eids_differ others apart.1)

keys_differ : (qs : List ReqSetup) → AreApart qs → DifferBy (λ (q : ReqSetup). q.psk) qs
keys_differ [] apart = tt
keys_differ (q ∷ others) apart = (λ o m e. (all_in (λ (other : ReqSetup). (q.eid ≢ other.eid) × (q.psk ≢ other.psk)) others apart.0 o m).1 e, keys_differ others apart.1)

-- The set-up of a requester of the beginning.
setup_in : (es : List ReqEnd) (a : Requesting) → IsIn (map new_requesting es) a → IsIn (setups_of es) a.setup
setup_in es a m =
    let o = in_map new_requesting es a m in
    subst (λ (x : Requesting). IsIn (setups_of es) x.setup) (sym o.2) (map_in (λ (e : ReqEnd). e.setup) es o.0 o.1)

-- Two requesters of the beginning are one where what differs in all set-ups is equal.
told_by : {B : Type 0} (f : ReqSetup → B) (es : List ReqEnd) → DifferBy f (setups_of es) → (a b : Requesting) → IsIn (map new_requesting es) a → IsIn (map new_requesting es) b → f a.setup ≡ f b.setup → a ≡ b
told_by f [] differ a b m k e = absurd m
told_by f (x ∷ others) differ a b m k e = elim m [
  | inl p ↦ elim k [
    | inl q ↦ p ∙ sym q
    | inr q ↦ absurd (differ.0 b.setup (setup_in others b q) (sym (ap (λ (z : Requesting). f z.setup) p) ∙ e))
  ]
  | inr p ↦ elim k [
    | inl q ↦ absurd (differ.0 a.setup (setup_in others a p) (sym (ap (λ (z : Requesting). f z.setup) q) ∙ sym e))
    | inr q ↦ told_by f others differ.1 a b p q e
  ]
]

peers_differ : (r : RspPart) (qs : List ReqSetup) → DifferBy (λ (q : ReqSetup). q.eid) qs → PeersDiffer (map (new_connection r) (map known_of qs))
peers_differ r [] differ = tt
peers_differ r (q ∷ others) differ = (
  λ d m e. (let o = in_map (new_connection r) (map known_of others) d m in let s = in_map known_of others o.0 o.1 in
      differ.0 s.0 s.1 (sym e ∙ ap (λ (x : Connection). x.setup.peer) o.2 ∙ ap (λ (k : Known). k.eid) s.2)),
  peers_differ r others differ.1,
)

-- The requester of a set-up.
placed : (es : List ReqEnd) (q : ReqSetup) → IsIn (setups_of es) q → (a : Requesting) × IsIn (map new_requesting es) a × (q ≡ a.setup)
placed es q m = (let o = in_map (λ (e : ReqEnd). e.setup) es q m in (new_requesting o.0, map_in new_requesting es o.0 o.1, o.2))

-- The connections of the beginning, where the responder knows these requesters.
abbrev connections_of : RspPart → List ReqEnd → List Connection
connections_of r es = map (new_connection r) (map known_of (setups_of es))

starts_apart : (r : RspPart) (es : List ReqEnd) → AreApart (setups_of es) → Apart (map new_requesting es) (connections_of r es)
starts_apart r es apart =
    let qs = setups_of es in
    let differ = eids_differ qs apart in record {
      eids = told_by (λ (q : ReqSetup). q.eid) es differ;
      keys = λ a b m k e. ap (λ (x : Requesting). x.setup.eid) (told_by (λ (q : ReqSetup). q.psk) es (keys_differ qs apart) a b m k e);
      peers = peers_differ r qs differ;
      paired = λ x m. (let o = in_map (new_connection r) (map known_of qs) x m in let s = in_map known_of qs o.0 o.1 in let a = placed es s.0 s.1 in (
        a.0,
        a.1,
        ap (λ (y : Connection). y.setup.peer) o.2 ∙ ap (λ (k : Known). k.eid) s.2 ∙ ap (λ (q : ReqSetup). q.eid) a.2,
        ap (λ (y : Connection). y.setup.psk) o.2 ∙ ap (λ (k : Known). k.psk) s.2 ∙ ap (λ (q : ReqSetup). q.psk) a.2,
      ));
      served = λ a m. (new_connection r (known_of a.setup), map_in (new_connection r) (map known_of qs) (known_of a.setup) (map_in known_of qs a.setup (setup_in es a m)), refl);
    }

-- So are the ends of a first world.
pub new_apart : (w : WorldSetup) → IsConfigured w → Apart (new_world w).requesters (new_world w).responder.connections
new_apart w c = subst (λ (known : List Known). Apart (map new_requesting w.requesters) (map (new_connection w.responder.part) known)) (sym c.known) (starts_apart w.responder.part w.requesters c.apart)

no_draws : (r : RspPart) (known : List Known) → all_draws (map (new_connection r) known) ≡ 0
no_draws r [] = refl
no_draws r (q ∷ others) = (let none = no_draws r others in omega arith)

-- Ends may go on from here: their draws begin behind those of its marks, all tags are of their keys, and moves of each
-- pair lead to its marks and tags.
pub record MayBegin (prior : Past) (w : WorldSetup) : Type 0 where
  pub asked : (e : ReqEnd) → IsIn w.requesters e → next_asked (prior.asked e.setup) ≤ e.first
  pub served : (k : Known) → IsIn w.responder.known k → next_served (reading_of k.psk) (prior.served (towards w.responder.part k)) ≤ w.responder.first
  pub owned : (p : Purpose) (i : List ℕ) → IsMade p i prior.log → (e : ReqEnd) × IsIn w.requesters e × (p.psk ≡ e.setup.psk)
  pub pairs : (e : ReqEnd) (k : Known) → IsIn w.requesters e → IsIn w.responder.known k → k.eid ≡ e.setup.eid
      → IsReached (reading_of e.setup.psk) (record { asked = prior.asked e.setup; served = prior.served (towards w.responder.part k); log = prior.log })

-- Where nothing was before, any ends may begin.
pub may_begin : (w : WorldSetup) → MayBegin no_past w
may_begin w = record {
  asked = λ e m. omega arith;
  served = λ k m. omega arith;
  owned = λ p i made. absurd made;
  pairs = λ e k m n same. record { moves = []; run = refl; no_chance = tt };
}

-- Nothing has happened yet but what was before.
abbrev pub begun : Past → WorldSetup → World
begun prior w = record (new_world w) { log = prior.log }

module _ (prior : Past) (KeptAsked : ReqSetup → asked.History → Type 0) (KeptServed : RspSetup → served.History → Type 0) (asked_starts : AskedStarts KeptAsked) (served_starts : ServedStarts KeptServed) (w : WorldSetup) (c : IsConfigured w)
    (from : MayBegin prior w) where
  new_asks : (a : Requesting) → IsIn (map new_requesting w.requesters) a → IsAsking prior KeptAsked KeptServed a
  new_asks a m =
      let o = in_map new_requesting w.requesters a m in
      subst (IsAsking prior KeptAsked KeptServed) (sym o.2) (record {
        setup = all_in IsRequester (setups_of w.requesters) c.requesters o.0.setup (map_in (λ (e : ReqEnd). e.setup) w.requesters o.0 o.1);
        made = tt;
        kept = asked_starts o.0.setup;
        fresh = (let first = from.asked o.0 o.1 in omega arith);
        draws = all_in (λ (e : ReqEnd). HasDraws e.first) w.requesters c.draws o.0 o.1;
        wear = omega arith;
      })

  new_serves : (next : ℕ) → w.responder.first ≤ next → (x : Connection) → IsIn (map (new_connection w.responder.part) w.responder.known) x → IsServing prior KeptAsked KeptServed next x
  new_serves next more x m =
      let o = in_map (new_connection w.responder.part) w.responder.known x m in
      subst (IsServing prior KeptAsked KeptServed next) (sym o.2) (record {
        setup = all_in (λ (q : Known). IsResponder (towards w.responder.part q)) w.responder.known c.responders o.0 o.1;
        made = tt;
        kept = served_starts (towards w.responder.part o.0);
        fresh = (let first = from.served o.0 o.1 in omega arith);
      })

  new_pair : (a : Requesting) (x : Connection) → IsIn (map new_requesting w.requesters) a → IsIn (map (new_connection w.responder.part) w.responder.known) x → x.setup.peer ≡ a.setup.eid → IsReached (reading_of a.setup.psk) (state_of prior a x prior.log)
  new_pair a x m k peer =
      let t = in_map new_requesting w.requesters a m in
      let o = in_map (new_connection w.responder.part) w.responder.known x k in
      subst (λ (b : Requesting). IsReached (reading_of b.setup.psk) (state_of prior b x prior.log)) (sym t.2)
      (subst (λ (y : Connection). IsReached (reading_of t.0.setup.psk) (state_of prior (new_requesting t.0) y prior.log)) (sym o.2)
      (from.pairs t.0 o.0 t.1 o.1 (sym (ap (λ (y : Connection). y.setup.peer) o.2) ∙ peer ∙ ap (λ (b : Requesting). b.setup.eid) t.2)))

  new_owned : (p : Purpose) (i : List ℕ) → IsMade p i prior.log → (a : Requesting) × IsIn (map new_requesting w.requesters) a × (p.psk ≡ a.setup.psk)
  new_owned p i made = (let e = from.owned p i made in (new_requesting e.0, map_in new_requesting w.requesters e.0 e.1, e.2))

  pub starts : Fits prior KeptAsked KeptServed (begun prior w)
  starts = record {
    apart = new_apart w c;
    asks = new_asks;
    serves = new_serves (w.responder.first + all_draws (map (new_connection w.responder.part) w.responder.known)) (omega arith);
    wear = (let none = no_draws w.responder.part w.responder.known in omega arith);
    draws = c.responder_draws;
    owned = new_owned;
    pairs = λ a x pair. new_pair a x pair.requester pair.connection pair.peer;
  }
