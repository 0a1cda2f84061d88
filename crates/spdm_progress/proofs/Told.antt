-- A requester of a world and the responder's connection with it: how they are set up, and where they stand.
use Rattle.std.proofs.Common.{find, ◌≡◌, ◌≢◌, ◌∙◌, ◌==◌, ℕ, List, [], ◌∷◌, map, Some, Contains, sym, ap, subst, inl, inr}
use Rattle.std.proofs.lemmas.List.Elements.{Contains-append_left, Contains-append_right, Contains-push}
use Rattle.spdm_machine.proofs.Members.{IsIn, in_map, all_in, found_in}
use Rattle.requester_machine.specs.Requesting.{Requesting}
use Rattle.requester_machine.specs.Setup.{ReqSetup}
use Rattle.responder_machine.proofs.Others.{found}
use Rattle.responder_machine.specs.Responding.{Connection, connection_of}
use Rattle.world_machine.specs.Chance.{NoChance}
use Rattle.world_machine.specs.Happenings.{Entry}
use Rattle.world_machine.specs.Setup.{WorldSetup}
use Rattle.world_machine.specs.Trace.{world_after}
use Rattle.world_machine.specs.World.{is_at, number_at, World, requester_of}
use Rattle.spdm_agreement.proofs.Requester.AfterBody as bodies
use Rattle.spdm_agreement.proofs.Requester.Whole as asks
use Rattle.spdm_agreement.proofs.Responder.DataAnswered as serves
use Rattle.spdm_agreement.proofs.Worlds.AllEvents.{after_fits, requester_in}
use Rattle.spdm_agreement.proofs.Worlds.Fits.{Fits, same_key}
use Rattle.spdm_agreement.specs.Story.{no_past}
use Rattle.spdm_agreement.specs.Configured.{IsConfigured, IsRequester, IsResponder, AreApart, setups_of}
use Rattle.spdm_progress.proofs.Drawn.{AreDrawn}
use Rattle.spdm_progress.proofs.PacketSteps.{Pair, AreEnds}
use Rattle.spdm_progress.proofs.Placed.{always_placed}
use Rattle.spdm_progress.proofs.Places.{AllDiffer, first_is, number_is}
use Rattle.responder_machine.specs.Does.{IsMade}

-- ---- What every world of a set-up has.

pub fits_always : (w : WorldSetup) → IsConfigured w → (entries : List Entry) → NoChance (world_after w entries).log → Fits no_past (asks.IsKept no_past) (serves.IsKept no_past) (world_after w entries)
fits_always w c entries chance =
    after_fits (asks.IsKept no_past) (serves.IsKept no_past) (asks.starts no_past asks.begins_openly) (asks.asks_well no_past) (asks.hears_well no_past) bodies.steady
    (serves.served_starts no_past serves.begins_duly) (serves.does_well no_past) (serves.waits no_past) w c entries chance

pub differ_all : (qs : List ReqSetup) → AreApart qs → AllDiffer (map (λ (q : ReqSetup). q.eid) qs)
differ_all [] apart = tt
differ_all (q ∷ others) apart = (
  λ o m. (let x = in_map (λ (s : ReqSetup). s.eid) others o m in
      λ e. (all_in (λ (other : ReqSetup). (q.eid ≢ other.eid) × (q.psk ≢ other.psk)) others apart.0 x.0 x.1).0 (e ∙ x.2)),
  differ_all others apart.1,
)

-- Two set-ups of one endpoint are one.
one_setup : (qs : List ReqSetup) → AreApart qs → (x y : ReqSetup) → IsIn qs x → IsIn qs y → x.eid ≡ y.eid → x ≡ y
one_setup [] apart x y m k e = absurd m
one_setup (q ∷ others) apart x y m k e = elim m [
  | inl p ↦ elim k [
    | inl o ↦ p ∙ sym o
    | inr o ↦ absurd ((all_in (λ (other : ReqSetup). (q.eid ≢ other.eid) × (q.psk ≢ other.psk)) others apart.0 y o).0 (sym (ap (λ (z : ReqSetup). z.eid) p) ∙ e))
  ]
  | inr p ↦ elim k [
    | inl o ↦ absurd ((all_in (λ (other : ReqSetup). (q.eid ≢ other.eid) × (q.psk ≢ other.psk)) others apart.0 x p).0 (sym (ap (λ (z : ReqSetup). z.eid) o) ∙ sym e))
    | inr o ↦ one_setup others apart.1 x y p o e
  ]
]

-- A requester, the responder's connection with it, and what they are called together.
abbrev pub pair_of : ℕ → Requesting → Connection → Pair
pair_of n a c = record { number = n; requester = a.setup; responder = c.setup; seed = a.seed; first = a.first }

-- What is known of them.
pub record ArePlaced (world : World) (n : ℕ) (a : Requesting) (c : Connection) : Type 0 where
  pub ends : AreEnds (pair_of n a c)
  pub requester : IsRequester a.setup
  pub responder : IsResponder c.setup
  pub made : IsMade c.setup c.history
  pub drawn : AreDrawn c.history
  pub to : a.setup.responder ≡ c.setup.eid
  pub found : find (is_at a.setup.eid) world.requesters ≡ Some a
  pub number_is : number_at a.setup.eid world ≡ n
  pub own : world.responder.part.eid ≡ c.setup.eid
  pub hint : c.setup.hint ≡ a.setup.hint
  pub key : a.setup.psk ≡ c.setup.psk

pub are_placed : (w : WorldSetup) (before : List Entry) (n : ℕ) (a : Requesting) (c : Connection) → IsConfigured w → NoChance (world_after w before).log → requester_of n (world_after w before) ≡ Some a
    → connection_of a.setup.eid (world_after w before).responder.connections ≡ Some c → ArePlaced (world_after w before) n a c
are_placed w before n a c configured chance is connected =
    let world = world_after w before in
    let fits = fits_always w configured before chance in
    let placed = always_placed w configured before in
    let a_in = requester_in n world a is in
    let c_in = (found_in (λ (d : Connection). d.setup.peer == a.setup.eid) world.responder.connections c connected).0 in
    let a_setup = (fits.asks a a_in).setup in
    let c_setup = (fits.serves c c_in).setup in
    let theirs = placed.theirs a a_in in
    let towards = placed.ends c c_in in
    let to = theirs.responder ∙ sym towards.eid in
    let peer = found a.setup.eid world.responder.connections c connected in
    let differ = subst AllDiffer (sym placed.eids_are) (differ_all (setups_of w.requesters) configured.apart) in record {
      ends = record {
        peer = peer;
        to = to;
        apart = λ e. a_setup.other (e ∙ sym to);
        requester_unit = a_setup.sizes.payload;
        responder_unit = c_setup.sizes.payload;
      };
      requester = a_setup;
      responder = c_setup;
      made = (fits.serves c c_in).made;
      drawn = placed.drawn c c_in;
      to = to;
      found = first_is n world a is differ;
      number_is = number_is n world a is differ;
      own = placed.own_is ∙ sym towards.eid;
      hint = towards.hint ∙ ap (λ (q : ReqSetup). q.hint) (one_setup (setups_of w.requesters) configured.apart towards.requester a.setup towards.setup theirs.setup (sym towards.peer ∙ peer));
      key = sym (same_key world.requesters world.responder.connections fits.apart a c (record { requester = a_in; connection = c_in; peer = peer }));
    }

-- What is in a list is contained in it.
pub contained : {A : Type 0} (xs : List A) (x : A) → IsIn xs x → Contains xs x
contained [] x m = absurd m
contained (y ∷ others) x m = elim m [
  | inl e ↦ subst (Contains (y ∷ others)) (sym e) (Contains-append_left (y ∷ []) others y (Contains-push [] y))
  | inr k ↦ Contains-append_right (y ∷ []) others x (contained others x k)
]
