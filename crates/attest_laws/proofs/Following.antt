-- A requester is followed through a world: what is told and given to it changes it, and nothing else does.
use Rattle.std.proofs.Common.{◌≡◌, ◌≢◌, ◌==◌, ◌∙◌, ℕ, zero, suc, List, [], ◌∷◌, map, find, nat_lt, length, slice_index, Bool, true, false, cond, Option, Some, None, refl, sym, ap, subst, eqb-true}
use Rattle.std.proofs.lemmas.Bool.{ne_eqb}
use Rattle.requester_machine.proofs.SetUpKept.{given_setup, told_setup}
use Rattle.requester_machine.specs.Message.{Command}
use Rattle.requester_machine.specs.Requesting.{Requesting, requester_given, requester_told}
use Rattle.requester_machine.specs.Setup.{ReqSetup}
use Rattle.responder_machine.specs.Responding.{responder_hears}
use Rattle.responder_machine.specs.Setup.{RspPart}
use Rattle.spdm_machine.proofs.Members.{found_in, some_same}
use Rattle.spdm_progress.proofs.Placed.{eids_stay}
use Rattle.spdm_progress.proofs.Places.{AllDiffer, first_is, number_is, of_new, of_same}
use Rattle.world_machine.specs.Happenings.{Happening}
use Rattle.world_machine.specs.Happenings.Happening.{Told, Reply, Deliver, Lose, Inject, Pump, Tick, Show}
use Rattle.world_machine.specs.World.{World, WorldStep, given, given_to, given_to_responder, happens, is_at, loses, number_at, packet_of, replaced, replied, requester_at, requester_of, told, with_requester}
use Rattle.attest_laws.proofs.Blocks.{IsSetUp, happens_stays}
use Rattle.attest_laws.specs.Attested.{IsElsewhere, IsFor}

abbrev eids_of : List Requesting → List ℕ
eids_of rs = map (λ (x : Requesting). x.setup.eid) rs

-- Requester n is this one, and no two have one endpoint.
pub record IsAt (n : ℕ) (a : Requesting) (world : World) : Type 0 where
  pub is : requester_of n world ≡ Some a
  pub differ : AllDiffer (eids_of world.requesters)

-- It has this endpoint, which is not the responder's.
pub record Stands (part : RspPart) (n eid : ℕ) (a : Requesting) (world : World) : Type 0 where
  pub at : IsAt n a world
  pub own : a.setup.eid ≡ eid
  pub setup : IsSetUp part world.responder
  pub differs : part.eid ≢ eid

-- ---- One requester goes on.

replaced_other : (new old : Requesting) (b : Bool) → (old.setup.eid == new.setup.eid) ≡ b → old.setup.eid ≢ new.setup.eid → Some (replaced new old) ≡ Some old
replaced_other new old b e other = ap (λ (c : Bool). Some (cond c new old)) (ne_eqb old.setup.eid new.setup.eid other)

other_at : (place : ℕ) (new : Requesting) (rs : List Requesting) (a : Requesting) → a.setup.eid ≢ new.setup.eid → requester_at place rs ≡ Some a → requester_at place (with_requester new rs) ≡ Some a
other_at place new [] a other is = is
other_at zero new (b ∷ others) a other is = replaced_other new b (b.setup.eid == new.setup.eid) refl (λ e. other (sym (ap (λ (x : Requesting). x.setup.eid) (some_same b a is)) ∙ e)) ∙ is
other_at (suc place) new (b ∷ others) a other is = other_at place new others a other is

other_of : (n : ℕ) (new : Requesting) (world later : World) (a : Requesting) → later.requesters ≡ with_requester new world.requesters → a.setup.eid ≢ new.setup.eid → requester_of n world ≡ Some a → requester_of n later ≡ Some a
other_of zero new world later a moved other is = is
other_of (suc place) new world later a moved other is = ap (requester_at place) moved ∙ other_at place new world.requesters a other is

module _ (n : ℕ) (a : Requesting) (world later : World) (k : IsAt n a world) where
  own_goes : (new : Requesting) → new.setup ≡ a.setup → later.requesters ≡ with_requester new world.requesters → IsAt n new later
  own_goes new same moved = record {
    is = of_new n new world later a moved k.is (sym (ap (λ (q : ReqSetup). q.eid) same));
    differ = subst (λ (rs : List Requesting). AllDiffer (eids_of rs)) (sym moved) (subst AllDiffer (sym (eids_stay new world.requesters)) k.differ);
  }

  other_goes : (new : Requesting) → a.setup.eid ≢ new.setup.eid → later.requesters ≡ with_requester new world.requesters → IsAt n a later
  other_goes new other moved = record {
    is = other_of n new world later a moved other k.is;
    differ = subst (λ (rs : List Requesting). AllDiffer (eids_of rs)) (sym moved) (subst AllDiffer (sym (eids_stay new world.requesters)) k.differ);
  }

  none_goes : later.requesters ≡ world.requesters → IsAt n a later
  none_goes same = record { is = of_same n world later (Some a) same k.is; differ = subst (λ (rs : List Requesting). AllDiffer (eids_of rs)) (sym same) k.differ }

-- ---- It is told a command.

told_at : (n : ℕ) (a : Requesting) (world : World) (command : Command) → IsAt n a world → IsAt n (requester_told a command).after (happens world (Told n command)).after
unfolding happens
told_at n a world command k =
    own_goes n a world (told world n command (requester_of n world)).after k (requester_told a command).after (told_setup a command)
    (ap (λ (o : Option Requesting). (told world n command o).after.requesters) k.is)

-- ---- A packet is given to it.

given_at : (part : RspPart) (n eid : ℕ) (a : Requesting) (world : World) (packet : List ℕ) → Stands part n eid a world → IsFor eid packet → IsAt n (requester_given a packet).after (happens world (Inject packet)).after
unfolding happens
given_at part n eid a world packet k for_it =
    own_goes n a world (given world packet).after k.at (requester_given a packet).after (given_setup a packet)
    (ap (λ (b : Bool). (cond b (given_to world packet None) (by_end (slice_index packet 1 == world.responder.part.eid))).after.requesters) for_it.0
    ∙ ap (λ (b : Bool). (by_end b).after.requesters) (ne_eqb (slice_index packet 1) world.responder.part.eid (λ same. k.differs (ap (λ (p : RspPart). p.eid) (sym k.setup.part_is) ∙ sym same ∙ for_it.1)))
    ∙ ap (λ (e : ℕ). (given_to world packet (find (is_at e) world.requesters)).after.requesters) (for_it.1 ∙ sym k.own)
    ∙ ap (λ (o : Option Requesting). (given_to world packet o).after.requesters) (first_is n world a k.at.is k.at.differ))
  where
    by_end : Bool → WorldStep
    by_end b = cond b (given_to_responder world packet (responder_hears world.responder packet)) (given_to world packet (find (is_at (slice_index packet 1)) world.requesters))

-- ---- Something else happens.

module _ (n eid : ℕ) (a : Requesting) (world : World) (k : IsAt n a world) (own : a.setup.eid ≡ eid) where
  told_other : (m : ℕ) → m ≢ n → (command : Command) (o : Option Requesting) → requester_of m world ≡ o → IsAt n a (told world m command o).after
  told_other m other command None is = k
  told_other m other command (Some b) is =
      other_goes n a world (told world m command (Some b)).after k (requester_told b command).after
      (λ same. other (sym (number_is m world b is k.differ) ∙ ap (λ (e : ℕ). number_at e world) (ap (λ (q : ReqSetup). q.eid) (sym (told_setup b command)) ∙ sym same) ∙ number_is n world a k.is k.differ)) refl

  module _ (packet : List ℕ) where
    given_found : nat_lt (length packet) 2 ≡ false → (IsFor eid packet → ⊥) → (o : Option Requesting) → find (is_at (slice_index packet 1)) world.requesters ≡ o → IsAt n a (given_to world packet o).after
    given_found long other None is = k
    given_found long other (Some b) is =
        other_goes n a world (given_to world packet (Some b)).after k (requester_given b packet).after
        (λ same. other (long, sym (eqb-true b.setup.eid (slice_index packet 1) (found_in (is_at (slice_index packet 1)) world.requesters b is).1) ∙ ap (λ (q : ReqSetup). q.eid) (sym (given_setup b packet)) ∙ sym same ∙ own)) refl

    given_long : nat_lt (length packet) 2 ≡ false → (IsFor eid packet → ⊥) → (b : Bool)
        → IsAt n a (cond b (given_to_responder world packet (responder_hears world.responder packet)) (given_to world packet (find (is_at (slice_index packet 1)) world.requesters))).after
    given_long long other true = none_goes n a world (given_to_responder world packet (responder_hears world.responder packet)).after k refl
    given_long long other false = given_found long other (find (is_at (slice_index packet 1)) world.requesters) refl

    given_by : (IsFor eid packet → ⊥) → (b : Bool) → nat_lt (length packet) 2 ≡ b
        → IsAt n a (cond b (given_to world packet None) (cond (slice_index packet 1 == world.responder.part.eid) (given_to_responder world packet (responder_hears world.responder packet)) (given_to world packet (find (is_at (slice_index packet 1)) world.requesters)))).after
    given_by other true is = k
    given_by other false is = given_long is other (slice_index packet 1 == world.responder.part.eid)

  lost : (number : ℕ) (o : Option (List ℕ)) → IsAt n a (loses world number o).after
  lost number None = k
  lost number (Some packet) = none_goes n a world (loses world number (Some packet)).after k refl

  queued : (bytes : List ℕ) (o : Option Requesting) → IsAt n a (replied world bytes o).after
  queued bytes None = k
  queued bytes (Some b) = none_goes n a world (replied world bytes (Some b)).after k refl

  elsewhere_at : (event : Happening) → IsElsewhere n eid event → IsAt n a (happens world event).after
  unfolding happens
  elsewhere_at (Told m command) other = told_other m other command (requester_of m world) refl
  elsewhere_at (Inject packet) other = given_by packet other (nat_lt (length packet) 2) refl
  elsewhere_at (Deliver number) other = absurd other
  elsewhere_at (Pump count) other = absurd other
  elsewhere_at (Lose number) other = lost number (packet_of number world.sent)
  elsewhere_at (Reply m bytes) other = queued bytes (requester_of m world)
  elsewhere_at (Tick seconds) other = none_goes n a world (happens world (Tick seconds)).after k refl
  elsewhere_at Show other = k

-- ---- All together.

module _ (part : RspPart) (n eid : ℕ) (a : Requesting) (world : World) (k : Stands part n eid a world) where
  pub told_stands : (command : Command) → Stands part n eid (requester_told a command).after (happens world (Told n command)).after
  told_stands command = record {
    at = told_at n a world command k.at;
    own = ap (λ (q : ReqSetup). q.eid) (told_setup a command) ∙ k.own;
    setup = happens_stays part world (Told n command) k.setup;
    differs = k.differs;
  }

  pub given_stands : (packet : List ℕ) → IsFor eid packet → Stands part n eid (requester_given a packet).after (happens world (Inject packet)).after
  given_stands packet for_it = record {
    at = given_at part n eid a world packet k for_it;
    own = ap (λ (q : ReqSetup). q.eid) (given_setup a packet) ∙ k.own;
    setup = happens_stays part world (Inject packet) k.setup;
    differs = k.differs;
  }

  pub elsewhere_stands : (event : Happening) → IsElsewhere n eid event → Stands part n eid a (happens world event).after
  elsewhere_stands event other = record { at = elsewhere_at n eid a world k.at k.own event other; own = k.own; setup = happens_stays part world event k.setup; differs = k.differs }
