-- What the ends of each pair took of application data is the beginning of what was sealed, in every world.
use Rattle.std.proofs.Common.{◌≡◌, List, ℕ, sym, subst}
use Rattle.requester_machine.specs.History as asked
use Rattle.responder_machine.specs.History as served
use Rattle.responder_machine.specs.Setup.{RspSetup}
use Rattle.requester_machine.specs.Setup.{ReqSetup}
use Rattle.world_machine.specs.Agreement.{DataPrefix, IsPrefixOf}
use Rattle.world_machine.specs.Trace.{world_after}
use Rattle.world_machine.specs.World.{World}
use Rattle.spdm_agreement.specs.Worlds.{WorldsDeliver}
use Rattle.spdm_agreement.proofs.Delivery.Data.{data_prefix}
use Rattle.spdm_agreement.proofs.Delivery.SealedAtRequester as sealed
use Rattle.spdm_agreement.proofs.Delivery.AtResponder as taken
use Rattle.spdm_agreement.proofs.Delivery.TakenAtRequester as heard
use Rattle.spdm_agreement.proofs.Worlds.Fits.{Fits}
use Rattle.spdm_agreement.proofs.Worlds.EndSteps.{AsksWell, HearsWell, AskedStarts, AskedSteady, DoesWell, ServedStarts, Waits, KeepsOpenly, KeepsDuly}
use Rattle.spdm_agreement.proofs.Worlds.Pairs.{state_of}
use Rattle.spdm_agreement.proofs.Moves.Runs.{holds}
use Rattle.spdm_agreement.proofs.Messages.Beginnings.{reading_of}
use Rattle.spdm_agreement.proofs.Worlds.AllEvents.{after_fits, is_pair}
use Rattle.spdm_agreement.specs.Story.{no_past}

same_prefix : (a b x y : List (List ℕ)) → a ≡ x → b ≡ y → IsPrefixOf x y → IsPrefixOf a b
same_prefix a b x y p q k = subst (λ (l : List (List ℕ)). IsPrefixOf l b) (sym p) (subst (IsPrefixOf x) (sym q) k)

module _ (KeptAsked : ReqSetup → asked.History → Type 0) (KeptServed : RspSetup → served.History → Type 0)
    (asked_starts : AskedStarts KeptAsked) (asks_well : AsksWell no_past KeptAsked) (hears_well : HearsWell no_past KeptAsked) (asked_steady : AskedSteady) (keeps_openly : KeepsOpenly no_past KeptAsked)
    (served_starts : ServedStarts KeptServed) (does_well : DoesWell no_past KeptServed) (waits : Waits KeptServed) (keeps_duly : KeepsDuly no_past KeptServed) where
  deliver : (world : World) → Fits no_past KeptAsked KeptServed world → DataPrefix world
  deliver world k a x are t2 =
      let pair = is_pair no_past KeptAsked KeptServed asked_starts asks_well hears_well asked_steady served_starts does_well waits world a x are in
      let asks = k.asks a pair.requester in
      let serves = k.serves x pair.connection in
      let s = state_of no_past a x world.log in
      let p = data_prefix (reading_of a.setup.psk) s.asked s.served s.log (holds (reading_of a.setup.psk) s (k.pairs a x pair)) (keeps_openly a.setup a.history asks.kept) (keeps_duly x.setup x.history serves.kept) t2 in (
        same_prefix _ _ _ _ (taken.requests_are x.setup x.history serves.made t2) (sealed.requests_are a.setup a.history asks.made t2) p.0,
        same_prefix _ _ _ _ (heard.responses_are a.setup a.history asks.made t2) (taken.responses_are x.setup x.history serves.made t2) p.1,
      )

  pub worlds_deliver : WorldsDeliver
  worlds_deliver w c entries chance =
      deliver (world_after w entries) (after_fits KeptAsked KeptServed asked_starts asks_well hears_well asked_steady served_starts does_well waits w c entries chance)
