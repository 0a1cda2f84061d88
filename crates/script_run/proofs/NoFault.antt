-- The ends of a configuration in range are never refused.
use Rattle.std.proofs.Common.{◌≡◌, ◌∙◌, ◌∷◌, [], ℕ, zero, suc, List, refl, sym, ap, subst, arith, Option, Some, None, inl, inr, Contains}
use Rattle.std.proofs.lemmas.Option.{none-some}
use Rattle.std.specs.Option.{unwrap_or}
use Rattle.std.specs.Prelude.{IsSome}
use Rattle.link_world.specs.Configured.{HaveFirstFault, IsCause}
use Rattle.link_world.specs.Worlds.{StandsFor}
use Rattle.link_world.specs.declared.fault.WorldFault.TheVariants.{Requester, Responder}
use Rattle.link_world.specs.declared.world.World as program
use Rattle.requester.specs.declared.fault.ReqConfigFault.{ReqConfigFault}
use Rattle.responder.specs.declared.fault.RspConfigFault.{RspConfigFault}
use Rattle.script_ends.specs.Configured.{configuration_in}
use Rattle.script_laws.proofs.EndsRight.{sound_has_no_fault}
use Rattle.script_run.specs.Lives.{set_up_in}
use Rattle.script_text.specs.Sound.{IsSoundConfig}
use Rattle.script_text.specs.declared.configuration.config.ReqPart.{ReqPart}
use Rattle.script_text.specs.declared.configuration.config.ScriptConfig.{ScriptConfig}
use Rattle.world_machine.specs.Setup.{script_world}
use Rattle.world_machine.specs.World.{new_world}

pub no_responder_fault : (c : ScriptConfig) → IsSoundConfig c → (fault : RspConfigFault) → IsCause c (Responder fault) → ⊥
no_responder_fault c sound fault cause =
    none-some fault (sym ((sound_has_no_fault c sound).responder cause.config cause.sets_up) ∙ cause.is)

first_of : (q : ReqPart) (others : List ReqPart) → Contains (q ∷ others) q
first_of q others = (zero, omega arith, refl)

behind : (q x : ReqPart) (others : List ReqPart) → Contains others x → Contains (q ∷ others) x
behind q x others p = (suc p.0, omega (arith, p.1), p.2)

first_fault : (c : ScriptConfig) → IsSoundConfig c → (fault : ReqConfigFault) (qs : List ReqPart) → ((q : ReqPart) → Contains qs q → Contains c.requesters q)
    → HaveFirstFault c.responder.eid.number qs fault → ⊥
first_fault c sound fault [] all cause = absurd cause
first_fault c sound fault (q ∷ others) all (inl one) =
    none-some fault (sym ((sound_has_no_fault c sound).requester one.config (record { q = q; is = all q (first_of q others); sets_up = one.sets_up })) ∙ one.is)
first_fault c sound fault (q ∷ others) all (inr more) = first_fault c sound fault others (λ x is. all x (behind q x others is)) more.1

pub no_requester_fault : (c : ScriptConfig) → IsSoundConfig c → (fault : ReqConfigFault) → IsCause c (Requester fault) → ⊥
no_requester_fault c sound fault cause = first_fault c sound fault c.requesters (λ q is. is) cause.1

-- Its seed is that of its world.
pub has_seed : (c : ScriptConfig) → IsSoundConfig c → IsSome c.seed
has_seed c sound = subst (λ (o : Option (List ℕ)). IsSome o) (sym sound.seed) refl

pub first_stands : (c : ScriptConfig) (boot : ℕ) → IsSoundConfig c → (seen : program.World)
    → ((seed : List ℕ) → c.seed ≡ Some seed → StandsFor seen (new_world (script_world (configuration_in c) seed boot))) → StandsFor seen (new_world (set_up_in c boot))
first_stands c boot sound seen stands =
    subst (λ (x : List ℕ). StandsFor seen (new_world (script_world (configuration_in c) x boot))) (sym (ap (λ (o : Option (List ℕ)). unwrap_or o []) sound.seed)) (stands sound.seed_bytes sound.seed)
