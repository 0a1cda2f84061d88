-- What a text sets up is a configured world, so all that holds of those holds of it.
use Rattle.std.proofs.Common.{◌≡◌, ◌≤◌, ◌+◌, ℕ, List, [], ◌∷◌, map, length, All, refl, sym, ap, subst, arith}
use Rattle.std.proofs.lemmas.List.Elements.{All-from_recursion}
use Rattle.std.specs.List.{AllByRecursion}
use Rattle.requester_machine.specs.Setup.{ReqSetup, ReqEnd}
use Rattle.spdm_agreement.proofs.Worlds.Assembled.{agree, deliver, matches, seal_once, show_alike}
use Rattle.spdm_agreement.specs.Configured.{AreApart, HasDraws, IsRequester, setups_of, boot_most}
use Rattle.spdm_agreement.specs.Worlds.{ScriptsAreConfigured, ScriptsHold}
use Rattle.world_machine.specs.Setup.{known_of, ends_from, first_draw, script_world}

-- The set-ups of the ends of a text are those of the text.
setups_told : (n : ℕ) (seed : List ℕ) (boot : ℕ) (qs : List ReqSetup) → setups_of (ends_from n seed boot qs) ≡ qs
setups_told n seed boot [] = refl
setups_told n seed boot (q ∷ others) = ap (λ (x : List ReqSetup). q ∷ x) (setups_told (n + 1) seed boot others)

counted : (n : ℕ) (seed : List ℕ) (boot : ℕ) (qs : List ReqSetup) → length (ends_from n seed boot qs) ≡ length qs
counted n seed boot [] = refl
counted n seed boot (q ∷ others) = (let rest = counted (n + 1) seed boot others in omega arith)

first_fits : (boot : ℕ) → boot ≤ boot_most → HasDraws (first_draw boot)
first_fits boot most = omega arith

draws_fit : (n : ℕ) (seed : List ℕ) (boot : ℕ) (qs : List ReqSetup) → boot ≤ boot_most → AllByRecursion (λ (e : ReqEnd). HasDraws e.first) (ends_from n seed boot qs)
draws_fit n seed boot [] most = tt
draws_fit n seed boot (q ∷ others) most = (first_fits boot most, draws_fit (n + 1) seed boot others most)

pub scripts_are_configured : ScriptsAreConfigured
scripts_are_configured c seed boot is most =
    let told = sym (setups_told 1 seed boot c.requesters) in
    let count = counted 1 seed boot c.requesters in
    let few = is.count in record {
      count = omega arith;
      requesters = subst (λ (qs : List ReqSetup). All IsRequester qs) told is.requesters;
      responders = is.responders;
      known = ap (λ (qs : List ReqSetup). map known_of qs) told;
      peers = subst (λ (qs : List ReqSetup). All (λ (q : ReqSetup). q.responder ≡ c.responder.eid) qs) told is.peers;
      apart = subst AreApart told is.apart;
      draws = All-from_recursion (λ (e : ReqEnd). HasDraws e.first) (ends_from 1 seed boot c.requesters) (draws_fit 1 seed boot c.requesters most);
      responder_draws = first_fits boot most;
    }

pub scripts_hold : ScriptsHold
scripts_hold c seed boot is most entries chance =
    let configured = scripts_are_configured c seed boot is most in record {
      agreement = agree (script_world c seed boot) configured entries chance;
      data_prefix = deliver (script_world c seed boot) configured entries chance;
      matched = matches (script_world c seed boot) configured entries chance;
      hashes_agree = show_alike (script_world c seed boot) configured entries chance;
      sealed_once = seal_once (script_world c seed boot) configured entries chance;
    }
