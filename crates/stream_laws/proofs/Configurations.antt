-- The world of a configuration is a configured world, whatever the seeds are, so all that holds of those holds of it.
use Rattle.std.proofs.Common.{◌≡◌, ◌≤◌, ◌+◌, ◌∙◌, ℕ, List, [], ◌∷◌, map, length, All, Bool, cond, refl, sym, ap, subst, arith}
use Rattle.std.proofs.lemmas.Bool.{ne_eqb}
use Rattle.std.proofs.lemmas.List.Elements.{All-from_recursion}
use Rattle.std.specs.List.{AllByRecursion}
use Rattle.script_ends.specs.Configured.{configuration_in, requester_end, requester_in, responder_end}
use Rattle.requester_machine.specs.Setup.{ReqEnd, ReqSetup}
use Rattle.script_text.specs.declared.configuration.config.ReqPart.{ReqPart}
use Rattle.script_text.specs.declared.configuration.config.ScriptConfig.{ScriptConfig}
use Rattle.spdm_agreement.proofs.Worlds.Assembled.{agree, deliver, matches, seal_once, show_alike}
use Rattle.spdm_agreement.specs.Configured.{AreApart, HasDraws, IsConfiguration, IsConfigured, IsRequester, setups_of}
use Rattle.stream_laws.specs.Laws.{ScriptWorldsAreSuch, StreamsHold}
use Rattle.stream_laws.specs.Worlds.{ends_from, script_seeds, world_of}
use Rattle.world_machine.specs.Setup as script
use Rattle.world_machine.specs.Setup.{WorldSetup, first_draw, known_of, requester_seed, responder_seed}

-- The requesters are set up as the configuration says it.
pub setups_told : (responder n : ℕ) (seeds : ℕ → List ℕ) (qs : List ReqPart) → setups_of (ends_from responder n seeds qs) ≡ map (requester_in responder) qs
setups_told responder n seeds [] = refl
setups_told responder n seeds (q ∷ others) = ap (λ (rest : List ReqSetup). requester_in responder q ∷ rest) (setups_told responder (n + 1) seeds others)

counted : (responder n : ℕ) (seeds : ℕ → List ℕ) (qs : List ReqPart) → length (ends_from responder n seeds qs) ≡ length (map (requester_in responder) qs)
counted responder n seeds [] = refl
counted responder n seeds (q ∷ others) = (let rest = counted responder (n + 1) seeds others in omega arith)

first_fits : HasDraws (first_draw 0)
first_fits = omega arith

draws_fit : (responder n : ℕ) (seeds : ℕ → List ℕ) (qs : List ReqPart) → AllByRecursion (λ (e : ReqEnd). HasDraws e.first) (ends_from responder n seeds qs)
draws_fit responder n seeds [] = tt
draws_fit responder n seeds (q ∷ others) = (first_fits, draws_fit responder (n + 1) seeds others)

pub configured : (c : ScriptConfig) (seeds : ℕ → List ℕ) → IsConfiguration (configuration_in c) → IsConfigured (world_of c seeds)
configured c seeds is =
    let responder = c.responder.eid.number in
    let told = sym (setups_told responder 1 seeds c.requesters) in
    let count = counted responder 1 seeds c.requesters in
    let few = is.count in record {
      count = omega arith;
      requesters = subst (λ (qs : List ReqSetup). All IsRequester qs) told is.requesters;
      responders = is.responders;
      known = ap (λ (qs : List ReqSetup). map known_of qs) told;
      peers = subst (λ (qs : List ReqSetup). All (λ (q : ReqSetup). q.responder ≡ responder) qs) told is.peers;
      apart = subst AreApart told is.apart;
      draws = All-from_recursion (λ (e : ReqEnd). HasDraws e.first) (ends_from responder 1 seeds c.requesters) (draws_fit responder 1 seeds c.requesters);
      responder_draws = first_fits;
    }

pub hold : StreamsHold
hold c seeds is entries chance =
    let w = world_of c seeds in
    let right = configured c seeds is in record {
      agreement = agree w right entries chance;
      data_prefix = deliver w right entries chance;
      matched = matches w right entries chance;
      hashes_agree = show_alike w right entries chance;
      sealed_once = seal_once w right entries chance;
    }

-- ---- The seeds of a script.

own_seed : (seed : List ℕ) (n : ℕ) → 1 ≤ n → requester_seed seed n ≡ script_seeds seed n
own_seed seed n least = sym (ap (λ (b : Bool). cond b (responder_seed seed) (requester_seed seed n)) (ne_eqb n 0 (λ e. omega (arith, e, least))))

same_ends : (responder n : ℕ) (seed : List ℕ) (qs : List ReqPart) → 1 ≤ n → script.ends_from n seed 0 (map (requester_in responder) qs) ≡ ends_from responder n (script_seeds seed) qs
same_ends responder n seed [] least = refl
same_ends responder n seed (q ∷ others) least =
    ap (λ (own : List ℕ). requester_end responder q own 0 ∷ script.ends_from (n + 1) seed 0 (map (requester_in responder) others)) (own_seed seed n least)
    ∙ ap (λ (rest : List ReqEnd). requester_end responder q (script_seeds seed n) 0 ∷ rest) (same_ends responder (n + 1) seed others (omega (arith, least)))

pub are_such : ScriptWorldsAreSuch
are_such c seed =
    let world : List ReqEnd → WorldSetup = λ es. record { responder = responder_end c (responder_seed seed) 0; requesters = es } in
    ap world (same_ends c.responder.eid.number 1 seed c.requesters (omega arith))
