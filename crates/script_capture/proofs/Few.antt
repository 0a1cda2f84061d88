-- A configuration in range has at most eight requesters.
use Rattle.std.proofs.Common.{◌≡◌, ◌+◌, ◌<◌, ◌≤◌, ◌++◌, ◌∷◌, [], ◌&&◌, ◌||◌, ℕ, List, length, length-append, nat_eq, nat_lt, not, arith, true}
use Rattle.std.proofs.lemmas.Bool.{and_parts}
use Rattle.std.proofs.lemmas.Bool.Decides.{nat_tests}
use Rattle.script_text.specs.Configuring.{has_psk, requester_has_eid}
use Rattle.script_text.specs.Sound.{are_sound_requesters, is_sound_requester}
use Rattle.script_text.specs.declared.configuration.config.ReqPart.{ReqPart}

pub few_requesters : (responder : ℕ) (before requesters : List ReqPart) → length before ≤ 8 → are_sound_requesters responder before requesters ≡ true → length before + length requesters ≤ 8
few_requesters responder before [] few sound = omega (arith, few)
few_requesters responder before (q ∷ requesters) few sound =
    let same = nat_eq responder q.eid.number || requester_has_eid q.eid.number before in
    let a = and_parts (is_sound_requester q && nat_lt (length before) 8 && not same && not (has_psk q.psk before)) (are_sound_requesters responder (before ++ q ∷ []) requesters) sound in
    let b = and_parts (is_sound_requester q && nat_lt (length before) 8 && not same) (not (has_psk q.psk before)) a.0 in
    let c = and_parts (is_sound_requester q && nat_lt (length before) 8) (not same) b.0 in
    let room : length before < 8 = grind (arith, nat_tests, (and_parts (is_sound_requester q) (nat_lt (length before) 8) c.0).1) in
    let long : length (before ++ q ∷ []) ≡ length before + 1 = length-append before (q ∷ []) in
    let rest = few_requesters responder (before ++ q ∷ []) requesters (omega (arith, long, room)) a.1 in
    omega (arith, long, rest)
