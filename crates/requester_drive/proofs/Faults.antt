-- What a fault that is told says of the call.
use Rattle.std.proofs.Common.{◌≡◌, ◌<◌, ℕ, List, [], ◌∷◌, Some, length, get_or, refl, ap, sym, subst, arith}
use Rattle.std.specs.Option.{option_map}
use Rattle.script_ends.specs.Configured.{IsRequesterFault}
use Rattle.requester.specs.declared.fault.ReqConfigFault.{ReqConfigFault}
use Rattle.requester.specs.declared.fault.ReqConfigFault.TheVariants as asking
use Rattle.requester_drive.specs.First.{first_in_life, first_of, requester_in_life}
use Rattle.requester_drive.specs.Told.{IsEarly, of_requester}
use Rattle.requester_machine.specs.Requesting.{Requesting}
use Rattle.script_text.specs.declared.configuration.config.ReqPart.{ReqPart}
use Rattle.script_text.specs.declared.configuration.config.ScriptConfig.{ScriptConfig}

-- the requester that is made is the first
at_front : (qs : List ReqPart) (q : ReqPart) → 0 < length qs → q ≡ get_or qs 0 q → first_of qs ≡ Some q
at_front [] q some is = absurd (omega (arith, some))
at_front (x ∷ qs) q some is = ap (λ (y : ReqPart). Some y) (sym is)

pub first_is : (seen qs : List ReqPart) (q : ReqPart) → seen ≡ qs → 0 < length seen → q ≡ get_or seen 0 q → first_of qs ≡ Some q
first_is seen qs q same some is = subst (λ (l : List ReqPart). first_of l ≡ Some q) same (at_front seen q some is)

-- there is a first one
some_of : (f : ReqPart → Requesting) (qs : List ReqPart) → 0 < length qs → (a : Requesting) × (option_map f (first_of qs) ≡ Some a)
some_of f [] some = absurd (omega (arith, some))
some_of f (q ∷ qs) some = (f q, refl)

pub some_requester : (c : ScriptConfig) (seed : List ℕ) (boot : ℕ) → 0 < length c.requesters → (a : Requesting) × (first_in_life c seed boot ≡ Some a)
some_requester c seed boot some = some_of (requester_in_life c seed boot) c.requesters some

pub requester_cause : (c : ScriptConfig) (q : ReqPart) (f : ReqConfigFault) → first_of c.requesters ≡ Some q → IsRequesterFault c.responder.eid.number q f → IsEarly c (of_requester f)
requester_cause c q asking.SameEid first is = record { q = q; first = first; has = is }
requester_cause c q asking.SizeRange first is = record { q = q; first = first; has = is }
requester_cause c q asking.OutOfMemory first is = tt
