-- The ends of a configuration in the world in which nothing has happened yet.
use Rattle.std.proofs.Common.{◌≡◌, ◌≢◌, ◌∙◌, ℕ, List, [], ◌∷◌, map, Some, option_map, refl, sym, ap, subst, inl}
use Rattle.script_ends.specs.Configured.{configuration_in, requester_in, responder_end}
use Rattle.requester_drive.specs.First.{first_of, first_requester, requester_as}
use Rattle.requester_machine.specs.Requesting.{Requesting, new_requesting}
use Rattle.requester_machine.specs.Setup.{ReqEnd, ReqSetup}
use Rattle.responder_machine.specs.Responding.{Connection, new_connection, new_responding}
use Rattle.responder_machine.specs.Setup.{RspEnd}
use Rattle.responder_serve.specs.Served.{responder_of}
use Rattle.script_text.specs.declared.configuration.config.ReqPart.{ReqPart}
use Rattle.script_text.specs.declared.configuration.config.ScriptConfig.{ScriptConfig}
use Rattle.spdm_agreement.specs.Configured.{AreApart, IsConfiguration, IsRequester, setups_of}
use Rattle.spdm_machine.proofs.Members.{IsIn, all_in, in_map, map_in, none_some, some_same}
use Rattle.stream_laws.proofs.Answering.{HasEnds}
use Rattle.stream_laws.proofs.Bytes.{IsOther, IsOwn}
use Rattle.stream_laws.proofs.Configurations.{setups_told}
use Rattle.stream_laws.proofs.FirstGoes.{IsFirst}
use Rattle.stream_laws.proofs.ResponderGoes.{IsServing}
use Rattle.stream_laws.specs.Worlds.{ends_from, world_of}
use Rattle.world_machine.specs.World.{new_world}

-- ---- Set-ups.

setup_in : (es : List ReqEnd) (b : Requesting) → IsIn (map new_requesting es) b → IsIn (setups_of es) b.setup
setup_in es b m =
    let o = in_map new_requesting es b m in
    subst (λ (x : Requesting). IsIn (setups_of es) x.setup) (sym o.2) (map_in (λ (e : ReqEnd). e.setup) es o.0 o.1)

-- That of a requester is one that the configuration has.
told_in : (responder n : ℕ) (seeds : ℕ → List ℕ) (qs : List ReqPart) (b : Requesting) → IsIn (map new_requesting (ends_from responder n seeds qs)) b → IsIn (map (requester_in responder) qs) b.setup
told_in responder n seeds qs b m = subst (λ (all : List ReqSetup). IsIn all b.setup) (setups_told responder n seeds qs) (setup_in (ends_from responder n seeds qs) b m)

-- Each of them has another endpoint than the responder.
differs_from : (c : ScriptConfig) → IsConfiguration (configuration_in c) → (q : ReqSetup) → IsIn (map (requester_in c.responder.eid.number) c.requesters) q → q.eid ≢ c.responder.eid.number
differs_from c is q m e =
    let qs = map (requester_in c.responder.eid.number) c.requesters in
    (all_in IsRequester qs is.requesters q m).other (e ∙ sym (all_in (λ (x : ReqSetup). x.responder ≡ c.responder.eid.number) qs is.peers q m))

-- The connections of a responder have its endpoint.
new_ends : (P : ℕ → Type 0) (e : RspEnd) → P e.part.eid → HasEnds P e.part.eid (new_responding e)
new_ends P e is = record {
  part = refl;
  connections = λ x m. (let o = in_map (new_connection e.part) e.known x m in subst (λ (y : Connection). P y.setup.eid) (sym o.2) is);
}

-- ---- The responder.

pub responder_starts : (c : ScriptConfig) (seeds : ℕ → List ℕ) → IsConfiguration (configuration_in c) → IsServing c.responder.eid.number (responder_of c (seeds 0)) (new_world (world_of c seeds))
responder_starts c seeds is = record {
  is = refl;
  ends = new_ends (IsOwn c.responder.eid.number) (responder_end c (seeds 0) 0) refl;
  others = λ b m. differs_from c is b.setup (told_in c.responder.eid.number 1 seeds c.requesters b m);
}

-- ---- Requester 1.

-- The configuration has it in front.
pub record Front (c : ScriptConfig) (seed : List ℕ) (a : Requesting) (qs : List ReqPart) : Type 0 where
  pub q : ReqPart
  pub others : List ReqPart
  pub parts : qs ≡ q ∷ others
  pub is : requester_as c seed q ≡ a

front_in : (c : ScriptConfig) (seed : List ℕ) (a : Requesting) (qs : List ReqPart) → option_map (requester_as c seed) (first_of qs) ≡ Some a → Front c seed a qs
front_in c seed a [] h = absurd (none_some a h)
front_in c seed a (q ∷ others) h = record { q = q; others = others; parts = refl; is = some_same (requester_as c seed q) a h }

-- Its endpoint is not the responder's.
front_differs : (c : ScriptConfig) (seed : List ℕ) (a : Requesting) → IsConfiguration (configuration_in c) → Front c seed a c.requesters → a.setup.eid ≢ c.responder.eid.number
front_differs c seed a is front e =
    let q = requester_in c.responder.eid.number front.q in
    let own : IsIn (map (requester_in c.responder.eid.number) c.requesters) q = subst (λ (qs : List ReqPart). IsIn (map (requester_in c.responder.eid.number) qs) q) (sym front.parts) (inl refl) in
    differs_from c is q own (ap (λ (x : Requesting). x.setup.eid) front.is ∙ e)

pub first_differs : (c : ScriptConfig) (seed : List ℕ) (a : Requesting) → IsConfiguration (configuration_in c) → first_requester c seed ≡ Some a → a.setup.eid ≢ c.responder.eid.number
first_differs c seed a is h = front_differs c seed a is (front_in c seed a c.requesters h)

first_by : (c : ScriptConfig) (seeds : ℕ → List ℕ) (a : Requesting) → IsConfiguration (configuration_in c) → Front c (seeds 1) a c.requesters → IsFirst a.setup.eid a (new_world (world_of c seeds))
first_by c seeds a is front =
    let responder = c.responder.eid.number in
    let q = requester_in responder front.q in
    let new = map new_requesting (ends_from responder 2 seeds front.others) in
    let others = map (requester_in responder) front.others in
    let apart : AreApart (q ∷ others) = subst (λ (qs : List ReqPart). AreApart (map (requester_in responder) qs)) front.parts is.apart in
    let end : q.eid ≡ a.setup.eid = ap (λ (x : Requesting). x.setup.eid) front.is in
    let differs : responder ≢ a.setup.eid = λ e. front_differs c (seeds 1) a is front (sym e) in record {
      others = new;
      is = ap (λ (qs : List ReqPart). map new_requesting (ends_from responder 1 seeds qs)) front.parts ∙ ap (λ (x : Requesting). x ∷ new) front.is;
      own = refl;
      apart = λ b m e. (all_in (λ (other : ReqSetup). (q.eid ≢ other.eid) × (q.psk ≢ other.psk)) others apart.0 b.setup (told_in responder 2 seeds front.others b m)).0 (end ∙ sym e);
      answers = responder;
      responder = new_ends (IsOther a.setup.eid) (responder_end c (seeds 0) 0) differs;
      differs = differs;
    }

pub first_starts : (c : ScriptConfig) (seeds : ℕ → List ℕ) (a : Requesting) → IsConfiguration (configuration_in c) → first_requester c (seeds 1) ≡ Some a → IsFirst a.setup.eid a (new_world (world_of c seeds))
first_starts c seeds a is h = first_by c seeds a is (front_in c (seeds 1) a c.requesters h)
