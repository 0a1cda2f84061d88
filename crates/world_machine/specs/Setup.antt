-- A world is made of ends, a responder and requesters, each with a seed of its own; and what a text sets up is such a
-- world, in which one common seed gives those of the ends.
use Rattle.std.specs.Prelude.{◌+◌, ◌*◌, ◌^◌, ℕ, List, [], ◌∷◌, map}
use Rattle.hmac_hkdf.specs.Hmac.{hmac}
use Rattle.requester_machine.specs.Setup.{ReqSetup, ReqEnd}
use Rattle.responder_machine.specs.Setup.{RspPart, Known, RspEnd}
use Rattle.running_hash.specs.Hash.{hash_of}
use Rattle.spdm_basis.specs.declared.values.hash_alg.HashAlg.TheVariants.{Sha256}

-- A responder and requesters, in order, each as an end of its own.
pub record WorldSetup : Type 0 where
  pub responder : RspEnd
  pub requesters : List ReqEnd

-- ---- What a text sets up.

-- A responder and its requesters, in order, without seeds.
pub record Configuration : Type 0 where
  pub responder : RspPart
  pub requesters : List ReqSetup

-- What a configured responder knows of a configured requester.
abbrev pub known_of : ReqSetup → Known
known_of q = record { eid = q.eid; hint = q.hint; psk = q.psk }

-- The seed of the responder: HMAC over SHA-256 of the common seed and the byte 72, and for requester n of the bytes 71
-- and n (hexadecimal). This project's own.
abbrev pub responder_seed : List ℕ → List ℕ
responder_seed seed = hmac (hash_of Sha256) seed (0x72 ∷ [])

-- The seed of requester n.
abbrev pub requester_seed : List ℕ → ℕ → List ℕ
requester_seed seed n = hmac (hash_of Sha256) seed (0x71 ∷ n ∷ [])

-- The number of the first draw of a life: lives are 2^40 numbers apart, and no end takes more draws than that.
abbrev pub first_draw : (boot : ℕ) → ℕ
first_draw boot = boot * 2 ^ 40

-- The requesters as ends, numbered from n on.
abbrev pub ends_from : (n : ℕ) → (seed : List ℕ) → (boot : ℕ) → List ReqSetup → List ReqEnd
ends_from n seed boot [] = []
ends_from n seed boot (q ∷ others) = record { setup = q; seed = requester_seed seed n; first = first_draw boot } ∷ ends_from (n + 1) seed boot others

-- The world of a text with a common seed, in the life of a boot number: 0 for a single life.
abbrev pub script_world : Configuration → (seed : List ℕ) → (boot : ℕ) → WorldSetup
script_world c seed boot = record {
  responder = record { part = c.responder; known = map known_of c.requesters; seed = responder_seed seed; first = first_draw boot };
  requesters = ends_from 1 seed boot c.requesters;
}
