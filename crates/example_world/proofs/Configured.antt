-- The set-up of the world keeps all limits.
use Rattle.std.proofs.Common.{◌≡◌, ◌≢◌, ◌<◌, [], ◌∷◌, ℕ, refl, arith}
use Rattle.std.proofs.lemmas.List.Elements.{All-from_recursion}
use Rattle.example_world.specs.Example.{part, requester}
use Rattle.requester_machine.specs.Setup.{ReqSetup}
use Rattle.responder_machine.specs.Setup.{Known, towards}
use Rattle.spdm_agreement.specs.Configured.{IsConfiguration, IsRequester, IsResponder}
use Rattle.world_machine.specs.Setup.{known_of}

pub configuration : IsConfiguration (record { responder = part; requesters = requester ∷ [] })
configuration = record {
  count = omega arith;
  requesters = All-from_recursion IsRequester (requester ∷ []) (
    record {
      eid = record { least = omega arith; most = omega arith };
      responder = record { least = omega arith; most = omega arith };
      other = λ e. omega arith;
      sizes = record { least = omega arith; ordered = omega arith; most = omega arith; whole = λ e. absurd (cc); payload = omega arith; payload_most = omega arith };
      key = record {
        hint_most = omega arith;
        hint_bytes = All-from_recursion (λ (byte : ℕ). byte < 256) (1 ∷ []) ((omega arith), tt);
        psk_least = omega arith;
        psk_most = omega arith;
        psk_bytes = All-from_recursion (λ (byte : ℕ). byte < 256) (7 ∷ []) ((omega arith), tt);
      };
      opaque = omega arith;
      opaque_bytes = All-from_recursion (λ (byte : ℕ). byte < 256) [] tt;
      pad = omega arith;
    },
    tt,
  );
  responders = All-from_recursion (λ (q : Known). IsResponder (towards part q)) (known_of requester ∷ []) (
    record {
      eid = record { least = omega arith; most = omega arith };
      peer = record { least = omega arith; most = omega arith };
      sizes = record { least = omega arith; ordered = omega arith; most = omega arith; whole = λ e. absurd (cc); payload = omega arith; payload_most = omega arith };
      beat = omega arith;
      key = record {
        hint_most = omega arith;
        hint_bytes = All-from_recursion (λ (byte : ℕ). byte < 256) (1 ∷ []) ((omega arith), tt);
        psk_least = omega arith;
        psk_most = omega arith;
        psk_bytes = All-from_recursion (λ (byte : ℕ). byte < 256) (7 ∷ []) ((omega arith), tt);
      };
      opaque = omega arith;
      opaque_bytes = All-from_recursion (λ (byte : ℕ). byte < 256) [] tt;
      blocks = refl;
    },
    tt,
  );
  peers = All-from_recursion (λ (q : ReqSetup). q.responder ≡ part.eid) (requester ∷ []) (refl, tt);
  apart = (All-from_recursion (λ (other : ReqSetup). (requester.eid ≢ other.eid) × (requester.psk ≢ other.psk)) [] tt, tt);
}
