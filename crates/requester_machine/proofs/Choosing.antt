-- What the requester chooses is allowed.
use Rattle.std.proofs.Common.{refl, ◌≡◌, ◌≢◌, ◌≤◌, ℕ, ◌+◌, List, [], length, take, true, false, Bool, arith}
use Rattle.std.specs.Prelude.{not, if◌then◌else◌}
use Rattle.std.proofs.lemmas.Grind.{common_steps}
use Rattle.spdm_basis.specs.Sizes.{hash_size}
use Rattle.spdm_basis.specs.declared.values.hash_alg.HashAlg.{HashAlg}
use Rattle.spdm_basis.specs.declared.values.hash_alg.HashAlg.TheVariants.{Sha256, Sha384}
use Rattle.spdm_machine.specs.Keys.{Draw, context_of}
use Rattle.spdm_machine.specs.Sessions.{one_if}
use Rattle.spdm_grammar.specs.declared.names.TheConstants.{MAX_MESSAGE_SIZE}
use Rattle.requester_machine.specs.Setup.{ReqSetup}
use Rattle.requester_machine.specs.Commands.{live_count}
use Rattle.requester_machine.specs.Does.{chosen, free_id, command_chosen, body_chosen}
use Rattle.requester_machine.specs.History.{History, connection_terms}
use Rattle.requester_machine.specs.Laws.{CommandIsAllowed, BodyIsAllowed}
use Rattle.requester_machine.specs.May.{IsSetUp, IsAllowed}
use Rattle.requester_machine.specs.Session.{session_of, is_live}

-- ---- The least free id.

in_range : (a b c : Bool) → (1 ≤ (if not a then 1 else (if not b then 2 else (if not c then 3 else 4)))) × ((if not a then 1 else (if not b then 2 else (if not c then 3 else 4))) ≤ 4)
in_range false b c = (omega arith, omega arith)
in_range true false c = (omega arith, omega arith)
in_range true true false = (omega arith, omega arith)
in_range true true true = (omega arith, omega arith)

pub free_id-in_range : (h : History) → (1 ≤ free_id h) × (free_id h ≤ 4)
free_id-in_range h = in_range (is_live (session_of 1 h)) (is_live (session_of 2 h)) (is_live (session_of 3 h))

least : (a b c e : Bool) → one_if a + one_if b + one_if c + one_if e ≢ 4 → (k : ℕ → Bool) → k 1 ≡ a → k 2 ≡ b → k 3 ≡ c → k 4 ≡ e
    → k (if not a then 1 else (if not b then 2 else (if not c then 3 else 4))) ≡ false
least false b c e room k x y z w = x
least true false c e room k x y z w = y
least true true false e room k x y z w = z
least true true true false room k x y z w = w
least true true true true room k x y z w = absurd (room refl)

pub free_id-free : (h : History) → live_count h ≢ 4 → is_live (session_of (free_id h) h) ≡ false
free_id-free h room = least (is_live (session_of 1 h)) (is_live (session_of 2 h)) (is_live (session_of 3 h)) (is_live (session_of 4 h)) room (λ id. is_live (session_of id h)) refl refl refl refl

-- ---- The context.

pub context-length : (hash : HashAlg) (d : Draw) → length d.bytes ≡ 32 → length (context_of hash d) ≡ hash_size hash
context-length Sha256 d bytes = grind (arith, common_steps)
context-length Sha384 d bytes = grind (arith, common_steps)

hash_size-small : (hash : HashAlg) → hash_size hash ≤ 48
hash_size-small Sha256 = omega arith
hash_size-small Sha384 = omega arith

exchange-short : (hint context opaque size : ℕ) → hint ≤ 64 → opaque ≤ 1024 → context ≡ size → size ≤ 48 → 12 + hint + context + opaque ≤ MAX_MESSAGE_SIZE
exchange-short hint context opaque size a b c e = omega arith

pub allowed : (q : ReqSetup) (h : History) (d : Draw) (pad : List ℕ) → IsSetUp q → length d.bytes ≡ 32 → length pad ≤ 16 → IsAllowed q h (chosen q h d pad)
unfolding chosen
allowed q h d pad set_up bytes few = record {
  least = (free_id-in_range h).0;
  most = (free_id-in_range h).1;
  unused = free_id-free h;
  context = long;
  opaque = set_up.opaque;
  exchange = exchange-short (length q.hint) (length (context_of (connection_terms h).choice.hash d)) (length q.opaque) (hash_size (connection_terms h).choice.hash) set_up.hint set_up.opaque (context-length (connection_terms h).choice.hash d bytes) (hash_size-small (connection_terms h).choice.hash);
  pad = few;
}
  where
    equal : length (context_of (connection_terms h).choice.hash d) ≡ hash_size (connection_terms h).choice.hash
    equal = context-length (connection_terms h).choice.hash d bytes

    long : hash_size (connection_terms h).choice.hash ≤ length (context_of (connection_terms h).choice.hash d)
    long = omega (arith, equal)

pub padding-short : (pad : ℕ) (bytes : List ℕ) → pad ≤ 16 → length (take pad bytes) ≤ 16
padding-short pad bytes few = grind (arith, common_steps)

pub command_allowed : CommandIsAllowed
command_allowed worn q h command d set_up bytes = (command_chosen q h d, allowed q h d (take q.pad d.bytes) set_up bytes (padding-short q.pad d.bytes set_up.pad), refl)

pub body_allowed : BodyIsAllowed
body_allowed q h owner tag body d set_up bytes = (body_chosen q h d, allowed q h d [] set_up bytes (omega arith), refl)

-- ---- The padding of what goes out for a body.

pub body_pad : (q : ReqSetup) (h : History) (d : Draw) → (body_chosen q h d).pad ≡ []
unfolding chosen
body_pad q h d = refl
