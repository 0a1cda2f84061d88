-- A responder in its initial state.
use Rattle.std.proofs.Common.{refl, ◌≡◌, ◌≢◌, ◌<◌, ◌++◌, ℕ, zero, suc, List, [], ◌∷◌, length, map, take, get_or, false, arith}
use Rattle.std.proofs.lemmas.Bool.{eqb-false, or_parts}
use Rattle.std.specs.List.{AllByRecursion}
use Rattle.std.specs.Prelude.{◌==◌}
use Rattle.responder.specs.Config.{has_same_eid, is_eid_of_one}
use Rattle.responder.specs.Peers.{StandsFor}
use Rattle.responder.specs.SetUp.{known_of}
use Rattle.responder.specs.Standing.{AreApart, ArePeers}
use Rattle.responder.specs.declared.config.Known.{Known}
use Rattle.responder.specs.declared.peer.Peer.{Peer}
use Rattle.responder_machine.specs.Independence.{AreKnownApart}
use Rattle.responder_machine.specs.Responding.{Connection, all_draws, new_connection}
use Rattle.responder_machine.specs.Setup as machine
use Rattle.responder_machine.specs.Setup.{RspPart}

abbrev connections : RspPart → List Known → List Connection
connections p known = map (new_connection p) (map known_of known)

-- One requester more.
pub more_peers : (p : RspPart) (i : ℕ) (xs : List Peer) (known : List Known) (x : Peer) (d : Known) → i < length known → ArePeers xs p [] (connections p (take i known)) → StandsFor x p [] (new_connection p (known_of (get_or known i d)))
    → ArePeers (xs ++ x ∷ []) p [] (connections p (take (suc i) known))
more_peers p i xs [] x d few are stands = absurd (omega (arith, few))
more_peers p zero [] (k ∷ known) x d few are stands = (stands, tt)
more_peers p zero (y ∷ ys) (k ∷ known) x d few are stands = absurd are
more_peers p (suc i) [] (k ∷ known) x d few are stands = absurd are
more_peers p (suc i) (y ∷ ys) (k ∷ known) x d few are stands = (are.0, more_peers p i ys known x d (omega (arith, few)) are.1 stands)

-- ---- End points that differ.

no_eid : (eid : ℕ) (known : List Known) → is_eid_of_one eid known ≡ false → AllByRecursion (λ (other : machine.Known). other.eid ≢ eid) (map known_of known)
no_eid eid [] none = tt
no_eid eid (k ∷ others) none = (let both = or_parts (k.eid.number == eid) (is_eid_of_one eid others) none in (eqb-false _ _ both.0, no_eid eid others both.1))

none_of : (eid : ℕ) (known : List Known) → has_same_eid eid known ≡ false → is_eid_of_one eid known ≡ false
none_of eid [] none = refl
none_of eid (k ∷ others) none = (or_parts (is_eid_of_one eid (k ∷ others)) (has_same_eid k.eid.number others) none).0

pub known_apart : (eid : ℕ) (known : List Known) → has_same_eid eid known ≡ false → AreKnownApart (map known_of known)
known_apart eid [] none = tt
known_apart eid (k ∷ others) none =
    let rest = (or_parts (is_eid_of_one eid (k ∷ others)) (has_same_eid k.eid.number others) none).1 in
    (no_eid k.eid.number others (none_of k.eid.number others rest), known_apart k.eid.number others rest)

all_apart : (p : RspPart) (eid : ℕ) (known : List machine.Known) → AllByRecursion (λ (other : machine.Known). other.eid ≢ eid) known → AllByRecursion (λ (d : Connection). d.setup.peer ≢ eid) (map (new_connection p) known)
all_apart p eid [] all = tt
all_apart p eid (q ∷ others) all = (all.0, all_apart p eid others all.1)

pub new_apart : (p : RspPart) (known : List machine.Known) → AreKnownApart known → AreApart (map (new_connection p) known)
new_apart p [] apart = tt
new_apart p (q ∷ others) apart = (all_apart p q.eid others apart.0, new_apart p others apart.1)

pub no_draws : (p : RspPart) (known : List machine.Known) → all_draws (map (new_connection p) known) ≡ 0
no_draws p [] = refl
no_draws p (q ∷ others) = (let rest = no_draws p others in omega (arith, rest))
