-- The walks after LargeResponse, and what is there beside a large response that is fetched.
use Rattle.std.proofs.Common.{◌≡◌, ◌<◌, ◌||◌, ℕ, List, ◌∷◌, refl, sym, ap, ◌∙◌, subst, length, take, Bool, true, false, Option, Some, None, Ok, cond, inl, inr}
use Rattle.std.specs.Prelude.{not}
use Rattle.std.proofs.lemmas.Option.{none-some, same_Some}
use Rattle.mctp_framing.specs.Gathering.{Gathered}
use Rattle.mctp_framing.specs.Packet.{PacketFields, parsed}
use Rattle.requester_machine.specs.History as requester_history
use Rattle.requester_machine.specs.History.{outstanding}
use Rattle.requester_machine.specs.Setup.{ReqSetup}
use Rattle.responder_machine.specs.History.{History}
use Rattle.responder_machine.specs.Setup.{RspSetup, towards}
use Rattle.spdm_machine.specs.Packets.{gathered_from}
use Rattle.check_laws.proofs.OneWalk.{walks_alike}
use Rattle.check_laws.specs.Keeping.{kept_of, restored}
use Rattle.check_laws.specs.Order.{is_answer}
use Rattle.check_laws.specs.RepliesShown.{answered}
use Rattle.check_laws.specs.Walks.{Walks}
use Rattle.capture_machine.proofs.Alike.{Alike, FetchesAlike}
use Rattle.capture_machine.proofs.Alike.FetchesAlike.{NoneFetched, BothFetched}
use Rattle.capture_machine.proofs.Fetching.{while_parts}
use Rattle.capture_machine.specs.Capture.{Replies, RepliesBy}
use Rattle.capture_machine.specs.CapturedAnswers.{Answers, Hears}
use Rattle.capture_machine.specs.LargeAnswers.{IsLargeAnswer, is_fetching, place_named, while_fetched}
use Rattle.capture_machine.specs.Rounds.{Dialogue, Round}
use Rattle.world_machine.specs.Setup.{Configuration, known_of}
use Rattle.responder_machine.specs.Place.{Place}
use Rattle.check_late_laws.specs.Fetching.{Fetching, HasSize, IsFetchingOf, MayStand, dialogue_of, number_of}
use Rattle.check_late_laws.specs.FetchingLaws.{AnswersFrom}
use Rattle.check_late_laws.proofs.Begun.{Largely, any_large, one_size, repeats, some_large}
use Rattle.check_late_laws.proofs.Begun.Largely.{First, Again}
use Rattle.check_late_laws.proofs.Fresh.{IsFresh, fresh}
use Rattle.check_late_laws.proofs.Packets.{goes_replied}
use Rattle.check_late_laws.proofs.Restored.{bare_walks}

pub answers_largely : (r : RspSetup) (d : Dialogue) (round : Round) (answer : List ℕ) (h : History) (v : List ℕ) → Largely r d round answer h v → Answers r d round answer h (Some v)
unfolding Answers
answers_largely r d round answer h v (First c) = inr (inl (v, c, refl))
answers_largely r d round answer h v (Again c) = inr (inr (inl (v, c, refl)))

-- While a chunk is asked for, the bytes stand.
pub while_some : (h : requester_history.History) (v : List ℕ) → is_fetching (outstanding h) ≡ true → while_fetched h (Some v) ≡ Some v
while_some h v gets = ap (λ (b : Bool). cond b (Some v) None) gets

always_known : (b : Bool) → (not b || true) ≡ true
always_known true = refl
always_known false = refl

pub both_fetched : (o p : Option (List ℕ)) (x : List ℕ) → FetchesAlike o p → o ≡ Some x → (y : List ℕ) × (p ≡ Some y)
both_fetched _ _ x NoneFetched is = absurd (none-some x is)
both_fetched _ _ x (BothFetched w v) is = (v, refl)

-- ---- An answer behind which these bytes stand.

-- What is between the two ends after it.
abbrev pub behind : Dialogue → Round → requester_history.History → History → List ℕ → Dialogue
behind d round g h v = record d { requester = g; responder = h; fetching = Some v; round = Some (answered round) }

pub replies_so : (w : Configuration) (d : Dialogue) (tag : ℕ) (round : Round) (answer : List ℕ) (g : requester_history.History) (h : History) (v : List ℕ) → d.round ≡ Some round → round.tag ≡ tag → 0 < round.waiting
    → Answers (towards w.responder (known_of d.setup)) d round answer h (Some v) → Hears d tag answer g → is_fetching (outstanding g) ≡ true → Replies w d tag answer (behind d round g h v)
replies_so w d tag round answer g h v at own waits answers hears gets =
    (round, at, own, waits, (h, Some v, answers, (g, hears, ap (λ (o : Option (List ℕ)). record d { requester = g; responder = h; fetching = o; round = Some (answered round) }) (sym (while_some g v gets)), always_known (is_fetching (outstanding g)))))

-- ---- By LargeResponse.

module _ (w : Configuration) (q : ReqSetup) (older : List (List ℕ)) (packet : List ℕ) (p : PacketFields) (parses : parsed packet ≡ Ok p) (is : is_answer w.responder.eid q.eid p ≡ true) (d : Dialogue) (walk : Walks w q older d) (unsent : d.sending ≡ None) where
  abbrev g : Gathered
  g = gathered_from q.eid w.responder.eid older p

  abbrev r : RspSetup
  r = towards w.responder (known_of d.setup)

  -- After it any bytes of a length that is sent in chunks may stand.
  module _ (tag : ℕ) (round : Round) (answer : List ℕ) (h : History) (place : Place) (l : requester_history.History) (made : (n : Dialogue) → Replies w d tag answer n → RepliesBy w d g n) (at : d.round ≡ Some round) (own : round.tag ≡ tag) (waits : 0 < round.waiting) (from : AnswersFrom r d round answer h place) (hears : Hears d tag answer l) (gets : is_fetching (outstanding l) ≡ true) where
    abbrev next : Fetching
    next = record { kept = kept_of (record d { requester = l; responder = h; round = Some (answered round) }); at = place_named round.body; place = place }

    pub behind_walk : (v : List ℕ) → IsLargeAnswer place v → Walks w q (packet ∷ older) (behind d round l h v)
    behind_walk v fits =
        goes_replied w q older packet p parses is d (behind d round l h v) walk
        (made (behind d round l h v) (replies_so w d tag round answer l h v at own waits (answers_largely r d round answer h v (any_large r d round answer h place v from fits)) hears gets))

    some : (v : List ℕ) × IsLargeAnswer place v
    some = some_large r d round answer h place from

    one : Walks w q (packet ∷ older) (behind d round l h some.0)
    one = behind_walk some.0 some.1

    pub none_given : IsFresh (place_named round.body) h
    none_given =
        let sound = (walks_alike w q (packet ∷ older) (behind d round l h some.0) (behind d round l h some.0) one one).one in
        fresh (place_named round.body) h sound.unseen (repeats r d round answer h place from)

    pub stands : (v : List ℕ) → IsLargeAnswer place v → MayStand next v
    stands v fits =
        (fits, subst (λ (o : Option ℕ). HasSize o v) (sym none_given.size) tt, subst (λ (b : List ℕ). take (length b) v ≡ b) (sym none_given.bytes) refl)

    all_walk : (v : List ℕ) → IsLargeAnswer place v → Walks w q (packet ∷ older) (dialogue_of next v) × (kept_of (restored next.kept) ≡ next.kept)
    all_walk v fits = bare_walks w q (packet ∷ older) (behind d round l h v) (behind_walk v fits) unsent

    module _ (x : Dialogue) (over : Walks w q (packet ∷ older) x) (b : Dialogue) (before : Walks w q older b) (k : Replies w b tag answer x) (same : d.fetching ≡ b.fetching) where
      alike : Alike d b
      alike = (walks_alike w q older d b walk before).alike

      after : Alike (behind d round l h some.0) x
      after = (walks_alike w q (packet ∷ older) (behind d round l h some.0) x one over).alike

      other : (v : List ℕ) × (x.fetching ≡ Some v)
      other = both_fetched (Some some.0) x.fetching some.0 after.fetches refl

      parts : (is_fetching (outstanding k.4.3.0) ≡ true) × (k.4.1 ≡ Some other.0)
      parts = while_parts (is_fetching (outstanding k.4.3.0)) k.4.1 other.0 (ap (λ (y : Dialogue). y.fetching) (sym k.4.3.2) ∙ other.1)

      rounds : k.0 ≡ round
      rounds = same_Some k.0 round (sym k.1 ∙ sym alike.round ∙ at)

      histories : h ≡ k.4.0
      histories = after.responder ∙ ap (λ (y : Dialogue). y.responder) k.4.3.2

      pub other_stands : ((v : List ℕ) → k.4.1 ≡ Some v → Largely (towards w.responder (known_of b.setup)) b k.0 answer k.4.0 v) → (v : List ℕ) × MayStand next v × (x.fetching ≡ Some v)
      other_stands largely =
          let s : RspSetup = towards w.responder (known_of b.setup) in
          let its : Largely s b round answer k.4.0 other.0 = subst (λ (y : Round). Largely s b y answer k.4.0 other.0) rounds (largely other.0 parts.1) in
          (other.0, stands other.0 (one_size r s d b round answer h k.4.0 place other.0 from its alike.responder same histories), other.1)

    keep : ((x : Dialogue) → Walks w q (packet ∷ older) x → (v : List ℕ) × MayStand next v × (x.fetching ≡ Some v)) → IsFetchingOf w q (packet ∷ older) next
    keep each = record {
      kept = (all_walk some.0 some.1).1;
      there = λ gets. refl;
      stands = (some.0, stands some.0 some.1);
      all = λ v stand. (all_walk v stand.0).0;
      each = each;
    }

    pub begun_keeps : ((x : Dialogue) → Walks w q (packet ∷ older) x → (v : List ℕ) × MayStand next v × (x.fetching ≡ Some v)) → IsFetchingOf w q (packet ∷ older) next × (number_of next ≡ 0)
    begun_keeps each = (keep each, none_given.number)
