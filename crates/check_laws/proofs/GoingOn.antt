-- What goes on from one walk over the same packets goes on from another.
use Rattle.std.proofs.Common.{◌≡◌, ◌==◌, ◌&&◌, ◌%◌, not, ℕ, List, [], ◌∷◌, refl, sym, ap, ◌∙◌, subst, Bool, true, false, Option, Some, None, Result, Ok, Err, cond, is_none}
use Rattle.std.specs.Prelude.{MatchBool}
use Rattle.std.proofs.lemmas.Bool.{false≢true, not-true}
use Rattle.std.proofs.lemmas.Option.{none-some, same_Some}
use Rattle.mctp_framing.specs.Gathering.{Gathered}
use Rattle.mctp_framing.specs.Gathering.Gathered.{Whole, More, Dropped}
use Rattle.mctp_framing.specs.Packet.{PacketFields, parsed}
use Rattle.requester_machine.specs.History.{History, outstanding}
use Rattle.requester_machine.specs.Setup.{ReqSetup}
use Rattle.spdm_basis.proofs.Bools.{and_first, and_second}
use Rattle.spdm_basis.specs.declared.PacketFault.{PacketFault}
use Rattle.spdm_machine.specs.Packets.{body_type, gathered_from}
use Rattle.capture_machine.specs.Capture.{AsksBy, ComesFrom, Follows, FollowsBy, GoesTo, Leads, RepliesBy}
use Rattle.capture_machine.specs.CapturedRequests.{is_later, owes}
use Rattle.capture_machine.specs.Difference.{is_copy}
use Rattle.capture_machine.specs.Rounds.{Dialogue, Round, dialogue_at, is_at, with_dialogue}
use Rattle.world_machine.specs.Setup.{Configuration}
use Rattle.capture_machine.proofs.Alike.{Alike, FetchesAlike}
use Rattle.capture_machine.proofs.Alike.FetchesAlike.{NoneFetched, BothFetched}
use Rattle.capture_machine.proofs.AskersAlike.{AskersAlike, alike_tag}
use Rattle.capture_machine.proofs.AskersAlike.AskersAlike.{Settled, Owing, Shown, Due}
use Rattle.capture_machine.proofs.AskersHear.{later_tag}
use Rattle.capture_machine.proofs.Walks.{All}
use Rattle.capture_machine.proofs.WalksAlike.{BothAlike, leads_alike}
use Rattle.check_laws.proofs.AnsweredOn.{replies_from}
use Rattle.check_laws.proofs.AskedOn.{asks_from}
use Rattle.check_laws.specs.Going.{AsksGoOn, GoesOnFromEach, RepliesGoOn, is_shared, is_shared_from, is_shared_to, shows_padding}

-- In both walks the dialogue with an endpoint stands at one place.
pub record Other (es : List Dialogue) (eid : ℕ) (d : Dialogue) : Type 0 where
  pub dialogue : Dialogue
  pub at : dialogue_at eid es ≡ Some dialogue
  pub alike : BothAlike d dialogue

other_by : (b c : Bool) (x y : Dialogue) (ds es : List Dialogue) (eid : ℕ) (d : Dialogue) → b ≡ c → BothAlike x y → (dialogue_at eid ds ≡ Some d → Other es eid d) → is_at eid y ≡ c → cond b (Some x) (dialogue_at eid ds) ≡ Some d → Other (y ∷ es) eid d
other_by true true x y ds es eid d same both next is at = record {
  dialogue = y;
  at = ap (λ (b : Bool). cond b (Some y) (dialogue_at eid es)) is;
  alike = subst (λ (z : Dialogue). BothAlike z y) (same_Some x d at) both;
}
other_by false false x y ds es eid d same both next is at =
    let rest = next at in record { dialogue = rest.dialogue; at = ap (λ (b : Bool). cond b (Some y) (dialogue_at eid es)) is ∙ rest.at; alike = rest.alike }
other_by true false x y ds es eid d same both next is at = absurd (false≢true (sym same))
other_by false true x y ds es eid d same both next is at = absurd (false≢true same)

other_in : (ds es : List Dialogue) (eid : ℕ) (d : Dialogue) → All BothAlike ds es → dialogue_at eid ds ≡ Some d → Other es eid d
other_in [] [] eid d all at = absurd (none-some d at)
other_in (x ∷ ds) (y ∷ es) eid d all at =
    other_by (is_at eid x) (is_at eid y) x y ds es eid d (ap (λ (q : ReqSetup). q.eid == eid) all.0.alike.setup) all.0 (other_in ds es eid d all.1) refl at
other_in [] (y ∷ es) eid d all at = absurd all
other_in (x ∷ ds) [] eid d all at = absurd all

pub other_walk : (w : Configuration) (older : List (List ℕ)) (ds es : List Dialogue) (eid : ℕ) (d : Dialogue) → Leads w older ds → Leads w older es → dialogue_at eid ds ≡ Some d → Other es eid d
other_walk w older ds es eid d one two at = other_in ds es eid d (leads_alike w older ds es one two) at

both_of : (w : Configuration) (older : List (List ℕ)) (ds es : List Dialogue) (eid : ℕ) (d e : Dialogue) → Leads w older ds → Leads w older es → dialogue_at eid ds ≡ Some d → dialogue_at eid es ≡ Some e → BothAlike d e
both_of w older ds es eid d e one two at is =
    let other = other_walk w older ds es eid d one two at in
    subst (BothAlike d) (same_Some other.dialogue e (sym other.at ∙ is)) other.alike

pub asks_go_on : AsksGoOn
asks_go_on w older ds es eid d e g next one two at is none plain asks = asks_from d e g next (both_of w older ds es eid d e one two at is).alike none plain asks

pub replies_go_on : RepliesGoOn
replies_go_on w older ds es eid d e g next one two at is none replies = replies_from w d e g next (both_of w older ds es eid d e one two at is).alike none replies

-- ---- One packet. What is shared in one walk is shared in each.

pub none_sent : (round : Option Round) (h g : History) (sd se : Option (List ℕ)) → AskersAlike round h g sd se → se ≡ None → sd ≡ None
none_sent round _ _ _ _ (Settled h g agree not at) none = refl
none_sent round _ _ _ _ (Owing e f h g s t agree alike out sent like tagged else later at) none = refl
none_sent round _ _ _ _ (Shown h g w v a b handle number s t u waits wait aims aim tags not at) none = absurd (none-some v (sym none))
none_sent round _ _ _ _ (Due tag m h g w v a b handle number u later at) none = absurd (none-some v (sym none))

pub owes_same : (round : Option Round) (h g : History) (sd se : Option (List ℕ)) → AskersAlike round h g sd se → is_later round (outstanding h) ≡ is_later round (outstanding g)
owes_same round _ _ _ _ (Settled h g agree not at) = ap (is_later round) agree.waiting
owes_same round _ _ _ _ (Owing e f h g s t agree alike out sent like tagged else later at) = ap (is_later round) out ∙ later_tag round s t (alike_tag s t like) ∙ ap (is_later round) (sym sent)
owes_same round _ _ _ _ (Shown h g w v a b handle number s t u waits wait aims aim tags not at) = ap (is_later round) waits ∙ later_tag round s t tags ∙ ap (is_later round) (sym wait)
owes_same round _ _ _ _ (Due tag m h g w v a b handle number u later at) = later_tag round _ _ (ap (λ (n : ℕ). n % 8) u.counted.sent)

shows_same : (e d : Dialogue) (g : Gathered) → Alike e d → shows_padding e g ≡ shows_padding d g
shows_same e d (Whole route body) a =
    ap (λ (b : Bool). b && (body_type body == 6 && not (is_copy e.round route.tag body))) (owes_same e.round e.requester d.requester e.sending d.sending a.askers ∙ ap (λ (o : Option Round). is_later o (outstanding d.requester)) a.round)
    ∙ ap (λ (o : Option Round). owes d && (body_type body == 6 && not (is_copy o route.tag body))) a.round
shows_same e d More a = refl
shows_same e d (Dropped cause) a = refl

none_of : (o : Option (List ℕ)) → is_none o ≡ true → o ≡ None
none_of None is = refl
none_of (Some x) is = absurd (false≢true is)

pub none_fetched : (o p : Option (List ℕ)) → FetchesAlike o p → p ≡ None → o ≡ None
none_fetched _ _ NoneFetched none = refl
none_fetched _ _ (BothFetched w v) none = absurd (none-some v (sym none))

comes_on : (w : Configuration) (older : List (List ℕ)) (p : PacketFields) (es ds after : List Dialogue) (o : Option Dialogue) → Leads w older es → Leads w older ds → dialogue_at p.from es ≡ o → is_shared_from w older p (dialogue_at p.from ds) ≡ true
    → ComesFrom w older p es after o → (other : List Dialogue) × ComesFrom w older p ds other (dialogue_at p.from ds)
comes_on w older p es ds after None one two at shared c = absurd c
comes_on w older p es ds after (Some e) one two at shared c =
    let there = other_walk w older es ds p.from e one two at in
    let d : Dialogue = there.dialogue in
    let a = there.alike.alike in
    let own : ℕ = w.responder.eid in
    let here : is_shared_from w older p (Some d) ≡ true = ap (is_shared_from w older p) (sym there.at) ∙ shared in
    let none : d.sending ≡ None = none_of d.sending (and_first (is_none d.sending) _ here) in
    let hidden : shows_padding d (gathered_from own d.setup.eid older p) ≡ false = not-true _ (and_second (is_none d.sending) _ here) in
    let same : gathered_from own e.setup.eid older p ≡ gathered_from own d.setup.eid older p = ap (λ (q : ReqSetup). gathered_from own q.eid older p) a.setup in
    let G : Gathered → Type 0 = λ g. AsksBy e g c.0 in
    let next = asks_from e d (gathered_from own d.setup.eid older p) c.0 a (none_sent e.round e.requester d.requester e.sending d.sending a.askers none)
    (shows_same e d (gathered_from own d.setup.eid older p) a ∙ hidden) (subst G same c.1) in
    let F : Option Dialogue → Type 0 = λ x. ComesFrom w older p ds (with_dialogue next.0 ds) x in
    (with_dialogue next.0 ds, subst F (sym there.at) (next.0, next.1, refl))

goes_on : (w : Configuration) (older : List (List ℕ)) (p : PacketFields) (es ds after : List Dialogue) (o : Option Dialogue) → Leads w older es → Leads w older ds → dialogue_at p.to es ≡ o → is_shared_to (dialogue_at p.to ds) ≡ true
    → GoesTo w older p es after o → (other : List Dialogue) × GoesTo w older p ds other (dialogue_at p.to ds)
goes_on w older p es ds after None one two at shared c = absurd c
goes_on w older p es ds after (Some e) one two at shared c =
    let there = other_walk w older es ds p.to e one two at in
    let d : Dialogue = there.dialogue in
    let a = there.alike.alike in
    let own : ℕ = w.responder.eid in
    let none : d.fetching ≡ None = none_of d.fetching (ap is_shared_to (sym there.at) ∙ shared) in
    let same : gathered_from e.setup.eid own older p ≡ gathered_from d.setup.eid own older p = ap (λ (q : ReqSetup). gathered_from q.eid own older p) a.setup in
    let G : Gathered → Type 0 = λ g. RepliesBy w e g c.0 in
    let next = replies_from w e d (gathered_from d.setup.eid own older p) c.0 a (none_fetched e.fetching d.fetching a.fetches none) (subst G same c.1) in
    let F : Option Dialogue → Type 0 = λ x. GoesTo w older p ds (with_dialogue next.0 ds) x in
    (with_dialogue next.0 ds, subst F (sym there.at) (next.0, next.1, refl))

either_on : (w : Configuration) (older : List (List ℕ)) (p : PacketFields) (es ds after : List Dialogue) (to from : Bool) → Leads w older es → Leads w older ds
    → cond to (is_shared_from w older p (dialogue_at p.from ds)) (is_shared_to (dialogue_at p.to ds)) ≡ true
    → MatchBool to (ComesFrom w older p es after (dialogue_at p.from es)) (MatchBool from (GoesTo w older p es after (dialogue_at p.to es)) ⊥)
    → (other : List Dialogue) × MatchBool to (ComesFrom w older p ds other (dialogue_at p.from ds)) (MatchBool from (GoesTo w older p ds other (dialogue_at p.to ds)) ⊥)
either_on w older p es ds after true from one two shared c = comes_on w older p es ds after (dialogue_at p.from es) one two refl shared c
either_on w older p es ds after false true one two shared c = goes_on w older p es ds after (dialogue_at p.to es) one two refl shared c
either_on w older p es ds after false false one two shared c = absurd c

follows_on : (w : Configuration) (older : List (List ℕ)) (r : Result PacketFields PacketFault) (es ds after : List Dialogue) → Leads w older es → Leads w older ds → is_shared w older ds r ≡ true → FollowsBy w older es after r
    → (other : List Dialogue) × FollowsBy w older ds other r
follows_on w older (Err fault) es ds after one two shared c = absurd c
follows_on w older (Ok p) es ds after one two shared c = either_on w older p es ds after (p.to == w.responder.eid) (p.from == w.responder.eid) one two shared c

pub goes_on_from_each : GoesOnFromEach
unfolding Follows
goes_on_from_each w older packet ds after leads shared c = follows_on w older (parsed packet) c.0 ds after c.1 leads shared c.2
