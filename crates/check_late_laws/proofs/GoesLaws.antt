-- What is kept after an answer with which the large response is fetched on.
use Rattle.std.proofs.Common.{◌≡◌, ◌<◌, ℕ, List, ◌∷◌, refl, sym, ap, ◌∙◌, subst, true, Option, Some, Ok, inl, inr}
use Rattle.std.proofs.lemmas.Option.{none-some, same_Some}
use Rattle.mctp_framing.specs.Gathering.{Gathered}
use Rattle.mctp_framing.specs.Gathering.Gathered.{Whole, More, Dropped}
use Rattle.mctp_framing.specs.Packet.{PacketFields, parsed}
use Rattle.requester_machine.specs.History as requester_history
use Rattle.requester_machine.specs.History.{outstanding}
use Rattle.requester_machine.specs.Setup.{ReqSetup}
use Rattle.responder_machine.specs.History.{History}
use Rattle.responder_machine.specs.May.{place_for}
use Rattle.responder_machine.specs.Responder.{Outcome, after}
use Rattle.responder_machine.specs.Setup.{RspSetup, towards}
use Rattle.spdm_machine.specs.Packets.{gathered_from}
use Rattle.check_laws.proofs.AnsweredOn.{answers_on}
use Rattle.check_laws.proofs.OneWalk.{walks_alike}
use Rattle.check_laws.specs.Keeping.{kept_of, restored}
use Rattle.check_laws.specs.Order.{body_in, is_answer}
use Rattle.check_laws.specs.Walks.{Walks}
use Rattle.capture_machine.proofs.AimsHeard.{hears_version}
use Rattle.capture_machine.proofs.FetchStates.{Fetch, asking}
use Rattle.capture_machine.proofs.FetchedAnswers.{large_fetched}
use Rattle.capture_machine.proofs.Fetching.{IsSound, while_parts}
use Rattle.capture_machine.proofs.WalksAlike.{kept}
use Rattle.capture_machine.specs.Capture.{Replies, RepliesBy}
use Rattle.capture_machine.specs.CapturedAnswers.{Answers, AnswersPlainly, Hears}
use Rattle.capture_machine.specs.LargeAnswers.{is_fetching, judging, place_named}
use Rattle.capture_machine.specs.Rounds.{Dialogue, Round}
use Rattle.world_machine.specs.Setup.{Configuration, known_of}
use Rattle.check_late_laws.specs.Fetching.{Fetching, IsFetchingOf, MayStand, dialogue_of}
use Rattle.check_late_laws.specs.FetchingLaws.{FetchingGoes, GoesFetching, kept_behind}
use Rattle.check_late_laws.proofs.Asked.{fetched_walk}
use Rattle.check_late_laws.proofs.BegunWalks.{behind, both_fetched, replies_so}
use Rattle.check_late_laws.proofs.GoesWith.{Stood, stood}
use Rattle.check_late_laws.proofs.NoCaps.{walks_caps}
use Rattle.check_late_laws.proofs.Packets.{came_replied, goes_replied}
use Rattle.check_late_laws.proofs.PlainMoved.{plain_moved}
use Rattle.check_late_laws.proofs.Restored.{bare_walks}
use Rattle.check_late_laws.proofs.Stood.{StandsAt, plain_stands}

-- ---- What is fetched.

-- Where the requester asks for a chunk after an answer, it did before it, and the responder's history stands so.
pub record FetchesOn (d : Dialogue) (v : List ℕ) (round : Round) : Type 0 where
  pub gets : is_fetching (outstanding d.requester) ≡ true
  pub fetch : Fetch d.responder v round.tag round.body

pub fetches_on : (d : Dialogue) (v : List ℕ) (round : Round) (tag : ℕ) (answer : List ℕ) (g : requester_history.History) → IsSound d → d.fetching ≡ Some v → d.round ≡ Some round → Hears d tag answer g → is_fetching (outstanding g) ≡ true → FetchesOn d v round
fetches_on d v round tag answer g sound is at hears gets =
    let old = sound.fetched v is in
    let same : old.0 ≡ round = same_Some old.0 round (sym old.1 ∙ at) in
    elim old.2.stands [
      | inl version ↦ absurd (hears_version d tag answer old.0.body g old.2.sent (sound.asker old.0 old.1) old.2.waits version.0 hears gets)
      | inr fetch ↦ record { gets = ap is_fetching old.2.waits ∙ fetch.0; fetch = subst (λ (x : Round). Fetch d.responder v x.tag x.body) same fetch.1 }
    ]

-- The requester hears the same, whatever bytes stand.
pub hears_same : (f : Fetching) (v u : List ℕ) (tag : ℕ) (answer : List ℕ) (g : requester_history.History) → Hears (dialogue_of f v) tag answer g → Hears (dialogue_of f u) tag answer g
unfolding Hears
hears_same f v u tag answer g hears = hears

plain_answers : (r : RspSetup) (d : Dialogue) (v : List ℕ) (round : Round) (answer : List ℕ) (h : History) → d.fetching ≡ Some v → AnswersPlainly r d round answer h → Answers r d round answer h (Some v)
unfolding Answers
plain_answers r d v round answer h is plain = inl (plain, sym is)

-- ---- Behind the answer.

module _ (w : Configuration) (q : ReqSetup) (older : List (List ℕ)) (f : Fetching) (own : IsFetchingOf w q older f) (tag : ℕ) (round : Round) (answer : List ℕ) (v : List ℕ) (h : History) (l : requester_history.History) (stand : MayStand f v) (at : f.kept.round ≡ Some round) (plain : AnswersPlainly (towards w.responder (known_of f.kept.setup)) (dialogue_of f v) round answer h) (hears : Hears (dialogue_of f v) tag answer l) (gets : is_fetching (outstanding l) ≡ true) where
  abbrev r : RspSetup
  r = towards w.responder (known_of f.kept.setup)

  abbrev next : Fetching
  next = record f { kept = kept_behind f.kept round l h }

  abbrev k : History
  k = f.kept.responder

  sound_of : (u : List ℕ) → MayStand f u → IsSound (dialogue_of f u)
  sound_of u may = (walks_alike w q older (dialogue_of f u) (dialogue_of f u) (own.all u may) (own.all u may)).one

  on_of : (u : List ℕ) → MayStand f u → FetchesOn (dialogue_of f u) u round
  on_of u may = fetches_on (dialogue_of f u) u round tag answer l (sound_of u may) refl at (hears_same f v u tag answer l hears) gets

  place_is : place_named round.body ≡ f.at
  place_is = ap (λ (o : Option Round). place_named (body_in o)) (sym at) ∙ own.there (on_of v stand).gets

  here : (u : List ℕ) → MayStand f u → StandsAt f.place (place_named round.body) k u
  here u may = subst (λ (o : Option ℕ). StandsAt f.place o k u) (sym place_is) may

  there : (u : List ℕ) → StandsAt f.place (place_named round.body) h u → MayStand next u
  there u stands = subst (λ (o : Option ℕ). StandsAt f.place o h u) place_is stands

  back : (u : List ℕ) → MayStand next u → StandsAt f.place (place_named round.body) h u
  back u may = subst (λ (o : Option ℕ). StandsAt f.place o h u) (sym place_is) may

  abbrev ids : List ℕ
  ids = plain.0

  abbrev o : Outcome
  o = plain.1

  -- These bytes follow it.
  pub stands_on : MayStand next v
  stands_on = there v (subst (λ (x : History). StandsAt f.place (place_named round.body) x v) (sym plain.6) (plain_stands r k v round.tag round.body f.place plain.0 plain.1 (on_of v stand).fetch plain.2 plain.3 (here v stand)))

  before : (u : List ℕ) → MayStand next u → Stood f.place plain.1 (place_for (judging (Some v) round.body k) round.body) (place_named round.body) k v u
  before u may =
      stood r k v u round.tag round.body f.place (here v stand) plain.0 plain.1 (on_of v stand).fetch plain.2 plain.3
      (subst (λ (x : History). StandsAt f.place (place_named round.body) x u) plain.6 (back u may))

  pub stood_of : (u : List ℕ) → MayStand next u → MayStand f u
  stood_of u may = subst (λ (x : Option ℕ). StandsAt f.place x k u) place_is (before u may).stood

  -- It may be given with any that follow it.
  pub plain_of : (u : List ℕ) → MayStand next u → AnswersPlainly r (dialogue_of f u) round answer h
  plain_of u may =
      let b = before u may in
      let moved = plain_moved r k v u round.tag round.body (sound_of v stand).unseen (walks_caps w q older (dialogue_of f v) (own.all v stand)) (on_of v stand).fetch (on_of u (stood_of u may)).fetch plain.0 plain.1 b.goes plain.2 plain.3 plain.4 in
      (plain.0, plain.1, moved.may, moved.shown, moved.plain, plain.5, plain.6)

  module _ (packet : List ℕ) (p : PacketFields) (parses : parsed packet ≡ Ok p) (is : is_answer w.responder.eid q.eid p ≡ true) (tagged : round.tag ≡ tag) (waits : 0 < round.waiting) (made : (u : List ℕ) (n : Dialogue) → Replies w (dialogue_of f u) tag answer n → RepliesBy w (dialogue_of f u) (gathered_from q.eid w.responder.eid older p) n) where
    walk_of : (u : List ℕ) → MayStand next u → Walks w q (packet ∷ older) (behind (dialogue_of f u) round l h u)
    walk_of u may =
        goes_replied w q older packet p parses is (dialogue_of f u) (behind (dialogue_of f u) round l h u) (own.all u (stood_of u may))
        (made u (behind (dialogue_of f u) round l h u)
        (replies_so w (dialogue_of f u) tag round answer l h u at tagged waits (plain_answers r (dialogue_of f u) u round answer h refl (plain_of u may)) (hears_same f v u tag answer l hears) gets))

    bare_at : (u : List ℕ) → MayStand next u → Walks w q (packet ∷ older) (dialogue_of next u) × (kept_of (restored next.kept) ≡ next.kept)
    bare_at u may = bare_walks w q (packet ∷ older) (behind (dialogue_of f u) round l h u) (walk_of u may) refl

    goes_keeps : ((x : Dialogue) → Walks w q (packet ∷ older) x → (u : List ℕ) × MayStand next u × (x.fetching ≡ Some u)) → IsFetchingOf w q (packet ∷ older) next
    goes_keeps each = record {
      kept = (bare_at v stands_on).1;
      there = λ asks. place_is;
      stands = (v, stands_on);
      all = λ u may. (bare_at u may).0;
      each = each;
    }

    -- ---- Each walk.

    replied_with : RepliesBy w (dialogue_of f v) (gathered_from q.eid w.responder.eid older p) (behind (dialogue_of f v) round l h v)
    replied_with = made v (behind (dialogue_of f v) round l h v) (replies_so w (dialogue_of f v) tag round answer l h v at tagged waits (plain_answers r (dialogue_of f v) v round answer h refl plain) hears gets)

    by_answers : (u : List ℕ) → MayStand f u → (x : History) (fetching : Option (List ℕ)) (y : List ℕ) → Answers r (dialogue_of f u) round answer x fetching → fetching ≡ Some y → h ≡ x → MayStand next y
    unfolding Answers
    by_answers u may x fetching y (inl (also, same)) some is =
        let on = (on_of u may).fetch in
        let stands = subst (λ (z : History). StandsAt f.place (place_named round.body) z u) (sym also.6 ∙ sym is) (plain_stands r k u round.tag round.body f.place also.0 also.1 on also.2 also.3 (here u may)) in
        subst (MayStand next) (same_Some u y (sym same ∙ some)) (there u stands)
    by_answers u may x fetching y (inr (inl (z, large, same))) some is =
        absurd (large_fetched r k (place_named round.body) v u round.tag round.body plain.0 large.0 plain.1 large.1 (asking k round.tag round.body (on_of v stand).fetch.how) plain.2 large.2 plain.3 plain.4 large.3 (plain.5 ∙ sym large.5))
    by_answers u may x fetching y (inr (inr (inl (z, again, same)))) some is = absurd (none-some u (sym again.0))
    by_answers u may x fetching y (inr (inr (inr (last, none)))) some is = absurd (none-some y (sym none ∙ some))

    pub each_on : (x : Dialogue) → Walks w q (packet ∷ older) x → (b : Dialogue) → Walks w q older b → (c : Replies w b tag answer x) → RepliesBy w b (gathered_from q.eid w.responder.eid older p) x → (u : List ℕ) × MayStand next u × (x.fetching ≡ Some u)
    each_on x over b walk c replies =
        let fw = fetched_walk w q older f b own walk in
        let both = walks_alike w q older (dialogue_of f v) b (own.all v stand) walk in
        let after = ((kept w).replies (dialogue_of f v) b (gathered_from q.eid w.responder.eid older p) (behind (dialogue_of f v) round l h v) x both replied_with replies).alike in
        let some = both_fetched (Some v) x.fetching v after.fetches refl in
        let parts = while_parts (is_fetching (outstanding c.4.3.0)) c.4.1 some.0 (ap (λ (y : Dialogue). y.fetching) (sym c.4.3.2) ∙ some.1) in
        let rounds : c.0 ≡ round = same_Some c.0 round (sym c.1 ∙ sym both.alike.round ∙ at) in
        let responders : b.responder ≡ k = sym both.alike.responder in
        let R : ReqSetup → Type 0 = λ s. Answers (towards w.responder (known_of s)) b c.0 answer c.4.0 c.4.1 in
        let A : Round → Type 0 = λ y. Answers r (dialogue_of f fw.whole) y answer c.4.0 c.4.1 in
        let moved = subst A rounds (answers_on r b (dialogue_of f fw.whole) c.0 answer c.4.0 c.4.1 responders fw.fetches (subst R (sym both.alike.setup) c.4.2)) in
        (some.0, by_answers fw.whole fw.stands c.4.0 c.4.1 some.0 moved parts.1 (after.responder ∙ ap (λ (y : Dialogue). y.responder) c.4.3.2), some.1)

    pub keeps_on : ((x : Dialogue) → Walks w q (packet ∷ older) x → (b : Dialogue) × Walks w q older b × Replies w b tag answer x × RepliesBy w b (gathered_from q.eid w.responder.eid older p) x) → IsFetchingOf w q (packet ∷ older) next
    keeps_on from = goes_keeps (λ x over. (let c = from x over in each_on x over c.0 c.1 c.2 c.3))

pub fetching_goes : FetchingGoes
fetching_goes w q older packet p f after parses not is own c = by_gathered (gathered_from q.eid w.responder.eid older p) refl c
  where
    by_gathered : (y : Gathered) → gathered_from q.eid w.responder.eid older p ≡ y → GoesFetching w f y after → IsFetchingOf w q (packet ∷ older) after
    by_gathered (Whole route answer) g (body_is, owner, (round, (at, tagged, waits), (v, h, stand, plain, (l, hears, gets, made)))) =
        subst (IsFetchingOf w q (packet ∷ older)) (sym made)
        (keeps_on w q older f own route.tag round answer v h l stand at plain hears gets packet p parses is tagged waits
        (λ u n one. subst (λ (y : Gathered). RepliesBy w (dialogue_of f u) y n) (sym g) (body_is, owner, one))
        (λ x over. (let from = came_replied w q older packet p parses is x over in (from.0, from.1, (subst (λ (y : Gathered). RepliesBy w from.0 y x) g from.2).2, from.2))))
    by_gathered More g same =
        let stay = subst (λ (y : Gathered). (d : Dialogue) → RepliesBy w d y d) (sym g) (λ d. refl) in
        subst (IsFetchingOf w q (packet ∷ older)) (sym same) (record {
          kept = own.kept;
          there = own.there;
          stands = own.stands;
          all = λ u may. goes_replied w q older packet p parses is (dialogue_of f u) (dialogue_of f u) (own.all u may) (stay (dialogue_of f u));
          each = λ x over.
              let from = came_replied w q older packet p parses is x over in
              let same_one : x ≡ from.0 = subst (λ (y : Gathered). RepliesBy w from.0 y x) g from.2 in
              let old = own.each from.0 from.1 in
              (old.0, old.1, ap (λ (y : Dialogue). y.fetching) same_one ∙ old.2);
        })
    by_gathered (Dropped cause) g c = absurd c
