-- Each packet of a walk is a step by which a change is taken.
use Rattle.std.proofs.Common.{◌≡◌, ◌∙◌, ◌⊎◌, ◌==◌, ℕ, List, [], ◌∷◌, Bool, true, false, cond, Option, Some, None, Result, Ok, Err, drop, length, refl, sym, ap, subst, arith, inl, inr}
use Rattle.std.specs.Prelude.{MatchBool, nat_lt, slice_index}
use Rattle.std.proofs.lemmas.Bool.{and_parts, le-ltb}
use Rattle.std.proofs.lemmas.Option.{none-some, same_Some}
use Rattle.mctp_framing.specs.Gathering.{Gathered}
use Rattle.mctp_framing.specs.Gathering.Gathered.{Whole, More, Dropped}
use Rattle.mctp_framing.specs.Packet.{PacketFields, parsed}
use Rattle.requester_machine.specs.History as requester_history
use Rattle.requester_machine.specs.History.{outstanding}
use Rattle.requester_machine.specs.History.Entry.{Told, TookClear, TookRecord}
use Rattle.requester_machine.specs.Message.{Sent}
use Rattle.requester_machine.specs.Owed.{with_next}
use Rattle.requester_machine.specs.Setup.{ReqSetup}
use Rattle.responder_machine.specs.History.{History}
use Rattle.responder_machine.specs.May.{with_dropped}
use Rattle.responder_machine.specs.Session.{id_in_record}
use Rattle.responder_machine.specs.Setup.{RspSetup, towards}
use Rattle.spdm_basis.specs.declared.PacketFault.{PacketFault}
use Rattle.spdm_machine.specs.Packets.{gathered_from}
use Rattle.check_laws.proofs.BegunAtLast.{get_begins, settled, settled_begins}
use Rattle.check_laws.proofs.BegunSessions.{Begins, large_begins, plain_begins, same_begins}
use Rattle.check_laws.proofs.FewAsked.{FewAccepted, FewWaiting, Heard, hears_few, sends_few}
use Rattle.check_laws.proofs.PairWalks.{steps_setup}
use Rattle.check_laws.specs.Changes.{IsFew, WalksStep}
use Rattle.check_laws.specs.Order.{is_answer, is_request}
use Rattle.check_laws.specs.Walks.{StepsBy, StepsTo, Walks}
use Rattle.capture_machine.proofs.FetchedTold.{version_apart}
use Rattle.capture_machine.proofs.Fetching.{IsSound, asks_sound, begins_sound, replies_sound, stays_clear}
use Rattle.capture_machine.proofs.UnseenStands.{IsClearSince}
use Rattle.capture_machine.specs.Capture.{AsksBy, Begins as BeginsRound, Copies, Replies, RepliesBy}
use Rattle.capture_machine.specs.CapturedAnswers.{Answers, Completes}
use Rattle.capture_machine.specs.CapturedRequests.{Sends}
use Rattle.capture_machine.specs.LargeAnswers.{judging, place_named, takes_get}
use Rattle.capture_machine.specs.Rounds.{Dialogue, Round, new_dialogue}
use Rattle.capture_machine.specs.SessionTable.{accepted_between, accepted_in, begun_count}
use Rattle.world_machine.specs.Setup.{Configuration, known_of}

-- ---- An answer.

pub clear_type : (body : List ℕ) → place_named body ≡ None → (slice_index body 0 == 5) ≡ true
clear_type body is = by_type (slice_index body 0 == 5) is
  where
    by_type : (b : Bool) → cond b None (Some (id_in_record (drop 1 body))) ≡ None → b ≡ true
    by_type true none = refl
    by_type false none = absurd (none-some (id_in_record (drop 1 body)) (sym none))

-- With the last chunk of a large response in the clear nothing else was taken there since.
pub completes_since : (r : RspSetup) (d : Dialogue) (round : Round) (answer : List ℕ) (next : History) → IsSound d → d.round ≡ Some round → Completes r d round answer next → place_named round.body ≡ None → IsClearSince d.responder
completes_since r d round answer next sound at a named =
    let old = sound.fetched a.0 a.3 in
    let same : old.0 ≡ round = same_Some old.0 round (sym old.1 ∙ at) in
    let gets : takes_get a.2 ≡ true = (and_parts (takes_get a.2) _ a.5).0 in
    let body : old.0.body ≡ round.body = ap (λ (x : Round). x.body) same in
    elim old.2.stands [
      | inl version ↦ absurd (version_apart r (judging d.fetching round.body d.responder) round.tag round.body a.2 (sym body ∙ version.1) a.4 gets)
      | inr fetch ↦ stays_clear d.responder old.0.tag old.0.body (ap (λ (l : List ℕ). slice_index l 0 == 5) body ∙ clear_type round.body named) fetch.1.how
    ]

pub answers_begin : (r : RspSetup) (d : Dialogue) (round : Round) (answer : List ℕ) (next : History) (fetching : Option (List ℕ)) → IsSound d → d.round ≡ Some round → Answers r d round answer next fetching → Begins (begun_count d.responder) next
unfolding Answers
answers_begin r d round answer next fetching sound at (inl a) =
    subst (Begins (begun_count d.responder)) (sym a.0.6) (plain_begins r (with_dropped (judging d.fetching round.body d.responder) a.0.0) d.responder a.0.0 round.tag round.body a.0.1 a.0.2.1)
answers_begin r d round answer next fetching sound at (inr (inl a)) = subst (Begins (begun_count d.responder)) (sym a.1.6) (large_begins a.1.1 d.responder)
answers_begin r d round answer next fetching sound at (inr (inr (inl a))) = same_begins (begun_count d.responder) next (ap begun_count a.1.4)
answers_begin r d round answer next fetching sound at (inr (inr (inr a))) =
    let place : Option ℕ = place_named round.body in
    let gets : takes_get a.0.2 ≡ true = (and_parts (takes_get a.0.2) _ a.0.5).0 in
    subst (Begins (begun_count d.responder)) (sym a.0.8)
    (get_begins (begun_count d.responder) a.0.2 (settled place a.0.0 a.0.1 d.responder) gets
    (settled_begins r place a.0.0 a.0.1 d.responder (completes_since r d round answer next sound at a.0) a.0.6 a.0.9))

-- ---- What holds of a dialogue in a walk.

pub record IsHeld (d : Dialogue) : Type 0 where
  pub sound : IsSound d
  pub few : FewWaiting d.requester

-- What a packet makes of it.
pub record IsMoved (d next : Dialogue) : Type 0 where
  pub held : IsHeld next
  pub begins : Begins (begun_count d.responder) next.responder
  pub accepts : (id : ℕ) → accepted_between d next ≡ Some id → IsFew id

pub new_held : (q : ReqSetup) → IsHeld (new_dialogue q)
new_held q = record { sound = begins_sound q; few = λ sent is. absurd (none-some sent is) }

pub none_taken : (b : Bool) (o : Option ℕ) (id : ℕ) → o ≡ None → cond b o None ≡ Some id → ⊥
none_taken true o id none is = none-some id (sym none ∙ is)
none_taken false o id none is = none-some id is

pub no_longer : (h next : requester_history.History) (id : ℕ) → length next ≡ length h → cond (nat_lt (length h) (length next)) (accepted_in next) None ≡ Some id → ⊥
no_longer h next id same is =
    none-some id (sym (ap (λ b. cond b (accepted_in next) None) (le-ltb (length h) (length next) (omega (arith, same)))) ∙ is)

pub stays_moved : (d next : Dialogue) → IsHeld d → next ≡ d → IsMoved d next
stays_moved d next held same = record {
  held = subst IsHeld (sym same) held;
  begins = same_begins (begun_count d.responder) next.responder (ap (λ (x : Dialogue). begun_count x.responder) same);
  accepts = λ id is. absurd (no_longer d.requester next.requester id (ap (λ (x : Dialogue). length x.requester) same) is);
}

-- ---- A request.

pub length_next : (o : Option Sent) (h : requester_history.History) → length (with_next o h) ≡ length h
length_next o [] = refl
length_next o (Told command sent d ∷ older) = refl
length_next o (TookClear tag m led d ∷ older) = refl
length_next o (TookRecord tag id sealed inner led d ∷ older) = refl

pub sends_none : (d : Dialogue) (body : List ℕ) (next : requester_history.History) (sending : Option (List ℕ)) (id : ℕ) → Sends d body next sending → cond (nat_lt (length d.requester) (length next)) (accepted_in next) None ≡ Some id → ⊥
unfolding Sends
sends_none d body next sending id (inl (inl connects, none)) is = none_taken _ (accepted_in next) id (ap accepted_in connects.4) is
sends_none d body next sending id (inl (inr commands, none)) is = none_taken _ (accepted_in next) id (ap accepted_in commands.2.4) is
sends_none d body next sending id (inr (inl goes)) is = no_longer d.requester next id (ap length goes.5) is
sends_none d body next sending id (inr (inr (whole, inl large, at))) is = none_taken _ (accepted_in next) id (ap accepted_in large.8) is
sends_none d body next sending id (inr (inr (whole, inr owed, at))) is = no_longer d.requester next id (ap length owed.7 ∙ length_next _ d.requester) is

pub copied_moved : (d : Dialogue) (tag : ℕ) (body : List ℕ) (next : Dialogue) → IsHeld d → IsSound next → Copies d tag body next → IsMoved d next
copied_moved d tag body next held sound c = record {
  held = record {
    sound = sound;
    few = subst FewWaiting (sym (ap (λ (x : Dialogue). x.requester) c.4)) held.few;
  };
  begins = same_begins (begun_count d.responder) next.responder (ap (λ (x : Dialogue). begun_count x.responder) c.4);
  accepts = λ id is. absurd (no_longer d.requester next.requester id (ap (λ (x : Dialogue). length x.requester) c.4) is);
}

pub begun_moved : (d : Dialogue) (tag : ℕ) (body : List ℕ) (next : Dialogue) → IsHeld d → IsSound next → BeginsRound d tag body next → IsMoved d next
begun_moved d tag body next held sound b =
    let own : next.requester ≡ b.2.0 = ap (λ (x : Dialogue). x.requester) b.2.3 in
    record {
      held = record {
        sound = sound;
        few = subst FewWaiting (sym own) (sends_few d body b.2.0 b.2.1 held.few b.2.2);
      };
      begins = same_begins (begun_count d.responder) next.responder (ap (λ (x : Dialogue). begun_count x.responder) b.2.3);
      accepts = λ id is. absurd (sends_none d body b.2.0 b.2.1 id b.2.2 (sym (ap (λ (h : requester_history.History). cond (nat_lt (length d.requester) (length h)) (accepted_in h) None) own) ∙ is));
    }

pub asks_moved : (d : Dialogue) (g : Gathered) (next : Dialogue) → IsHeld d → AsksBy d g next → IsMoved d next
asks_moved d (Whole route body) next held asks =
    let sound = asks_sound d (Whole route body) next held.sound asks in
    elim asks.2 [ inl copies ↦ copied_moved d route.tag body next held sound copies | inr begins ↦ begun_moved d route.tag body next held sound begins ]
asks_moved d More next held asks = stays_moved d next held asks
asks_moved d (Dropped cause) next held asks = absurd asks

-- ---- An answer.

pub heard_accepts : (h next : requester_history.History) (id : ℕ) → (next ≡ h) ⊎ FewAccepted next → cond (nat_lt (length h) (length next)) (accepted_in next) None ≡ Some id → IsFew id
heard_accepts h next id (inl same) is = absurd (no_longer h next id (ap length same) is)
heard_accepts h next id (inr few) is = by_longer (nat_lt (length h) (length next)) is
  where
    by_longer : (b : Bool) → cond b (accepted_in next) None ≡ Some id → IsFew id
    by_longer true takes_it = few id takes_it
    by_longer false none = absurd (none-some id none)

pub replied_moved : (w : Configuration) (d : Dialogue) (tag : ℕ) (answer : List ℕ) (next : Dialogue) → IsHeld d → IsSound next → Replies w d tag answer next → IsMoved d next
replied_moved w d tag answer next held sound c =
    let r : RspSetup = towards w.responder (known_of d.setup) in
    let own : next.requester ≡ c.4.3.0 = ap (λ (x : Dialogue). x.requester) c.4.3.2 in
    let its : next.responder ≡ c.4.0 = ap (λ (x : Dialogue). x.responder) c.4.3.2 in
    let heard : Heard d.requester c.4.3.0 = hears_few d tag answer c.4.3.0 held.few c.4.3.1 in
    record {
      held = record {
        sound = sound;
        few = subst FewWaiting (sym own) heard.waits;
      };
      begins = subst (Begins (begun_count d.responder)) (sym its) (answers_begin r d c.0 answer c.4.0 c.4.1 held.sound c.1 c.4.2);
      accepts = λ id is. heard_accepts d.requester c.4.3.0 id heard.takes (sym (ap (λ (h : requester_history.History). cond (nat_lt (length d.requester) (length h)) (accepted_in h) None) own) ∙ is);
    }

pub replies_moved : (w : Configuration) (d : Dialogue) (g : Gathered) (next : Dialogue) → IsHeld d → RepliesBy w d g next → IsMoved d next
replies_moved w d (Whole route body) next held replies = replied_moved w d route.tag body next held (replies_sound w d (Whole route body) next held.sound replies) replies.2
replies_moved w d More next held replies = stays_moved d next held replies
replies_moved w d (Dropped cause) next held replies = absurd replies

-- ---- A packet.

pub step_moved : (w : Configuration) (eid : ℕ) (older : List (List ℕ)) (d next : Dialogue) (r : Result PacketFields PacketFault) → IsHeld d → StepsBy w eid older d next r → IsMoved d next
step_moved w eid older d next (Err fault) held step = stays_moved d next held step
step_moved w eid older d next (Ok p) held step = by_ends (is_request w.responder.eid eid p) (is_answer w.responder.eid eid p) step
  where
    by_ends : (b c : Bool) → MatchBool b (AsksBy d (gathered_from w.responder.eid eid older p) next) (MatchBool c (RepliesBy w d (gathered_from eid w.responder.eid older p) next) (next ≡ d)) → IsMoved d next
    by_ends true c asks = asks_moved d (gathered_from w.responder.eid eid older p) next held asks
    by_ends false true replies = replies_moved w d (gathered_from eid w.responder.eid older p) next held replies
    by_ends false false same = stays_moved d next held same

pub walks_held : (w : Configuration) (q : ReqSetup) (older : List (List ℕ)) (d : Dialogue) → Walks w q older d → IsHeld d
unfolding StepsTo
walks_held w q [] d walk = subst IsHeld (sym walk) (new_held q)
walks_held w q (packet ∷ older) d walk = (step_moved w q.eid older walk.0 d (parsed packet) (walks_held w q older walk.0 walk.1) walk.2).held

pub walks_step : WalksStep
unfolding StepsTo
walks_step w q older packet before after walk step =
    let moved = step_moved w q.eid older before after (parsed packet) (walks_held w q older before walk) step in
    record {
      setup = sym (steps_setup w q.eid older before after (parsed packet) step);
      live = moved.begins.live;
      few = moved.begins.few;
      accepted = moved.accepts;
    }
