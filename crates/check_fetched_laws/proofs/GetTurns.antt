-- Each step of a dialogue leaves the requester asking for the chunk that the responder gives next, while a large
-- response is fetched in the clear.
use Rattle.std.proofs.Common.{◌≡◌, ◌≤◌, ◌+◌, ◌-◌, ◌==◌, ℕ, List, refl, sym, ap, ◌∙◌, subst, true, false, Option, Some, None, is_some, inl, inr}
use Rattle.std.specs.Prelude.{slice_index}
use Rattle.std.proofs.lemmas.Bool.{false≢true, false_from_ne_true}
use Rattle.std.proofs.lemmas.Option.{none-some, same_Some}
use Rattle.mctp_framing.specs.Gathering.{Gathered}
use Rattle.mctp_framing.specs.Gathering.Gathered.{Whole, More, Dropped}
use Rattle.spdm_grammar.specs.Message.RequestMessage.{GetVersion}
use Rattle.requester_machine.specs.History as asker
use Rattle.requester_machine.specs.History.{begins_large, outstanding}
use Rattle.requester_machine.specs.History.Entry.{Told}
use Rattle.requester_machine.specs.Message.{Aim, Sent}
use Rattle.requester_machine.specs.Message.Aim.{Plain, ByChunks, ForChunk, InSession}
use Rattle.requester_machine.specs.Message.Ask.{AskFinish, AskData, AskBeat, AskUpdate, AskVerify, AskMeasure, AskChunk, AskEnd}
use Rattle.requester_machine.specs.Message.Command.{Connect}
use Rattle.requester_machine.specs.Sending.{plain_sent}
use Rattle.requester_machine.specs.Setup.{ReqSetup}
use Rattle.requester_machine.proofs.Entries.{asked}
use Rattle.responder_machine.specs.History.{History}
use Rattle.responder_machine.specs.Responder.Outcome.{Adds}
use Rattle.responder_machine.specs.Setup.{RspSetup, towards}
use Rattle.check_fetched_laws.proofs.GetAnswers.{large_not, plain_step}
use Rattle.check_fetched_laws.proofs.GetBegins.{again_begins, large_begins}
use Rattle.check_fetched_laws.proofs.GetSteps.{Fetches, goes_on, moved}
use Rattle.check_fetched_laws.proofs.ReadyGets.{LargeStand}
use Rattle.check_fetched_laws.proofs.TurnsBoth.{Settles}
use Rattle.check_fetched_laws.specs.ClearChunks.{NextIsGiven}
use Rattle.capture_machine.proofs.AimsHeard.{hears_version}
use Rattle.capture_machine.proofs.AskTells.{sent_by_kind}
use Rattle.capture_machine.proofs.AskersAim.{Asker, IsAt}
use Rattle.capture_machine.proofs.AskersAlike.{AskersAlike}
use Rattle.capture_machine.proofs.Fetching.{IsSound, while_parts}
use Rattle.capture_machine.proofs.PlacesServed.{named_clear}
use Rattle.capture_machine.proofs.UnseenStands.{UnseenStand}
use Rattle.capture_machine.specs.Capture.{AsksBy, Begins, Copies, Replies, RepliesBy}
use Rattle.capture_machine.specs.CapturedAnswers.{Answers, AreShown, Hears, MayLeadAfter, is_plain}
use Rattle.capture_machine.specs.CapturedRequests.{GoesOn, Sends, Tells, without_owed}
use Rattle.capture_machine.specs.LargeAnswers.{IsLargeAnswer, is_fetching, is_for_chunk, judging, place_of, with_large}
use Rattle.capture_machine.specs.Rounds.{Dialogue, Round, new_round, no_draw}
use Rattle.world_machine.specs.Setup.{Configuration, known_of}

-- Where a chunk is asked for in the clear, it is the next one.
abbrev pub FetchesSo : Dialogue → Type 0
FetchesSo d = (whole : List ℕ) (round : Round) → d.fetching ≡ Some whole → d.round ≡ Some round → (slice_index round.body 0 == 5) ≡ true → is_fetching (outstanding d.requester) ≡ true → Fetches d.requester d.responder whole round

abbrev pub Alike : Dialogue → Type 0
Alike d = AskersAlike d.round d.requester d.requester d.sending d.sending

-- ---- A request.

waits_for : (o : Option Sent) (s : Sent) → o ≡ Some s → is_fetching o ≡ true → is_for_chunk s.aim ≡ true
waits_for o s is gets = sym (ap is_fetching is) ∙ gets

copies_so : (d : Dialogue) (tag : ℕ) (body : List ℕ) (next : Dialogue) → FetchesSo d → Copies d tag body next → FetchesSo next
copies_so d tag body next so c =
    subst FetchesSo (sym c.4) (λ whole round fetching at type gets.
    let rd : Round = c.0 in
    let same : record rd { waiting = rd.waiting + 1 } ≡ round = same_Some (record rd { waiting = rd.waiting + 1 }) round at in
    let own : (slice_index rd.body 0 == 5) ≡ true = ap (λ (x : Round). slice_index x.body 0 == 5) same ∙ type in
    subst (Fetches d.requester d.responder whole) same (moved d.requester d.responder whole rd (rd.waiting + 1) rd.answered (so whole rd fetching c.1 own gets)))

not_connect : (q : ReqSetup) (h : asker.History) (body : List ℕ) (next : asker.History) → Tells q h Connect body next → is_fetching (outstanding next) ≡ true → ⊥
not_connect q h body next tells gets =
    let is : tells.0 ≡ plain_sent h GetVersion = (sent_by_kind q h tells.1.0 Connect tells.0 no_draw (asked false q h Connect tells.1.0 no_draw (Told Connect tells.0 no_draw) tells.1.2).1).0 tells.2 in
    false≢true (sym (ap (λ (l : asker.History). is_fetching (outstanding l)) tells.4 ∙ ap (λ (s : Sent). is_for_chunk s.aim) is) ∙ gets)

not_begun : (aim : Aim) → is_for_chunk aim ≡ true → begins_large aim ≡ true → ⊥
not_begun (Plain asked) gets large = false≢true gets
not_begun (ByChunks asked handle number) gets large = false≢true gets
not_begun (ForChunk asked handle number before) gets large = false≢true large
not_begun (InSession id ask) gets large = false≢true large

-- A chunk is asked for as it was to be.
sends_goes : (d : Dialogue) (whole : List ℕ) (body : List ℕ) (next : asker.History) (sending : Option (List ℕ)) → IsSound d → d.fetching ≡ Some whole → Sends d body next sending → is_fetching (outstanding next) ≡ true → GoesOn d body next sending
unfolding Sends
sends_goes d whole body next sending sound fetching (inl (inl connect, none)) gets = absurd (not_connect d.setup (without_owed d) body next connect gets)
sends_goes d whole body next sending sound fetching (inl (inr commands, none)) gets = let there = sound.fetched whole fetching in absurd (none-some there.2.sent (sym commands.1 ∙ there.2.waits))
sends_goes d whole body next sending sound fetching (inr (inl goes)) gets = goes
sends_goes d whole body next sending sound fetching (inr (inr (bytes, inl large, at))) gets = absurd (false≢true (sym (ap (λ (l : asker.History). is_fetching (outstanding l)) large.8) ∙ gets))
sends_goes d whole body next sending sound fetching (inr (inr (bytes, inr owed, at))) gets =
    let fetched = (sound.fetched whole fetching).2 in
    let same : owed.0 ≡ fetched.sent = same_Some owed.0 fetched.sent (sym owed.2.0 ∙ fetched.waits) in
    let large : begins_large fetched.sent.aim ≡ true = ap (λ (x : Sent). begins_large x.aim) (sym same) ∙ owed.3 in
    elim fetched.stands [
      | inl version ↦ absurd (false≢true (sym (ap begins_large version.0) ∙ large))
      | inr fetch ↦ absurd (not_begun fetched.sent.aim fetch.0 large)
    ]

-- It goes where the last request went.
old_type : (d : Dialogue) (old : Round) (body : List ℕ) (next : asker.History) (sending : Option (List ℕ)) → Asker d.requester old.body → GoesOn d body next sending → is_fetching (outstanding d.requester) ≡ true → (slice_index body 0 == 5) ≡ true → (slice_index old.body 0 == 5) ≡ true
old_type d old body next sending asker goes was type =
    let own = asker goes.0 goes.1.0 in
    type_by goes.0.aim (waits_for (outstanding d.requester) goes.0 goes.1.0 was) (subst (λ (l : List ℕ). IsAt d.requester l goes.0.aim) goes.3 own.own) own.here
  where
    type_by : (aim : Aim) → is_for_chunk aim ≡ true → IsAt d.requester body aim → IsAt d.requester old.body aim → (slice_index old.body 0 == 5) ≡ true
    type_by (ForChunk asked handle number before) gets at here = here
    type_by (InSession id (AskChunk op handle number before)) gets at here = absurd (false≢true (sym at.sealed ∙ type))
    type_by (InSession id AskFinish) gets at here = absurd (false≢true gets)
    type_by (InSession id AskData) gets at here = absurd (false≢true gets)
    type_by (InSession id AskBeat) gets at here = absurd (false≢true gets)
    type_by (InSession id (AskUpdate all)) gets at here = absurd (false≢true gets)
    type_by (InSession id AskVerify) gets at here = absurd (false≢true gets)
    type_by (InSession id (AskMeasure op)) gets at here = absurd (false≢true gets)
    type_by (InSession id AskEnd) gets at here = absurd (false≢true gets)
    type_by (Plain asked) gets at here = absurd (false≢true gets)
    type_by (ByChunks asked handle number) gets at here = absurd (false≢true gets)

begun_so : (d : Dialogue) (tag : ℕ) (body : List ℕ) (next : Dialogue) → IsSound d → Alike d → FetchesSo d → Begins d tag body next → FetchesSo next
begun_so d tag body next sound askers so b =
    subst FetchesSo (sym b.2.3) (λ whole round fetching at type gets.
    let goes : GoesOn d body b.2.0 b.2.1 = sends_goes d whole body b.2.0 b.2.1 sound fetching b.2.2 gets in
    let was : is_fetching (outstanding d.requester) ≡ true = ap (λ (l : asker.History). is_fetching (outstanding l)) (sym goes.5) ∙ gets in
    let there = sound.fetched whole fetching in
    let old : Round = there.0 in
    let asks = sound.asker old there.1 in
    let is : new_round tag body ≡ round = same_Some (new_round tag body) round at in
    let own : (slice_index old.body 0 == 5) ≡ true = old_type d old body b.2.0 b.2.1 asks goes was (ap (λ (x : Round). slice_index x.body 0 == 5) is ∙ type) in
    subst (Fetches b.2.0 d.responder whole) is (goes_on d old there.1 askers asks whole tag body b.2.0 b.2.1 b.1 was (so whole old fetching there.1 own was) goes))

pub asks_so : (d : Dialogue) (g : Gathered) (next : Dialogue) → IsSound d → Alike d → FetchesSo d → AsksBy d g next → FetchesSo next
asks_so d (Whole route body) next sound askers so asks = elim asks.2 [ inl copies ↦ copies_so d route.tag body next so copies | inr begins ↦ begun_so d route.tag body next sound askers so begins ]
asks_so d More next sound askers so asks = subst FetchesSo (sym asks) so
asks_so d (Dropped cause) next sound askers so asks = absurd asks

-- ---- An answer.

module _ (w : Configuration) (given : NextIsGiven) (d : Dialogue) (sound : IsSound d) (askers : Alike d) (known : is_fetching (outstanding d.requester) ≡ true → is_some d.fetching ≡ true) (so : FetchesSo d)
    (room : (whole : List ℕ) (rd : Round) → Fetches d.requester d.responder whole rd → 6 ≤ (towards w.responder (known_of d.setup)).transfer) where
  abbrev r : RspSetup
  r = towards w.responder (known_of d.setup)

  -- A chunk was asked for where one is.
  was : (whole : List ℕ) (rd : Round) (answer : List ℕ) (g : asker.History) → d.fetching ≡ Some whole → d.round ≡ Some rd → Hears d rd.tag answer g → is_fetching (outstanding g) ≡ true → is_fetching (outstanding d.requester) ≡ true
  was whole rd answer g fetching at hear gets =
      let old = (sound.fetched whole fetching).2 in
      elim old.stands [
        | inl version ↦ absurd (hears_version d rd.tag answer rd.body g old.sent (sound.asker rd at) old.waits version.0 hear gets)
        | inr fetch ↦ ap is_fetching old.waits ∙ fetch.0
      ]

  judged : (whole : List ℕ) (rd : Round) → d.fetching ≡ Some whole → (slice_index rd.body 0 == 5) ≡ true → judging d.fetching rd.body d.responder ≡ with_large None whole d.responder
  judged whole rd fetching type = ap (λ (o : Option (List ℕ)). judging o rd.body d.responder) fetching ∙ ap (λ (o : Option ℕ). with_large o whole d.responder) (named_clear rd.body type)

  answered : (whole : List ℕ) (rd : Round) (answer : List ℕ) (h : History) (fetching : Option (List ℕ)) (g : asker.History) → d.round ≡ Some rd → (slice_index rd.body 0 == 5) ≡ true → UnseenStand h → Settles h → LargeStand h
      → Answers r d rd answer h fetching → fetching ≡ Some whole → Hears d rd.tag answer g → is_fetching (outstanding g) ≡ true → Fetches g h whole rd
  unfolding Answers
  answered whole rd answer h fetching g at type unseen_stand settles stand (inl a) is hear gets =
      let before : d.fetching ≡ Some whole = sym a.1 ∙ is in
      let asks = was whole rd answer g before at hear gets in
      let j = judged whole rd before type in
      plain_step r (room whole rd (so whole rd before at type asks)) given d rd at askers asks type whole answer g hear gets a.0.0 a.0.1 h
      (subst (λ (l : History). MayLeadAfter r l a.0.0 rd.tag rd.body a.0.1) j a.0.2) (subst (λ (l : History). AreShown r l rd.body a.0.1 a.0.0) j a.0.3) (subst (λ (l : History). is_plain l a.0.1 ≡ true) j a.0.4) a.0.5 a.0.6
      (so whole rd before at type asks)
  answered whole rd answer h fetching g at type unseen_stand settles stand (inr (inl a)) is hear gets =
      let same : a.0 ≡ whole = same_Some a.0 whole (sym a.2 ∙ is) in
      subst (λ (l : List ℕ). Fetches g h l rd) same (by_fetching d.fetching refl)
    where
      by_fetching : (o : Option (List ℕ)) → d.fetching ≡ o → Fetches g h a.0 rd
      by_fetching (Some v) before =
          let asks = was v rd answer g before at hear gets in
          absurd (large_not r (room v rd (so v rd before at type asks)) given d rd at askers asks type v answer g hear gets a.1.0 a.1.1 (subst (λ (l : History). MayLeadAfter r l a.1.0 rd.tag rd.body (Adds a.1.1)) (judged v rd before type) a.1.2) a.1.3 (so v rd before at type asks))
      by_fetching None before =
          let none : is_fetching (outstanding d.requester) ≡ false = false_from_ne_true (is_fetching (outstanding d.requester)) (λ x. false≢true (sym (ap is_some before) ∙ known x)) in
          let j : judging d.fetching rd.body d.responder ≡ d.responder = ap (λ (o : Option (List ℕ)). judging o rd.body d.responder) before in
          large_begins d rd at askers none a.0 answer g hear gets r type a.1.0 a.1.1 h unseen_stand settles stand (subst (λ (l : History). MayLeadAfter r l a.1.0 rd.tag rd.body (Adds a.1.1)) j a.1.2) a.1.3
          (subst (λ (l : History). IsLargeAnswer (place_of l a.1.1) a.0) j a.1.4) a.1.5 a.1.6
  answered whole rd answer h fetching g at type unseen_stand settles stand (inr (inr (inl a))) is hear gets =
      let same : a.0 ≡ whole = same_Some a.0 whole (sym a.2 ∙ is) in
      let none : is_fetching (outstanding d.requester) ≡ false = false_from_ne_true (is_fetching (outstanding d.requester)) (λ x. false≢true (sym (ap is_some a.1.0) ∙ known x)) in
      subst (λ (l : List ℕ). Fetches g h l rd) same (again_begins d rd at askers none a.0 answer g hear gets r type h unseen_stand settles stand a.1.1 a.1.2 a.1.3 a.1.4)
  answered whole rd answer h fetching g at type unseen_stand settles stand (inr (inr (inr a))) is hear gets = absurd (none-some whole (sym a.1 ∙ is))

  replied_so : (tag : ℕ) (answer : List ℕ) (next : Dialogue) → UnseenStand next.responder → Settles next.responder → LargeStand next.responder → Replies w d tag answer next → FetchesSo next
  replied_so tag answer next unseen_stand settles stand c =
      subst FetchesSo (sym c.4.3.2) (λ whole round fetching at type gets.
      let rd : Round = c.0 in
      let g : asker.History = c.4.3.0 in
      let here : next.responder ≡ c.4.0 = ap (λ (x : Dialogue). x.responder) c.4.3.2 in
      let parts = while_parts (is_fetching (outstanding g)) c.4.1 whole fetching in
      let after_round : Round = record rd { waiting = rd.waiting - 1; answered = true } in
      let same : after_round ≡ round = same_Some after_round round at in
      let own : (slice_index rd.body 0 == 5) ≡ true = ap (λ (x : Round). slice_index x.body 0 == 5) same ∙ type in
      let hear : Hears d rd.tag answer g = subst (λ (n : ℕ). Hears d n answer g) (sym c.2) c.4.3.1 in
      subst (Fetches g c.4.0 whole) same (moved g c.4.0 whole rd (rd.waiting - 1) true
      (answered whole rd answer c.4.0 c.4.1 g c.1 own (subst UnseenStand here unseen_stand) (subst Settles here settles) (subst LargeStand here stand) c.4.2 parts.1 hear gets)))

  pub replies_so : (g : Gathered) (next : Dialogue) → UnseenStand next.responder → Settles next.responder → LargeStand next.responder → RepliesBy w d g next → FetchesSo next
  replies_so (Whole route body) next unseen_stand settles stand replies = replied_so route.tag body next unseen_stand settles stand replies.2
  replies_so More next unseen_stand settles stand replies = subst FetchesSo (sym replies) so
  replies_so (Dropped cause) next unseen_stand settles stand replies = absurd replies
