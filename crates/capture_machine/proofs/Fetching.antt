-- What holds of a dialogue while a large response is fetched: its requester awaits a chunk or GET_VERSION, and the
-- responder's history stands so. Each step keeps it.
use Rattle.std.proofs.Common.{◌≡◌, ◌+◌, ◌-◌, ◌==◌, ◌⊎◌, ℕ, List, [], ◌∷◌, refl, sym, ap, ◌∙◌, subst, drop, Bool, true, false, Option, Some, None, cond, inl, inr}
use Rattle.std.specs.Prelude.{slice_index}
use Rattle.std.proofs.lemmas.Bool.{false≢true}
use Rattle.std.proofs.lemmas.Option.{none-some, same_Some}
use Rattle.mctp_framing.specs.Gathering.{Gathered}
use Rattle.mctp_framing.specs.Gathering.Gathered.{Whole, More, Dropped}
use Rattle.spdm_grammar.specs.Message.RequestMessage.{GetVersion}
use Rattle.spdm_grammar.specs.Requests.{canonical_request}
use Rattle.spdm_machine.specs.Bodies.{clear_body}
use Rattle.requester_machine.specs.History as requester_history
use Rattle.requester_machine.specs.History.{outstanding, begins_large}
use Rattle.requester_machine.specs.History.Entry.{Told}
use Rattle.requester_machine.specs.Message.{Aim, Sent, body_of}
use Rattle.requester_machine.specs.Message.Aim.{Plain, ByChunks, ForChunk, InSession}
use Rattle.requester_machine.specs.Message.Ask.{AskFinish, AskData, AskBeat, AskUpdate, AskVerify, AskMeasure, AskChunk, AskEnd}
use Rattle.requester_machine.specs.Message.Command.{Connect}
use Rattle.requester_machine.specs.Sending.{plain_sent}
use Rattle.requester_machine.specs.Setup.{ReqSetup}
use Rattle.requester_machine.proofs.Entries.{asked}
use Rattle.responder_machine.specs.History.{History}
use Rattle.responder_machine.specs.May.{with_dropped, place_for}
use Rattle.responder_machine.specs.Place.{Place, session_place}
use Rattle.responder_machine.specs.Responder.{Outcome, after}
use Rattle.responder_machine.specs.Responder.Outcome.{Same, Unopened, Adds}
use Rattle.responder_machine.specs.Session.{session_of, id_in_record}
use Rattle.responder_machine.specs.Setup.{RspSetup, towards}
use Rattle.capture_machine.specs.Capture.{AsksBy, RepliesBy, Copies, Begins, Replies}
use Rattle.capture_machine.specs.CapturedAnswers.{Answers, MayLeadTo, MayLeadAfter, AreShown, is_plain}
use Rattle.capture_machine.specs.CapturedRequests.{Sends, Tells, GoesOn, without_owed}
use Rattle.capture_machine.specs.LargeAnswers.{is_for_chunk, is_fetching, judging, with_large, dropped_before_large, place_named, unseen}
use Rattle.capture_machine.specs.Rounds.{Dialogue, Round, new_dialogue, new_round, no_draw}
use Rattle.world_machine.specs.Setup.{Configuration, known_of}
use Rattle.capture_machine.proofs.AskersAim.{Asker, IsAt, IsOf, IsSpelled, sends_asker}
use Rattle.capture_machine.proofs.AimsHeard.{hears_asker, hears_version, some_fetched}
use Rattle.capture_machine.proofs.AskersStep.{connect_body}
use Rattle.capture_machine.proofs.AskTells.{sent_by_kind}
use Rattle.capture_machine.proofs.ChunksGiven.{Chunked}
use Rattle.capture_machine.proofs.FetchStates.{Fetch, Getting, asks_type, plain_kept}
use Rattle.capture_machine.proofs.FetchStates.Getting.{Asks, Repeats, Seals}
use Rattle.capture_machine.proofs.FetchBegins.{large_leaves, again_begins, large_begins}
use Rattle.capture_machine.proofs.FetchedTold.{Stands}
use Rattle.capture_machine.proofs.PlacesServed.{place_type, named_clear, named_session}
use Rattle.capture_machine.proofs.SeenAnswers.{led_stands}
use Rattle.capture_machine.proofs.SentFacts.{large_free}
use Rattle.capture_machine.proofs.UnseenStands.{IsClearSince, UnseenStand, dropped_stand, given_stand, before_stand}

-- The last request is GET_VERSION, in place of what was asked; or the requester awaits a chunk, and the responder's
-- history stands so.
pub record Fetched (h : requester_history.History) (k : History) (w : List ℕ) (tag : ℕ) (body : List ℕ) : Type 0 where
  pub sent : Sent
  pub waits : outstanding h ≡ Some sent
  pub stands : ((sent.aim ≡ Plain GetVersion) × (body ≡ clear_body (canonical_request GetVersion))) ⊎ ((is_for_chunk sent.aim ≡ true) × Fetch k w tag body)

pub stands_of : (h : requester_history.History) (k : History) (w : List ℕ) (tag : ℕ) (body : List ℕ) → Fetched h k w tag body → Stands k w tag body
stands_of h k w tag body fetched = by_stands fetched.stands
  where
    by_stands : ((fetched.sent.aim ≡ Plain GetVersion) × (body ≡ clear_body (canonical_request GetVersion))) ⊎ ((is_for_chunk fetched.sent.aim ≡ true) × Fetch k w tag body) → Stands k w tag body
    by_stands (inl version) = inl version.1
    by_stands (inr fetch) = inr fetch.1

pub record IsSound (d : Dialogue) : Type 0 where
  pub asker : (round : Round) → d.round ≡ Some round → Asker d.requester round.body
  pub unseen : UnseenStand d.responder
  pub fetched : (w : List ℕ) → d.fetching ≡ Some w → (round : Round) × (d.round ≡ Some round) × Fetched d.requester d.responder w round.tag round.body

pub begins_sound : (q : ReqSetup) → IsSound (new_dialogue q)
begins_sound q = record { asker = λ round is. absurd (none-some round is); unseen = tt; fetched = λ w is. absurd (none-some w is) }

-- ---- A request.

same_clear : (k : History) (one other : List ℕ) → (slice_index one 0 == 5) ≡ true → (slice_index other 0 == 5) ≡ true → place_for k one ≡ place_for k other
same_clear k one other type types = place_type k one true type ∙ sym (place_type k other true types)

same_session : (h : requester_history.History) (k : History) (one other : List ℕ) (id : ℕ) → IsOf h one id → IsOf h other id → place_for k one ≡ place_for k other
same_session h k one other id is are =
    place_type k one false is.sealed ∙ ap (λ (n : ℕ). session_place (session_of n k)) (is.named ∙ sym are.named) ∙ sym (place_type k other false are.sealed)

stays_within : (k : History) (tag : ℕ) (body : List ℕ) → (slice_index body 0 == 5) ≡ false → Getting k tag body → UnseenStand k
stays_within k tag body type (Asks handle number is since) = absurd (false≢true (sym type ∙ asks_type handle number body is))
stays_within k tag body type (Repeats clear again since) = absurd (false≢true (sym type ∙ clear))
stays_within k tag body type (Seals sealed within) = within

pub stays_clear : (k : History) (tag : ℕ) (body : List ℕ) → (slice_index body 0 == 5) ≡ true → Getting k tag body → IsClearSince k
stays_clear k tag body type (Asks handle number is since) = since
stays_clear k tag body type (Repeats clear again since) = since
stays_clear k tag body type (Seals sealed stand) = absurd (false≢true (sym sealed ∙ type))

same_named : (k : History) (w : List ℕ) (one other : List ℕ) (place : Option ℕ) → place_named one ≡ place → place_named other ≡ place → ((h : History) → place_for h one ≡ place_for h other)
    → Chunked (place_for (with_large (place_named one) w k) one) (place_named one) w k → Chunked (place_for (with_large (place_named other) w k) other) (place_named other) w k
same_named k w one other place named names same chunked =
    subst (λ (o : Option ℕ). Chunked (place_for (with_large o w k) other) o w k) (named ∙ sym names)
    (subst (λ (p : Place). Chunked p (place_named one) w k) (same (with_large (place_named one) w k)) chunked)

-- The next chunk is asked for.
goes_fetch : (h : requester_history.History) (k : History) (w : List ℕ) (old tag : ℕ) (last body : List ℕ) (aim : Aim) → is_for_chunk aim ≡ true → IsAt h body aim → IsAt h last aim → IsSpelled aim body → Fetch k w old last → Fetch k w tag body
goes_fetch h k w old tag last body (ForChunk asked handle number before) gets own here spelled fetch = record {
  how = Asks handle number spelled (stays_clear k old last here fetch.how);
  chunked = same_named k w last body None (named_clear last here) (named_clear body own) (λ g. same_clear g last body here own) fetch.chunked;
}
goes_fetch h k w old tag last body (InSession id (AskChunk op handle number before)) gets own here spelled fetch = record {
  how = Seals own.sealed (stays_within k old last here.sealed fetch.how);
  chunked =
      same_named k w last body (Some (id_in_record (drop 1 body))) (named_session last here.sealed ∙ ap Some (here.named ∙ sym own.named)) (named_session body own.sealed)
      (λ g. same_session h g last body id here own) fetch.chunked;
}
goes_fetch h k w old tag last body (Plain asked) gets own here spelled fetch = absurd (false≢true gets)
goes_fetch h k w old tag last body (ByChunks asked handle number) gets own here spelled fetch = absurd (false≢true gets)
goes_fetch h k w old tag last body (InSession id AskFinish) gets own here spelled fetch = absurd (false≢true gets)
goes_fetch h k w old tag last body (InSession id AskData) gets own here spelled fetch = absurd (false≢true gets)
goes_fetch h k w old tag last body (InSession id AskBeat) gets own here spelled fetch = absurd (false≢true gets)
goes_fetch h k w old tag last body (InSession id (AskUpdate all)) gets own here spelled fetch = absurd (false≢true gets)
goes_fetch h k w old tag last body (InSession id AskVerify) gets own here spelled fetch = absurd (false≢true gets)
goes_fetch h k w old tag last body (InSession id (AskMeasure op)) gets own here spelled fetch = absurd (false≢true gets)
goes_fetch h k w old tag last body (InSession id AskEnd) gets own here spelled fetch = absurd (false≢true gets)

not_begun : (aim : Aim) → is_for_chunk aim ≡ true → begins_large aim ≡ true → ⊥
not_begun (Plain asked) gets large = false≢true gets
not_begun (ByChunks asked handle number) gets large = false≢true gets
not_begun (ForChunk asked handle number before) gets large = false≢true large
not_begun (InSession id ask) gets large = false≢true large

goes_on : (d : Dialogue) (w : List ℕ) (round : Round) (tag : ℕ) (body : List ℕ) (next : requester_history.History) (sending : Option (List ℕ)) → Asker d.requester round.body → Fetched d.requester d.responder w round.tag round.body
    → GoesOn d body next sending → Fetched next d.responder w tag body
goes_on d w round tag body next sending asker fetched goes = subst (λ (l : requester_history.History). Fetched l d.responder w tag body) (sym goes.5) (record { sent = fetched.sent; waits = fetched.waits; stands = by_stands fetched.stands })
  where
    same : goes.0 ≡ fetched.sent
    same = same_Some goes.0 fetched.sent (sym goes.1.0 ∙ fetched.waits)

    spells : body_of fetched.sent.content ≡ body
    spells = ap (λ (x : Sent). body_of x.content) (sym same) ∙ goes.3

    by_stands : ((fetched.sent.aim ≡ Plain GetVersion) × (round.body ≡ clear_body (canonical_request GetVersion))) ⊎ ((is_for_chunk fetched.sent.aim ≡ true) × Fetch d.responder w round.tag round.body)
        → ((fetched.sent.aim ≡ Plain GetVersion) × (body ≡ clear_body (canonical_request GetVersion))) ⊎ ((is_for_chunk fetched.sent.aim ≡ true) × Fetch d.responder w tag body)
    by_stands (inl version) =
        inl (version.0, sym spells ∙ subst (λ (a : Aim). IsSpelled a (body_of fetched.sent.content)) version.0 (asker fetched.sent fetched.waits).spelled)
    by_stands (inr fetch) =
        let own = subst (λ (l : List ℕ). IsAt d.requester l fetched.sent.aim) spells (asker fetched.sent fetched.waits).own in
        let spelled = subst (λ (l : List ℕ). IsSpelled fetched.sent.aim l) spells (asker fetched.sent fetched.waits).spelled in
        inr (fetch.0, goes_fetch d.requester d.responder w round.tag tag round.body body fetched.sent.aim fetch.0 own (asker fetched.sent fetched.waits).here spelled fetch.1)

-- GET_VERSION, in its place.
connects : (d : Dialogue) (k : History) (w : List ℕ) (tag : ℕ) (h : requester_history.History) (body : List ℕ) (next : requester_history.History) → Tells d.setup h Connect body next → Fetched next k w tag body
connects d k w tag h body next tells =
    let is : tells.0 ≡ plain_sent h GetVersion = (sent_by_kind d.setup h tells.1.0 Connect tells.0 no_draw (asked false d.setup h Connect tells.1.0 no_draw (Told Connect tells.0 no_draw) tells.1.2).1).0 tells.2 in
    subst (λ (l : requester_history.History). Fetched l k w tag body) (sym tells.4) (record {
      sent = tells.0;
      waits = refl;
      stands = inl (ap (λ (x : Sent). x.aim) is, connect_body d.setup h body next tells);
    })

sends_fetched : (d : Dialogue) (w : List ℕ) (round : Round) (tag : ℕ) (body : List ℕ) (next : requester_history.History) (sending : Option (List ℕ)) → Asker d.requester round.body → Fetched d.requester d.responder w round.tag round.body
    → Sends d body next sending → Fetched next d.responder w tag body
unfolding Sends
sends_fetched d w round tag body next sending asker fetched (inl (inl connect, none)) = connects d d.responder w tag (without_owed d) body next connect
sends_fetched d w round tag body next sending asker fetched (inl (inr commands, none)) = absurd (none-some fetched.sent (sym commands.1 ∙ fetched.waits))
sends_fetched d w round tag body next sending asker fetched (inr (inl goes)) = goes_on d w round tag body next sending asker fetched goes
sends_fetched d w round tag body next sending asker fetched (inr (inr (whole, inl large, is))) =
    absurd (none-some fetched.sent (sym (large_free d.setup d.requester large.3.0 large.0 large.1 no_draw large.3.2 large.4) ∙ fetched.waits))
sends_fetched d w round tag body next sending asker fetched (inr (inr (whole, inr owed, is))) =
    let same : owed.0 ≡ fetched.sent = same_Some owed.0 fetched.sent (sym owed.2.0 ∙ fetched.waits) in
    let large : begins_large fetched.sent.aim ≡ true = ap (λ (x : Sent). begins_large x.aim) (sym same) ∙ owed.3 in
    elim fetched.stands [
      | inl version ↦ absurd (false≢true (sym (ap begins_large version.0) ∙ large))
      | inr fetch ↦ absurd (not_begun fetched.sent.aim fetch.0 large)
    ]

copies_sound : (d : Dialogue) (tag : ℕ) (body : List ℕ) (next : Dialogue) → IsSound d → Copies d tag body next → IsSound next
copies_sound d tag body next sound c =
    let rd : Round = record c.0 { waiting = c.0.waiting + 1 } in
    subst IsSound (sym c.4) (record {
      asker = λ round is. subst (λ (x : Round). Asker d.requester x.body) (same_Some rd round is) (sound.asker c.0 c.1);
      unseen = sound.unseen;
      fetched = λ w is.
          let old = sound.fetched w is in
          (rd, refl, subst (λ (x : Round). Fetched d.requester d.responder w x.tag x.body) (same_Some old.0 c.0 (sym old.1 ∙ c.1)) old.2);
    })

begun_sound : (d : Dialogue) (tag : ℕ) (body : List ℕ) (next : Dialogue) → IsSound d → Begins d tag body next → IsSound next
begun_sound d tag body next sound b =
    subst IsSound (sym b.2.3) (record {
      asker = λ round is. subst (λ (x : Round). Asker b.2.0 x.body) (same_Some (new_round tag body) round is) (sends_asker d body b.2.0 b.2.1 sound.asker b.2.2);
      unseen = sound.unseen;
      fetched = λ w is.
          let old = sound.fetched w is in
          (new_round tag body, refl, sends_fetched d w old.0 tag body b.2.0 b.2.1 (sound.asker old.0 old.1) old.2 b.2.2);
    })

pub asks_sound : (d : Dialogue) (g : Gathered) (next : Dialogue) → IsSound d → AsksBy d g next → IsSound next
asks_sound d (Whole route body) next sound asks = elim asks.2 [ inl copies ↦ copies_sound d route.tag body next sound copies | inr begins ↦ begun_sound d route.tag body next sound begins ]
asks_sound d More next sound asks = subst IsSound (sym asks) sound
asks_sound d (Dropped cause) next sound asks = absurd asks

-- ---- An answer.

-- The requests after it whose large response was not seen.
after_stands : (r : RspSetup) (k h : History) (tag : ℕ) (body : List ℕ) (o : Outcome) → MayLeadTo r k tag body o → UnseenStand h → UnseenStand (after h o)
after_stands r k h tag body (Same b) may stand = stand
after_stands r k h tag body (Unopened b) may stand = stand
after_stands r k h tag body (Adds e) may stand = (led_stands r k tag body e may, stand)

answers_unseen : (r : RspSetup) (d : Dialogue) (round : Round) (answer : List ℕ) (next : History) (fetching : Option (List ℕ)) → Answers r d round answer next fetching → UnseenStand d.responder → UnseenStand next
unfolding Answers
answers_unseen r d round answer next fetching (inl a) stand =
    subst UnseenStand (sym a.0.6) (after_stands r (with_dropped (judging d.fetching round.body d.responder) a.0.0) (with_dropped d.responder a.0.0) round.tag round.body a.0.1 a.0.2.1 (dropped_stand a.0.0 d.responder stand))
answers_unseen r d round answer next fetching (inr (inl a)) stand =
    let leaves = large_leaves r (with_dropped (judging d.fetching round.body d.responder) a.1.0) round.tag round.body a.1.1 a.1.2.1 a.1.3 in
    subst UnseenStand (sym a.1.6) (leaves.stands, stand)
answers_unseen r d round answer next fetching (inr (inr (inl a))) stand = subst UnseenStand (sym a.1.4) stand
answers_unseen r d round answer next fetching (inr (inr (inr a))) stand =
    let place : Option ℕ = place_named round.body in
    let k : History = judging d.fetching round.body d.responder in
    subst UnseenStand (sym a.0.8) (led_stands r k round.tag round.body a.0.2 a.0.4, given_stand place a.0.0 (dropped_before_large place a.0.1 d.responder) (before_stand place a.0.1 d.responder stand))

-- What is fetched after it.
answers_fetch : (r : RspSetup) (d : Dialogue) (round : Round) (answer : List ℕ) (next : History) (fetching : Option (List ℕ)) (x : List ℕ) → Answers r d round answer next fetching → fetching ≡ Some x → UnseenStand d.responder
    → ((w : List ℕ) → d.fetching ≡ Some w → Fetch d.responder w round.tag round.body) → Fetch next x round.tag round.body
unfolding Answers
answers_fetch r d round answer next fetching x (inl a) is stand old =
    let at : d.fetching ≡ Some x = sym a.1 ∙ is in
    let may = subst (λ (o : Option (List ℕ)). MayLeadAfter r (judging o round.body d.responder) a.0.0 round.tag round.body a.0.1) at a.0.2 in
    let shown = subst (λ (o : Option (List ℕ)). AreShown r (judging o round.body d.responder) round.body a.0.1 a.0.0) at a.0.3 in
    let plain = subst (λ (o : Option (List ℕ)). is_plain (judging o round.body d.responder) a.0.1 ≡ true) at a.0.4 in
    subst (λ (l : History). Fetch l x round.tag round.body) (sym a.0.6) (plain_kept r d.responder x round.tag round.body a.0.0 a.0.1 (old x at) may shown plain)
answers_fetch r d round answer next fetching x (inr (inl a)) is stand old =
    let same : a.0 ≡ x = same_Some a.0 x (sym a.2 ∙ is) in
    subst (λ (l : History). Fetch l x round.tag round.body) (sym a.1.6)
    (subst (λ (l : List ℕ). Fetch (unseen a.1.1 ∷ d.responder) l round.tag round.body) same
    (large_begins r (with_dropped (judging d.fetching round.body d.responder) a.1.0) d.responder a.0 round.tag round.body a.1.1 stand a.1.2.1 a.1.3))
answers_fetch r d round answer next fetching x (inr (inr (inl a))) is stand old =
    let same : a.0 ≡ x = same_Some a.0 x (sym a.2 ∙ is) in
    subst (λ (l : History). Fetch l x round.tag round.body) (sym a.1.4)
    (subst (λ (l : List ℕ). Fetch d.responder l round.tag round.body) same (again_begins r d.responder a.0 round.tag round.body answer stand a.1.2 a.1.1))
answers_fetch r d round answer next fetching x (inr (inr (inr a))) is stand old = absurd (none-some x (sym a.1 ∙ is))

pub while_parts : (b : Bool) (fetching : Option (List ℕ)) (x : List ℕ) → cond b fetching None ≡ Some x → (b ≡ true) × (fetching ≡ Some x)
while_parts true fetching x is = (refl, is)
while_parts false fetching x is = absurd (none-some x is)

replied_sound : (w : Configuration) (d : Dialogue) (tag : ℕ) (answer : List ℕ) (next : Dialogue) → IsSound d → Replies w d tag answer next → IsSound next
replied_sound w d tag answer next sound c =
    let rd : Round = c.0 in
    let g : requester_history.History = c.4.3.0 in
    let after_round : Round = record rd { waiting = rd.waiting - 1; answered = true } in
    let asker = hears_asker d tag answer rd.body g (sound.asker rd c.1) c.4.3.1 in
    subst IsSound (sym c.4.3.2) (record {
      asker = λ round is. subst (λ (x : Round). Asker g x.body) (same_Some after_round round is) asker;
      unseen = answers_unseen (towards w.responder (known_of d.setup)) d rd answer c.4.0 c.4.1 c.4.2 sound.unseen;
      fetched = λ x is.
          let parts = while_parts (is_fetching (outstanding g)) c.4.1 x is in
          let some = some_fetched (outstanding g) parts.0 in (
            after_round,
            refl,
            record {
              sent = some.0;
              waits = some.1;
              stands = inr (some.2, answers_fetch (towards w.responder (known_of d.setup)) d rd answer c.4.0 c.4.1 x c.4.2 parts.1 sound.unseen (λ v at. was v at parts.0));
            },
          );
    })
  where
    was : (v : List ℕ) → d.fetching ≡ Some v → is_fetching (outstanding c.4.3.0) ≡ true → Fetch d.responder v c.0.tag c.0.body
    was v at gets =
        let old = sound.fetched v at in
        let same : old.0 ≡ c.0 = same_Some old.0 c.0 (sym old.1 ∙ c.1) in
        elim old.2.stands [
          | inl version ↦ absurd (hears_version d tag answer c.0.body c.4.3.0 old.2.sent (sound.asker c.0 c.1) old.2.waits version.0 c.4.3.1 gets)
          | inr fetch ↦ subst (λ (x : Round). Fetch d.responder v x.tag x.body) same fetch.1
        ]

pub replies_sound : (w : Configuration) (d : Dialogue) (g : Gathered) (next : Dialogue) → IsSound d → RepliesBy w d g next → IsSound next
replies_sound w d (Whole route body) next sound replies = replied_sound w d route.tag body next sound replies.2
replies_sound w d More next sound replies = subst IsSound (sym replies) sound
replies_sound w d (Dropped cause) next sound replies = absurd replies
