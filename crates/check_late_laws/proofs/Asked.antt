-- A request while a large response is fetched.
use Rattle.std.proofs.Common.{◌≡◌, ℕ, List, ◌∷◌, refl, sym, ap, ◌∙◌, subst, length, take, true, false, Option, Some, None, Ok, inl, inr}
use Rattle.std.proofs.lemmas.Bool.{false≢true}
use Rattle.std.proofs.lemmas.Option.{none-some, same_Some}
use Rattle.mctp_framing.specs.Gathering.{Gathered}
use Rattle.mctp_framing.specs.Gathering.Gathered.{Whole, More, Dropped}
use Rattle.requester_machine.specs.History as requester_history
use Rattle.requester_machine.specs.History.{begins_large, outstanding}
use Rattle.requester_machine.specs.Message.{Aim, Sent, body_of}
use Rattle.requester_machine.specs.Message.Aim.{Plain, ByChunks, ForChunk, InSession}
use Rattle.requester_machine.specs.Message.Ask.{AskFinish, AskData, AskBeat, AskUpdate, AskVerify, AskMeasure, AskChunk, AskEnd}
use Rattle.requester_machine.specs.Sending.{plain_sent}
use Rattle.responder_machine.specs.History.{History}
use Rattle.spdm_grammar.specs.Message.RequestMessage.{GetVersion}
use Rattle.check_laws.proofs.GoingOn.{none_sent}
use Rattle.check_laws.proofs.KeptAll.{asks_kept}
use Rattle.check_laws.proofs.OneWalk.{walks_alike}
use Rattle.check_laws.specs.Keeping.{AsksKept, Kept, kept_of, restored}
use Rattle.check_laws.specs.Order.{body_in, is_request}
use Rattle.check_laws.specs.Walks.{Walks}
use Rattle.capture_machine.proofs.Alike.{Alike}
use Rattle.capture_machine.proofs.AskersAim.{IsAt}
use Rattle.capture_machine.proofs.AskTells.{sent_by_kind}
use Rattle.capture_machine.proofs.Fetching.{Fetched, IsSound}
use Rattle.capture_machine.proofs.PlacesServed.{named_clear, named_session}
use Rattle.capture_machine.proofs.SentFacts.{large_free}
use Rattle.capture_machine.proofs.ShownAlike.{fetching_alike}
use Rattle.world_machine.specs.Setup.{Configuration}
use Rattle.requester_machine.specs.Setup.{ReqSetup}
use Rattle.mctp_framing.specs.Packet.{PacketFields, parsed}
use Rattle.spdm_machine.specs.Packets.{gathered_from}
use Rattle.requester_machine.proofs.Entries.{asked as told_entry}
use Rattle.requester_machine.specs.History.Entry.{Told}
use Rattle.requester_machine.specs.Message.Command.{Connect}
use Rattle.capture_machine.specs.Capture.{AsksBy}
use Rattle.capture_machine.specs.CapturedRequests.{Sends, Tells, without_owed}
use Rattle.capture_machine.specs.LargeAnswers.{IsLargeAnswer, is_fetching, is_for_chunk, place_named}
use Rattle.capture_machine.specs.LargeRequests.{still_sending}
use Rattle.capture_machine.specs.Rounds.{Dialogue, Round, no_draw}
use Rattle.check_late_laws.specs.Fetching.{Fetching, GoesThere, HasSize, IsFetchingOf, MayStand, bytes_given, dialogue_of, size_told}
use Rattle.check_late_laws.specs.FetchingLaws.{FetchingAsks, FetchingIsAsked, FetchingStays}
use Rattle.check_late_laws.proofs.AskedSteps as steps
use Rattle.check_late_laws.proofs.Packets.{came_asked, came_past, goes_asked, goes_past}
use Rattle.check_late_laws.proofs.Restored.{bare_of, bare_walks}

-- ---- What a request leaves.

pub asks_fetching : (b : Dialogue) (g : Gathered) (d : Dialogue) → AsksBy b g d → d.fetching ≡ b.fetching
asks_fetching b (Whole route body) d (body_is, owner, inl c) = ap (λ (x : Dialogue). x.fetching) c.4
asks_fetching b (Whole route body) d (body_is, owner, inr c) = ap (λ (x : Dialogue). x.fetching) c.2.3
asks_fetching b More d asks = ap (λ (x : Dialogue). x.fetching) asks
asks_fetching b (Dropped cause) d asks = absurd asks

responder_stays : (k : Kept) (g : Gathered) (n : Kept) → AsksKept k g n → n.responder ≡ k.responder
responder_stays k (Whole route body) n (body_is, owner, inl c) = ap (λ (x : Kept). x.responder) c.4
responder_stays k (Whole route body) n (body_is, owner, inr c) = ap (λ (x : Kept). x.responder) c.2.2
responder_stays k More n asks = ap (λ (x : Kept). x.responder) asks
responder_stays k (Dropped cause) n asks = absurd asks

-- The same bytes may stand.
abbrev StandsBy : Fetching → (whole : List ℕ) → History → Type 0
StandsBy f whole h = IsLargeAnswer f.place whole × HasSize (size_told f.at h) whole × (take (length (bytes_given f.at h)) whole ≡ bytes_given f.at h)

-- ---- Where it goes.

not_begun : (aim : Aim) → is_for_chunk aim ≡ true → begins_large aim ≡ true → ⊥
not_begun (Plain asked) gets large = false≢true gets
not_begun (ByChunks asked handle number) gets large = false≢true gets
not_begun (ForChunk asked handle number before) gets large = false≢true large
not_begun (InSession id ask) gets large = false≢true large

-- The message that asks for a chunk goes where the last request went.
same_place : (h : requester_history.History) (own last : List ℕ) (aim : Aim) → is_for_chunk aim ≡ true → IsAt h own aim → IsAt h last aim → place_named own ≡ place_named last
same_place h own last (ForChunk asked handle number before) gets at here = named_clear own at ∙ sym (named_clear last here)
same_place h own last (InSession id (AskChunk op handle number before)) gets at here = named_session own at.sealed ∙ ap Some (at.named ∙ sym here.named) ∙ sym (named_session last here.sealed)
same_place h own last (Plain asked) gets at here = absurd (false≢true gets)
same_place h own last (ByChunks asked handle number) gets at here = absurd (false≢true gets)
same_place h own last (InSession id AskFinish) gets at here = absurd (false≢true gets)
same_place h own last (InSession id AskData) gets at here = absurd (false≢true gets)
same_place h own last (InSession id AskBeat) gets at here = absurd (false≢true gets)
same_place h own last (InSession id (AskUpdate all)) gets at here = absurd (false≢true gets)
same_place h own last (InSession id AskVerify) gets at here = absurd (false≢true gets)
same_place h own last (InSession id (AskMeasure op)) gets at here = absurd (false≢true gets)
same_place h own last (InSession id AskEnd) gets at here = absurd (false≢true gets)

-- GET_VERSION asks for no chunk.
version_gets : (d : Dialogue) (body : List ℕ) (next : requester_history.History) → Tells d.setup (without_owed d) Connect body next → is_fetching (outstanding next) ≡ false
version_gets d body next tells =
    let h : requester_history.History = without_owed d in
    let is : tells.0 ≡ plain_sent h GetVersion = (sent_by_kind d.setup h tells.1.0 Connect tells.0 no_draw (told_entry false d.setup h Connect tells.1.0 no_draw (Told Connect tells.0 no_draw) tells.1.2).1).0 tells.2 in
    ap (λ (l : requester_history.History). is_fetching (outstanding l)) tells.4 ∙ ap (λ (x : Sent). is_for_chunk x.aim) is

-- While a chunk is asked for.
abbrev There : Option ℕ → Dialogue → Type 0
There at d = is_fetching (outstanding d.requester) ≡ true → place_named (body_in d.round) ≡ at

module _ (b : Dialogue) (sound : IsSound b) (v : List ℕ) (fetches : b.fetching ≡ Some v) where
  abbrev pub round : Round
  round = (sound.fetched v fetches).0

  round_is : b.round ≡ Some round
  round_is = (sound.fetched v fetches).1

  pub was : Fetched b.requester b.responder v round.tag round.body
  was = (sound.fetched v fetches).2

  -- No large request is begun.
  none_begun : (body : List ℕ) (next : requester_history.History) (sending : Option (List ℕ)) → b.sending ≡ None → Sends b body next sending → sending ≡ None
  unfolding Sends
  none_begun body next sending none (inl (told, is)) = is
  none_begun body next sending none (inr (inl goes)) = goes.6 ∙ ap (λ (o : Option (List ℕ)). still_sending b.requester o goes.0.aim) none
  none_begun body next sending none (inr (inr (whole, inl large, is))) =
      absurd (none-some was.sent (sym (large_free b.setup b.requester large.3.0 large.0 large.1 no_draw large.3.2 large.4) ∙ was.waits))
  none_begun body next sending none (inr (inr (whole, inr owed, is))) =
      let same : owed.0 ≡ was.sent = same_Some owed.0 was.sent (sym owed.2.0 ∙ was.waits) in
      let large : begins_large was.sent.aim ≡ true = ap (λ (x : Sent). begins_large x.aim) (sym same) ∙ owed.3 in
      elim was.stands [
        | inl version ↦ absurd (false≢true (sym (ap begins_large version.0) ∙ large))
        | inr fetch ↦ absurd (not_begun was.sent.aim fetch.0 large)
      ]

  pub unsent : (g : Gathered) (d : Dialogue) → b.sending ≡ None → AsksBy b g d → d.sending ≡ None
  unsent (Whole route body) d none (body_is, owner, inl c) = ap (λ (x : Dialogue). x.sending) c.4 ∙ none
  unsent (Whole route body) d none (body_is, owner, inr c) = ap (λ (x : Dialogue). x.sending) c.2.3 ∙ none_begun body c.2.0 c.2.1 none c.2.2
  unsent More d none asks = ap (λ (x : Dialogue). x.sending) asks ∙ none
  unsent (Dropped cause) d none asks = absurd asks

  sends_there : (at : Option ℕ) (body : List ℕ) (next : requester_history.History) (sending : Option (List ℕ)) → b.sending ≡ None → There at b → Sends b body next sending → is_fetching (outstanding next) ≡ true → place_named body ≡ at
  unfolding Sends
  sends_there at body next sending none there (inl (inl connects, is)) gets = absurd (false≢true (sym (version_gets b body next connects) ∙ gets))
  sends_there at body next sending none there (inl (inr commands, is)) gets = absurd (none-some was.sent (sym commands.1 ∙ was.waits))
  sends_there at body next sending none there (inr (inl goes)) gets =
      let same : goes.0 ≡ was.sent = same_Some goes.0 was.sent (sym goes.1.0 ∙ was.waits) in
      let still : is_fetching (outstanding b.requester) ≡ true = ap (λ (l : requester_history.History). is_fetching (outstanding l)) (sym goes.5) ∙ gets in
      let asks : is_for_chunk was.sent.aim ≡ true = ap is_fetching (sym was.waits) ∙ still in
      let asker = sound.asker round round_is was.sent was.waits in
      let spells : body_of was.sent.content ≡ body = ap (λ (x : Sent). body_of x.content) (sym same) ∙ goes.3 in
      ap place_named (sym spells) ∙ same_place b.requester (body_of was.sent.content) round.body was.sent.aim asks asker.own asker.here ∙ ap (λ (o : Option Round). place_named (body_in o)) (sym round_is) ∙ there still
  sends_there at body next sending none there (inr (inr large)) gets = absurd (none-some large.0 (sym (none_begun body next sending none (inr (inr large))) ∙ large.2))

  pub asks_there : (at : Option ℕ) (g : Gathered) (d : Dialogue) → b.sending ≡ None → There at b → AsksBy b g d → There at d
  asks_there at (Whole route body) d none there (body_is, owner, inl c) =
      subst (There at) (sym c.4) (λ gets. ap (λ (o : Option Round). place_named (body_in o)) (sym c.1) ∙ there gets)
  asks_there at (Whole route body) d none there (body_is, owner, inr c) =
      subst (There at) (sym c.2.3) (λ gets. sends_there at body c.2.0 c.2.1 none there c.2.2 gets)
  asks_there at More d none there asks = subst (There at) (sym asks) there
  asks_there at (Dropped cause) d none there asks = absurd asks

-- ---- What is kept.

pub there_same : (at : Option ℕ) (d e : Dialogue) → Alike d e → There at d → There at e
there_same at d e a there gets =
    ap (λ (o : Option Round). place_named (body_in o)) (sym a.round) ∙ there (fetching_alike d.round d.requester e.requester d.sending e.sending a.askers ∙ gets)

-- What a walk to a large response is like.
pub record FetchedWalk (w : Configuration) (q : ReqSetup) (older : List (List ℕ)) (f : Fetching) (d : Dialogue) : Type 0 where
  pub whole : List ℕ
  pub stands : MayStand f whole
  pub fetches : d.fetching ≡ Some whole
  pub own : Walks w q older (dialogue_of f whole)
  pub alike : Alike (dialogue_of f whole) d
  pub sound : IsSound d
  pub unsent : d.sending ≡ None

pub fetched_walk : (w : Configuration) (q : ReqSetup) (older : List (List ℕ)) (f : Fetching) (d : Dialogue) → IsFetchingOf w q older f → Walks w q older d → FetchedWalk w q older f d
fetched_walk w q older f d own walk =
    let one = own.each d walk in
    let mine = own.all one.0 one.1 in
    let both = walks_alike w q older (dialogue_of f one.0) d mine walk in
    let back = walks_alike w q older d (dialogue_of f one.0) walk mine in record {
      whole = one.0;
      stands = one.1;
      fetches = one.2;
      own = mine;
      alike = both.alike;
      sound = both.other;
      unsent = none_sent d.round d.requester (dialogue_of f one.0).requester d.sending None back.alike.askers refl;
    }

module _ (w : Configuration) (q : ReqSetup) (older : List (List ℕ)) (packet : List ℕ) (p : PacketFields) (f : Fetching) (k : Kept) (parses : parsed packet ≡ Ok p) (is : is_request w.responder.eid q.eid p ≡ true) (own : IsFetchingOf w q older f) (asks : AsksKept f.kept (gathered_from w.responder.eid q.eid older p) k) where
  abbrev g : Gathered
  g = gathered_from w.responder.eid q.eid older p

  abbrev next : Fetching
  next = record f { kept = k }

  same_stand : (whole : List ℕ) → MayStand f whole → MayStand next whole
  same_stand whole stand = subst (StandsBy f whole) (sym (responder_stays f.kept g k asks)) stand

  back_stand : (whole : List ℕ) → MayStand next whole → MayStand f whole
  back_stand whole stand = subst (StandsBy f whole) (responder_stays f.kept g k asks) stand

  -- A walk with the packet leads to it with each of them.
  record Gone (whole : List ℕ) : Type 0 where
    gone : Walks w q (packet ∷ older) (dialogue_of next whole)
    kept : kept_of (restored k) ≡ k
    there : GoesThere next

  led : (whole : List ℕ) (stand : MayStand f whole) → steps.Led w q older (dialogue_of f whole) (own.all whole stand) refl g k
  led whole stand = steps.asked w q older (dialogue_of f whole) (own.all whole stand) refl g k (subst (λ (x : Kept). AsksKept x g k) (sym own.kept) asks)

  gone_with : (whole : List ℕ) → MayStand f whole → Gone whole
  gone_with whole stand =
      let l = led whole stand in
      let d : Dialogue = dialogue_of f whole in
      let both = walks_alike w q older d l.before (own.all whole stand) l.walks in
      let walk : Walks w q (packet ∷ older) l.after = goes_asked w q older packet p parses is l.before l.after l.walks l.asks in
      let bare = bare_walks w q (packet ∷ older) l.after walk l.unsent in
      let to : bare_of l.after ≡ dialogue_of next whole =
      ap (λ (x : Kept). record (restored x) { fetching = l.after.fetching }) (sym l.kept) ∙ ap (λ (o : Option (List ℕ)). record (restored k) { fetching = o }) l.fetched in
      let same : kept_of (restored k) ≡ k = ap (λ (x : Kept). kept_of (restored x)) l.kept ∙ bare.1 ∙ sym l.kept in
      let fetches : l.before.fetching ≡ Some whole = sym (asks_fetching l.before g l.after l.asks) ∙ l.fetched in
      let unsent_before : l.before.sending ≡ None = none_sent l.before.round l.before.requester d.requester l.before.sending None (walks_alike w q older l.before d l.walks (own.all whole stand)).alike.askers refl in
      let at_before : There f.at l.before = there_same f.at d l.before both.alike own.there in
      let at_after : There f.at l.after = asks_there l.before both.other whole fetches f.at g l.after unsent_before at_before l.asks in
      let now : Walks w q (packet ∷ older) (dialogue_of next whole) = subst (Walks w q (packet ∷ older)) to bare.0 in record {
        gone = now;
        kept = same;
        there = there_same f.at l.after (dialogue_of next whole) (walks_alike w q (packet ∷ older) l.after (dialogue_of next whole) walk now).alike at_after;
      }

  each_with : (d : Dialogue) → Walks w q (packet ∷ older) d → (whole : List ℕ) × MayStand next whole × (d.fetching ≡ Some whole)
  each_with d over =
      let from = came_asked w q older packet p parses is d over in
      let one = own.each from.0 from.1 in
      (one.0, same_stand one.0 one.1, asks_fetching from.0 g d from.2 ∙ one.2)

  asked_keeps : IsFetchingOf w q (packet ∷ older) next
  asked_keeps =
      let one = gone_with own.stands.0 own.stands.1 in record {
        kept = one.kept;
        there = one.there;
        stands = (own.stands.0, same_stand own.stands.0 own.stands.1);
        all = λ whole stand. (gone_with whole (back_stand whole stand)).gone;
        each = each_with;
      }

pub fetching_asks : FetchingAsks
fetching_asks w q older packet p f after parses is own c =
    subst (IsFetchingOf w q (packet ∷ older)) (sym c.2) (asked_keeps w q older packet p f c.0 parses is own c.1)

pub fetching_is_asked : FetchingIsAsked
fetching_is_asked w q older packet p f d parses is own over =
    let g : Gathered = gathered_from w.responder.eid q.eid older p in
    let from = came_asked w q older packet p parses is d over in
    let x = fetched_walk w q older f from.0 own from.1 in
    let none : d.sending ≡ None = unsent from.0 x.sound x.whole x.fetches g d x.unsent from.2 in
    let asks = asks_kept w q older from.0 (dialogue_of f x.whole) from.1 x.own refl g d none from.2 in
    (record f { kept = asks.0 }, (asks.0, subst (λ (k : Kept). AsksKept k g asks.0) own.kept asks.1, refl))

pub fetching_stays : FetchingStays
fetching_stays w q older packet p f parses not nor own = record {
  kept = own.kept;
  there = own.there;
  stands = own.stands;
  all = λ whole stand. goes_past w q older packet p parses not nor (dialogue_of f whole) (dialogue_of f whole) (own.all whole stand) refl;
  each = λ d over. own.each d (came_past w q older packet p parses not nor d over);
}
