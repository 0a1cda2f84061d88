-- What a connection tells of the responder's history of each walk, at any place: its kept message, and of a record whether it is a
-- repeat, and whether its session is live.
use Rattle.std.proofs.Common.{◌≡◌, ◌==◌, ◌||◌, ◌∙◌, ℕ, List, refl, sym, ap, subst, Bool, true, false, Option, Some, None, inl, inr}
use Rattle.std.specs.Prelude.{slice_index}
use Rattle.std.proofs.lemmas.Option.{same_Some}
use Rattle.check_ends.specs.Conversation as conversations
use Rattle.check_ends.specs.declared.conversation.Conversation.{Conversation}
use Rattle.check_ends.specs.declared.party.Party.{Party}
use Rattle.check_laws.proofs.KeptAnswers.{kept_is_restored}
use Rattle.check_laws.proofs.OneWalk.{walks_alike}
use Rattle.check_laws.specs.Keeping.{Kept, restored}
use Rattle.check_laws.specs.KeptChanges.{is_kept_record}
use Rattle.check_laws.specs.RepliesShown.{responder_for}
use Rattle.check_laws.specs.Walks.{Walks}
use Rattle.responder_core.specs.Connected as connected
use Rattle.responder_core.specs.declared.connected.Connection.{Connection}
use Rattle.check_fetched_ends.proofs.Awaited.{IsAwaited, fetched_round}
use Rattle.check_late_laws.proofs.Late.SeenAlike.{last_alike, live_alike}
use Rattle.check_late_laws.proofs.Late.SeenSessions.{seen_alike}
use Rattle.check_laws.proofs.StepsOfWalks.{clear_type}
use Rattle.check_fetched_ends.specs.JudgedEnds.{StandsAs, StandsFor}
use Rattle.check_fetched_ends.specs.declared.fetch.Fetch.{Fetch}
use Rattle.check_fetched_ends.specs.declared.fetch.Fetch.TheVariants as fetch
use Rattle.check_fetched_ends.specs.declared.clear_fetch.held.Held.{Held}
use Rattle.check_fetched_ends.specs.declared.session_fetch.in_session.InSession.{InSession}
use Rattle.check_fetched_ends.specs.declared.judged_ends.JudgedEnds.{JudgedEnds}
use Rattle.check_late_laws.specs.Fetching as fetching
use Rattle.check_laws.specs.Large.Sending as sending
use Rattle.check_laws.specs.Large.Sending.{Sending}
use Rattle.check_laws.specs.declared.sending_large.large_request.LargeRequest.{LargeRequest}
use Rattle.check_late_laws.proofs.Late.WalksAnew.{kept_large}
use Rattle.requester_machine.specs.Setup.{ReqSetup}
use Rattle.responder_machine.specs.History as kept_messages
use Rattle.responder_machine.specs.History.{History, KeptRecord, ended_of, kept_of}
use Rattle.responder_machine.specs.Responder.{is_repeat, repeats}
use Rattle.responder_machine.specs.Session.{Events, id_in_record, is_live, last_of, session_of}
use Rattle.responder_machine.specs.Setup.{RspSetup}
use Rattle.capture_machine.proofs.FetchedSessions.{ended_fetched}
use Rattle.capture_machine.proofs.UnseenStands.{UnseenStand}
use Rattle.capture_machine.specs.LargeAnswers.{with_large}
use Rattle.capture_machine.specs.Rounds.{Dialogue, Round}
use Rattle.capture_machine.specs.SessionTable.{Row}
use Rattle.world_machine.specs.Setup.{Configuration}

-- It stands for a history that is the same in these.
pub record StandsLike (seen : Connection) (h : History) : Type 0 where
  pub responder : RspSetup
  pub history : History
  pub stands : connected.StandsFor seen responder history
  pub kept : kept_of history ≡ kept_of h
  pub records : (m : List ℕ) → is_kept_record history m ≡ is_kept_record h m
  pub live : (id : ℕ) → is_live (session_of id history) ≡ is_live (session_of id h)

stands_same : (seen : Connection) (r : RspSetup) (g h : History) → g ≡ h → connected.StandsFor seen r g → StandsLike seen h
stands_same seen r g h same stands = record {
  responder = r;
  history = h;
  stands = subst (connected.StandsFor seen r) same stands;
  kept = refl;
  records = λ m. refl;
  live = λ id. refl;
}

stands_large : (seen : Connection) (r : RspSetup) (n : ℕ) (w : List ℕ) (g h : History) → g ≡ h → UnseenStand h → connected.StandsFor seen r (with_large (Some n) w g) → StandsLike seen h
stands_large seen r n w g h same unseen stands = record {
  responder = r;
  history = with_large (Some n) w h;
  stands = subst (λ (l : History). connected.StandsFor seen r (with_large (Some n) w l)) same stands;
  kept = kept_large (Some n) w h;
  records = λ m.
      let s : Events = session_of (id_in_record m) (with_large (Some n) w h) in
      ap (λ (o : Option KeptRecord). repeats o m || repeats (last_of s) m) (ended_fetched (Some n) w h)
      ∙ ap (λ (o : Option KeptRecord). repeats (ended_of h) m || repeats o m) (last_alike s (session_of (id_in_record m) h) (seen_alike (id_in_record m) n w h unseen));
  live = λ id. live_alike (session_of id (with_large (Some n) w h)) (session_of id h) (seen_alike id n w h unseen);
}

module _ (w : Configuration) (q : ReqSetup) (older : List (List ℕ)) (d : Dialogue) (walk : Walks w q older d) where
  -- Each other walk has the same history.
  one_history : (e : Dialogue) → Walks w q older e → e.responder ≡ d.responder
  one_history e other = (walks_alike w q older e d other walk).alike.responder

  unseen_here : UnseenStand d.responder
  unseen_here = (walks_alike w q older d d walk walk).one.unseen

  -- While no large response is fetched, also while a large request is sent.
  rest_like : (party : Party) (large : Option LargeRequest) (rows : List Row) → conversations.StandsAs party large w q older rows → StandsLike party.answerer.connection d.responder
  rest_like party None rows there =
      let k : Kept = there.0 in
      stands_same party.answerer.connection (responder_for w k) k.responder d.responder (one_history (restored k) (kept_is_restored w q older k there.1).0) there.2.answerer
  rest_like party (Some large) rows there =
      let s : Sending = there.0 in
      let own = there.1.sending in
      let walk_of = (own.all own.begins.0 own.stands.0 own.begins.1 own.stands.1).0 in
      stands_same party.answerer.connection (responder_for w (conversations.meanwhile s)) s.responder d.responder (one_history (sending.dialogue_of s own.begins.0 own.stands.0) walk_of) there.1.kept.answerer

  -- But where one is fetched in the clear.
  like_by : (talk : Conversation) (o : Option Fetch) (rows : List Row) → StandsAs talk o w q older rows → ((held : Held) → o ≡ Some (fetch.InClear held) → ⊥) → StandsLike talk.party.answerer.connection d.responder
  like_by talk None rows there other = rest_like talk.party talk.large rows there
  like_by talk (Some (fetch.InClear held)) rows there other = absurd (other held refl)
  like_by talk (Some (fetch.InSession fetched)) rows there other =
      let f : fetching.Fetching = there.1.0 in
      let own = there.1.1 in
      let kept = there.1.2 in
      stands_large talk.party.answerer.connection (responder_for w f.kept) fetched.id kept.whole f.kept.responder d.responder
      (one_history (fetching.dialogue_of f own.stands.0) (own.all own.stands.0 own.stands.1)) unseen_here kept.judges

  pub stands_like : (seen : JudgedEnds) (rows : List Row) → StandsFor seen w q older rows → ((held : Held) → seen.fetched ≡ Some (fetch.InClear held) → ⊥) → StandsLike seen.talk.party.answerer.connection d.responder
  stands_like seen rows there other = like_by seen.talk seen.fetched rows there other

  -- There the newest message in the clear is kept beside it, and no record comes.
  pub newest_held : (talk : Conversation) (held : Held) (rows : List Row) → StandsAs talk (Some (fetch.InClear held)) w q older rows → held.newest ≡ kept_of d.responder
  newest_held talk held rows there =
      let f : fetching.Fetching = there.1.0 in
      let own = there.1.1 in
      there.1.2.before.newest ∙ ap kept_of (one_history (fetching.dialogue_of f own.stands.0) (own.all own.stands.0 own.stands.1))

  pub clear_held : (talk : Conversation) (held : Held) (rows : List Row) (round : Round) → StandsAs talk (Some (fetch.InClear held)) w q older rows → d.round ≡ Some round → (slice_index round.body 0 == 5) ≡ true
  clear_held talk held rows round there is =
      let f : fetching.Fetching = there.1.0 in
      let own = there.1.1 in
      let it = fetched_round w q older f own in
      let rounds : f.kept.round ≡ d.round = (walks_alike w q older (fetching.dialogue_of f own.stands.0) d (own.all own.stands.0 own.stands.1) walk).alike.round in
      let same : it.0 ≡ round = same_Some it.0 round (sym it.1 ∙ rounds ∙ is) in
      subst (λ (x : Round). (slice_index x.body 0 == 5) ≡ true) same (by_awaited it.0 it.2 there.1.2.at)
    where
      by_awaited : (x : Round) → IsAwaited there.1.0 x → there.1.0.at ≡ None → (slice_index x.body 0 == 5) ≡ true
      by_awaited x (inl version) at = ap (λ (l : List ℕ). slice_index l 0 == 5) version.1
      by_awaited x (inr chunk) at = clear_type x.body (chunk.1 ∙ at)

  -- So it is told of a message in the clear whether it is a repeat, while a large response is fetched.
  repeats_by : (talk : Conversation) (rows : List Row) (tag : ℕ) (m : List ℕ) (result : Bool) (large : Fetch) → StandsAs talk (Some large) w q older rows → ((held : Held) → large ≡ fetch.InClear held → result ≡ is_repeat held.newest tag m)
      → ((fetched : InSession) → large ≡ fetch.InSession fetched → (r : RspSetup) (h : History) → connected.StandsFor talk.party.answerer.connection r h → result ≡ is_repeat (kept_of h) tag m) → result ≡ is_repeat (kept_of d.responder) tag m
  repeats_by talk rows tag m result (fetch.InClear held) there clear session = clear held refl ∙ ap (λ (k : Option kept_messages.Kept). is_repeat k tag m) (newest_held talk held rows there)
  repeats_by talk rows tag m result (fetch.InSession fetched) there clear session =
      let like = like_by talk (Some (fetch.InSession fetched)) rows there (λ held no. absurd (let x = no in cc)) in
      session fetched refl like.responder like.history like.stands ∙ ap (λ (k : Option kept_messages.Kept). is_repeat k tag m) like.kept

  pub fetched_repeats : (seen : JudgedEnds) (rows : List Row) (tag : ℕ) (m : List ℕ) (result : Bool) (large : Fetch) → seen.fetched ≡ Some large → StandsFor seen w q older rows → ((held : Held) → large ≡ fetch.InClear held → result ≡ is_repeat held.newest tag m)
      → ((fetched : InSession) → large ≡ fetch.InSession fetched → (r : RspSetup) (h : History) → connected.StandsFor seen.talk.party.answerer.connection r h → result ≡ is_repeat (kept_of h) tag m) → result ≡ is_repeat (kept_of d.responder) tag m
  fetched_repeats seen rows tag m result large is there clear session = repeats_by seen.talk rows tag m result large (subst (λ (o : Option Fetch). StandsAs seen.talk o w q older rows) is there) clear session

held_in : Held → Fetch → Held
held_in other (fetch.InClear held) = held
held_in other (fetch.InSession fetched) = other

pub same_held : (one other : Held) → fetch.InClear one ≡ fetch.InClear other → one ≡ other
unfolding held_in
same_held one other same = ap (held_in one) same
