-- The last chunk of a large response that is held: its chunks may be asked for again, and then the connection stands
-- for what is after them.
use Rattle.std.proofs.Common.{◌≡◌, ◌≢◌, ◌≤◌, ◌<◌, ◌+◌, ◌==◌, ◌++◌, ◌∙◌, ℕ, zero, suc, List, [], ◌∷◌, refl, sym, ap, subst, drop, length, arith, Bool, true, false, Option, Some, None, cond, eqb-true, is_some, inl, inr}
use Rattle.std.specs.Prelude.{MatchBool, nat_lt, slice_index}
use Rattle.std.proofs.lemmas.Bool.Decides.{nat_tests}
use Rattle.check_responder.proofs.ClearAnswered.{get_told}
use Rattle.check_responder.proofs.ClearJudged.{adds_at}
use Rattle.check_responder.specs.AnswerKeys as answer_keys
use Rattle.check_responder.specs.AnswerKeys.{IsEndedKey, IsLastKey, last_key}
use Rattle.check_responder.specs.declared.answer_keys.AnswerKeys.{AnswerKeys}
use Rattle.check_ends.specs.declared.party.Party.{Party}
use Rattle.check_laws.proofs.OneWalk.{walks_alike}
use Rattle.check_laws.specs.RepliesShown.{responder_for}
use Rattle.chunking.specs.Cutting.{chunk_count, nth_chunk}
use Rattle.responder_core.specs.Connected as connected
use Rattle.responder_core.specs.LateFetch.{with_ended}
use Rattle.responder_core.specs.declared.connected.Connection.{Connection}
use Rattle.check_fetched_laws.proofs.ClearStands.{stands_alike}
use Rattle.check_fetched_laws.proofs.ClearViews.{keys_stand_on}
use Rattle.check_fetched_laws.proofs.LargeWalks.{walks_large}
use Rattle.check_fetched_laws.proofs.ReadyGets.{IsReady, LargeStand, common_at, common_given}
use Rattle.check_fetched_laws.proofs.TurnsBoth.{Settles}
use Rattle.check_fetched_laws.specs.ClearChunks.{clear_with, get_entry}
use Rattle.check_fetched_laws.specs.ClearSessions.{AreClear, IsLeftBy, IsWithoutHandshake}
use Rattle.check_fetched_laws.specs.LastShown.{IsShownEntry, drops_with}
use Rattle.check_fetched_laws.specs.StandsAlike.{AreAlike}
use Rattle.check_fetched_ends.proofs.FrontEnded.{key_gets, key_late, sessions_late, stands_late}
use Rattle.check_fetched_ends.proofs.FrontHeld.{common_held, given_held, handle_held, large_held, settles_held, unseen_held}
use Rattle.check_fetched_ends.proofs.FrontLed.{given_late, given_new}
use Rattle.check_fetched_ends.proofs.HeldCut.{may_stand}
use Rattle.check_fetched_ends.proofs.HeldGave.{get, response}
use Rattle.check_fetched_ends.proofs.HeldRounds.{IsAsked, handle_is, response_is, settles, transfer_is}
use Rattle.check_fetched_ends.proofs.LastAlike.{behind_list, get_turn, gets_list, given_alike}
use Rattle.check_fetched_laws.proofs.LastBefore.{all_like, left_like}
use Rattle.check_fetched_ends.proofs.LastInClear as ending
use Rattle.check_fetched_ends.proofs.LastReady.{can_be_given, large_code, not_get, ready_moved, transfer_on, turns_are}
use Rattle.check_fetched_ends.proofs.LastWhole.{adds_anew}
use Rattle.check_late_laws.proofs.Late.WalksUndrawn.{AreUndrawn, walks_undrawn}
use Rattle.check_fetched_ends.specs.GetsHeld.{AreGiven, GiveChunks}
use Rattle.check_fetched_ends.specs.Held.{HasGets, IsHeldIn, IsShownChunk, StandsBefore, filled_with, repeats_held}
use Rattle.check_fetched_ends.specs.LastHeld.{CanBeGiven, IsLastOf, all_given, count_at, gets_behind, left_by, transfer_at}
use Rattle.check_fetched_ends.specs.LastMarked.{IsUnmarked, with_ended_if}
use Rattle.check_fetched_ends.specs.declared.clear_fetch.held.Held.{Held}
use Rattle.check_fetched_ends.specs.declared.clear_fetch.shown.Shown.TheVariants as shown
use Rattle.check_late_laws.specs.Fetching.{Fetching, IsFetchingOf, MayStand, dialogue_of, number_of}
use Rattle.check_late_laws.specs.declared.late_fetch.marks.Marks.{Marks}
use Rattle.negotiate.specs.declared.shared.Common.{Common}
use Rattle.requester_machine.specs.Setup.{ReqSetup}
use Rattle.responder_machine.specs.Handling.{turn_of}
use Rattle.responder_machine.specs.History.{Entry, History, clear_turns, ended_of}
use Rattle.responder_machine.specs.History.Entry.{Clear, Sealed, Queued, Ticked, Dropped}
use Rattle.responder_machine.specs.LargeMessages.{handle_of}
use Rattle.responder_machine.specs.May.{with_dropped}
use Rattle.responder_machine.specs.Place.{clear_place, place_terms}
use Rattle.responder_machine.specs.Refusal.{code_of}
use Rattle.responder_machine.specs.Responder.Outcome.{Adds}
use Rattle.responder_machine.specs.Session.{Events, session_of}
use Rattle.responder_session.specs.declared.answer_key.AnswerKey.{AnswerKey}
use Rattle.responder_machine.specs.Setup.{RspSetup}
use Rattle.responder_machine.specs.Turn.{Turn, handle_in, is_taken, takes}
use Rattle.spdm_grammar.specs.Message.RequestMessage.{GetVersion}
use Rattle.spdm_grammar.specs.Message.ResponseMessage.{ChunkResponse}
use Rattle.spdm_grammar.specs.Requests.{canonical_request}
use Rattle.spdm_grammar.specs.Responses.{canonical_response}
use Rattle.spdm_grammar.specs.declared.names.TheConstants.{MAX_MESSAGE_SIZE}
use Rattle.spdm_grammar.specs.declared.names.request_code.TheConstants.{CHUNK_GET, PSK_EXCHANGE}
use Rattle.spdm_machine.specs.Bodies.{clear_body}
use Rattle.capture_machine.proofs.DropsTell.{turns_stay}
use Rattle.capture_machine.proofs.FetchedSessions.{takes_with}
use Rattle.capture_machine.proofs.PlainTells.{led_clear}
use Rattle.capture_machine.proofs.UnseenStands.{UnseenStand}
use Rattle.capture_machine.specs.LargeAnswers.{dropped_before_large, handle_shown, is_large, seen, seen_turn, turn_with, unseen, with_large}
use Rattle.capture_machine.specs.Rounds.{Dialogue, Round, no_draw}
use Rattle.capture_machine.specs.SessionTable.{Row}
use Rattle.world_machine.specs.Setup.{Configuration}

-- The keys of answers follow drops and messages in the clear.
dropped_keys : (seen_keys : AnswerKeys) (r : RspSetup) (ids : List ℕ) (h : History) → answer_keys.StandFor seen_keys r h → answer_keys.StandFor seen_keys r (with_dropped h ids)
dropped_keys seen_keys r [] h stands = stands
dropped_keys seen_keys r (id ∷ ids) h stands = dropped_keys seen_keys r ids (Dropped id ∷ h) (keys_stand_on seen_keys r (Dropped id ∷ []) h (tt, tt) stands)

dropped_ended : (r : RspSetup) (key : Option AnswerKey) (ids : List ℕ) (h : History) → IsEndedKey r h key → IsEndedKey r (with_dropped h ids) key
dropped_ended r key [] h stands = stands
dropped_ended r key (id ∷ ids) h stands = dropped_ended r key ids (Dropped id ∷ h) stands

left_ended : (r : RspSetup) (key : Option AnswerKey) (e : Entry) (before left : History) → IsLeftBy e before left → IsEndedKey r left key → IsEndedKey r before key
left_ended r key (Clear tag t d) before left is stands = by_code (takes PSK_EXCHANGE t) is
  where
    by_code : (b : Bool) → MatchBool b (IsWithoutHandshake before left) (left ≡ before) → IsEndedKey r before key
    by_code true (inl none) = subst (λ (l : History). IsEndedKey r l key) none.1 stands
    by_code true (inr one) = subst (λ (l : History). IsEndedKey r l key) one.2 stands
    by_code false same = subst (λ (l : History). IsEndedKey r l key) same stands
left_ended r key (Sealed tag m t reply d) before left is stands = absurd is
left_ended r key (Queued bytes) before left is stands = absurd is
left_ended r key (Ticked seconds) before left is stands = absurd is
left_ended r key (Dropped id) before left is stands = absurd is

list_clear : (tag transfer handle : ℕ) (whole : List ℕ) (n : ℕ) → AreClear (gets_list tag transfer handle whole n)
list_clear tag transfer handle whole zero = tt
list_clear tag transfer handle whole (suc n) = (tt, list_clear tag transfer handle whole n)

none_more : (n c : ℕ) → (n + 1 == c) ≡ true → nat_lt (n + 1) c ≡ false
none_more n c last = grind (arith, nat_tests)

module _ (w : Configuration) (q : ReqSetup) (older : List (List ℕ)) (rows : List Row) (f : Fetching) (own : IsFetchingOf w q older f) (party : Party) (held : Held) (kept : IsHeldIn party held w q f rows) (round : Round) (is : f.kept.round ≡ Some round) (other : round.body ≢ clear_body (canonical_request GetVersion)) (anew : repeats_held held round.tag round.body ≡ false)
    (answer : List ℕ) (shows : IsShownChunk held round.body answer shown.Last) (byte : w.responder.beat < 256) where
  abbrev r : RspSetup
  r = responder_for w f.kept

  abbrev h : History
  h = f.kept.responder

  abbrev b : StandsBefore party.answerer party.keys held (responder_for w f.kept) f.kept.responder
  b = kept.before

  abbrev t : Turn
  t = b.turn

  abbrev pub asked : Entry
  asked = Clear held.tag kept.before.turn no_draw

  abbrev pub v : List ℕ
  v = filled_with held answer

  pub stand : MayStand f v
  stand = may_stand w q rows f party held kept (drop 1 answer) shows.fits

  abbrev g : IsAsked r f round v
  g = get w q older rows f own party held kept round is other anew v stand

  abbrev hd : ℕ
  hd = slice_index round.body 4

  abbrev ids : List ℕ
  ids = drops_with b.before (seen v asked)

  abbrev gl : History
  gl = left_by b.before b.left asked v

  abbrev X : History
  X = asked ∷ b.before

  -- It is the last chunk of them.
  pub is_chunk : answer ≡ clear_body (response w q older rows f own party held kept round is other anew v stand)
  is_chunk = sym shows.chunk ∙ ap clear_body (sym (response_is w q older rows f own party held kept round is other anew v stand))

  pub none_left : nat_lt (number_of f + 1) (chunk_count (place_terms (clear_with f.kept.responder v)).common.to_requester.transfer v) ≡ false
  none_left =
      ap (λ (n : ℕ). nat_lt (number_of f + 1) (chunk_count n v)) (transfer_is w q older rows f own party held kept round is other v)
      ∙ ap (λ (n : ℕ). nat_lt (n + 1) (chunk_count held.transfer v)) (sym kept.answer.number) ∙ none_more held.answer.number (chunk_count held.transfer v) shows.last

  -- ---- What stands of the walk.

  abbrev d : Dialogue
  d = dialogue_of f own.stands.0

  settles_here : Settles X
  settles_here = settles_held held.late held.tag t b.gets b.before h b.behind (settles w q older rows f own party held kept round is other)

  unseen_here : UnseenStand X
  unseen_here = unseen_held held.late held.tag t b.gets b.before h b.behind (walks_alike w q older d d (own.all own.stands.0 own.stands.1) (own.all own.stands.0 own.stands.1)).one.unseen

  large_here : LargeStand X
  large_here = large_held held.late held.tag t b.gets b.before h b.behind (walks_large w q older d (own.all own.stands.0 own.stands.1))

  abbrev undrawn : AreUndrawn h
  undrawn = walks_undrawn w q older d (own.all own.stands.0 own.stands.1)

  common_here : common_at (clear_turns X) ≡ common_at (clear_turns h)
  common_here = common_held held.late held.tag t b.gets b.before h b.behind b.are b.unseen (settles w q older rows f own party held kept round is other)

  chunks_here : (common_at (clear_turns X)).chunk ≡ true
  chunks_here = ap (λ (c : Common). c.chunk) (common_here ∙ sym (common_given v h (settles w q older rows f own party held kept round is other))) ∙ g.next.chunks

  turns_left : clear_turns gl ≡ clear_turns b.before
  turns_left = (all_like ids b.left b.before (left_like asked b.before b.left b.left_is)).turns ∙ turns_stay ids b.before

  transfer_there : (bytes : List ℕ) → transfer_at (asked ∷ gl) bytes ≡ held.transfer
  transfer_there bytes =
      ap (λ (l : List Turn). (common_at l).to_requester.transfer)
      (turns_are held.tag t b.unseen.0 b.before bytes gl ∙ ap (λ (l : List Turn). seen_turn bytes t ∷ l) turns_left ∙ sym (turns_are held.tag t b.unseen.0 b.before bytes b.before))
      ∙ ap (λ (c : Common). c.to_requester.transfer) (common_given bytes X settles_here ∙ common_here) ∙ kept.transfer

  -- ---- The handle.

  handles : handle_of (clear_with h v).turns ≡ handle_shown t
  handles = handle_held held.late held.tag t b.gets b.before h v b.behind b.are b.unseen

  handle_here : g.handle ≡ hd
  handle_here = sym (handle_is w q older rows f own party held kept round is other anew v stand)

  shown_here : handle_shown t ≡ hd
  shown_here = sym handles ∙ g.next.same ∙ handle_here

  -- ---- It is no CHUNK_GET.

  taken : is_taken t ≡ true
  taken = (unseen_here.0.1 b.unseen.0).taken

  code_here : (code_of t.message == CHUNK_GET) ≡ false
  code_here =
      let led = led_clear r (with_dropped b.before b.led.0) held.tag (clear_body t.message) (Adds b.led.1) refl b.led.2 in
      let there : History = with_dropped b.before b.led.0 in
      let turn : Turn = turn_of r (clear_place there) t.message led.free in
      let fresh = adds_anew r there held.tag t.message led.free b.led.1 led.leads in
      let entry : Clear held.tag turn no_draw ≡ b.led.1 = same_entry turn b.led.1 (sym (adds_at r held.tag t.message t.reply there led.free fresh) ∙ led.leads) in
      let erased : Clear held.tag (turn_with [] None turn) no_draw ≡ asked = ap unseen entry ∙ b.led.4 in
      let turns : turn_with [] None turn ≡ t = cc in
      let big : is_some (handle_in turn.effect) ≡ true = ap is_large entry ∙ b.led.3 in
      let quiet : takes CHUNK_GET turn ≡ false = sym (takes_with [] None CHUNK_GET turn) ∙ ap (takes CHUNK_GET) turns ∙ (unseen_here.0.1 b.unseen.0).other in
      let is_it : is_taken turn ≡ true = ap is_taken turns ∙ taken in
      ap (λ (x : Turn). code_of x.message == CHUNK_GET) (sym turns) ∙ large_code turn big is_it (get_told r (clear_place there) t.message led.free) quiet
    where
      same_entry : (turn : Turn) (e : Entry) → Adds (Clear held.tag turn no_draw) ≡ Adds e → Clear held.tag turn no_draw ≡ e
      same_entry turn e same = cc

  -- ---- All chunks may be asked for again.

  give : (bytes : List ℕ) → length bytes ≤ MAX_MESSAGE_SIZE → CanBeGiven r (asked ∷ gl) bytes round.tag hd
  give bytes few =
      can_be_given r g.next.room (asked ∷ gl) bytes round.tag hd
      (subst (λ (n : ℕ). IsReady (asked ∷ gl) bytes n 0) shown_here (ready_moved held.tag t b.unseen.0 b.before settles_here unseen_here large_here chunks_here bytes gl few turns_left))
      (not_get held.tag t b.unseen.0 b.before settles_here unseen_here large_here chunks_here gl round.tag hd 0 code_here)

  pub count_here : chunk_count held.transfer v ≡ held.answer.number + 1
  count_here = sym (eqb-true (held.answer.number + 1) (chunk_count held.transfer v) shows.last)

  pub is_last : IsLastOf held (responder_for w f.kept) kept.before.before kept.before.left (Clear held.tag kept.before.turn no_draw) round.tag (slice_index round.body 4) v
  is_last = record { give = give; transfer = transfer_there; last = count_here }

  -- ---- What the connection stands for behind them.

  abbrev pub behind : History
  behind = ending.behind_last w q older rows f own party held kept round is other anew v stand byte

  abbrev chunk : List ℕ
  chunk = canonical_response (ChunkResponse (nth_chunk held.transfer hd v (number_of f)))

  chunk_is : response w q older rows f own party held kept round is other anew v stand ≡ chunk
  chunk_is =
      response_is w q older rows f own party held kept round is other anew v stand
      ∙ ap (λ (n : ℕ). canonical_response (ChunkResponse (nth_chunk held.transfer hd v n))) kept.answer.number

  given : AreGiven held.transfer hd v b.gets (number_of f)
  given =
      let all = kept.gave v stand in
      let here = subst (λ (n : ℕ). GiveChunks held.transfer n v h (number_of f)) (g.next.same ∙ handle_here) all in
      given_held held.transfer hd v held.late held.tag t b.gets b.before h (number_of f) b.behind b.are b.unseen here

  count_there : count_at (asked ∷ gl) v ≡ suc (number_of f)
  count_there = ap (λ (n : ℕ). chunk_count n v) (transfer_there v) ∙ (let one = count_here in let two = kept.answer.number in omega (arith, one, two))

  abbrev again : History
  again = gets_list round.tag held.transfer hd v (suc (number_of f)) ++ seen v asked ∷ gl

  -- The newest one gives the last chunk.
  abbrev newest_turn : Turn
  newest_turn = get_turn hd (number_of f) chunk

  abbrev newest : Entry
  newest = Clear round.tag newest_turn no_draw

  -- The history with the request in front, and the one after the last chunk.
  abbrev front : History
  front = newest ∷ b.gets ++ seen v asked ∷ with_dropped b.before ids

  abbrev there : History
  there = newest ∷ with_large None v (dropped_before_large None ids h)

  alike : AreAlike again front
  alike = given_alike held.tag t (seen_turn v t) b.before b.left b.left_is (takes_with v (Some (handle_shown t)) PSK_EXCHANGE t) ids (turns_left ∙ sym (turns_stay ids b.before)) round.tag held.transfer hd v b.gets (number_of f) b.are given

  behind_is : there ≡ behind
  behind_is =
      ap (λ (n : ℕ). get_entry round.tag n (number_of f) chunk ∷ with_large None v (dropped_before_large None ids h)) (sym handle_here)
      ∙ ap (λ (l : List ℕ). get_entry round.tag g.handle (number_of f) l ∷ with_large None v (dropped_before_large None ids h)) (sym chunk_is)

  again_is : all_given round.tag hd v (asked ∷ gl) ≡ again
  again_is =
      let list = behind_list round.tag hd held.transfer v (asked ∷ gl) (λ n. transfer_on round.tag hd v (asked ∷ gl) n ∙ transfer_there v) (suc (number_of f)) in
      let base : with_large None v (asked ∷ gl) ≡ seen v asked ∷ gl = ap (λ (x : Bool). cond x (seen v asked ∷ gl) (asked ∷ with_large None v gl)) b.unseen.0 in
      ap (λ (n : ℕ). with_large None v (gets_behind round.tag hd v (asked ∷ gl) n)) count_there ∙ list ∙ ap (λ (l : History). gets_list round.tag held.transfer hd v (suc (number_of f)) ++ l) base

  module _ (shown : IsShownEntry (responder_for w f.kept) kept.before.before (seen (filled_with held answer) (Clear held.tag kept.before.turn no_draw))) (unmarked : IsUnmarked held.late kept.before.before (seen (filled_with held answer) (Clear held.tag kept.before.turn no_draw))) where
    abbrev HasHere : Option Marks → Type 0
    HasHere late = HasGets late held.tag t b.gets b.before h

    stands_by : (late : Option Marks) → HasHere late → IsUnmarked late b.before (seen v asked) → (seen_as : Connection) → connected.StandsFor seen_as r front → connected.StandsFor (with_ended_if late (ended_of b.left) seen_as) r there
    stands_by None has none seen_as stands = subst (λ (l : History). connected.StandsFor seen_as r (newest ∷ l)) (sym (given_new held.tag t b.gets b.before h v ids has b.are b.unseen)) stands
    stands_by (Some marks) has none seen_as stands =
        subst (λ (l : History). connected.StandsFor (with_ended seen_as (ended_of b.left)) r (newest ∷ l)) (sym (given_late marks held.tag t b.gets b.before h v ids has b.are))
        (stands_late r byte marks held.tag t b.gets b.before h has undrawn b.are b.unseen v shown none round.tag newest_turn refl refl b.left b.left_is seen_as stands)

    sessions_by : (late : Option Marks) → HasHere late → IsUnmarked late b.before (seen v asked) → (id : ℕ) → session_of id front ≡ session_of id there
    sessions_by None has none id = ap (λ (l : History). session_of id (newest ∷ l)) (sym (given_new held.tag t b.gets b.before h v ids has b.are b.unseen))
    sessions_by (Some marks) has none id =
        sessions_late r byte marks held.tag t b.gets b.before h has undrawn b.are b.unseen v shown none round.tag newest_turn refl refl id
        ∙ ap (λ (l : History). session_of id (newest ∷ l)) (sym (given_late marks held.tag t b.gets b.before h v ids has b.are))

    ended_by : (late : Option Marks) → HasHere late → IsUnmarked late b.before (seen v asked) → (key : Option AnswerKey) → IsEndedKey r b.before key → IsEndedKey r there key
    ended_by None has none key is =
        subst (λ (l : History). IsEndedKey r (newest ∷ l) key) (sym (given_new held.tag t b.gets b.before h v ids has b.are b.unseen))
        (key_gets r key b.gets (seen v asked ∷ with_dropped b.before ids) b.are (dropped_ended r key ids b.before is))
    ended_by (Some marks) has none key is =
        subst (λ (l : History). IsEndedKey r (newest ∷ l) key) (sym (given_late marks held.tag t b.gets b.before h v ids has b.are))
        (key_late r byte marks held.tag t b.gets b.before h has undrawn b.are b.unseen v shown none round.tag newest_turn refl refl key is)

    pub stands_behind : (seen_as : Connection) → connected.StandsFor seen_as (responder_for w f.kept) (all_given round.tag (slice_index round.body 4) v (Clear held.tag kept.before.turn no_draw ∷ left_by kept.before.before kept.before.left (Clear held.tag kept.before.turn no_draw) v))
        → connected.StandsFor (with_ended_if held.late (ended_of kept.before.left) seen_as) (responder_for w f.kept) behind
    stands_behind seen_as stands =
        subst (connected.StandsFor (with_ended_if held.late (ended_of b.left) seen_as) r) behind_is
        (stands_by held.late b.behind unmarked seen_as (stands_alike seen_as r again front alike (subst (connected.StandsFor seen_as r) again_is stands)))

    -- So do the keys of answers.
    pub keys_behind : (seen_keys : AnswerKeys) → answer_keys.StandFor seen_keys (responder_for w f.kept) kept.before.left → answer_keys.StandFor seen_keys (responder_for w f.kept) behind
    keys_behind seen_keys stands =
        let dropped = dropped_keys seen_keys r ids b.left stands in
        let request = keys_stand_on seen_keys r (seen v asked ∷ []) gl (tt, tt) dropped in
        let all = keys_stand_on seen_keys r (gets_list round.tag held.transfer hd v (suc (number_of f))) (seen v asked ∷ gl) (list_clear round.tag held.transfer hd v (suc (number_of f))) request in
        subst (answer_keys.StandFor seen_keys r) behind_is (record {
          last = λ id. subst (λ (s : Events). IsLastKey r s (last_key seen_keys id)) (alike.sessions id ∙ sessions_by held.late b.behind unmarked id) (all.last id);
          ended = ended_by held.late b.behind unmarked seen_keys.ended (left_ended r seen_keys.ended asked b.before b.left b.left_is stands.ended);
        })
