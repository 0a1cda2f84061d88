-- A fetch begins in the clear by LargeResponse: what is held stands for what is kept.
use Rattle.std.proofs.Common.{◌≡◌, ◌≤◌, ◌<◌, ◌+◌, ◌==◌, ◌&&◌, ◌||◌, ◌∙◌, ℕ, List, [], ◌∷◌, refl, sym, ap, subst, drop, length, arith, Bool, true, false, Option, Some, None, is_some, cond, inl, inr}
use Rattle.std.specs.Prelude.{MatchBool, is_none, nat_lt, not, slice_index}
use Rattle.std.proofs.lemmas.Bool.{false≢true}
use Rattle.mctp_framing.specs.Cutting.{RouteFields}
use Rattle.negotiate.specs.declared.shared.Common.{Common}
use Rattle.check_ends.proofs.InTurn.{AnswersInTurn}
use Rattle.check_responder.specs.AnswerKeys as answer_keys
use Rattle.check_requester.specs.JudgedRequester.{Carries, IsAsker}
use Rattle.check_responder.specs.declared.answer_keys.AnswerKeys.{AnswerKeys}
use Rattle.check_ends.specs.declared.party.Party.{Party}
use Rattle.check_laws.specs.ChangeLaws.{AnswerAccepts, LargeAnswerChanges}
use Rattle.check_laws.specs.Changes.{IsChange, IsStep, views_in}
use Rattle.check_laws.specs.Keeping.{Kept, restored}
use Rattle.check_laws.specs.KeptChanges.{accepted_from}
use Rattle.check_laws.specs.LargeShown.{IsShownLarge}
use Rattle.check_laws.specs.RepliesShown.{responder_for}
use Rattle.check_laws.specs.Rows as rows_of
use Rattle.check_laws.specs.declared.change.Change.{Change}
use Rattle.responder_core.specs.Connected as connected
use Rattle.check_fetched_laws.proofs.ClearViews.{keys_stand_on}
use Rattle.check_fetched_laws.specs.ClearChunks.{clear_with}
use Rattle.check_fetched_laws.specs.ClearSessions.{IsWithoutHandshake}
use Rattle.check_fetched_ends.proofs.ChangesOn.{accepted_on, asked_on}
use Rattle.check_fetched_ends.proofs.GetsGiven.{none_given}
use Rattle.check_fetched_ends.proofs.HeldBefore.{Left, here, keys_begun, left_turn, stands_begun, views_begun}
use Rattle.check_fetched_ends.proofs.HeldBegins.{IsBegunHere, asked_is, at_is, behind, kept_here, next, none_came, taken}
use Rattle.check_fetched_ends.proofs.HeldLengths.{lengths_are}
use Rattle.check_fetched_laws.proofs.HeldSettled.{common_stays}
use Rattle.check_late_laws.proofs.Late.QuietSteps.{quiet_step}
use Rattle.check_fetched_ends.specs.Fetched.{rows_upon}
use Rattle.check_fetched_ends.specs.AskedInClear.{IsExchangeBy, IsLeftIf, chunk_at}
use Rattle.check_fetched_ends.specs.GetsHeld.{GiveAll}
use Rattle.check_fetched_ends.specs.Held.{IsHeldIn}
use Rattle.check_fetched_ends.specs.HeldFrom.{IsHeldFrom}
use Rattle.check_fetched_ends.specs.InSession.{AreLengths}
use Rattle.check_fetched_ends.specs.declared.clear_fetch.held.Held.{Held}
use Rattle.check_late_laws.specs.Fetching.{Fetching, number_of}
use Rattle.check_late_laws.specs.FetchingLaws.{place_in}
use Rattle.requester_machine.specs.May.{IsSetUp}
use Rattle.requester_machine.specs.Setup.{ReqSetup}
use Rattle.responder_machine.specs.BoundLaws.{messages_of}
use Rattle.responder_machine.specs.History as responder_history
use Rattle.responder_machine.specs.History.{History, clear_turns, kept_of}
use Rattle.responder_machine.specs.History.Entry.{Clear, Dropped}
use Rattle.responder_machine.specs.LargeMessages.{handle_of}
use Rattle.responder_machine.specs.Place.{Place, clear_place, inside, place_terms}
use Rattle.responder_machine.specs.Setup.{RspSetup}
use Rattle.responder_machine.specs.SizeLaws.{HasSizes}
use Rattle.responder_machine.specs.Turn.{Turn, takes}
use Rattle.spdm_grammar.specs.Message.{ChunkMessage}
use Rattle.spdm_grammar.specs.declared.messages.error_code.ErrorCode.{ErrorCode}
use Rattle.spdm_grammar.specs.declared.names.TheConstants.{MAX_MESSAGE_SIZE}
use Rattle.spdm_grammar.specs.declared.names.request_code.TheConstants.{GET_CAPABILITIES, PSK_EXCHANGE}
use Rattle.spdm_grammar.specs.declared.names.response_code.TheConstants.{CHUNK_SEND_ACK}
use Rattle.capture_machine.proofs.FetchedSessions.{takes_with}
use Rattle.capture_machine.specs.LargeAnswers.{IsLargeAnswer, turn_with}
use Rattle.capture_machine.specs.Rounds.{no_draw}
use Rattle.capture_machine.specs.SessionTable.{Row, number_from}
use Rattle.world_machine.specs.Setup.{Configuration}

none_of : (o : Option ErrorCode) → is_none o ≡ true → o ≡ None
none_of None is = refl
none_of (Some e) is = absurd (false≢true is)

-- An answer that is sent in chunks goes so only where both ends can.
chunk_by : (known more chunk less : Bool) → (known && less) ≡ true → (known && (more || (not chunk && less))) ≡ false → chunk ≡ true
chunk_by true more true less goes long = refl
chunk_by true true false less goes long = absurd (false≢true (sym long))
chunk_by true false false true goes long = absurd (false≢true (sym long))
chunk_by true false false false goes long = absurd (false≢true goes)
chunk_by false more chunk less goes long = absurd (false≢true goes)

keys_by : (b : Bool) (keys : AnswerKeys) (r : RspSetup) (before left : History) → MatchBool b (IsWithoutHandshake before left) (left ≡ before) → answer_keys.StandFor keys r before → answer_keys.StandFor keys r left
keys_by true keys r before left (inl none) stand = subst (answer_keys.StandFor keys r) (sym none.1) stand
keys_by true keys r before left (inr one) stand = subst (answer_keys.StandFor keys r) (sym one.2) (keys_stand_on keys r (Dropped one.0 ∷ []) before (tt, tt) stand)
keys_by false keys r before left same stand = subst (answer_keys.StandFor keys r) (sym same) stand

-- As many messages are left.
pub left_few : (b : Bool) (before left : History) → IsLeftIf b before left → messages_of left ≡ messages_of before
left_few true before left (inl none) = ap messages_of none.1
left_few true before left (inr one) = ap messages_of one.2
left_few false before left same = ap messages_of same

module _ (w : Configuration) (q : ReqSetup) (older : List (List ℕ)) (k : Kept) (route : RouteFields) (answer : List ℕ) (byte : w.responder.beat < 256) (limits : IsSetUp k.setup) (carries : Carries w q older k) (turn : AnswersInTurn k route answer)
    (type : (slice_index turn.round.body 0 == 5) ≡ true) (large : IsShownLarge (responder_for w k) k.responder turn.round.tag turn.round.body answer) where
  abbrev r : RspSetup
  r = responder_for w k

  abbrev h : History
  h = k.responder

  abbrev it : IsBegunHere w q older k route answer byte limits carries turn type large
  it = here w q older k route answer byte limits carries turn type large

  abbrev f : Fetching
  f = next w q older k route answer byte limits carries turn type large

  abbrev now : History
  now = behind w q older k route answer byte limits carries turn type large

  -- Whether the request arrived in chunks.
  abbrev carried : Bool
  carried = slice_index (drop 1 answer) 1 == CHUNK_SEND_ACK

  carried_is : carried ≡ is_some it.turned.chunk
  carried_is = ap (λ (l : List ℕ). slice_index l 1 == CHUNK_SEND_ACK) (sym it.reply) ∙ it.facts.shows

  -- Both messages are short.
  pub few_asked : (responder_for w k).transfer ≤ (responder_for w k).max → (responder_for w k).max ≤ MAX_MESSAGE_SIZE → length (drop 1 turn.round.body) ≤ MAX_MESSAGE_SIZE
  few_asked ordered most = it.short ordered most (none_of it.turned.refused (taken w q older k route answer byte limits carries turn type large))

  pub few_given : length (drop 1 answer) ≤ MAX_MESSAGE_SIZE
  few_given = subst (λ (l : List ℕ). length l ≤ MAX_MESSAGE_SIZE) it.reply it.facts.small

  newest_is : kept_of now ≡ Some (record { tag = turn.round.tag; message = drop 1 turn.round.body; reply = drop 1 answer })
  newest_is =
      let by_message : List ℕ → Option responder_history.Kept = λ l. Some (record { tag = turn.round.tag; message = l; reply = it.turned.reply }) in
      let by_reply : List ℕ → Option responder_history.Kept = λ l. Some (record { tag = turn.round.tag; message = drop 1 turn.round.body; reply = l }) in
      kept_here w q older k route answer byte limits carries turn type large ∙ ap by_message (asked_is w q older k route answer byte limits carries turn type large) ∙ ap by_reply it.reply

  -- ---- Lengths.

  abbrev placed : Bool → Place
  placed by_chunks = cond by_chunks (inside (clear_place h)) (clear_place h)

  place_is : f.place ≡ placed carried
  place_is = ap (place_in h) it.added ∙ ap placed (sym carried_is)

  fits : IsLargeAnswer (placed carried) it.whole
  fits = subst (λ (b : Bool). IsLargeAnswer (placed b) it.whole) (sym carried_is) it.fits

  abbrev common : Common
  common = (place_terms (clear_place k.responder)).common

  lengths_by : (b : Bool) (least most : ℕ) → IsLargeAnswer (placed b) it.whole → least + cond b 6 0 ≡ common.to_requester.transfer + 1 → most ≤ common.to_requester.max → most ≤ MAX_MESSAGE_SIZE
      → ((n : ℕ) → n ≤ common.to_requester.max → n ≤ MAX_MESSAGE_SIZE → n ≤ most) → AreLengths (placed b) least most
  lengths_by true least most some low short few full = lengths_are (inside (clear_place h)) least most it.sized (chunk_by _ _ _ _ some.0 some.1) low short few full
  lengths_by false least most some low short few full = lengths_are (clear_place h) least most it.sized (chunk_by _ _ _ _ some.0 some.1) low short few full

  abbrev pub From : Held → Type 0
  From held = IsHeldFrom (place_terms (clear_place k.responder)).common turn.round.tag (cond (slice_index (drop 1 answer) 1 == CHUNK_SEND_ACK) 6 0) (drop 1 turn.round.body) (drop 1 answer) held

  lengths : (held : Held) → HasSizes r common → From held → AreLengths f.place held.least held.most
  lengths held sizes from =
      subst (λ (p : Place). AreLengths p held.least held.most) (sym place_is) (lengths_by carried held.least held.most fits (from.least sizes.least) from.short from.few from.full)

  transfer : (held : Held) → From held → (place_terms (clear_place f.kept.responder)).common.to_requester.transfer ≡ held.transfer
  transfer held from =
      let t : Turn = turn_with [] None it.turned in
      ap (λ (l : History). (place_terms (clear_place l)).common.to_requester.transfer) it.added
      ∙ ap (λ (c : Common). c.to_requester.transfer) (common_stays turn.round.tag t no_draw h it.unseen.1 (takes_with [] None GET_CAPABILITIES it.turned ∙ it.facts.settles)) ∙ from.transfer

  -- No chunk was given.
  gave_none : (transfer : ℕ) → GiveAll transfer f
  gave_none transfer u may =
      none_given transfer (handle_of (clear_with f.kept.responder u).turns) u f.kept.responder turn.round.tag (turn_with [] None it.turned) h (number_of f) it.added it.unseen.0
      (none_came w q older k route answer byte limits carries turn type large)

  -- ---- What is left of the sessions.

  abbrev pub Exchange : Bool → Type 0
  Exchange exchange = IsExchangeBy (responder_for w k) (clear_turns k.responder) (drop 1 turn.round.body) (chunk_at (clear_turns k.responder) (drop 1 turn.round.body)) exchange

  exchange_is : (exchange : Bool) → Exchange exchange → takes PSK_EXCHANGE (turn_with [] None it.turned) ≡ exchange
  exchange_is exchange is =
      takes_with [] None PSK_EXCHANGE it.turned ∙ it.facts.asked exchange (subst (λ (o : Option ChunkMessage). IsExchangeBy r (clear_turns h) (drop 1 turn.round.body) o exchange) (sym it.facts.chunk) is)

  pub left_here : (exchange : Bool) (left : History) → Exchange exchange → IsLeftIf exchange k.responder left → Left w q older k route answer byte limits carries turn type large left
  left_here exchange left is leaves = subst (λ (b : Bool). MatchBool b (IsWithoutHandshake h left) (left ≡ h)) (sym (exchange_is exchange is)) leaves

  -- ---- What the table is told.

  module _ (accepts : AnswerAccepts) (law : LargeAnswerChanges) where
    pub begun_change : (change : Change) (left : History) → Left w q older k route answer byte limits carries turn type large left → change.begun ≡ None → change.accepted ≡ accepted_from k turn.round.tag answer → change.answered ≡ None → change.asked ≡ None
        → change.views ≡ views_in left → IsChange change (restored k) (restored f.kept)
    begun_change change left left_is begun accepted answered asked views =
        let changes = law (restored k) (restored f.kept) (Clear turn.round.tag it.turned no_draw) it.added in record {
          begun = begun ∙ sym changes.0;
          accepted = accepted ∙ sym (accepted_on k now route.tag turn.round answer turn.answers.0 turn.answers.1 accepts);
          answered = answered ∙ sym changes.1;
          asked = asked ∙ sym (asked_on k now route.tag turn.round answer turn.answers.0 turn.answers.1);
          views = views ∙ sym (views_begun w q older k route answer byte limits carries turn type large left left_is);
        }

    pub begun_step : accepted_from k turn.round.tag answer ≡ None → IsStep (restored k) (restored f.kept)
    begun_step none =
        let changes = law (restored k) (restored f.kept) (Clear turn.round.tag it.turned no_draw) it.added in
        quiet_step (restored k) (restored f.kept) refl changes.0 (accepted_on k now route.tag turn.round answer turn.answers.0 turn.answers.1 accepts ∙ none)

  -- ---- What the calls leave stands for it.

  module _ (rows : List Row) (new : Party) (held : Held) (from : From held) (sizes : connected.HasSizesAt (responder_for w k) (clear_turns k.responder)) (left : History) (exchange : Bool) (is : Exchange exchange) (leaves : IsLeftIf exchange k.responder left) (stands : connected.StandsFor new.answerer.connection (responder_for w k) left)
      (asker : IsAsker new.asker q f.kept) (keys : answer_keys.StandFor new.keys (responder_for w k) k.responder) (number : new.number ≡ number_from 1 q.eid w.requesters) (places : rows_of.StandFor new.places (restored f.kept) (rows_upon k f.kept rows)) where
    pub held_begun : IsHeldIn new held w q f (rows_upon k f.kept rows)
    held_begun = record {
      beside = record { asker = asker; keys = keys_begun w q older k route answer byte limits carries turn type large new.keys keys; number = number; places = places };
      at = at_is w q older k route answer byte limits carries turn type large;
      before =
          stands_begun w q older k route answer byte limits carries turn type large new.answerer new.keys held left from.tag_is from.late (left_here exchange left is leaves) stands
          (keys_by exchange new.keys r h left leaves keys) (asked_is w q older k route answer byte limits carries turn type large ∙ sym from.request)
          (it.reply ∙ sym from.reply_is) (from.newest ∙ sym newest_is);
      answer = from.answer f (none_came w q older k route answer byte limits carries turn type large);
      lengths = lengths held (sizes it.sized) from;
      transfer = transfer held from;
      gave = gave_none held.transfer;
    }
