-- The last chunk of a large response that is held, which is refused, and why.
use Rattle.std.proofs.Common.{◌≡◌, ◌≢◌, ◌≤◌, ◌<◌, ◌+◌, ◌==◌, ◌&&◌, ◌||◌, ◌∙◌, ℕ, List, ◌∷◌, refl, sym, ap, subst, drop, take, length, arith, Bool, true, false, Option, Some, None, Err, cond, inl, inr}
use Rattle.std.specs.Prelude.{bytes_eq, nat_lt, not, slice_index}
use Rattle.std.proofs.lemmas.Bool.{false≢true}
use Rattle.std.proofs.lemmas.List.{take_all}
use Rattle.std.proofs.lemmas.Option.{none-some, same_Some}
use Rattle.std.proofs.lemmas.Slice.Eq.{bytes_eq-Decides}
use Rattle.mctp_framing.specs.Cutting.{RouteFields}
use Rattle.mctp_framing.specs.Gathering.Gathered.{Whole}
use Rattle.check_ends.proofs.InTurn.{AnswersInTurn}
use Rattle.check_requester.specs.HeardKept.{asks_upon}
use Rattle.check_ends.specs.declared.party.Party.{Party}
use Rattle.check_laws.specs.Judged.{why_of}
use Rattle.check_laws.specs.Keeping.{Kept, restored}
use Rattle.check_laws.specs.AnswersShown.{LeadsAt, values_shown_by}
use Rattle.check_laws.specs.LargeShown.{ends_large, last_shown}
use Rattle.check_laws.specs.RepliesShown.{responder_for}
use Rattle.check_laws.specs.declared.verdict.Seen.{Seen}
use Rattle.chunking.proofs.ChunkSteps as step
use Rattle.chunking.specs.Cutting.{chunk_count, chunk_end}
use Rattle.check_fetched_laws.proofs.ClearChunks.{next_is_given}
use Rattle.check_fetched_laws.proofs.LastApart.{code_is, code_settles, gets_settle, last_apart_is_shown}
use Rattle.check_fetched_laws.proofs.LastShown as last_law
use Rattle.check_fetched_laws.proofs.MeanwhileClear as meanwhile
use Rattle.check_fetched_laws.proofs.MeanwhileClear.{get_begins_none, get_completes, get_goes_on}
use Rattle.check_fetched_laws.proofs.NotApart.{replies_are_not_apart}
use Rattle.check_fetched_laws.specs.ClearApart.{IsLastApart, LeadsToOther}
use Rattle.check_fetched_laws.specs.ClearChunks.{clear_with, get_message, get_response}
use Rattle.check_fetched_laws.specs.LastShown.{IsShownEntry, drops_with}
use Rattle.check_fetched_laws.specs.WholeValues.{values_with_whole}
use Rattle.check_fetched_ends.proofs.AsksTold.{answers_tell_asking}
use Rattle.check_fetched_ends.proofs.FrontApart.{from_apart, to_apart}
use Rattle.check_fetched_ends.proofs.HeldCut.{can_be_cut}
use Rattle.check_fetched_ends.proofs.HeldGave as gave
use Rattle.check_fetched_ends.proofs.HeldNever.{clear_shape}
use Rattle.check_fetched_ends.proofs.HeldRounds.{IsAsked, asked, place, type}
use Rattle.check_fetched_ends.proofs.HeldWhy.{reason_is, why_left}
use Rattle.check_fetched_ends.proofs.LastInClear.{last_ends}
use Rattle.check_fetched_ends.proofs.LastRound as round_of
use Rattle.check_fetched_ends.proofs.LastWhole as whole_of
use Rattle.check_late_laws.proofs.Late.WalksUndrawn.{AreUndrawn, walks_undrawn}
use Rattle.check_fetched_ends.specs.Fetched.{IsFetchedWhy, IsRepliedTo}
use Rattle.check_fetched_ends.specs.Held.{HasGets, IsHeldIn, IsShownChunk, StandsBefore, filled_with, repeats_held}
use Rattle.check_fetched_ends.specs.LastHeld.{IsLedApart, hash_at}
use Rattle.check_fetched_ends.specs.LastMarked.{IsUnmarked}
use Rattle.check_fetched_ends.specs.declared.clear_fetch.held.Held.{Held}
use Rattle.check_fetched_ends.specs.declared.clear_fetch.shown.Shown.TheVariants as shown
use Rattle.check_late_laws.specs.Fetching.{Fetching, IsFetchingOf, MayStand, dialogue_of, number_of}
use Rattle.check_late_laws.specs.FetchingLaws.{AnswersFrom, EndsFetching, GoesFetching, TurnsFetching}
use Rattle.check_late_laws.specs.declared.late_fetch.marks.Marks.{Marks}
use Rattle.requester_machine.specs.May.{IsSetUp}
use Rattle.requester_machine.specs.Setup.{ReqSetup}
use Rattle.responder_machine.specs.History.{Entry, History, clear_turns, negotiation_of}
use Rattle.responder_machine.specs.History.Entry.{Clear}
use Rattle.responder_machine.specs.May.{with_dropped}
use Rattle.responder_machine.specs.Place.{place_terms}
use Rattle.responder_machine.specs.Responder.{Outcome, body_of}
use Rattle.responder_machine.specs.Responder.Outcome.{Adds}
use Rattle.responder_machine.specs.Setup.{RspSetup}
use Rattle.responder_machine.specs.Turn.{Turn}
use Rattle.spdm_grammar.specs.declared.told.why.Why as declared_why
use Rattle.spdm_grammar.specs.declared.told.why.Why.TheVariants as reasons
use Rattle.spdm_basis.proofs.Bools.{and_first, and_second}
use Rattle.spdm_grammar.specs.Message.RequestMessage.{GetVersion}
use Rattle.spdm_grammar.specs.Requests.{canonical_request}
use Rattle.spdm_grammar.specs.declared.names.request_code.TheConstants.{PSK_EXCHANGE}
use Rattle.spdm_grammar.specs.declared.names.response_code.TheConstants.{PSK_EXCHANGE_RSP}
use Rattle.spdm_machine.specs.Bodies.{clear_body}
use Rattle.spdm_machine.specs.Packets.{body_type}
use Rattle.spdm_machine.specs.Terms.{hash_len, terms_of}
use Rattle.transcript.specs.Transcripts.{Negotiation}
use Rattle.capture_machine.specs.CapturedAnswers.{Answers, AnswersLarge, AnswersPlainly, Completes, MayLeadTo}
use Rattle.capture_machine.specs.Difference.{AreRepliesApart, CompletesApart, GoesApart, Why, goes_why, is_apart, reply_why, verify_size}
use Rattle.capture_machine.specs.Difference.Why.{BadPacket, BadRecord, BadReply, BadRequest, BadVerify, UnknownEnd, WrongTurn}
use Rattle.capture_machine.specs.LargeAnswers.{gives_last, place_named, seen, with_large}
use Rattle.capture_machine.specs.Opening.{opens_answering}
use Rattle.capture_machine.specs.Rounds.{Dialogue, Round, no_draw}
use Rattle.capture_machine.specs.SessionTable.{Row}
use Rattle.world_machine.specs.Setup.{Configuration}

two_reasons : (b : Bool) → BadVerify ≡ cond b BadReply BadRecord → ⊥
two_reasons true is = absurd (cc)
two_reasons false is = absurd (cc)

-- Bytes are not apart from themselves.
self_apart : (size : ℕ) (one other : List ℕ) → one ≡ other → is_apart size one other ≡ true → ⊥
self_apart size one other same apart =
    let first = and_first (length one == length other && not (bytes_eq one other)) _ apart in
    let differ : not (bytes_eq one other) ≡ true = and_second (length one == length other) (not (bytes_eq one other)) first in
    false≢true (sym (ap not ((bytes_eq-Decides one other).1 same)) ∙ differ)

module _ (w : Configuration) (q : ReqSetup) (older : List (List ℕ)) (rows : List Row) (f : Fetching) (own : IsFetchingOf w q older f) (party : Party) (held : Held) (kept : IsHeldIn party held w q f rows) (route : RouteFields) (answer : List ℕ) (limits : IsSetUp f.kept.setup) (turn : AnswersInTurn f.kept route answer)
    (other : turn.round.body ≢ clear_body (canonical_request GetVersion)) (anew : repeats_held held turn.round.tag turn.round.body ≡ false) (shows : IsShownChunk held turn.round.body answer shown.Last) (byte : w.responder.beat < 256) where
  abbrev r : RspSetup
  r = responder_for w f.kept

  abbrev h : History
  h = f.kept.responder

  abbrev round : Round
  round = turn.round

  abbrev b : StandsBefore party.answerer party.keys held (responder_for w f.kept) f.kept.responder
  b = kept.before

  abbrev t : Turn
  t = kept.before.turn

  abbrev e : Entry
  e = Clear held.tag t no_draw

  abbrev v : List ℕ
  v = filled_with held answer

  abbrev stand : MayStand f v
  stand = round_of.stand w q older rows f own party held kept turn.round turn.answers.0 other anew answer shows byte

  abbrev is_chunk : answer ≡ clear_body (gave.response w q older rows f own party held kept turn.round turn.answers.0 other anew v stand)
  is_chunk = round_of.is_chunk w q older rows f own party held kept turn.round turn.answers.0 other anew answer shows byte

  none_left : nat_lt (number_of f + 1) (chunk_count (place_terms (clear_with h v)).common.to_requester.transfer v) ≡ false
  none_left = round_of.none_left w q older rows f own party held kept turn.round turn.answers.0 other anew answer shows byte

  abbrev get : (u : List ℕ) → MayStand f u → IsAsked r f round u
  get u stands = asked w q older rows f own party held kept round turn.answers.0 other anew u stands

  -- ---- It is a chunk of no other bytes.

  module _ (u : List ℕ) (stands : MayStand f u) (given : answer ≡ clear_body (get_response f.kept.responder u (asked w q older rows f own party held kept turn.round turn.answers.0 other anew u stands).handle (number_of f))) where
    begins : take (chunk_end held.transfer (number_of f)) u ≡ take (chunk_end held.transfer (number_of f)) v
    begins =
        ap (λ (n : ℕ). take (chunk_end n (number_of f)) u) (sym (gave.p_transfer w q older rows f own party held kept round turn.answers.0 other anew u stands))
        ∙ sym (gave.begins w q older rows f own party held kept round turn.answers.0 other anew u stands answer given)
        ∙ gave.begins w q older rows f own party held kept round turn.answers.0 other anew v stand answer is_chunk
        ∙ ap (λ (n : ℕ). take (chunk_end n (number_of f)) v) (gave.p_transfer w q older rows f own party held kept round turn.answers.0 other anew v stand)

    long : length u ≡ length v
    long = sym (gave.long w q older rows f own party held kept round turn.answers.0 other anew u stands answer given) ∙ gave.long w q older rows f own party held kept round turn.answers.0 other anew v stand answer is_chunk

    reaches : length v ≤ chunk_end held.transfer (number_of f)
    reaches =
        let low = (can_be_cut w q older rows f own party held kept round turn.answers.0 other anew v stand).low in
        let count = round_of.count_here w q older rows f own party held kept turn.round turn.answers.0 other anew answer shows byte in
        let number = kept.answer.number in
        let ends = step.ends held.transfer 0 v (omega (arith, low)) (number_of f) (omega (arith, count, number)) in
        omega (arith, ends)

    pub same_whole : u ≡ v
    same_whole = sym (take_all (chunk_end held.transfer (number_of f)) u (let more = reaches in let same = long in omega (arith, more, same))) ∙ begins ∙ take_all (chunk_end held.transfer (number_of f)) v reaches

  -- ---- What it may be.

  plain_never : (u : List ℕ) (stands : MayStand f u) (next : History) → AnswersPlainly r (dialogue_of f u) round answer next → ⊥
  plain_never u stands next plain =
      let asks = get u stands in
      let on = (get_goes_on next_is_given r (dialogue_of f u) u round asks.handle (number_of f) answer next refl asks.body asks.next).0 plain in
      let same = same_whole u stands on.0 in
      false≢true (sym none_left ∙ subst (λ (x : List ℕ). nat_lt (number_of f + 1) (chunk_count (place_terms (clear_with h x)).common.to_requester.transfer x) ≡ true) same on.1)

  large_never : (u : List ℕ) (stands : MayStand f u) (next : History) (whole : List ℕ) → AnswersLarge r (dialogue_of f u) round answer next whole → ⊥
  large_never u stands next whole large =
      let asks = get u stands in
      get_begins_none next_is_given r (dialogue_of f u) u round asks.handle (number_of f) answer next whole refl asks.body asks.next large

  shown_by : (u : List ℕ) (stands : MayStand f u) (next : History) → Completes r (dialogue_of f u) round answer next → IsShownEntry r b.before (seen v e) × IsUnmarked held.late b.before (seen v e)
  shown_by u stands next completes =
      let asks = get u stands in
      let ends = (get_completes next_is_given r (dialogue_of f u) u round asks.handle (number_of f) answer next refl asks.body asks.next).0 completes in
      let same = same_whole u stands ends.1 in
      let shown = (last_ends w q older rows f own party held kept round turn.answers.0 other anew v stand byte answer is_chunk none_left next).0 (subst (λ (x : List ℕ). Completes r (dialogue_of f x) round answer next) same completes) in
      (shown.0, shown.1)

  one_round : (rd : Round) → f.kept.round ≡ Some rd → rd ≡ round
  one_round rd at = same_Some rd round (sym at ∙ turn.answers.0)

  pub goes_never : (next : Fetching) → GoesFetching w f (Whole route answer) next → ⊥
  goes_never next c = plain_never c.2.2.0 c.2.2.2 c.2.2.1 (subst (λ (x : Round). AnswersPlainly r (dialogue_of f c.2.2.0) x answer c.2.2.1) (one_round c.2.0 c.2.1.0) c.2.2.3)

  pub turns_never : (next : Fetching) → TurnsFetching w f (Whole route answer) next → ⊥
  turns_never next c = by_from (subst (λ (x : Round). AnswersFrom r (dialogue_of f c.2.2.0) x answer c.2.2.1 c.2.2.2) (one_round c.2.0 c.2.1.0) c.2.2.4)
    where
      by_from : AnswersFrom r (dialogue_of f c.2.2.0) round answer c.2.2.1 c.2.2.2 → ⊥
      by_from (inl large) = large_never c.2.2.0 c.2.2.3 c.2.2.1 large.0.0 large.0.1
      by_from (inr again) = none-some c.2.2.0 (sym again.0.1.0)

  -- It ends the fetch only where the request leads to all bytes, and no mark is set of the session that they begin.
  pub ends_shown : (next : Kept) → EndsFetching w f (Whole route answer) next → IsShownEntry (responder_for w f.kept) kept.before.before (seen (filled_with held answer) (Clear held.tag kept.before.turn no_draw))
      × IsUnmarked held.late kept.before.before (seen (filled_with held answer) (Clear held.tag kept.before.turn no_draw))
  unfolding Answers
  ends_shown next c =
      let replies = c.3.2 in
      by_answer replies.4.0 replies.4.1 (subst (λ (x : Round). Answers r (dialogue_of f c.0) x answer replies.4.0 replies.4.1) (one_round replies.0 replies.1) replies.4.2)
    where
      by_answer : (behind : History) (fetching : Option (List ℕ)) → Answers r (dialogue_of f c.0) round answer behind fetching → IsShownEntry r b.before (seen v e) × IsUnmarked held.late b.before (seen v e)
      by_answer behind fetching (inl plain) = absurd (plain_never c.0 c.2 behind plain.0)
      by_answer behind fetching (inr (inl large)) = absurd (large_never c.0 c.2 behind large.0 large.1)
      by_answer behind fetching (inr (inr (inl again))) = absurd (none-some c.0 (sym again.1.0))
      by_answer behind fetching (inr (inr (inr last))) = shown_by c.0 c.2 behind last.0

  -- ---- Its verify data.

  abbrev m : List ℕ
  m = drop 1 round.body

  abbrev Apart : Type 0
  Apart = IsLedApart r b.before e v (hash_at b.before)

  body_is : round.body ≡ clear_body m
  body_is = clear_shape round.body (type w q older rows f own party held kept round turn.answers.0 other)

  abbrev HasHere : Option Marks → Type 0
  HasHere late = HasGets late held.tag t b.gets b.before h

  abbrev undrawn : AreUndrawn h
  undrawn = walks_undrawn w q older (dialogue_of f own.stands.0) (own.all own.stands.0 own.stands.1)

  here : place_named round.body ≡ None
  here = place w q older rows f own party held kept round turn.answers.0 other

  -- The last chunk, as an entry.
  abbrev entry : Entry
  entry = gave.e w q older rows f own party held kept round turn.answers.0 other anew v stand

  gives : gives_last (with_large (place_named round.body) v h) entry ≡ true
  gives = ap (λ (o : Option ℕ). gives_last (with_large o v h) entry) here ∙ meanwhile.last_is r h v round.tag (get v stand).handle (number_of f) (get v stand).next ∙ ap not none_left

  -- Where the request came last.
  module _ (has : HasGets None held.tag t b.gets b.before h) where
    abbrev law : (CompletesApart r (dialogue_of f v) round answer → IsLastApart r h round answer v e b.before (verify_size (dialogue_of f v))) × (IsLastApart r h round answer v e b.before (verify_size (dialogue_of f v)) → CompletesApart r (dialogue_of f v) round answer)
    law = last_apart_is_shown r (dialogue_of f v) round answer v b.gets e b.before byte refl (type w q older rows f own party held kept round turn.answers.0 other) b.are b.unseen has

    -- The size of verify data, where the request is PSK_EXCHANGE.
    sized : (whole : List ℕ) (size : ℕ) (apart : is_apart size whole v ≡ true) (code : slice_index whole 1 ≡ PSK_EXCHANGE_RSP) → LeadsToOther r b.before e v whole → verify_size (dialogue_of f v) ≡ hash_at b.before
    sized whole size apart code leads =
        let ids : List ℕ = drops_with b.before (seen v e) in
        let exchange = code_is r byte b.before held.tag t no_draw b.unseen.0 v whole code size apart ids (values_with_whole r (with_dropped b.before ids) held.tag (clear_body t.message) (clear_body t.reply) v) leads in
        ap (λ (l : History). hash_len (terms_of (negotiation_of (clear_turns l)))) has
        ∙ ap (λ (n : Negotiation). hash_len (terms_of n)) (gets_settle b.gets (e ∷ b.before) b.are ∙ code_settles t (clear_turns b.before) PSK_EXCHANGE exchange refl)

    new_to : CompletesApart r (dialogue_of f v) round answer → Apart
    new_to c =
        let s = law.0 c in
        record {
          other = s.other;
          led = s.led;
          code = s.code;
          apart = subst (λ (n : ℕ). is_apart n s.other v ≡ true) (sized s.other (verify_size (dialogue_of f v)) s.apart s.code s.led) s.apart;
        }

    new_from : Apart → CompletesApart r (dialogue_of f v) round answer
    new_from apart = law.1 is_last_apart
      where
        is_last : LeadsAt r (with_large (place_named round.body) v h) round.tag round.body (Adds entry) (values_shown_by r (with_large (place_named round.body) v h) round.tag round.body answer) × (last_shown r (with_large (place_named round.body) v h) round.tag round.body answer ≡ Adds entry)
        is_last = last_law.last_is r (with_large (place_named round.body) v h) round.tag round.body byte entry answer (gave.leads w q older rows f own party held kept round turn.answers.0 other anew v stand) gives (sym is_chunk)

        is_last_apart : IsLastApart r h round answer v e b.before (verify_size (dialogue_of f v))
        is_last_apart =
            let k : History = with_large (place_named round.body) v h in
            record {
              leads = subst (λ (o : Outcome). LeadsAt r k round.tag round.body o (values_shown_by r k round.tag round.body answer)) (sym is_last.1) is_last.0;
              last = subst (λ (o : Outcome). ends_large k o ≡ true) (sym is_last.1) gives;
              body = ap body_of is_last.1 ∙ sym is_chunk;
              other = apart.other;
              led = apart.led;
              code = apart.code;
              apart = subst (λ (n : ℕ). is_apart n apart.other v ≡ true) (sym (sized apart.other (hash_at b.before) apart.apart apart.code apart.led)) apart.apart;
            }

  -- Its verify data are alone wrong exactly when the request leads to bytes from which they are apart, and no mark is
  -- set.
  apart_to : (late : Option Marks) → HasHere late → CompletesApart r (dialogue_of f v) round answer → Apart × IsUnmarked late b.before (seen v e)
  apart_to None has c = (new_to has c, tt)
  apart_to (Some marks) has c = to_apart r byte held.tag t b.before b.unseen v marks b.gets h has undrawn b.are (dialogue_of f v) refl refl round here answer c

  apart_from : (late : Option Marks) → HasHere late → Apart → IsUnmarked late b.before (seen v e) → CompletesApart r (dialogue_of f v) round answer
  apart_from None has apart none = new_from has apart
  apart_from (Some marks) has apart none =
      from_apart r byte held.tag t b.before b.unseen v marks b.gets h has undrawn b.are (dialogue_of f v) refl refl round here answer apart none entry (gave.leads w q older rows f own party held kept round turn.answers.0 other anew v stand) gives (sym is_chunk)

  apart_by : (u : List ℕ) (stands : MayStand f u) → CompletesApart r (dialogue_of f u) round answer → Apart × IsUnmarked held.late b.before (seen v e)
  apart_by u stands c =
      let leads : MayLeadTo r (with_large None u h) round.tag (clear_body m) (Adds c.3) =
      subst (λ (l : List ℕ). MayLeadTo r (with_large None u h) round.tag l (Adds c.3)) body_is
      (subst (λ (o : Option ℕ). MayLeadTo r (with_large o u h) round.tag round.body (Adds c.3)) (place w q older rows f own party held kept round turn.answers.0 other) c.5) in
      let asks = get u stands in
      let at : MayLeadTo r (with_large None u h) round.tag (clear_body (get_message asks.handle (number_of f))) (Adds c.3) =
      subst (λ (l : List ℕ). MayLeadTo r (with_large None u h) round.tag l (Adds c.3)) (sym body_is ∙ asks.body) leads in
      let same = same_whole u stands (sym c.7 ∙ ap body_of ((next_is_given r h u round.tag asks.handle (number_of f) (Adds c.3) asks.next).0 at)) in
      apart_to held.late b.behind (subst (λ (x : List ℕ). CompletesApart r (dialogue_of f x) round answer) same c)

  pub apart_goes : (u : List ℕ) → MayStand f u → GoesApart (responder_for w f.kept) (dialogue_of f u) (Whole route answer)
      → IsLedApart (responder_for w f.kept) kept.before.before (Clear held.tag kept.before.turn no_draw) (filled_with held answer) (hash_at kept.before.before)
      × IsUnmarked held.late kept.before.before (seen (filled_with held answer) (Clear held.tag kept.before.turn no_draw))
  apart_goes u stands c = by_apart (subst (λ (o : Option Round). AreRepliesApart r (dialogue_of f u) o answer) turn.answers.0 c.1)
    where
      by_apart : AreRepliesApart r (dialogue_of f u) (Some round) answer → Apart × IsUnmarked held.late b.before (seen v e)
      by_apart (inl replies) = absurd (replies_are_not_apart w q older (dialogue_of f u) u round answer (own.all u stands) refl turn.answers.0 (type w q older rows f own party held kept round turn.answers.0 other) replies)
      by_apart (inr last) = apart_by u stands last

  goes_apart : Apart → IsUnmarked held.late b.before (seen v e) → GoesApart r (dialogue_of f v) (Whole route answer)
  goes_apart apart none = (turn.right, subst (λ (o : Option Round). AreRepliesApart r (dialogue_of f v) o answer) (sym turn.answers.0) (inr (apart_from held.late b.behind apart none)))

  -- The request leads to these bytes, and so to no others.
  pub led_not_apart : IsShownEntry (responder_for w f.kept) kept.before.before (seen (filled_with held answer) (Clear held.tag kept.before.turn no_draw))
      → IsLedApart (responder_for w f.kept) kept.before.before (Clear held.tag kept.before.turn no_draw) (filled_with held answer) (hash_at kept.before.before) → ⊥
  led_not_apart led apart =
      let here = whole_of.shown_to r byte b.before b.left held.tag t b.unseen b.left_is b.led v led in
      let there = whole_of.other_to r byte b.before b.left held.tag t b.unseen b.left_is b.led v apart.other apart.led in
      self_apart (hash_at b.before) apart.other v (whole_of.same_bytes r byte b.before b.left held.tag t b.unseen b.left_is b.led v apart.other v there here) apart.apart

  -- ---- Why it is refused.

  module _ (new : Party) (stands : Fetching → List Row → Type 0) (table : List Seen) where
    abbrev NoEnd : Type 0
    NoEnd = (next : Kept) → EndsFetching w f (Whole route answer) next → ⊥

    pub refused_apart : (IsShownEntry (responder_for w f.kept) kept.before.before (seen (filled_with held answer) (Clear held.tag kept.before.turn no_draw)) → ⊥)
        → IsLedApart (responder_for w f.kept) kept.before.before (Clear held.tag kept.before.turn no_draw) (filled_with held answer) (hash_at kept.before.before)
        → IsUnmarked held.late kept.before.before (seen (filled_with held answer) (Clear held.tag kept.before.turn no_draw)) → IsRepliedTo w q older rows f route answer (Err reasons.BadVerify) new stands table
    refused_apart never apart none = (goes_never, turns_never, λ next c. never (ends_shown next c).0, (v, stand, goes_apart apart none))

    refused_by : NoEnd → (Apart × IsUnmarked held.late b.before (seen v e) → ⊥) → (d : Dialogue) (why : declared_why.Why) → d.responder ≡ b.left → why_of why ≡ reply_why r d answer (Some turn.round) → IsRepliedTo w q older rows f route answer (Err why) new stands table
    refused_by no_end no_apart d why left is = (
      goes_never,
      turns_never,
      no_end,
      by_why (why_of why) (is ∙ why_left party.answerer party.keys held r f.kept.responder kept.before d answer turn.round left (type w q older rows f own party held kept turn.round turn.answers.0 other) (restored f.kept) refl),
    )
      where
        none : (u : List ℕ) → MayStand f u → GoesApart r (dialogue_of f u) (Whole route answer) → ⊥
        none u may c = no_apart (apart_goes u may c)

        told : (x : Why) → x ≡ reply_why r (restored f.kept) answer (Some turn.round) → goes_why r (restored f.kept) (Whole route answer) ≡ Some x
        told x same = reason_is r f.kept route answer turn ∙ ap Some (sym same)

        by_why : (x : Why) → x ≡ reply_why r (restored f.kept) answer (Some turn.round) → IsFetchedWhy w f (Whole route answer) x
        by_why BadVerify same = absurd (two_reasons (body_type answer == 5 || opens_answering r f.kept.responder (body_type turn.round.body == 5) (drop 1 turn.round.body) (drop 1 answer)) same)
        by_why BadPacket same = (none, told BadPacket same)
        by_why UnknownEnd same = (none, told UnknownEnd same)
        by_why WrongTurn same = (none, told WrongTurn same)
        by_why BadRequest same = (none, told BadRequest same)
        by_why BadReply same = (none, told BadReply same)
        by_why BadRecord same = (none, told BadRecord same)

    -- The request leads neither to these bytes nor to others from which they are apart.
    pub refused_other : (IsShownEntry (responder_for w f.kept) kept.before.before (seen (filled_with held answer) (Clear held.tag kept.before.turn no_draw)) → ⊥)
        → (IsLedApart (responder_for w f.kept) kept.before.before (Clear held.tag kept.before.turn no_draw) (filled_with held answer) (hash_at kept.before.before) → ⊥)
        → (d : Dialogue) (why : declared_why.Why) → d.responder ≡ kept.before.left → why_of why ≡ reply_why (responder_for w f.kept) d answer (Some turn.round) → IsRepliedTo w q older rows f route answer (Err why) new stands table
    refused_other never no_apart d why left is = refused_by (λ next c. never (ends_shown next c).0) (λ apart. no_apart apart.0) d why left is

    -- A mark is set of the session that they begin.
    pub refused_marked : (IsUnmarked held.late kept.before.before (seen (filled_with held answer) (Clear held.tag kept.before.turn no_draw)) → ⊥)
        → (d : Dialogue) (why : declared_why.Why) → d.responder ≡ kept.before.left → why_of why ≡ reply_why (responder_for w f.kept) d answer (Some turn.round) → IsRepliedTo w q older rows f route answer (Err why) new stands table
    refused_marked marked d why left is = refused_by (λ next c. marked (ends_shown next c).1) (λ apart. marked apart.1) d why left is

    -- It leads to them, but the requester asks for another chunk.
    pub refused_asking : IsShownEntry (responder_for w f.kept) kept.before.before (seen (filled_with held answer) (Clear held.tag kept.before.turn no_draw)) → asks_upon f.kept route.tag answer ≡ true
        → (d : Dialogue) (why : declared_why.Why) → d.responder ≡ kept.before.left → why_of why ≡ reply_why (responder_for w f.kept) d answer (Some turn.round) → IsRepliedTo w q older rows f route answer (Err why) new stands table
    refused_asking led asks d why left is =
        refused_by (λ next c. false≢true (sym ((answers_tell_asking w q older f route answer limits own).ends next c) ∙ asks)) (λ apart. led_not_apart led apart.0) d why left is
