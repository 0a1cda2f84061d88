-- What is kept after a request while a large one is sent.
use Rattle.std.proofs.Common.{◌≡◌, ◌∙◌, ◌+◌, ◌<◌, ◌-◌, ◌^◌, ℕ, List, ◌∷◌, refl, sym, ap, subst, length, take, true, false, Option, Some, None, Err, inl, inr, arith}
use Rattle.std.proofs.lemmas.Bool.{false≢true}
use Rattle.std.proofs.lemmas.Option.{same_Some}
use Rattle.mctp_framing.specs.Cutting.{RouteFields}
use Rattle.mctp_framing.specs.Gathering.Gathered.{Whole}
use Rattle.chunking.specs.Cutting.{chunk_end}
use Rattle.requester_machine.proofs.Entries.{asked}
use Rattle.requester_machine.specs.Asking.{asks}
use Rattle.requester_machine.specs.History.{History, outstanding}
use Rattle.requester_machine.specs.History.Entry.{Told}
use Rattle.requester_machine.specs.May.{IsSetUp}
use Rattle.requester_machine.specs.Message.{Sent}
use Rattle.requester_machine.specs.Message.Command.{Connect}
use Rattle.requester_machine.specs.Sending.{plain_sent}
use Rattle.requester_machine.specs.Setup.{ReqSetup}
use Rattle.spdm_grammar.specs.declared.told.why.Why as declared
use Rattle.spdm_grammar.specs.Message.RequestMessage.{GetVersion}
use Rattle.spdm_grammar.specs.Requests.{canonical_request}
use Rattle.spdm_machine.specs.Bodies.{clear_body}
use Rattle.check_laws.proofs.KeptAnswers.{kept_is_restored}
use Rattle.check_laws.specs.ChangeLaws.{CopyIsRequest, RoundIsRequest}
use Rattle.check_laws.specs.Changes.{session_in}
use Rattle.check_laws.specs.Judged.{why_of}
use Rattle.check_laws.specs.Keeping.{Keeps, Kept, restored}
use Rattle.check_laws.specs.Rows.{StandFor}
use Rattle.check_laws.specs.Walks.{Walks}
use Rattle.check_laws.specs.declared.verdict.Seen.{Seen}
use Rattle.check_ends.proofs.InTurn.{AsksInTurn}
use Rattle.check_ends.proofs.PartyAsked.{copy_of, is_no_copy}
use Rattle.check_ends.proofs.RequestRows.{IsToldNothing, before, chunk_session, over_before, places_behind, table_behind}
use Rattle.check_ends.proofs.SendingWalks.{ended_behind, form, none_sends, sent_behind, sent_reason, walk_form}
use Rattle.check_ends.proofs.WalkRows.{places_for}
use Rattle.check_requester.specs.JudgedRequester.{IsAsker}
use Rattle.check_ends.specs.Conversation.{IsJudgedRequest, IsRequest, IsUnderWay, StandsBehind, meanwhile}
use Rattle.check_requester.specs.LargeAsked.{IsConnectedOver, refused_why}
use Rattle.check_ends.specs.Party.{IsParty}
use Rattle.check_requester.specs.declared.judged_requester.JudgedRequester.{JudgedRequester}
use Rattle.check_ends.specs.declared.party.Party.{Party}
use Rattle.check_laws.proofs.Large.Meanwhile.{sending_connects}
use Rattle.check_laws.specs.Large.LargeRequests as large_requests
use Rattle.check_laws.specs.Large.Sending.{Ack, Beginning, IsSendingOf, MayBegin, Sending, number_of, requester_of, transfer_of}
use Rattle.check_laws.specs.Large.SendingLaws.{AsksEnding, AsksSending, ConnectsSending, CopiesSending, LastSending, NextSending, whole_kept, without_due}
use Rattle.check_laws.specs.declared.sending_large.large_request.LargeRequest.{LargeRequest}
use Rattle.capture_machine.specs.Capture.{may_begin}
use Rattle.capture_machine.specs.CapturedRequests.{Tells}
use Rattle.capture_machine.specs.Difference.{is_copy}
use Rattle.capture_machine.proofs.AskTells.{same_sent}
use Rattle.capture_machine.specs.Rounds.{Dialogue, Round, new_round, no_draw}
use Rattle.capture_machine.specs.SessionTable.{Row, rows_between}
use Rattle.world_machine.specs.Setup.{Configuration}

-- ---- Another round.

-- The round does not count for what is kept of the two ends.
pub in_round : (party : Party) (w : Configuration) (q : ReqSetup) (k : Kept) (o : Option Round) (rows more : List Row) → IsParty party w q k rows → StandFor party.places (restored (record k { round = o })) more → IsParty party w q (record k { round = o }) more
in_round party w q k o rows more is are = record {
  asker = record { kept = is.asker.kept; setup = is.asker.setup; stands = is.asker.stands; owes = is.asker.owes };
  answerer = is.answerer;
  keys = is.keys;
  number = is.number;
  places = are;
}

-- The requester is as it was before.
pub asker_before : (seen : JudgedRequester) (q : ReqSetup) (s : Sending) → IsAsker seen q (meanwhile s) → IsAsker seen q s.before
asker_before seen q s is = record { kept = is.kept; setup = is.setup; stands = is.stands; owes = is.owes }

-- And the other way round.
pub asker_meanwhile : (seen : JudgedRequester) (q : ReqSetup) (s : Sending) → IsAsker seen q s.before → IsAsker seen q (meanwhile s)
asker_meanwhile seen q s is = record { kept = is.kept; setup = is.setup; stands = is.stands; owes = is.owes }

-- Another requester may be kept in its place.
pub way_with : (party : Party) (large : LargeRequest) (w : Configuration) (q : ReqSetup) (older : List (List ℕ)) (rows : List Row) (s : Sending) (seen : JudgedRequester) → IsUnderWay party large w q older rows s → IsAsker seen q s.before → IsUnderWay (record party { asker = seen }) large w q older rows s
way_with party large w q older rows s seen way asker = record {
  sending = way.sending;
  chunks = way.chunks;
  kept = record { asker = asker_meanwhile seen q s asker; answerer = way.kept.answerer; keys = way.kept.keys; number = way.kept.number; places = way.kept.places };
  earlier = way.earlier;
  before = way.before;
  fewer = way.fewer;
}

pub few_earlier : (party : Party) (large : LargeRequest) (w : Configuration) (q : ReqSetup) (older : List (List ℕ)) (rows : List Row) (s : Sending) (way : IsUnderWay party large w q older rows s) → length older < 2 ^ 64 - 1 → length way.earlier < 2 ^ 64 - 1
few_earlier party large w q older rows s way few = (let f = way.fewer in omega (arith, f, few))

-- A large request is kept in any round.
pub chunks_in : (s : Sending) (round : Round) (large : LargeRequest) → large_requests.StandsFor large s → large_requests.StandsFor large (record s { round = round })
chunks_in s round large is = record {
  pieces = record {
    transfer = is.pieces.transfer;
    handle = is.pieces.handle;
    size = is.pieces.size;
    number = is.pieces.number;
    bytes = is.pieces.bytes;
    wide = is.pieces.wide;
    narrow = is.pieces.narrow;
    short = is.pieces.short;
  };
  due = is.due;
}

-- GET_VERSION is no record.
connect_session : (q : ReqSetup) (h : History) (body : List ℕ) (after : History) → Tells q h Connect body after → session_in (outstanding after) ≡ None
connect_session q h body after c =
    let f = c.1.0 in
    let did = (asked false q h Connect f no_draw (Told Connect c.0 no_draw) c.1.2).1 in
    let it : plain_sent h GetVersion ≡ c.0 = same_sent Connect (plain_sent h GetVersion) c.0 no_draw did in
    ap (λ (l : History). session_in (outstanding l)) c.4 ∙ ap (λ (x : Sent). session_in (Some x)) (sym it)

module _ (copies : CopyIsRequest) (rounds : RoundIsRequest) (w : Configuration) (q : ReqSetup) (older : List (List ℕ)) (rows : List Row) (packet : List ℕ) (route : RouteFields) (body : List ℕ) (at : IsRequest w q older packet route body) (s : Sending)
    (party : Party) (large : LargeRequest) (way : IsUnderWay party large w q older rows s) (turn : AsksInTurn (meanwhile s) route body) (table : List Seen) (told : IsToldNothing w older rows party.places table) where
  abbrev own : IsSendingOf w q older s
  own = way.sending

  abbrev from : Dialogue
  from = form w q older s own

  pub over : Walks w q older from
  over = walk_form w q older s own

  pub are : StandFor party.places from rows
  are = places_for party.places (restored (meanwhile s)) from rows refl refl way.kept.places

  -- ---- The large request stays under way.

  module _ (o : Round) (next : Sending) (same : next.before ≡ s.before) (responder : next.responder ≡ s.responder) (behind : IsSendingOf w q (packet ∷ older) next) where
    abbrev n : Dialogue
    n = form w q (packet ∷ older) next behind

    pub walk : Walks w q (packet ∷ older) n
    walk = walk_form w q (packet ∷ older) next behind

    pub none : session_in (outstanding n.requester) ≡ None
    none = chunk_session next behind.begins.0 behind.stands.0 behind.begins.1

    abbrev first : Dialogue
    first = before copies rounds w q older rows packet route body at party.places table told from over are n walk none

    pub stays_on : (new : LargeRequest) → large_requests.StandsFor new next → IsParty party w q (meanwhile next) (rows_between first n rows) → StandsBehind party (Some new) table w q older rows packet
    stays_on new chunks is = record {
      before = first;
      came = over_before copies rounds w q older rows packet route body at party.places table told from over are n walk none;
      after = n;
      goes = walk;
      stands = (
        next,
        record {
          sending = behind;
          chunks = chunks;
          kept = is;
          earlier = way.earlier;
          before = subst (Keeps w q way.earlier) (sym same) way.before;
          fewer = (let f = way.fewer in let l : length (packet ∷ older) ≡ length older + 1 = omega arith in omega (arith, f, l));
        },
      );
      entries = table_behind copies rounds w q older rows packet route body at party.places table told from over are n walk none;
    }

  -- Its round, and what came of it, change.
  module _ (bytes : List ℕ) (acks : List Ack) (due : Option Ack) (round : Round) where
    abbrev goes_on : Sending
    goes_on = record s { bytes = bytes; acks = acks; due = due; round = round }

    pub moved : IsSendingOf w q (packet ∷ older) goes_on → (new : LargeRequest) → large_requests.StandsFor new goes_on → StandsBehind party (Some new) table w q older rows packet
    moved behind new chunks =
        let m : Dialogue = n round goes_on refl refl behind in
        let rows_now : List Row = rows_between (first round goes_on refl refl behind) m rows in
        stays_on round goes_on refl refl behind new chunks
        (in_round party w q (meanwhile s) (Some round) rows rows_now way.kept
        (places_for party.places m (restored (meanwhile goes_on)) rows_now refl refl
        (places_behind copies rounds w q older rows packet route body at party.places table told from over are m (walk round goes_on refl refl behind) (none round goes_on refl refl behind))))

  -- A copy of the last request.
  pub copied : is_copy (Some s.round) route.tag body ≡ true → StandsBehind party (Some large) table w q older rows packet
  copied is =
      let same = copy_of (Some s.round) route.tag body is in
      let it : same.0 ≡ s.round = same_Some same.0 s.round (sym same.1) in
      let r : Round = record s.round { waiting = s.round.waiting + 1 } in
      let copies_it : CopiesSending s route.tag body (record s { round = r }) = (ap (λ (x : Round). x.tag) (sym it) ∙ same.2, ap (λ (x : Round). x.body) (sym it) ∙ same.3, refl) in
      moved s.bytes s.acks s.due r (sent_behind w q older s own packet route body at (record s { round = r }) (turn.body, turn.owner, inl copies_it)) large (chunks_in s r large way.chunks)

  -- The next chunk.
  pub sent_on : (next : Sending) → NextSending s route.tag body next → (new : LargeRequest) → large_requests.StandsFor new next → StandsBehind party (Some new) table w q older rows packet
  sent_on next goes new chunks =
      let behind = sent_behind w q older s own packet route body at next (turn.body, turn.owner, inr goes) in
      let is : next ≡ goes_on (take (chunk_end (transfer_of s) (number_of s + 1)) goes.2.1) (goes.2.0 ∷ s.acks) None (new_round route.tag body) = goes.2.6 in
      moved (take (chunk_end (transfer_of s) (number_of s + 1)) goes.2.1) (goes.2.0 ∷ s.acks) None (new_round route.tag body) (subst (IsSendingOf w q (packet ∷ older)) is behind) new (subst (large_requests.StandsFor new) is chunks)

  -- ---- The large request ends.

  module _ (h : History) (seen : JudgedRequester) (asker : IsAsker seen q (record s.before { requester = h; owed = None })) (none_sent : session_in (outstanding h) ≡ None) where
    abbrev last : Kept
    last = whole_kept s h route.tag body

    pub ended : AsksEnding s (Whole route body) last → StandsBehind (record party { asker = seen }) None table w q older rows packet
    ended asks =
        let behind = ended_behind w q older s own packet route body at last asks in
        let m : Dialogue = restored last in
        let walk_m = (kept_is_restored w q (packet ∷ older) last behind).0 in
        let b : Dialogue = before copies rounds w q older rows packet route body at party.places table told from over are m walk_m none_sent in
        let rows_now : List Row = rows_between b m rows in record {
          before = b;
          came = over_before copies rounds w q older rows packet route body at party.places table told from over are m walk_m none_sent;
          after = m;
          goes = walk_m;
          stands = (
            last,
            behind,
            record {
              asker = record { kept = asker.kept; setup = asker.setup; stands = asker.stands; owes = asker.owes };
              answerer = way.kept.answerer;
              keys = way.kept.keys;
              number = way.kept.number;
              places = places_behind copies rounds w q older rows packet route body at party.places table told from over are m walk_m none_sent;
            },
          );
          entries = table_behind copies rounds w q older rows packet route body at party.places table told from over are m walk_m none_sent;
        }

  -- By GET_VERSION.
  pub connected : (seen : JudgedRequester) → body ≡ clear_body (canonical_request GetVersion) → may_begin (Some s.round) body ≡ true → is_copy (Some s.round) route.tag body ≡ false → IsConnectedOver q s seen
      → StandsBehind (record party { asker = seen }) None table w q older rows packet
  connected seen is may other c =
      let tells : Tells s.before.setup (without_due s c.beginning c.whole) Connect body c.after = subst (λ (l : List ℕ). Tells s.before.setup (without_due s c.beginning c.whole) Connect l c.after) (sym is) c.tells in
      let way_on : ConnectsSending s route.tag body (whole_kept s c.after route.tag body) = (may, turn.tag other, (c.beginning, c.whole, c.after, c.may, c.stands, tells, refl)) in
      ended c.after seen c.asker (connect_session s.before.setup (without_due s c.beginning c.whole) body c.after tells) (turn.body, turn.owner, inr way_on)

  -- By the last chunk.
  pub completed : (seen : JudgedRequester) (whole : List ℕ) (b : Beginning) → MayBegin s.before b → LastSending s route.tag body (whole_kept s (requester_of s b whole) route.tag body)
      → IsAsker seen q (record s.before { requester = requester_of s b whole; owed = None }) → StandsBehind (record party { asker = seen }) None table w q older rows packet
  completed seen whole b may goes asker = ended (requester_of s b whole) seen asker (chunk_session s b whole may) (turn.body, turn.owner, inl goes)

-- ---- It is refused.

module _ (w : Configuration) (q : ReqSetup) (older : List (List ℕ)) (rows : List Row) (packet : List ℕ) (route : RouteFields) (body : List ℕ) (at : IsRequest w q older packet route body) (s : Sending) (own : IsSendingOf w q older s)
    (set_up : IsSetUp q) (turn : AsksInTurn (meanwhile s) route body) (other : is_copy (Some s.round) route.tag body ≡ false) (party : Party) (table : List Seen) (why : declared.Why) (reason : why_of why ≡ refused_why q s.before.requester body) where
  no_copies : (next : Sending) → CopiesSending s route.tag body next → ⊥
  no_copies next c = is_no_copy (meanwhile s) route.tag body (record (meanwhile s) { round = Some (record s.round { waiting = s.round.waiting + 1 }) }) other (s.round, refl, c.0, c.1, refl)

  pub refused : ((next : Sending) → NextSending s route.tag body next → ⊥) → ((next : Kept) → LastSending s route.tag body next → ⊥) → ((next : Kept) → ConnectsSending s route.tag body next → ⊥) → IsJudgedRequest w q older rows packet (Whole route body) (Err why) party table
  refused no_next no_last no_connect = (
    none_sends w q older s own packet route body at set_up never ends,
    sent_reason w q older s own packet route body at turn (why_of why) reason,
  )
    where
      never : (next : Sending) → AsksSending s (Whole route body) next → ⊥
      never next (is, owner, inl c) = no_copies next c
      never next (is, owner, inr c) = no_next next c

      ends : (next : Kept) → AsksEnding s (Whole route body) next → ⊥
      ends next (is, owner, inl c) = no_last next c
      ends next (is, owner, inr c) = no_connect next c

  -- No round may begin with it.
  pub refused_early : may_begin (Some s.round) body ≡ false → IsJudgedRequest w q older rows packet (Whole route body) (Err why) party table
  refused_early never = refused (λ next c. false≢true (sym never ∙ c.0)) (λ next c. false≢true (sym never ∙ c.0)) (λ next c. false≢true (sym never ∙ c.0))

  no_version : (body ≡ clear_body (canonical_request GetVersion) → ⊥) → (next : Kept) → ConnectsSending s route.tag body next → ⊥
  no_version not next c = not ((sending_connects w q older s route.tag body set_up own).0 (next, c)).2

  pub refused_late : (body ≡ clear_body (canonical_request GetVersion) → ⊥) → ((next : Sending) → NextSending s route.tag body next → ⊥) → ((next : Kept) → LastSending s route.tag body next → ⊥) → IsJudgedRequest w q older rows packet (Whole route body) (Err why) party table
  refused_late not no_next no_last = refused no_next no_last (no_version not)
