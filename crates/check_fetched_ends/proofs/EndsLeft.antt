-- What is reported of an answer while no large one is fetched: no part of a large response is left.
use Rattle.std.proofs.Common.{◌≡◌, ◌==◌, ◌∙◌, ℕ, List, ◌∷◌, refl, sym, ap, subst, length, drop, Bool, true, false, Option, Some, None, Result, Ok, Err, is_some, cond, inl, inr}
use Rattle.std.specs.Prelude.{IfOk, slice_index}
use Rattle.std.proofs.lemmas.Bool.{false≢true}
use Rattle.check_ends.proofs.AnswerWalks.{told_on}
use Rattle.check_responder.specs.ClearAnswers.{EndsLarge}
use Rattle.check_ends.specs.Conversation as conversations
use Rattle.check_ends.specs.Conversation.{IsAnswer}
use Rattle.check_ends.specs.PartyReplies.{IsPartOfLarge, IsReplied}
use Rattle.check_ends.specs.declared.conversation.Conversation.{Conversation}
use Rattle.check_ends.specs.declared.continuation.Continuation.{Continuation}
use Rattle.check_ends.specs.declared.continuation.Continuation.TheVariants as onward
use Rattle.check_ends.specs.declared.party.Party.{Party}
use Rattle.check_laws.proofs.KeptAnswers.{kept_is_restored}
use Rattle.check_laws.specs.AnswersShown.{values_shown_by}
use Rattle.check_laws.specs.Keeping.{Keeps, Kept, restored}
use Rattle.check_laws.specs.LargeShown.{ends_large, last_shown}
use Rattle.check_laws.specs.RepliesShown.{responder_for}
use Rattle.check_laws.specs.declared.verdict.Seen.{Seen}
use Rattle.check_fetched_laws.proofs.RestQuiet.{none_pends_in_clear}
use Rattle.check_late_laws.proofs.Late.SessionsQuiet.{none_pends_in_session}
use Rattle.check_fetched_ends.specs.BegunHeld.{IsLargeInClear}
use Rattle.check_fetched_ends.specs.BegunIn.{IsLargeInRecord, IsLeftOther}
use Rattle.check_fetched_ends.specs.JudgedEnds.{IsJudgedAnswer, StandsBehind}
use Rattle.check_fetched_ends.specs.declared.fetch.Fetch.{Fetch}
use Rattle.check_laws.proofs.Large.Meanwhile.{sending_is_alone}
use Rattle.check_laws.specs.declared.sending_large.large_request.LargeRequest.{LargeRequest}
use Rattle.mctp_framing.specs.Cutting.{RouteFields}
use Rattle.requester_machine.specs.Setup.{ReqSetup}
use Rattle.responder_machine.specs.Handling.{turn_of}
use Rattle.responder_machine.specs.History.{Entry, History}
use Rattle.responder_machine.specs.History.Entry.{Clear}
use Rattle.responder_machine.specs.LargeMessages.{given_of, still_pending}
use Rattle.responder_machine.specs.Place.{Place, clear_place, place_terms, session_place}
use Rattle.responder_machine.specs.Records.{opened}
use Rattle.responder_machine.specs.Refusal.{has_pending}
use Rattle.responder_machine.specs.Responder.{Outcome, session_turn}
use Rattle.responder_machine.specs.Responder.Outcome.{Same, Unopened, Adds}
use Rattle.responder_machine.specs.Session.{Events, id_in_record, session_of}
use Rattle.responder_machine.specs.Setup.{RspSetup}
use Rattle.responder_machine.specs.Turn.{Turn}
use Rattle.spdm_grammar.specs.declared.told.why.Why as declared
use Rattle.spdm_basis.proofs.Bools.{and_first}
use Rattle.spdm_basis.specs.declared.OutOfMemory.{OutOfMemory}
use Rattle.capture_machine.proofs.DropsTell.{clear_form}
use Rattle.capture_machine.proofs.GetTells.{IsGet, session_get, turn_get}
use Rattle.capture_machine.proofs.PlainTells.{led_clear, led_record}
use Rattle.capture_machine.proofs.RecordAdds.{record_added}
use Rattle.capture_machine.specs.CapturedAnswers.{MayLeadTo}
use Rattle.capture_machine.specs.LargeAnswers.{takes_get}
use Rattle.capture_machine.specs.Rounds.{Round, no_draw}
use Rattle.capture_machine.specs.SessionTable.{Row, rows_between}
use Rattle.world_machine.specs.Setup.{Configuration}

-- CHUNK_GET is taken only while a large response is pending.
get_pends : (p : Place) (m : List ℕ) (t : Turn) → IsGet p m t → has_pending p ≡ true
get_pends p m t is =
    let transfer : ℕ = (place_terms p).common.to_requester.transfer in
    ap (λ (o : Option (List ℕ)). is_some (still_pending transfer (given_of p.turns) o)) is.large ∙ ap (λ (b : Bool). is_some (cond b (Some is.whole) None)) is.more

module _ (w : Configuration) (q : ReqSetup) (older : List (List ℕ)) (k : Kept) (keeps : Keeps w q older k) (route : RouteFields) (answer : List ℕ) where
  abbrev r : RspSetup
  r = responder_for w k

  abbrev h : History
  h = k.responder

  -- None is taken in the clear.
  none_gets : (round : Round) → (slice_index round.body 0 == 5) ≡ true → (e : Entry) → MayLeadTo r h round.tag round.body (Adds e) → takes_get e ≡ true → ⊥
  none_gets round type e may gets =
      let led = led_clear r h round.tag round.body (Adds e) type may in
      let idle : has_pending (clear_place h) ≡ false = none_pends_in_clear w q older (restored k) (kept_is_restored w q older k keeps).0 in
      elim (clear_form r h round.tag (drop 1 round.body) led.free (Adds e) led.leads) [
        | inl same ↦ absurd (let x = same.1 in cc)
        | inr adds ↦
            let t : Turn = turn_of r (clear_place h) (drop 1 round.body) led.free in
            let is : Clear round.tag t no_draw ≡ e = cc (sym adds) in
            false≢true (sym idle ∙ get_pends (clear_place h) (drop 1 round.body) t (turn_get r (clear_place h) (drop 1 round.body) led.free (ap takes_get is ∙ gets)))
      ]

  -- None is taken in a session.
  none_gets_in : (round : Round) → (slice_index round.body 0 == 5) ≡ false → (e : Entry) → MayLeadTo r h round.tag round.body (Adds e) → takes_get e ≡ true → ⊥
  none_gets_in round type e may gets =
      let m : List ℕ = drop 1 round.body in
      let led = led_record r h round.tag round.body (Adds e) type may in
      let s : Events = session_of (id_in_record m) h in
      let inner : List ℕ = opened r.psk s m in
      let t : Turn = session_turn r s inner led.free in
      let idle : has_pending (session_place s) ≡ false = none_pends_in_session w q older (restored k) (kept_is_restored w q older k keeps).0 (id_in_record m) in
      let is = record_added r led.free round.tag m e h led.leads in
      false≢true (sym idle ∙ get_pends (session_place s) (drop 1 inner) t (session_get r s inner led.free (ap takes_get is ∙ gets)))

  none_gets_by : (round : Round) (b : Bool) → (slice_index round.body 0 == 5) ≡ b → (e : Entry) → MayLeadTo r h round.tag round.body (Adds e) → takes_get e ≡ true → ⊥
  none_gets_by round true type e may gets = none_gets round type e may gets
  none_gets_by round false type e may gets = none_gets_in round type e may gets

  -- So no last chunk comes.
  no_last : (round : Round) → EndsLarge r h round.tag round.body answer → ⊥
  unfolding MayLeadTo
  no_last round ends = by_outcome (last_shown r h round.tag round.body answer) (values_shown_by r h round.tag round.body answer, ends.0.0, ends.0.1, ends.0.2) ends.1
    where
      by_outcome : (o : Outcome) → MayLeadTo r h round.tag round.body o → ends_large h o ≡ true → ⊥
      by_outcome (Same b) may last = false≢true last
      by_outcome (Unopened b) may last = false≢true last
      by_outcome (Adds e) may last = none_gets_by round (slice_index round.body 0 == 5) refl e may (and_first (takes_get e) _ last)

  -- Where it is no LargeResponse, it is no part of a large one.
  pub no_part : (IsLargeInClear w k route.tag answer → ⊥) → (IsLargeInRecord w k route.tag answer → ⊥) → IsPartOfLarge w k route.tag answer → ⊥
  no_part clear sealed (round, at, inr ends) = no_last round ends
  no_part clear sealed (round, at, inl large) = by_type (slice_index round.body 0 == 5) refl
    where
      by_type : (b : Bool) → (slice_index round.body 0 == 5) ≡ b → ⊥
      by_type true type = clear (round, at, type, large)
      by_type false type = sealed (round, at, type, large)

  -- In a session it is none in the clear.
  pub session_part : ((round : Round) → k.round ≡ Some round → (slice_index round.body 0 == 5) ≡ false) → (IsLargeInRecord w k route.tag answer → ⊥) → IsPartOfLarge w k route.tag answer → ⊥
  session_part record_came sealed part = no_part (λ is. false≢true (sym (record_came is.0 is.1.0) ∙ is.2)) sealed part

  -- ---- What is told.

  module _ (rows : List Row) (packet : List ℕ) (is_answer : IsAnswer w q older packet route answer) (talk : Conversation) (none : talk.large ≡ None) (o : Option Fetch) (rest : o ≡ None) (new : Party) (table : List Seen) where
    -- It goes on.
    pub kept_rest : IsReplied w q older rows k route answer (Ok onward.Kept) new table → IsJudgedAnswer w q older rows packet route answer (Ok onward.Kept) (record { talk = record talk { party = new }; fetched = o }) table
    kept_rest is =
        let c = told_on w q older rows packet route answer is_answer k keeps (Ok onward.Kept) new table is in
        subst (λ (x : Option Fetch). StandsBehind (record { talk = record talk { party = new }; fetched = x }) table w q older rows packet) (sym rest) (record {
          before = c.before;
          came = c.came;
          after = c.after;
          goes = c.goes;
          stands = subst (λ (x : Option LargeRequest). conversations.StandsAs new x w q (packet ∷ older) (rows_between c.before c.after rows)) (sym none) c.stands;
          entries = c.entries;
        })

    -- The requester asks for a chunk in response to it.
    asked_rest : (why : declared.Why) → IsReplied w q older rows k route answer (Ok (onward.Asked why)) new table → IsJudgedAnswer w q older rows packet route answer (Ok (onward.Asked why)) (record { talk = record talk { party = new }; fetched = o }) table
    asked_rest why is = told_on w q older rows packet route answer is_answer k keeps (Ok (onward.Asked why)) new table is

    -- Whatever it is.
    pub told_rest : (IsPartOfLarge w k route.tag answer → ⊥) → (result : Result Continuation declared.Why) → IsReplied w q older rows k route answer result new table
        → IsJudgedAnswer w q older rows packet route answer result (record { talk = record talk { party = new }; fetched = o }) table
    told_rest none_left (Ok onward.Kept) is = kept_rest is
    told_rest none_left (Ok onward.Large) is = none_left is
    told_rest none_left (Ok (onward.Asked why)) is = asked_rest why is
    told_rest none_left (Err why) is = told_on w q older rows packet route answer is_answer k keeps (Err why) new table is

    -- Of an answer to a record, where a part that is left is no LargeResponse.
    pub told_in : ((round : Round) → k.round ≡ Some round → (slice_index round.body 0 == 5) ≡ false) → (result : Result Continuation declared.Why) → IsReplied w q older rows k route answer result new table → IsLeftOther w k route.tag answer result
        → IsJudgedAnswer w q older rows packet route answer result (record { talk = record talk { party = new }; fetched = o }) table
    told_in sealed (Ok onward.Kept) is other = kept_rest is
    told_in sealed (Ok onward.Large) is other = session_part sealed other is
    told_in sealed (Ok (onward.Asked why)) is other = asked_rest why is
    told_in sealed (Err why) is other = told_on w q older rows packet route answer is_answer k keeps (Err why) new table is

    -- The same of a call that may want memory.
    pub all_rest : (IsPartOfLarge w k route.tag answer → ⊥) → (result : Result (Result Continuation declared.Why) OutOfMemory) → IfOk result (λ told. IsReplied w q older rows k route answer told new table)
        → IfOk result (λ told. IsJudgedAnswer w q older rows packet route answer told (record { talk = record talk { party = new }; fetched = o }) table)
    all_rest none_left (Ok told) is = told_rest none_left told is
    all_rest none_left (Err fault) is = is

-- ---- While a large request is sent.

module _ (w : Configuration) (q : ReqSetup) (older : List (List ℕ)) (rows : List Row) (packet : List ℕ) (route : RouteFields) (answer : List ℕ) (new : Conversation) (o : Option Fetch) (rest : o ≡ None) (table : List Seen) where
  sent_by : (party : Party) (large : Option LargeRequest) → is_some large ≡ true → conversations.StandsAs party large w q older rows → (k : Kept) → Keeps w q older k → ⊥
  sent_by party None is stands k keeps = false≢true is
  sent_by party (Some large) is stands k keeps = sending_is_alone w q older stands.0 k stands.1.sending keeps

  -- No part of a large response comes then, and the requester asks for no chunk.
  pub sent_rest : (party : Party) (large : Option LargeRequest) → is_some large ≡ true → conversations.StandsAs party large w q older rows → (result : Result (Result Continuation declared.Why) OutOfMemory)
      → IfOk result (λ told. conversations.IsJudgedAnswer w q older rows packet route answer told new.party new.large table) → IfOk result (λ told. IsJudgedAnswer w q older rows packet route answer told (record { talk = new; fetched = o }) table)
  sent_rest party large is stands (Ok (Ok onward.Kept)) c =
      subst (λ (x : Option Fetch). StandsBehind (record { talk = new; fetched = x }) table w q older rows packet) (sym rest)
      (record { before = c.before; came = c.came; after = c.after; goes = c.goes; stands = c.stands; entries = c.entries })
  sent_rest party large is stands (Ok (Ok onward.Large)) c = sent_by party large is stands c.0 c.1
  sent_rest party large is stands (Ok (Ok (onward.Asked why))) c = absurd (sent_by party large is stands c.0.0 c.0.1)
  sent_rest party large is stands (Ok (Err why)) c = c
  sent_rest party large is stands (Err fault) c = c
