-- What is kept of a requester and the responder after a request, or why it is refused.
use Rattle.std.proofs.Common.{◌≡◌, ◌+◌, ◌==◌, ◌&&◌, ◌∙◌, ℕ, List, refl, sym, ap, subst, Bool, true, false, Option, Some, None, cond, length, inl, inr, Result, Ok, Err, arith, eqb-true}
use Rattle.std.proofs.lemmas.Bool.{false≢true}
use Rattle.std.proofs.lemmas.Bool.Decides.{nat_tests}
use Rattle.std.proofs.lemmas.Slice.Eq.{bytes_eq-Decides}
use Rattle.std.specs.Prelude.{bytes_eq}
use Rattle.mctp_framing.specs.Cutting.{RouteFields}
use Rattle.mctp_framing.specs.Gathering.Gathered.{Whole}
use Rattle.requester_machine.specs.History.{History, outstanding}
use Rattle.requester_machine.specs.Message.{Sent}
use Rattle.requester_machine.specs.Setup.{ReqSetup}
use Rattle.spdm_grammar.specs.declared.told.why.Why as declared
use Rattle.spdm_basis.proofs.Bools.{and_first, and_second}
use Rattle.check_ends.proofs.InTurn.{AsksInTurn}
use Rattle.check_responder.specs.AnswerKeys.{StandFor as keys_stand}
use Rattle.check_responder.specs.JudgedResponder.{IsAnswerer}
use Rattle.check_requester.specs.Asked.{IsRefusedFor}
use Rattle.check_requester.specs.JudgedRequester.{IsAsker, is_first_chunk}
use Rattle.check_laws.proofs.RequestSteps.{kept_copy_is_request, kept_round_is_request}
use Rattle.check_laws.specs.ChangeLaws.{IsRequestStep}
use Rattle.check_laws.specs.Changes.{session_in}
use Rattle.check_laws.specs.Judged.{why_of}
use Rattle.check_laws.specs.Keeping.{AsksKept, BeginsKept, CopiesKept, Kept, SendsKept, restored}
use Rattle.check_laws.specs.Order.{asks_wrong}
use Rattle.check_ends.specs.Party.{IsAsked, IsAskedBeside, IsAskedWhole, IsBeside, IsComingWhy, IsParty, StandBehind, StandBeside}
use Rattle.check_laws.specs.RepliesShown.{responder_for}
use Rattle.check_laws.specs.Rows.{StandFor, StandsForRows}
use Rattle.check_laws.specs.declared.places.Places.{Places}
use Rattle.check_laws.specs.declared.verdict.Seen.{Seen}
use Rattle.check_responder.specs.declared.answer_keys.AnswerKeys.{AnswerKeys}
use Rattle.check_responder.specs.declared.judged_responder.JudgedResponder.{JudgedResponder}
use Rattle.check_requester.specs.declared.judged_requester.JudgedRequester.{JudgedRequester}
use Rattle.check_ends.specs.declared.continuation.Continuation.{Continuation}
use Rattle.check_ends.specs.declared.continuation.Continuation.TheVariants as onward
use Rattle.check_ends.specs.declared.party.Party.{Party}
use Rattle.capture_machine.specs.Capture.{may_begin}
use Rattle.capture_machine.specs.Difference.{Why, comes_why, is_copy, request_why}
use Rattle.capture_machine.specs.Difference.Why.{BadPacket, UnknownEnd, WrongTurn, BadRequest, BadReply, BadVerify, BadRecord}
use Rattle.capture_machine.specs.Rounds.{Dialogue, Round, new_round}
use Rattle.capture_machine.specs.SessionTable.{Row, rows_between}
use Rattle.world_machine.specs.Setup.{Configuration}

-- Of what is kept of the requester, the round does not count.
asker_with : (seen : JudgedRequester) (q : ReqSetup) (k : Kept) (round : Option Round) → IsAsker seen q k → IsAsker seen q (record k { round = round })
asker_with seen q k round asker = record { kept = asker.kept; setup = asker.setup; stands = asker.stands; owes = asker.owes }

pub copy_of : (o : Option Round) (tag : ℕ) (body : List ℕ) → is_copy o tag body ≡ true → (round : Round) × (o ≡ Some round) × (round.tag ≡ tag) × (round.body ≡ body)
copy_of None tag body is = absurd (false≢true is)
copy_of (Some round) tag body is =
    (round, refl, eqb-true round.tag tag (and_first (round.tag == tag) _ is), (bytes_eq-Decides round.body body).0 (and_second (round.tag == tag) _ is))

same_number : (n : ℕ) → (n == n) ≡ true
same_number n = grind (arith, nat_tests)

both : (a b : Bool) → a ≡ true → b ≡ true → (a && b) ≡ true
both true b one two = two
both false b one two = absurd (false≢true one)

pub is_no_copy : (k : Kept) (tag : ℕ) (body : List ℕ) (next : Kept) → is_copy k.round tag body ≡ false → CopiesKept k tag body next → ⊥
is_no_copy k tag body next other c =
    let same : is_copy (Some c.0) tag body ≡ true = both (c.0.tag == tag) (bytes_eq c.0.body body) (ap (λ (n : ℕ). n == tag) c.2 ∙ same_number tag) ((bytes_eq-Decides c.0.body body).1 c.3) in
    false≢true (sym other ∙ ap (λ (o : Option Round). is_copy o tag body) c.1 ∙ same)

module _ (w : Configuration) (q : ReqSetup) (older : List (List ℕ)) (rows : List Row) (k : Kept) (route : RouteFields) (body : List ℕ) (turn : AsksInTurn k route body) where
  -- The table was told of a request by which a record of this session was sent, or none, where the entries stand there.
  pub record IsTold (sent : Option ℕ) (places : Places) (table : List Seen) : Type 0 where
    pub stands : (before after : Dialogue) → IsRequestStep sent before after → StandFor places before rows → StandsForRows table w (length older + 1) (rows_between before after rows)
    pub stay : (before after : Dialogue) → IsRequestStep sent before after → StandFor places before rows → StandFor places after (rows_between before after rows)

  -- What follows it.
  behind : (old new : Party) (table : List Seen) (sent : Option ℕ) (after : History) (owed : Option Sent) (round : Option Round) → let next = record k { requester = after; owed = owed; round = round } in
      IsBeside old w q k rows → new.keys ≡ old.keys → new.number ≡ old.number → new.places ≡ old.places
      → IsAsker new.asker q next → IsRequestStep sent (restored k) (restored next) → IsTold sent old.places table → StandBeside new table w q older rows k next
  behind old new table sent after owed round party keys number places asker step told =
      let next : Kept = record k { requester = after; owed = owed; round = round } in
      record {
        beside = record {
          asker = asker;
          keys = subst (λ (x : AnswerKeys). keys_stand x (responder_for w k) k.responder) (sym keys) party.keys;
          number = number ∙ party.number;
          places = subst (λ (x : Places). StandFor x (restored next) (rows_between (restored k) (restored next) rows)) (sym places) (told.stay (restored k) (restored next) step party.places);
        };
        stands = told.stands (restored k) (restored next) step party.places;
      }

  -- A copy.
  pub copied : (seen : Party) (table : List Seen) → IsBeside seen w q k rows → IsTold None seen.places table → is_copy k.round route.tag body ≡ true → IsAskedBeside w q older rows k route body (Ok tt) seen table
  copied seen table party told is =
      let copy = copy_of k.round route.tag body is in
      let round : Round = copy.0 in
      let next : Kept = record k { round = Some (record round { waiting = round.waiting + 1 }) } in
      let copies : CopiesKept k route.tag body next = (round, copy.1, copy.2, copy.3, refl) in
      let step = kept_copy_is_request k next route.tag body copies in
      (next, (turn.body, turn.owner, inl copies), behind seen seen table None k.requester k.owed next.round party refl refl refl (asker_with seen.asker q k next.round party.asker) step told)

  -- A request by which a round begins.
  pub began : (old new : Party) (table : List Seen) (sent : Option ℕ) (after : History) → IsBeside old w q k rows → new.keys ≡ old.keys → new.number ≡ old.number → new.places ≡ old.places
      → is_copy k.round route.tag body ≡ false → may_begin k.round body ≡ true → SendsKept k body after
      → IsAsker new.asker q (record k { requester = after; owed = None }) → sent ≡ session_in (outstanding after) → IsTold sent old.places table → IsAskedBeside w q older rows k route body (Ok tt) new table
  began old new table sent after party keys number places other may sends asker is told =
      let next : Kept = record k { requester = after; owed = None; round = Some (new_round route.tag body) } in
      let begins : BeginsKept k route.tag body next = (may, turn.tag other, (after, sends, refl)) in
      let step = subst (λ (o : Option ℕ). IsRequestStep o (restored k) (restored next)) (sym is) (kept_round_is_request k next route.tag body begins) in
      (next, (turn.body, turn.owner, inr begins), behind old new table sent after None next.round party keys number places (asker_with new.asker q (record k { requester = after; owed = None }) next.round asker) step told)

  -- What is neither goes nowhere.
  pub goes_nowhere : is_copy k.round route.tag body ≡ false → ((after : History) → may_begin k.round body ≡ true → SendsKept k body after → ⊥) → (next : Kept) → AsksKept k (Whole route body) next → ⊥
  goes_nowhere other none next (body_is, owner, inl c) = is_no_copy k route.tag body next other c
  goes_nowhere other none next (body_is, owner, inr b) = none b.2.0 b.0 b.2.1

  -- And why: the order gives no reason.
  reason_is : comes_why (restored k) (Whole route body) ≡ Some (request_why (restored k) body)
  reason_is =
      ap (λ (b : Bool). Some (cond b BadPacket (cond (asks_wrong k.round route.owner route.tag body) WrongTurn (request_why (restored k) body)))) turn.other
      ∙ ap (λ (b : Bool). Some (cond b WrongTurn (request_why (restored k) body))) turn.right

  pub refused_for : (why : Why) → IsRefusedFor (restored k) body why → IsComingWhy k (Whole route body) why
  refused_for BadVerify is = (turn.right, is)
  refused_for BadPacket is = (λ apart. false≢true (sym is.0 ∙ apart.1), reason_is ∙ ap Some is.1)
  refused_for UnknownEnd is = (λ apart. false≢true (sym is.0 ∙ apart.1), reason_is ∙ ap Some is.1)
  refused_for WrongTurn is = (λ apart. false≢true (sym is.0 ∙ apart.1), reason_is ∙ ap Some is.1)
  refused_for BadRequest is = (λ apart. false≢true (sym is.0 ∙ apart.1), reason_is ∙ ap Some is.1)
  refused_for BadReply is = (λ apart. false≢true (sym is.0 ∙ apart.1), reason_is ∙ ap Some is.1)
  refused_for BadRecord is = (λ apart. false≢true (sym is.0 ∙ apart.1), reason_is ∙ ap Some is.1)

  -- What is reported of it.
  pub refused_by : (new : Party) (table : List Seen) (why : declared.Why) → ((next : Kept) → AsksKept k (Whole route body) next → ⊥) → IsRefusedFor (restored k) body (why_of why) → IsAskedBeside w q older rows k route body (Err why) new table
  refused_by new table why nowhere reason = (nowhere, refused_for (why_of why) reason)

-- What a request makes of what is kept has the same responder.
pub asks_same : (k next : Kept) (route : RouteFields) (body : List ℕ) → AsksKept k (Whole route body) next → (next.setup ≡ k.setup) × (next.responder ≡ k.responder)
asks_same k next route body (is, owner, inl copies) = (ap (λ (x : Kept). x.setup) copies.4, ap (λ (x : Kept). x.responder) copies.4)
asks_same k next route body (is, owner, inr begins) = (ap (λ (x : Kept). x.setup) begins.2.2, ap (λ (x : Kept). x.responder) begins.2.2)

pub beside_of : (seen : Party) (w : Configuration) (q : ReqSetup) (k : Kept) (rows : List Row) → IsParty seen w q k rows → IsBeside seen w q k rows
beside_of seen w q k rows party = record { asker = party.asker; keys = party.keys; number = party.number; places = party.places }

pub party_of : (seen : Party) (w : Configuration) (q : ReqSetup) (k : Kept) (rows : List Row) → IsBeside seen w q k rows → IsAnswerer seen.answerer (responder_for w k) k.responder → IsParty seen w q k rows
party_of seen w q k rows beside answerer = record { asker = beside.asker; answerer = answerer; keys = beside.keys; number = beside.number; places = beside.places }

-- So the responder's connection stands for it still.
pub whole_by : (w : Configuration) (q : ReqSetup) (older : List (List ℕ)) (rows : List Row) (k : Kept) (route : RouteFields) (body : List ℕ) (result : Result Unit declared.Why) (old new : Party) (table : List Seen)
    → IsParty old w q k rows → new.answerer ≡ old.answerer → IsAskedBeside w q older rows k route body result new table → IsAskedWhole w q older rows k route body result new table
whole_by w q older rows k route body (Ok u) old new table party same told =
    let next : Kept = told.0 in
    let at = asks_same k next route body told.1 in
    let one : IsAnswerer new.answerer (responder_for w k) k.responder = subst (λ (x : JudgedResponder). IsAnswerer x (responder_for w k) k.responder) (sym same) party.answerer in
    let two : IsAnswerer new.answerer (responder_for w next) k.responder = subst (λ (s : ReqSetup). IsAnswerer new.answerer (responder_for w (record k { setup = s })) k.responder) (sym at.0) one in
    let here : IsAnswerer new.answerer (responder_for w next) next.responder = subst (IsAnswerer new.answerer (responder_for w next)) (sym at.1) two in
    (next, told.1, record { party = party_of new w q next _ told.2.beside here; stands = told.2.stands })
whole_by w q older rows k route body (Err why) old new table party same told = told

-- Where it may begin a large request, no more is told.
pub large_or_refused : (w : Configuration) (q : ReqSetup) (older : List (List ℕ)) (rows : List Row) (k : Kept) (route : RouteFields) (body : List ℕ) (new : Party) (table : List Seen) (why : declared.Why) (result : Result Continuation declared.Why) (b : Bool)
    → is_first_chunk body ≡ b → result ≡ cond b (Ok onward.Large) (Err why) → IsAskedWhole w q older rows k route body (Err why) new table → IsAsked w q older rows k route body result new table
large_or_refused w q older rows k route body new table why result true is told refused = subst (λ (x : Result Continuation declared.Why). IsAsked w q older rows k route body x new table) (sym told) (is, refused.0)
large_or_refused w q older rows k route body new table why result false is told refused = subst (λ (x : Result Continuation declared.Why). IsAsked w q older rows k route body x new table) (sym told) (is, refused.0, refused.1)
