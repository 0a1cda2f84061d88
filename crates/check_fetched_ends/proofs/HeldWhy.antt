-- Why an answer is refused while a large one is fetched in the clear: it is determined by what was left before its
-- request.
use Rattle.std.proofs.Common.{◌≡◌, ◌≤◌, ◌==◌, ◌||◌, ℕ, List, refl, sym, ap, ◌∙◌, subst, drop, arith, Bool, true, false, Option, Some, None, cond, inl, inr, Err}
use Rattle.std.specs.Prelude.{MatchBool, slice_index}
use Rattle.std.proofs.lemmas.Bool.{false≢true}
use Rattle.mctp_framing.specs.Cutting.{RouteFields}
use Rattle.mctp_framing.specs.Gathering.Gathered.{Whole}
use Rattle.check_ends.proofs.InTurn.{AnswersInTurn}
use Rattle.check_responder.specs.declared.judged_responder.JudgedResponder.{JudgedResponder}
use Rattle.check_responder.specs.declared.answer_keys.AnswerKeys.{AnswerKeys}
use Rattle.check_laws.specs.Judged.{why_of}
use Rattle.check_laws.specs.Keeping.{Kept, restored}
use Rattle.check_laws.specs.Order.{replies_wrong}
use Rattle.check_fetched_laws.specs.ClearSessions.{IsLeftBy, IsWithoutHandshake}
use Rattle.check_fetched_ends.proofs.HasGets.{few_held, opens_held}
use Rattle.check_fetched_ends.specs.Held.{StandsBefore}
use Rattle.check_fetched_ends.specs.declared.clear_fetch.held.Held.{Held}
use Rattle.responder_machine.specs.BoundLaws.{messages_of}
use Rattle.responder_machine.specs.History.{Entry, History}
use Rattle.responder_machine.specs.History.Entry.{Clear, Sealed, Queued, Ticked, Dropped}
use Rattle.responder_machine.specs.Session.{id_in_record}
use Rattle.responder_machine.specs.Setup.{RspSetup}
use Rattle.responder_machine.specs.Turn.{takes}
use Rattle.spdm_grammar.specs.declared.names.request_code.TheConstants.{PSK_EXCHANGE}
use Rattle.spdm_machine.specs.Packets.{body_type}
use Rattle.capture_machine.specs.Difference.{Why, goes_why, reply_why}
use Rattle.capture_machine.specs.Difference.Why.{BadPacket, BadRecord, BadReply, WrongTurn}
use Rattle.capture_machine.specs.Opening.{opens_answering}
use Rattle.capture_machine.specs.Rounds.{Dialogue, Round, no_draw}

-- ---- How many messages came before.

left_messages : (e : Entry) (before left : History) → IsLeftBy e before left → messages_of left ≡ messages_of before
left_messages (Clear tag t d) before left is = by_code (takes PSK_EXCHANGE t) is
  where
    by_code : (b : Bool) → MatchBool b (IsWithoutHandshake before left) (left ≡ before) → messages_of left ≡ messages_of before
    by_code true (inl none) = ap messages_of none.1
    by_code true (inr one) = ap messages_of one.2
    by_code false same = ap messages_of same
left_messages (Sealed tag m t reply d) before left is = absurd is
left_messages (Queued bytes) before left is = absurd is
left_messages (Ticked seconds) before left is = absurd is
left_messages (Dropped id) before left is = absurd is

module _ (seen : JudgedResponder) (keys : AnswerKeys) (held : Held) (r : RspSetup) (h : History) (stands : StandsBefore seen keys held r h) where
  abbrev e : Entry
  e = Clear held.tag stands.turn no_draw

  pub few_left : messages_of stands.left ≤ messages_of h
  few_left =
      let left = left_messages e stands.before stands.left stands.left_is in
      let all = few_held held.late held.tag stands.turn stands.gets stands.before h stands.behind in
      omega (arith, left, all)

  -- It opens as by what was left.
  pub opens_left : (m sealed : List ℕ) → opens_answering r h true m sealed ≡ opens_answering r stands.left true m sealed
  opens_left = opens_held held.late held.tag stands.turn stands.gets stands.before stands.left h stands.behind stands.are stands.unseen stands.left_is r

  -- A reason by what was left is the reason.
  pub why_left : (d : Dialogue) (answer : List ℕ) (round : Round) → d.responder ≡ stands.left → (slice_index round.body 0 == 5) ≡ true
      → (all : Dialogue) → all.responder ≡ h → reply_why r d answer (Some round) ≡ reply_why r all answer (Some round)
  why_left d answer round left type all here = by_type (body_type answer == 5) refl
    where
      opens : Bool → Dialogue → Bool
      opens b x = opens_answering r x.responder b (drop 1 round.body) (drop 1 answer)

      at : (body_type round.body == 5) ≡ true
      at = type

      by_type : (b : Bool) → (body_type answer == 5) ≡ b → reply_why r d answer (Some round) ≡ reply_why r all answer (Some round)
      by_type true is = ap (λ (x : Bool). cond (x || opens (body_type round.body == 5) d) BadReply BadRecord) is ∙ sym (ap (λ (x : Bool). cond (x || opens (body_type round.body == 5) all) BadReply BadRecord) is)
      by_type false is =
          let F : Bool → Why = λ x. cond (body_type answer == 5 || x) BadReply BadRecord in
          ap (λ (b : Bool). F (opens b d)) at
          ∙ ap (λ (l : History). F (opens_answering r l true (drop 1 round.body) (drop 1 answer))) left
          ∙ ap F (sym (opens_left (drop 1 round.body) (drop 1 answer)))
          ∙ ap (λ (l : History). F (opens_answering r l true (drop 1 round.body) (drop 1 answer))) (sym here)
          ∙ ap (λ (b : Bool). F (opens b all)) (sym at)

-- The order gives no reason.
pub reason_is : (r : RspSetup) (k : Kept) (route : RouteFields) (answer : List ℕ) (turn : AnswersInTurn k route answer) → goes_why r (restored k) (Whole route answer) ≡ Some (reply_why r (restored k) answer (Some turn.round))
reason_is r k route answer turn =
    ap (λ (b : Bool). Some (cond b BadPacket (cond (replies_wrong k.round route.owner route.tag) WrongTurn (reply_why r (restored k) answer k.round)))) turn.other
    ∙ ap (λ (b : Bool). Some (cond b WrongTurn (reply_why r (restored k) answer k.round))) turn.right
    ∙ ap (λ (o : Option Round). Some (reply_why r (restored k) answer o)) turn.answers.0
