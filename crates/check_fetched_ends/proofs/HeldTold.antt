-- What is reported of an answer while a large one is fetched in the clear: what is not judged, and why it is refused.
use Rattle.std.proofs.Common.{◌≡◌, ◌≢◌, ◌≤◌, ◌<◌, ◌-◌, ◌^◌, ◌+◌, ◌==◌, ◌&&◌, ◌||◌, ◌⊎◌, ◌∙◌, ℕ, List, refl, sym, ap, subst, drop, length, arith, Bool, true, false, Option, Some, None, cond, inl, inr, Ok, Err, eqb-true}
use Rattle.std.specs.Prelude.{not, slice_index}
use Rattle.std.proofs.lemmas.Bool.{false≢true}
use Rattle.mctp_framing.specs.Cutting.{RouteFields}
use Rattle.mctp_framing.specs.Gathering.Gathered.{Whole}
use Rattle.spdm_grammar.specs.declared.told.why.Why as declared_why
use Rattle.check_ends.proofs.InTurn.{AnswersInTurn}
use Rattle.check_ends.specs.declared.party.Party.{Party}
use Rattle.check_laws.specs.Judged.{why_of}
use Rattle.check_laws.specs.Keeping.{Kept, restored}
use Rattle.check_laws.specs.RepliesShown.{responder_for}
use Rattle.check_laws.specs.declared.verdict.Seen.{Seen}
use Rattle.check_fetched_ends.proofs.HeldNever.{apart_never, ends_never, goes_never, turns_never}
use Rattle.check_fetched_ends.proofs.HeldRounds.{type}
use Rattle.check_fetched_ends.proofs.HeldWhy.{reason_is, why_left}
use Rattle.check_fetched_ends.specs.Fetched.{IsFetchedWhy, IsRepliedTo}
use Rattle.check_fetched_ends.specs.Held.{IsHeldIn, IsShownHeld}
use Rattle.check_fetched_ends.specs.declared.clear_fetch.held.Held.{Held}
use Rattle.check_fetched_ends.specs.declared.clear_fetch.shown.Shown.TheVariants as shown
use Rattle.check_fetched_ends.specs.declared.upon.Upon.TheVariants as upon
use Rattle.check_late_laws.specs.Fetching.{Fetching, IsFetchingOf, MayStand, dialogue_of}
use Rattle.requester_machine.specs.Setup.{ReqSetup}
use Rattle.responder_machine.specs.Responder.{Outcome}
use Rattle.responder_machine.specs.Session.{id_in_record}
use Rattle.responder_machine.specs.Setup.{RspSetup}
use Rattle.spdm_grammar.specs.Message.RequestMessage.{GetVersion}
use Rattle.spdm_grammar.specs.Requests.{canonical_request}
use Rattle.spdm_machine.specs.Bodies.{clear_body}
use Rattle.spdm_machine.specs.Packets.{body_type}
use Rattle.capture_machine.specs.Difference.{GoesApart, Why, goes_why, reply_why}
use Rattle.capture_machine.specs.Difference.Why.{BadPacket, UnknownEnd, WrongTurn, BadRequest, BadReply, BadVerify, BadRecord}
use Rattle.capture_machine.specs.Opening.{opens_answering}
use Rattle.capture_machine.specs.Rounds.{Dialogue, Round}
use Rattle.capture_machine.specs.SessionTable.{Row}
use Rattle.world_machine.specs.Setup.{Configuration}

two_reasons : (b : Bool) → BadVerify ≡ cond b BadReply BadRecord → ⊥
two_reasons true is = absurd (cc)
two_reasons false is = absurd (cc)

module _ (w : Configuration) (q : ReqSetup) (older : List (List ℕ)) (rows : List Row) (f : Fetching) (own : IsFetchingOf w q older f) (party : Party) (held : Held) (kept : IsHeldIn party held w q f rows) (route : RouteFields) (answer : List ℕ) (turn : AnswersInTurn f.kept route answer) (new : Party) (stands : Fetching → List Row → Type 0) (table : List Seen) where
  abbrev r : RspSetup
  r = responder_for w f.kept

  -- It is refused.
  module _ (other : turn.round.body ≢ clear_body (canonical_request GetVersion)) (never : IsShownHeld held turn.round.tag turn.round.body answer shown.Other) where
    abbrev NoApart : Type 0
    NoApart = (whole : List ℕ) → MayStand f whole → GoesApart (responder_for w f.kept) (dialogue_of f whole) (Whole route answer) → ⊥

    none_apart : NoApart
    none_apart whole stand = apart_never w q older rows f own party held kept turn.round turn.answers.0 other answer never route whole stand

    pub refused_told : (d : Dialogue) (why : declared_why.Why) → d.responder ≡ kept.before.left → why_of why ≡ reply_why (responder_for w f.kept) d answer (Some turn.round) → IsRepliedTo w q older rows f route answer (Err why) new stands table
    refused_told d why left is = (
      goes_never w q older rows f own party held kept turn.round turn.answers.0 other answer never route,
      turns_never w q older rows f own party held kept turn.round turn.answers.0 other answer never route,
      ends_never w q older rows f own party held kept turn.round turn.answers.0 other answer never route,
      by_why (why_of why) (is ∙ why_left party.answerer party.keys held r f.kept.responder kept.before d answer turn.round left (type w q older rows f own party held kept turn.round turn.answers.0 other) (restored f.kept) refl),
    )
      where
        told : (x : Why) → x ≡ reply_why r (restored f.kept) answer (Some turn.round) → goes_why r (restored f.kept) (Whole route answer) ≡ Some x
        told x same = reason_is r f.kept route answer turn ∙ ap Some (sym same)

        by_why : (x : Why) → x ≡ reply_why r (restored f.kept) answer (Some turn.round) → IsFetchedWhy w f (Whole route answer) x
        by_why BadVerify same = absurd (two_reasons (body_type answer == 5 || opens_answering r f.kept.responder (body_type turn.round.body == 5) (drop 1 turn.round.body) (drop 1 answer)) same)
        by_why BadPacket same = (none_apart, told BadPacket same)
        by_why UnknownEnd same = (none_apart, told UnknownEnd same)
        by_why WrongTurn same = (none_apart, told WrongTurn same)
        by_why BadRequest same = (none_apart, told BadRequest same)
        by_why BadReply same = (none_apart, told BadReply same)
        by_why BadRecord same = (none_apart, told BadRecord same)
