-- A repeat may always be answered with what it got; and while a large response is fetched in the clear, no other one
-- begins.
use Rattle.std.proofs.Common.{◌≡◌, ◌≤◌, ◌∙◌, ℕ, List, [], refl, sym, ap, subst, length, Bool, true, Option, Some, None, cond, drop, eqb-true, inl, inr, arith}
use Rattle.std.proofs.lemmas.Option.{none-some, same_Some}
use Rattle.std.specs.Prelude.{slice_index}
use Rattle.chunking.specs.Collecting.{joined_with, under_way}
use Rattle.responder_machine.specs.Answer.{Free, request_at}
use Rattle.responder_machine.specs.Handling.{chunk_in, turn_of}
use Rattle.responder_machine.specs.History.{Entry, History, kept_of}
use Rattle.responder_machine.specs.History.Entry.{Clear}
use Rattle.responder_machine.specs.LargeMessages.{chunks_of}
use Rattle.responder_machine.specs.Place.{Place, clear_place, inside}
use Rattle.responder_machine.specs.Responder.{is_repeat, kept_reply, on_clear}
use Rattle.responder_machine.specs.Responder.Outcome.{Adds, Same}
use Rattle.responder_machine.specs.Setup.{RspSetup}
use Rattle.spdm_grammar.specs.Message.{ChunkMessage}
use Rattle.spdm_grammar.specs.declared.names.TheConstants.{MAX_MESSAGE_SIZE}
use Rattle.spdm_machine.specs.Bodies.{clear_body}
use Rattle.check_responder.proofs.JudgedInClear.{clear_again}
use Rattle.check_responder.specs.ShownBy.{HasFewBlocks}
use Rattle.check_laws.proofs.LeastValues.{least_allowed}
use Rattle.check_laws.specs.AnswersShown.{least_values}
use Rattle.check_laws.specs.RepliesShown.{responder_for}
use Rattle.check_fetched_laws.proofs.ClearChunks.{next_is_given, repeat_is_same}
use Rattle.check_fetched_laws.proofs.ClearRound.{get_is_next}
use Rattle.check_fetched_laws.proofs.FewBytes.{answers_few}
use Rattle.check_fetched_laws.proofs.MeanwhileClear.{from_plain, get_begins_none, repeat_begins_none}
use Rattle.check_fetched_laws.specs.ClearMeanwhile.{NoneTurnsInClear, RepeatMayGo}
use Rattle.check_fetched_laws.specs.ClearRounds.{IsClearRound}
use Rattle.check_late_laws.specs.Fetching.{dialogue_of}
use Rattle.check_late_laws.specs.FetchingLaws.{AnswersFrom}
use Rattle.capture_machine.proofs.FetchedTells.{kept_large}
use Rattle.capture_machine.specs.CapturedAnswers.{AnswersLarge, MayLeadTo, answer_at}
use Rattle.capture_machine.specs.LargeAnswers.{with_large}
use Rattle.capture_machine.specs.Rounds.{Dialogue, Round, no_draw}

module _ (r : RspSetup) (blocks : HasFewBlocks r) (h : History) (whole : List ℕ) (tag : ℕ) (m : List ℕ) (again : is_repeat (kept_of h) tag m ≡ true) where
  abbrev g : History
  g = with_large None whole h

  abbrev p : Place
  p = clear_place g

  abbrev least : Free
  least = least_values g p

  short : (o : Option ChunkMessage) → length (answer_at r p m least o) ≤ MAX_MESSAGE_SIZE
  short None = answers_few r blocks g p m
  short (Some c) = answers_few r blocks g (inside p) (joined_with (under_way (chunks_of p.turns)) c)

  gets_same : on_clear r g tag m least no_draw ≡ Same (clear_body (kept_reply (kept_of h)))
  unfolding on_clear
  gets_same =
      let e : Entry = Clear tag (turn_of r p m least) no_draw in
      ap (λ y. cond (is_repeat y tag m) (Same (clear_body (kept_reply y))) (Adds e)) (kept_large None whole h)
      ∙ ap (λ (b : Bool). cond b (Same (clear_body (kept_reply (kept_of h)))) (Adds e)) again

  may_repeat : MayLeadTo r g tag (clear_body m) (Same (clear_body (kept_reply (kept_of h))))
  unfolding MayLeadTo
  may_repeat = (least, least_allowed g p [] (omega arith), short (chunk_in (request_at p m)), gets_same)

pub repeat_may_go : RepeatMayGo
repeat_may_go r d whole round m blocks fetching body again =
    let h : History = d.responder in
    from_plain r d whole round m (clear_body (kept_reply (kept_of h))) h fetching body ([], Same (clear_body (kept_reply (kept_of h))), (tt, may_repeat r blocks h whole round.tag m again), tt, refl, refl, refl)

pub none_turns_in_clear : NoneTurnsInClear
none_turns_in_clear w q older f next round route answer room own at type other turns = by_round rounds
  where
    r : RspSetup
    r = responder_for w f.kept

    whole : List ℕ
    whole = turns.2.2.0

    d : Dialogue
    d = dialogue_of f whole

    same : turns.2.0 ≡ round
    same = same_Some turns.2.0 round (sym turns.2.1.0 ∙ at)

    rounds : IsClearRound r d.responder whole round
    rounds = get_is_next w q older d whole round (own.all whole turns.2.2.3) refl at type

    typed : round.body ≡ clear_body (drop 1 round.body)
    typed = sym (clear_again round.body (eqb-true (slice_index round.body 0) 5 type))

    no_large : (other_whole : List ℕ) → AnswersLarge r d round answer turns.2.2.1 other_whole → ⊥
    no_large v large = elim rounds [
      | inl version ↦ other version
      | inr (inl again) ↦ (repeat_begins_none repeat_is_same r d whole round _ answer turns.2.2.1 v refl typed again).0 large
      | inr (inr get) ↦ get_begins_none next_is_given r d whole round get.0 get.1 answer turns.2.2.1 v refl get.2 get.3 large
    ]

    by_round : IsClearRound r d.responder whole round → ⊥
    by_round x = by_from (subst (λ (y : Round). AnswersFrom r d y answer turns.2.2.1 turns.2.2.2) same turns.2.2.4)
      where
        by_from : AnswersFrom r d round answer turns.2.2.1 turns.2.2.2 → ⊥
        by_from (inl large) = no_large large.0.0 large.0.1
        by_from (inr again) = none-some whole (sym again.0.1.0)
