-- Whether a clear message leads to LargeResponse at some values.
use Rattle.std.proofs.Common.{◌≡◌, ◌<◌, ◌↔◌, ◌∙◌, ℕ, List, [], refl, sym, ap, subst, Bool, true, false, Option, Some, None, is_some, cond}
use Rattle.std.proofs.lemmas.Bool.{false≢true}
use Rattle.chunking.specs.Collecting.{broken_rule, collected, joined_with, under_way}
use Rattle.chunking.specs.Collecting.Collection.{Whole}
use Rattle.responder_core.proofs.Chunked.{rule_whole}
use Rattle.responder_core.specs.Gathering.{is_whole}
use Rattle.responder_machine.specs.Answer.{Free, request_at}
use Rattle.responder_machine.specs.Handling.{carried_turn, chunk_in, last_chunk_turn, taken_chunk, turn_by, turn_of}
use Rattle.responder_machine.specs.History.{Entry, History, kept_of}
use Rattle.responder_machine.specs.LargeMessages.{chunks_of}
use Rattle.responder_machine.specs.Place.{Place, clear_place, inside}
use Rattle.responder_machine.specs.Refusal.{refusal}
use Rattle.responder_machine.specs.Responder.{body_of, is_repeat, on_clear, sent_by}
use Rattle.responder_machine.specs.Responder.Outcome.{Adds}
use Rattle.responder_machine.specs.Setup.{RspSetup}
use Rattle.responder_machine.specs.Turn.{handle_in}
use Rattle.responder_machine.specs.Turn.Effect.{NoEffect}
use Rattle.spdm_grammar.specs.Message.{ChunkMessage}
use Rattle.spdm_grammar.specs.declared.messages.error_code.ErrorCode.{ErrorCode}
use Rattle.spdm_machine.specs.Bodies.{clear_body}
use Rattle.check_laws.proofs.BodyShown.{large_are_shown}
use Rattle.check_laws.specs.AnswersShown.{LeadsAt, clear_values, values_shown_by}
use Rattle.check_responder.proofs.ClearAsked.{answers_so, passed_whole}
use Rattle.check_responder.proofs.ClearJudged.{adds_at, entry, parts_large, shown_anew}
use Rattle.check_responder.specs.ClearAnswers.{IsAnsweredAt, IsGivenAt, given_of, is_large_given}
use Rattle.check_responder.specs.ShownBy.{AnswersSo}
use Rattle.check_responder.specs.WholeAnswers.{IsLargeAt}
use Rattle.check_responder.specs.declared.given.Given.{Given}
use Rattle.check_responder.specs.declared.given.Given.TheVariants as kinds
use Rattle.capture_machine.proofs.TurnsAlike.{chunk_is}
use Rattle.capture_machine.specs.CapturedAnswers.{MayLeadTo}
use Rattle.capture_machine.specs.LargeAnswers.{gives_last, is_large}
use Rattle.capture_machine.specs.Rounds.{no_draw}

-- ---- What is told of the answer tells it.

pub brought_large : (r : RspSetup) (h : History) (tag : ℕ) (m : List ℕ) (f : Free) (reply : List ℕ) (o : Option Given) → IsGivenAt r h tag m f reply o → (is_large_given o ≡ true) ↔ IsLargeAt r h tag m f reply
brought_large r h tag m f reply None none = (λ is. absurd (false≢true is), λ l. absurd (none l.answered))
brought_large r h tag m f reply (Some kinds.Large) given = (λ is. record { answered = given.0; large = sym given.1 }, λ l. refl)
brought_large r h tag m f reply (Some kinds.Whole) given = (λ is. absurd (false≢true is), λ l. absurd (let e = given.1 ∙ l.large in cc))
brought_large r h tag m f reply (Some kinds.Last) given = (λ is. absurd (false≢true is), λ l. absurd (let e = given.1 ∙ l.large in cc))

pub large_given : (o : Option Given) → is_large_given o ≡ true → is_some o ≡ true
large_given None is = absurd (false≢true is)
large_given (Some x) is = refl

-- ---- A message that is no repeat.

module _ (r : RspSetup) (h : History) (tag : ℕ) (m reply : List ℕ) where
  abbrev p : Place
  p = clear_place h

  module _ (anew : is_repeat (kept_of h) tag m ≡ false) (f : Free) (at : IsLargeAt r h tag m f reply) where
    abbrev e : Entry
    e = entry r tag m reply h f

    adds : on_clear r h tag m f no_draw ≡ Adds e
    adds = adds_at r tag m reply h f anew

    large : is_large e ≡ true
    large = parts_large (is_large e) (gives_last h e) (ap (given_of h) (sym adds) ∙ at.large)

    sent : sent_by e ≡ clear_body reply
    sent = ap body_of (sym adds) ∙ at.answered.body

    -- It has LargeResponse at the values that this shows.
    pub so_shown : r.beat < 256 → AnswersSo r h m reply (clear_values r h m reply)
    unfolding MayLeadTo
    so_shown byte =
        let may : MayLeadTo r h tag (clear_body m) (Adds e) = (f, at.answered.allowed, at.answered.short, adds) in
        let known = large_are_shown r h tag (clear_body m) e byte large may in
        let there : LeadsAt r h tag (clear_body m) (Adds known.0) (clear_values r h m reply) =
        subst (λ (x : Free). LeadsAt r h tag (clear_body m) (Adds known.0) x) (shown_anew r tag m reply h anew)
        (subst (λ (l : List ℕ). LeadsAt r h tag (clear_body m) (Adds known.0) (values_shown_by r h tag (clear_body m) l)) sent known.1) in
        answers_so r h m tag (clear_values r h m reply) reply anew (record { allowed = there.0; short = there.1; body = ap body_of there.2 ∙ known.3 ∙ sent })

    -- A chunk of a large request completes that.
    pub completes_large : (c : ChunkMessage) → chunk_in (request_at (clear_place h) m) ≡ Some c → is_whole (collected r.max (chunks_of (clear_place h).turns) c) ≡ false → ⊥
    unfolding turn_of
    completes_large c chunk none = by_refusal (refusal r p m f) (chunk_in (request_at p m)) refl chunk large
      where
        by_last : (b : Bool) → c.last ≡ b → refusal r p m f ≡ None
            → is_some (handle_in (cond b (last_chunk_turn r (inside p) m f c (joined_with (under_way (chunks_of p.turns)) c)) (taken_chunk m c NoEffect [])).effect) ≡ true → ⊥
        by_last false is passed some = false≢true some
        by_last true is passed some = false≢true (sym none ∙ passed_whole r h m f c (chunk_is (request_at p m) c chunk) is passed)

        by_refusal : (o : Option ErrorCode) (x : Option ChunkMessage) → refusal r p m f ≡ o → x ≡ Some c → is_some (handle_in (turn_by r p m f o x).effect) ≡ true → ⊥
        by_refusal (Some code) x refused is some = false≢true some
        by_refusal None x passed is some = by_last c.last refl passed (subst (λ (y : Option ChunkMessage). is_some (handle_in (turn_by r p m f None y).effect) ≡ true) is some)

-- The bytes of the large request that a chunk completes.
pub completed_is : (max : ℕ) (before : List ChunkMessage) (c : ChunkMessage) (whole : List ℕ) → collected max before c ≡ Whole whole → joined_with (under_way before) c ≡ whole
completed_is max before c whole done = sym (rule_whole (broken_rule max (under_way before) c) c (joined_with (under_way before) c) whole (sym done)).2
