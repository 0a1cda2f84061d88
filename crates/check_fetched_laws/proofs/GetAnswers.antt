-- While a large response is fetched in the clear, an answer that goes whole leaves the requester asking for the chunk
-- that the responder gives next.
use Rattle.std.proofs.Common.{◌≡◌, ◌<◌, ◌≤◌, ◌+◌, ◌^◌, ◌==◌, ◌&&◌, ◌⊎◌, ℕ, List, [], ◌∷◌, refl, sym, ap, ◌∙◌, subst, drop, length, Bool, true, false, Option, Some, None, is_some, cond, inl, inr, arith, eq-eqb}
use Rattle.std.specs.Prelude.{IfSome, bytes_eq, not, nat_lt, slice_index}
use Rattle.std.proofs.lemmas.Bool.{false≢true, not-true, ne_eqb}
use Rattle.std.proofs.lemmas.Bool.Decides.{nat_tests}
use Rattle.spdm_basis.proofs.Bools.{and_second}
use Rattle.chunking.proofs.ChunkLengths.{told_first}
use Rattle.chunking.proofs.ChunkSteps as step
use Rattle.chunking.specs.Cutting.{chunk_count, nth_chunk}
use Rattle.spdm_grammar.specs.Fields.{FitsChunk, IsSoundChunk}
use Rattle.spdm_grammar.specs.Message.{ChunkMessage}
use Rattle.spdm_machine.specs.Bodies.{clear_body}
use Rattle.requester_machine.specs.Asking.Outcome.{Adds as Takes}
use Rattle.requester_machine.specs.Bodies.{has_tag}
use Rattle.requester_machine.specs.Commands as commands
use Rattle.requester_machine.specs.Hearing.{hears}
use Rattle.requester_machine.specs.History as asker
use Rattle.requester_machine.specs.History.{next_tag, outstanding}
use Rattle.requester_machine.specs.Message.{Sent}
use Rattle.requester_machine.specs.Sending.{get_sent}
use Rattle.requester_machine.specs.Shown as shown
use Rattle.responder_machine.specs.History.{Entry, History, clear_turns, kept_of, negotiation_of}
use Rattle.responder_machine.specs.LargeMessages.{given_of, still_pending}
use Rattle.responder_machine.specs.May.{with_dropped}
use Rattle.responder_machine.specs.Place.{clear_place}
use Rattle.responder_machine.specs.Refusal.{has_pending}
use Rattle.responder_machine.specs.Responder.{Outcome, after, body_of as sent_body, is_repeat, kept_reply}
use Rattle.responder_machine.specs.Responder.Outcome.{Adds}
use Rattle.responder_machine.specs.Setup.{RspSetup}
use Rattle.responder_machine.proofs.Repeats.{bytes_eq-refl}
use Rattle.check_fetched_laws.proofs.GetSteps.{Fetches, IsChunkAsked, chunk_alone, next_gets, outcome_by, repeat_gets, tag_next}
use Rattle.check_fetched_laws.proofs.GetSteps.Fetches.{Owes, Asks, Has}
use Rattle.check_fetched_laws.proofs.LargeHeard.{heard_next}
use Rattle.check_fetched_laws.proofs.ReadyGets.{IsReady, common_at, ready_few, ready_next}
use Rattle.check_fetched_laws.specs.ClearChunks.{NextIsGiven, get_entry, get_message, get_response}
use Rattle.capture_machine.proofs.AskersAlike.{AskersAlike}
use Rattle.capture_machine.proofs.AskersHear.{next_later}
use Rattle.capture_machine.proofs.FetchedAnswers.{again_none, always_none}
use Rattle.capture_machine.proofs.FetchedTells.{ReadsAlways, get_reads}
use Rattle.capture_machine.proofs.HeardNext.{other_tag}
use Rattle.capture_machine.proofs.SmallGets.{chunk_sized}
use Rattle.capture_machine.specs.CapturedAnswers.{AreShown, Hears, HearsWhile, MayLeadAfter, is_plain}
use Rattle.capture_machine.specs.CapturedRequests.{is_later}
use Rattle.capture_machine.specs.LargeAnswers.{gives_last, is_fetching, is_large, with_large}
use Rattle.capture_machine.specs.Rounds.{Dialogue, Round, following_tag, no_draw}

-- ---- A chunk of a large answer is spelled.

large_fits : (b : Bool) (n : ℕ) → n < 2 ^ 32 → IfSome (cond b (Some n) None) (λ m. m < 2 ^ 32)
large_fits true n small = small
large_fits false n small = tt

chunk_fits : (transfer handle number : ℕ) (whole : List ℕ) → handle < 256 → number < 2 ^ 16 → length whole ≤ 4096 → FitsChunk (nth_chunk transfer handle whole number)
chunk_fits transfer handle number whole byte few short = record { handle = byte; number = few; large = large_fits (number == 0) (length whole) (omega (arith, short)) }

chunk_sound : (transfer handle number : ℕ) (whole : List ℕ) → 42 ≤ transfer → length whole ≤ 4096 → IsSoundChunk (nth_chunk transfer handle whole number)
chunk_sound transfer handle number whole low short =
    let size = step.size_is transfer handle whole (omega (arith, low)) number in record { first = told_first (number == 0) (length whole); size = omega (arith, size, short) }

-- ---- What the requester heard.

-- It took it, or nothing changed.
abbrev pub HeardSo : Dialogue → (tag : ℕ) → (answer : List ℕ) → asker.History → Type 0
HeardSo d tag answer g = ((entry : asker.Entry) × (f : commands.Free) × (hears d.setup d.requester false tag answer f no_draw ≡ Takes entry) × (g ≡ entry ∷ d.requester)) ⊎ (g ≡ d.requester)

pub heard_so : (d : Dialogue) (tag : ℕ) (answer : List ℕ) (g : asker.History) → d.sending ≡ None → Hears d tag answer g → HeardSo d tag answer g
unfolding Hears
heard_so d tag answer g none heard = by_while (subst (λ (o : Option (List ℕ)). HearsWhile o d tag answer g) none heard)
  where
    by_while : HearsWhile None d tag answer g → HeardSo d tag answer g
    by_while x = elim (outcome_by d.requester x.0) [
      | inl takes ↦ inl (takes.0, x.1.0, x.1.2 ∙ takes.1, x.2 ∙ ap (shown.after d.requester) takes.1)
      | inr stays ↦ inr (x.2 ∙ stays)
    ]

-- What comes under another tag is not heard.
pub deaf : (d : Dialogue) (tag : ℕ) (answer : List ℕ) (g : asker.History) (sent : Sent) → d.sending ≡ None → outstanding d.requester ≡ Some sent → has_tag (Some sent) tag ≡ false → Hears d tag answer g → g ≡ d.requester
unfolding Hears
deaf d tag answer g sent none waits apart heard = by_while (subst (λ (o : Option (List ℕ)). HearsWhile o d tag answer g) none heard)
  where
    by_while : HearsWhile None d tag answer g → g ≡ d.requester
    by_while x = x.2 ∙ ap (shown.after d.requester) (sym x.1.2) ∙ other_tag d.setup d.requester sent x.1.0 tag answer no_draw waits apart

some_by : (b : Bool) (x : List ℕ) → is_some (cond b (Some x) None) ≡ b
some_by true x = refl
some_by false x = refl

module _ (r : RspSetup) (room : 6 ≤ r.transfer) (given : NextIsGiven) (d : Dialogue) (rd : Round) (at : d.round ≡ Some rd) (askers : AskersAlike d.round d.requester d.requester d.sending d.sending)
    (gets : is_fetching (outstanding d.requester) ≡ true) (type : (slice_index rd.body 0 == 5) ≡ true) (whole answer : List ℕ) (g : asker.History) (hear : Hears d rd.tag answer g) (goes : is_fetching (outstanding g) ≡ true) where
  abbrev k : History
  k = d.responder

  alone : d.sending ≡ None
  alone = chunk_alone d.round d.requester d.requester d.sending d.sending askers gets

  -- The chunk of this number was given, and is not the last one.
  chunk_given : (next : History) (handle number : ℕ) (m : IsChunkAsked d.requester handle number) → is_later (Some rd) (Some m.sent) ≡ false → rd.body ≡ clear_body (get_message handle number)
      → is_repeat (kept_of next) rd.tag (drop 1 rd.body) ≡ true → kept_reply (kept_of next) ≡ get_response next whole handle number → IsReady next whole handle (number + 1)
      → answer ≡ clear_body (get_response next whole handle number) → Fetches g next whole rd
  chunk_given next handle number m own body again reply ready is = elim (heard_so d rd.tag answer g alone hear) [
    | inr same ↦ subst (λ (l : asker.History). Fetches l next whole rd) (sym same) (Has handle number m own body again reply ready)
    | inl takes ↦
        let transfer : ℕ = (common_at (clear_turns (with_large None whole next))).to_requester.transfer in
        let low = chunk_sized (negotiation_of (clear_turns (with_large None whole next))) ready.chunks in
        let c : ChunkMessage = nth_chunk transfer handle whole number in
        let few = ready_few next whole handle (number + 1) ready in
        let more = ready.more in
        let fits : FitsChunk c = chunk_fits transfer handle number whole ready.byte (omega (arith, few)) ready.short in
        let sound : IsSoundChunk c = chunk_sound transfer handle number whole (omega (arith, low)) ready.short in
        let not_last : c.last ≡ false = ne_eqb (number + 1) (chunk_count transfer whole) (λ e. absurd (grind (arith, nat_tests))) in
        let heard = heard_next d.setup d.requester takes.1 rd.tag answer takes.0 takes.2 (ap (λ (l : List ℕ). slice_index l 0 == 5) is) m.sent m.asked handle number m.before c m.waits m.aims fits sound not_last (ap (drop 1) is)
        (sym (ap (λ (l : asker.History). is_fetching (outstanding l)) takes.3) ∙ goes) in
        let rests : is_later d.round (outstanding d.requester) ≡ false = ap (λ (o : Option Round). is_later o (outstanding d.requester)) at ∙ ap (is_later (Some rd)) m.waits ∙ own in
        let tag : next_tag d.requester ≡ following_tag (Some rd) = tag_next d.round d.requester d.requester d.sending d.sending askers alone rests ∙ ap following_tag at in
        subst (λ (l : asker.History). Fetches l next whole rd) (sym takes.3)
        (Owes handle (number + 1) (record { sent = get_sent d.requester m.asked handle (number + 1) (c ∷ m.before); asked = m.asked; before = c ∷ m.before; waits = heard; aims = refl })
        (next_later rd (get_sent d.requester m.asked handle (number + 1) (c ∷ m.before)) tag) again ready)
  ]

  abbrev large : History
  large = with_large None whole k

  -- After the chunk more are left.
  more_left : (tag handle number : ℕ) → IsReady k whole handle number → is_plain large (Adds (get_entry tag handle number (get_response k whole handle number))) ≡ true
      → nat_lt (number + 1) (chunk_count (common_at (clear_turns large)).to_requester.transfer whole) ≡ true
  more_left tag handle number ready plain =
      let transfer : ℕ = (common_at (clear_turns large)).to_requester.transfer in
      let e : Entry = get_entry tag handle number (get_response k whole handle number) in
      let pending : has_pending (clear_place (e ∷ large)) ≡ nat_lt (number + 1) (chunk_count transfer whole) =
      ap (λ (o : Option (List ℕ)). is_some (still_pending transfer (given_of (clear_turns large) + 1) o)) ready.large
      ∙ ap (λ (n : ℕ). is_some (cond (nat_lt (n + 1) (chunk_count transfer whole)) (Some whole) None)) ready.given ∙ some_by (nat_lt (number + 1) (chunk_count transfer whole)) whole in
      let last : gives_last large e ≡ not (nat_lt (number + 1) (chunk_count transfer whole)) = ap not pending in
      by_more (nat_lt (number + 1) (chunk_count transfer whole)) (sym (ap not last) ∙ and_second (not (is_large e)) (not (gives_last large e)) plain)
    where
      by_more : (b : Bool) → not (not b) ≡ true → b ≡ true
      by_more true is = refl
      by_more false is = is

  again_kept : (tag handle number : ℕ) → rd.tag ≡ tag → rd.body ≡ clear_body (get_message handle number) → is_repeat (kept_of (get_entry tag handle number (get_response k whole handle number) ∷ k)) rd.tag (drop 1 rd.body) ≡ true
  again_kept tag handle number one body =
      ap (λ (b : Bool). b && bytes_eq (get_message handle number) (drop 1 rd.body)) (eq-eqb tag rd.tag (sym one))
      ∙ ap (λ (l : List ℕ). bytes_eq (get_message handle number) (drop 1 l)) body ∙ bytes_eq-refl (get_message handle number)

  pub plain_step : (dropped : List ℕ) (o : Outcome) (next : History) → MayLeadAfter r large dropped rd.tag rd.body o → AreShown r large rd.body o dropped → is_plain large o ≡ true → sent_body o ≡ answer → next ≡ after (with_dropped k dropped) o
      → Fetches d.requester k whole rd → Fetches g next whole rd
  plain_step dropped o next may seen plain sent is (Owes handle number m later again ready) =
      let none : dropped ≡ [] = again_none r k None whole dropped rd.tag rd.body o type again may seen in
      let same = repeat_gets r room k whole dropped rd.tag rd.body o type again may.1 in
      let here : next ≡ k = is ∙ ap (λ (l : List ℕ). after (with_dropped k l) o) none ∙ ap (after k) same in
      let apart : has_tag (Some m.sent) rd.tag ≡ false = not-true (m.sent.tag == rd.tag) later in
      let stays = deaf d rd.tag answer g m.sent alone m.waits apart hear in
      subst (λ (l : History). Fetches g l whole rd) (sym here) (subst (λ (l : asker.History). Fetches l k whole rd) (sym stays) (Owes handle number m later again ready))
  plain_step dropped o next may seen plain sent is (Has handle number m own body again reply ready) =
      let none : dropped ≡ [] = again_none r k None whole dropped rd.tag rd.body o type again may seen in
      let same = repeat_gets r room k whole dropped rd.tag rd.body o type again may.1 in
      let here : next ≡ k = is ∙ ap (λ (l : List ℕ). after (with_dropped k l) o) none ∙ ap (after k) same in
      let answered : answer ≡ clear_body (get_response k whole handle number) = sym sent ∙ ap sent_body same ∙ ap clear_body reply in
      subst (λ (l : History). Fetches g l whole rd) (sym here) (chunk_given k handle number m own body again reply ready answered)
  plain_step dropped o next may seen plain sent is (Asks handle number m own body anew ready) =
      let reads : ReadsAlways (drop 1 rd.body) = subst (λ (l : List ℕ). ReadsAlways (drop 1 l)) (sym body) (get_reads handle number) in
      let none : dropped ≡ [] = always_none r large dropped rd.tag rd.body o type reads may seen in
      let gives = next_gets r room k whole given dropped rd.tag rd.body handle number o body ready anew may.1 in
      let e : Entry = get_entry rd.tag handle number (get_response k whole handle number) in
      let adds : o ≡ Adds e = gives ∙ ap (λ (l : List ℕ). Adds (get_entry rd.tag handle number (get_response (with_dropped k l) whole handle number))) none in
      let here : next ≡ e ∷ k = is ∙ ap (λ (l : List ℕ). after (with_dropped k l) o) none ∙ ap (after k) adds in
      let more = more_left rd.tag handle number ready (sym (ap (is_plain large) adds) ∙ plain) in
      let answered : answer ≡ clear_body (get_response k whole handle number) = sym sent ∙ ap sent_body adds in
      subst (λ (l : History). Fetches g l whole rd) (sym here)
      (chunk_given (e ∷ k) handle number m own body (again_kept rd.tag handle number refl body) refl (ready_next k whole rd.tag handle number ready more) answered)

  -- It is no new LargeResponse.
  pub large_not : (dropped : List ℕ) (e : Entry) → MayLeadAfter r large dropped rd.tag rd.body (Adds e) → is_large e ≡ true → Fetches d.requester k whole rd → ⊥
  large_not dropped e may big (Owes handle number m later again ready) = let same = repeat_gets r room k whole dropped rd.tag rd.body (Adds e) type again may.1 in absurd (cc)
  large_not dropped e may big (Has handle number m own body again reply ready) = let same = repeat_gets r room k whole dropped rd.tag rd.body (Adds e) type again may.1 in absurd (cc)
  large_not dropped e may big (Asks handle number m own body anew ready) =
      let gives = next_gets r room k whole given dropped rd.tag rd.body handle number (Adds e) body ready anew may.1 in
      let same : e ≡ get_entry rd.tag handle number (get_response (with_dropped k dropped) whole handle number) = cc gives in
      false≢true (ap is_large (sym same) ∙ big)
