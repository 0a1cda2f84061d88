-- While a large response is fetched in the clear, the requester asks for the chunk that the responder gives next. Each
-- step of a dialogue keeps it.
use Rattle.std.proofs.Common.{◌≡◌, ◌≤◌, ◌+◌, ◌%◌, ◌==◌, ◌&&◌, ◌⊎◌, ℕ, List, [], ◌∷◌, refl, sym, ap, ◌∙◌, subst, drop, Bool, true, false, Option, Some, None, inl, inr, arith, eq-eqb, eqb-true}
use Rattle.std.specs.Prelude.{bytes_eq, not, nat_lt, slice_index}
use Rattle.std.proofs.lemmas.Bool.{false≢true, ne_eqb}
use Rattle.std.proofs.lemmas.Option.{none-some, same_Some}
use Rattle.spdm_basis.proofs.Bools.{and_first}
use Rattle.chunking.specs.Cutting.{chunk_count}
use Rattle.spdm_grammar.specs.Message.{ChunkMessage, RequestMessage}
use Rattle.spdm_machine.specs.Bodies.{clear_body}
use Rattle.requester_machine.specs.Asking as asking
use Rattle.requester_machine.specs.Asking.Outcome.{Fails, Ignores, Warns, Resends, Adds as Takes}
use Rattle.requester_machine.specs.History as asker
use Rattle.requester_machine.specs.History.{next_tag, outstanding}
use Rattle.requester_machine.specs.Message.{Aim, Sent, body_of}
use Rattle.requester_machine.specs.Message.Aim.{ForChunk}
use Rattle.requester_machine.specs.Shown as shown
use Rattle.responder_machine.specs.History.{History, Kept, clear_turns, kept_of}
use Rattle.responder_machine.specs.History.Entry.{Dropped as Gone}
use Rattle.responder_machine.specs.LargeMessages.{given_of, handle_of, large_of}
use Rattle.responder_machine.specs.May.{with_dropped}
use Rattle.responder_machine.specs.Responder.{Outcome, is_repeat, kept_reply}
use Rattle.responder_machine.specs.Responder.Outcome.{Same, Adds}
use Rattle.responder_machine.specs.Setup.{RspSetup}
use Rattle.responder_machine.specs.Turn.{Turn}
use Rattle.check_fetched_laws.proofs.ReadyGets.{IsReady, common_at, ready_few}
use Rattle.check_fetched_laws.specs.ClearChunks.{IsNextGet, NextIsGiven, get_entry, get_message, get_response}
use Rattle.capture_machine.proofs.AskersAim.{Asker, IsSpelled}
use Rattle.capture_machine.proofs.AskersAlike.{AskersAlike}
use Rattle.capture_machine.proofs.AskersAlike.AskersAlike.{Settled, Owing, Shown, Due}
use Rattle.capture_machine.proofs.DropsTell.{kept_same, turns_stay}
use Rattle.capture_machine.proofs.FetchedAnswers.{repeated}
use Rattle.capture_machine.proofs.PlainTells.{led_clear}
use Rattle.capture_machine.specs.CapturedAnswers.{MayLeadTo}
use Rattle.capture_machine.specs.CapturedRequests.{GoesOn, is_later}
use Rattle.capture_machine.specs.LargeAnswers.{is_fetching, is_for_chunk, with_large}
use Rattle.capture_machine.specs.Rounds.{Dialogue, Round, following_tag, new_round}

-- ---- How far it is.

-- A chunk of this number is asked for, or is to be, under this handle.
pub record IsChunkAsked (h : asker.History) (handle number : ℕ) : Type 0 where
  pub sent : Sent
  pub asked : RequestMessage
  pub before : List ChunkMessage
  pub waits : outstanding h ≡ Some sent
  pub aims : sent.aim ≡ ForChunk asked handle number before

-- The next chunk is to be asked for, and the last request was answered; or it is asked for; or it was given, and the requester
-- did not take it.
pub data Fetches (h : asker.History) (k : History) (whole : List ℕ) (round : Round) : Type 0 where
  Owes : (handle number : ℕ) → (m : IsChunkAsked h handle number) → is_later (Some round) (Some m.sent) ≡ true → is_repeat (kept_of k) round.tag (drop 1 round.body) ≡ true → IsReady k whole handle number → Fetches h k whole round
  Asks : (handle number : ℕ) → (m : IsChunkAsked h handle number) → is_later (Some round) (Some m.sent) ≡ false → round.body ≡ clear_body (get_message handle number) → is_repeat (kept_of k) round.tag (drop 1 round.body) ≡ false → IsReady k whole handle number → Fetches h k whole round
  Has : (handle number : ℕ) → (m : IsChunkAsked h handle number) → is_later (Some round) (Some m.sent) ≡ false → round.body ≡ clear_body (get_message handle number) → is_repeat (kept_of k) round.tag (drop 1 round.body) ≡ true
      → kept_reply (kept_of k) ≡ get_response k whole handle number → IsReady k whole handle (number + 1) → Fetches h k whole round

pub moved : (h : asker.History) (k : History) (whole : List ℕ) (round : Round) (n : ℕ) (b : Bool) → Fetches h k whole round → Fetches h k whole (record round { waiting = n; answered = b })
moved h k whole round n b (Owes handle number m later again ready) = Owes handle number m later again ready
moved h k whole round n b (Asks handle number m own body anew ready) = Asks handle number m own body anew ready
moved h k whole round n b (Has handle number m own body again reply ready) = Has handle number m own body again reply ready

-- ---- Tags.

-- While a chunk is asked for no large request is sent.
pub chunk_alone : (round : Option Round) (h g : asker.History) (sd se : Option (List ℕ)) → AskersAlike round h g sd se → is_fetching (outstanding h) ≡ true → sd ≡ None
chunk_alone round _ _ _ _ (Settled h g agree not at) gets = refl
chunk_alone round _ _ _ _ (Owing e f h g s t agree alike out sent like tagged else later at) gets = refl
chunk_alone round _ _ _ _ (Shown h g w v a b handle number s t u waits wait aims aim tags not at) gets =
    absurd (false≢true (sym (ap is_fetching waits ∙ ap is_for_chunk aims) ∙ gets))
chunk_alone round _ _ _ _ (Due tag m h g w v a b handle number u still at) gets = absurd (false≢true gets)

-- What is owed has the tag that follows, and so has what is sent next where nothing is owed.
pub tag_owed : (round : Option Round) (h g : asker.History) (sd se : Option (List ℕ)) (s : Sent) → AskersAlike round h g sd se → sd ≡ None → outstanding h ≡ Some s → is_later round (Some s) ≡ true → s.tag ≡ following_tag round
tag_owed round _ _ _ _ s (Settled h g agree not at) none waits later = absurd (false≢true (sym not ∙ ap (is_later round) waits ∙ later))
tag_owed round _ _ _ _ s (Owing e f h g x t agree alike out sent like tagged else still at) none waits later =
    let same : x ≡ s = same_Some x s (sym out ∙ waits) in ap (λ (y : Sent). y.tag) (sym same) ∙ tagged
tag_owed round _ _ _ _ s (Shown h g w v a b handle number x t u waits wait aims aim tags not at) none here later = absurd (none-some w (sym none))
tag_owed round _ _ _ _ s (Due tag m h g w v a b handle number u still at) none waits later = absurd (none-some w (sym none))

pub tag_next : (round : Option Round) (h g : asker.History) (sd se : Option (List ℕ)) → AskersAlike round h g sd se → sd ≡ None → is_later round (outstanding h) ≡ false → next_tag h ≡ following_tag round
tag_next round _ _ _ _ (Settled h g agree not at) none rests = at
tag_next round _ _ _ _ (Owing e f h g s t agree alike out sent like tagged else later at) none rests = absurd (false≢true (sym rests ∙ ap (is_later round) out ∙ later))
tag_next round _ _ _ _ (Shown h g w v a b handle number s t u waits wait aims aim tags not at) none rests = absurd (none-some w (sym none))
tag_next round _ _ _ _ (Due tag m h g w v a b handle number u still at) none rests = absurd (none-some w (sym none))

-- Under another tag it is no repeat.
anew_by : (o : Option Kept) (one other : ℕ) (m n : List ℕ) → other ≡ (one + 1) % 8 → is_repeat o one m ≡ true → is_repeat o other n ≡ false
anew_by None one other m n tag again = absurd (false≢true again)
anew_by (Some kept) one other m n tag again =
    let same : kept.tag ≡ one = eqb-true kept.tag one (and_first (kept.tag == one) _ again) in
    ap (λ (b : Bool). b && bytes_eq kept.message n) (ne_eqb kept.tag other (λ is. omega (arith, same, tag, is)))

-- ---- The chunk is asked for.

later_not : (round : Round) (s : Sent) → s.tag ≡ round.tag → is_later (Some round) (Some s) ≡ false
later_not round s is = ap not (eq-eqb s.tag round.tag is)

module _ (d : Dialogue) (round : Round) (at : d.round ≡ Some round) (askers : AskersAlike d.round d.requester d.requester d.sending d.sending) (sound : Asker d.requester round.body) where
  pub goes_on : (whole : List ℕ) (tag : ℕ) (body : List ℕ) (next : asker.History) (sending : Option (List ℕ)) → tag ≡ following_tag d.round → is_fetching (outstanding d.requester) ≡ true
      → Fetches d.requester d.responder whole round → GoesOn d body next sending → Fetches next d.responder whole (new_round tag body)
  goes_on whole tag body next sending tagged gets old goes = subst (λ (l : asker.History). Fetches l d.responder whole (new_round tag body)) (sym goes.5) (by_old old)
    where
      due : is_later (Some round) (Some goes.0) ≡ true
      due = ap (λ (r : Option Round). is_later r (Some goes.0)) (sym at) ∙ ap (is_later d.round) (sym goes.1.0) ∙ goes.1.1

      not_due : (handle number : ℕ) (m : IsChunkAsked d.requester handle number) → is_later (Some round) (Some m.sent) ≡ false → ⊥
      not_due handle number m own =
          let same : m.sent ≡ goes.0 = same_Some m.sent goes.0 (sym m.waits ∙ goes.1.0) in false≢true (sym own ∙ ap (λ (s : Sent). is_later (Some round) (Some s)) same ∙ due)

      by_old : Fetches d.requester d.responder whole round → Fetches d.requester d.responder whole (new_round tag body)
      by_old (Owes handle number m later again ready) =
          let same : m.sent ≡ goes.0 = same_Some m.sent goes.0 (sym m.waits ∙ goes.1.0) in
          let own : m.sent.tag ≡ following_tag d.round = tag_owed d.round d.requester d.requester d.sending d.sending m.sent askers (chunk_alone d.round d.requester d.requester d.sending d.sending askers gets) m.waits (ap (λ (r : Option Round). is_later r (Some m.sent)) at ∙ later) in
          let spelled : body_of m.sent.content ≡ clear_body (get_message handle number) = subst (λ (a : Aim). IsSpelled a (body_of m.sent.content)) m.aims (sound m.sent m.waits).spelled in
          let is : body ≡ clear_body (get_message handle number) = sym goes.3 ∙ ap (λ (s : Sent). body_of s.content) (sym same) ∙ spelled in
          Asks handle number m (later_not (new_round tag body) m.sent (own ∙ sym tagged)) is
          (anew_by (kept_of d.responder) round.tag tag (drop 1 round.body) (drop 1 body) (tagged ∙ ap following_tag at) again) ready
      by_old (Asks handle number m own is anew ready) = absurd (not_due handle number m own)
      by_old (Has handle number m own is again reply ready) = absurd (not_due handle number m own)

-- ---- The responder.

drops_commute : (whole ids : List ℕ) (h : History) → with_large None whole (with_dropped h ids) ≡ with_dropped (with_large None whole h) ids
drops_commute whole [] h = refl
drops_commute whole (id ∷ ids) h = drops_commute whole ids (Gone id ∷ h)

module _ (r : RspSetup) (room : 6 ≤ r.transfer) (k : History) (whole : List ℕ) where
  turns_with : (ids : List ℕ) → clear_turns (with_large None whole (with_dropped k ids)) ≡ clear_turns (with_large None whole k)
  turns_with ids = ap clear_turns (drops_commute whole ids k) ∙ turns_stay ids (with_large None whole k)

  pub next_of : (ids : List ℕ) (tag handle number : ℕ) → IsReady k whole handle number → is_repeat (kept_of k) tag (get_message handle number) ≡ false → IsNextGet r (with_dropped k ids) whole tag handle number
  next_of ids tag handle number ready anew =
      let ts : List Turn = clear_turns (with_large None whole k) in
      let back = sym (turns_with ids) in
      record {
        room = room;
        byte = ready.byte;
        few = ready_few k whole handle number ready;
        anew = ap (λ (o : Option Kept). is_repeat o tag (get_message handle number)) (kept_same ids k) ∙ anew;
        chunks = subst (λ (l : List Turn). (common_at l).chunk ≡ true) back ready.chunks;
        large = subst (λ (l : List Turn). large_of l ≡ Some whole) back ready.large;
        given = subst (λ (l : List Turn). given_of l ≡ number) back ready.given;
        same = subst (λ (l : List Turn). handle_of l ≡ handle) back ready.same;
        more = subst (λ (l : List Turn). nat_lt number (chunk_count (common_at l).to_requester.transfer whole) ≡ true) back ready.more;
      }

  -- A repeat is answered as before.
  pub repeat_gets : (ids : List ℕ) (tag : ℕ) (body : List ℕ) (o : Outcome) → (slice_index body 0 == 5) ≡ true → is_repeat (kept_of k) tag (drop 1 body) ≡ true → MayLeadTo r (with_dropped (with_large None whole k) ids) tag body o
      → o ≡ Same (clear_body (kept_reply (kept_of k)))
  repeat_gets ids tag body o type again may = repeated r k None whole ids tag body o again (led_clear r (with_dropped (with_large None whole k) ids) tag body o type may)

  module _ (given : NextIsGiven) where
    -- CHUNK_GET for the next chunk is answered by it.
    pub next_gets : (ids : List ℕ) (tag : ℕ) (body : List ℕ) (handle number : ℕ) (o : Outcome) → body ≡ clear_body (get_message handle number) → IsReady k whole handle number → is_repeat (kept_of k) tag (drop 1 body) ≡ false
        → MayLeadTo r (with_dropped (with_large None whole k) ids) tag body o → o ≡ Adds (get_entry tag handle number (get_response (with_dropped k ids) whole handle number))
    next_gets ids tag body handle number o is ready anew may =
        let one : is_repeat (kept_of k) tag (get_message handle number) ≡ false = ap (λ (l : List ℕ). is_repeat (kept_of k) tag (drop 1 l)) (sym is) ∙ anew in
        let P : List ℕ → Type 0 = λ l. MayLeadTo r (with_dropped (with_large None whole k) ids) tag l o in
        let Q : History → Type 0 = λ h. MayLeadTo r h tag (clear_body (get_message handle number)) o in
        (given r (with_dropped k ids) whole tag handle number o (next_of ids tag handle number ready one)).0 (subst Q (sym (drops_commute whole ids k)) (subst P is may))

-- ---- An answer that goes whole, while it is fetched.

pub outcome_by : (h : asker.History) (o : asking.Outcome) → ((entry : asker.Entry) × (o ≡ Takes entry)) ⊎ (shown.after h o ≡ h)
outcome_by h (Takes entry) = inl (entry, refl)
outcome_by h (Fails fault) = inr refl
outcome_by h (Ignores cause) = inr refl
outcome_by h (Warns code) = inr refl
outcome_by h (Resends sent) = inr refl
