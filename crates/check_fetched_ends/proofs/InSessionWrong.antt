-- A CHUNK_RESPONSE in a session is an answer with some bytes that may stand for the large one, or it goes on from no walk.
use Rattle.std.proofs.Common.{◌≡◌, ◌≤◌, ◌<◌, ◌-◌, ◌==◌, ◌&&◌, ◌++◌, ℕ, zero, suc, List, [], ◌∷◌, refl, sym, ap, ◌∙◌, subst, drop, take, length, arith, Bool, true, false, Option, Some, cond}
use Rattle.std.specs.Prelude.{not, slice_index, unwrap_or}
use Rattle.std.proofs.lemmas.Bool.{false≢true, not-false}
use Rattle.std.proofs.lemmas.Option.{same_Some}
use Rattle.mctp_framing.specs.Cutting.{RouteFields}
use Rattle.check_ends.proofs.InTurn.{AnswersInTurn}
use Rattle.check_responder.specs.AnswerKeys.{will_take}
use Rattle.check_responder.specs.ClearAnswers.{EndsLarge}
use Rattle.check_requester.specs.HeardKept.{asks_upon}
use Rattle.check_laws.proofs.LargeShown.{large_is_shown}
use Rattle.check_laws.proofs.PlainShown.{plain_is_shown}
use Rattle.check_laws.specs.AnswersShown.{LeadsAt, answered_text, is_whole, values_shown_by}
use Rattle.check_laws.specs.DropsShown.{IsShownAnswer}
use Rattle.check_laws.specs.LargeShown.{IsShownLarge, drops_before, first_dropped, large_shown}
use Rattle.check_laws.specs.RepliesShown.{responder_for}
use Rattle.check_fetched_laws.proofs.LastShown.{last_is_shown}
use Rattle.check_fetched_laws.specs.AnswerTexts.{Holds}
use Rattle.check_fetched_laws.specs.LastShown.{IsShownWhole}
use Rattle.check_late_laws.proofs.Gave.{Gave, bytes_begin, bytes_next, size_next}
use Rattle.check_late_laws.proofs.GoesWith.{told_whole}
use Rattle.check_late_laws.proofs.PlainLaws.{plain_is_of_all}
use Rattle.check_late_laws.proofs.Shown.{last_is_whole}
use Rattle.check_late_laws.proofs.Stood.{Came, came}
use Rattle.check_late_laws.proofs.Stood.Came.{Other, Chunk as Gives}
use Rattle.check_late_laws.specs.Fetching.{Fetching, IsFetchingOf, MayStand, answer_by, bytes_given, bytes_of, dialogue_of, number_of, size_in, size_of, size_told}
use Rattle.requester_machine.specs.May.{IsSetUp}
use Rattle.requester_machine.specs.Setup.{ReqSetup}
use Rattle.responder_machine.specs.Answer.{Free}
use Rattle.responder_machine.specs.History.{Entry, History}
use Rattle.responder_machine.specs.May.{on_body, place_for, with_dropped}
use Rattle.responder_machine.specs.Place.{Place, held_of}
use Rattle.responder_machine.specs.Responder.{body_of, sent_by}
use Rattle.responder_machine.specs.Responder.Outcome.{Adds}
use Rattle.responder_machine.specs.Session.{id_in_record, session_of}
use Rattle.responder_machine.specs.Setup.{RspSetup}
use Rattle.spdm_grammar.specs.Fields.{zeros}
use Rattle.spdm_grammar.specs.declared.names.TheConstants.{MAX_MESSAGE_SIZE}
use Rattle.capture_machine.proofs.SmallGets.{gets_are_small}
use Rattle.capture_machine.proofs.UnseenStands.{UnseenStand}
use Rattle.capture_machine.specs.CapturedAnswers.{AnswersLarge, AnswersPlainly, Completes, MayLeadTo}
use Rattle.capture_machine.specs.LargeAnswers.{is_large, judging, place_named, takes_get, with_large}
use Rattle.capture_machine.specs.Opening.{turn_in}
use Rattle.capture_machine.specs.Rounds.{Round, no_draw}
use Rattle.world_machine.specs.Setup.{Configuration}
use Rattle.check_fetched_ends.proofs.Filled.{stands_next}
use Rattle.check_fetched_ends.proofs.HeldMessages.{IsHeld, held_in}
use Rattle.check_fetched_ends.proofs.InSessionRecord.{e, fetch_is, leads, place_is, plainly, sent, unseen_stand}
use Rattle.check_late_laws.proofs.Late.PlainTexts.{one_inner}
use Rattle.check_fetched_laws.proofs.RecordTaken.{body_adds, entry_at, may_lead}
use Rattle.check_fetched_ends.proofs.TextsAlike.{text_moved}
use Rattle.check_fetched_ends.specs.ChunkJudged.{IsNoChunk}
use Rattle.check_fetched_ends.specs.InSession.{AreLengths, AsksFor, IsMeasuredBy, IsTextOf, bytes_with, filled, is_chunk, size_with}

-- What a chunk shows is of a length that is sent in chunks, and no longer than it told.
pub record Fits (f : Fetching) (least most : ℕ) (message : List ℕ) : Type 0 where
  pub least_is : least ≤ size_with (number_of f) (size_of f) message
  pub most_is : size_with (number_of f) (size_of f) message ≤ most
  pub few : size_with (number_of f) (size_of f) message ≤ MAX_MESSAGE_SIZE
  pub within : length (bytes_with (number_of f) (bytes_of f) message) ≤ size_with (number_of f) (size_of f) message

size_by : (b : Bool) (n l : ℕ) (o : Option ℕ) → cond b (Some n) o ≡ Some l → cond b n (unwrap_or o 0) ≡ l
size_by true n l o is = same_Some n l is
size_by false n l o is = ap (λ (x : Option ℕ). unwrap_or x 0) is

shorter : (n : ℕ) (v : List ℕ) → length (take n v) ≤ length v
shorter zero [] = omega arith
shorter (suc n) [] = omega arith
shorter zero (x ∷ v) = omega arith
shorter (suc n) (x ∷ v) = (let less = shorter n v in omega (arith, less))

take_short : (n : ℕ) (l v : List ℕ) → l ≡ take n v → length l ≤ length v
take_short n l v is = subst (λ (y : List ℕ). length y ≤ length v) (sym is) (shorter n v)

zeros_none : (n m : ℕ) → n ≡ m → n - m ≡ 0
zeros_none n m is = omega (arith, is)

module _ (w : Configuration) (q : ReqSetup) (older : List (List ℕ)) (f : Fetching) (route : RouteFields) (answer : List ℕ) (byte : w.responder.beat < 256) (limits : IsSetUp f.kept.setup) (own : IsFetchingOf w q older f) (turn : AnswersInTurn f.kept route answer)
    (id : ℕ) (at : f.at ≡ Some id) (type : (slice_index turn.round.body 0 == 5) ≡ false) (sealed : (slice_index answer 0 == 5) ≡ false)
    (text message : List ℕ) (holds : Holds text message) (chunk : is_chunk message ≡ true)
    (x : List ℕ) (stand_x : MayStand f x) (read : IsTextOf (responder_for w f.kept) (with_large (Some id) x f.kept.responder) turn.round.body answer text) where
  abbrev r : RspSetup
  r = responder_for w f.kept

  abbrev h : History
  h = f.kept.responder

  abbrev round : Round
  round = turn.round

  none : UnseenStand h
  none = unseen_stand w q older f route answer byte limits own turn id at type x stand_x

  read_at : (v : List ℕ) → IsTextOf r (with_large (Some id) v h) round.body answer text
  read_at v = text_moved r id h none round.body x v answer text read

  -- With some bytes.
  module _ (v : List ℕ) (stand : MayStand f v) where
    abbrev g : History
    g = with_large (Some id) v h

    place : place_named round.body ≡ Some id
    place = place_is w q older f route answer byte limits own turn id at type v stand

    judged : judging (Some v) round.body h ≡ g
    judged = ap (λ (o : Option ℕ). with_large o v h) place

    -- An entry that gives the answer.
    module _ (entry : Entry) (lead : MayLeadTo r g round.tag round.body (Adds entry)) (sends : sent_by entry ≡ answer) where
      held : IsHeld r g round.body entry
      held = held_in r g round.tag round.body entry type lead

      inner_is : held.inner ≡ 5 ∷ message
      inner_is =
          let there = (read_at v).holds ∙ ap (λ (l : List ℕ). answered_text r (session_of (id_in_record (drop 1 round.body)) g) (turn_in r (session_of (id_in_record (drop 1 round.body)) g) (drop 1 round.body)) (drop 1 l)) (sym sends) ∙ held.text in
          one_inner text held.inner (5 ∷ message) held.pad holds.0 (read_at v).brief there holds.1

      gets : takes_get entry ≡ true
      gets = by_gets (takes_get entry) refl
        where
          by_gets : (b : Bool) → takes_get entry ≡ b → b ≡ true
          by_gets true is = refl
          by_gets false is = absurd (false≢true (sym (held.other is message inner_is) ∙ chunk))

      message_is : answer_by entry ≡ message
      message_is = ap (drop 1) (sym (held.gives gets) ∙ inner_is)

      abbrev p : Place
      p = place_for (with_large (place_named round.body) v h) round.body

      gave : Gave f.at h v p entry
      gave = subst (λ (o : Option ℕ). Gave o h v p entry) (place ∙ sym at)
          (by_came (came r h v round.tag round.body entry (fetch_is w q older f route answer byte limits own turn id at type v stand) (subst (λ (l : History). MayLeadTo r l round.tag round.body (Adds entry)) (sym judged) lead)))
        where
          by_came : Came r h v round.tag round.body entry → Gave (place_named round.body) h v p entry
          by_came (Other none_takes stays) = absurd (false≢true (sym none_takes ∙ gets))
          by_came (Gives takes given) = given

      pub bytes_then : bytes_given f.at (entry ∷ h) ≡ bytes_with (number_of f) (bytes_of f) message
      bytes_then = bytes_next f.at h v p entry gave ∙ ap (λ (m : List ℕ). bytes_with (number_of f) (bytes_of f) m) message_is

      pub told_then : size_told f.at (entry ∷ h) ≡ cond (number_of f == 0) (Some (size_in message)) (size_of f)
      told_then = size_next f.at h v p entry gave ∙ ap (λ (m : List ℕ). cond (number_of f == 0) (Some (size_in m)) (size_of f)) message_is

      size_is : size_with (number_of f) (size_of f) message ≡ length v
      size_is = size_by (number_of f == 0) (size_in message) (length v) (size_of f) (sym told_then ∙ told_whole f.at h v p entry gave f.place stand)

      pub fits : (least most : ℕ) → AreLengths f.place least most → Fits f least most message
      fits least most lengths =
          let range = (lengths v).0 stand.0 in
          let begins = sym bytes_then ∙ bytes_begin f.at h v p entry gave in
          let less = take_short _ (bytes_with (number_of f) (bytes_of f) message) v begins in
          let same = size_is in
          let low = range.0 in
          let high = range.1 in
          let few_is = stand.0.2 in record {
            least_is = omega (arith, low, same);
            most_is = omega (arith, high, same);
            few = omega (arith, few_is, same);
            within = omega (arith, less, same);
          }

      -- The last chunk.
      pub all_is : bytes_given f.at (entry ∷ h) ≡ v → filled (number_of f) (size_of f) (bytes_of f) message ≡ v
      all_is whole =
          let bytes : bytes_with (number_of f) (bytes_of f) message ≡ v = sym bytes_then ∙ whole in
          ap (λ (n : ℕ). bytes_with (number_of f) (bytes_of f) message ++ zeros n) (zeros_none _ _ (size_is ∙ sym (ap (λ (l : List ℕ). length l) bytes)))
          ∙ nothing_more (bytes_with (number_of f) (bytes_of f) message) ∙ bytes
        where
          nothing_more : (l : List ℕ) → l ++ [] ≡ l
          nothing_more [] = refl
          nothing_more (y ∷ l) = ap (λ (z : List ℕ). y ∷ z) (nothing_more l)

    -- ---- An answer that goes whole.

    abbrev will : will_take (responder_for w f.kept) (with_large (Some id) v f.kept.responder) turn.round.body ≡ true
    will = (read_at v).taken

    shown_from : (next : History) → AnswersPlainly r (dialogue_of f v) round answer next → IsShownAnswer r g round.tag round.body answer
    shown_from next a = subst (λ (l : History). IsShownAnswer r l round.tag round.body answer) judged ((plain_is_shown r (dialogue_of f v) round answer next byte).0 a).0

    module _ (shown : IsShownAnswer (responder_for w f.kept) (with_large (Some id) v f.kept.responder) turn.round.tag turn.round.body answer) where
      abbrev added : Entry
      added = e w q older f route answer byte limits own turn id at type v stand will sealed shown

      lead_added : MayLeadTo r g round.tag round.body (Adds added)
      lead_added = leads w q older f route answer byte limits own turn id at type v stand will sealed shown

      sends_added : sent_by added ≡ answer
      sends_added = sent w q older f route answer byte limits own turn id at type v stand will sealed shown

      fits_plain : (least most : ℕ) → AreLengths f.place least most → Fits f least most message
      fits_plain least most lengths = fits added lead_added sends_added least most lengths

      -- It may then be given with each bytes that go on from that chunk.
      moved : (least most : ℕ) (y : List ℕ) → AreLengths f.place least most → y ≡ filled (number_of f) (size_of f) (bytes_of f) message → AnswersPlainly r (dialogue_of f y) round answer (added ∷ h)
      moved least most y lengths is =
          let fit = fits_plain least most lengths in
          (plain_is_of_all w q older f round answer v y (added ∷ h) own turn.answers.0 stand (plainly w q older f route answer byte limits own turn id at type v stand will sealed shown)
          (subst (MayStand (record f { kept = record f.kept { responder = added ∷ h } })) (sym is)
          (stands_next f least most lengths message fit.within fit.least_is fit.most_is (record f { kept = record f.kept { responder = added ∷ h } }) refl (bytes_then added lead_added sends_added) (told_then added lead_added sends_added)))).1

    -- ---- LargeResponse.

    abbrev values : Free
    values = values_shown_by r g round.tag round.body answer

    abbrev begun : Entry
    begun = entry_at r g round.tag round.body answer type will values

    no_drops : drops_before g round.body ≡ []
    no_drops = ap (λ (b : Bool). cond (b && held_of g == 4) (first_dropped g (1 ∷ 2 ∷ 3 ∷ 4 ∷ [])) []) type

    begun_is : large_shown r g round.tag round.body answer ≡ Adds begun
    unfolding large_shown
    begun_is =
        ap (λ (l : List ℕ). on_body r (with_dropped g l) round.tag round.body (values_shown_by r (with_dropped g l) round.tag round.body answer) no_draw) no_drops
        ∙ body_adds r g round.tag round.body answer type will values

    -- A chunk is none.
    never_shown : IsShownLarge r g round.tag round.body answer → ⊥
    unfolding large_shown
    never_shown is =
        let leads_there = subst (λ (l : List ℕ). LeadsAt r (with_dropped g l) round.tag round.body (on_body r (with_dropped g l) round.tag round.body (values_shown_by r (with_dropped g l) round.tag round.body answer) no_draw) (values_shown_by r (with_dropped g l) round.tag round.body answer)) no_drops is.0 in
        let lead = may_lead r g round.tag round.body answer type will leads_there in
        let sends : sent_by begun ≡ answer = ap body_of (sym begun_is) ∙ is.2 in
        let small = gets_are_small r g round.tag round.body begun lead (gets begun lead sends) in
        let large : not (is_large begun) ≡ false = ap is_whole (sym begun_is) ∙ is.1 in
        false≢true (sym small ∙ not-false _ large)

    pub never_large : (next : History) (whole : List ℕ) → AnswersLarge r (dialogue_of f v) round answer next whole → ⊥
    never_large next whole a =
        never_shown (subst (λ (l : History). IsShownLarge r l round.tag round.body answer) judged ((large_is_shown r (dialogue_of f v) round answer next byte).0 (whole, a)).0)

    -- ---- The last chunk.

    module _ (next : History) (c : Completes (responder_for w f.kept) (dialogue_of f v) turn.round answer next) where
      same_bytes : c.0 ≡ v
      same_bytes = sym (same_Some v c.0 c.3)

      lead_last : MayLeadTo r g round.tag round.body (Adds c.2)
      lead_last = subst (λ (l : History). MayLeadTo r l round.tag round.body (Adds c.2)) judged c.4

      fits_last : (least most : ℕ) → AreLengths f.place least most → Fits f least most message
      fits_last least most lengths = fits c.2 lead_last c.7 least most lengths

      filled_is : filled (number_of f) (size_of f) (bytes_of f) message ≡ v
      filled_is = all_is c.2 lead_last c.7 (last_is_whole w q older f round answer v next own stand turn.answers.0 c)

      ends : EndsLarge r g round.tag round.body answer
      ends =
          let is = ((last_is_shown r (dialogue_of f v) round answer v next byte refl).0 c).0 in
          subst (λ (o : Option ℕ). EndsLarge r (with_large o v h) round.tag round.body answer) place (is.leads, is.last, is.body)

      measured_is : (op : ℕ) → AsksFor r id f.place op h → IsMeasuredBy r op v
      measured_is op asks =
          let is = ((last_is_shown r (dialogue_of f v) round answer v next byte refl).0 c).0 in
          (asks v stand.0).0 (subst (λ (o : Option ℕ). IsShownWhole r o v h) place is.led)

  -- ---- All together.

  -- It may not be given, where it does not fit.
  pub misfit_plain : (least most : ℕ) → AreLengths f.place least most → (Fits f least most message → ⊥) → (v : List ℕ) → MayStand f v → (next : History) → AnswersPlainly r (dialogue_of f v) round answer next → ⊥
  misfit_plain least most lengths misfit v stand next a = misfit (fits_plain v stand (shown_from v stand next a) least most lengths)

  pub misfit_last : (least most : ℕ) → AreLengths f.place least most → (Fits f least most message → ⊥) → (v : List ℕ) → MayStand f v → (next : History) → Completes r (dialogue_of f v) round answer next → asks_upon f.kept round.tag answer ≡ true
  misfit_last least most lengths misfit v stand next c = absurd (misfit (fits_last v stand next c least most lengths))

  -- Nor where it is no chunk with these bytes.
  module _ (least most op : ℕ) (lengths : AreLengths f.place least most) (asks : AsksFor (responder_for w f.kept) id f.place op f.kept.responder) (y : List ℕ) (stand_y : MayStand f y) (fills : y ≡ filled (number_of f) (size_of f) (bytes_of f) message)
      (no_chunk : IsNoChunk (responder_for w f.kept) (with_large (Some id) y f.kept.responder) f.kept op turn.round answer y) where
    pub wrong_plain : (v : List ℕ) → MayStand f v → (next : History) → AnswersPlainly r (dialogue_of f v) round answer next → ⊥
    wrong_plain v stand next a =
        let shown = shown_from v stand next a in
        no_chunk.next (shown_from y stand_y _ (moved v stand shown least most y lengths fills))

    pub wrong_last : (v : List ℕ) → MayStand f v → (next : History) → Completes r (dialogue_of f v) round answer next → asks_upon f.kept round.tag answer ≡ true
    wrong_last v stand next c =
        let same : v ≡ y = sym (fills ∙ filled_is v stand next c) in
        no_chunk.last (subst (λ (l : List ℕ). EndsLarge r (with_large (Some id) l h) round.tag round.body answer) same (ends v stand next c))
        (subst (IsMeasuredBy r op) same (measured_is v stand next c op asks))
