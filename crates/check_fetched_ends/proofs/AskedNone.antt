-- An answer to a record that goes whole, in response to which the requester asks for a chunk: where it is no
-- LargeResponse again, no walk goes on with it.
use Rattle.std.proofs.Common.{◌≡◌, ◌<◌, ◌==◌, ◌&&◌, ◌||◌, ◌∙◌, ℕ, List, [], ◌∷◌, refl, sym, ap, subst, drop, Bool, true, false, Option, Some, None, Ok, Err, is_some, cond, inl, inr}
use Rattle.std.specs.Prelude.{not, slice_index}
use Rattle.std.proofs.lemmas.Bool.{false≢true}
use Rattle.std.proofs.lemmas.Option.{same_Some}
use Rattle.mctp_framing.specs.Cutting.{RouteFields}
use Rattle.mctp_framing.specs.Gathering.Gathered.{Whole}
use Rattle.requester_machine.specs.Hearing.{hears}
use Rattle.requester_machine.specs.History as requester_history
use Rattle.requester_machine.specs.Setup.{ReqSetup}
use Rattle.requester_machine.specs.Shown as shown
use Rattle.responder_machine.specs.History.{History}
use Rattle.responder_machine.specs.May.{on_body, with_dropped}
use Rattle.responder_machine.specs.Place.{held_of}
use Rattle.responder_machine.specs.Responder.{Outcome}
use Rattle.responder_machine.specs.Responder.Outcome.{Same, Unopened, Adds}
use Rattle.responder_machine.specs.Session.{id_in_record, session_of}
use Rattle.responder_machine.specs.Setup.{RspSetup, towards}
use Rattle.spdm_basis.proofs.Bools.{and_first}
use Rattle.check_ends.proofs.AnswerWalks.{none_on}
use Rattle.check_ends.specs.Conversation.{IsAnswer, NoneGoesOn}
use Rattle.check_requester.specs.HeardKept.{asks_upon}
use Rattle.check_ends.specs.declared.continuation.Continuation.TheVariants as onward
use Rattle.check_laws.proofs.FetchShown.{fetch_same}
use Rattle.check_laws.proofs.KeptAnswers.{kept_is_restored}
use Rattle.check_laws.proofs.LargeShown.{large_is_shown}
use Rattle.check_laws.proofs.OneWalk.{walks_alike}
use Rattle.check_laws.specs.AnswersShown.{is_whole, values_shown_by}
use Rattle.check_laws.specs.DropsShown.{IsShownAnswer, clear_drops, drops_shown_by, may_be_dropped, outcome_shown, record_drops}
use Rattle.check_laws.specs.Keeping.{Keeps, Kept, restored}
use Rattle.check_laws.specs.LargeShown.{IsShownLarge, drops_before, first_dropped, large_shown}
use Rattle.check_laws.specs.RepliesShown.{heard_from, responder_for}
use Rattle.check_laws.specs.declared.verdict.Seen.{Seen}
use Rattle.check_fetched_ends.proofs.LargeRecords.{large_sealed}
use Rattle.check_fetched_ends.specs.AgainBegins.{IsAgainInRecord}
use Rattle.check_fetched_ends.specs.JudgedEnds.{IsJudgedAnswer, IsLeft}
use Rattle.check_fetched_ends.specs.declared.judged_ends.JudgedEnds.{JudgedEnds}
use Rattle.spdm_grammar.specs.declared.told.why.Why as declared
use Rattle.capture_machine.proofs.Alike.{Alike}
use Rattle.capture_machine.proofs.AskersAlike.{AskersAlike}
use Rattle.capture_machine.specs.Capture.{RepliesBy}
use Rattle.capture_machine.specs.CapturedAnswers.{Answers, Hears, MayLeadTo, belongs_to, is_plain}
use Rattle.capture_machine.specs.LargeAnswers.{IsLargeAnswer, gives_last, is_fetching, is_large, place_again, place_named, repeats_large}
use Rattle.capture_machine.specs.Rounds.{Dialogue, Round, no_draw}
use Rattle.capture_machine.specs.SessionTable.{Row}
use Rattle.world_machine.specs.Setup.{Configuration, known_of}

-- ---- What goes whole in a session is no LargeResponse.

module _ (r : RspSetup) (h : History) (tag : ℕ) (body answer : List ℕ) (type : (slice_index body 0 == 5) ≡ false) where
  -- What the record leads to after these drops.
  abbrev leads : (ids : List ℕ) → Outcome
  leads ids = on_body r (with_dropped h ids) tag body (values_shown_by r (with_dropped h ids) tag body answer) no_draw

  none_shown : (slice_index answer 0 == 5) ≡ false → drops_shown_by r h tag body answer ≡ []
  unfolding drops_shown_by
  none_shown sealed =
      let id : ℕ = id_in_record (drop 1 body) in
      ap (λ (b : Bool). cond b (clear_drops h tag (drop 1 body) (drop 1 answer)) (record_drops r h (drop 1 body) answer)) type
      ∙ ap (λ (b : Bool). cond (b && (belongs_to r (session_of id h) (drop 1 body) && may_be_dropped h id)) (id ∷ []) []) sealed

  none_before : drops_before h body ≡ []
  none_before = ap (λ (b : Bool). cond (b && held_of h == 4) (first_dropped h (1 ∷ 2 ∷ 3 ∷ 4 ∷ [])) []) type

  whole_leads : (slice_index answer 0 == 5) ≡ false → outcome_shown r h tag body answer ≡ leads []
  unfolding outcome_shown
  whole_leads sealed = ap leads (none_shown sealed)

  large_leads : large_shown r h tag body answer ≡ leads []
  unfolding large_shown
  large_leads = ap leads none_before

  by_outcome : (o : Outcome) → is_plain h o ≡ true → is_whole o ≡ false → ⊥
  by_outcome (Same reply) plain large = false≢true (sym large)
  by_outcome (Unopened reply) plain large = false≢true (sym large)
  by_outcome (Adds entry) plain large = false≢true (sym large ∙ and_first (not (is_large entry)) (not (gives_last h entry)) plain)

  pub whole_or_large : IsShownAnswer r h tag body answer → IsShownLarge r h tag body answer → ⊥
  whole_or_large whole large =
      let same = whole_leads (large_sealed r h tag body answer type large) ∙ sym large_leads in
      by_outcome (large_shown r h tag body answer) (ap (is_plain h) (sym same) ∙ whole.1) large.1

-- ---- The requester asks for a chunk upon it.

-- It does so only where something is fetched.
known_some : (b : Bool) (fetching : Option (List ℕ)) → (not b || is_some fetching) ≡ true → b ≡ true → fetching ≡ None → ⊥
known_some false fetching known asks none = false≢true asks
known_some true fetching known asks none = false≢true (sym (ap (λ (o : Option (List ℕ)). is_some o) none) ∙ known)

module _ (w : Configuration) (q : ReqSetup) (older : List (List ℕ)) (packet : List ℕ) (route : RouteFields) (answer : List ℕ) (at : IsAnswer w q older packet route answer) (k : Kept) (keeps : Keeps w q older k) (byte : w.responder.beat < 256) where
  abbrev h : requester_history.History
  h = (restored k).requester

  askers : AskersAlike k.round h h None None
  askers = (walks_alike w q older (restored k) (restored k) (kept_is_restored w q older k keeps).0 (kept_is_restored w q older k keeps).0).alike.askers

  -- In each walk it does so as in this one.
  asks_there : (round : Round) (l : requester_history.History) → k.round ≡ Some round → round.tag ≡ route.tag → Hears (restored k) route.tag answer l
      → is_fetching (requester_history.outstanding l) ≡ asks_upon k route.tag answer
  unfolding Hears heard_from
  asks_there round l is one heard =
      let there : l ≡ shown.after h (hears k.setup h false route.tag answer heard.1.0 no_draw) = heard.2 ∙ ap (shown.after h) (sym heard.1.2) in
      ap (λ (x : requester_history.History). is_fetching (requester_history.outstanding x)) there
      ∙ fetch_same k.setup round route.tag answer heard.1.0 h h None None (subst (λ (o : Option Round). AskersAlike o h h None None) is askers) refl one

  never_on : (part : IsLeft w k route.tag answer) → (slice_index part.0.body 0 == 5) ≡ false → (IsAgainInRecord w k route.tag answer → ⊥) → (next : Dialogue) → RepliesBy w (restored k) (Whole route answer) next → ⊥
  unfolding Answers
  never_on part type other next c = by_kind c.2.4.2
    where
      round : Round
      round = c.2.0

      same : part.0 ≡ round
      same = same_Some part.0 round (sym part.1.0 ∙ c.2.1)

      sealed : (slice_index round.body 0 == 5) ≡ false
      sealed = subst (λ (x : Round). (slice_index x.body 0 == 5) ≡ false) same type

      whole : IsShownAnswer (responder_for w k) k.responder round.tag round.body answer
      whole = subst (λ (x : Round). IsShownAnswer (responder_for w k) k.responder x.tag x.body answer) same part.2

      none_known : c.2.4.1 ≡ None → ⊥
      none_known none = known_some (is_fetching (requester_history.outstanding c.2.4.3.0)) c.2.4.1 c.2.4.3.3 (asks_there round c.2.4.3.0 c.2.1 c.2.2 c.2.4.3.1 ∙ part.3) none

      by_kind : Answers (responder_for w k) (restored k) round answer c.2.4.0 c.2.4.1 → ⊥
      by_kind (inl plain) = none_known plain.1
      by_kind (inr (inl large)) = whole_or_large (responder_for w k) k.responder round.tag round.body answer sealed whole ((large_is_shown (responder_for w k) (restored k) round answer c.2.4.0 byte).0 (large.0, large.1)).0
      by_kind (inr (inr (inl again))) = other (record { round = round; answers = (c.2.1, c.2.2, c.2.3); record_is = sealed; whole = again.0; behind = c.2.4.0; again = again.1 })
      by_kind (inr (inr (inr last))) = none_known last.1

  -- So no walk goes on with it.
  pub asked_none : (part : IsLeft w k route.tag answer) → (slice_index part.0.body 0 == 5) ≡ false → (IsAgainInRecord w k route.tag answer → ⊥) → NoneGoesOn w q older packet
  asked_none part type other = none_on w q older [] packet route answer at k keeps (never_on part type other)

-- ---- Whatever is kept of the packets.

module _ (w : Configuration) (q : ReqSetup) (older : List (List ℕ)) (k other : Kept) (keeps : Keeps w q older k) (own : Keeps w q older other) where
  both : Alike (restored other) (restored k)
  both = (walks_alike w q older (restored other) (restored k) (kept_is_restored w q older other own).0 (kept_is_restored w q older k keeps).0).alike

  -- LargeResponse again at this place.
  abbrev AgainAt : Round → (answer : List ℕ) → History → (whole : List ℕ) → ReqSetup → History → Type 0
  AgainAt round answer behind whole s h =
      MayLeadTo (towards w.responder (known_of s)) h round.tag round.body (Same answer)
      × (repeats_large (place_named round.body) h ≡ true)
      × IsLargeAnswer (place_again (place_named round.body) h h) whole
      × (behind ≡ h)

  again_alike : (tag : ℕ) (answer : List ℕ) → IsAgainInRecord w other tag answer → IsAgainInRecord w k tag answer
  again_alike tag answer is =
      let there : AgainAt is.round answer is.behind is.whole other.setup other.responder = (is.again.1, is.again.2, is.again.3, is.again.4) in
      let set : AgainAt is.round answer is.behind is.whole k.setup other.responder = subst (λ (s : ReqSetup). AgainAt is.round answer is.behind is.whole s other.responder) both.setup there in
      let here : AgainAt is.round answer is.behind is.whole k.setup k.responder = subst (AgainAt is.round answer is.behind is.whole k.setup) both.responder set in record {
        round = is.round;
        answers = (sym both.round ∙ is.answers.0, is.answers.1, is.answers.2);
        record_is = is.record_is;
        whole = is.whole;
        behind = is.behind;
        again = (refl, here.0, here.1, here.2, here.3);
      }

  pub part_none : (packet : List ℕ) (route : RouteFields) (answer : List ℕ) → IsAnswer w q older packet route answer → w.responder.beat < 256 → ((round : Round) → k.round ≡ Some round → (slice_index round.body 0 == 5) ≡ false)
      → (IsAgainInRecord w k route.tag answer → ⊥) → IsLeft w other route.tag answer → NoneGoesOn w q older packet
  part_none packet route answer at byte sealed none left =
      asked_none w q older packet route answer at other own byte left (sealed left.0 (sym both.round ∙ left.1.0)) (λ again. none (again_alike route.tag answer again))

-- So where it is told that the requester asks for a chunk in response to it, it is refused, and why.
pub asked_refused : (w : Configuration) (q : ReqSetup) (older : List (List ℕ)) (rows : List Row) (packet : List ℕ) (route : RouteFields) (answer : List ℕ) (k : Kept) → IsAnswer w q older packet route answer → w.responder.beat < 256 → Keeps w q older k
    → ((round : Round) → k.round ≡ Some round → (slice_index round.body 0 == 5) ≡ false) → (IsAgainInRecord w k route.tag answer → ⊥) → (why : declared.Why) (told new : JudgedEnds) (before after : List Seen)
    → IsJudgedAnswer w q older rows packet route answer (Ok (onward.Asked why)) told before → IsJudgedAnswer w q older rows packet route answer (Err why) new after
asked_refused w q older rows packet route answer k at byte keeps sealed none why told new before after is = (part_none w q older k is.0.0 keeps is.0.1 packet route answer at byte sealed none is.0.2, is.1)
