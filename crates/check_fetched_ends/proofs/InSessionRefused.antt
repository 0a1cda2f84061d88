-- An answer in a session, of which no walk goes on: it is refused, and why.
use Rattle.std.proofs.Common.{◌≡◌, ◌<◌, ◌==◌, ◌||◌, ℕ, List, sym, ap, ◌∙◌, subst, drop, length, arith, Bool, true, false, Option, Some, cond, inl, inr, Err, eqb-true}
use Rattle.std.specs.Prelude.{slice_index}
use Rattle.std.proofs.lemmas.Bool.{false≢true}
use Rattle.std.proofs.lemmas.Option.{none-some, same_Some}
use Rattle.mctp_framing.specs.Cutting.{RouteFields}
use Rattle.mctp_framing.specs.Gathering.Gathered.{Whole}
use Rattle.spdm_basis.proofs.Bools.{and_first}
use Rattle.check_ends.proofs.InTurn.{AnswersInTurn}
use Rattle.check_ends.specs.declared.party.Party.{Party}
use Rattle.check_laws.proofs.ApartShown.{record_silent}
use Rattle.check_laws.specs.Judged.{why_of}
use Rattle.check_laws.specs.Keeping.{restored}
use Rattle.check_laws.specs.RepliesShown.{responder_for}
use Rattle.check_laws.specs.declared.verdict.Seen.{Seen}
use Rattle.check_fetched_laws.proofs.WholeDrops.{whole_has_led}
use Rattle.check_fetched_laws.specs.LastShown.{IsShownWhole}
use Rattle.check_late_laws.specs.Fetching.{Fetching, IsFetchingOf, MayStand, dialogue_of}
use Rattle.requester_machine.specs.May.{IsSetUp}
use Rattle.requester_machine.specs.Setup.{ReqSetup}
use Rattle.responder_machine.specs.History.{History}
use Rattle.responder_machine.specs.Responder.{Outcome, body_of, on_clear, on_record}
use Rattle.responder_machine.specs.Responder.Outcome.{Adds}
use Rattle.responder_machine.specs.Setup.{RspSetup}
use Rattle.spdm_grammar.specs.declared.told.why.Why as declared
use Rattle.capture_machine.specs.CapturedAnswers.{Answers, MayLeadTo}
use Rattle.capture_machine.specs.Difference.{AreRepliesApart, CompletesApart, GoesApart, carries_exchange, is_apart, reply_why}
use Rattle.capture_machine.specs.LargeAnswers.{place_named, with_large}
use Rattle.capture_machine.specs.Rounds.{Round, no_draw}
use Rattle.capture_machine.specs.SessionTable.{Row}
use Rattle.world_machine.specs.Setup.{Configuration}
use Rattle.check_fetched_ends.proofs.InSessionRecord.{place_is, unseen_stand}
use Rattle.check_fetched_ends.proofs.NoneGoesOn.{IsNone, refused_by}
use Rattle.check_fetched_ends.specs.Fetched.{IsRepliedTo}
use Rattle.check_fetched_ends.specs.InSession.{AreLengths, AsksFor}

module _ (w : Configuration) (q : ReqSetup) (older : List (List ℕ)) (rows : List Row) (f : Fetching) (route : RouteFields) (answer : List ℕ) (byte : w.responder.beat < 256) (limits : IsSetUp f.kept.setup) (own : IsFetchingOf w q older f) (turn : AnswersInTurn f.kept route answer)
    (id : ℕ) (at : f.at ≡ Some id) (type : (slice_index turn.round.body 0 == 5) ≡ false) (least most op : ℕ) (lengths : AreLengths f.place least most) (asks : AsksFor (responder_for w f.kept) id f.place op f.kept.responder) where
  abbrev r : RspSetup
  r = responder_for w f.kept

  abbrev h : History
  h = f.kept.responder

  abbrev round : Round
  round = turn.round

  -- ---- Its verify data are never alone wrong.

  silent : (g : History) (o : Outcome) → MayLeadTo r g round.tag round.body o → carries_exchange (body_of o) ≡ false
  unfolding MayLeadTo
  silent g o may =
      ap (λ (x : Outcome). carries_exchange (body_of x)) (sym may.3)
      ∙ ap (λ (b : Bool). carries_exchange (body_of (cond b (on_clear r g round.tag (drop 1 round.body) may.0 no_draw) (on_record r g round.tag (drop 1 round.body) may.0 no_draw)))) type
      ∙ record_silent r round.tag (drop 1 round.body) may.0 g

  apart_never : (v other : List ℕ) (next : History) (fetching : Option (List ℕ)) → Answers r (dialogue_of f v) round other next fetching → carries_exchange other ≡ true → ⊥
  unfolding Answers
  apart_never v other next fetching (inl a) carries = false≢true (sym (ap carries_exchange (sym a.0.5) ∙ silent _ a.0.1 a.0.2.1) ∙ carries)
  apart_never v other next fetching (inr (inl a)) carries = false≢true (sym (ap carries_exchange (sym a.1.5) ∙ silent _ (Adds a.1.1) a.1.2.1) ∙ carries)
  apart_never v other next fetching (inr (inr (inl a))) carries = none-some v (sym a.1.0)
  apart_never v other next fetching (inr (inr (inr a))) carries = false≢true (sym (ap carries_exchange (sym a.0.7) ∙ silent _ (Adds a.0.2) a.0.4) ∙ carries)

  long_as : (size : ℕ) (one other : List ℕ) → is_apart size one other ≡ true → length one ≡ length other
  long_as size one other is = eqb-true (length one) (length other) (and_first _ _ (and_first _ _ is))

  completes_never : (v : List ℕ) → MayStand f v → CompletesApart r (dialogue_of f v) round answer → ⊥
  completes_never v stand c =
      let other = c.1 in
      let same : c.0 ≡ v = sym (same_Some v c.0 c.4) in
      let long = long_as _ other c.0 c.10 in
      let longer = ap (λ (l : List ℕ). length l) same in
      let range = (lengths v).0 stand.0 in
      let low = range.0 in
      let high = range.1 in
      let large = (lengths other).1 (omega (arith, long, longer, low), omega (arith, long, longer, high)) in
      let led = ((whole_has_led r (place_named round.body) other c.2 h byte).0 c.8).1 in
      let place = place_is w q older f route answer byte limits own turn id at type v stand in
      let measured = (asks other large).0 (subst (λ (o : Option ℕ). IsShownWhole r o other h) place led) in
      let code = ap (λ (l : List ℕ). slice_index l 1) measured.3 in
      let told = c.9 in absurd (omega (arith, code, told))

  never_apart : (v : List ℕ) → MayStand f v → GoesApart r (dialogue_of f v) (Whole route answer) → ⊥
  never_apart v stand c = elim (subst (λ (o : Option Round). AreRepliesApart r (dialogue_of f v) o answer) turn.answers.0 c.1) [
    | inl replies ↦ apart_never v replies.0 replies.1 replies.2 replies.3 replies.4
    | inr completes ↦ completes_never v stand completes
  ]

  -- ---- Why.

  module _ (x : List ℕ) (stand_x : MayStand f x) (why : declared.Why) (is : why_of why ≡ reply_why (responder_for w f.kept) (record (restored f.kept) { responder = with_large (Some id) x f.kept.responder }) answer (Some turn.round)) where
    pub refused : IsNone w q older rows f route answer turn → (new : Party) (stands : Fetching → List Row → Type 0) (table : List Seen) → IsRepliedTo w q older rows f route answer (Err why) new stands table
    refused = refused_by w q older rows f route answer turn never_apart (unseen_stand w q older f route answer byte limits own turn id at type x stand_x) id x why is limits own
