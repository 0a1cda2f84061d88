-- An answer to GET_VERSION is VERSION, by what it shows.
use Rattle.std.proofs.Common.{◌≡◌, ◌<◌, ℕ, List, [], ◌∷◌, refl, sym, ap, ◌∙◌, subst, Bool, true, false, Some}
use Rattle.std.proofs.lemmas.Bool.{false≢true}
use Rattle.check_responder.specs.JudgedResponder.{history_shown}
use Rattle.check_responder.specs.ClearAnswers.{EndsLarge}
use Rattle.check_laws.proofs.LargeShown.{large_is_shown}
use Rattle.check_laws.proofs.PlainShown.{plain_is_shown}
use Rattle.check_laws.specs.AnswersShown.{values_shown_by}
use Rattle.check_laws.specs.ApartShown.{IsApartShown}
use Rattle.check_laws.specs.DropsShown.{IsShownAnswer, drops_shown_by, outcome_shown}
use Rattle.check_laws.specs.Keeping.{Kept, restored}
use Rattle.check_laws.specs.LargeShown.{IsShownLarge, begun_large, ends_large, large_shown, last_shown}
use Rattle.check_fetched_laws.proofs.VersionGiven.{version_is_given}
use Rattle.check_fetched_laws.specs.StandsAlike.{IsAnew, version_entry}
use Rattle.responder_machine.specs.Answer.{version_answer}
use Rattle.responder_machine.specs.History.{Entry, History}
use Rattle.responder_machine.specs.History.Entry.{Dropped}
use Rattle.responder_machine.specs.May.{with_dropped}
use Rattle.responder_machine.specs.Responder.{Outcome, after, body_of}
use Rattle.responder_machine.specs.Responder.Outcome.{Adds}
use Rattle.responder_machine.specs.Setup.{RspSetup}
use Rattle.spdm_grammar.specs.Message.RequestMessage.{GetVersion}
use Rattle.spdm_grammar.specs.Requests.{canonical_request}
use Rattle.spdm_grammar.specs.Responses.{canonical_response}
use Rattle.spdm_machine.specs.Bodies.{clear_body}
use Rattle.capture_machine.specs.CapturedAnswers.{AnswersPlainly, AreShown, MayLeadAfter, MayLeadTo}
use Rattle.capture_machine.specs.Difference.{carries_exchange}
use Rattle.capture_machine.specs.LargeAnswers.{is_large}
use Rattle.capture_machine.specs.Rounds.{Dialogue, Round}

-- The body that is given.
abbrev pub version_body : List ℕ
version_body = clear_body (canonical_response version_answer)

anew_gone : (r : RspSetup) (ids : List ℕ) (g : History) (tag : ℕ) → IsAnew r g tag → IsAnew r (with_dropped g ids) tag
anew_gone r [] g tag anew = anew
anew_gone r (id ∷ ids) g tag anew = anew_gone r ids (Dropped id ∷ g) tag (record { room = anew.room; anew = anew.anew; sized = anew.sized })

-- GET_VERSION leads to its entry alone, whatever was dropped before.
pub leads_version : (r : RspSetup) (g : History) (ids : List ℕ) (tag : ℕ) (body : List ℕ) (o : Outcome) → body ≡ clear_body (canonical_request GetVersion) → IsAnew r g tag → MayLeadTo r (with_dropped g ids) tag body o → o ≡ Adds (version_entry tag)
leads_version r g ids tag body o is anew may =
    (version_is_given r (with_dropped g ids) tag o (anew_gone r ids g tag anew)).0 (subst (λ (b : List ℕ). MayLeadTo r (with_dropped g ids) tag b o) is may)

module _ (r : RspSetup) (k : Kept) (g : History) (round : Round) (answer : List ℕ) (byte : r.beat < 256) (is : round.body ≡ clear_body (canonical_request GetVersion)) (anew : IsAnew r g round.tag) where
  abbrev d : Dialogue
  d = record (restored k) { responder = g }

  abbrev one : Entry
  one = version_entry round.tag

  leads : (ids : List ℕ) (o : Outcome) → MayLeadTo r (with_dropped g ids) round.tag round.body o → o ≡ Adds one
  leads ids o may = leads_version r g ids round.tag round.body o is anew may

  -- ---- Whole.

  plain_is : (next : History) → AnswersPlainly r d round answer next → (answer ≡ version_body) × (next ≡ one ∷ g)
  plain_is next a = by_drops a.0 a.1 a.2 a.3 a.5 a.6
    where
      by_drops : (ids : List ℕ) (o : Outcome) → MayLeadAfter r g ids round.tag round.body o → AreShown r g round.body o ids → body_of o ≡ answer → next ≡ after (with_dropped g ids) o → (answer ≡ version_body) × (next ≡ one ∷ g)
      by_drops [] o may shown sends behind = let same = leads [] o may.1 in (sym sends ∙ ap body_of same, behind ∙ ap (after g) same)
      by_drops (id ∷ []) o may shown sends behind =
          absurd (false≢true (subst (λ (x : Outcome). AreShown r g round.body x (id ∷ [])) (leads (id ∷ []) o may.1) shown))
      by_drops (id ∷ other ∷ others) o may shown sends behind = absurd shown

  plain_from : answer ≡ version_body → AnswersPlainly r d round answer (one ∷ g)
  plain_from same =
      let may : MayLeadTo r g round.tag round.body (Adds one) = subst (λ (b : List ℕ). MayLeadTo r g round.tag b (Adds one)) (sym is) ((version_is_given r g round.tag (Adds one) anew).1 refl) in
      ([], Adds one, (tt, may), tt, refl, sym same, refl)

  pub shown_is : IsShownAnswer r g round.tag round.body answer → (answer ≡ version_body) × (history_shown r g round.tag round.body answer ≡ version_entry round.tag ∷ g)
  shown_is shown =
      let next : History = history_shown r g round.tag round.body answer in
      plain_is next ((plain_is_shown r d round answer next byte).1 (shown, refl))

  pub shown_from : answer ≡ version_body → IsShownAnswer r g round.tag round.body answer
  shown_from same = ((plain_is_shown r d round answer (one ∷ g) byte).0 (plain_from same)).0

  -- ---- Nothing else.

  pub never_large : IsShownLarge r g round.tag round.body answer → ⊥
  never_large shown =
      let next : History = begun_large g (large_shown r g round.tag round.body answer) in
      let a = (large_is_shown r d round answer next byte).1 (shown, refl) in
      let same = leads a.1.0 (Adds a.1.1) a.1.2.1 in
      false≢true (sym (ap large_by same) ∙ a.1.3)
    where
      large_by : Outcome → Bool
      large_by (Adds e) = is_large e
      large_by _ = false

  pub never_last : EndsLarge r g round.tag round.body answer → ⊥
  unfolding MayLeadTo
  never_last ends =
      let o : Outcome = last_shown r g round.tag round.body answer in
      let may : MayLeadTo r g round.tag round.body o = (values_shown_by r g round.tag round.body answer, ends.0.0, ends.0.1, ends.0.2) in
      false≢true (sym (ap (ends_large g) (leads [] o may)) ∙ ends.1)

  pub never_apart : IsApartShown r d round answer → ⊥
  unfolding MayLeadTo
  never_apart apart =
      let ids : List ℕ = drops_shown_by r g round.tag round.body answer in
      let o : Outcome = outcome_shown r g round.tag round.body answer in
      let may : MayLeadTo r (with_dropped g ids) round.tag round.body o = (values_shown_by r (with_dropped g ids) round.tag round.body answer, apart.0.0, apart.0.1, apart.0.2) in
      false≢true (sym (ap (λ (x : Outcome). carries_exchange (body_of x)) (leads ids o may)) ∙ apart.2)
