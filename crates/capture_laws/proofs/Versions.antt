-- GET_VERSION at a responder whose newest clear message that it took is another one: it is taken, or refused with an
-- ERROR, and the kept message stays.
use Rattle.std.proofs.Common.{◌≡◌, ◌≢◌, ◌<◌, ◌+◌, ◌==◌, ◌⊎◌, ◌∙◌, ℕ, List, [], ◌∷◌, refl, sym, ap, subst, arith, Bool, true, false, Option, Some, None, is_some, is_none, cond, inl, inr}
use Rattle.std.proofs.lemmas.Bool.{false≢true}
use Rattle.capture_laws.proofs.Counted.{count_completed, count_drops, count_unseen}
use Rattle.capture_laws.specs.Warned.{taken_count}
use Rattle.check_late_laws.proofs.Late.WalksAnew.{drops_kept}
use Rattle.chunking.specs.Collecting.{joined_with, under_way}
use Rattle.responder_machine.proofs.Turns.{carried-refused, either-refused}
use Rattle.responder_machine.specs.Answer.{Free, request_at}
use Rattle.responder_machine.specs.Handling.{chunk_in, chunk_turn, error_bytes, last_chunk_turn, refused_turn, taken_chunk, turn_by, turn_of}
use Rattle.responder_machine.specs.History.{Entry, History, Kept, kept_of}
use Rattle.responder_machine.specs.History.Entry.{Clear}
use Rattle.responder_machine.specs.LargeMessages.{chunks_of}
use Rattle.responder_machine.specs.May.{with_dropped}
use Rattle.responder_machine.specs.Place.{Place, clear_place, inside}
use Rattle.responder_machine.specs.Refusal.{refusal}
use Rattle.responder_machine.specs.Responder.{Outcome, after, body_of, is_repeat, kept_reply, on_clear}
use Rattle.responder_machine.specs.Responder.Outcome.{Same, Adds}
use Rattle.responder_machine.specs.Setup.{RspSetup}
use Rattle.responder_machine.specs.Turn.{Effect, Turn, code_in, handle_in, is_taken, takes}
use Rattle.responder_machine.specs.Turn.Effect.{NoEffect}
use Rattle.spdm_grammar.specs.Message.{ChunkMessage}
use Rattle.spdm_grammar.specs.Message.RequestMessage.{GetVersion}
use Rattle.spdm_grammar.specs.Requests.{canonical_request}
use Rattle.spdm_grammar.specs.declared.messages.error_code.ErrorCode.{ErrorCode}
use Rattle.spdm_grammar.specs.declared.messages.error_code.ErrorCode.TheVariants.{LargeResponse}
use Rattle.spdm_grammar.specs.declared.names.request_code.TheConstants.{CHUNK_GET}
use Rattle.spdm_machine.specs.Bodies.{clear_body}
use Rattle.spdm_basis.proofs.Bools.{and_first}
use Rattle.capture_machine.proofs.PlainTells.{led_clear}
use Rattle.capture_machine.proofs.TurnsAlike.{refusal_other}
use Rattle.capture_machine.specs.CapturedAnswers.{Answers, AnswersAgain, AnswersLarge, AnswersPlainly, Completes, MayLeadTo}
use Rattle.capture_machine.specs.LargeAnswers.{dropped_before_large, gives_last, is_large, judging, place_named, with_large}
use Rattle.capture_machine.specs.Rounds.{Dialogue, Round, no_draw}

abbrev pub get_version : List ℕ
get_version = canonical_request GetVersion

-- GET_VERSION is no repeat, under any tag.
abbrev pub IsAnew : History → Type 0
IsAnew h = (tag : ℕ) → is_repeat (kept_of h) tag get_version ≡ false

pub anew_same : (g h : History) → kept_of g ≡ kept_of h → IsAnew h → IsAnew g
anew_same g h same anew = λ tag. ap (λ (k : Option Kept). is_repeat k tag get_version) same ∙ anew tag

-- ---- A turn.

-- It was taken, or refused with an ERROR.
abbrev IsTurned : RspSetup → Place → List ℕ → Free → Turn → Type 0
IsTurned r p m f t = (is_taken t ≡ true) ⊎ ((e : ErrorCode) × (e ≢ LargeResponse) × (t ≡ refused_turn r p m f e))

chunk_taken : (r : RspSetup) (p : Place) (m : List ℕ) (f : Free) (c : ChunkMessage) → (chunk_turn r p m f c).refused ≡ None
chunk_taken r p m f c =
    let whole : List ℕ = joined_with (under_way (chunks_of p.turns)) c in
    either-refused c.last (last_chunk_turn r (inside p) m f c whole) (taken_chunk m c NoEffect []) (carried-refused r (inside p) m f c whole (refusal r (inside p) whole f)) refl

turned_by : (r : RspSetup) (p : Place) (m : List ℕ) (f : Free) (o : Option ErrorCode) (c : Option ChunkMessage) → ((e : ErrorCode) → o ≡ Some e → e ≢ LargeResponse) → IsTurned r p m f (turn_by r p m f o c)
turned_by r p m f (Some e) c other = inr (e, other e refl, refl)
turned_by r p m f None None other = inl refl
turned_by r p m f None (Some c) other = inl (ap is_none (chunk_taken r p m f c))

turned : (r : RspSetup) (p : Place) (m : List ℕ) (f : Free) → IsTurned r p m f (turn_of r p m f)
unfolding turn_of
turned r p m f = turned_by r p m f (refusal r p m f) (chunk_in (request_at p m)) (λ e is. refusal_other r p m f e is)

-- ---- What it leads to.

adds_clear : (r : RspSetup) (h : History) (tag : ℕ) (m : List ℕ) (f : Free) → is_repeat (kept_of h) tag m ≡ false → on_clear r h tag m f no_draw ≡ Adds (Clear tag (turn_of r (clear_place h) m f) no_draw)
unfolding on_clear
adds_clear r h tag m f anew = ap (λ (b : Bool). cond b (Same (clear_body (kept_reply (kept_of h)))) (Adds (Clear tag (turn_of r (clear_place h) m f) no_draw))) anew

-- The body is GET_VERSION, and no repeat.
pub record IsLed (r : RspSetup) (h : History) (tag : ℕ) (o : Outcome) : Type 0 where
  pub free : Free
  pub leads : o ≡ Adds (Clear tag (turn_of r (clear_place h) get_version free) no_draw)

pub version_led : (r : RspSetup) (h : History) (tag : ℕ) (body : List ℕ) (o : Outcome) → body ≡ clear_body get_version → IsAnew h → MayLeadTo r h tag body o → IsLed r h tag o
version_led r h tag body o is anew may =
    let led = led_clear r h tag (clear_body get_version) o refl (subst (λ (l : List ℕ). MayLeadTo r h tag l o) is may) in
    record { free = led.free; leads = sym led.leads ∙ adds_clear r h tag get_version led.free (anew tag) }

-- ---- An answer.

-- It is an ERROR in answer to GET_VERSION.
abbrev pub IsRefusal : RspSetup → List ℕ → Type 0
IsRefusal r answer = (p : Place) × (f : Free) × (e : ErrorCode) × (e ≢ LargeResponse) × (answer ≡ clear_body (error_bytes r p get_version f e))

-- One more message was taken; or the answer is an ERROR, and the kept message stays.
abbrev pub IsNext : RspSetup → History → List ℕ → History → Type 0
IsNext r h answer next = (taken_count h < taken_count next) ⊎ ((kept_of next ≡ kept_of h) × IsRefusal r answer)

one_more : (tag : ℕ) (t : Turn) (h : History) → is_taken t ≡ true → taken_count h < taken_count (Clear tag t no_draw ∷ h)
one_more tag t h taken = subst (λ (b : Bool). taken_count h < cond b (taken_count h + 1) (taken_count h)) (sym taken) (omega arith)

added : (one other : Entry) → Adds one ≡ Adds other → one ≡ other
added one other same = cc

-- A turn that was not taken has no effect.
idle : (r : RspSetup) (p : Place) (m : List ℕ) (f : Free) (t : Turn) → IsTurned r p m f t → (t.effect ≡ NoEffect → ⊥) → is_taken t ≡ true
idle r p m f t (inl taken) effect = taken
idle r p m f t (inr refused) effect = absurd (effect (ap (λ (x : Turn). x.effect) refused.2))

module _ (r : RspSetup) (d : Dialogue) (round : Round) (is : round.body ≡ clear_body get_version) (anew : IsAnew d.responder) where
  abbrev judged : History
  judged = judging d.fetching round.body d.responder

  anew_dropped : (ids : List ℕ) → IsAnew (with_dropped judged ids)
  anew_dropped ids = anew_same (with_dropped judged ids) d.responder (drops_kept d.fetching round.body d.responder ids) anew

  plainly : (answer : List ℕ) (next : History) → AnswersPlainly r d round answer next → IsNext r d.responder answer next
  plainly answer next p =
      let h : History = with_dropped judged p.0 in
      let led = version_led r h round.tag round.body p.1 is (anew_dropped p.0) p.2.1 in
      let t : Turn = turn_of r (clear_place h) get_version led.free in
      let k : History = with_dropped d.responder p.0 in
      let same : next ≡ Clear round.tag t no_draw ∷ k = p.6 ∙ ap (after k) led.leads in
      elim (turned r (clear_place h) get_version led.free) [
        | inl taken ↦ inl (subst (λ (l : History). taken_count d.responder < taken_count l) (sym same)
            (subst (λ (n : ℕ). n < taken_count (Clear round.tag t no_draw ∷ k)) (count_drops p.0 d.responder) (one_more round.tag t k taken)))
        | inr refused ↦ inr (
          ap kept_of same ∙ ap (λ (x : Turn). kept_of (Clear round.tag x no_draw ∷ k)) refused.2 ∙ drops_kept None round.body d.responder p.0,
          (clear_place h, led.free, refused.0, refused.1, sym p.5 ∙ ap body_of led.leads ∙ ap (λ (x : Turn). clear_body x.reply) refused.2),
        )
      ]

  largely : (answer : List ℕ) (next : History) (whole : List ℕ) → AnswersLarge r d round answer next whole → IsNext r d.responder answer next
  largely answer next whole p =
      let h : History = with_dropped judged p.0 in
      let led = version_led r h round.tag round.body (Adds p.1) is (anew_dropped p.0) p.2.1 in
      let t : Turn = turn_of r (clear_place h) get_version led.free in
      let it : p.1 ≡ Clear round.tag t no_draw = added p.1 (Clear round.tag t no_draw) led.leads in
      let large : is_some (handle_in t.effect) ≡ true = ap is_large (sym it) ∙ p.3 in
      let taken = idle r (clear_place h) get_version led.free t (turned r (clear_place h) get_version led.free) (λ none. false≢true (ap (λ (x : Effect). is_some (handle_in x)) (sym none) ∙ large)) in
      inl (subst (λ (l : History). taken_count d.responder < taken_count l) (sym p.6)
      (subst (λ (n : ℕ). taken_count d.responder < n) (sym (count_unseen p.1 d.responder ∙ ap (λ (x : Entry). taken_count (x ∷ d.responder)) it)) (one_more round.tag t d.responder taken)))

  again : (answer : List ℕ) (next : History) (whole : List ℕ) → AnswersAgain r d round answer next whole → ⊥
  again answer next whole p =
      let led = version_led r d.responder round.tag round.body (Same answer) is anew p.1 in
      absurd (let x = led.leads in cc)

  completes : (answer : List ℕ) (next : History) → Completes r d round answer next → IsNext r d.responder answer next
  completes answer next p =
      let led = version_led r judged round.tag round.body (Adds p.2) is (anew_dropped []) p.4 in
      let t : Turn = turn_of r (clear_place judged) get_version led.free in
      let it : p.2 ≡ Clear round.tag t no_draw = added p.2 (Clear round.tag t no_draw) led.leads in
      let gets : takes CHUNK_GET t ≡ true = and_first _ _ (ap (gives_last judged) (sym it) ∙ p.5) in
      let taken = idle r (clear_place judged) get_version led.free t (turned r (clear_place judged) get_version led.free) (λ none. false≢true (ap (λ (x : Effect). code_in x == CHUNK_GET) (sym none) ∙ gets)) in
      let place : Option ℕ = place_named round.body in
      let k : History = with_large place p.0 (dropped_before_large place p.1 d.responder) in
      inl (subst (λ (l : History). taken_count d.responder < taken_count l) (sym (p.8 ∙ ap (λ (x : Entry). x ∷ k) it))
      (subst (λ (n : ℕ). n < taken_count (Clear round.tag t no_draw ∷ k)) (count_completed place p.0 p.1 d.responder) (one_more round.tag t k taken)))

  pub version_answered : (answer : List ℕ) (next : History) (fetching : Option (List ℕ)) → Answers r d round answer next fetching → IsNext r d.responder answer next
  unfolding Answers
  version_answered answer next fetching (inl a) = plainly answer next a.0
  version_answered answer next fetching (inr (inl a)) = largely answer next a.0 a.1
  version_answered answer next fetching (inr (inr (inl a))) = absurd (again answer next a.0 a.1)
  version_answered answer next fetching (inr (inr (inr a))) = completes answer next a.0

  pub not_again : (answer : List ℕ) (next : History) (whole : List ℕ) → AnswersAgain r d round answer next whole → ⊥
  not_again answer next whole p = again answer next whole p
