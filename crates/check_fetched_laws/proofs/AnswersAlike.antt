-- An answer depends on no more of the bytes of a large response that is fetched than on those of its next chunk.
use Rattle.std.proofs.Common.{◌≡◌, ◌≤◌, ◌==◌, ℕ, List, refl, sym, ap, ◌∙◌, subst, drop, length, Bool, true, false, Option, Some, None}
use Rattle.std.specs.Prelude.{slice_index}
use Rattle.chunking.specs.Cutting.{nth_chunk}
use Rattle.responder_machine.specs.Answer.{answer_bytes}
use Rattle.responder_machine.specs.History.{History}
use Rattle.responder_machine.specs.LargeMessages.{given_of}
use Rattle.responder_machine.specs.May.{place_for}
use Rattle.responder_machine.specs.Place.{Place, clear_place, place_terms, session_place}
use Rattle.responder_machine.specs.Refusal.{has_pending}
use Rattle.responder_machine.specs.Responder.{Outcome}
use Rattle.responder_machine.specs.Session.{id_in_record, session_of}
use Rattle.responder_machine.specs.Setup.{RspSetup, towards}
use Rattle.spdm_grammar.specs.declared.names.TheConstants.{MAX_MESSAGE_SIZE}
use Rattle.check_laws.specs.AnswersShown.{least_values}
use Rattle.check_fetched_laws.proofs.ClearAlike.{clear_alike}
use Rattle.check_fetched_laws.proofs.FewBytes.{answers_few}
use Rattle.check_fetched_laws.proofs.SealedAlike.{sealed_alike}
use Rattle.check_fetched_laws.proofs.SettledCaps.{walks_settle}
use Rattle.check_fetched_laws.proofs.TurnsBoth.{Settles}
use Rattle.check_fetched_laws.proofs.WalksSound.{walk_stands}
use Rattle.check_fetched_laws.specs.AlikeAnswers.{AgreeNext, AnswersAreAlike, ArePending, gives_chunk}
use Rattle.capture_machine.proofs.FetchedTold.{Stands}
use Rattle.capture_machine.proofs.PlacesServed.{named_clear, place_type}
use Rattle.capture_machine.specs.CapturedAnswers.{AreShown, MayLeadAfter, is_plain}
use Rattle.capture_machine.specs.LargeAnswers.{judging, place_named, with_large}
use Rattle.world_machine.specs.Setup.{known_of}

module _ (r : RspSetup) (few : (h : History) (p : Place) (m : List ℕ) → length (answer_bytes r p m (least_values h p)) ≤ MAX_MESSAGE_SIZE) (h : History) (w v : List ℕ) (tag : ℕ) (body : List ℕ) (settles : Settles h) (one : Stands h w tag body) (other : Stands h v tag body)
    (waits : ArePending h body w v) where
  abbrev large : List ℕ → History
  large x = with_large (place_named body) x h

  abbrev Alike : List ℕ → Outcome → Type 0
  Alike ids x = MayLeadAfter r (large v) ids tag body x × AreShown r (large v) body x ids × (is_plain (large v) x ≡ true)

  -- The place, by its type.
  abbrev chunk_at : Place → List ℕ → List ℕ
  chunk_at p x = (nth_chunk (place_terms p).common.to_requester.transfer 0 x (given_of p.turns)).chunk

  clear : (slice_index body 0 == 5) ≡ true → (ids : List ℕ) (x : Outcome) → (gives_chunk x ≡ true → AgreeNext h body w v) → MayLeadAfter r (large w) ids tag body x → AreShown r (large w) body x ids → is_plain (large w) x ≡ true → Alike ids x
  clear type ids x same may shown plain =
      let here : (y : List ℕ) → place_for (large y) body ≡ clear_place (with_large None y h) =
      λ y. ap (λ (n : Option ℕ). place_for (with_large n y h) body) (named_clear body type) ∙ place_type (with_large None y h) body true type in
      let pending : has_pending (clear_place (with_large None w h)) ≡ has_pending (clear_place (with_large None v h)) = sym (ap has_pending (here w)) ∙ waits ∙ ap has_pending (here v) in
      let there = clear_alike r few h w v tag body type settles one other ids x pending
      (λ gives. let a = same gives in (a.size, sym (ap (λ (p : Place). chunk_at p w) (here w)) ∙ a.chunk ∙ ap (λ (p : Place). chunk_at p v) (here v))) may shown plain in
      subst (λ (l : List ℕ). Alike l x) (sym there.0) ((tt, there.1), tt, there.2)

  sealed : (slice_index body 0 == 5) ≡ false → (ids : List ℕ) (x : Outcome) → (gives_chunk x ≡ true → AgreeNext h body w v) → MayLeadAfter r (large w) ids tag body x → AreShown r (large w) body x ids → is_plain (large w) x ≡ true → Alike ids x
  sealed type ids x same may shown plain =
      let here : (y : List ℕ) → place_for (large y) body ≡ session_place (session_of (id_in_record (drop 1 body)) (large y)) = λ y. place_type (large y) body false type in
      let pending = sym (ap has_pending (here w)) ∙ waits ∙ ap has_pending (here v) in
      sealed_alike r few h w v tag body type one other pending ids x
      (λ gives. let a = same gives in (a.size, sym (ap (λ (p : Place). chunk_at p w) (here w)) ∙ a.chunk ∙ ap (λ (p : Place). chunk_at p v) (here v))) may shown plain

  either : (ids : List ℕ) (x : Outcome) → (gives_chunk x ≡ true → AgreeNext h body w v) → MayLeadAfter r (large w) ids tag body x → AreShown r (large w) body x ids → is_plain (large w) x ≡ true → Alike ids x
  either ids x same may shown plain = by_type (slice_index body 0 == 5) refl
    where
      by_type : (b : Bool) → (slice_index body 0 == 5) ≡ b → Alike ids x
      by_type true type = clear type ids x same may shown plain
      by_type false type = sealed type ids x same may shown plain

pub answers_are_alike : AnswersAreAlike
answers_are_alike c q older d w v round answer next dropped outcome blocks walk fetch fetching at waits same by =
    let r : RspSetup = towards c.responder (known_of d.setup) in
    let judged : judging d.fetching round.body d.responder ≡ with_large (place_named round.body) w d.responder = ap (λ (o : Option (List ℕ)). judging o round.body d.responder) fetching in
    let one = walk_stands c q older d w round walk fetching at in
    let other = walk_stands c q older (record d { fetching = Some v }) v round fetch refl at in
    let there = either r (answers_few r blocks) d.responder w v round.tag round.body (walks_settle c q older d walk) one other waits dropped outcome same
    (subst (λ (l : History). MayLeadAfter r l dropped round.tag round.body outcome) judged by.0)
    (subst (λ (l : History). AreShown r l round.body outcome dropped) judged by.1)
    (subst (λ (l : History). is_plain l outcome ≡ true) judged by.2) in
    (there.0, there.1, there.2, by.3, by.4)
