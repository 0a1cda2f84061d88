-- The entries of live sessions after a packet, one RspSessionID after another.
use Rattle.std.proofs.Common.{◌≡◌, ◌≢◌, ◌≤◌, ◌∙◌, ◌==◌, ◌||◌, ◌+◌, ◌-◌, ◌^◌, ◌<◌, ℕ, suc, zero, List, [], ◌∷◌, Bool, true, false, cond, Option, Some, None, map, refl, ap, sym, subst, arith, eqb-true, ne_eqb}
use Rattle.std.specs.Prelude.{not, slice_index_or}
use Rattle.std.specs.List.{AllByRecursion}
use Rattle.std.proofs.lemmas.Bool.{false≢true, and_parts, and_right}
use Rattle.responder_machine.specs.Heard.{view_of}
use Rattle.responder_machine.specs.Session.{Events, is_live, session_of}
use Rattle.spdm_grammar.specs.declared.told.session_view.SessionView.{SessionView}
use Rattle.check_laws.proofs.CountedRecords.{answer_counts, with_more}
use Rattle.check_laws.proofs.OwnPlaces.{begun_at, eid_is, view_at}
use Rattle.check_laws.proofs.PassingPlaces.{changed_is, map_changed_where}
use Rattle.check_laws.proofs.RowSteps.{going, responder_cases}
use Rattle.check_laws.specs.Changes.{IsChange, IsStep, shown}
use Rattle.check_laws.specs.Rows.{ArePlaces, IsOfDialogue, PassesOnlyAt, changed_where, followed, goes_on, gone_on, is_live_as, with_answered, with_view}
use Rattle.check_laws.specs.Verdict.{seen_of}
use Rattle.check_laws.specs.declared.change.Change.{Change}
use Rattle.check_laws.specs.declared.places.Places.{Places}
use Rattle.check_laws.specs.declared.verdict.Seen as declared
use Rattle.capture_machine.specs.Rounds.{Dialogue}
use Rattle.world_machine.specs.Setup.{Configuration}
use Rattle.capture_machine.specs.SessionTable.{Row, Seen, has_begun_as, is_named, reply_between, responder_id, seen, with_one, with_responder}

-- ---- An entry goes on, as the definitions read it.

abbrev pub seen_view : Option SessionView → Seen → Seen
seen_view None s = record s { stage = None }
seen_view (Some view) s = record s { id = view.id; stage = Some view.stage; hash = view.hash }

abbrev pub seen_step : Change → ℕ → Seen → Seen
seen_step change slot s =
    seen_view (goes_on change slot) (record s { answered = with_more (is_named change.answered (Some (slot + 1))) s.answered })

either_seen : (view : Option SessionView) (b : Bool) (entry : declared.Seen) → seen_of (with_view view (with_answered b entry)) ≡ seen_view view (record (seen_of entry) { answered = with_more b entry.answered })
either_seen None true entry = refl
either_seen None false entry = refl
either_seen (Some view) true entry = refl
either_seen (Some view) false entry = refl

seen_gone_on : (change : Change) (slot : ℕ) (entry : declared.Seen) → seen_of (gone_on change slot entry) ≡ seen_step change slot (seen_of entry)
seen_gone_on change slot entry = either_seen (goes_on change slot) (is_named change.answered (Some (slot + 1))) entry

-- ---- The view of a session that goes on, or ends.

none_goes : (s : Events) (begun : Bool) → (not (is_live s) || begun) ≡ true → cond begun None (shown s) ≡ None
none_goes [] true is = refl
none_goes [] false is = refl
none_goes (e ∷ s) true is = refl
none_goes (e ∷ s) false is = absurd (false≢true is)

one_goes : (s : Events) (begun : Bool) → (not (is_live s) || begun) ≡ false → cond begun None (shown s) ≡ Some (view_of s)
one_goes [] begun is = absurd (false≢true (sym is))
one_goes (e ∷ s) true is = absurd (false≢true (sym is))
one_goes (e ∷ s) false is = refl

module _ (w : Configuration) (packets : ℕ) (change : Change) (before after : Dialogue) (is : IsChange change before after) (step : IsStep before after) where
  -- What is known of a row before the packet.
  abbrev pub Known : Row → Type 0
  Known row = (row.eid ≡ before.setup.eid → IsOfDialogue before row) × (row.sent ≤ packets) × (row.answered ≤ packets)

  goes_is : (slot : ℕ) → slot < 4 → goes_on change slot ≡ cond (has_begun_as before after (slot + 1)) None (shown (session_of (slot + 1) after.responder))
  goes_is slot few =
      ap (λ b. cond b None (slice_index_or change.views slot None)) (begun_at change before after is step (slot + 1))
      ∙ ap (λ o. cond (has_begun_as before after (slot + 1)) None o) (view_at change before after is step slot few)

  answers_is : (slot count : ℕ) → count < 2 ^ 64 - 1 → with_more (is_named change.answered (Some (slot + 1))) count ≡ with_one (reply_between before after (slot + 1)) count
  answers_is slot count few = ap (λ o. with_more (is_named o (Some (slot + 1))) count) is.answered ∙ sym (answer_counts before after (slot + 1) count few)

  -- ---- One row.

  live_step : (slot : ℕ) (row : Row) → slot < 4 → row.live ≡ true → responder_id row ≡ slot + 1 → row.answered < 2 ^ 64 - 1 → seen_step change slot (seen w row) ≡ seen w (with_responder before after row)
  live_step slot row few live same small =
      let counted : with_more (is_named change.answered (Some (slot + 1))) row.answered ≡ with_one (reply_between before after (responder_id row)) row.answered =
      answers_is slot row.answered small ∙ ap (λ n. with_one (reply_between before after n) row.answered) (sym same) in
      let goes = goes_is slot few ∙ ap (λ n. cond (has_begun_as before after n) None (shown (session_of n after.responder))) (sym same) in
      let put = λ (n : ℕ). record (seen w row) { answered = n } in
      responder_cases before after row (λ x. seen_step change slot (seen w row) ≡ seen w x)
      (λ dead. absurd (false≢true (sym dead ∙ live)))
      (λ was end. ap (λ v. seen_view v (put (with_more (is_named change.answered (Some (slot + 1))) row.answered))) (goes ∙ none_goes (session_of (responder_id row) after.responder) _ end)
      ∙ ap (λ n. seen_view None (put n)) counted)
      (λ was on. let s = session_of (responder_id row) after.responder in
      ap (λ v. seen_view v (put (with_more (is_named change.answered (Some (slot + 1))) row.answered))) (goes ∙ one_goes s _ on)
      ∙ ap (λ n. seen_view (Some (view_of s)) (put n)) counted
      ∙ ap (λ b. record (seen w (going before after row)) { stage = cond b (Some (view_of s).stage) None }) (sym live))

  -- The rows whose RspSessionID is one of the first ones have changed.
  abbrev pub partly : ℕ → Row → Row
  partly zero row = row
  partly (suc slot) row = cond (is_live_as after.setup.eid (slot + 1) row) (with_responder before after row) (partly slot row)

  -- The parts of that test.
  its_parts : (id : ℕ) (row : Row) → is_live_as after.setup.eid id row ≡ true → (row.eid ≡ after.setup.eid) × (row.live ≡ true) × (responder_id row ≡ id)
  its_parts id row passes =
      let parts = and_parts (row.eid == after.setup.eid) _ passes in
      let rest = and_parts row.live _ parts.1 in
      (eqb-true _ _ parts.0, rest.0, eqb-true _ _ rest.1)

  apart_id : (id : ℕ) (row : Row) → responder_id row ≢ id → is_live_as after.setup.eid id row ≡ false
  apart_id id row apart = and_right (row.eid == after.setup.eid) _ (and_right row.live _ (ne_eqb _ _ apart))

  pub missed : (n : ℕ) (row : Row) → ((slot : ℕ) → slot < n → is_live_as after.setup.eid (slot + 1) row ≡ false) → partly n row ≡ row
  missed zero row none = refl
  missed (suc n) row none =
      ap (λ b. cond b (with_responder before after row) (partly n row)) (none n (omega arith)) ∙ missed n row (λ slot low. none slot (omega arith))

  pub hit : (n slot : ℕ) (row : Row) → slot < n → is_live_as after.setup.eid (slot + 1) row ≡ true → partly n row ≡ with_responder before after row
  hit zero slot row low passes = absurd (omega (arith, low))
  hit (suc n) slot row low passes = by_test (is_live_as after.setup.eid (n + 1) row) refl (λ lower. hit n slot row lower passes)
    where
      by_test : (b : Bool) → is_live_as after.setup.eid (n + 1) row ≡ b → (slot < n → partly n row ≡ with_responder before after row) → cond b (with_responder before after row) (partly n row) ≡ with_responder before after row
      by_test true its lower = refl
      by_test false other lower =
          let apart : n ≢ slot = λ same. absurd (false≢true (sym other ∙ ap (λ m. is_live_as after.setup.eid (m + 1) row) same ∙ passes)) in
          lower (omega arith)

  -- ---- All rows.

  before_it : (slot : ℕ) (row : Row) → is_live_as after.setup.eid (slot + 1) row ≡ true → partly slot row ≡ row
  before_it slot row passes =
      let id = (its_parts (slot + 1) row passes).2 in
      missed slot row (λ lower low. apart_id (lower + 1) row (λ same. omega arith))

  pub followed_is : packets < 2 ^ 64 - 1 → (n : ℕ) → n ≤ 4 → (places : Places) (table : List declared.Seen) (rows : List Row) → AllByRecursion Known rows → ArePlaces places before rows → map seen_of table ≡ map (seen w) rows
      → map seen_of (followed n places change table) ≡ map (λ row. seen w (partly n row)) rows
  unfolding followed
  followed_is small zero few places table rows all are entries = entries
  followed_is small (suc slot) few places table rows all are entries =
      let place = slice_index_or places.live slot None in
      let low : slot < 4 = omega arith in
      let so_far = followed_is small slot (omega arith) places table rows all are entries in
      let at = subst (λ n. PassesOnlyAt (is_live_as n (slot + 1)) rows place) (eid_is change before after is step) (are.live_at slot low) in
      map_changed_where seen_of (gone_on change slot) (seen_step change slot) (seen_gone_on change slot) place (followed slot places change table)
      ∙ ap (changed_where place (seen_step change slot)) so_far
      ∙ changed_is Known (is_live_as after.setup.eid (slot + 1)) (λ row. seen w (partly slot row)) (λ row. seen w (partly (suc slot) row)) (seen_step change slot) rows place all at
      (λ row known apart. ap (λ b. seen w (cond b (with_responder before after row) (partly slot row))) (sym apart))
      (λ row known passes. let parts = its_parts (slot + 1) row passes in
      let fits : row.answered < 2 ^ 64 - 1 = omega (arith, known.2, small) in
      ap (λ x. seen_step change slot (seen w x)) (before_it slot row passes)
      ∙ live_step slot row low parts.1 parts.2 fits
      ∙ ap (λ b. seen w (cond b (with_responder before after row) (partly slot row))) (sym passes))
