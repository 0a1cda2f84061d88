-- The table after a packet has the entries of the rows after it.
use Rattle.std.proofs.Common.{◌≡◌, ◌≤◌, ◌∙◌, ◌++◌, ◌==◌, ◌&&◌, ◌+◌, ◌-◌, ◌^◌, ◌<◌, ℕ, suc, zero, List, [], ◌∷◌, Bool, true, false, cond, Option, Some, None, length, map, reverse, refl, ap, sym, subst, arith, add-one, eq-eqb, eqb-true}
use Rattle.std.specs.Prelude.{nat_lt, slice_index_or}
use Rattle.std.specs.List.{AllByRecursion}
use Rattle.std.proofs.lemmas.Bool.{false≢true, and_left, and_right, ltb-false, ltb-true}
use Rattle.std.proofs.lemmas.List.{append-nil, length-map, map-append}
use Rattle.std.proofs.lemmas.Option.{none-some}
use Rattle.responder_machine.specs.Heard.{view_of}
use Rattle.responder_machine.specs.Session.{Events, is_live, session_of}
use Rattle.check_laws.proofs.CountedRecords.{none_named, request_counts, with_more}
use Rattle.check_laws.proofs.FollowedRows.{Known, followed_is, hit, missed, partly}
use Rattle.check_laws.proofs.OrderedRows.{in_order, new_rows}
use Rattle.check_laws.proofs.OwnPlaces.{begun_is, eid_is, none_is, own_places}
use Rattle.check_laws.proofs.PassingPlaces.{all_map, all_push, changed_is, map_changed_where, none_passes}
use Rattle.check_laws.proofs.RowSteps.{counts_next, ended, going, responder_cases}
use Rattle.check_laws.specs.Changes.{IsChange, IsFew, IsStep, asked_between, shown}
use Rattle.check_laws.specs.Rows.{ArePlaces, IsOfDialogue, PassesOnlyAt, StandFor, StandsForRows, after_change, begun_view, changed_where, does_ask_as, followed, is_live_as, kept_for, new_entries, new_place, one_more, places_after, table_after, with_sent}
use Rattle.check_laws.specs.Verdict.{seen_of}
use Rattle.check_laws.specs.declared.change.Change.{Change}
use Rattle.check_laws.specs.declared.places.Places.{Places}
use Rattle.check_laws.specs.declared.verdict.Seen as declared
use Rattle.capture_machine.specs.Rounds.{Dialogue}
use Rattle.world_machine.specs.Setup.{Configuration}
use Rattle.capture_machine.specs.SessionTable.{Row, Seen, has_begun, is_named, last_begun, new_row, number_from, responder_id, row_after, rows_between, seen, with_requester, with_responder}

pub map_twice : {X Y Z : Type 0} (g : Y → Z) (f : X → Y) (xs : List X) → map (λ x. g (f x)) xs ≡ map g (map f xs)
map_twice g f [] = refl
map_twice g f (x ∷ xs) = ap (λ ys. g (f x) ∷ ys) (map_twice g f xs)

abbrev pub seen_sent : Seen → Seen
seen_sent s = record s { sent = one_more s.sent }

either_sent : (b : Bool) (s : Seen) → cond b (seen_sent s) s ≡ record s { sent = with_more b s.sent }
either_sent true s = refl
either_sent false s = refl

-- One of the four ids, counted from 0.
few_slot : (id : ℕ) → IsFew id → (slot : ℕ) × (slot < 4) × (id ≡ slot + 1)
few_slot zero few = absurd (omega (arith, few.0))
few_slot (suc slot) few = (slot, omega (arith, few.1), sym (add-one slot))

named_is : (asks : Option ℕ) (id : ℕ) → is_named asks (Some id) ≡ true → asks ≡ Some id
named_is None id is = absurd (false≢true is)
named_is (Some one) id is = ap (λ n. Some n) (eqb-true _ _ is)

module _ (w : Configuration) (packets : ℕ) (change : Change) (before after : Dialogue) (is : IsChange change before after) (step : IsStep before after) where
  abbrev Knows : Row → Type 0
  Knows row = Known w packets change before after is step row

  abbrev pub four : Row → Row
  four row = partly w packets change before after is step 4 row

  -- A row of this requester has changed at the responder.
  abbrev at_responder : Row → Row
  at_responder row = cond (row.eid == after.setup.eid) (with_responder before after row) row

  pub its_own : (row : Row) → Knows row → row.eid ≡ after.setup.eid → IsOfDialogue before row
  its_own row known own = known.0 (own ∙ sym (eid_is change before after is step))

  live_four : (row : Row) → IsOfDialogue before row → row.eid ≡ after.setup.eid → (b : Bool) → row.live ≡ b → four row ≡ with_responder before after row
  live_four row of own true live =
      let at = few_slot (responder_id row) (of.few live) in
      let passes : is_live_as after.setup.eid (at.0 + 1) row ≡ true = ap (λ b. b && (row.live && responder_id row == at.0 + 1)) (eq-eqb _ _ own) ∙ ap (λ b. b && responder_id row == at.0 + 1) live ∙ eq-eqb _ _ at.2 in
      hit w packets change before after is step 4 at.0 row at.1 passes
  live_four row of own false dead =
      missed w packets change before after is step 4 row (λ slot low. and_right (row.eid == after.setup.eid) _ (and_left row.live _ dead)) ∙ responder_cases before after row (λ x. row ≡ x) (λ d. refl)
      (λ live end. absurd (false≢true (sym dead ∙ live))) (λ live on. absurd (false≢true (sym dead ∙ live)))

  pub four_is : (row : Row) → Knows row → (b : Bool) → (row.eid == after.setup.eid) ≡ b → four row ≡ cond b (with_responder before after row) row
  four_is row known true own = live_four row (its_own row known (eqb-true _ _ own)) (eqb-true _ _ own) row.live refl
  four_is row known false apart = missed w packets change before after is step 4 row (λ slot low. and_left _ _ apart)

  -- ---- Records in requests.

  sent_of : (row x : Row) → x.asks_as ≡ row.asks_as → x.sent < 2 ^ 64 - 1 → cond (is_named row.asks_as (asked_between before after)) (seen_sent (seen w x)) (seen w x) ≡ seen w (with_requester before after x)
  sent_of row x same small =
      ap (λ o. cond (is_named o (asked_between before after)) (seen_sent (seen w x)) (seen w x)) (sym same)
      ∙ either_sent (is_named x.asks_as (asked_between before after)) (seen w x)
      ∙ ap (λ n. record (seen w x) { sent = n }) (sym (request_counts before after x.asks_as x.sent small))

  own_sent : (row : Row) → row.sent < 2 ^ 64 - 1
      → cond (is_named row.asks_as (asked_between before after)) (seen_sent (seen w (with_responder before after row))) (seen w (with_responder before after row)) ≡ seen w (with_requester before after (with_responder before after row))
  own_sent row small =
      responder_cases before after row (λ x. cond (is_named row.asks_as (asked_between before after)) (seen_sent (seen w x)) (seen w x) ≡ seen w (with_requester before after x))
      (λ dead. sent_of row row refl small)
      (λ live end. sent_of row (ended before after row) refl small)
      (λ live on. sent_of row (going before after row) refl small)

  -- The row's record began a round.
  abbrev pub did_send : Option ℕ → Row → Bool
  did_send asked row = row.eid == after.setup.eid && is_named row.asks_as asked

  sent_is : (row : Row) → row.sent < 2 ^ 64 - 1 → (b : Bool) → (row.eid == after.setup.eid) ≡ b
      → cond (b && is_named row.asks_as (asked_between before after)) (seen_sent (seen w (cond b (with_responder before after row) row))) (seen w (cond b (with_responder before after row) row))
      ≡ seen w (cond b (with_requester before after (with_responder before after row)) row)
  sent_is row small true own = own_sent row small
  sent_is row small false apart = refl

  pub one_sent : packets < 2 ^ 64 - 1 → (row : Row) → Knows row → cond (did_send (asked_between before after) row) (seen_sent (seen w (four row))) (seen w (four row)) ≡ seen w (row_after before after row)
  one_sent small row known =
      let fits : row.sent < 2 ^ 64 - 1 = omega (arith, known.1, small) in
      ap (λ x. cond (did_send (asked_between before after) row) (seen_sent (seen w x)) (seen w x)) (four_is row known (row.eid == after.setup.eid) refl)
      ∙ sent_is row fits (row.eid == after.setup.eid) refl

  -- Where that row stands.
  none_has : (asked : Option ℕ) → ((id : ℕ) → asked ≡ Some id → IsFew id → ⊥) → (row : Row) → Knows row → did_send asked row ≡ false
  none_has None none row known = and_right (row.eid == after.setup.eid) _ (none_named before after row.asks_as)
  none_has (Some id) none row known = by_tests (row.eid == after.setup.eid) refl (is_named row.asks_as (Some id)) refl
    where
      by_tests : (a : Bool) → (row.eid == after.setup.eid) ≡ a → (b : Bool) → is_named row.asks_as (Some id) ≡ b → (a && b) ≡ false
      by_tests false apart b its = refl
      by_tests true own false its = refl
      by_tests true own true its = absurd (none id refl ((its_own row known (eqb-true _ _ own)).asks id (named_is row.asks_as id its)))

  pub stands_at : (places : Places) (rows : List Row) → AllByRecursion Knows rows → ArePlaces places before rows → (asked : Option ℕ) → PassesOnlyAt (did_send asked) rows (kept_for places.asks asked)
  stands_at places rows all are None = none_passes Knows (did_send None) rows all (none_has None (λ id same few. none-some id same))
  stands_at places rows all are (Some zero) = none_passes Knows (did_send (Some zero)) rows all (none_has (Some zero) (λ id same few. zero_few id same few))
    where
      zero_few : (id : ℕ) → Some zero ≡ Some id → IsFew id → ⊥
      zero_few zero same few = omega (arith, few.0)
      zero_few (suc id) same few = absurd (cc)
  stands_at places rows all are (Some (suc slot)) = by_low (nat_lt slot 4) refl
    where
      at_suc : (id : ℕ) → Some (suc slot) ≡ Some id → 4 ≤ slot → IsFew id → ⊥
      at_suc id same high few = let n : suc slot ≡ id = ap (λ o. elim o as (λ x. ℕ) [ None ↦ 0 | Some m ↦ m ]) same in omega (arith, n, few.1, high)

      by_low : (b : Bool) → nat_lt slot 4 ≡ b → PassesOnlyAt (did_send (Some (suc slot))) rows (cond b (slice_index_or places.asks slot None) None)
      by_low true low =
          let place = slice_index_or places.asks slot None in
          let at = subst (λ n. PassesOnlyAt (does_ask_as n (slot + 1)) rows place) (eid_is change before after is step) (are.asks_at slot (ltb-true slot 4 low)) in
          subst (λ n. PassesOnlyAt (does_ask_as after.setup.eid n) rows place) (add-one slot) at
      by_low false high = none_passes Knows (did_send (Some (suc slot))) rows all (none_has (Some (suc slot)) (λ id same few. at_suc id same (ltb-false slot 4 high) few))

  -- ---- All entries.

  pub changed_entries : packets < 2 ^ 64 - 1 → (places : Places) (table : List declared.Seen) (rows : List Row) → AllByRecursion Knows rows → ArePlaces places before rows → map seen_of table ≡ map (seen w) rows
      → map seen_of (after_change places change table) ≡ map (seen w) (map (row_after before after) rows)
  changed_entries small places table rows all are entries =
      let place = kept_for places.asks change.asked in
      let asked : change.asked ≡ asked_between before after = is.asked in
      let at = subst (λ o. PassesOnlyAt (did_send (asked_between before after)) rows (kept_for places.asks o)) (sym asked) (stands_at places rows all are (asked_between before after)) in
      map_changed_where seen_of with_sent seen_sent (λ x. refl) place (followed 4 places change table)
      ∙ ap (changed_where place seen_sent) (followed_is w packets change before after is step small 4 (omega arith) places table rows all are entries)
      ∙ changed_is Knows (did_send (asked_between before after)) (λ row. seen w (four row)) (λ row. seen w (row_after before after row)) seen_sent rows place all at
      (λ row known apart. sym (ap (λ b. cond b (seen_sent (seen w (four row))) (seen w (four row))) apart) ∙ one_sent small row known)
      (λ row known passes. sym (ap (λ b. cond b (seen_sent (seen w (four row))) (seen w (four row))) passes) ∙ one_sent small row known)
      ∙ map_twice (seen w) (row_after before after) rows

  new_entry : (requester : ℕ) (s : Events) → is_live s ≡ true
      → map seen_of (new_entries requester (shown s)) ≡ record { requester = requester; id = (view_of s).id; stage = Some (view_of s).stage; hash = (view_of s).hash; sent = 0; answered = 0 } ∷ []
  new_entry requester [] live = absurd (false≢true live)
  new_entry requester (e ∷ s) live = refl

  pub more_entries : (requester : ℕ) → requester ≡ number_from 1 after.setup.eid w.requesters → (b : Bool) → has_begun before after ≡ b → map seen_of (new_entries requester (begun_view change)) ≡ map (seen w) (new_rows before after b)
  more_entries requester number true begun =
      ap (λ v. map seen_of (new_entries requester v)) (begun_is change before after is step begun)
      ∙ new_entry requester (session_of (last_begun after.responder) after.responder) (step.live begun)
      ∙ ap (λ n. record (seen w (new_row before after)) { requester = n } ∷ []) number
  more_entries requester number false none = ap (λ v. map seen_of (new_entries requester v)) (none_is change before after is step none)

  more_counts : (rows : List Row) (b : Bool) → AllByRecursion (λ (row : Row). (row.sent ≤ packets) × (row.answered ≤ packets)) rows
      → AllByRecursion (λ (row : Row). (row.sent ≤ packets + 1) × (row.answered ≤ packets + 1)) (map (row_after before after) rows ++ new_rows before after b)
  more_counts rows true all =
      all_push (λ (row : Row). (row.sent ≤ packets + 1) × (row.answered ≤ packets + 1)) (map (row_after before after) rows) (new_row before after)
      (all_map (λ (row : Row). (row.sent ≤ packets) × (row.answered ≤ packets)) (λ (row : Row). (row.sent ≤ packets + 1) × (row.answered ≤ packets + 1)) (row_after before after) rows all (counts_next before after packets))
      (omega arith, omega arith)
  more_counts rows false all =
      subst (AllByRecursion (λ (row : Row). (row.sent ≤ packets + 1) × (row.answered ≤ packets + 1))) (sym (append-nil (map (row_after before after) rows)))
      (all_map (λ (row : Row). (row.sent ≤ packets) × (row.answered ≤ packets)) (λ (row : Row). (row.sent ≤ packets + 1) × (row.answered ≤ packets + 1)) (row_after before after) rows all (counts_next before after packets))

  pub all_known : (rows : List Row) → AllByRecursion (λ (row : Row). row.eid ≡ before.setup.eid → IsOfDialogue before row) rows → AllByRecursion (λ (row : Row). (row.sent ≤ packets) × (row.answered ≤ packets)) rows → AllByRecursion Knows rows
  all_known [] fits counts = tt
  all_known (row ∷ rows) fits counts = ((fits.0, counts.0.0, counts.0.1), all_known rows fits.1 counts.1)

  pub table_is : packets < 2 ^ 64 - 1 → (requester : ℕ) → requester ≡ number_from 1 after.setup.eid w.requesters → (places : Places) (table : List declared.Seen) (rows : List Row)
      → StandsForRows table w packets rows → StandFor places before rows → StandsForRows (table_after requester places change table) w (packets + 1) (rows_between before after rows)
  table_is small requester number places table rows stands are =
      let b = has_begun before after in
      let ordered = reverse rows in
      let order = in_order before after rows b refl in
      let changed = changed_entries small places table ordered (all_known ordered are.rest stands.counts) are stands.entries in
      record {
        entries = map-append seen_of (after_change places change table) (new_entries requester (begun_view change))
            ∙ ap (λ xs. xs ++ map seen_of (new_entries requester (begun_view change))) changed
            ∙ ap (λ xs. map (seen w) (map (row_after before after) ordered) ++ xs) (more_entries requester number b refl)
            ∙ sym (map-append (seen w) (map (row_after before after) ordered) (new_rows before after b))
            ∙ ap (map (seen w)) (sym order);
        counts = subst (AllByRecursion (λ (row : Row). (row.sent ≤ packets + 1) × (row.answered ≤ packets + 1))) (sym order) (more_counts ordered b stands.counts);
      }

  -- As many entries as rows.
  as_many : (table : List declared.Seen) (rows : List Row) → StandsForRows table w packets rows → length table ≡ length (reverse rows)
  as_many table rows stands = sym (length-map table seen_of) ∙ ap length stands.entries ∙ length-map (reverse rows) (seen w)

  pub places_are : (places : Places) (table : List declared.Seen) (rows : List Row) → StandsForRows table w packets rows → StandFor places before rows
      → StandFor (places_after places change (new_place change (length table))) after (rows_between before after rows)
  places_are places table rows stands are =
      let b = has_begun before after in
      subst (ArePlaces (places_after places change (new_place change (length table))) after) (sym (in_order before after rows b refl))
      (own_places change before after is step places (reverse rows) (length table) b (as_many table rows stands) refl are)
