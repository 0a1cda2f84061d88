-- The places of a requester after a packet that is for it or comes from it.
use Rattle.std.proofs.Common.{◌≡◌, ◌∙◌, ◌++◌, ◌==◌, ◌&&◌, ◌+◌, ◌<◌, ℕ, suc, zero, List, [], ◌∷◌, Bool, true, false, cond, Option, Some, None, length, map, refl, ap, sym, subst, arith, eq-eqb, add-one, lt-ltb}
use Rattle.std.specs.Prelude.{is_some, not, slice_index_or}
use Rattle.std.proofs.lemmas.Bool.{and_right}
use Rattle.std.proofs.lemmas.List.{append-nil, length-map}
use Rattle.std.specs.List.{AllByRecursion}
use Rattle.requester_machine.specs.Setup.{ReqSetup}
use Rattle.responder_machine.specs.Session.{Events, is_live, session_of}
use Rattle.spdm_grammar.specs.declared.told.session_view.SessionView.{SessionView}
use Rattle.check_laws.specs.Changes.{IsChange, IsFew, IsStep, shown}
use Rattle.check_laws.specs.Rows.{ArePlaces, IsOfDialogue, PassesOnlyAt, asks_after, begun_view, does_ask_as, is_live_as, kept_for, live_after, new_place, places_after}
use Rattle.check_laws.specs.declared.change.Change.{Change}
use Rattle.check_laws.specs.declared.places.Places.{Places}
use Rattle.check_laws.proofs.OrderedRows.{all_trivial, new_rows}
use Rattle.check_laws.proofs.PassingPlaces.{all_map, all_push, passes_at_end, passes_behind, passes_kept, passes_nowhere}
use Rattle.check_laws.proofs.RowSteps.{and_true, asks_next, fits_next, live_next, stays_live}
use Rattle.check_laws.proofs.SessionIds.{session_has}
use Rattle.capture_machine.specs.Rounds.{Dialogue}
use Rattle.capture_machine.specs.SessionTable.{Row, accepted_between, has_begun, has_begun_as, is_named, last_begun, new_row, responder_id, row_after}

-- ---- Four places.

pub at_four : {X : Type 0} (f : ℕ → X) (d : X) (slot : ℕ) → slot < 4 → slice_index_or (f 0 ∷ f 1 ∷ f 2 ∷ f 3 ∷ []) slot d ≡ f slot
at_four f d zero few = refl
at_four f d (suc zero) few = refl
at_four f d (suc (suc zero)) few = refl
at_four f d (suc (suc (suc zero))) few = refl
at_four f d (suc (suc (suc (suc slot)))) few = absurd (omega (arith, few))

-- A session is shown exactly when it is live.
pub shown_live : (s : Events) → is_some (shown s) ≡ is_live s
shown_live [] = refl
shown_live (e ∷ s) = refl

pub named_as : (b : Bool) (last id : ℕ) → is_named (cond b (Some last) None) (Some id) ≡ (b && last == id)
named_as true last id = refl
named_as false last id = refl

module _ (change : Change) (before after : Dialogue) (is : IsChange change before after) (step : IsStep before after) where
  pub view_at : (slot : ℕ) → slot < 4 → slice_index_or change.views slot None ≡ shown (session_of (slot + 1) after.responder)
  view_at slot few = ap (λ (vs : List (Option SessionView)). slice_index_or vs slot None) is.views ∙ at_four (λ n. shown (session_of (n + 1) after.responder)) None slot few

  pub begun_at : (id : ℕ) → is_named change.begun (Some id) ≡ has_begun_as before after id
  begun_at id = ap (λ o. is_named o (Some id)) is.begun ∙ named_as (has_begun before after) (last_begun after.responder) id

  accepted_at : (id : ℕ) → is_named change.accepted (Some id) ≡ is_named (accepted_between before after) (Some id)
  accepted_at id = ap (λ o. is_named o (Some id)) is.accepted

  pub eid_is : before.setup.eid ≡ after.setup.eid
  eid_is = ap (λ (s : ReqSetup). s.eid) step.setup

  -- ---- The rows that were there.

  live_by : (rows : List Row) (place : Option ℕ) (id : ℕ) (c : Bool) → stays_live before after id ≡ c → PassesOnlyAt (is_live_as before.setup.eid id) rows place
      → PassesOnlyAt (is_live_as after.setup.eid id) (map (row_after before after) rows) (cond c place None)
  live_by rows place id true stays at =
      let now = subst (λ n. PassesOnlyAt (is_live_as n id) rows place) eid_is at in
      passes_kept (λ x. Unit {0}) (is_live_as after.setup.eid id) (is_live_as after.setup.eid id) (row_after before after) rows place (all_trivial rows) now
      (λ row u. live_next before after id row ∙ ap (λ b. is_live_as after.setup.eid id row && b) stays ∙ and_true (is_live_as after.setup.eid id row))
  live_by rows place id false stays at =
      passes_nowhere (λ x. Unit {0}) (is_live_as after.setup.eid id) (row_after before after) rows (all_trivial rows)
      (λ row u. live_next before after id row ∙ and_right (is_live_as after.setup.eid id row) _ stays)

  asks_by : (rows : List Row) (place : Option ℕ) (id : ℕ) (c : Bool) → is_named (accepted_between before after) (Some id) ≡ c → PassesOnlyAt (does_ask_as before.setup.eid id) rows place
      → PassesOnlyAt (does_ask_as after.setup.eid id) (map (row_after before after) rows) (cond c None place)
  asks_by rows place id false stays at =
      let now = subst (λ n. PassesOnlyAt (does_ask_as n id) rows place) eid_is at in
      passes_kept (λ x. Unit {0}) (does_ask_as after.setup.eid id) (does_ask_as after.setup.eid id) (row_after before after) rows place (all_trivial rows) now
      (λ row u. asks_next before after id row ∙ ap (λ b. does_ask_as after.setup.eid id row && not b) stays ∙ and_true (does_ask_as after.setup.eid id row))
  asks_by rows place id true stays at =
      passes_nowhere (λ x. Unit {0}) (does_ask_as after.setup.eid id) (row_after before after) rows (all_trivial rows)
      (λ row u. asks_next before after id row ∙ and_right (does_ask_as after.setup.eid id row) _ (ap not stays))

  -- ---- The new one.

  own_eid : (after.setup.eid == after.setup.eid) ≡ true
  own_eid = eq-eqb after.setup.eid after.setup.eid refl

  new_id : has_begun before after ≡ true → responder_id (new_row before after) ≡ last_begun after.responder
  new_id begun = session_has (last_begun after.responder) after.responder (step.live begun)

  new_live : has_begun before after ≡ true → (id : ℕ) → is_live_as after.setup.eid id (new_row before after) ≡ (last_begun after.responder == id)
  new_live begun id = ap (λ b. b && (true && responder_id (new_row before after) == id)) own_eid ∙ ap (λ n. n == id) (new_id begun)

  new_asks : (id : ℕ) → does_ask_as after.setup.eid id (new_row before after) ≡ is_named (accepted_between before after) (Some id)
  new_asks id = ap (λ b. b && is_named (accepted_between before after) (Some id)) own_eid

  new_fits : has_begun before after ≡ true → IsOfDialogue after (new_row before after)
  new_fits begun = record {
    now = λ live. ap (λ n. session_of n after.responder) (sym (new_id begun));
    begun = λ live. step.live begun;
    few = λ live. subst IsFew (sym (new_id begun)) (step.few begun);
    asks = λ id asks. step.accepted id asks;
  }

  -- ---- Both.

  -- A test passes after the rows at the new one, or where it did.
  behind_all : (test : Row → Bool) (rows : List Row) (new : Row) (place : Option ℕ) (c : Bool) → test new ≡ c → PassesOnlyAt test rows (cond c None place) → PassesOnlyAt test (rows ++ new ∷ []) (cond c (Some (length rows)) place)
  behind_all test rows new place true passes at = passes_at_end test rows new at passes
  behind_all test rows new place false passes at = passes_behind test rows place new at passes

  -- What of a place is left, where the session was begun anew or not.
  left : (live begun : Bool) (place : Option ℕ) → cond (live && not begun) place None ≡ cond begun None (cond live place None)
  left true true place = refl
  left true false place = refl
  left false true place = refl
  left false false place = refl

  abbrev mapped : List Row → List Row
  mapped rows = map (row_after before after) rows

  live_of : (rows : List Row) (place : Option ℕ) (id : ℕ) → PassesOnlyAt (is_live_as before.setup.eid id) rows place
      → PassesOnlyAt (is_live_as after.setup.eid id) (mapped rows) (cond (has_begun_as before after id) None (cond (is_live (session_of id after.responder)) place None))
  live_of rows place id at =
      subst (PassesOnlyAt (is_live_as after.setup.eid id) (mapped rows)) (left (is_live (session_of id after.responder)) (has_begun_as before after id) place)
      (live_by rows place id (stays_live before after id) refl at)

  -- After the rows, where a session was begun; the place is the one that the code keeps.
  live_at_new : (rows : List Row) (place : Option ℕ) (id : ℕ) → PassesOnlyAt (is_live_as before.setup.eid id) rows place → (b : Bool) → has_begun before after ≡ b
      → PassesOnlyAt (is_live_as after.setup.eid id) (mapped rows ++ new_rows before after b) (cond (has_begun_as before after id) (Some (length (mapped rows))) (cond (is_live (session_of id after.responder)) place None))
  live_at_new rows place id at true begun =
      let same : (last_begun after.responder == id) ≡ has_begun_as before after id = sym (ap (λ b. b && last_begun after.responder == id) begun) in
      behind_all (is_live_as after.setup.eid id) (mapped rows) (new_row before after) (cond (is_live (session_of id after.responder)) place None) (has_begun_as before after id) (new_live begun id ∙ same) (live_of rows place id at)
  live_at_new rows place id at false none =
      let off : has_begun_as before after id ≡ false = ap (λ b. b && last_begun after.responder == id) none in
      let kept = cond (is_live (session_of id after.responder)) place None in
      let now = subst (λ b. PassesOnlyAt (is_live_as after.setup.eid id) (mapped rows) (cond b None kept)) off (live_of rows place id at) in
      subst (λ b. PassesOnlyAt (is_live_as after.setup.eid id) (mapped rows ++ []) (cond b (Some (length (mapped rows))) kept)) (sym off)
      (subst (λ xs. PassesOnlyAt (is_live_as after.setup.eid id) xs kept) (sym (append-nil (mapped rows))) now)

  asks_at_new : (rows : List Row) (place : Option ℕ) (id : ℕ) → PassesOnlyAt (does_ask_as before.setup.eid id) rows place → (b : Bool) → has_begun before after ≡ b
      → PassesOnlyAt (does_ask_as after.setup.eid id) (mapped rows ++ new_rows before after b) (cond (is_named (accepted_between before after) (Some id)) (cond b (Some (length (mapped rows))) None) place)
  asks_at_new rows place id at true begun =
      behind_all (does_ask_as after.setup.eid id) (mapped rows) (new_row before after) place (is_named (accepted_between before after) (Some id)) (new_asks id) (asks_by rows place id _ refl at)
  asks_at_new rows place id at false none =
      subst (λ xs. PassesOnlyAt (does_ask_as after.setup.eid id) xs (cond (is_named (accepted_between before after) (Some id)) None place)) (sym (append-nil (mapped rows))) (asks_by rows place id _ refl at)

  -- ---- As the program keeps them.

  view_begun : (id : ℕ) → IsFew id → kept_for change.views (Some id) ≡ shown (session_of id after.responder)
  view_begun zero few = absurd (omega (arith, few.0))
  view_begun (suc slot) few =
      let low : slot < 4 = omega (arith, few.1) in
      ap (λ b. cond b (slice_index_or change.views slot None) None) (lt-ltb slot 4 low) ∙ view_at slot low ∙ ap (λ n. shown (session_of n after.responder)) (add-one slot)

  pub begun_is : has_begun before after ≡ true → begun_view change ≡ shown (session_of (last_begun after.responder) after.responder)
  begun_is begun =
      ap (kept_for change.views) (is.begun ∙ ap (λ b. cond b (Some (last_begun after.responder)) None) begun) ∙ view_begun (last_begun after.responder) (step.few begun)

  pub none_is : has_begun before after ≡ false → begun_view change ≡ None
  none_is none = ap (kept_for change.views) (is.begun ∙ ap (λ b. cond b (Some (last_begun after.responder)) None) none)

  new_is : (n : ℕ) (b : Bool) → has_begun before after ≡ b → new_place change n ≡ cond b (Some n) None
  new_is n true begun = ap (λ o. cond (is_some o) (Some n) None) (begun_is begun) ∙ ap (λ x. cond x (Some n) None) (shown_live _ ∙ step.live begun)
  new_is n false none = ap (λ o. cond (is_some o) (Some n) None) (none_is none)

  -- Only a session that was begun is begun anew.
  only_begun : (id n : ℕ) (b : Bool) (place : Option ℕ) → has_begun before after ≡ b → cond (has_begun_as before after id) (cond b (Some n) None) place ≡ cond (has_begun_as before after id) (Some n) place
  only_begun id n true place begun = refl
  only_begun id n false place none =
      let off : has_begun_as before after id ≡ false = ap (λ b. b && last_begun after.responder == id) none in
      ap (λ x. cond x None place) off ∙ sym (ap (λ x. cond x (Some n) place) off)

  live_is : (places : List (Option ℕ)) (n slot : ℕ) (b : Bool) → slot < 4 → has_begun before after ≡ b
      → live_after change (new_place change n) places slot ≡ cond (has_begun_as before after (slot + 1)) (Some n) (cond (is_live (session_of (slot + 1) after.responder)) (slice_index_or places slot None) None)
  live_is places n slot b few begun =
      let place = slice_index_or places slot None in
      ap (λ x. cond x (new_place change n) (cond (is_some (slice_index_or change.views slot None)) place None)) (begun_at (slot + 1))
      ∙ ap (λ o. cond (has_begun_as before after (slot + 1)) (new_place change n) (cond (is_some o) place None)) (view_at slot few)
      ∙ ap (λ x. cond (has_begun_as before after (slot + 1)) (new_place change n) (cond x place None)) (shown_live (session_of (slot + 1) after.responder))
      ∙ ap (λ o. cond (has_begun_as before after (slot + 1)) o (cond (is_live (session_of (slot + 1) after.responder)) place None)) (new_is n b begun)
      ∙ only_begun (slot + 1) n b (cond (is_live (session_of (slot + 1) after.responder)) place None) begun

  asks_is : (places : List (Option ℕ)) (n slot : ℕ) (b : Bool) → has_begun before after ≡ b
      → asks_after change (new_place change n) places slot ≡ cond (is_named (accepted_between before after) (Some (slot + 1))) (cond b (Some n) None) (slice_index_or places slot None)
  asks_is places n slot b begun =
      ap (λ x. cond x (new_place change n) (slice_index_or places slot None)) (accepted_at (slot + 1))
      ∙ ap (λ o. cond (is_named (accepted_between before after) (Some (slot + 1))) o (slice_index_or places slot None)) (new_is n b begun)

  pub rest_fit : (rows : List Row) (b : Bool) → has_begun before after ≡ b → AllByRecursion (λ (row : Row). row.eid ≡ before.setup.eid → IsOfDialogue before row) rows
      → AllByRecursion (λ (row : Row). row.eid ≡ after.setup.eid → IsOfDialogue after row) (mapped rows ++ new_rows before after b)
  rest_fit rows true begun all =
      all_push (λ (row : Row). row.eid ≡ after.setup.eid → IsOfDialogue after row) (mapped rows) (new_row before after)
      (all_map (λ (row : Row). row.eid ≡ before.setup.eid → IsOfDialogue before row) (λ (row : Row). row.eid ≡ after.setup.eid → IsOfDialogue after row) (row_after before after) rows all (fits_next before after step.setup))
      (λ own. new_fits begun)
  rest_fit rows false none all =
      subst (AllByRecursion (λ (row : Row). row.eid ≡ after.setup.eid → IsOfDialogue after row)) (sym (append-nil (mapped rows)))
      (all_map (λ (row : Row). row.eid ≡ before.setup.eid → IsOfDialogue before row) (λ (row : Row). row.eid ≡ after.setup.eid → IsOfDialogue after row) (row_after before after) rows all (fits_next before after step.setup))

  pub own_places : (places : Places) (rows : List Row) (n : ℕ) (b : Bool) → n ≡ length rows → has_begun before after ≡ b → ArePlaces places before rows → ArePlaces (places_after places change (new_place change n)) after (mapped rows ++ new_rows before after b)
  own_places places rows n b size begun are =
      let long : length (mapped rows) ≡ n = length-map rows (row_after before after) ∙ sym size in
      record {
        live_at = λ slot few. let place = slice_index_or places.live slot None in
            let kept = cond (is_live (session_of (slot + 1) after.responder)) place None in
            subst (PassesOnlyAt (is_live_as after.setup.eid (slot + 1)) (mapped rows ++ new_rows before after b))
            (ap (λ m. cond (has_begun_as before after (slot + 1)) (Some m) kept) long ∙ sym (live_is places.live n slot b few begun) ∙ sym (at_four (live_after change (new_place change n) places.live) None slot few))
            (live_at_new rows place (slot + 1) (are.live_at slot few) b begun);
        asks_at = λ slot few. let place = slice_index_or places.asks slot None in
            subst (PassesOnlyAt (does_ask_as after.setup.eid (slot + 1)) (mapped rows ++ new_rows before after b))
            (ap (λ m. cond (is_named (accepted_between before after) (Some (slot + 1))) (cond b (Some m) None) place) long ∙ sym (asks_is places.asks n slot b begun) ∙ sym (at_four (asks_after change (new_place change n) places.asks) None slot few))
            (asks_at_new rows place (slot + 1) (are.asks_at slot few) b begun);
        rest = rest_fit rows b begun are.rest;
      }
