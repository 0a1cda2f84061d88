-- The table after a request: nothing changes but how many records of one session were sent.
use Rattle.std.proofs.Common.{◌≡◌, ◌∙◌, ◌==◌, ◌&&◌, ◌||◌, ◌+◌, ◌-◌, ◌^◌, ◌<◌, ℕ, List, Bool, true, false, cond, Option, Some, None, length, map, reverse, refl, ap, sym, subst, arith, eqb-true}
use Rattle.std.specs.Prelude.{nat_lt, not, slice_index_or}
use Rattle.std.specs.List.{AllByRecursion}
use Rattle.std.proofs.lemmas.Bool.{false≢true, le-ltb, true≢false}
use Rattle.std.proofs.lemmas.List.{append-nil}
use Rattle.std.proofs.lemmas.Option.{none-some}
use Rattle.requester_machine.specs.Setup.{ReqSetup}
use Rattle.responder_machine.specs.Session.{is_live, session_of}
use Rattle.check_laws.proofs.FollowedRows.{Known}
use Rattle.check_laws.proofs.OrderedRows.{all_trivial, in_order}
use Rattle.check_laws.proofs.OwnPlaces.{rest_fit}
use Rattle.check_laws.proofs.PassingPlaces.{changed_is, map_changed_where, passes_kept}
use Rattle.check_laws.proofs.RowSteps.{and_true, asks_next, ends, responder_cases}
use Rattle.check_laws.proofs.SeenRows.{all_known, did_send, four, four_is, map_twice, one_sent, seen_sent, stands_at, table_is}
use Rattle.check_laws.specs.ChangeLaws.{IsRequestStep}
use Rattle.check_laws.specs.Changes.{IsChange, IsStep, answered_between, asked_between, begun_between, views_in}
use Rattle.check_laws.specs.Rows.{ArePlaces, IsOfDialogue, PassesOnlyAt, StandFor, StandsForRows, changed_where, does_ask_as, is_live_as, kept_for, with_sent}
use Rattle.check_laws.specs.Verdict.{seen_of}
use Rattle.check_laws.specs.declared.change.Change.{Change}
use Rattle.check_laws.specs.declared.places.Places.{Places}
use Rattle.check_laws.specs.declared.verdict.Seen as declared
use Rattle.capture_machine.specs.Rounds.{Dialogue}
use Rattle.capture_machine.specs.SessionTable.{Row, accepted_between, begun_count, has_begun, has_begun_as, is_named, last_begun, last_reply, number_from, reply_between, responder_id, row_after, rows_between, seen, with_one, with_requester, with_responder}
use Rattle.world_machine.specs.Setup.{Configuration}

-- The change between two moments.
abbrev pub change_of : Dialogue → Dialogue → Change
change_of before after = record {
  begun = begun_between before after;
  accepted = accepted_between before after;
  answered = answered_between before after;
  asked = asked_between before after;
  views = views_in after.responder;
}

pub is_change : (before after : Dialogue) → IsChange (change_of before after) before after
is_change before after = record { begun = refl; accepted = refl; answered = refl; asked = refl; views = refl }

module _ (sent : Option ℕ) (before after : Dialogue) (is : IsRequestStep sent before after) where
  no_more : (n m : ℕ) → m ≡ n → nat_lt n m ≡ false
  no_more n m same = le-ltb n m (omega (arith, same))

  none_begun : has_begun before after ≡ false
  none_begun = no_more (begun_count before.responder) (begun_count after.responder) (ap begun_count is.responder)

  is_step : IsStep before after
  is_step = record {
    setup = is.setup;
    live = λ more. absurd (false≢true (sym none_begun ∙ more));
    few = λ more. absurd (false≢true (sym none_begun ∙ more));
    accepted = λ id took. absurd (none-some id (sym is.accepted ∙ took));
  }

  -- ---- At the responder each row stays.

  none_replied : (id : ℕ) → reply_between before after id ≡ None
  none_replied id = ap (λ b. cond b (last_reply id after.responder) None) (no_more (length before.responder) (length after.responder) (ap length is.responder))

  same_session : (id : ℕ) → session_of id after.responder ≡ session_of id before.responder
  same_session id = ap (session_of id) is.responder

  still_on : (row : Row) → row.live ≡ true → IsOfDialogue before row → ends before after row ≡ false
  still_on row live of =
      let on : is_live (session_of (responder_id row) after.responder) ≡ true = ap is_live (same_session (responder_id row) ∙ sym (of.now live)) ∙ of.begun live in
      ap (λ b. not b || has_begun_as before after (responder_id row)) on ∙ ap (λ b. b && last_begun after.responder == responder_id row) none_begun

  responder_stays : (row : Row) → IsOfDialogue before row → with_responder before after row ≡ row
  responder_stays row of =
      responder_cases before after row (λ x. x ≡ row) (λ dead. refl)
      (λ live end. absurd (true≢false (sym end ∙ still_on row live of)))
      (λ live on. ap (λ e. record row { events = e; answered = with_one (reply_between before after (responder_id row)) row.answered }) (same_session (responder_id row) ∙ sym (of.now live))
      ∙ ap (λ o. record row { answered = with_one o row.answered }) (none_replied (responder_id row)))

  module _ (w : Configuration) (packets : ℕ) where
    abbrev Knows : Row → Type 0
    Knows row = Known w packets (change_of before after) before after (is_change before after) is_step row

    abbrev four_of : Row → Row
    four_of row = four w packets (change_of before after) before after (is_change before after) is_step row

    four_stays : (row : Row) → Knows row → (b : Bool) → (row.eid == after.setup.eid) ≡ b → four_of row ≡ row
    four_stays row known true own =
        four_is w packets (change_of before after) before after (is_change before after) is_step row known true own
        ∙ responder_stays row (known.0 (eqb-true _ _ own ∙ sym (ap (λ (x : ReqSetup). x.eid) is.setup)))
    four_stays row known false other = four_is w packets (change_of before after) before after (is_change before after) is_step row known false other

    abbrev did_ask : Row → Bool
    did_ask row = did_send w packets (change_of before after) before after (is_change before after) is_step (asked_between before after) row

    one_asked : packets < 2 ^ 64 - 1 → (row : Row) → Knows row → cond (did_ask row) (seen_sent (seen w row)) (seen w row) ≡ seen w (row_after before after row)
    one_asked small row known =
        ap (λ x. cond (did_ask row) (seen_sent (seen w x)) (seen w x)) (sym (four_stays row known (row.eid == after.setup.eid) refl))
        ∙ one_sent w packets (change_of before after) before after (is_change before after) is_step small row known

    asked_entries : packets < 2 ^ 64 - 1 → (places : Places) (table : List declared.Seen) (rows : List Row) → AllByRecursion Knows rows → ArePlaces places before rows → map seen_of table ≡ map (seen w) rows
        → map seen_of (changed_where (kept_for places.asks sent) with_sent table) ≡ map (seen w) (map (row_after before after) rows)
    asked_entries small places table rows all are entries =
        let place = kept_for places.asks sent in
        let at : PassesOnlyAt did_ask rows place = subst (λ o. PassesOnlyAt did_ask rows (kept_for places.asks o)) (sym is.asked)
        (stands_at w packets (change_of before after) before after (is_change before after) is_step places rows all are (asked_between before after)) in
        map_changed_where seen_of with_sent seen_sent (λ x. refl) place table
        ∙ ap (changed_where place seen_sent) entries
        ∙ changed_is Knows did_ask (seen w) (λ row. seen w (row_after before after row)) seen_sent rows place all at
        (λ row known apart. sym (ap (λ b. cond b (seen_sent (seen w row)) (seen w row)) apart) ∙ one_asked small row known)
        (λ row known passes. sym (ap (λ b. cond b (seen_sent (seen w row)) (seen w row)) passes) ∙ one_asked small row known)
        ∙ map_twice (seen w) (row_after before after) rows

    order : (rows : List Row) → reverse (rows_between before after rows) ≡ map (row_after before after) (reverse rows)
    order rows = in_order before after rows false none_begun ∙ append-nil (map (row_after before after) (reverse rows))

    pub asked_table : packets < 2 ^ 64 - 1 → (places : Places) (table : List declared.Seen) (rows : List Row) → StandsForRows table w packets rows → StandFor places before rows
        → StandsForRows (changed_where (kept_for places.asks sent) with_sent table) w (packets + 1) (rows_between before after rows)
    asked_table small places table rows stands are =
        let all = all_known w packets (change_of before after) before after (is_change before after) is_step (reverse rows) are.rest stands.counts in
        record {
          entries = asked_entries small places table (reverse rows) all are stands.entries ∙ ap (map (seen w)) (sym (order rows));
          counts = (table_is w packets (change_of before after) before after (is_change before after) is_step small (number_from 1 after.setup.eid w.requesters) refl places table rows stands are).counts;
        }

  -- ---- The places stay.

  live_kept : (id : ℕ) (row : Row) → (row.eid ≡ before.setup.eid → IsOfDialogue before row) → is_live_as after.setup.eid id (row_after before after row) ≡ is_live_as after.setup.eid id row
  live_kept id row fits = by_eid (row.eid == after.setup.eid) refl
    where
      by_eid : (b : Bool) → (row.eid == after.setup.eid) ≡ b → is_live_as after.setup.eid id (cond b (with_requester before after (with_responder before after row)) row) ≡ is_live_as after.setup.eid id row
      by_eid true own =
          ap (λ x. is_live_as after.setup.eid id (with_requester before after x)) (responder_stays row (fits (eqb-true _ _ own ∙ sym (ap (λ (x : ReqSetup). x.eid) is.setup))))
      by_eid false other = refl

  none_named : (o : Option ℕ) (id : ℕ) → o ≡ None → not (is_named o (Some id)) ≡ true
  none_named o id none = ap (λ x. not (is_named x (Some id))) none

  asks_kept : (id : ℕ) (row : Row) → does_ask_as after.setup.eid id (row_after before after row) ≡ does_ask_as after.setup.eid id row
  asks_kept id row =
      asks_next before after id row ∙ ap (λ b. does_ask_as after.setup.eid id row && b) (none_named (accepted_between before after) id is.accepted) ∙ and_true (does_ask_as after.setup.eid id row)

  pub asked_places : (places : Places) (rows : List Row) → StandFor places before rows → StandFor places after (rows_between before after rows)
  asked_places places rows are =
      let eid : before.setup.eid ≡ after.setup.eid = ap (λ (x : ReqSetup). x.eid) is.setup in
      let ordered : List Row = reverse rows in
      let same = in_order before after rows false none_begun in
      let now = append-nil (map (row_after before after) ordered) in
      subst (ArePlaces places after) (sym same)
      (record {
        live_at = λ slot few.
            let place = slice_index_or places.live slot None in
            let at = subst (λ n. PassesOnlyAt (is_live_as n (slot + 1)) ordered place) eid (are.live_at slot few) in
            subst (λ xs. PassesOnlyAt (is_live_as after.setup.eid (slot + 1)) xs place) (sym now)
            (passes_kept (λ (row : Row). row.eid ≡ before.setup.eid → IsOfDialogue before row) (is_live_as after.setup.eid (slot + 1)) (is_live_as after.setup.eid (slot + 1)) (row_after before after) ordered place are.rest at (live_kept (slot + 1)));
        asks_at = λ slot few.
            let place = slice_index_or places.asks slot None in
            let at = subst (λ n. PassesOnlyAt (does_ask_as n (slot + 1)) ordered place) eid (are.asks_at slot few) in
            subst (λ xs. PassesOnlyAt (does_ask_as after.setup.eid (slot + 1)) xs place) (sym now)
            (passes_kept (λ (row : Row). Unit {0}) (does_ask_as after.setup.eid (slot + 1)) (does_ask_as after.setup.eid (slot + 1)) (row_after before after) ordered place (all_trivial ordered) at (λ row u. asks_kept (slot + 1) row));
        rest = rest_fit (change_of before after) before after (is_change before after) is_step ordered false none_begun are.rest;
      })
