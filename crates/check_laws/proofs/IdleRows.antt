-- Where nothing changes, each row stays.
use Rattle.std.proofs.Common.{◌≡◌, ◌∙◌, ◌==◌, ◌&&◌, ℕ, List, [], ◌∷◌, true, false, cond, Option, Some, None, length, map, reverse, refl, ap, sym, arith, eq-eqb}
use Rattle.std.proofs.lemmas.Bool.{le-ltb, true≢false}
use Rattle.std.proofs.lemmas.List.{reverse-reverse}
use Rattle.std.specs.List.{AllByRecursion}
use Rattle.std.specs.Prelude.{nat_lt, not, ◌||◌}
use Rattle.requester_machine.specs.History as requester_history
use Rattle.responder_machine.specs.Session.{is_live, session_of}
use Rattle.check_laws.specs.Rows.{IdleRowsStay, IsOfDialogue}
use Rattle.check_laws.proofs.OrderedRows.{reverse_map}
use Rattle.check_laws.proofs.RowSteps.{going, ends, row_cases}
use Rattle.capture_machine.specs.Rounds.{Dialogue, Round}
use Rattle.capture_machine.specs.SessionTable.{Row, accepted_between, accepted_in, begun_count, has_begun, has_begun_as, is_named, is_new, is_of, last_begun, last_reply, new_row, reply_between, request_between, request_by, responder_id, row_after, rows_between, with_one, with_requester}

module _ (d : Dialogue) where
  no_more : (n : ℕ) → nat_lt n n ≡ false
  no_more n = le-ltb n n (omega arith)

  none_begun : has_begun d d ≡ false
  none_begun = no_more (begun_count d.responder)

  none_accepted : accepted_between d d ≡ None
  none_accepted = ap (λ b. cond b (accepted_in d.requester) None) (no_more (length d.requester))

  none_replied : (id : ℕ) → reply_between d d id ≡ None
  none_replied id = ap (λ b. cond b (last_reply id d.responder) None) (no_more (length d.responder))

  none_by : (id : ℕ) (r : Option Round) → d.round ≡ r → request_by d d id r ≡ None
  none_by id None is = refl
  none_by id (Some round) is =
      let old : is_new d.round round ≡ false = ap (λ r. is_new r round) is ∙ ap not (eq-eqb round.tag round.tag refl) in
      ap (λ b. cond (b && is_of id (requester_history.outstanding d.requester)) (Some round.body) None) old

  none_asked : (asks : Option ℕ) → request_between d d asks ≡ None
  none_asked None = refl
  none_asked (Some id) = none_by id d.round refl

  not_named : (asks : Option ℕ) → is_named asks None ≡ false
  not_named None = refl
  not_named (Some id) = refl

  asks_stay : (asks : Option ℕ) → cond (is_named asks (accepted_between d d)) None asks ≡ asks
  asks_stay asks = ap (λ o. cond (is_named asks o) None asks) none_accepted ∙ ap (λ b. cond b None asks) (not_named asks)

  sent_stays : (asks : Option ℕ) (count : ℕ) → with_one (request_between d d asks) count ≡ count
  sent_stays asks count = ap (λ o. with_one o count) (none_asked asks)

  requester_stays : (row : Row) → with_requester d d row ≡ row
  requester_stays row = ap (λ o. record row { asks_as = o; sent = with_one (request_between d d row.asks_as) row.sent }) (asks_stay row.asks_as) ∙ ap (λ n. record row { sent = n }) (sent_stays row.asks_as row.sent)

  answered_stays : (id count : ℕ) → with_one (reply_between d d id) count ≡ count
  answered_stays id count = ap (λ o. with_one o count) (none_replied id)

  still_on : (row : Row) → row.live ≡ true → IsOfDialogue d row → ends d d row ≡ false
  still_on row live of =
      let on : is_live (session_of (responder_id row) d.responder) ≡ true = ap is_live (sym (of.now live)) ∙ of.begun live in
      ap (λ b. not b || has_begun_as d d (responder_id row)) on ∙ ap (λ b. b && last_begun d.responder == responder_id row) none_begun

  pub row_stays : (row : Row) → (row.eid ≡ d.setup.eid → IsOfDialogue d row) → row_after d d row ≡ row
  row_stays row fits =
      row_cases d d row (λ x. x ≡ row) (λ apart. refl) (λ own dead. requester_stays row)
      (λ own live end. absurd (true≢false (sym end ∙ still_on row live (fits own))))
      (λ own live on. requester_stays (going d d row)
      ∙ ap (λ e. record row { events = e; answered = with_one (reply_between d d (responder_id row)) row.answered }) (sym ((fits own).now live))
      ∙ ap (λ n. record row { answered = n }) (answered_stays (responder_id row) row.answered))

  pub all_stay : (rows : List Row) → AllByRecursion (λ (row : Row). row.eid ≡ d.setup.eid → IsOfDialogue d row) rows → map (row_after d d) rows ≡ rows
  all_stay [] all = refl
  all_stay (row ∷ rows) all = ap (λ x. x ∷ map (row_after d d) rows) (row_stays row all.0) ∙ ap (λ xs. row ∷ xs) (all_stay rows all.1)

pub idle_rows_stay : IdleRowsStay
idle_rows_stay places d rows are =
    let changed = map (row_after d d) rows in
    let same : rows_between d d rows ≡ changed = ap (λ b. cond b (new_row d d ∷ changed) changed) (none_begun d) in
    same ∙ sym (reverse-reverse changed) ∙ ap reverse (reverse_map (row_after d d) rows ∙ all_stay d (reverse rows) are.rest) ∙ reverse-reverse rows
