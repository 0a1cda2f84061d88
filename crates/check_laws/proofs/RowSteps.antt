-- What a packet makes of one row.
use Rattle.std.proofs.Common.{◌≡◌, ◌≢◌, ◌≤◌, ◌∙◌, ◌==◌, ◌&&◌, ◌||◌, ◌+◌, ℕ, List, Bool, true, false, cond, Option, Some, None, refl, ap, sym, subst, arith, eq-eqb, eqb-true, ne_eqb}
use Rattle.std.specs.Prelude.{not}
use Rattle.std.proofs.lemmas.Bool.{false≢true, and_left, and_right, cond_both, eqb-false}
use Rattle.std.proofs.lemmas.Option.{none-some}
use Rattle.requester_machine.specs.Setup.{ReqSetup}
use Rattle.responder_machine.specs.Session.{is_live, session_of}
use Rattle.check_laws.specs.Changes.{IsFew}
use Rattle.check_laws.specs.Rows.{IsOfDialogue, does_ask_as, is_live_as}
use Rattle.capture_machine.specs.Rounds.{Dialogue}
use Rattle.capture_machine.specs.SessionTable.{Row, accepted_between, has_begun_as, is_named, reply_between, responder_id, row_after, with_one, with_requester, with_responder}
use Rattle.check_laws.proofs.SessionIds.{session_has}

-- ---- Tests.

pub and_true : (b : Bool) → (b && true) ≡ b
and_true true = refl
and_true false = refl

ended_off : (live begun : Bool) → (not live || begun) ≡ true → (live && not begun) ≡ false
ended_off true true is = refl
ended_off true false is = absurd (false≢true is)
ended_off false begun is = refl

on_live : (live begun : Bool) → (not live || begun) ≡ false → live ≡ true
on_live true begun is = refl
on_live false begun is = sym is

on_not_begun : (live begun : Bool) → (not live || begun) ≡ false → (live && not begun) ≡ true
on_not_begun true true is = sym is
on_not_begun true false is = refl
on_not_begun false begun is = sym is

-- ---- The four cases.

module _ (before after : Dialogue) where
  -- The session of a live row ends.
  abbrev pub ends : Row → Bool
  ends row = not (is_live (session_of (responder_id row) after.responder)) || has_begun_as before after (responder_id row)

  abbrev pub ended : Row → Row
  ended row = record row { live = false; answered = with_one (reply_between before after (responder_id row)) row.answered }

  abbrev pub going : Row → Row
  going row = record row {
    events = session_of (responder_id row) after.responder;
    answered = with_one (reply_between before after (responder_id row)) row.answered;
  }

  pub responder_cases : (row : Row) (Q : Row → Type 0) → (row.live ≡ false → Q row) → (row.live ≡ true → ends row ≡ true → Q (ended row)) → (row.live ≡ true → ends row ≡ false → Q (going row))
      → Q (with_responder before after row)
  responder_cases row Q dead end on =
      cond_both row.live _ row Q
      (λ live. cond_both (ends row) _ _ (λ x. Q (record x { answered = with_one (reply_between before after (responder_id row)) row.answered })) (end live) (on live))
      dead

  pub row_cases : (row : Row) (Q : Row → Type 0) → (row.eid ≢ after.setup.eid → Q row) → (row.eid ≡ after.setup.eid → row.live ≡ false → Q (with_requester before after row))
      → (row.eid ≡ after.setup.eid → row.live ≡ true → ends row ≡ true → Q (with_requester before after (ended row)))
      → (row.eid ≡ after.setup.eid → row.live ≡ true → ends row ≡ false → Q (with_requester before after (going row))) → Q (row_after before after row)
  row_cases row Q other dead end on =
      cond_both (row.eid == after.setup.eid) (with_requester before after (with_responder before after row)) row Q
      (λ own. let at = eqb-true _ _ own in responder_cases row (λ x. Q (with_requester before after x)) (dead at) (end at) (on at))
      (λ apart. other (eqb-false _ _ apart))

  -- The session with this RspSessionID is live and was not begun anew.
  abbrev pub stays_live : ℕ → Bool
  stays_live id = is_live (session_of id after.responder) && not (has_begun_as before after id)

  going_id : (row : Row) → ends row ≡ false → responder_id (going row) ≡ responder_id row
  going_id row on = session_has (responder_id row) after.responder (on_live _ _ on)

  -- ---- Which row is live under an id.

  not_here : (id : ℕ) (row : Row) → is_live_as after.setup.eid id row ≡ false → is_live_as after.setup.eid id row ≡ (is_live_as after.setup.eid id row && stays_live id)
  not_here id row off = off ∙ sym (ap (λ b. b && stays_live id) off)

  other_id : (id : ℕ) (row : Row) → (responder_id row == id) ≡ false → is_live_as after.setup.eid id row ≡ false
  other_id id row off = and_right (row.eid == after.setup.eid) _ (and_right row.live _ off)

  end_next : (id : ℕ) (row : Row) → ends row ≡ true → (c : Bool) → (responder_id row == id) ≡ c → (is_live_as after.setup.eid id row && stays_live id) ≡ false
  end_next id row end true same = and_right _ (stays_live id) (subst (λ n. stays_live n ≡ false) (eqb-true _ _ same) (ended_off _ _ end))
  end_next id row end false apart = ap (λ b. b && stays_live id) (other_id id row apart)

  on_next : (id : ℕ) (row : Row) → ends row ≡ false → (c : Bool) → (responder_id row == id) ≡ c → is_live_as after.setup.eid id row ≡ (is_live_as after.setup.eid id row && stays_live id)
  on_next id row on true same =
      let stays : stays_live id ≡ true = subst (λ n. stays_live n ≡ true) (eqb-true _ _ same) (on_not_begun _ _ on) in
      sym (ap (λ b. is_live_as after.setup.eid id row && b) stays ∙ and_true (is_live_as after.setup.eid id row))
  on_next id row on false apart = not_here id row (other_id id row apart)

  pub live_next : (id : ℕ) (row : Row) → is_live_as after.setup.eid id (row_after before after row) ≡ (is_live_as after.setup.eid id row && stays_live id)
  live_next id row =
      row_cases row (λ x. is_live_as after.setup.eid id x ≡ (is_live_as after.setup.eid id row && stays_live id))
      (λ apart. not_here id row (and_left _ _ (ne_eqb _ _ apart)))
      (λ own dead. not_here id row (and_right (row.eid == after.setup.eid) _ (and_left row.live _ dead)))
      (λ own live end. and_right (row.eid == after.setup.eid) false refl ∙ sym (end_next id row end (responder_id row == id) refl))
      (λ own live on. ap (λ n. row.eid == after.setup.eid && (row.live && n == id)) (going_id row on) ∙ on_next id row on (responder_id row == id) refl)

  -- ---- Which row has a ReqSessionID.

  pub named_next : (asks accepted : Option ℕ) (id : ℕ) → is_named (cond (is_named asks accepted) None asks) (Some id) ≡ (is_named asks (Some id) && not (is_named accepted (Some id)))
  named_next None accepted id = refl
  named_next (Some one) None id = sym (and_true (one == id))
  named_next (Some one) (Some other) id = by_same (one == other) refl (one == id) refl (other == id) refl
    where
      by_same : (x : Bool) → (one == other) ≡ x → (y : Bool) → (one == id) ≡ y → (z : Bool) → (other == id) ≡ z → is_named (cond x None (Some one)) (Some id) ≡ ((one == id) && not (other == id))
      by_same true same true here true there = sym (ap (λ b. (one == id) && not b) there ∙ and_right (one == id) false refl)
      by_same true same true here false there = absurd (false≢true (sym there ∙ eq-eqb other id (sym (eqb-true _ _ same) ∙ eqb-true _ _ here)))
      by_same true same false here z there = sym (ap (λ b. b && not (other == id)) here)
      by_same false apart true here true there = absurd (false≢true (sym apart ∙ eq-eqb one other (eqb-true _ _ here ∙ sym (eqb-true _ _ there))))
      by_same false apart true here false there = sym (ap (λ b. (one == id) && not b) there ∙ and_true (one == id))
      by_same false apart false here z there = here ∙ sym (ap (λ b. b && not (other == id)) here)

  abbrev pub stays_asked : ℕ → Bool
  stays_asked id = not (is_named (accepted_between before after) (Some id))

  and_assoc : (a b c : Bool) → (a && (b && c)) ≡ ((a && b) && c)
  and_assoc true b c = refl
  and_assoc false b c = refl

  own_asks : (id : ℕ) (row : Row) → (row.eid == after.setup.eid && is_named (cond (is_named row.asks_as (accepted_between before after)) None row.asks_as) (Some id)) ≡ (does_ask_as after.setup.eid id row && stays_asked id)
  own_asks id row = ap (λ b. row.eid == after.setup.eid && b) (named_next row.asks_as (accepted_between before after) id) ∙ and_assoc (row.eid == after.setup.eid) (is_named row.asks_as (Some id)) (stays_asked id)

  pub asks_next : (id : ℕ) (row : Row) → does_ask_as after.setup.eid id (row_after before after row) ≡ (does_ask_as after.setup.eid id row && stays_asked id)
  asks_next id row =
      row_cases row (λ x. does_ask_as after.setup.eid id x ≡ (does_ask_as after.setup.eid id row && stays_asked id))
      (λ apart. let off : does_ask_as after.setup.eid id row ≡ false = and_left _ _ (ne_eqb _ _ apart) in off ∙ sym (ap (λ b. b && stays_asked id) off))
      (λ own dead. own_asks id row) (λ own live end. own_asks id row) (λ own live on. own_asks id row)

  -- ---- What holds of each row.

  kept_name : (b : Bool) (o : Option ℕ) (id : ℕ) → cond b None o ≡ Some id → o ≡ Some id
  kept_name true o id is = absurd (none-some id is)
  kept_name false o id is = is

  pub fits_next : before.setup ≡ after.setup → (row : Row) → (row.eid ≡ before.setup.eid → IsOfDialogue before row) → (row_after before after row).eid ≡ after.setup.eid → IsOfDialogue after (row_after before after row)
  fits_next setup row fits =
      let at : before.setup.eid ≡ after.setup.eid = ap (λ (s : ReqSetup). s.eid) setup in
      row_cases row (λ x. x.eid ≡ after.setup.eid → IsOfDialogue after x)
      (λ apart own. absurd (apart own))
      (λ own dead it. let was = fits (own ∙ sym at) in record {
        now = λ live. absurd (false≢true (sym dead ∙ live));
        begun = λ live. absurd (false≢true (sym dead ∙ live));
        few = λ live. absurd (false≢true (sym dead ∙ live));
        asks = λ id is. was.asks id (kept_name _ _ id is);
      })
      (λ own live end it. let was = fits (own ∙ sym at) in record {
        now = λ live. absurd (false≢true live);
        begun = λ live. absurd (false≢true live);
        few = λ live. absurd (false≢true live);
        asks = λ id is. was.asks id (kept_name _ _ id is);
      })
      (λ own live on it. let was = fits (own ∙ sym at) in record {
        now = λ still. ap (λ n. session_of n after.responder) (sym (going_id row on));
        begun = λ still. on_live _ _ on;
        few = λ still. subst IsFew (sym (going_id row on)) (was.few live);
        asks = λ id is. was.asks id (kept_name _ _ id is);
      })

  one_at_most : (o : Option (List ℕ)) (count n : ℕ) → count ≤ n → with_one o count ≤ n + 1
  one_at_most None count n few = omega arith
  one_at_most (Some sealed) count n few = omega arith

  more : (count n : ℕ) → count ≤ n → count ≤ n + 1
  more count n few = omega arith

  pub counts_next : (n : ℕ) (row : Row) → (row.sent ≤ n) × (row.answered ≤ n) → ((row_after before after row).sent ≤ n + 1) × ((row_after before after row).answered ≤ n + 1)
  counts_next n row few =
      row_cases row (λ x. (x.sent ≤ n + 1) × (x.answered ≤ n + 1))
      (λ apart. (more _ n few.0, more _ n few.1))
      (λ own dead. (one_at_most _ _ n few.0, more _ n few.1))
      (λ own live end. (one_at_most _ _ n few.0, one_at_most _ _ n few.1))
      (λ own live on. (one_at_most _ _ n few.0, one_at_most _ _ n few.1))

  -- ---- A row of another requester.

  apart_eid : (eid : ℕ) → eid ≢ after.setup.eid → (row : Row) → row.eid ≡ after.setup.eid → (row.eid == eid) ≡ false
  apart_eid eid apart row own = ne_eqb row.eid eid (λ same. apart (sym same ∙ own))

  pub other_live : (eid : ℕ) → eid ≢ after.setup.eid → (id : ℕ) (row : Row) → is_live_as eid id (row_after before after row) ≡ is_live_as eid id row
  other_live eid apart id row =
      let off = λ (own : row.eid ≡ after.setup.eid) (b : Bool). and_left (row.eid == eid) b (apart_eid eid apart row own) in
      row_cases row (λ x. is_live_as eid id x ≡ is_live_as eid id row) (λ other. refl)
      (λ own dead. refl)
      (λ own live end. off own _ ∙ sym (off own _))
      (λ own live on. off own _ ∙ sym (off own _))

  pub other_asks : (eid : ℕ) → eid ≢ after.setup.eid → (id : ℕ) (row : Row) → does_ask_as eid id (row_after before after row) ≡ does_ask_as eid id row
  other_asks eid apart id row =
      let off = λ (own : row.eid ≡ after.setup.eid) (b : Bool). and_left (row.eid == eid) b (apart_eid eid apart row own) in
      row_cases row (λ x. does_ask_as eid id x ≡ does_ask_as eid id row) (λ other. refl)
      (λ own dead. off own _ ∙ sym (off own _))
      (λ own live end. off own _ ∙ sym (off own _))
      (λ own live on. off own _ ∙ sym (off own _))

  pub other_fits : (other : Dialogue) → other.setup.eid ≢ after.setup.eid → (row : Row) → (row.eid ≡ other.setup.eid → IsOfDialogue other row) → (row_after before after row).eid ≡ other.setup.eid → IsOfDialogue other (row_after before after row)
  other_fits other apart row fits =
      row_cases row (λ x. x.eid ≡ other.setup.eid → IsOfDialogue other x) (λ none. fits)
      (λ own dead same. absurd (apart (sym same ∙ own)))
      (λ own live end same. absurd (apart (sym same ∙ own)))
      (λ own live on same. absurd (apart (sym same ∙ own)))
