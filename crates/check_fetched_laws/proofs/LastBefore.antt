-- What a message in the clear leads to is the same whether a session in its handshake was dropped before it or not.
use Rattle.std.proofs.Common.{◌≡◌, ◌≢◌, ◌≤◌, ◌==◌, ◌&&◌, ◌+◌, ◌↔◌, ◌∙◌, ℕ, List, [], ◌∷◌, refl, sym, ap, subst, length, Bool, true, false, Option, Some, None, cond, eqb-true, inl, inr}
use Rattle.std.specs.Prelude.{MatchBool, not}
use Rattle.std.proofs.lemmas.Bool.{false≢true, not-true}
use Rattle.spdm_basis.proofs.Bools.{and_first, and_second}
use Rattle.check_responder.specs.WholeAnswers.{clear_shown, clear_whole}
use Rattle.check_laws.specs.AnswersShown.{LeadsAt, least_values, values_in_reply}
use Rattle.check_laws.specs.DropsShown.{may_be_dropped}
use Rattle.check_fetched_laws.specs.ClearSessions.{IsLeftBy, IsWithoutHandshake, is_in_handshake}
use Rattle.responder_machine.specs.Answer.{Free, request_at}
use Rattle.responder_machine.specs.Handling.{chunk_in, turn_of}
use Rattle.responder_machine.specs.History.{Entry, History, Kept, clear_turns, kept_of, negotiation_of, phase_of}
use Rattle.responder_machine.specs.History.Entry.{Clear, Sealed, Queued, Ticked, Dropped}
use Rattle.responder_machine.specs.May.{IsAllowed, with_dropped}
use Rattle.responder_machine.specs.Place.{Place, clear_place, free_id, held_of, is_held, place_terms}
use Rattle.responder_machine.specs.Place.Where.{InClear}
use Rattle.responder_machine.specs.Responder.{Outcome, is_repeat, kept_reply, on_clear}
use Rattle.responder_machine.specs.Responder.Outcome.{Adds, Same}
use Rattle.responder_machine.specs.Session.{Events, is_live, is_timed, session_of, stage_of}
use Rattle.responder_machine.specs.Setup.{RspSetup}
use Rattle.responder_machine.specs.Turn.{Turn, takes}
use Rattle.spdm_grammar.specs.declared.names.TheConstants.{MAX_MESSAGE_SIZE}
use Rattle.spdm_grammar.specs.declared.names.request_code.TheConstants.{PSK_EXCHANGE}
use Rattle.spdm_machine.specs.Bodies.{clear_body}
use Rattle.spdm_machine.specs.Sessions.{is_past_handshake, one_if}
use Rattle.spdm_machine.specs.Terms.{hash_len, terms_of}
use Rattle.capture_machine.specs.CapturedAnswers.{clear_answer}
use Rattle.capture_machine.specs.Rounds.{no_draw}

-- ---- Two histories with the same clear part, and the same sessions past their handshake.

pub record IsLike (h k : History) : Type 0 where
  pub turns : clear_turns h ≡ clear_turns k
  pub kept : kept_of h ≡ kept_of k
  pub held : (id : ℕ) → is_held h id ≡ is_held k id

like_self : (h : History) → IsLike h h
like_self h = record { turns = refl; kept = refl; held = λ id. refl }

-- A drop takes the session of its id.
held_by : (b : Bool) (s : Events) → (is_live (cond b [] s) && is_past_handshake (stage_of (cond b [] s))) ≡ cond b false (is_live s && is_past_handshake (stage_of s))
held_by true s = refl
held_by false s = refl

held_dropped : (which id : ℕ) (h : History) → is_held (Dropped which ∷ h) id ≡ cond (which == id) false (is_held h id)
unfolding session_of
held_dropped which id h = held_by (which == id) (session_of id h)

dropped_like : (which : ℕ) (h k : History) → IsLike h k → IsLike (Dropped which ∷ h) (Dropped which ∷ k)
dropped_like which h k like = record {
  turns = like.turns;
  kept = like.kept;
  held = λ id. held_dropped which id h ∙ ap (cond (which == id) false) (like.held id) ∙ sym (held_dropped which id k);
}

pub all_like : (ids : List ℕ) (h k : History) → IsLike h k → IsLike (with_dropped h ids) (with_dropped k ids)
all_like [] h k like = like
all_like (id ∷ ids) h k like = all_like ids (Dropped id ∷ h) (Dropped id ∷ k) (dropped_like id h k like)

-- A session in its handshake is not held.
begun_not : (s : Events) → is_in_handshake s ≡ true → (is_live s && is_past_handshake (stage_of s)) ≡ false
begun_not s is = ap (λ (b : Bool). is_live s && b) (not-true _ (and_second (is_live s) _ is)) ∙ by_live (is_live s)
  where
    by_live : (b : Bool) → (b && false) ≡ false
    by_live true = refl
    by_live false = refl

without_held : (h : History) (id i : ℕ) → is_in_handshake (session_of id h) ≡ true → is_held (Dropped id ∷ h) i ≡ is_held h i
without_held h id i is = held_dropped id i h ∙ by_id (id == i) refl
  where
    by_id : (b : Bool) → (id == i) ≡ b → cond b false (is_held h i) ≡ is_held h i
    by_id false other = refl
    by_id true same = sym (subst (λ (n : ℕ). is_held h n ≡ false) (eqb-true id i same) (begun_not (session_of id h) is))

without_like : (before left : History) → IsWithoutHandshake before left → IsLike left before
without_like before left (inl none) = subst (λ (l : History). IsLike l before) (sym none.1) (like_self before)
without_like before left (inr one) =
    subst (λ (l : History). IsLike l before) (sym one.2) (record { turns = refl; kept = refl; held = λ i. without_held before one.0 i one.1 })

-- What was left before a request is like what was there.
pub left_like : (e : Entry) (before left : History) → IsLeftBy e before left → IsLike left before
left_like (Clear tag t d) before left is = by_code (takes PSK_EXCHANGE t) is
  where
    by_code : (b : Bool) → MatchBool b (IsWithoutHandshake before left) (left ≡ before) → IsLike left before
    by_code true without = without_like before left without
    by_code false same = subst (λ (l : History). IsLike l before) (sym same) (like_self before)
left_like (Sealed tag m t reply d) before left is = absurd is
left_like (Queued bytes) before left is = absurd is
left_like (Ticked seconds) before left is = absurd is
left_like (Dropped id) before left is = absurd is

-- ---- What they lead to is the same.

module _ (h k : History) (like : IsLike h k) where
  count_like : held_of h ≡ held_of k
  count_like =
      ap (λ (b : Bool). one_if b + one_if (is_held h 2) + one_if (is_held h 3) + one_if (is_held h 4)) (like.held 1)
      ∙ ap (λ (b : Bool). one_if (is_held k 1) + one_if b + one_if (is_held h 3) + one_if (is_held h 4)) (like.held 2)
      ∙ ap (λ (b : Bool). one_if (is_held k 1) + one_if (is_held k 2) + one_if b + one_if (is_held h 4)) (like.held 3)
      ∙ ap (λ (b : Bool). one_if (is_held k 1) + one_if (is_held k 2) + one_if (is_held k 3) + one_if b) (like.held 4)

  id_like : free_id h ≡ free_id k
  id_like =
      ap (λ (b : Bool). cond (not b) 1 (cond (not (is_held h 2)) 2 (cond (not (is_held h 3)) 3 4))) (like.held 1)
      ∙ ap (λ (b : Bool). cond (not (is_held k 1)) 1 (cond (not b) 2 (cond (not (is_held h 3)) 3 4))) (like.held 2)
      ∙ ap (λ (b : Bool). cond (not (is_held k 1)) 1 (cond (not (is_held k 2)) 2 (cond (not b) 3 4))) (like.held 3)

  abbrev placed : List Turn → ℕ → Place
  placed ts held = record { at = InClear; phase = phase_of ts; turns = ts; negotiation = negotiation_of ts; events = []; past_handshake = held }

  pub place_like : clear_place h ≡ clear_place k
  place_like = ap (λ (ts : List Turn). placed ts (held_of h)) like.turns ∙ ap (placed (clear_turns k)) count_like

  least_like : least_values h (clear_place h) ≡ least_values k (clear_place k)
  least_like = ap (λ (n : ℕ). record (least_values h (clear_place h)) { id = n }) id_like ∙ ap (λ (p : Place). least_values k p) place_like

  module _ (r : RspSetup) (m : List ℕ) where
    pub shown_like : (reply whole : List ℕ) → clear_shown r h m reply whole ≡ clear_shown r k m reply whole
    shown_like reply whole =
        ap (λ (p : Place). shown_at p (least_values h (clear_place h))) place_like ∙ ap (shown_at (clear_place k)) least_like
      where
        shown_at : Place → Free → Free
        shown_at p f = clear_whole p m (values_in_reply r p m f reply (chunk_in (request_at p m))) whole (chunk_in (request_at p m))

    allowed_like : (f : Free) → IsAllowed h (clear_place h) f → IsAllowed k (clear_place k) f
    allowed_like f fits = record {
      least = fits.least;
      most = fits.most;
      unused = λ few. sym (like.held f.id) ∙ fits.unused (λ full. few (sym count_like ∙ full));
      context = subst (λ (p : Place). hash_len (place_terms p) ≤ length f.context) place_like fits.context;
      exchange_opaque = fits.exchange_opaque;
      nonce = fits.nonce;
      measured_opaque = fits.measured_opaque;
      handle = fits.handle;
      reply = fits.reply;
      pad = fits.pad;
    }

    on_like : (tag : ℕ) (f : Free) → on_clear r h tag m f no_draw ≡ on_clear r k tag m f no_draw
    unfolding on_clear
    on_like tag f =
        ap (λ (o : Option Kept). cond (is_repeat o tag m) (Same (clear_body (kept_reply o))) (Adds (Clear tag (turn_of r (clear_place h) m f) no_draw))) like.kept
        ∙ ap (λ (p : Place). cond (is_repeat (kept_of k) tag m) (Same (clear_body (kept_reply (kept_of k)))) (Adds (Clear tag (turn_of r p m f) no_draw))) place_like

    pub leads_like : (tag : ℕ) (o : Outcome) (f : Free) → LeadsAt r h tag (clear_body m) o f → LeadsAt r k tag (clear_body m) o f
    leads_like tag o f leads = (allowed_like f leads.0, subst (λ (p : Place). length (clear_answer r p m f) ≤ MAX_MESSAGE_SIZE) place_like leads.1, sym (on_like tag f) ∙ leads.2)

pub like_back : (h k : History) → IsLike h k → IsLike k h
like_back h k like = record { turns = sym like.turns; kept = sym like.kept; held = λ id. sym (like.held id) }

-- ---- The session that the answer shows as dropped.

-- Only one past its handshake may have been.
timed_past : (s : Events) → is_timed s ≡ true → is_past_handshake (stage_of s) ≡ true
timed_past s is = and_first (is_past_handshake (stage_of s)) _ is

may_by : (s : Events) → is_in_handshake s ≡ true → (is_live s && is_timed s) ≡ false
may_by s is = by_timed (is_timed s) refl
  where
    by_timed : (b : Bool) → is_timed s ≡ b → (is_live s && b) ≡ false
    by_timed true timed = absurd (false≢true (sym (not-true _ (and_second (is_live s) _ is)) ∙ timed_past s timed))
    by_timed false timed = by_live (is_live s)
      where
        by_live : (c : Bool) → (c && false) ≡ false
        by_live true = refl
        by_live false = refl

may_dropped : (b : Bool) (s : Events) → (is_live (cond b [] s) && is_timed (cond b [] s)) ≡ cond b false (is_live s && is_timed s)
may_dropped true s = refl
may_dropped false s = refl

without_may : (h : History) (id i : ℕ) → is_in_handshake (session_of id h) ≡ true → may_be_dropped (Dropped id ∷ h) i ≡ may_be_dropped h i
unfolding session_of
without_may h id i is = may_dropped (id == i) (session_of i h) ∙ by_id (id == i) refl
  where
    by_id : (b : Bool) → (id == i) ≡ b → cond b false (may_be_dropped h i) ≡ may_be_dropped h i
    by_id false other = refl
    by_id true same = sym (subst (λ (n : ℕ). may_be_dropped h n ≡ false) (eqb-true id i same) (may_by (session_of id h) is))

pub left_may : (e : Entry) (before left : History) → IsLeftBy e before left → (id : ℕ) → may_be_dropped left id ≡ may_be_dropped before id
left_may (Clear tag t d) before left is id = by_code (takes PSK_EXCHANGE t) is
  where
    by_code : (b : Bool) → MatchBool b (IsWithoutHandshake before left) (left ≡ before) → may_be_dropped left id ≡ may_be_dropped before id
    by_code true (inl none) = ap (λ (l : History). may_be_dropped l id) none.1
    by_code true (inr one) = ap (λ (l : History). may_be_dropped l id) one.2 ∙ without_may before one.0 id one.1
    by_code false same = ap (λ (l : History). may_be_dropped l id) same
left_may (Sealed tag m t reply d) before left is id = absurd is
left_may (Queued bytes) before left is id = absurd is
left_may (Ticked seconds) before left is id = absurd is
left_may (Dropped which) before left is id = absurd is
