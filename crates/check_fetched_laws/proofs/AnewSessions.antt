-- While a session is live the last request in the clear that was taken is not GET_VERSION, which ends all sessions.
use Rattle.std.proofs.Common.{◌≡◌, ◌≤◌, ◌==◌, ◌&&◌, ℕ, List, [], ◌∷◌, refl, sym, ap, ◌∙◌, Bool, true, false, Some, cond}
use Rattle.std.specs.Prelude.{bytes_eq}
use Rattle.std.proofs.Math.Bool.{and-false}
use Rattle.std.proofs.lemmas.Bool.{false≢true, false_from_ne_true}
use Rattle.std.proofs.lemmas.Slice.Eq.{bytes_eq-Decides}
use Rattle.check_fetched_laws.proofs.VersionWalks.{FormStand}
use Rattle.responder_machine.specs.History.{History, clear_turns, kept_of, negotiation_of}
use Rattle.responder_machine.specs.History.Entry.{Clear, Sealed, Queued, Ticked, Dropped}
use Rattle.responder_machine.specs.Refusal.{code_of}
use Rattle.responder_machine.specs.Responder.{is_repeat}
use Rattle.responder_machine.specs.Session.{Events, after_clear, after_exchange, after_record, is_live, session_of, when_live}
use Rattle.responder_machine.specs.Session.Event.{Heard}
use Rattle.responder_machine.specs.Turn.{Effect, Turn, code_in, is_taken, takes}
use Rattle.spdm_grammar.specs.Message.RequestMessage.{GetVersion}
use Rattle.spdm_grammar.specs.Requests.{canonical_request}
use Rattle.spdm_grammar.specs.declared.names.request_code.TheConstants.{END_SESSION, GET_VERSION, PSK_EXCHANGE}
use Rattle.spdm_machine.specs.Keys.{Draw}
use Rattle.transcript.specs.Transcripts.{Negotiation}
use Rattle.capture_machine.proofs.UnseenStands.{UnseenStand}

-- The responder takes messages of four bytes, and GET_VERSION is no repeat.
pub record IsReady (n : ℕ) (h : History) : Type 0 where
  pub room : 4 ≤ n
  pub anew : (tag : ℕ) → is_repeat (kept_of h) tag (canonical_request GetVersion) ≡ false

not_same : (m : List ℕ) → (code_of m ≡ GET_VERSION → ⊥) → bytes_eq m (canonical_request GetVersion) ≡ false
not_same m other = false_from_ne_true (bytes_eq m (canonical_request GetVersion)) (λ same. other (ap code_of ((bytes_eq-Decides m (canonical_request GetVersion)).0 same)))

taken_not : (tag other : ℕ) (t : Turn) (d : Draw) (h : History) → is_taken t ≡ true → (code_of t.message ≡ GET_VERSION → ⊥) → is_repeat (kept_of (Clear other t d ∷ h)) tag (canonical_request GetVersion) ≡ false
taken_not tag other t d h taken not_it =
    ap (λ (b : Bool). is_repeat (cond b (Some (record { tag = other; message = t.message; reply = t.reply })) (kept_of h)) tag (canonical_request GetVersion)) taken
    ∙ ap (λ (b : Bool). (other == tag) && b) (not_same t.message not_it) ∙ and-false (other == tag)

idle_not : (tag other : ℕ) (t : Turn) (d : Draw) (h : History) → is_taken t ≡ false → is_repeat (kept_of h) tag (canonical_request GetVersion) ≡ false → is_repeat (kept_of (Clear other t d ∷ h)) tag (canonical_request GetVersion) ≡ false
idle_not tag other t d h taken rest = ap (λ (b : Bool). is_repeat (cond b (Some (record { tag = other; message = t.message; reply = t.reply })) (kept_of h)) tag (canonical_request GetVersion)) taken ∙ rest

-- ---- What leaves a session live.

when_was : (s : Events) (m : List ℕ) (t : Turn) (reply : List ℕ) → is_live (when_live s (Heard m t reply)) ≡ true → is_live s ≡ true
when_was [] m t reply live = live
when_was (x ∷ s) m t reply live = live

record_was : (ends same : Bool) (s : Events) (m : List ℕ) (t : Turn) (reply : List ℕ) → is_live (cond same (cond ends [] (when_live s (Heard m t reply))) s) ≡ true → is_live s ≡ true
record_was ends false s m t reply live = live
record_was true true s m t reply live = absurd (false≢true live)
record_was false true s m t reply live = when_was s m t reply live

drop_was : (same : Bool) (s : Events) → is_live (cond same [] s) ≡ true → is_live s ≡ true
drop_was true s live = absurd (false≢true live)
drop_was false s live = live

version_ends : (ends : Bool) (rest : Events) → is_live (cond ends [] rest) ≡ true → ends ≡ true → ⊥
version_ends true rest live is = false≢true live
version_ends false rest live is = false≢true is

idle_clear : (id : ℕ) (s : Events) (t : Turn) (n : Negotiation) → takes GET_VERSION t ≡ false → takes PSK_EXCHANGE t ≡ false → after_clear id s t n ≡ s
idle_clear id s t n version exchange =
    ap (λ (b : Bool). cond b [] (cond (takes PSK_EXCHANGE t) (after_exchange id s t n) s)) version ∙ ap (λ (b : Bool). cond b (after_exchange id s t n) s) exchange

-- ---- The law.

pub live_ready : (n id : ℕ) (h : History) → FormStand n h → UnseenStand h → is_live (session_of id h) ≡ true → IsReady n h
unfolding session_of
live_ready n id [] form stand live = absurd (false≢true live)
live_ready n id (Clear other t d ∷ h) form stand live = by_taken (is_taken t) refl (λ before. live_ready n id h form.1 stand.1 before)
  where
    s : Events
    s = session_of id h

    by_taken : (b : Bool) → is_taken t ≡ b → (is_live s ≡ true → IsReady n h) → IsReady n (Clear other t d ∷ h)
    by_taken true taken rest = record {
      room = (form.0 taken).room;
      anew = λ tag. taken_not tag other t d h taken (λ code. version_ends (takes GET_VERSION t) _ live ((form.0 taken).version code));
    }
    by_taken false taken rest =
        let idle = stand.0.0 taken in
        let same : after_clear id s t (negotiation_of (clear_turns h)) ≡ s = idle_clear id s t (negotiation_of (clear_turns h)) (ap (λ (x : Effect). code_in x == GET_VERSION) idle) (ap (λ (x : Effect). code_in x == PSK_EXCHANGE) idle) in
        let before = rest (ap is_live (sym same) ∙ live) in
        record { room = before.room; anew = λ tag. idle_not tag other t d h taken (before.anew tag) }
live_ready n id (Sealed other m t reply d ∷ h) form stand live =
    let before = live_ready n id h form.1 stand.1 (record_was (takes END_SESSION t) _ (session_of id h) m t reply live) in
    record { room = before.room; anew = before.anew }
live_ready n id (Queued bytes ∷ h) form stand live = absurd stand.0
live_ready n id (Ticked seconds ∷ h) form stand live = absurd stand.0
live_ready n id (Dropped which ∷ h) form stand live =
    let before = live_ready n id h form.1 stand.1 (drop_was (which == id) (session_of id h) live) in
    record { room = before.room; anew = before.anew }
