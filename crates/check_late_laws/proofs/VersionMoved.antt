-- The answer to GET_VERSION, in place of a chunk that was asked for, may be given with any bytes.
use Rattle.std.proofs.Common.{◌≡◌, ◌==◌, ◌&&◌, ℕ, List, ◌∷◌, refl, sym, ap, ◌∙◌, subst, drop, Bool, true, false, Option, Some, None, cond}
use Rattle.std.specs.Prelude.{not, slice_index}
use Rattle.std.proofs.lemmas.Bool.{false≢true}
use Rattle.std.proofs.lemmas.Option.{none-some}
use Rattle.responder_machine.proofs.Codes.{asked-code}
use Rattle.responder_machine.specs.Answer.{Free, answer_bytes, answer_to, request_at}
use Rattle.responder_machine.specs.Handling.{chunk_in, turn_of}
use Rattle.responder_machine.specs.History.{Entry, History, Kept, clear_turns, kept_of}
use Rattle.responder_machine.specs.History.Entry.{Clear}
use Rattle.responder_machine.specs.May.{with_dropped}
use Rattle.responder_machine.specs.Place.{Place, clear_place, place_terms}
use Rattle.responder_machine.specs.Refusal.{chunk_fault, code_of, has_pending, is_exchange_refused, is_get_refused, is_update_misplaced, is_verify_wrong, lacks_flag, phase_allows}
use Rattle.responder_machine.specs.Responder.{Outcome, is_repeat, kept_reply, on_clear}
use Rattle.responder_machine.specs.Responder.Outcome.{Same, Unopened, Adds}
use Rattle.responder_machine.specs.Setup.{RspSetup}
use Rattle.responder_machine.specs.Turn.{Turn}
use Rattle.spdm_grammar.specs.Codes.{code_for}
use Rattle.spdm_grammar.specs.Message.{ChunkMessage, RequestMessage}
use Rattle.spdm_grammar.specs.Message.RequestMessage.{GetVersion, GetCapabilities, NegotiateAlgorithms, GetMeasurements, PskExchange, PskFinish, Heartbeat, KeyUpdate, EndSession, ChunkSend, ChunkGet}
use Rattle.spdm_grammar.specs.Requests.{canonical_request}
use Rattle.spdm_grammar.specs.declared.names.request_code.TheConstants.{GET_VERSION, PSK_EXCHANGE}
use Rattle.spdm_grammar.specs.declared.told.phase.Phase.{Phase}
use Rattle.spdm_grammar.specs.declared.told.phase.Phase.TheVariants.{Fresh, Versioned, Capable, Negotiated}
use Rattle.spdm_machine.specs.Bodies.{clear_body}
use Rattle.spdm_machine.specs.Terms.{hash_len}
use Rattle.capture_machine.proofs.FetchedAnswers.{always_none}
use Rattle.capture_machine.proofs.FetchedTells.{ReadsAlways, kept_large, version_reads}
use Rattle.capture_machine.proofs.FetchedTold.{version_apart}
use Rattle.capture_machine.proofs.PlacesServed.{named_clear}
use Rattle.capture_machine.specs.CapturedAnswers.{AreShown, MayLeadAfter, MayLeadTo, is_plain}
use Rattle.capture_machine.specs.LargeAnswers.{gives_last, is_large, place_named, place_of, takes_get, with_large}
use Rattle.capture_machine.specs.Rounds.{no_draw}
use Rattle.check_late_laws.proofs.ClearMoved.{clear_may, other_may, other_values, repeat_moved, values_handle}
use Rattle.check_late_laws.proofs.NoCaps.{NoCaps}
use Rattle.check_late_laws.proofs.PlainWithin.{Moved}
use Rattle.check_late_laws.proofs.TurnsBeside.{Turns, clear_beside, common_beside, phase_beside}
use Rattle.check_late_laws.proofs.TurnsMoved.{Near}
use Rattle.check_late_laws.proofs.TurnsSame.{turn_moved}

-- ---- A message with the code of GET_VERSION.

pub data IsVersionOnly (q : Option RequestMessage) : Type 0 where
  Unread : q ≡ None → IsVersionOnly q
  Read : q ≡ Some GetVersion → IsVersionOnly q

other_code : (n : ℕ) (q : Option RequestMessage) → (n == GET_VERSION) ≡ false → n ≡ GET_VERSION → IsVersionOnly q
other_code n q other is = absurd (false≢true (sym other ∙ ap (λ (k : ℕ). k == GET_VERSION) is))

pub version_only : (q : Option RequestMessage) → ((x : RequestMessage) → q ≡ Some x → code_for x ≡ GET_VERSION) → IsVersionOnly q
version_only None code = Unread refl
version_only (Some GetVersion) code = Read refl
version_only (Some (ChunkGet a b)) code = other_code (code_for (ChunkGet a b)) (Some (ChunkGet a b)) refl (code (ChunkGet a b) refl)
version_only (Some (GetCapabilities caps)) code = other_code (code_for (GetCapabilities caps)) (Some (GetCapabilities caps)) refl (code (GetCapabilities caps) refl)
version_only (Some (NegotiateAlgorithms offer)) code = other_code (code_for (NegotiateAlgorithms offer)) (Some (NegotiateAlgorithms offer)) refl (code (NegotiateAlgorithms offer) refl)
version_only (Some (GetMeasurements op)) code = other_code (code_for (GetMeasurements op)) (Some (GetMeasurements op)) refl (code (GetMeasurements op) refl)
version_only (Some (PskExchange x)) code = other_code (code_for (PskExchange x)) (Some (PskExchange x)) refl (code (PskExchange x) refl)
version_only (Some (PskFinish verify)) code = other_code (code_for (PskFinish verify)) (Some (PskFinish verify)) refl (code (PskFinish verify) refl)
version_only (Some Heartbeat) code = other_code (code_for Heartbeat) (Some Heartbeat) refl (code Heartbeat refl)
version_only (Some (KeyUpdate op tag)) code = other_code (code_for (KeyUpdate op tag)) (Some (KeyUpdate op tag)) refl (code (KeyUpdate op tag) refl)
version_only (Some EndSession) code = other_code (code_for EndSession) (Some EndSession) refl (code EndSession refl)
version_only (Some (ChunkSend c)) code = other_code (code_for (ChunkSend c)) (Some (ChunkSend c)) refl (code (ChunkSend c) refl)

-- It comes in each phase, whether anything is pending or not.
version_comes : (phase : Phase) (b : Bool) → phase_allows phase b GET_VERSION ≡ true
version_comes Fresh b = refl
version_comes Versioned b = refl
version_comes Capable b = refl
version_comes Negotiated b = refl

module _ (r : RspSetup) (h : History) (v w : List ℕ) (tag : ℕ) (body : List ℕ) (is_version : body ≡ clear_body (canonical_request GetVersion)) (caps : NoCaps h) where
  abbrev g : History
  g = with_large (place_named body) v h

  abbrev k : History
  k = with_large (place_named body) w h

  abbrev m : List ℕ
  m = drop 1 body

  abbrev p : Place
  p = clear_place g

  abbrev q : Place
  q = clear_place k

  type : (slice_index body 0 == 5) ≡ true
  type = ap (λ (l : List ℕ). slice_index l 0 == 5) is_version

  reads : ReadsAlways (drop 1 body)
  reads = subst (λ (l : List ℕ). ReadsAlways (drop 1 l)) (sym is_version) version_reads

  code : code_of (drop 1 body) ≡ GET_VERSION
  code = ap (λ (l : List ℕ). code_of (drop 1 l)) is_version

  turns : Turns (clear_turns g) (clear_turns k)
  turns = subst (λ (x : Option ℕ). Turns (clear_turns (with_large x v h)) (clear_turns (with_large x w h))) (sym (named_clear body type)) (clear_beside v w h caps)

  phase : p.phase ≡ q.phase
  phase = phase_beside (clear_turns g) (clear_turns k) turns

  asked : request_at p m ≡ request_at q m
  asked = reads.reads (hash_len (place_terms p)) (hash_len (place_terms q))

  only : IsVersionOnly (request_at p m)
  only = version_only (request_at p m) (λ x is. asked-code p m x is ∙ code)

  by_only : {A : Type 0} (F : Place → Option RequestMessage → A) → F p None ≡ F q None → F p (Some GetVersion) ≡ F q (Some GetVersion) → F p (request_at p m) ≡ F q (request_at q m)
  by_only F none some = by_kind only
    where
      by_kind : IsVersionOnly (request_at p m) → F p (request_at p m) ≡ F q (request_at q m)
      by_kind (Unread is) = ap (F p) is ∙ none ∙ sym (ap (F q) (sym asked ∙ is))
      by_kind (Read is) = ap (F p) is ∙ some ∙ sym (ap (F q) (sym asked ∙ is))

  near : Near r p q m
  near = record {
    at = refl;
    phase = phase;
    asked = asked;
    common = common_beside (clear_turns g) (clear_turns k) turns;
    allowed = ap (phase_allows p.phase (has_pending p)) code ∙ version_comes p.phase (has_pending p) ∙ sym (ap (phase_allows q.phase (has_pending q)) code ∙ version_comes q.phase (has_pending q));
    lacks = ap (lacks_flag (place_terms p)) code ∙ sym (ap (lacks_flag (place_terms q)) code);
    exchange = by_only (λ x. is_exchange_refused r x) refl refl;
    verify = by_only (λ x. is_verify_wrong r x m) refl refl;
    update = by_only is_update_misplaced refl refl;
    fault = by_only (chunk_fault r) refl refl;
    get = by_only is_get_refused refl refl;
    full = ap (λ (n : ℕ). n == PSK_EXCHANGE && p.past_handshake == 4) code ∙ sym (ap (λ (n : ℕ). n == PSK_EXCHANGE && q.past_handshake == 4) code);
  }

  abbrev values : Free → Free
  values = other_values r h v w tag body type turns

  answer_same : (f : Free) → IsVersionOnly (request_at p m) → answer_bytes r p m f ≡ answer_bytes r q m (values f)
  unfolding answer_bytes
  answer_same f (Unread is) = ap (answer_to r p m f) is ∙ sym (ap (answer_to r q m (values f)) (sym asked ∙ is))
  answer_same f (Read is) = ap (answer_to r p m f) is ∙ sym (ap (answer_to r q m (values f)) (sym asked ∙ is))

  none_sent : (d : ChunkMessage) → chunk_in (request_at p m) ≡ Some d → IsVersionOnly (request_at p m) → ⊥
  none_sent d sends (Unread is) = none-some d (sym (ap chunk_in is) ∙ sends)
  none_sent d sends (Read is) = none-some d (sym (ap chunk_in is) ∙ sends)

  turn_same : (f : Free) → turn_of r p m f ≡ turn_of r q m (values f)
  turn_same f = turn_moved r p q m f (values f) near (answer_same f only) (values_handle r h v w tag body type turns f) (λ d none sends. none_sent d sends only)

  clear_adds : (x : List ℕ) (f : Free) → is_repeat (kept_of h) tag m ≡ false → on_clear r (with_large (place_named body) x h) tag m f no_draw ≡ Adds (Clear tag (turn_of r (clear_place (with_large (place_named body) x h)) m f) no_draw)
  unfolding on_clear
  clear_adds x f not_again =
      let e : Entry = Clear tag (turn_of r (clear_place (with_large (place_named body) x h)) m f) no_draw in
      ap (λ (o : Option Kept). cond (is_repeat o tag m) (Same (clear_body (kept_reply o))) (Adds e)) (kept_large (place_named body) x h) ∙ ap (λ (b : Bool). cond b (Same (clear_body (kept_reply (kept_of h)))) (Adds e)) not_again

  -- It gives no chunk.
  gives_none : (l : History) (e : Entry) (b : Bool) → takes_get e ≡ b → MayLeadTo r l tag body (Adds e) → (x : History) → gives_last x e ≡ false
  gives_none l e true gets may x = absurd (version_apart r l tag body e is_version may gets)
  gives_none l e false none may x = ap (λ (b : Bool). b && not (has_pending (place_of (e ∷ x) e))) none

  still : (o : Outcome) → MayLeadTo r g tag body o → is_plain g o ≡ true → is_plain k o ≡ true
  still (Same b) may plain = refl
  still (Unopened b) may plain = refl
  still (Adds e) may plain =
      ap (λ (b : Bool). not (is_large e) && not b) (gives_none g e (takes_get e) refl may k ∙ sym (gives_none g e (takes_get e) refl may g)) ∙ plain

  pub version_moved : (ids : List ℕ) (o : Outcome) → MayLeadAfter r g ids tag body o → AreShown r g body o ids → is_plain g o ≡ true → Moved r h w tag body ids o
  version_moved ids o may shown plain = by_repeat (is_repeat (kept_of h) tag m) refl
    where
      by_repeat : (b : Bool) → is_repeat (kept_of h) tag m ≡ b → Moved r h w tag body ids o
      by_repeat true again = repeat_moved r h v w tag body type turns ids o again may shown
      by_repeat false not_again =
          let none = always_none r g ids tag body o type reads may shown in
          let leads : MayLeadTo r g tag body o = subst (λ (l : List ℕ). MayLeadTo r (with_dropped g l) tag body o) none may.1 in
          let m = clear_may r g tag body o type leads in
          let added : Entry = Clear tag (turn_of r p (drop 1 body) m.free) no_draw in
          let is : o ≡ Adds added = sym m.leads ∙ clear_adds v m.free not_again in
          let moved = other_may r h v w tag body type turns o m (clear_adds w (values m.free) not_again ∙ ap (λ (t : Turn). Adds (Clear tag t no_draw)) (sym (turn_same m.free)) ∙ sym is) in
          subst (λ (l : List ℕ). Moved r h w tag body l o) (sym none) (record { may = (tt, moved); shown = tt; plain = still o leads plain })
