-- A PSK_EXCHANGE that begins a session, in the clear or in chunks.
use Rattle.std.proofs.Common.{refl, ◌∙◌, ◌≡◌, ◌≤◌, ℕ, List, [], true, Bool, Option, Some, None, length, ap, sym, subst, arith}
use Rattle.std.proofs.lemmas.Bool.{false≢true, ltb-false}
use Rattle.std.proofs.lemmas.Bool.Decides.{nat_tests}
use Rattle.std.proofs.lemmas.List.{length-append}
use Rattle.std.specs.Prelude.{◌==◌, ◌||◌, IfSome, if◌then◌else◌, is_some, not, unwrap_or}
use Rattle.responder_core.proofs.Chunked.{last_turn}
use Rattle.responder_core.proofs.Passing.{settled_at, not_long}
use Rattle.responder_core.proofs.Table.{phase_allowed}
use Rattle.responder_core.proofs.Taken.{effect_is}
use Rattle.responder_core.specs.Beginning.{IsBeginningAt}
use Rattle.responder_core.specs.Coming as coming
use Rattle.responder_core.specs.Coming.{IsBegun, exchange_bytes, exchange_place}
use Rattle.responder_core.specs.Connected.{HasSizesAt}
use Rattle.responder_core.specs.Negotiating.{IsSettled, IsSized}
use Rattle.responder_core.specs.Refused.{IsClear}
use Rattle.responder_core.specs.ClearState as standing
use Rattle.responder_core.specs.ClearState.{IsSettledAt, place_at}
use Rattle.responder_core.specs.Starting.{IsStarted, IsStartedAt}
use Rattle.responder_core.specs.declared.clear.request_outcome.ExchangeOrigin.{ExchangeOrigin}
use Rattle.responder_core.specs.declared.clear.request_outcome.ExchangeOrigin.TheVariants as begins
use Rattle.negotiate.specs.declared.shared.Common.{Common}
use Rattle.responder_machine.proofs.Fresh.{exchange-fresh, turn_of-fresh}
use Rattle.responder_machine.proofs.Settled.{answer_is}
use Rattle.responder_machine.proofs.Tests.{contents_shown}
use Rattle.responder_machine.proofs.VerifyLength.{length_verify}
use Rattle.responder_machine.proofs.Turns.{plain_turn-asked, turn_of-plain}
use Rattle.responder_machine.specs.Answer.{Free, answer_bytes, request_at}
use Rattle.responder_machine.specs.Handling.{handle_for, turn_of}
use Rattle.responder_machine.specs.History.{History, clear_turns, negotiation_of}
use Rattle.responder_machine.specs.Place.{Place, Where, clear_place, held_of, inside, place_terms}
use Rattle.responder_machine.specs.Place.Where.{InChunks, InClear}
use Rattle.responder_machine.specs.Refusal.{has_pending, phase_allows, refusal, refused_form, sizes_are_known}
use Rattle.responder_machine.specs.Setup.{RspSetup}
use Rattle.responder_machine.specs.Turn.{Effect, Turn, answer_in, code_in, request_in, takes}
use Rattle.responder_machine.specs.Turn.Effect.{Took}
use Rattle.responder_session.proofs.Waits.{start_is_answer}
use Rattle.responder_session.specs.Exchange.{AreAnswered, answer_for, answer_with, begun as begun_by, t1_with}
use Rattle.responder_session.specs.ExchangeLaws.{ArePartsOf}
use Rattle.responder_session.specs.Session as sessions
use Rattle.responder_session.specs.declared.parts.ExchangeParts.{ExchangeParts}
use Rattle.responder_session.specs.declared.session.RspSession.{RspSession}
use Rattle.spdm_grammar.specs.Fields.{is_summary}
use Rattle.spdm_grammar.specs.Message.{ExchangeMessage}
use Rattle.spdm_grammar.specs.Message.RequestMessage.{PskExchange}
use Rattle.spdm_grammar.specs.declared.names.TheConstants.{MAX_MESSAGE_SIZE}
use Rattle.spdm_grammar.specs.declared.names.request_code.TheConstants.{PSK_EXCHANGE}
use Rattle.spdm_grammar.specs.declared.told.phase.Phase.{Phase}
use Rattle.spdm_grammar.specs.declared.told.phase.Phase.TheVariants.{Capable, Fresh, Negotiated, Versioned}
use Rattle.spdm_machine.specs.Sessions.{id_in_exchange}
use Rattle.spdm_machine.specs.Keys.{verify_data}
use Rattle.spdm_machine.specs.Terms.{hash_len, terms_of}
use Rattle.transcript.specs.Transcripts.{Negotiation}
use Rattle.session_keys.specs.Terms.{AreTermsOf}
use Rattle.session_keys.specs.declared.terms.SessionTerms.{SessionTerms}
use Rattle.spdm_basis.specs.Sizes.{hash_size}
use Rattle.spdm_grammar.specs.declared.messages.choice.Choice.{Choice}
use Rattle.key_schedule.specs.declared.direction.Direction.TheVariants as direction

-- ---- What it shows.

pub record IsExchange (r : RspSetup) (p : Place) (bytes : List ℕ) (f : Free) (turn : Turn) (turns : List Turn) (seen : standing.Seen) : Type 0 where
  pub asked : ExchangeMessage
  pub clear : IsClear p.at
  pub form : refused_form r p bytes ≡ None
  pub asked_is : request_at p bytes ≡ Some (PskExchange asked)
  pub refused : refusal r p bytes f ≡ None
  pub large : Option ℕ
  pub effect : turn.effect ≡ Took (PskExchange asked) bytes (answer_bytes r p bytes f) large
  pub standing : standing.StandsFor seen turns

pub exchange_shown : (r : RspSetup) (p : Place) (m : List ℕ) (f : Free) (begun : ExchangeOrigin) (seen : coming.Seen) → IsClear p.at → IsBegun r p m f begun seen
    → IsExchange r (exchange_place begun p) (exchange_bytes begun m seen) f (turn_of r p m f) p.turns seen.standing
exchange_shown r p m f begins.InClear seen clear b = record {
  asked = b.exchange;
  clear = clear;
  form = b.form;
  asked_is = b.asked_is;
  refused = b.refused;
  large = handle_for p f (answer_bytes r p m f);
  effect = ap (λ (t : Turn). t.effect) (turn_of-plain r p m f (PskExchange b.exchange) b.refused b.asked_is refl ∙ plain_turn-asked r p m f (PskExchange b.exchange) b.asked_is);
  standing = b.stands.standing;
}
exchange_shown r p m f (begins.InChunks handle number) seen clear b = record {
  asked = b.exchange;
  clear = tt;
  form = b.form;
  asked_is = b.asked_is;
  refused = b.refused;
  large = handle_for (inside p) f (answer_bytes r (inside p) seen.whole f);
  effect =
      ap (λ (t : Turn). t.effect) (last_turn r p m f b.chunk seen None b.completes b.refused)
      ∙ effect_is r (inside p) seen.whole f (PskExchange b.exchange) (answer_bytes r (inside p) seen.whole f) b.asked_is refl;
  standing = b.completes.standing;
}

-- ---- Its answer is short.

pub exchange_known : (phase : Phase) (common : Common) (pending : Bool) → IsSettled phase common → phase_allows phase pending PSK_EXCHANGE ≡ true → (sizes_are_known phase ≡ true) × IsSized common
exchange_known Fresh common pending settled allowed = absurd (false≢true allowed)
exchange_known Versioned common pending settled allowed = absurd (false≢true allowed)
exchange_known Capable common pending settled allowed = absurd (false≢true allowed)
exchange_known Negotiated common pending settled allowed = (refl, settled)

pub exchange_fits : (r : RspSetup) (p : Place) (m : List ℕ) (f : Free) (asked : ExchangeMessage) → IsClear p.at → IsSettledAt p → refused_form r p m ≡ None → request_at p m ≡ Some (PskExchange asked) → refusal r p m f ≡ None
    → length (answer_bytes r p m f) ≤ MAX_MESSAGE_SIZE
exchange_fits r p m f asked clear settled form is taken =
    let known = exchange_known p.phase (place_terms p).common (has_pending p) settled.settled (phase_allowed r p m (PskExchange asked) clear form is) in
    let fits = ltb-false (place_terms p).common.to_requester.max (length (answer_bytes r p m f)) (not_long (sizes_are_known p.phase) _ _ known.0 (contents_shown r p m f taken 10)) in
    let most = known.1.most in
    omega arith

-- ---- Where it came.

-- What a start gives at every place of these turns.
abbrev pub Starts : RspSetup → History → (bytes : List ℕ) → Free → RspSession → (answer : List ℕ) → Type 0
Starts r h bytes f session answer =
    (at : Where) (asked : ExchangeMessage) → request_at (place_at at (clear_turns h) (held_of h)) bytes ≡ Some (PskExchange asked)
    → length (answer_bytes r (place_at at (clear_turns h) (held_of h)) bytes f) ≤ MAX_MESSAGE_SIZE
    → IsStarted r (negotiation_of (clear_turns h)) bytes (answer_bytes r (place_at at (clear_turns h) (held_of h)) bytes f) session answer

pub started_at : (r : RspSetup) (h : History) (m : List ℕ) (f : Free) (begun : ExchangeOrigin) (seen : coming.Seen) (session : RspSession) (answer : List ℕ)
    → IsBegun r (clear_place h) m f begun seen → Starts r h (exchange_bytes begun m seen) f session answer → IsStartedAt r h m f begun seen session answer
started_at r h m f begins.InClear seen session answer b starts =
    let shown = exchange_shown r (clear_place h) m f begins.InClear seen tt b in
    starts InClear shown.asked shown.asked_is
    (exchange_fits r (clear_place h) m f shown.asked shown.clear (settled_at seen.standing InClear (clear_turns h) (held_of h) shown.standing) shown.form shown.asked_is shown.refused)
started_at r h m f (begins.InChunks handle number) seen session answer b starts =
    let shown = exchange_shown r (clear_place h) m f (begins.InChunks handle number) seen tt b in
    starts InChunks shown.asked shown.asked_is
    (exchange_fits r (inside (clear_place h)) seen.whole f shown.asked shown.clear (settled_at seen.standing InChunks (clear_turns h) (held_of h) shown.standing) shown.form shown.asked_is shown.refused)

-- ---- The parts of its answer.

pub sized_summary : (x : Option (List ℕ)) (n : ℕ) → IfSome x (λ (s : List ℕ). length s ≡ n) → length (unwrap_or x []) ≡ (if is_some x then n else 0)
sized_summary None n h = refl
sized_summary (Some s) n h = h

pub asked_kind : (k : ℕ) → is_summary k ≡ true → (k == 1 || k == 255) ≡ not (k == 0)
asked_kind k h = grind (arith, nat_tests)

pub alike_long : (parts : ExchangeParts) (a b : List ℕ) → length a ≡ length b → length (answer_with parts a) ≡ length (answer_with parts b)
alike_long parts a b same = simp length-append (omega arith)

-- ---- The session that begins.

exchange_knows : (phase : Phase) (pending : Bool) → phase_allows phase pending PSK_EXCHANGE ≡ true → sizes_are_known phase ≡ true
exchange_knows Fresh pending h = absurd (false≢true h)
exchange_knows Versioned pending h = absurd (false≢true h)
exchange_knows Capable pending h = refl
exchange_knows Negotiated pending h = refl

same_phase : (begun : ExchangeOrigin) (p : Place) → (exchange_place begun p).phase ≡ p.phase
same_phase begins.InClear p = refl
same_phase (begins.InChunks handle number) p = refl

pub beginning_at : (r : RspSetup) (h : History) (m : List ℕ) (f : Free) (begun : ExchangeOrigin) (seen : coming.Seen) (session : RspSession) (answer : List ℕ) → f.id ≤ 4 → IsBegun r (clear_place h) m f begun seen
    → IsStartedAt r h m f begun seen session answer → HasSizesAt r (clear_turns h) → IsBeginningAt r h (turn_of r (clear_place h) m f) f.id session answer
beginning_at r h m f begun seen session answer few b started sizes =
    let t : Turn = turn_of r (clear_place h) m f in
    let place : Place = exchange_place begun (clear_place h) in
    let shown = exchange_shown r (clear_place h) m f begun seen tt b in
    let exchange : takes PSK_EXCHANGE t ≡ true = ap (λ (e : Effect). code_in e == PSK_EXCHANGE) shown.effect in
    let fresh = exchange-fresh (held_of h) f.id t.effect exchange (turn_of-fresh r (clear_place h) m f few) in
    let answered : answer ≡ answer_in t.effect = started.answer_is ∙ sym (ap answer_in shown.effect) in
    let known = exchange_knows place.phase (has_pending place) (phase_allowed r place (exchange_bytes begun m seen) (PskExchange shown.asked) shown.clear shown.form shown.asked_is) in
    record {
      is_exchange = exchange;
      id_is = ap id_in_exchange answered ∙ fresh.0;
      answer_is = answered;
      session_is = subst (λ (x : List ℕ). sessions.StandsFor session r.psk (begun_by (negotiation_of (clear_turns h)) x answer)) (sym (ap request_in shown.effect)) started.session_is;
      sizes = sizes (ap sizes_are_known (sym (same_phase begun (clear_place h))) ∙ known);
    }

-- ---- What a session starts with.

pub started : (r : RspSetup) (p : Place) (turns : List Turn) (exchange : List ℕ) (f : Free) (asked : ExchangeMessage) (terms : SessionTerms) (parts : ExchangeParts) (session : RspSession) (psk answer : List ℕ)
    → p.negotiation ≡ negotiation_of turns → request_at p exchange ≡ Some (PskExchange asked) → ArePartsOf r p f asked parts → AreTermsOf terms (negotiation_of turns) exchange → r.psk ≡ psk
    → length (answer_bytes r p exchange f) ≤ MAX_MESSAGE_SIZE
    → (AreAnswered terms parts → answer ≡ answer_for psk (negotiation_of turns) exchange parts)
    → (AreAnswered terms parts → sessions.StandsFor session psk (begun_by (negotiation_of turns) exchange answer))
    → IsStarted r (negotiation_of turns) exchange (answer_bytes r p exchange f) session answer
started r p turns exchange f asked terms parts session psk answer here is are terms_is key fits answered stands =
    let n = negotiation_of turns in
    let whole : answer_for r.psk n exchange parts ≡ answer_bytes r p exchange f =
    ap (λ (x : Negotiation). answer_for r.psk x exchange parts) (sym here) ∙ start_is_answer r p exchange f asked parts are ∙ sym (answer_is r p exchange f (PskExchange asked) is) in
    let own : List ℕ = verify_data (terms_of n).choice r.psk (t1_with n exchange parts) direction.Response (t1_with n exchange parts) in
    let own_long : length own ≡ hash_size terms.choice.hash =
    length_verify (terms_of n).choice r.psk (t1_with n exchange parts) direction.Response (t1_with n exchange parts) ∙ ap (λ (x : Choice). hash_size x.hash) (sym terms_is.choice) in
    let made : AreAnswered terms parts = λ verify size.
    let alike = alike_long parts verify own (size ∙ sym own_long) in
    let total = ap (λ (x : List ℕ). length x) whole in
    omega (arith, alike, total, fits) in
    record {
      answer_is = answered made ∙ ap (λ (k : List ℕ). answer_for k n exchange parts) (sym key) ∙ whole;
      session_is = subst (λ (k : List ℕ). sessions.StandsFor session k (begun_by n exchange answer)) (sym key) (stands made);
    }
