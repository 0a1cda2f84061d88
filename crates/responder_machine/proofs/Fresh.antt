-- The session that a PSK_EXCHANGE begins, and its id.
use Rattle.std.proofs.Common.{refl, ◌∙◌, ◌≡◌, ◌≤◌, ℕ, List, [], ◌∷◌, true, false, Bool, Option, Some, None, ap, subst, arith}
use Rattle.std.proofs.lemmas.Bool.{false≢true, eqb-false}
use Rattle.std.proofs.lemmas.Bool.Decides.{nat_tests}
use Rattle.std.specs.Prelude.{if◌then◌else◌, ◌==◌, ◌&&◌}
use Rattle.byteorder.specs.Numbers.{little_number-reads_back}
use Rattle.spdm_grammar.specs.Message.{RequestMessage, ChunkMessage, ExchangeMessage}
use Rattle.spdm_grammar.specs.Message.RequestMessage.{PskExchange}
use Rattle.spdm_grammar.specs.Responses.{canonical_response}
use Rattle.spdm_grammar.specs.declared.messages.error_code.ErrorCode.{ErrorCode}
use Rattle.responder_machine.proofs.Codes.{asked-code}
use Rattle.responder_machine.proofs.Entries.{session_of-Clear}
use Rattle.responder_machine.proofs.Tests.{contents_shown}
use Rattle.responder_machine.proofs.Turns.{turn_of-plain, plain_turn-asked}
use Rattle.responder_machine.specs.Answer.{Free, answer_bytes, answer_to, exchange_answer, request_at}
use Rattle.responder_machine.specs.Handling.{turn_of, turn_by, effect_of, carried_turn, last_chunk_turn, taken_chunk, chunk_in}
use Rattle.responder_machine.specs.History.{clear_turns, negotiation_of}
use Rattle.responder_machine.specs.History.Entry.{Clear}
use Rattle.responder_machine.specs.Laws.{NewSessionIsFresh, TakenExchangeIsFresh, completed_at}
use Rattle.responder_machine.specs.Place.{Place, clear_place, inside, held_of}
use Rattle.responder_machine.specs.Refusal.{refusal}
use Rattle.responder_machine.proofs.GivenIds.{gives_some}
use Rattle.responder_machine.specs.Session.{Events, session_of, after_clear, gives_id}
use Rattle.spdm_machine.specs.Sessions.{id_in_exchange}
use Rattle.responder_machine.specs.Session.Event.{Began}
use Rattle.responder_machine.specs.Setup.{RspSetup}
use Rattle.responder_machine.specs.Turn.{Turn, Effect, code_in, takes, request_in, answer_in}
use Rattle.responder_machine.specs.Turn.Effect.{NoEffect, Took, TookData}
use Rattle.transcript.specs.Transcripts.{Negotiation}
use Rattle.spdm_grammar.specs.declared.names.request_code.TheConstants.{GET_VERSION, PSK_EXCHANGE}

-- The answer to an exchange has this id, and fewer than four sessions were held.
abbrev IsFreshRequest : ℕ → ℕ → RequestMessage → List ℕ → Type 0
IsFreshRequest held id (PskExchange exchange) answer = (id_in_exchange answer ≡ id) × ((held == 4) ≡ false)
IsFreshRequest held id _ answer = Unit {0}

abbrev pub IsFresh : ℕ → ℕ → Effect → Type 0
IsFresh held id NoEffect = Unit {0}
IsFresh held id (Took asked request answer large) = IsFreshRequest held id asked answer
IsFresh held id (TookData bytes answer) = Unit {0}

exchange-id : (r : RspSetup) (p : Place) (m : List ℕ) (f : Free) (exchange : ExchangeMessage) → f.id ≤ 4 → id_in_exchange (canonical_response (exchange_answer r p m f exchange)) ≡ f.id
exchange-id r p m f exchange few = little_number-reads_back 2 f.id [] (omega arith)

room : (r : RspSetup) (p : Place) (m : List ℕ) (f : Free) (exchange : ExchangeMessage) → refusal r p m f ≡ None → request_at p m ≡ Some (PskExchange exchange) → (p.past_handshake == 4) ≡ false
room r p m f exchange taken is =
    ap (λ (code : ℕ). code == PSK_EXCHANGE && p.past_handshake == 4) (asked-code p m (PskExchange exchange) is) ∙ contents_shown r p m f taken 11

fresh_request : (r : RspSetup) (p : Place) (m : List ℕ) (f : Free) (large : Option ℕ) (q : Option RequestMessage) → f.id ≤ 4 → refusal r p m f ≡ None → request_at p m ≡ q
    → IsFresh p.past_handshake f.id (effect_of q m (answer_to r p m f q) large)
fresh_request r p m f large None few taken is = tt
fresh_request r p m f large (Some (PskExchange exchange)) few taken is = (exchange-id r p m f exchange few, room r p m f exchange taken is)
fresh_request r p m f large (Some _) few taken is = tt

fresh_effect : (r : RspSetup) (p : Place) (m : List ℕ) (f : Free) (large : Option ℕ) → f.id ≤ 4 → refusal r p m f ≡ None → IsFresh p.past_handshake f.id (effect_of (request_at p m) m (answer_bytes r p m f) large)
unfolding answer_bytes
fresh_effect r p m f large few taken = fresh_request r p m f large (request_at p m) few taken refl

carried-fresh : (r : RspSetup) (p : Place) (m : List ℕ) (f : Free) (c : ChunkMessage) (whole : List ℕ) (x : Option ErrorCode) → f.id ≤ 4 → refusal r p whole f ≡ x → IsFresh p.past_handshake f.id (carried_turn r p m f c whole x).effect
carried-fresh r p m f c whole (Some e) few h = tt
carried-fresh r p m f c whole None few h = fresh_effect r p whole f _ few h

either-fresh : (held id : ℕ) (b : Bool) (t u : Turn) → IsFresh held id t.effect → IsFresh held id u.effect → IsFresh held id (if b then t else u).effect
either-fresh held id true t u x y = x
either-fresh held id false t u x y = y

turn_by-fresh : (r : RspSetup) (p : Place) (m : List ℕ) (f : Free) (x : Option ErrorCode) (c : Option ChunkMessage) → f.id ≤ 4 → refusal r p m f ≡ x → IsFresh p.past_handshake f.id (turn_by r p m f x c).effect
turn_by-fresh r p m f (Some e) c few h = tt
turn_by-fresh r p m f None None few h = fresh_effect r p m f _ few h
turn_by-fresh r p m f None (Some c) few h =
    either-fresh p.past_handshake f.id c.last (last_chunk_turn r (inside p) m f c (completed_at p c)) (taken_chunk m c NoEffect []) (carried-fresh r (inside p) m f c (completed_at p c) (refusal r (inside p) (completed_at p c) f) few refl) tt

pub turn_of-fresh : (r : RspSetup) (p : Place) (m : List ℕ) (f : Free) → f.id ≤ 4 → IsFresh p.past_handshake f.id (turn_of r p m f).effect
unfolding turn_of
turn_of-fresh r p m f few = turn_by-fresh r p m f (refusal r p m f) (chunk_in (request_at p m)) few refl

pub exchange-fresh : (held id : ℕ) (e : Effect) → (code_in e == PSK_EXCHANGE) ≡ true → IsFresh held id e → (id_in_exchange (answer_in e) ≡ id) × ((held == 4) ≡ false)
exchange-fresh held id NoEffect is h = absurd (false≢true is)
exchange-fresh held id (TookData bytes answer) is h = absurd (false≢true is)
exchange-fresh held id (Took (PskExchange exchange) request answer large) is h = h
exchange-fresh held id (Took _ request answer large) is h = absurd (false≢true is)

other_code : (c : ℕ) → (c == PSK_EXCHANGE) ≡ true → (c == GET_VERSION) ≡ false
other_code c h = grind (arith, nat_tests)

begins : (id : ℕ) (s : Events) (t : Turn) (n : Negotiation) → takes PSK_EXCHANGE t ≡ true → gives_id id (answer_in t.effect) ≡ true → after_clear id s t n ≡ Began n (request_in t.effect) (answer_in t.effect) ∷ []
begins id s t n is same = rw (other_code (code_in t.effect) is, is, same) refl

pub taken_exchange : TakenExchangeIsFresh
taken_exchange r h tag m f d t allowed turn is =
    let fresh : IsFresh (held_of h) f.id t.effect = subst (λ (u : Turn). IsFresh (held_of h) f.id u.effect) turn (turn_of-fresh r (clear_place h) m f allowed.most) in
    let found = exchange-fresh (held_of h) f.id t.effect is fresh in
    (allowed.unused (eqb-false (held_of h) 4 found.1), found.0, session_of-Clear f.id tag t d h ∙ begins f.id (session_of f.id h) t (negotiation_of (clear_turns h)) is (gives_some f.id (answer_in t.effect) found.0 allowed.least))

pub new_session : NewSessionIsFresh
new_session r h tag m f d exchange allowed is taken =
    let turn = turn_of-plain r (clear_place h) m f (PskExchange exchange) taken is refl ∙ plain_turn-asked r (clear_place h) m f (PskExchange exchange) is in
    let fresh = taken_exchange r h tag m f d _ allowed turn refl in
    (allowed.least, allowed.most, fresh.0, ap (λ (t : Turn). session_of f.id (Clear tag t d ∷ h)) turn ∙ fresh.2)
