-- A session whose pending answer gets other bytes: what of it stays.
use Rattle.std.proofs.Common.{refl, ◌≡◌, ◌∙◌, ◌++◌, ◌+◌, ap, sym, subst, ℕ, List, [], ◌∷◌, Bool, true, false, eqb-true}
use Rattle.std.proofs.lemmas.Bool.{false≢true}
use Rattle.std.specs.Prelude.{◌||◌, ◌==◌, ◌%◌, ◌^◌, not, if◌then◌else◌, Option, Some, None}
use Rattle.key_schedule.specs.Purpose.{Purpose}
use Rattle.key_schedule.specs.declared.direction.Direction.TheVariants.{Request, Response}
use Rattle.responder_rules.specs.LargeAnswer as large_answers
use Rattle.responder_rules.specs.LargeAnswer.{effect_unseen, effect_with, last_takes, turn_unseen, turn_with, turns_unseen, turns_with}
use Rattle.responder_machine.specs.Records.{request_purpose, response_purpose}
use Rattle.responder_machine.specs.Session.{Events, exchange_answer, exchange_of, finish_answer, finish_of, idle_of, is_live, last_of, request_epoch, request_next, response_epoch, response_next, session_negotiation, session_terms, session_vca, stage_of, t1_of, t2_of, taken_of, turns_of}
use Rattle.responder_machine.specs.Session.Event.{Began, Heard, Waited}
use Rattle.responder_machine.specs.Turn.{Effect, Turn, answer_in, is_data, is_taken, request_in, takes, updates}
use Rattle.responder_machine.specs.Turn.Effect.{NoEffect, Took, TookData}
use Rattle.running_hash.specs.Hash.{hash_of}
use Rattle.session_keys.specs.Handshake.{IsHandshakeOf}
use Rattle.session_keys.specs.Keys.{IsKeyOf}
use Rattle.session_keys.specs.Terms.{AreTermsOf}
use Rattle.spdm_grammar.specs.Codes.{code_for}
use Rattle.spdm_grammar.specs.Message.{RequestMessage}
use Rattle.spdm_grammar.specs.declared.messages.choice.Choice.{Choice}
use Rattle.spdm_grammar.specs.declared.names.request_code.TheConstants.{CHUNK_GET, GET_MEASUREMENTS, KEY_UPDATE, PSK_FINISH}
use Rattle.spdm_grammar.specs.declared.told.phase.Stage.{Stage}
use Rattle.spdm_grammar.specs.declared.told.phase.Stage.TheVariants.{Handshake, Open, Verifying}
use Rattle.spdm_machine.specs.Sessions.{id_in_exchange, purpose_in, transcript_in}
use Rattle.spdm_machine.specs.Terms.{terms_of}
use Rattle.transcript.specs.Lane as lanes
use Rattle.transcript.specs.Transcripts as transcript
use Rattle.transcript.specs.Transcripts.{Negotiation, vca_of}
use Rattle.responder_session.specs.Data.{data_in, data_of}
use Rattle.responder_session.specs.Kept.{Keeps}
use Rattle.responder_session.specs.Pending.{IsAlike, events_unseen, events_with}
use Rattle.responder_session.specs.Session.{IsFresh, StandsFor}
use Rattle.responder_session.specs.declared.exchange.Exchange.{Exchange}
use Rattle.responder_session.specs.declared.kept.Kept.{Kept}
use Rattle.responder_session.specs.declared.session.RspSession.{RspSession}

-- ---- All that is read off the events of a session, but the bytes of a large answer.

-- One more event, which is the same.
pub heard_alike : (m : List ℕ) (t : Turn) (reply : List ℕ) (s e : Events) → IsAlike s e → IsAlike (Heard m t reply ∷ s) (Heard m t reply ∷ e)
heard_alike m t reply s e a = record {
  live = refl;
  negotiation = a.negotiation;
  exchange = a.exchange;
  answer = a.answer;
  stage = ap (λ (x : Stage). if takes PSK_FINISH t then Open else (if updates 3 t then Open else (if takes KEY_UPDATE t then Verifying else x))) a.stage;
  finish = ap (λ (x : List ℕ). if takes PSK_FINISH t then request_in t.effect else x) a.finish;
  finished = ap (λ (x : List ℕ). if takes PSK_FINISH t then answer_in t.effect else x) a.finished;
  request_epoch = ap (λ (n : ℕ). if updates 1 t || updates 2 t then n + 1 else n) a.request_epoch;
  response_epoch = ap (λ (n : ℕ). if updates 2 t then n + 1 else n) a.response_epoch;
  request_next = ap (λ (n : ℕ). if takes PSK_FINISH t || updates 1 t || updates 2 t then 0 else n + 1) a.request_next;
  response_next = ap (λ (n : ℕ). if takes PSK_FINISH t then 0 else (if updates 2 t then 1 else n + 1)) a.response_next;
  taken = ap (λ (n : ℕ). if is_data t.effect then n + 1 else n) a.taken;
  last = refl;
  held = ap (data_in t.effect) a.held;
  idle = refl;
}

pub began_alike : (n : Negotiation) (exchange answer : List ℕ) (s e : Events) → IsAlike s e → IsAlike (Began n exchange answer ∷ s) (Began n exchange answer ∷ e)
began_alike n exchange answer s e a = record {
  live = refl;
  negotiation = refl;
  exchange = refl;
  answer = refl;
  stage = a.stage;
  finish = a.finish;
  finished = a.finished;
  request_epoch = a.request_epoch;
  response_epoch = a.response_epoch;
  request_next = a.request_next;
  response_next = a.response_next;
  taken = a.taken;
  last = a.last;
  held = a.held;
  idle = refl;
}

pub waited_alike : (seconds : ℕ) (s e : Events) → IsAlike s e → IsAlike (Waited seconds ∷ s) (Waited seconds ∷ e)
waited_alike seconds s e a = record {
  live = refl;
  negotiation = a.negotiation;
  exchange = a.exchange;
  answer = a.answer;
  stage = a.stage;
  finish = a.finish;
  finished = a.finished;
  request_epoch = a.request_epoch;
  response_epoch = a.response_epoch;
  request_next = a.request_next;
  response_next = a.response_next;
  taken = a.taken;
  last = a.last;
  held = a.held;
  idle = ap (λ (n : ℕ). n + seconds) a.idle;
}

-- ---- The answer that gets other bytes.

-- Where it does not answer PSK_FINISH.
finished_by : (b : Bool) (old new rest : List ℕ) → b ≡ false → (if b then old else rest) ≡ (if b then new else rest)
finished_by true old new rest is = absurd (false≢true (sym is))
finished_by false old new rest is = refl

-- A record that is another one only in the bytes of its answer, and in how that goes.
pub took_alike : (m : List ℕ) (t : Turn) (reply : List ℕ) (s : Events) (asked : RequestMessage) (request old answer : List ℕ) (large other : Option ℕ) → (code_for asked == PSK_FINISH) ≡ false
    → IsAlike (Heard m (record t { effect = Took asked request old large }) reply ∷ s) (Heard m (record t { effect = Took asked request answer other }) reply ∷ s)
took_alike m t reply s asked request old answer large other no_finish = record {
  live = refl;
  negotiation = refl;
  exchange = refl;
  answer = refl;
  stage = refl;
  finish = refl;
  finished = finished_by (code_for asked == PSK_FINISH) old answer (finish_answer s) no_finish;
  request_epoch = refl;
  response_epoch = refl;
  request_next = refl;
  response_next = refl;
  taken = refl;
  last = refl;
  held = refl;
  idle = refl;
}

pub same_alike : (s : Events) → IsAlike s s
same_alike s =
    record { live = refl; negotiation = refl; exchange = refl; answer = refl; stage = refl; finish = refl; finished = refl; request_epoch = refl; response_epoch = refl; request_next = refl; response_next = refl; taken = refl; last = refl; held = refl; idle = refl }

replaced_by : (answer m : List ℕ) (t : Turn) (reply : List ℕ) (s : Events) (e : Effect) → takes PSK_FINISH (record t { effect = e }) ≡ false
    → IsAlike (Heard m (record t { effect = e }) reply ∷ s) (Heard m (record t { effect = effect_with answer e }) reply ∷ s)
replaced_by answer m t reply s NoEffect other = same_alike _
replaced_by answer m t reply s (Took asked request old large) other = took_alike m t reply s asked request old answer large large other
replaced_by answer m t reply s (TookData bytes old) other = same_alike _

pub is_other : (n : ℕ) → (n == GET_MEASUREMENTS) ≡ true → (n == PSK_FINISH) ≡ false
is_other n is = ap (λ (x : ℕ). x == PSK_FINISH) (eqb-true n GET_MEASUREMENTS is)

by_heard : (answer m : List ℕ) (t : Turn) (reply : List ℕ) (s : Events) (b : Bool) → (if b then last_takes GET_MEASUREMENTS (turns_of s) else takes GET_MEASUREMENTS t) ≡ true
    → (last_takes GET_MEASUREMENTS (turns_of s) ≡ true → IsAlike s (events_with answer s))
    → IsAlike (Heard m t reply ∷ s) (if b then Heard m t reply ∷ events_with answer s else Heard m (turn_with answer t) reply ∷ s)
by_heard answer m t reply s true measures older = heard_alike m t reply s (events_with answer s) (older measures)
by_heard answer m t reply s false measures older = replaced_by answer m t reply s t.effect (is_other _ measures)

pub events_alike : (answer : List ℕ) (s : Events) → last_takes GET_MEASUREMENTS (turns_of s) ≡ true → IsAlike s (events_with answer s)
events_alike answer [] measures = absurd (false≢true measures)
events_alike answer (Began n exchange response ∷ older) measures = began_alike n exchange response older (events_with answer older) (events_alike answer older measures)
events_alike answer (Heard m t reply ∷ older) measures = by_heard answer m t reply older (not (is_taken t) || takes CHUNK_GET t) measures (events_alike answer older)
events_alike answer (Waited seconds ∷ older) measures = waited_alike seconds older (events_with answer older) (events_alike answer older measures)

-- ---- The answer that was never seen.

unseen_by : (m : List ℕ) (t : Turn) (reply : List ℕ) (s : Events) (e : Effect) → takes PSK_FINISH (record t { effect = e }) ≡ false
    → IsAlike (Heard m (record t { effect = e }) reply ∷ s) (Heard m (record t { effect = effect_unseen e }) reply ∷ s)
unseen_by m t reply s NoEffect other = same_alike _
unseen_by m t reply s (Took asked request answer large) other = took_alike m t reply s asked request answer [] large None other
unseen_by m t reply s (TookData bytes answer) other = same_alike _

pub unseen_alike : (m : List ℕ) (t : Turn) (reply : List ℕ) (s : Events) → takes GET_MEASUREMENTS t ≡ true → IsAlike (Heard m t reply ∷ s) (Heard m (turn_unseen t) reply ∷ s)
unseen_alike m t reply s measures = unseen_by m t reply s t.effect (is_other _ measures)

pub gets_none : (t : Turn) → takes GET_MEASUREMENTS t ≡ true → takes CHUNK_GET t ≡ false
gets_none t measures = ap (λ (x : ℕ). x == CHUNK_GET) (eqb-true _ GET_MEASUREMENTS measures)

by_forgot : (m : List ℕ) (t : Turn) (reply : List ℕ) (s : Events) (b : Bool) → (if b then last_takes GET_MEASUREMENTS (turns_of s) else takes GET_MEASUREMENTS t) ≡ true
    → (last_takes GET_MEASUREMENTS (turns_of s) ≡ true → IsAlike s (events_unseen s))
    → IsAlike (Heard m t reply ∷ s) (if b then Heard m t reply ∷ events_unseen s else Heard m (turn_unseen t) reply ∷ s)
by_forgot m t reply s true measures older = heard_alike m t reply s (events_unseen s) (older measures)
by_forgot m t reply s false measures older = unseen_alike m t reply s measures

pub forgotten_alike : (s : Events) → last_takes GET_MEASUREMENTS (turns_of s) ≡ true → IsAlike s (events_unseen s)
forgotten_alike [] measures = absurd (false≢true measures)
forgotten_alike (Began n exchange response ∷ older) measures = began_alike n exchange response older (events_unseen older) (forgotten_alike older measures)
forgotten_alike (Heard m t reply ∷ older) measures = by_forgot m t reply older (not (is_taken t) || takes CHUNK_GET t) measures (forgotten_alike older)
forgotten_alike (Waited seconds ∷ older) measures = waited_alike seconds older (events_unseen older) (forgotten_alike older measures)

-- ---- The turns.

-- They are those with the bytes.
turns_by : (answer m : List ℕ) (t : Turn) (reply : List ℕ) (s : Events) (b : Bool) → turns_of (events_with answer s) ≡ turns_with answer (turns_of s)
    → turns_of (if b then Heard m t reply ∷ events_with answer s else Heard m (turn_with answer t) reply ∷ s) ≡ (if b then t ∷ turns_with answer (turns_of s) else turn_with answer t ∷ turns_of s)
turns_by answer m t reply s true same = ap (λ (ts : List Turn). t ∷ ts) same
turns_by answer m t reply s false same = refl

pub turns_replaced : (answer : List ℕ) (s : Events) → turns_of (events_with answer s) ≡ turns_with answer (turns_of s)
turns_replaced answer [] = refl
turns_replaced answer (Began n exchange response ∷ older) = turns_replaced answer older
turns_replaced answer (Heard m t reply ∷ older) = turns_by answer m t reply older (not (is_taken t) || takes CHUNK_GET t) (turns_replaced answer older)
turns_replaced answer (Waited seconds ∷ older) = turns_replaced answer older

forgot_by : (m : List ℕ) (t : Turn) (reply : List ℕ) (s : Events) (b : Bool) → turns_of (events_unseen s) ≡ turns_unseen (turns_of s)
    → turns_of (if b then Heard m t reply ∷ events_unseen s else Heard m (turn_unseen t) reply ∷ s) ≡ (if b then t ∷ turns_unseen (turns_of s) else turn_unseen t ∷ turns_of s)
forgot_by m t reply s true same = ap (λ (ts : List Turn). t ∷ ts) same
forgot_by m t reply s false same = refl

pub turns_forgotten : (s : Events) → turns_of (events_unseen s) ≡ turns_unseen (turns_of s)
turns_forgotten [] = refl
turns_forgotten (Began n exchange response ∷ older) = turns_forgotten older
turns_forgotten (Heard m t reply ∷ older) = forgot_by m t reply older (not (is_taken t) || takes CHUNK_GET t) (turns_forgotten older)
turns_forgotten (Waited seconds ∷ older) = turns_forgotten older

-- ---- What is kept.

module _ (s e : Events) (a : IsAlike s e) where
  terms_same : terms_of (session_negotiation s) ≡ terms_of (session_negotiation e)
  terms_same = ap terms_of a.negotiation

  t1_same : t1_of s ≡ t1_of e
  t1_same = λ i. transcript.t1_of (hash_of (terms_of (a.negotiation i)).choice.hash) (vca_of (a.negotiation i)) (a.exchange i) (a.answer i)

  t2_same : t2_of s ≡ t2_of e
  t2_same = λ i. transcript.t2_of (vca_of (a.negotiation i)) (a.exchange i) (a.answer i) (a.finish i) (a.finished i)

  pub keeps_alike : (kept : Kept) (psk : List ℕ) → Keeps kept psk s → Keeps kept psk e
  keeps_alike kept psk k = record {
    live = sym a.live ∙ k.live;
    terms = subst (AreTermsOf kept.terms (session_negotiation e)) a.exchange (subst (λ (n : Negotiation). AreTermsOf kept.terms n (exchange_of s)) a.negotiation k.terms);
    id = k.id ∙ (λ i. record { req = id_in_exchange (a.exchange i); rsp = id_in_exchange (a.answer i) });
    request = subst (λ (p : Purpose). IsKeyOf kept.request (session_terms e).choice p) (λ i. purpose_in (a.stage i) psk (t1_same i) (t2_same i) Request (a.request_epoch i))
        (subst (λ (c : Choice). IsKeyOf kept.request c (request_purpose psk s)) (λ i. (terms_same i).choice) k.request);
    response = subst (λ (p : Purpose). IsKeyOf kept.response (session_terms e).choice p) (λ i. purpose_in (a.stage i) psk (t1_same i) (t2_same i) Response (a.response_epoch i))
        (subst (λ (c : Choice). IsKeyOf kept.response c (response_purpose psk s)) (λ i. (terms_same i).choice) k.response);
    request_epoch = k.request_epoch ∙ a.request_epoch;
    response_epoch = k.response_epoch ∙ a.response_epoch;
    request_next = k.request_next ∙ a.request_next;
    response_next = k.response_next ∙ a.response_next;
    taken = k.taken ∙ ap (λ (n : ℕ). n % 2 ^ 64) a.taken;
    hash = k.hash ∙ (λ i. (hash_of (terms_same i).choice.hash).digest (transcript_in (a.stage i) (t1_same i) (t2_same i)));
    last = k.last ∙ a.last;
  }

  fresh_alike : (stage_of s ≡ Handshake → IsFresh s) → stage_of e ≡ Handshake → IsFresh e
  fresh_alike fresh at = (let f = fresh (a.stage ∙ at) in record { request_epoch = sym a.request_epoch ∙ f.request_epoch; response_epoch = sym a.response_epoch ∙ f.response_epoch; taken = sym a.taken ∙ f.taken })

  pub stands_alike : (old new : RspSession) (psk : List ℕ) → StandsFor old psk s → new.stage ≡ old.stage → new.kept ≡ old.kept → new.exchange ≡ old.exchange → new.bytes ≡ old.bytes
      → large_answers.StandsFor new.large (session_terms s).common.to_requester.transfer (turns_of e) → StandsFor new psk e
  stands_alike old new psk x stage kept exchange bytes large = record {
    stage = stage ∙ x.stage ∙ ap (λ (y : Stage). Some y) a.stage;
    keeps = subst (λ (k : Kept). Keeps k psk e) (sym kept) (keeps_alike old.kept psk x.keeps);
    handshake = subst (λ (y : Exchange). IsHandshakeOf y.handshake (session_terms e).choice psk (t1_of e)) (sym exchange)
        (subst (λ (t : List ℕ). IsHandshakeOf old.exchange.handshake (session_terms e).choice psk t) t1_same
        (subst (λ (c : Choice). IsHandshakeOf old.exchange.handshake c psk (t1_of s)) (λ i. (terms_same i).choice) x.handshake));
    pushed = subst (λ (y : Exchange). lanes.StandsFor y.lane (session_vca e ++ exchange_of e ++ exchange_answer e)) (sym exchange)
        (subst (lanes.StandsFor old.exchange.lane) (λ i. vca_of (a.negotiation i) ++ a.exchange i ++ a.answer i) x.pushed);
    large = subst (λ (n : ℕ). large_answers.StandsFor new.large n (turns_of e)) (λ i. (terms_same i).common.to_requester.transfer) large;
    bytes = bytes ∙ x.bytes ∙ a.held;
    fresh = fresh_alike x.fresh;
  }
