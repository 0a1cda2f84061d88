-- A session that both ends hold alike: its purposes are one, and an exchange that both took leaves it alike.
use Rattle.std.proofs.Common.{◌≡◌, ◌⊎◌, ◌∙◌, ℕ, ◌+◌, List, ◌∷◌, drop, Bool, true, false, Option, None, refl, sym, ap, ap₂, subst, inl, inr}
use Rattle.std.proofs.lemmas.Bool.{false≢true}
use Rattle.key_schedule.specs.declared.direction.Direction.{Direction}
use Rattle.key_schedule.specs.declared.direction.Direction.TheVariants.{Request, Response}
use Rattle.spdm_grammar.specs.Message.{ChunkMessage}
use Rattle.spdm_grammar.specs.Message.RequestMessage.{ChunkGet, EndSession, GetMeasurements, Heartbeat, KeyUpdate, PskFinish}
use Rattle.spdm_grammar.specs.declared.told.phase.Stage.{Stage}
use Rattle.running_hash.specs.Hash.{hash_of}
use Rattle.spdm_basis.specs.SessionIdBytes.{session_id_bytes}
use Rattle.spdm_machine.specs.Sessions.{id_in_exchange, purpose_in}
use Rattle.spdm_machine.specs.Terms.{terms_of}
use Rattle.transcript.specs.Transcripts as transcript
use Rattle.transcript.specs.Transcripts.{Negotiation, vca_of}
use Rattle.requester_machine.specs.History as asked
use Rattle.requester_machine.specs.History.Effect.{Grants, Nothing}
use Rattle.requester_machine.specs.Message.{Ask}
use Rattle.requester_machine.specs.Message.Ask.{AskBeat, AskChunk, AskData, AskEnd, AskFinish, AskMeasure, AskUpdate, AskVerify}
use Rattle.requester_machine.specs.Records as asking
use Rattle.requester_machine.specs.Sending.{operation_of}
use Rattle.requester_machine.specs.Session as steps
use Rattle.requester_machine.specs.Session.{Steps}
use Rattle.requester_machine.specs.Session.Step.{Asked, Took as TookAnswer}
use Rattle.responder_machine.specs.Records as serving
use Rattle.responder_machine.specs.Responder.{inner_reply}
use Rattle.responder_machine.specs.Session as events
use Rattle.responder_machine.specs.Session.{Events}
use Rattle.responder_machine.specs.Session.Event.{Heard, Waited}
use Rattle.responder_machine.specs.Turn.{Effect, Turn}
use Rattle.responder_machine.specs.Turn.Effect.{Took, TookData}
use Rattle.spdm_progress.specs.InStep.{AreInStep}
use Rattle.spdm_progress.proofs.StillKept.{IsSameSession}

-- ---- What is one.

module _ (s : Steps) (e : Events) (k : AreInStep s e) where
  pub same_terms : steps.session_terms s ≡ events.session_terms e
  same_terms = ap terms_of k.negotiation

  pub same_id : steps.id_bytes s ≡ events.id_bytes e
  same_id = ap₂ (λ (x y : List ℕ). session_id_bytes (id_in_exchange x) (id_in_exchange y)) k.exchange k.answer

  pub same_vca : steps.session_vca s ≡ events.session_vca e
  same_vca = ap vca_of k.negotiation

  pub same_t1 : steps.t1_of s ≡ events.t1_of e
  same_t1 =
      ap (λ (n : Negotiation). transcript.t1_of (hash_of (terms_of n).choice.hash) (vca_of n) (steps.exchange_of s) (steps.exchange_answer s)) k.negotiation
      ∙ ap₂ (λ (x y : List ℕ). transcript.t1_of (events.session_hash e) (events.session_vca e) x y) k.exchange k.answer

  pub same_t2 : steps.t2_of s ≡ events.t2_of e
  same_t2 =
      ap (λ (n : Negotiation). transcript.t2_of (vca_of n) (steps.exchange_of s) (steps.exchange_answer s) (steps.finish_of s) (steps.finish_answer s)) k.negotiation
      ∙ ap₂ (λ (x y : List ℕ). transcript.t2_of (events.session_vca e) x y (steps.finish_of s) (steps.finish_answer s)) k.exchange k.answer
      ∙ ap₂ (λ (x y : List ℕ). transcript.t2_of (events.session_vca e) (events.exchange_of e) (events.exchange_answer e) x y) k.finish k.finish_answer

  same_purpose : (psk : List ℕ) (direction : Direction) (n m : ℕ) → n ≡ m → purpose_in (steps.stage_of s) psk (steps.t1_of s) (steps.t2_of s) direction n ≡ purpose_in (events.stage_of e) psk (events.t1_of e) (events.t2_of e) direction m
  same_purpose psk direction n m same =
      ap₂ (λ (g : Stage) (x : ℕ). purpose_in g psk (steps.t1_of s) (steps.t2_of s) direction x) k.stage same
      ∙ ap₂ (λ (x y : List ℕ). purpose_in (events.stage_of e) psk x y direction m) same_t1 same_t2

  pub same_requests : (psk : List ℕ) → asking.request_purpose psk s ≡ serving.request_purpose psk e
  same_requests psk = same_purpose psk Request (steps.request_epoch s) (events.request_epoch e) k.request_epoch

  pub same_responses : (psk : List ℕ) → asking.response_purpose psk s ≡ serving.response_purpose psk e
  same_responses psk = same_purpose psk Response (steps.response_epoch s) (events.response_epoch e) k.response_epoch

-- ---- Time changes nothing of it.

waited_in_step : (s : Steps) (e : Events) (seconds : ℕ) → AreInStep s e → AreInStep s (Waited seconds ∷ e)
waited_in_step s e seconds k = record {
  accepted = k.accepted;
  live = refl;
  negotiation = k.negotiation;
  exchange = k.exchange;
  answer = k.answer;
  finish = k.finish;
  finish_answer = k.finish_answer;
  stage = k.stage;
  request_epoch = k.request_epoch;
  response_epoch = k.response_epoch;
  request_next = k.request_next;
  response_next = k.response_next;
}

pub still_in_step : (s : Steps) (old new : Events) → IsSameSession old new → AreInStep s old → AreInStep s new
still_in_step s old new (inl same) k = subst (AreInStep s) (sym same) k
still_in_step s old new (inr x) k = subst (AreInStep s) (sym x.2) (waited_in_step s old x.0 k)

-- ---- An exchange that both took.

-- A turn that took what was asked. All but the answer to GET_MEASUREMENTS go whole.
abbrev pub IsAnswerTo : Ask → List ℕ → Turn → Type 0
IsAnswerTo AskFinish inner t = (verify : List ℕ) × (t.effect ≡ Took (PskFinish verify) (drop 1 inner) t.reply None)
IsAnswerTo AskData inner t = t.effect ≡ TookData (drop 1 inner) t.reply
IsAnswerTo AskBeat inner t = t.effect ≡ Took Heartbeat (drop 1 inner) t.reply None
IsAnswerTo (AskUpdate all) inner t = (tag : ℕ) × (t.effect ≡ Took (KeyUpdate (operation_of all) tag) (drop 1 inner) t.reply None)
IsAnswerTo AskVerify inner t = (tag : ℕ) × (t.effect ≡ Took (KeyUpdate 3 tag) (drop 1 inner) t.reply None)
IsAnswerTo (AskMeasure op) inner t = (answer : List ℕ) × (large : Option ℕ) × (t.effect ≡ Took (GetMeasurements op) (drop 1 inner) answer large)
IsAnswerTo (AskChunk op handle number before) inner t = (answer : List ℕ) × (t.effect ≡ Took (ChunkGet handle number) (drop 1 inner) answer None)
IsAnswerTo AskEnd inner t = t.effect ≡ Took EndSession (drop 1 inner) t.reply None

-- Nothing that counts, or measurements.
abbrev pub IsFetched : asked.Effect → Type 0
IsFetched effect = (effect ≡ Nothing) ⊎ ((op : ℕ) × (whole : List ℕ) × (effect ≡ Grants (AskMeasure op) whole))

-- What the answer to an ask may bring about at the requester, by the reply: this reply; or, where it is one of the messages
-- of measurements, nothing before the last of them.
abbrev pub MayBring : Ask → List ℕ → asked.Effect → Type 0
MayBring AskFinish reply effect = effect ≡ Grants AskFinish reply
MayBring AskData reply effect = effect ≡ Grants AskData reply
MayBring AskBeat reply effect = effect ≡ Grants AskBeat reply
MayBring (AskUpdate all) reply effect = effect ≡ Grants (AskUpdate all) reply
MayBring AskVerify reply effect = effect ≡ Grants AskVerify reply
MayBring (AskMeasure op) reply effect = IsFetched effect
MayBring (AskChunk op handle number before) reply effect = IsFetched effect
MayBring AskEnd reply effect = effect ≡ Grants AskEnd reply

-- What is asked does not end the session.
abbrev pub is_kept : Ask → Bool
is_kept AskEnd = false
is_kept _ = true

module _ (inner sealed reply : List ℕ) (t : Turn) (s : Steps) (e : Events) (k : AreInStep s e) where
  -- Both ends after the exchange.
  abbrev pub AreBehind : Ask → Effect → Type 0
  AreBehind ask effect = AreInStep (TookAnswer reply (inner_reply t) (Grants ask t.reply) ∷ Asked ask inner sealed ∷ s) (Heard sealed (record t { effect = effect }) reply ∷ e)

  abbrev pub AreBehindBy : Ask → Effect → asked.Effect → Type 0
  AreBehindBy ask effect brought = AreInStep (TookAnswer reply (inner_reply t) brought ∷ Asked ask inner sealed ∷ s) (Heard sealed (record t { effect = effect }) reply ∷ e)

  abbrev next : ℕ → ℕ
  next n = n + 1

  beat_behind : AreBehind AskBeat (Took Heartbeat (drop 1 inner) t.reply None)
  beat_behind = record {
    accepted = k.accepted;
    live = refl;
    negotiation = k.negotiation;
    exchange = k.exchange;
    answer = k.answer;
    finish = k.finish;
    finish_answer = k.finish_answer;
    stage = k.stage;
    request_epoch = k.request_epoch;
    response_epoch = k.response_epoch;
    request_next = ap next k.request_next;
    response_next = ap next k.response_next;
  }

  data_behind : AreBehind AskData (TookData (drop 1 inner) t.reply)
  data_behind = record {
    accepted = k.accepted;
    live = refl;
    negotiation = k.negotiation;
    exchange = k.exchange;
    answer = k.answer;
    finish = k.finish;
    finish_answer = k.finish_answer;
    stage = k.stage;
    request_epoch = k.request_epoch;
    response_epoch = k.response_epoch;
    request_next = ap next k.request_next;
    response_next = ap next k.response_next;
  }

  measure_behind : (op : ℕ) (answer : List ℕ) (large : Option ℕ) (brought : asked.Effect) → IsFetched brought → AreBehindBy (AskMeasure op) (Took (GetMeasurements op) (drop 1 inner) answer large) brought
  measure_behind op answer large brought (inl is) = subst (AreBehindBy (AskMeasure op) (Took (GetMeasurements op) (drop 1 inner) answer large)) (sym is) (record {
    accepted = k.accepted;
    live = refl;
    negotiation = k.negotiation;
    exchange = k.exchange;
    answer = k.answer;
    finish = k.finish;
    finish_answer = k.finish_answer;
    stage = k.stage;
    request_epoch = k.request_epoch;
    response_epoch = k.response_epoch;
    request_next = ap next k.request_next;
    response_next = ap next k.response_next;
  })
  measure_behind op answer large brought (inr is) = subst (AreBehindBy (AskMeasure op) (Took (GetMeasurements op) (drop 1 inner) answer large)) (sym is.2) (record {
    accepted = k.accepted;
    live = refl;
    negotiation = k.negotiation;
    exchange = k.exchange;
    answer = k.answer;
    finish = k.finish;
    finish_answer = k.finish_answer;
    stage = k.stage;
    request_epoch = k.request_epoch;
    response_epoch = k.response_epoch;
    request_next = ap next k.request_next;
    response_next = ap next k.response_next;
  })

  chunk_behind : (op handle number : ℕ) (before : List ChunkMessage) (answer : List ℕ) (brought : asked.Effect) → IsFetched brought → AreBehindBy (AskChunk op handle number before) (Took (ChunkGet handle number) (drop 1 inner) answer None) brought
  chunk_behind op handle number before answer brought (inl is) = subst (AreBehindBy (AskChunk op handle number before) (Took (ChunkGet handle number) (drop 1 inner) answer None)) (sym is) (record {
    accepted = k.accepted;
    live = refl;
    negotiation = k.negotiation;
    exchange = k.exchange;
    answer = k.answer;
    finish = k.finish;
    finish_answer = k.finish_answer;
    stage = k.stage;
    request_epoch = k.request_epoch;
    response_epoch = k.response_epoch;
    request_next = ap next k.request_next;
    response_next = ap next k.response_next;
  })
  chunk_behind op handle number before answer brought (inr is) = subst (AreBehindBy (AskChunk op handle number before) (Took (ChunkGet handle number) (drop 1 inner) answer None)) (sym is.2) (record {
    accepted = k.accepted;
    live = refl;
    negotiation = k.negotiation;
    exchange = k.exchange;
    answer = k.answer;
    finish = k.finish;
    finish_answer = k.finish_answer;
    stage = k.stage;
    request_epoch = k.request_epoch;
    response_epoch = k.response_epoch;
    request_next = ap next k.request_next;
    response_next = ap next k.response_next;
  })

  finish_behind : (verify : List ℕ) → AreBehind AskFinish (Took (PskFinish verify) (drop 1 inner) t.reply None)
  finish_behind verify = record {
    accepted = k.accepted;
    live = refl;
    negotiation = k.negotiation;
    exchange = k.exchange;
    answer = k.answer;
    finish = refl;
    finish_answer = refl;
    stage = refl;
    request_epoch = k.request_epoch;
    response_epoch = k.response_epoch;
    request_next = refl;
    response_next = refl;
  }

  verify_behind : (tag : ℕ) → AreBehind AskVerify (Took (KeyUpdate 3 tag) (drop 1 inner) t.reply None)
  verify_behind tag = record {
    accepted = k.accepted;
    live = refl;
    negotiation = k.negotiation;
    exchange = k.exchange;
    answer = k.answer;
    finish = k.finish;
    finish_answer = k.finish_answer;
    stage = refl;
    request_epoch = k.request_epoch;
    response_epoch = k.response_epoch;
    request_next = ap next k.request_next;
    response_next = ap next k.response_next;
  }

  update_behind : (all : Bool) (tag : ℕ) → AreBehind (AskUpdate all) (Took (KeyUpdate (operation_of all) tag) (drop 1 inner) t.reply None)
  update_behind true tag = record {
    accepted = k.accepted;
    live = refl;
    negotiation = k.negotiation;
    exchange = k.exchange;
    answer = k.answer;
    finish = k.finish;
    finish_answer = k.finish_answer;
    stage = refl;
    request_epoch = ap next k.request_epoch;
    response_epoch = ap next k.response_epoch;
    request_next = refl;
    response_next = refl;
  }
  update_behind false tag = record {
    accepted = k.accepted;
    live = refl;
    negotiation = k.negotiation;
    exchange = k.exchange;
    answer = k.answer;
    finish = k.finish;
    finish_answer = k.finish_answer;
    stage = refl;
    request_epoch = ap next k.request_epoch;
    response_epoch = k.response_epoch;
    request_next = refl;
    response_next = ap next k.response_next;
  }

  pub behind : (ask : Ask) (brought : asked.Effect) → MayBring ask t.reply brought → is_kept ask ≡ true → IsAnswerTo ask inner t → AreBehindBy ask t.effect brought
  behind AskFinish brought may kept is = subst (AreBehindBy AskFinish t.effect) (sym may) (subst (AreBehind AskFinish) (sym is.1) (finish_behind is.0))
  behind AskData brought may kept is = subst (AreBehindBy AskData t.effect) (sym may) (subst (AreBehind AskData) (sym is) data_behind)
  behind AskBeat brought may kept is = subst (AreBehindBy AskBeat t.effect) (sym may) (subst (AreBehind AskBeat) (sym is) beat_behind)
  behind (AskUpdate all) brought may kept is = subst (AreBehindBy (AskUpdate all) t.effect) (sym may) (subst (AreBehind (AskUpdate all)) (sym is.1) (update_behind all is.0))
  behind AskVerify brought may kept is = subst (AreBehindBy AskVerify t.effect) (sym may) (subst (AreBehind AskVerify) (sym is.1) (verify_behind is.0))
  behind (AskMeasure op) brought may kept is = subst (λ (f : Effect). AreBehindBy (AskMeasure op) f brought) (sym is.2) (measure_behind op is.0 is.1 brought may)
  behind (AskChunk op handle number before) brought may kept is = subst (λ (f : Effect). AreBehindBy (AskChunk op handle number before) f brought) (sym is.1) (chunk_behind op handle number before is.0 brought may)
  behind AskEnd brought may kept is = absurd (false≢true kept)
