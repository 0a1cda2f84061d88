-- A session in which MEASUREMENTS that were never seen are pending again, for the checker answers whose bytes come
-- chunk by chunk, where the first chunk is asked for late. This project's own.
use Rattle.std.specs.Prelude.{◌≡◌, ℕ, List, [], ◌∷◌, true, Some, None}
use Rattle.responder_machine.specs.Session.{Events}
use Rattle.responder_machine.specs.Turn.{Effect, Turn, handle_in, is_taken, takes}
use Rattle.responder_machine.specs.Turn.Effect.{NoEffect, Took, TookData}
use Rattle.responder_session.specs.Pending.{events_changed}
use Rattle.spdm_grammar.specs.declared.names.request_code.TheConstants.{GET_MEASUREMENTS}

-- What took effect, with these bytes as the answer to a request, which goes by LargeResponse with this handle; all else
-- stays as it is.
abbrev pub effect_pending : List ℕ → (handle : ℕ) → Effect → Effect
effect_pending answer handle NoEffect = NoEffect
effect_pending answer handle (Took asked request old large) = Took asked request answer (Some handle)
effect_pending answer handle (TookData bytes old) = TookData bytes old

-- A turn with such an answer to its request.
abbrev pub turn_pending : List ℕ → (handle : ℕ) → Turn → Turn
turn_pending answer handle t = record t { effect = effect_pending answer handle t.effect }

-- The session in which the last record that was taken and is no CHUNK_GET has such an answer.
abbrev pub events_pending : List ℕ → (handle : ℕ) → Events → Events
events_pending answer handle = events_changed (turn_pending answer handle)

-- GET_MEASUREMENTS was taken, and its answer was never seen: it took no handle.
pub record IsUnseen (t : Turn) : Type 0 where
  pub taken : is_taken t ≡ true
  pub measures : takes GET_MEASUREMENTS t ≡ true
  pub unseen : handle_in t.effect ≡ None

-- The newest turn is such a one.
abbrev pub IsNewestUnseen : List Turn → Type 0
IsNewestUnseen [] = ⊥
IsNewestUnseen (t ∷ older) = IsUnseen t
