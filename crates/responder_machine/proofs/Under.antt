-- Live sessions of a made history stand in phase Negotiated, under the connection's negotiation.
use Rattle.std.proofs.Common.{refl, ◌∙◌, ◌≡◌, ℕ, List, [], ◌∷◌, true, false, Bool, Option, ap, sym}
use Rattle.std.proofs.lemmas.Bool.{false≢true}
use Rattle.std.specs.Prelude.{if◌then◌else◌, ◌==◌, ◌*◌, ◌+◌, not, nat_le}
use Rattle.spdm_grammar.specs.Message.{ChunkMessage}
use Rattle.spdm_grammar.specs.Message.RequestMessage.{GetVersion, GetCapabilities, NegotiateAlgorithms, PskExchange}
use Rattle.spdm_grammar.specs.declared.messages.error_code.ErrorCode.{ErrorCode}
use Rattle.spdm_grammar.specs.declared.told.phase.Phase.{Phase}
use Rattle.spdm_grammar.specs.declared.told.phase.Phase.TheVariants.{Fresh, Versioned, Capable, Negotiated}
use Rattle.responder_machine.proofs.Phased.{IsPhased, made_phased}
use Rattle.responder_machine.specs.History.{phase_of, clear_turns, negotiation_of}
use Rattle.responder_machine.specs.History.Entry.{Clear, Sealed, Queued, Ticked, Dropped}
use Rattle.responder_machine.specs.Laws.{LiveIsUnderNegotiation}
use Rattle.responder_machine.specs.Session.{Events, session_of, session_negotiation, is_live, stage_of, is_timed, period_of, idle_of, after_clear, after_record, after_tick, id_in_record, gives_id}
use Rattle.spdm_machine.specs.Sessions.{is_past_handshake}
use Rattle.responder_machine.specs.Session.Event.{Began, Heard, Waited}
use Rattle.responder_machine.specs.Turn.{Turn, Effect, takes}
use Rattle.responder_machine.specs.Turn.Effect.{NoEffect, Took, TookData}
use Rattle.spdm_grammar.specs.declared.names.request_code.TheConstants.{END_SESSION}

-- A session is not live, or the phase is Negotiated and its negotiation is this one.
abbrev IsUnder : List Turn → Events → Type 0
IsUnder ts s = is_live s ≡ true → (phase_of ts ≡ Negotiated) × (session_negotiation s ≡ negotiation_of ts)

either-under : (ts : List Turn) (b : Bool) (s n : Events) → IsUnder ts s → IsUnder ts n → IsUnder ts (if b then s else n)
either-under ts true s n x y = x
either-under ts false s n x y = y

none-under : (ts : List Turn) → IsUnder ts []
none-under ts live = absurd (false≢true live)

is_negotiated : Phase → Bool
is_negotiated Fresh = false
is_negotiated Versioned = false
is_negotiated Capable = false
is_negotiated Negotiated = true

not_versioned : (phase : Phase) → phase ≡ Versioned → phase ≡ Negotiated → ⊥
unfolding is_negotiated
not_versioned phase x y = false≢true (sym (ap is_negotiated x) ∙ ap is_negotiated y)

not_capable : (phase : Phase) → phase ≡ Capable → phase ≡ Negotiated → ⊥
unfolding is_negotiated
not_capable phase x y = false≢true (sym (ap is_negotiated x) ∙ ap is_negotiated y)

clear_under : (id : ℕ) (s : Events) (ts : List Turn) (message : List ℕ) (refused : Option ErrorCode) (chunk : Option ChunkMessage) (e : Effect) (reply : List ℕ) → IsPhased (phase_of ts) e → IsUnder ts s
    → IsUnder (record { message = message; refused = refused; chunk = chunk; effect = e; reply = reply } ∷ ts) (after_clear id s (record { message = message; refused = refused; chunk = chunk; effect = e; reply = reply }) (negotiation_of ts))
clear_under id s ts message refused chunk NoEffect reply phased under live = under live
clear_under id s ts message refused chunk (TookData bytes answer) reply phased under live = under live
clear_under id s ts message refused chunk (Took GetVersion request answer large) reply phased under live = absurd (false≢true live)
clear_under id s ts message refused chunk (Took (GetCapabilities caps) request answer large) reply phased under live = absurd (not_versioned (phase_of ts) phased (under live).0)
clear_under id s ts message refused chunk (Took (NegotiateAlgorithms offer) request answer large) reply phased under live = absurd (not_capable (phase_of ts) phased (under live).0)
clear_under id s ts message refused chunk (Took (PskExchange exchange) request answer large) reply phased under live =
    either-under ts (gives_id id answer) (Began (negotiation_of ts) request answer ∷ []) _ (λ x. (phased, refl)) (either-under ts (is_past_handshake (stage_of s)) s [] under (none-under ts)) live
clear_under id s ts message refused chunk (Took _ request answer large) reply phased under live = under live

record_under : (ts : List Turn) (s : Events) (m : List ℕ) (t : Turn) (reply : List ℕ) → IsUnder ts s → IsUnder ts (after_record s m t reply)
record_under ts [] m t reply under = either-under ts (takes END_SESSION t) [] [] (none-under ts) (none-under ts)
record_under ts (v ∷ s) m t reply under = either-under ts (takes END_SESSION t) [] (Heard m t reply ∷ v ∷ s) (none-under ts) (λ live. under refl)

tick_under : (ts : List Turn) (s : Events) (seconds : ℕ) → IsUnder ts s → IsUnder ts (after_tick s seconds)
tick_under ts [] seconds under = none-under ts
tick_under ts (v ∷ s) seconds under =
    either-under ts (not (is_timed (v ∷ s))) (v ∷ s) _ under (either-under ts (nat_le (2 * period_of (v ∷ s)) (idle_of (v ∷ s) + seconds)) [] (Waited seconds ∷ v ∷ s) (none-under ts) (λ live. under refl))

pub live_under : LiveIsUnderNegotiation
unfolding session_of
live_under r [] id made = none-under []
live_under r (Clear tag t d ∷ older) id made =
    clear_under id (session_of id older) (clear_turns older) t.message t.refused t.chunk t.effect t.reply (made_phased r older tag t d made) (live_under r older id made.1)
live_under r (Sealed tag m t reply d ∷ older) id made =
    either-under (clear_turns older) (id_in_record m == id) (after_record (session_of id older) m t reply) (session_of id older) (record_under (clear_turns older) (session_of id older) m t reply (live_under r older id made.1)) (live_under r older id made.1)
live_under r (Queued bytes ∷ older) id made = live_under r older id made.2
live_under r (Ticked seconds ∷ older) id made = tick_under (clear_turns older) (session_of id older) seconds (live_under r older id made)
live_under r (Dropped which ∷ older) id made = absurd made
