-- The hash that a responder chose leaves PSK_FINISH room in its transfer size.
use Rattle.std.proofs.Common.{◌≡◌, ◌⊎◌, ◌∙◌, ℕ, ◌≤◌, ◌+◌, ◌&&◌, List, [], ◌∷◌, Bool, true, false, Option, Some, None, is_none, refl, sym, ap, subst, inl, inr, arith}
use Rattle.std.specs.Prelude.{if◌then◌else◌}
use Rattle.std.proofs.lemmas.Bool.{false≢true, leb-true}
use Rattle.negotiate.specs.Capabilities.{has_all}
use Rattle.negotiate.specs.Choosing.{aead_choice, choice_with, hash_choice, has_large, has_room_for_sha_384, has_small, offered_key_schedule, selected}
use Rattle.negotiate.specs.declared.selection.AlgPolicy.{AlgPolicy}
use Rattle.responder_machine.proofs.Settled.{choice_settled}
use Rattle.responder_machine.specs.Answer.{Free, answer_bytes, request_at}
use Rattle.responder_machine.specs.Does.{IsMade, clear_chosen}
use Rattle.responder_machine.specs.Handling.{handle_for, turn_of}
use Rattle.responder_machine.specs.History as served
use Rattle.responder_machine.specs.History.Entry.{Clear, Dropped, Queued, Sealed, Ticked}
use Rattle.responder_machine.specs.Place.{Place, clear_place}
use Rattle.responder_machine.specs.Refusal.{is_offer_refused, refused_contents, tests_of_contents}
use Rattle.responder_machine.specs.Setup.{RspSetup, policy_of}
use Rattle.responder_machine.specs.Turn.{Effect, Turn}
use Rattle.responder_machine.specs.Turn.Effect.{NoEffect, Took}
use Rattle.spdm_agreement.proofs.Responder.ClearTurns.{TakesClear, all_fail, clear_case}
use Rattle.spdm_agreement.proofs.Responder.Negotiation.{entry_turn}
use Rattle.spdm_basis.specs.Sizes.{hash_size}
use Rattle.spdm_basis.specs.declared.values.aead_alg.AeadAlg.{AeadAlg}
use Rattle.spdm_basis.specs.declared.values.hash_alg.HashAlg.{HashAlg}
use Rattle.spdm_basis.specs.declared.values.hash_alg.HashAlg.TheVariants.{Sha256, Sha384}
use Rattle.spdm_grammar.specs.Message.{OfferMessage, RequestMessage}
use Rattle.spdm_grammar.specs.Message.RequestMessage.{GetCapabilities, GetVersion, NegotiateAlgorithms}
use Rattle.spdm_grammar.specs.declared.messages.choice.Choice.{Choice}
use Rattle.spdm_grammar.specs.declared.names.TheConstants.{MIN_DATA_TRANSFER_SIZE}
use Rattle.spdm_grammar.specs.declared.told.phase.Phase.{Phase}
use Rattle.spdm_grammar.specs.declared.told.phase.Phase.TheVariants.{Negotiated}
use Rattle.spdm_machine.proofs.Members.{none_some, some_same}
use Rattle.spdm_machine.specs.Terms.{terms_of}
use Rattle.transcript.specs.Transcripts.{Negotiation}

-- ---- A choice.

-- PSK_FINISH has 4 bytes and its verify data, which are as long as the hash.
abbrev pub LeavesRoom : HashAlg → (transfer : ℕ) → Type 0
LeavesRoom hash transfer = 4 + hash_size hash ≤ transfer

large_or_small : (offered has room other : Bool) (hash : HashAlg) → (if offered && has && room then Some Sha384 else (if other then Some Sha256 else None)) ≡ Some hash → (room ≡ true) ⊎ (hash ≡ Sha256)
large_or_small offered has true other hash is = inl refl
large_or_small true true false true hash is = inr (sym (some_same Sha256 hash is))
large_or_small true true false false hash is = absurd (none_some hash is)
large_or_small true false false true hash is = inr (sym (some_same Sha256 hash is))
large_or_small true false false false hash is = absurd (none_some hash is)
large_or_small false has false true hash is = inr (sym (some_same Sha256 hash is))
large_or_small false has false false hash is = absurd (none_some hash is)

room_by : (hash : HashAlg) (transfer : ℕ) → MIN_DATA_TRANSFER_SIZE ≤ transfer → (has_room_for_sha_384 transfer ≡ true) ⊎ (hash ≡ Sha256) → LeavesRoom hash transfer
room_by Sha256 transfer least x = omega (arith, least)
room_by Sha384 transfer least (inl room) = leb-true 52 transfer room
room_by Sha384 transfer least (inr is) = absurd (cc)

its_hash : (hash : Option HashAlg) (aead : Option AeadAlg) (measure : Bool) (choice : Choice) → choice_with hash aead measure ≡ Some choice → hash ≡ Some choice.hash
its_hash None aead measure choice is = absurd (none_some choice is)
its_hash (Some hash) None measure choice is = absurd (none_some choice is)
its_hash (Some hash) (Some aead) measure choice is = ap (λ (c : Choice). let o : Option HashAlg = Some c.hash in o) (some_same _ choice is)

selected_by : (b : Bool) (o : Option Choice) (choice : Choice) → (if b then o else None) ≡ Some choice → o ≡ Some choice
selected_by true o choice is = is
selected_by false o choice is = absurd (none_some choice is)

selected_leaves : (offer : OfferMessage) (policy : AlgPolicy) (choice : Choice) → MIN_DATA_TRANSFER_SIZE ≤ policy.transfer → selected offer policy ≡ Some choice → LeavesRoom choice.hash policy.transfer
selected_leaves offer policy choice least is =
    room_by choice.hash policy.transfer least
    (large_or_small (has_all offer.hash 2) (has_large policy.suites.hash) (has_room_for_sha_384 policy.transfer) (has_all offer.hash 1 && has_small policy.suites.hash) choice.hash
    (its_hash (hash_choice offer policy) (aead_choice offer policy) (policy.measure && has_all offer.measurement 1) choice (selected_by (has_all (offered_key_schedule offer) 1) _ choice is)))

-- ---- A responder.

-- Where it has negotiated, the chosen hash leaves room.
abbrev pub HasRoom : RspSetup → Phase → Negotiation → Type 0
HasRoom r phase n = phase ≡ Negotiated → LeavesRoom (terms_of n).choice.hash r.transfer

-- A turn with this effect.
abbrev turn_with : Effect → Turn
turn_with e = record { message = []; refused = None; chunk = None; effect = e; reply = [] }

abbrev After : RspSetup → List Turn → Effect → Type 0
After r turns e = HasRoom r (served.phase_of (turn_with e ∷ turns)) (served.negotiation_of (turn_with e ∷ turns))

something : {A : Type 0} (o : Option A) → is_none o ≡ false → (x : A) × (o ≡ Some x)
something None is = absurd (false≢true (sym is))
something (Some x) is = (x, refl)

not_so : (phase : Phase) → (phase ≡ Negotiated → ⊥) → (n : Negotiation) (r : RspSetup) → HasRoom r phase n
not_so phase other n r = λ is. absurd (other is)

took_room : (r : RspSetup) (turns : List Turn) (f : Free) (v : RequestMessage) (place : Place) (request : List ℕ) (large : Option ℕ) → MIN_DATA_TRANSFER_SIZE ≤ r.transfer → request_at place request ≡ Some v → is_offer_refused r (request_at place request) ≡ false
    → HasRoom r (served.phase_of turns) (served.negotiation_of turns) → After r turns (Took v request (answer_bytes r place request f) large)
took_room r turns f GetVersion place request large least is fine before = λ same. absurd (cc)
took_room r turns f (GetCapabilities caps) place request large least is fine before = λ same. absurd (cc)
took_room r turns f (NegotiateAlgorithms offer) place request large least is fine before = λ same.
    let chosen = something (selected offer (policy_of r)) (sym (ap (is_offer_refused r) is) ∙ fine) in
    subst (λ (c : Choice). LeavesRoom c.hash r.transfer) (sym (choice_settled r place request f offer chosen.0 (served.negotiation_of turns) is chosen.1)) (selected_leaves offer (policy_of r) chosen.0 least chosen.1)
took_room r turns f v place request large least is fine before = before

offer_fine : (r : RspSetup) (p : Place) (m : List ℕ) (f : Free) → refused_contents r p m f ≡ None → is_offer_refused r (request_at p m) ≡ false
unfolding refused_contents
offer_fine r p m f e = (let l = all_fail (tests_of_contents r p m f) e in l.1.1.0)

turn_room : (r : RspSetup) (turns : List Turn) (f : Free) (e : Effect) → MIN_DATA_TRANSFER_SIZE ≤ r.transfer → (e ≡ NoEffect) ⊎ TakesClear r (served.negotiation_of turns) (served.phase_of turns) f e → HasRoom r (served.phase_of turns) (served.negotiation_of turns) → After r turns e
turn_room r turns f e least (inl is) before = subst (After r turns) (sym is) before
turn_room r turns f e least (inr a) before =
    subst (After r turns) (sym a.is) (took_room r turns f a.value a.place a.request (handle_for a.place f (answer_bytes r a.place a.request f)) least a.spelled (offer_fine r a.place a.request f a.contents) before)

-- Whatever came to it.
pub has_room : (r : RspSetup) (h : served.History) → MIN_DATA_TRANSFER_SIZE ≤ r.transfer → IsMade r h → HasRoom r (served.phase_of (served.clear_turns h)) (served.negotiation_of (served.clear_turns h))
has_room r [] least made = λ same. absurd (cc)
has_room r (Clear tag t d ∷ older) least made =
    let f = clear_chosen r older d in
    subst (λ (u : Turn). HasRoom r (served.phase_of (u ∷ served.clear_turns older)) (served.negotiation_of (u ∷ served.clear_turns older))) (entry_turn r older tag t d made.0)
    (turn_room r (served.clear_turns older) f (turn_of r (clear_place older) t.message f).effect least (clear_case r older t.message f) (has_room r older least made.1))
has_room r (Sealed tag z t reply d ∷ older) least made = has_room r older least made.1
has_room r (Queued bytes ∷ older) least made = has_room r older least made.2
has_room r (Ticked seconds ∷ older) least made = has_room r older least made
has_room r (Dropped id ∷ older) least made = absurd made
