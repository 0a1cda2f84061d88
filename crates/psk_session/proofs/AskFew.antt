-- What is asked of an open session leaves its numbers few.
use Rattle.std.proofs.Common.{◌≡◌, ◌≤◌, ◌+◌, ℕ, [], ◌∷◌, Bool, true, false, refl, arith}
use Rattle.std.specs.Prelude.{◌||◌, nat_le, None}
use Rattle.std.proofs.lemmas.Bool.{or_parts}
use Rattle.requester_machine.proofs.FewEntries.{less, room_for_large, room_for_one}
use Rattle.requester_machine.specs.SpentLaws.{FewBy, FewFor}
use Rattle.requester_machine.specs.Commands.{has_reached, lacks, is_spent}
use Rattle.requester_machine.specs.Order.Waits.{Rests}
use Rattle.requester_machine.specs.Session.{Steps, session_terms, request_next, response_next}
use Rattle.spdm_basis.specs.Tests.{first_of_tests}
use Rattle.psk_session.specs.SessionRequest.{ask_fault, asked_of, command_of, is_long}
use Rattle.psk_session.specs.declared.session_request.SessionRequest.{SessionRequest}
use Rattle.psk_session.specs.declared.session_request.SessionRequest.TheVariants.{Data, Beat, UpdateKey, UpdateAll, Measure, End}
use Rattle.psk_session.specs.declared.ask_fault.AskFault.TheVariants.{NotNegotiated, KeySpent, TooLong}

second_fails : (x y z : Bool) → first_of_tests ((x, NotNegotiated) ∷ (y, KeySpent) ∷ (z, TooLong) ∷ []) ≡ None → y ≡ false
second_fails true y z none = absurd (cc)
second_fails false true z none = absurd (cc)
second_fails false false z none = refl

unspent : (s : Steps) (a : SessionRequest) → ask_fault s a ≡ None → is_spent s (command_of a) ≡ false
unfolding ask_fault
unspent s a none = second_fails (lacks (session_terms s) (command_of a)) (is_spent s (command_of a)) (is_long a) none

room_for_update : (s : Steps) → (has_reached 65535 s || nat_le 65534 (response_next s)) ≡ false → (request_next s + 1 ≤ 65535) × (response_next s ≤ 65533)
room_for_update s is =
    let e = or_parts (has_reached 65535 s) (nat_le 65534 (response_next s)) is in
    let p = less (response_next s) 65534 e.1 in
    ((room_for_one s e.0).0, omega (arith, p))

room_for_any : (r p : ℕ) → r ≤ 65535 → p ≤ 65535 → (r + 1 ≤ 65536) × (p ≤ 65535)
room_for_any r p a b = (omega arith, b)

pub asked_few : (s : Steps) (a : SessionRequest) → ask_fault s a ≡ None → FewBy Rests s → FewFor (asked_of a) (request_next s + 1) (response_next s)
asked_few s (Data bytes) none few = room_for_one s (unspent s (Data bytes) none)
asked_few s Beat none few = room_for_one s (unspent s Beat none)
asked_few s UpdateKey none few = room_for_update s (unspent s UpdateKey none)
asked_few s UpdateAll none few = room_for_any (request_next s) (response_next s) few.0 few.1
asked_few s (Measure op) none few = room_for_large s (unspent s (Measure op) none)
asked_few s End none few = room_for_any (request_next s) (response_next s) few.0 few.1
