-- A record that opened takes a course, and what comes back follows it.
use Rattle.std.proofs.Common.{◌≡◌, ◌≤◌, ap, sym, subst, refl, ℕ, List, [], ◌∷◌, drop, length, length-drop, false, arith}
use Rattle.std.specs.Prelude.{◌==◌, slice_index, Some}
use Rattle.requester_machine.specs.SpentLaws.{FewFor}
use Rattle.requester_machine.specs.InnerMessages.{inner_fault}
use Rattle.requester_machine.specs.Message.{Ask}
use Rattle.requester_machine.specs.Order.{waiting_ask}
use Rattle.requester_machine.specs.Sending.{update_tag}
use Rattle.requester_machine.specs.Session.{Steps, session_terms, request_next, response_next}
use Rattle.requester_machine.specs.Session.Step.{Asked}
use Rattle.requester_machine.specs.Setup.{ReqSetup}
use Rattle.spdm_grammar.specs.declared.messages.choice.Pick.TheVariants.{Small}
use Rattle.spdm_machine.specs.Terms.{hash_len}
use Rattle.psk_session.specs.Course.{Course, TakesCourse}
use Rattle.psk_session.specs.Stepped.{Follows, IsLeft, IsStanding, IsToldOf}
use Rattle.psk_session.specs.Verdict.{Meaning}
use Rattle.psk_session.specs.Waiting.{IsNewest}
use Rattle.psk_session.specs.declared.req_session.ReqSession.{ReqSession}
use Rattle.psk_session.specs.declared.response_outcome.ResponseOutcome.{ResponseOutcome}
use Rattle.psk_session.specs.declared.response_outcome.ResponseOutcome.TheVariants as told
use Rattle.psk_session.proofs.Courses.{IsMeaning}
use Rattle.psk_session.proofs.Meanings.{FitsMeaning, contents_fit}

pub newest_waits : (a : Ask) (sealed : List ℕ) (s : Steps) → IsNewest a sealed s → waiting_ask s ≡ Some a
newest_waits a sealed [] is = absurd is
newest_waits a sealed (Asked other inner sent ∷ older) is = ap (λ (x : Ask). Some x) is.0
newest_waits a sealed (_ ∷ older) is = absurd is

pub told_by : (old : ReqSession) (psk : List ℕ) (s : Steps) (a : Ask) (sealed pad : List ℕ) (new : ReqSession) (t : ResponseOutcome) (course : Course) → TakesCourse psk s a sealed course → Follows psk s a sealed pad new t course
    → IsToldOf old psk s a sealed pad new t
told_by old psk s a sealed pad new (told.Answer reply) course takes follows = (course, takes, follows)
told_by old psk s a sealed pad new told.Next course takes follows = (course, takes, follows)
told_by old psk s a sealed pad new told.Ended course takes follows = (course, takes, follows)
told_by old psk s a sealed pad new (told.Bad fault) course takes follows = (course, takes, follows)
told_by old psk s a sealed pad new (told.Stay fault) course takes follows = absurd follows

pub left_by : (old new : ReqSession) (t : ResponseOutcome) → IsStanding new t → IsLeft old new t
left_by old new (told.Answer reply) stands = stands
left_by old new told.Next stands = stands
left_by old new told.Ended stands = stands
left_by old new (told.Bad fault) stands = stands
left_by old new (told.Stay fault) stands = absurd stands

-- Some requester of a transfer size.
abbrev some_setup : ℕ → ReqSetup
some_setup transfer = record {
  eid = 0;
  responder = 0;
  transfer = transfer;
  max = 0;
  unit = 0;
  pad = 0;
  flags = record { measure = false; heartbeat = false; key_update = false; chunk = false };
  hint = [];
  psk = [];
  opaque = [];
  suites = record { hash = Small; aead = Small };
}

-- What an inner message is goes with what was asked.
pub fits : (s : Steps) (a : Ask) (inner : List ℕ) (meaning : Meaning) → length inner ≤ 4160 → FewFor a (request_next s) (response_next s) → IsMeaning s a inner meaning → FitsMeaning s a (drop 1 inner) meaning
fits s a inner meaning short few is =
    let q = some_setup (session_terms s).common.to_requester.transfer in
    subst (λ (m : Meaning). FitsMeaning s a (drop 1 inner) m) (sym (is q refl))
    (contents_fit s a (hash_len (session_terms s)) (drop 1 inner) (session_terms s).common.chunk (update_tag s) (inner_fault q inner) (slice_index inner 0 == 5)
    (omega (arith, length-drop 1 inner)) few)
