-- While a chunk of the large response is left to be given in its session: other bytes may stand for it as well, and
-- without it the session is the same but for that.
use Rattle.std.proofs.Common.{◌≡◌, ◌≢◌, ◌<◌, ◌-◌, ◌*◌, ℕ, List, sym, ap, ◌∙◌, subst, take, length, arith, Bool, true, Option, Some}
use Rattle.std.specs.Prelude.{nat_lt}
use Rattle.std.proofs.lemmas.Bool.Decides.{nat_tests}
use Rattle.std.proofs.lemmas.Option.{none-some}
use Rattle.mctp_framing.specs.Cutting.{RouteFields}
use Rattle.check_ends.proofs.InTurn.{AnswersInTurn}
use Rattle.check_ends.specs.declared.party.Party.{Party}
use Rattle.check_laws.specs.RepliesShown.{responder_for}
use Rattle.chunking.proofs.ChunkSteps as step
use Rattle.chunking.specs.Cutting.{chunk_count, unit_of}
use Rattle.check_fetched_laws.specs.JudgedFor.{IsMeasured, session_with}
use Rattle.check_late_laws.proofs.Gave.{bytes_same}
use Rattle.check_late_laws.specs.Fetching.{Fetching, IsFetchingOf, MayStand, bytes_given, bytes_of}
use Rattle.negotiate.specs.declared.shared.Common.{Common}
use Rattle.requester_machine.specs.May.{IsSetUp}
use Rattle.requester_machine.specs.Setup.{ReqSetup}
use Rattle.responder_machine.specs.History.{History}
use Rattle.responder_machine.specs.Place.{session_place}
use Rattle.responder_machine.specs.Refusal.{has_pending}
use Rattle.responder_machine.specs.Session.{session_of}
use Rattle.responder_session.specs.Pending.{events_unseen}
use Rattle.capture_machine.proofs.ChunksGiven.{Chunked, gets_of}
use Rattle.capture_machine.proofs.ChunksGiven.Chunked.{Gone, Given}
use Rattle.capture_machine.proofs.GetTells.{transfer_of}
use Rattle.capture_machine.specs.SessionTable.{Row}
use Rattle.world_machine.specs.Setup.{Configuration}
use Rattle.check_fetched_laws.proofs.BehindGet.{pends}
use Rattle.check_fetched_ends.proofs.InSessionPut.{chunked, measured, pending_same}
use Rattle.check_fetched_ends.proofs.OtherBytes.{flipped, flipped_other, flipped_stands, large_some, large_wide, take_most}
use Rattle.check_fetched_laws.proofs.Uncounted.{session_unseen}
use Rattle.check_fetched_ends.specs.InSession.{IsFetchedIn}
use Rattle.check_fetched_ends.specs.SessionOthers.{IsOtherAnswer}
use Rattle.check_fetched_ends.specs.declared.session_fetch.in_session.InSession.{InSession}

module _ (w : Configuration) (q : ReqSetup) (older : List (List ℕ)) (rows : List Row) (f : Fetching) (route : RouteFields) (answer : List ℕ) (byte : w.responder.beat < 256) (limits : IsSetUp f.kept.setup) (own : IsFetchingOf w q older f) (turn : AnswersInTurn f.kept route answer)
    (party : Party) (fetched : InSession) (kept : IsFetchedIn party fetched w q f rows) (refuses : Bool) (other : IsOtherAnswer (responder_for w f.kept) fetched f turn.round answer refuses) (was_left : fetched.left ≡ true) where
  abbrev h : History
  h = f.kept.responder

  abbrev id : ℕ
  id = fetched.id

  abbrev x : List ℕ
  x = kept.whole

  pending : has_pending (session_place (session_with id h x)) ≡ true
  pending = kept.pending ∙ was_left

  pub one : IsMeasured fetched.id f.kept.responder kept.whole
  one = measured w q older f route answer byte limits own turn id kept.at other.record_is x x kept.stands kept.stands x kept.stands pending

  -- Other bytes may stand too.
  wide : 12 < transfer_of (session_place (session_with id h x))
  wide = subst (λ (c : Common). 12 < c.to_requester.transfer) (sym (kept.sizes was_left)) (large_wide f.place x kept.stands.0)

  long : 0 < length x
  long = large_some f.place x kept.stands.0

  short : length (bytes_of f) < length x
  short = by_chunked (chunked w q older f route answer byte limits own turn id kept.at other.record_is x x kept.stands kept.stands x kept.stands)
    where
      by_chunked : Chunked (session_place (session_with id h x)) (Some id) x h → length (bytes_of f) < length x
      by_chunked (Gone none) = absurd (none-some x (sym none ∙ one.large))
      by_chunked (Given large given parts) =
          let transfer : ℕ = transfer_of (session_place (session_with id h x)) in
          let n : ℕ = gets_of (Some id) h in
          let more : nat_lt n (chunk_count transfer x) ≡ true = ap (λ (k : ℕ). nat_lt k (chunk_count transfer x)) (sym given) ∙ sym (pends (session_with id h x) x large) ∙ pending in
          let within : n < chunk_count transfer x = grind (arith, nat_tests, more) in
          let reached = step.reaches transfer 0 x wide n within in
          let bytes : length (bytes_of f) ≡ length (take (n * unit_of transfer - 4) x) =
          ap (λ (o : Option ℕ). length (bytes_given o h)) kept.at ∙ ap (λ (l : List ℕ). length l) (sym (bytes_same (Some id) h) ∙ parts ∙ step.joined-before transfer 0 x wide n) in
          let most = take_most (n * unit_of transfer - 4) x in
          let none = long in omega (arith, reached, bytes, most, none)

  stands_too : MayStand f (flipped x)
  stands_too = flipped_stands f fetched.least fetched.most kept.lengths x kept.stands short

  pub apart : kept.whole ≢ flipped kept.whole
  apart = flipped_other x long

  other_pending : has_pending (session_place (session_with id h (flipped x))) ≡ true
  other_pending = sym (pending_same w q older f route answer byte limits own turn id kept.at other.record_is x (flipped x) kept.stands stands_too) ∙ pending

  pub two : IsMeasured fetched.id f.kept.responder (flipped kept.whole)
  two = measured w q older f route answer byte limits own turn id kept.at other.record_is x (flipped x) kept.stands stands_too (flipped x) stands_too other_pending

  -- Without the answer the session is the same but for that.
  pub unseen_is : session_of fetched.id f.kept.responder ≡ events_unseen (session_with fetched.id f.kept.responder kept.whole)
  unseen_is = session_unseen id h x (flipped x) apart one two
