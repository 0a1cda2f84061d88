-- A chunk of a large response in a session in response to which the requester asks for none: nothing is fetched after
-- it, and the answer stays unseen.
use Rattle.std.proofs.Common.{◌≡◌, ◌≢◌, ◌<◌, ◌≤◌, ◌+◌, ◌-◌, ◌*◌, ℕ, zero, suc, List, [], ◌∷◌, sym, ap, ◌∙◌, subst, drop, take, length, arith, Bool, true, false, Option, Some, Ok, cond, eq-eqb}
use Rattle.std.proofs.lemmas.Bool.{false≢true}
use Rattle.std.proofs.lemmas.Bool.Decides.{nat_tests}
use Rattle.std.proofs.lemmas.Option.{none-some}
use Rattle.mctp_framing.specs.Cutting.{RouteFields}
use Rattle.check_ends.proofs.InTurn.{AnswersInTurn}
use Rattle.check_responder.specs.AnswerKeys.{StandFor}
use Rattle.check_responder.specs.JudgedResponder.{IsAnswerer}
use Rattle.check_requester.specs.JudgedRequester.{IsAsker}
use Rattle.check_requester.specs.HeardKept.{asks_upon}
use Rattle.check_responder.specs.declared.judged_responder.JudgedResponder.{JudgedResponder}
use Rattle.check_ends.specs.declared.party.Party.{Party}
use Rattle.check_laws.specs.DropsShown.{IsShownAnswer}
use Rattle.check_laws.specs.Keeping.{restored}
use Rattle.check_laws.specs.RepliesShown.{responder_for}
use Rattle.check_laws.specs.Rows as rows_of
use Rattle.check_laws.specs.Rows.{StandsForRows}
use Rattle.check_laws.specs.declared.verdict.Seen.{Seen}
use Rattle.chunking.proofs.ChunkSteps as step
use Rattle.chunking.specs.Cutting.{chunk_count, unit_of}
use Rattle.check_fetched_laws.specs.JudgedFor.{IsMeasured, JudgesFor, session_with}
use Rattle.check_fetched_ends.proofs.AsksTold.{plain_ends}
use Rattle.check_fetched_laws.proofs.BehindGet.{IsMeasuredLast, measured_more, pending_more}
use Rattle.check_fetched_ends.proofs.InSessionGone.{pending_next}
use Rattle.check_fetched_ends.proofs.InSessionPut.{chunked, common_same, measured, pending_same}
use Rattle.check_fetched_ends.proofs.InSessionRecord.{fetch_is, gets, id_is, leads, place_is, plainly, unseen_none}
use Rattle.check_fetched_ends.proofs.InSessionTold.{added, then_kept}
use Rattle.check_fetched_ends.proofs.OtherBytes.{flipped, flipped_long, flipped_other, flipped_stands, large_some, take_most}
use Rattle.check_fetched_ends.specs.Fetched.{IsRepliedTo, rows_upon}
use Rattle.check_fetched_ends.specs.InSession.{IsFetchedIn, IsReadIn}
use Rattle.check_fetched_ends.specs.declared.session_fetch.in_session.InSession.{InSession}
use Rattle.check_fetched_ends.specs.declared.upon.Upon.TheVariants as upon
use Rattle.check_late_laws.proofs.Gave.{Gave}
use Rattle.check_late_laws.proofs.Stood.{Came, came}
use Rattle.check_late_laws.proofs.Stood.Came.{Other, Chunk as Gives}
use Rattle.check_late_laws.specs.Fetching.{Fetching, IsFetchingOf, MayStand, bytes_of, number_of}
use Rattle.requester_machine.specs.May.{IsSetUp}
use Rattle.requester_machine.specs.Setup.{ReqSetup}
use Rattle.responder_machine.specs.History.{Entry, History}
use Rattle.responder_machine.specs.LargeMessages.{given_of}
use Rattle.responder_machine.specs.May.{place_for}
use Rattle.responder_machine.specs.Place.{Place, session_place}
use Rattle.responder_machine.specs.Refusal.{has_pending}
use Rattle.responder_machine.specs.Responder.Outcome.{Adds}
use Rattle.responder_machine.specs.Session.{id_in_record, session_of, turns_of}
use Rattle.responder_machine.specs.Setup.{RspSetup}
use Rattle.capture_machine.proofs.ChunksGiven.{Chunked, gets_of}
use Rattle.capture_machine.proofs.ChunksGiven.Chunked.{Gone, Given}
use Rattle.capture_machine.proofs.GetTells.{transfer_of}
use Rattle.capture_machine.specs.CapturedAnswers.{MayLeadTo}
use Rattle.capture_machine.specs.LargeAnswers.{is_in, place_named, seen, takes_get, with_large}
use Rattle.capture_machine.specs.SessionTable.{Row, number_from}
use Rattle.world_machine.specs.Setup.{Configuration}

module _ (w : Configuration) (q : ReqSetup) (older : List (List ℕ)) (rows : List Row) (f : Fetching) (route : RouteFields) (answer : List ℕ) (byte : w.responder.beat < 256) (limits : IsSetUp f.kept.setup) (own : IsFetchingOf w q older f) (turn : AnswersInTurn f.kept route answer)
    (party : Party) (fetched : InSession) (message whole : List ℕ) (read : IsReadIn party fetched w q f rows turn.round.body answer message whole)
    (shown : IsShownAnswer (responder_for w f.kept) (with_large (Some fetched.id) whole f.kept.responder) turn.round.tag turn.round.body answer) where
  abbrev id : ℕ
  id = fetched.id

  abbrev r : RspSetup
  r = responder_for w f.kept

  abbrev h : History
  h = f.kept.responder

  abbrev body : List ℕ
  body = turn.round.body

  abbrev at : f.at ≡ Some fetched.id
  at = read.kept.at

  abbrev pub stand : MayStand f whole
  stand = subst (MayStand f) read.same read.kept.stands

  abbrev e : Entry
  e = added w q older rows f route answer byte limits own turn party fetched message whole read shown

  abbrev next : Fetching
  next = then_kept w q older rows f route answer byte limits own turn party fetched message whole read shown

  gets_it : takes_get e ≡ true
  gets_it = gets w q older f route answer byte limits own turn fetched.id at read.record_is whole stand read.read.taken read.sealed shown read.text message read.holds.0 read.read.brief read.read.holds read.holds.1 read.chunk

  place : place_named body ≡ Some fetched.id
  place = place_is w q older f route answer byte limits own turn fetched.id at read.record_is whole stand

  abbrev p : Place
  p = place_for (with_large (place_named turn.round.body) whole f.kept.responder) turn.round.body

  lead : MayLeadTo r (with_large (place_named body) whole h) turn.round.tag body (Adds e)
  lead = subst (λ (o : Option ℕ). MayLeadTo r (with_large o whole h) turn.round.tag body (Adds e)) (sym place) (leads w q older f route answer byte limits own turn fetched.id at read.record_is whole stand read.read.taken read.sealed shown)

  gave : Gave f.at h whole p e
  gave = subst (λ (o : Option ℕ). Gave o h whole p e) (place ∙ sym at) (by_came (came r h whole turn.round.tag body e (fetch_is w q older f route answer byte limits own turn fetched.id at read.record_is whole stand) lead))
    where
      by_came : Came r h whole turn.round.tag body e → Gave (place_named body) h whole p e
      by_came (Other none stays) = absurd (false≢true (sym none ∙ gets_it))
      by_came (Gives takes given) = given

  -- ---- Other bytes may stand too.

  some : 0 < length whole
  some = large_some f.place whole stand.0

  short : length (bytes_of f) < length whole
  short =
      let transfer : ℕ = transfer_of p in
      let n : ℕ = number_of f in
      let more = gave.more in
      let within : n < chunk_count transfer whole = grind (arith, nat_tests, more) in
      let reached = step.reaches transfer 0 whole gave.wide n within in
      let bytes : length (bytes_of f) ≡ length (take (n * unit_of transfer - 4) whole) = ap (λ (l : List ℕ). length l) (gave.bytes ∙ step.joined-before transfer 0 whole gave.wide n) in
      let most = take_most (n * unit_of transfer - 4) whole in
      let none = some in omega (arith, reached, bytes, most, none)

  stands_too : MayStand f (flipped whole)
  stands_too = flipped_stands f fetched.least fetched.most read.kept.lengths whole stand short

  pub apart : whole ≢ flipped whole
  apart = flipped_other whole some

  -- ---- What is pending behind the chunk.

  pending : has_pending (session_place (session_with fetched.id h whole)) ≡ true
  pending = subst (λ (l : List ℕ). has_pending (session_place (session_with fetched.id h l)) ≡ true) read.same (read.kept.pending ∙ read.left)

  own_in : is_in (Some fetched.id) e ≡ true
  own_in = eq-eqb (id_in_record (drop 1 body)) fetched.id (id_is w q older f route answer byte limits own turn fetched.id at read.record_is whole stand)

  behind : (l : List ℕ) → with_large (Some fetched.id) l (e ∷ h) ≡ e ∷ with_large (Some fetched.id) l h
  behind l = ap (λ (b : Bool). cond b (seen l e ∷ h) (e ∷ with_large (Some fetched.id) l h)) (unseen_none w q older f route answer byte limits own turn fetched.id at read.record_is whole stand read.read.taken read.sealed shown)

  -- These bytes are those that are pending in a session.
  with_bytes : (l : List ℕ) → MayStand f l → has_pending (session_place (session_with fetched.id h l)) ≡ true → IsMeasuredLast fetched.id (with_large (Some fetched.id) l h) l
  with_bytes l may is = let m = measured w q older f route answer byte limits own turn fetched.id at read.record_is whole l stand may l may is in record { large = m.large; measured = m.measured }

  then_measured : (l : List ℕ) → MayStand f l → has_pending (session_place (session_with fetched.id h l)) ≡ true → has_pending (session_place (session_with fetched.id (e ∷ h) l)) ≡ true → IsMeasured fetched.id (e ∷ h) l
  then_measured l may is more =
      let m = subst (λ (g : History). IsMeasuredLast fetched.id g l) (sym (behind l)) (measured_more fetched.id e (with_large (Some fetched.id) l h) l own_in gets_it (with_bytes l may is)) in
      record { large = m.large; more = more; measured = m.measured }

  given_is : (l : List ℕ) → MayStand f l → has_pending (session_place (session_with fetched.id h l)) ≡ true → given_of (turns_of (session_with fetched.id h l)) ≡ gets_of (Some fetched.id) h
  given_is l may is = by_chunked (chunked w q older f route answer byte limits own turn fetched.id at read.record_is whole l stand may l may)
    where
      by_chunked : Chunked (session_place (session_with fetched.id h l)) (Some fetched.id) l h → given_of (turns_of (session_with fetched.id h l)) ≡ gets_of (Some fetched.id) h
      by_chunked (Gone none) = absurd (none-some l (sym none ∙ (with_bytes l may is).large))
      by_chunked (Given large given parts) = given

  other_pending : has_pending (session_place (session_with fetched.id h (flipped whole))) ≡ true
  other_pending = sym (pending_same w q older f route answer byte limits own turn fetched.id at read.record_is whole (flipped whole) stand stands_too) ∙ pending

  more_pending : has_pending (session_place (session_with fetched.id (e ∷ h) whole)) ≡ true
  more_pending = pending_next w q older f route answer byte limits own turn fetched.id at read.record_is whole stand read.read.taken read.sealed shown gets_it

  pub one_measured : IsMeasured fetched.id (e ∷ h) whole
  one_measured = then_measured whole stand pending more_pending

  pub other_measured : IsMeasured fetched.id (e ∷ h) (flipped whole)
  other_measured =
      then_measured (flipped whole) stands_too other_pending
      (ap (λ (g : History). has_pending (session_place (session_of fetched.id g))) (behind (flipped whole))
      ∙ pending_more fetched.id (with_large (Some fetched.id) whole h) (with_large (Some fetched.id) (flipped whole) h) whole (flipped whole) (with_bytes whole stand pending) (with_bytes (flipped whole) stands_too other_pending) (flipped_long whole)
      (given_is (flipped whole) stands_too other_pending ∙ sym (given_is whole stand pending)) (sym (common_same w q older f route answer byte limits own turn fetched.id at read.record_is whole (flipped whole) stand stands_too)) e own_in gets_it
      ∙ sym (ap (λ (g : History). has_pending (session_place (session_of fetched.id g))) (behind whole)) ∙ more_pending)

  pub judges_then : (answerer : JudgedResponder) → IsAnswerer answerer r (e ∷ with_large (Some fetched.id) whole h) → JudgesFor answerer.connection r (e ∷ h) (Some fetched.id) whole
  judges_then answerer is = subst (IsAnswerer answerer r) (sym (behind whole)) is

  -- ---- Nothing is fetched behind it.

  pub ended_unasked : (new : Party) (newly : InSession) (table : List Seen) → asks_upon f.kept route.tag answer ≡ false → IsAsker new.asker q next.kept → IsAnswerer new.answerer r (e ∷ h) → StandFor new.keys r (e ∷ h) → new.number ≡ number_from 1 q.eid w.requesters
      → rows_of.StandFor new.places (restored next.kept) (rows_upon f.kept next.kept rows) → StandsForRows table w (length older + 1) (rows_upon f.kept next.kept rows)
      → IsRepliedTo w q older rows f route answer (Ok upon.Ended) new (IsFetchedIn new newly w q) table
  ended_unasked new newly table idle asker answerer keys number places stands = (
    next.kept,
    plain_ends w q older f route answer limits own turn.body turn.owner turn.round turn.answers whole (e ∷ h) stand (plainly w q older f route answer byte limits own turn fetched.id at read.record_is whole stand read.read.taken read.sealed shown) idle,
    record { asker = asker; answerer = answerer; keys = keys; number = number; places = places },
    stands,
  )
