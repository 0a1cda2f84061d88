-- A live session that takes a record, or waits.
use Rattle.std.proofs.Common.{refl, ◌∙◌, ◌≡◌, inl, inr, ℕ, List, true, Option, Some, None, ap}
use Rattle.std.proofs.lemmas.Bool.{false≢true}
use Rattle.responder_core.specs.LiveSession.{IsTaken, StandsFor}
use Rattle.responder_core.specs.declared.in_sessions.live_session.LiveSession.{LiveSession}
use Rattle.responder_machine.specs.Answer.{Free}
use Rattle.responder_machine.specs.History.{KeptRecord}
use Rattle.responder_machine.specs.Responder.{kept_record, repeats}
use Rattle.responder_machine.specs.Session.{Events, last_of}
use Rattle.responder_machine.specs.Setup.{RspSetup}
use Rattle.responder_session.specs.Reply.{kept_reply, last_reply}
use Rattle.responder_session.specs.Took.{IsSessionAfter, IsTold, reply_in, turn_in}
use Rattle.responder_session.specs.declared.session.RspSession.{RspSession}
use Rattle.responder_session.specs.declared.told.RspAct.{RspAct}
use Rattle.responder_session.specs.declared.told.RspTold.TheVariants as told
use Rattle.spdm_basis.specs.declared.causes.record_fault.RecordFault.{RecordFault}

-- The reply that a session keeps after a record.
kept_after : (after : RspSession) (psk : List ℕ) (s : Events) (r : RspSetup) (f : Free) (sealed reply : List ℕ)
    → IsSessionAfter after psk s sealed (turn_in r s f sealed) reply → kept_reply after ≡ Some reply
kept_after after psk s r f sealed reply (inl live) = ap last_reply live.1.keeps.last
kept_after after psk s r f sealed reply (inr ended) = ap last_reply ended.1.last

kept_again : (last : Option KeptRecord) (sealed : List ℕ) → repeats last sealed ≡ true → last_reply last ≡ Some (kept_record last)
kept_again None sealed again = absurd (false≢true again)
kept_again (Some kept) sealed again = refl

pub took : (r : RspSetup) (s : Events) (f : Free) (sealed : List ℕ) (old after : LiveSession) (act : RspAct) (out : List ℕ) → StandsFor old r s
    → IsTold r s f sealed after.session (told.Moved act) → after.period ≡ old.period → after.idle ≡ 0
    → ((reply : List ℕ) → kept_reply after.session ≡ Some reply → out ≡ reply) → IsTaken r s f sealed after (told.Moved act) out
took r s f sealed old after act out stands is period idle written = record {
  live = stands.session.keeps.live;
  told = is;
  idle = idle;
  period = period ∙ stands.period;
  sizes = stands.sizes;
  written = written (reply_in r s f sealed) (kept_after after.session r.psk s r f sealed (reply_in r s f sealed) is.2);
}

pub again : (r : RspSetup) (s : Events) (f : Free) (sealed : List ℕ) (old after : LiveSession) (out : List ℕ) → StandsFor old r s
    → IsTold r s f sealed after.session told.Same → after.period ≡ old.period → after.idle ≡ old.idle
    → ((reply : List ℕ) → kept_reply after.session ≡ Some reply → out ≡ reply) → IsTaken r s f sealed after told.Same out
again r s f sealed old after out stands is period idle written = record {
  live = stands.session.keeps.live;
  told = is;
  idle = idle ∙ stands.idle;
  period = period ∙ stands.period;
  sizes = stands.sizes;
  written = written (kept_record (last_of s)) (ap last_reply is.1.keeps.last ∙ kept_again (last_of s) sealed is.0);
}

pub unopened : (r : RspSetup) (s : Events) (f : Free) (sealed : List ℕ) (old after : LiveSession) (fault : RecordFault) (out : List ℕ) → StandsFor old r s
    → IsTold r s f sealed after.session (told.Unopened fault) → after.period ≡ old.period → after.idle ≡ old.idle → IsTaken r s f sealed after (told.Unopened fault) out
unopened r s f sealed old after fault out stands is period idle = record {
  live = stands.session.keeps.live;
  told = is;
  idle = idle ∙ stands.idle;
  period = period ∙ stands.period;
  sizes = stands.sizes;
  written = tt;
}
