-- What is kept of a large response that is fetched in a session depends on the set-up and the responder's history
-- alone, so a request leaves it.
use Rattle.std.proofs.Common.{◌≡◌, List, sym, ap, ◌∙◌, subst, false, true, Some}
use Rattle.check_responder.specs.JudgedResponder.{IsAnswerer}
use Rattle.check_ends.specs.Party.{IsBeside}
use Rattle.check_responder.specs.declared.judged_responder.JudgedResponder.{JudgedResponder}
use Rattle.check_ends.specs.declared.party.Party.{Party}
use Rattle.check_laws.specs.Keeping.{Kept}
use Rattle.check_laws.specs.RepliesShown.{responder_for}
use Rattle.responder_core.specs.Connected as connected
use Rattle.responder_core.specs.declared.connected.Connection.{Connection}
use Rattle.check_fetched_laws.specs.JudgedFor.{session_with}
use Rattle.check_late_laws.specs.Fetching.{Fetching, MayStand, bytes_given, number_given, size_told}
use Rattle.measurements.specs.Records.{is_missing}
use Rattle.requester_machine.specs.Setup.{ReqSetup}
use Rattle.responder_machine.specs.History.{History, kept_of}
use Rattle.responder_machine.specs.Place.{session_place}
use Rattle.responder_machine.specs.Refusal.{has_pending}
use Rattle.responder_machine.specs.Responder.{is_repeat}
use Rattle.responder_machine.specs.Session.{is_live, session_of, session_terms}
use Rattle.responder_machine.specs.Setup.{inventory_of, towards}
use Rattle.responder_session.specs.Pending.{IsUncounted}
use Rattle.spdm_grammar.specs.Message.RequestMessage.{GetVersion}
use Rattle.spdm_grammar.specs.Requests.{canonical_request}
use Rattle.capture_machine.specs.LargeAnswers.{with_large}
use Rattle.capture_machine.specs.SessionTable.{Row}
use Rattle.world_machine.specs.Setup.{Configuration, known_of}
use Rattle.check_fetched_ends.specs.InSession.{AsksFor, IsFetchedIn}
use Rattle.check_fetched_ends.specs.declared.session_fetch.in_session.InSession.{InSession}

pub fetched_with : (party new : Party) (fetched : InSession) (w : Configuration) (q : ReqSetup) (f : Fetching) (next : Kept) (rows behind : List Row) → IsFetchedIn party fetched w q f rows
    → new.answerer ≡ party.answerer → next.setup ≡ f.kept.setup → next.responder ≡ f.kept.responder → IsBeside new w q next behind
    → IsFetchedIn new fetched w q (record f { kept = next }) behind
fetched_with party new fetched w q f next rows behind is answerer setup responder beside =
    let same : f.kept.responder ≡ next.responder = sym responder in
    let at_setup : f.kept.setup ≡ next.setup = sym setup in record {
      beside = beside;
      at = is.at;
      answer = record {
        size = is.answer.size ∙ ap (size_told f.at) same;
        number = is.answer.number ∙ ap (number_given f.at) same;
        bytes = is.answer.bytes ∙ ap (bytes_given f.at) same;
      };
      lengths = is.lengths;
      asks = subst (λ (s : ReqSetup). AsksFor (towards w.responder (known_of s)) fetched.id f.place fetched.op next.responder) at_setup
          (subst (AsksFor (responder_for w f.kept) fetched.id f.place fetched.op) same is.asks);
      found = subst (λ (s : ReqSetup). is_missing fetched.op (inventory_of (towards w.responder (known_of s))) ≡ false) at_setup is.found;
      whole = is.whole;
      stands = subst (λ (h : History). MayStand (record f { kept = record f.kept { responder = h } }) is.whole) same is.stands;
      judges = subst (λ (a : JudgedResponder). IsAnswerer a (responder_for w next) (with_large (Some fetched.id) is.whole next.responder)) (sym answerer)
          (subst (λ (s : ReqSetup). IsAnswerer party.answerer (towards w.responder (known_of s)) (with_large (Some fetched.id) is.whole next.responder)) at_setup
          (subst (λ (h : History). IsAnswerer party.answerer (responder_for w f.kept) (with_large (Some fetched.id) is.whole h)) same is.judges));
      pending = ap (λ (h : History). has_pending (session_place (session_with fetched.id h is.whole))) responder ∙ is.pending;
      uncounted = subst (λ (h : History). fetched.left ≡ false → is_live (session_with fetched.id h is.whole) ≡ true → IsUncounted (session_with fetched.id h is.whole) (session_of fetched.id h)) same is.uncounted;
      sizes = λ left. ap (λ (h : History). (session_terms (session_with fetched.id h is.whole)).common) responder ∙ is.sizes left;
      room = is.room;
      anew = λ tag. ap (λ (h : History). is_repeat (kept_of h) tag (canonical_request GetVersion)) responder ∙ is.anew tag;
    }

-- The room in which the answerer writes counts for nothing.
pub fetched_in : (party : Party) (answerer : JudgedResponder) (fetched : InSession) (w : Configuration) (q : ReqSetup) (f : Fetching) (rows : List Row) → IsFetchedIn party fetched w q f rows → answerer.connection ≡ party.answerer.connection
    → IsFetchedIn (record party { answerer = answerer }) fetched w q f rows
fetched_in party answerer fetched w q f rows is same = record {
  beside = record { asker = is.beside.asker; keys = is.beside.keys; number = is.beside.number; places = is.beside.places };
  at = is.at;
  answer = is.answer;
  lengths = is.lengths;
  asks = is.asks;
  found = is.found;
  whole = is.whole;
  stands = is.stands;
  judges = subst (λ (c : Connection). connected.StandsFor c (responder_for w f.kept) (with_large (Some fetched.id) is.whole f.kept.responder)) (sym same) is.judges;
  pending = is.pending;
  uncounted = is.uncounted;
  sizes = is.sizes;
  room = is.room;
  anew = is.anew;
}
