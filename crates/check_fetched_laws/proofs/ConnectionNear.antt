-- A connection stands for two histories that are near, where it has the kept message and the ended record of the other.
use Rattle.std.proofs.Common.{◌≡◌, ◌%◌, ◌∙◌, ℕ, List, [], sym, ap, subst, refl, drop, Option, Some, None}
use Rattle.chunking.specs.Cutting as cutting
use Rattle.chunking.specs.Keeping as keeping
use Rattle.responder_core.specs.Connected as connected
use Rattle.responder_core.specs.LateFetch.{with_ended}
use Rattle.responder_core.specs.LiveSession.{IsSlotOf}
use Rattle.responder_core.specs.Negotiating.{IsUpTo}
use Rattle.responder_core.specs.Sessions.{slot_of}
use Rattle.responder_core.specs.declared.connected.Connection.{Connection}
use Rattle.check_fetched_laws.specs.PassedConnection.{StandsNear}
use Rattle.check_late_laws.specs.Late.PassedStands.{AreNear}
use Rattle.responder_rules.specs.LargeAnswer.{left_by}
use Rattle.responder_machine.specs.History.{History, clear_turns, ended_of, kept_of}
use Rattle.responder_machine.specs.LargeMessages.{given_of, handle_of, large_of, next_handle}
use Rattle.responder_machine.specs.Refusal.{sizes_are_known}
use Rattle.responder_machine.specs.Setup.{RspSetup}
use Rattle.responder_machine.specs.SizeLaws.{HasSizes}
use Rattle.responder_machine.specs.Turn.{Turn}
use Rattle.spdm_grammar.specs.Message.{ChunkMessage}
use Rattle.spdm_machine.specs.Terms.{terms_of}
use Rattle.transcript.specs.Transcripts.{Negotiation, vca_of}

abbrev left_as : (transfer given handle : ℕ) → Option (List ℕ) → List ChunkMessage
left_as transfer given handle None = []
left_as transfer given handle (Some answer) = drop given (cutting.chunks_of transfer handle answer)

left_is : (transfer : ℕ) (ts : List Turn) (o : Option (List ℕ)) → left_by transfer ts o ≡ left_as transfer (given_of ts) (handle_of ts) o
left_is transfer ts None = refl
left_is transfer ts (Some answer) = refl

module _ (seen : Connection) (r : RspSetup) (h g : History) (near : AreNear h g) (same : kept_of h ≡ kept_of g) (stands : connected.StandsFor seen r h) where
  abbrev hs : List Turn
  hs = clear_turns h

  abbrev gs : List Turn
  gs = clear_turns g

  left : (transfer : ℕ) → left_by transfer hs (large_of hs) ≡ left_by transfer gs (large_of gs)
  left transfer =
      left_is transfer hs (large_of hs) ∙ ap (λ (n : ℕ). left_as transfer n (handle_of hs) (large_of hs)) near.given ∙ ap (λ (n : ℕ). left_as transfer (given_of gs) n (large_of hs)) near.handle
      ∙ ap (left_as transfer (given_of gs) (handle_of gs)) near.large ∙ sym (left_is transfer gs (large_of gs))

  next : next_handle hs ≡ next_handle gs
  next = ap (λ (n : ℕ). n % 256) near.larges

  pub stands_near : connected.StandsFor (with_ended seen (ended_of g)) r g
  stands_near =
      let c = stands.clear.requests in
      let n = c.standing.negotiating in record {
        clear = record {
          requests = record {
            standing = record {
              negotiating = record {
                phase = sym near.phase ∙ n.phase;
                messages = n.messages ∙ ap (λ (x : Negotiation). vca_of x) near.negotiation;
                up_to = subst (IsUpTo seen.clear.requests.standing.negotiating.phase) near.negotiation n.up_to;
                few = n.few;
                common = sym (ap (λ (x : Negotiation). (terms_of x).common) near.negotiation) ∙ n.common;
                choice = sym (ap (λ (x : Negotiation). (terms_of x).choice) near.negotiation) ∙ n.choice;
                settled = n.settled;
              };
              large = record {
                left = c.standing.large.left ∙ left seen.clear.requests.standing.negotiating.common.to_requester.transfer;
                next = c.standing.large.next ∙ next;
              };
            };
            collector = subst (keeping.StandsFor seen.clear.requests.collector) near.chunks c.collector;
            max = c.max;
          };
          kept = stands.clear.kept ∙ same;
        };
        sessions = record {
          slots = λ id. subst (IsSlotOf (slot_of seen.sessions id) r) (near.sessions id) (stands.sessions.slots id);
          ended = refl;
        };
        queue = stands.queue ∙ near.queue;
        sizes = λ known. subst (λ (x : Negotiation). HasSizes r (terms_of x).common) near.negotiation (stands.sizes (ap sizes_are_known near.phase ∙ known));
      }

pub stands_near_too : StandsNear
stands_near_too seen r h g near same stands = stands_near seen r h g near same stands
