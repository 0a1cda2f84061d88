-- What a requester keeps of its history does not look at the marks of the responder: it is kept with another past of that.
use Rattle.std.proofs.Common.{◌≡◌, ◌∙◌, List, Option, Some, None, ap, subst, sym}
use Rattle.requester_machine.specs.History.{History, outstanding}
use Rattle.requester_machine.specs.Message.{Aim, Ask, Content, Sent}
use Rattle.requester_machine.specs.Message.Aim.{ByChunks, ForChunk, InSession, Plain}
use Rattle.requester_machine.specs.Message.Ask.{AskFinish}
use Rattle.requester_machine.specs.Session.{session_of}
use Rattle.requester_machine.specs.Setup.{ReqSetup}
use Rattle.spdm_agreement.proofs.Delivery.Data.{AsksOpenly}
use Rattle.spdm_agreement.proofs.Requester.Counts.{HeldWell}
use Rattle.spdm_agreement.proofs.Requester.HistoryInvariant.{AimKept, ClearKept, IsFinishing, IsStarted, RecordKept, WaitingKept, waiting_text}
use Rattle.spdm_agreement.proofs.Requester.Whole as asks
use Rattle.spdm_agreement.specs.Marks.{Asked, Text, finishing, waiting}
use Rattle.spdm_agreement.specs.Story.{Past, asked_from}
use Rattle.spdm_grammar.specs.Message.{ExchangeMessage, RequestMessage}
use Rattle.spdm_grammar.specs.Message.RequestMessage.{PskExchange}
use Rattle.std.specs.Prelude.{ℕ}

module _ (prior next : Past) (q : ReqSetup) (h : History) (same : asked_from prior q h ≡ asked_from next q h) where
  started : (exchange : ExchangeMessage) → IsStarted prior q h exchange → IsStarted next q h exchange
  started exchange k = record {
    draw = k.draw;
    number = k.number;
    bytes = k.bytes;
    waits = sym (ap waiting same) ∙ k.waits;
    context = k.context;
    session = k.session;
    negotiated = k.negotiated;
    read = k.read;
  }

  finishes : (id : ℕ) → IsFinishing prior q h id → IsFinishing next q h id
  finishes id k = record {
    negotiation = k.negotiation;
    exchange = k.exchange;
    answer = k.answer;
    sealed = k.sealed;
    session = k.session;
    waits = sym (ap finishing same) ∙ k.waits;
  }

  clear : (o : Option RequestMessage) → ClearKept prior q h o → ClearKept next q h o
  clear None k = tt
  clear (Some (PskExchange exchange)) k = started exchange k
  clear (Some _) k = tt

  recorded : (id : ℕ) (b : Text) (ask : Ask) → RecordKept prior q h id b ask → RecordKept next q h id b ask
  recorded id b AskFinish k = finishes id k
  recorded id b _ k = k

  aimed : (c : Content) (aim : Aim) → AimKept prior q h c aim → AimKept next q h c aim
  aimed c (InSession id ask) k = recorded id _ ask k
  aimed c (Plain asked) k = clear (Some asked) k
  aimed c (ByChunks asked handle number) k = clear (Some asked) k
  aimed c (ForChunk asked handle number before) k = clear (Some asked) k

  waits : (o : Option Sent) → WaitingKept prior q h o → WaitingKept next q h o
  waits None k = tt
  waits (Some x) k = aimed x.content x.aim k

  pub still_kept : asks.IsKept prior q h → asks.IsKept next q h
  still_kept k = record {
    kept = record {
      held = λ id held. subst (λ (m : List Asked). HeldWell q.psk (session_of id h) m (waiting_text id (outstanding h))) same (k.kept.held id held);
      waiting = waits (outstanding h) k.kept.waiting;
    };
    openly = subst AsksOpenly same k.openly;
  }
