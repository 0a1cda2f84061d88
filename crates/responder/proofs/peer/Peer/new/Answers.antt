use Rattle.std.proofs.Common.{◌∙◌, ℕ, ap, subst, sym}
use Rattle.responder_core.specs.Setup.{IsSetUp}
use Rattle.responder.proofs.peer.Peer.new.Goals as goal
use Rattle.responder.specs.SetUp.{known_of}
use Rattle.responder.specs.declared.config.Known.{Known}
use Rattle.responder_machine.specs.EndLaws.{receiver_of}
use Rattle.responder_machine.specs.Setup.{towards}

pub returns : goal.returns
returns c = λ p is.
    let copy = c.in_ok-known.ensures in
    record {
      setup = ap (λ (k : Known). towards p (known_of k)) (sym copy);
      receiver = c.in_ok-assembler.ensures.receiver ∙ ap (λ (n : ℕ). receiver_of n c.in_ok-known.known.eid.number) (sym is.eid);
      assembler = c.in_ok-assembler.ensures.stands;
      connection = c.in_ok-connection.ensures (towards p (known_of c.args.known.now)) (subst (λ (k : Known). IsSetUp c.towards.result (towards p (known_of k))) copy (c.towards.ensures.set p is));
    }
