use Rattle.std.proofs.Common.{◌≡◌, ◌∙◌, refl, sym, ap, ℕ}
use Rattle.script_ends.specs.Configured.{requester_in}
use Rattle.requester_machine.specs.Setup.{ReqSetup}
use Rattle.check_laws.specs.Judged.{receiver_of}
use Rattle.trace_check.proofs.judged_pair.JudgedPair.new.Goals as goal

pub returns : goal.returns
returns c = λ w own limits sound answering number.
    let q : ReqSetup = requester_in c.args.own.number c.args.q.now in
    let hint : c.in_ok-hint.hint ≡ q.hint = c.in_ok-hint.ensures ∙ c.as_slice.ensures in
    let psk : c.copy_of-psk.result ≡ q.psk = c.copy_of-psk.ensures in
    let asker = c.in_ok-asker.ensures q (c.setup_of.ensures c.args.own.number sound.sizes) sound.limits refl in
    let set_up = c.towards.ensures w.responder q answering limits (c.as_slice-2.ensures ∙ hint) psk in record {
      order = record {
        at = refl;
        asks_of = c.in_ok-new.ensures.receiver ∙ ap (λ (n : ℕ). receiver_of n q.eid) (sym own);
        asks = c.in_ok-new.ensures.stands;
        answers_of = c.in_ok-new-2.ensures.receiver ∙ ap (λ (n : ℕ). receiver_of q.eid n) (sym own);
        answers = c.in_ok-new-2.ensures.stands;
        round = c.new-5.ensures;
      };
      talk = c.new-6.ensures w q (c.in_ok-party.ensures w q asker number set_up);
      hint = hint;
      psk = psk;
    }
