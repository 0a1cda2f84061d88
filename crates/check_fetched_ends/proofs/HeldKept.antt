-- What is held of a large response stands for what is kept also where only the requester's side went on.
use Rattle.std.proofs.Common.{◌≡◌, ◌∙◌, ℕ, List, sym, ap, subst}
use Rattle.check_ends.specs.Party.{IsBeside}
use Rattle.check_responder.specs.declared.answer_keys.AnswerKeys.{AnswerKeys}
use Rattle.check_responder.specs.declared.judged_responder.JudgedResponder.{JudgedResponder}
use Rattle.check_ends.specs.declared.party.Party.{Party}
use Rattle.check_laws.specs.Keeping.{Kept}
use Rattle.check_fetched_ends.specs.GetsHeld.{GiveAll}
use Rattle.check_fetched_ends.specs.Held.{IsHeldIn, StandsBefore}
use Rattle.check_fetched_ends.specs.declared.clear_fetch.held.Held.{Held}
use Rattle.check_late_laws.specs.Fetching.{Fetching, bytes_given, number_given, size_told}
use Rattle.requester_machine.specs.Setup.{ReqSetup}
use Rattle.responder_machine.specs.History.{History}
use Rattle.responder_machine.specs.Place.{clear_place, place_terms}
use Rattle.responder_machine.specs.Setup.{towards}
use Rattle.capture_machine.specs.SessionTable.{Row}
use Rattle.world_machine.specs.Setup.{Configuration, known_of}

pub held_with : (party new : Party) (held : Held) (w : Configuration) (q : ReqSetup) (f : Fetching) (next : Kept) (rows behind : List Row) → IsHeldIn party held w q f rows
    → new.answerer ≡ party.answerer → new.keys ≡ party.keys → next.setup ≡ f.kept.setup → next.responder ≡ f.kept.responder → IsBeside new w q next behind → IsHeldIn new held w q (record f { kept = next }) behind
held_with party new held w q f next rows behind kept answerer keys setup same beside = record {
  beside = beside;
  at = kept.at;
  before =
      subst (λ (s : ReqSetup). StandsBefore new.answerer new.keys held (towards w.responder (known_of s)) next.responder) (sym setup)
      (subst (λ (h : History). StandsBefore new.answerer new.keys held (towards w.responder (known_of f.kept.setup)) h) (sym same)
      (subst (λ (a : JudgedResponder). StandsBefore a new.keys held (towards w.responder (known_of f.kept.setup)) f.kept.responder) (sym answerer)
      (subst (λ (l : AnswerKeys). StandsBefore party.answerer l held (towards w.responder (known_of f.kept.setup)) f.kept.responder) (sym keys) kept.before)));
  answer = record {
    size = kept.answer.size ∙ sym (ap (size_told f.at) same);
    number = kept.answer.number ∙ sym (ap (number_given f.at) same);
    bytes = kept.answer.bytes ∙ sym (ap (bytes_given f.at) same);
  };
  lengths = kept.lengths;
  transfer = ap (λ (h : History). (place_terms (clear_place h)).common.to_requester.transfer) same ∙ kept.transfer;
  gave = subst (λ (h : History). GiveAll held.transfer (record f { kept = record f.kept { responder = h } })) (sym same) kept.gave;
}
