use Rattle.std.proofs.Common.{◌≡◌, ◌∙◌, sym, subst, ap, List, ℕ, ◌≤◌, length, Some}
use Rattle.responder_core.proofs.Whole.{taken_answered, turn_short}
use Rattle.responder_core.specs.ClearPart.{IsBeginning, Seen}
use Rattle.responder_core.specs.Coming.{exchange_bytes, exchange_place}
use Rattle.responder_machine.specs.History.{clear_turns}
use Rattle.responder_machine.specs.Place.{clear_place, held_of}
use Rattle.spdm_grammar.specs.declared.names.TheConstants.{MAX_MESSAGE_SIZE}
use Rattle.responder_core.proofs.clear.clear_part.ClearPart.begin.Goals as goal
use Rattle.responder_machine.specs.Answer.{answer_bytes}

pub returns : goal.returns
returns c = λ r h f d handle ordered most beginning answered.
    let m : List ℕ = c.args.message.now in
    let tag : ℕ = c.args.tag in
    let before : Seen = record { requests = c.self.inside.requests; kept = c.self.inside.kept } in
    let same : c.args.self.now ≡ before = sym c.self.view_is in
    let begins = subst (λ (s : Seen). IsBeginning r h tag m f c.args.begun s) same beginning in
    let told = subst (λ (s : Seen). c.args.answer.now ≡ answer_bytes r (exchange_place c.args.begun (clear_place h)) (exchange_bytes c.args.begun m s.requests) f) same answered in
    let now : Seen = record { requests = c.begin.new.self; kept = c.keep.new.self } in
    let come = c.begin.ensures r (clear_turns h) (held_of h) m f handle ordered most begins.begins told in
    let short = turn_short r h m f ordered most come.0 in
    let kept = c.keep.ensures short (subst (λ (a : List ℕ). length a ≤ MAX_MESSAGE_SIZE) (sym c.as_slice.ensures.value) c.as_slice.ensures.fits) ∙ ap (λ (reply : List ℕ). Some (record { tag = tag; message = m; reply = reply })) c.as_slice.ensures.value in
    taken_answered r h tag m f d now c.begin.new.out begins.anew come.0 come.1 kept
