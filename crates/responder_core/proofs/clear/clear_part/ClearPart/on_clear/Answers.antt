use Rattle.std.proofs.Common.{true, false, ◌≡◌, ◌∙◌, sym, subst, ap, List, ℕ, ◌≤◌, length, Option, Some}
use Rattle.responder_core.proofs.Draws.{drawn_again, drawn_anew, drawn_refused}
use Rattle.responder_core.proofs.NoExchange.{begins_none, refused_begins_none, repeat_begins_none}
use Rattle.responder_core.proofs.Whole.{refused_answered, repeated, taken_answered, turn_short}
use Rattle.responder_core.specs.ClearPart.{Seen, StandsFor}
use Rattle.responder_core.specs.Coming.{IsCome}
use Rattle.responder_core.specs.ClearState.{place_at}
use Rattle.responder_machine.specs.History.{Kept, clear_turns, kept_of}
use Rattle.responder_machine.specs.Place.Where.{InClear}
use Rattle.responder_machine.specs.Responder.{is_repeat, kept_reply}
use Rattle.spdm_grammar.specs.declared.names.TheConstants.{MAX_MESSAGE_SIZE}
use Rattle.spdm_grammar.specs.declared.told.heard.Heard.TheVariants as hearing
use Rattle.responder_core.specs.ClearPart.{IsAnswered}
use Rattle.responder_core.specs.declared.clear.request_outcome.RequestOutcome.TheVariants as came
use Rattle.responder_core.proofs.clear.clear_part.ClearPart.on_clear.Goals as goal

pub returns-then-is_repeat-clause-told : goal.returns-then-is_repeat-clause-told
returns-then-is_repeat-clause-told c = λ r h f d setup free stands held.
    let m : List ℕ = c.args.message.now in
    let tag : ℕ = c.args.tag in
    let before : Seen = record { requests = c.self.inside.requests; kept = c.self.inside.kept } in
    let same : c.args.self.now ≡ before = sym c.self.view_is in
    let stood = subst (λ (s : Seen). StandsFor s r h) same stands in
    let again : is_repeat (kept_of h) tag m ≡ true = ap (λ (k : Option Kept). is_repeat k tag m) (sym stood.kept) ∙ sym c.if-is_repeat.ensures in
    (repeated r h tag m f d c.args.self.now c.replace.new.out again stands (c.replace.ensures ∙ c.reply.ensures.value ∙ ap kept_reply stood.kept), repeat_begins_none r h tag m f d again, sym (drawn_again r h tag m f d again))

pub returns-in-Refused-clause-told : goal.returns-in-Refused-clause-told
returns-in-Refused-clause-told c = λ r h f d setup free stands held.
    let m : List ℕ = c.args.message.now in
    let tag : ℕ = c.args.tag in
    let before : Seen = record { requests = c.self.inside.requests; kept = c.self.inside.kept } in
    let same : c.args.self.now ≡ before = sym c.self.view_is in
    let stood = subst (λ (s : Seen). StandsFor s r h) same stands in
    let anew : is_repeat (kept_of h) tag m ≡ false = ap (λ (k : Option Kept). is_repeat k tag m) (sym stood.kept) ∙ sym c.if-is_repeat.ensures in
    let now : Seen = record { requests = c.on_request.new.self; kept = c.self.inside.kept } in
    let come = subst (λ (n : ℕ). IsCome r (place_at InClear (clear_turns h) n) m f (came.Refused c.in-Refused.code) c.on_request.new.self c.on_request.new.out) (sym held) (c.in-Refused.ensures.come r (clear_turns h) f setup free stood.requests) in (
      refused_answered r h tag m f d c.in-Refused.code now c.on_request.new.out anew come.0 come.1 stood.kept,
      refused_begins_none r h tag m f d c.in-Refused.code anew come.0,
      sym (drawn_refused r h tag m f d c.in-Refused.code anew come.0),
    )

pub returns-in-Answered-clause-told : goal.returns-in-Answered-clause-told
returns-in-Answered-clause-told c = λ r h f d setup free stands held.
    let m : List ℕ = c.args.message.now in
    let tag : ℕ = c.args.tag in
    let before : Seen = record { requests = c.self.inside.requests; kept = c.self.inside.kept } in
    let same : c.args.self.now ≡ before = sym c.self.view_is in
    let stood = subst (λ (s : Seen). StandsFor s r h) same stands in
    let anew : is_repeat (kept_of h) tag m ≡ false = ap (λ (k : Option Kept). is_repeat k tag m) (sym stood.kept) ∙ sym c.if-is_repeat.ensures in
    let now : Seen = record { requests = c.on_request.new.self; kept = c.keep.new.self } in
    let come = subst (λ (n : ℕ). IsCome r (place_at InClear (clear_turns h) n) m f (came.Answered c.in-Answered.code c.in-Answered.drawn) c.on_request.new.self c.on_request.new.out) (sym held) (c.in-Answered.ensures.come r (clear_turns h) f setup free stood.requests) in
    let short = turn_short r h m f setup.ordered setup.most come.0.0 in
    let kept = c.keep.ensures short (subst (λ (a : List ℕ). length a ≤ MAX_MESSAGE_SIZE) (sym c.as_slice.ensures.value) c.as_slice.ensures.fits) ∙ ap (λ (reply : List ℕ). Some (record { tag = tag; message = m; reply = reply })) c.as_slice.ensures.value in (
      subst (λ (n : ℕ). IsAnswered r h tag m f d (hearing.Answered n) now c.on_request.new.out) (sym come.3) (taken_answered r h tag m f d now c.on_request.new.out anew come.0.0 come.0.1 kept),
      begins_none r h tag m f d anew come.1,
      come.2 ∙ sym (drawn_anew r h tag m f d anew),
    )
