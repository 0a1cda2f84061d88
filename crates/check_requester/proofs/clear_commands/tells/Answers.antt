use Rattle.std.proofs.Common.{◌≡◌, ◌∙◌, List, ℕ, Bool, true, ap, sym, subst}
use Rattle.std.specs.Bool.{Decides}
use Rattle.std.specs.Prelude.{not}
use Rattle.requester_core.specs.Joined.{command_of}
use Rattle.spdm_machine.specs.Bodies.{clear_body}
use Rattle.check_requester.proofs.ClearTold.{told_by}
use Rattle.check_requester.proofs.clear_commands.tells.Goals as goal
use Rattle.check_requester.specs.JudgedRequester.{is_first_chunk}
use Rattle.check_requester.specs.Commanded.{IsToldAs}
use Rattle.capture_machine.specs.Rounds.{no_draw}

pub returns-then-is_err : goal.returns-then-is_err
returns-then-is_err c = λ q h f kept free padded allowed short stands clear.
    let told = told_by q h (command_of c.args.command) f (clear_body c.args.message.now) c.command.result c.command.new.out c.command.new.self clear
    (c.command.ensures q h f no_draw (c.setup.ensures q kept) kept.psk free padded allowed short stands) in
    told.fails (sym c.is_err.ensures.value ∙ c.if-is_err.true)

pub returns-then-not-is_first_chunk : goal.returns-then-not-is_first_chunk
returns-then-not-is_first_chunk c = λ q h f kept free padded allowed short stands clear.
    let told = told_by q h (command_of c.args.command) f (clear_body c.args.message.now) c.command.result c.command.new.out c.command.new.self clear
    (c.command.ensures q h f no_draw (c.setup.ensures q kept) kept.psk free padded allowed short stands) in
    told.whole (sym c.is_err.ensures.value ∙ c.if-is_err.false) (ap is_first_chunk (sym c.as_slice.ensures.value) ∙ sym c.is_first_chunk.ensures ∙ c.if-not-is_first_chunk.true) c.is_clear_of.result
    (subst (λ (l : List ℕ). Decides c.is_clear_of.result (l ≡ clear_body c.args.message.now)) c.as_slice-then-not-is_first_chunk.ensures.value c.is_clear_of.ensures)

pub returns-else-not-is_first_chunk : goal.returns-else-not-is_first_chunk
returns-else-not-is_first_chunk c = λ q h f kept free padded allowed short stands clear.
    let told = told_by q h (command_of c.args.command) f (clear_body c.args.message.now) c.command.result c.command.new.out c.command.new.self clear
    (c.command.ensures q h f no_draw (c.setup.ensures q kept) kept.psk free padded allowed short stands) in
    let first : c.is_first_chunk.result ≡ true = c.if-not-is_first_chunk.false in
    subst (λ (b : Bool). IsToldAs q h (command_of c.args.command) f (clear_body c.args.message.now) b c.command.new.self) (ap not (sym first))
    (told.first (sym c.is_err.ensures.value ∙ c.if-is_err.false) (ap is_first_chunk (sym c.as_slice.ensures.value) ∙ sym c.is_first_chunk.ensures ∙ first))
