use Rattle.std.proofs.Common.{refl}
use Rattle.check_late_laws.proofs.Late.MarksCases.{marks_clear, marks_set, marks_stay, taken_turn}
use Rattle.check_fetched_ends.proofs.marking.move_marks.Goals as goal
use Rattle.capture_machine.specs.Rounds.{no_draw}

pub returns-then-not-moves : goal.returns-then-not-moves
returns-then-not-moves c = λ h g are stands. marks_stay c.args.marks.now c.args.marks.now c.args.clear c.args.moves c.args.id h g are c.if-not-moves.true refl stands

pub returns-then-clear : goal.returns-then-clear
returns-then-clear c = λ h g are stands.
    marks_clear c.args.marks.now c.clear.new.self c.args.clear c.args.moves c.args.id h g are c.if-not-moves.false c.if-clear.true taken_turn no_draw refl (c.clear.ensures h 0 taken_turn no_draw refl)

pub returns : goal.returns
returns c = λ h g are stands. marks_set c.args.marks.now c.touch.new.self c.args.clear c.args.moves c.args.id h g are c.if-not-moves.false c.if-clear.false (c.touch.ensures.dropped h stands)
