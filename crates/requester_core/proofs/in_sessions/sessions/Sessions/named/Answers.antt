use Rattle.std.proofs.Common.{◌∙◌, ℕ, false, refl, sym, true}
use Rattle.requester_core.proofs.OwnSlots.{first_as}
use Rattle.requester_core.proofs.in_sessions.sessions.Sessions.named.Goals as goal
use Rattle.requester_machine.specs.Named.{names}
use Rattle.requester_machine.specs.Session.{session_of}

pub returns-then-names : goal.returns-then-names
returns-then-names c = λ q h stands short.
    let n = λ (i : ℕ). names c.args.sealed.now (session_of i h) in
    first_as true (n 2) (n 3) (n 4) (n 1) (n 2) (n 3) (n 4) (sym c.if-names.true ∙ c.names.ensures q h stands short) refl refl refl

pub returns-then-names-2 : goal.returns-then-names-2
returns-then-names-2 c = λ q h stands short.
    let n = λ (i : ℕ). names c.args.sealed.now (session_of i h) in
    first_as false true (n 3) (n 4) (n 1) (n 2) (n 3) (n 4) (sym c.if-names.false ∙ c.names.ensures q h stands short) (sym c.if-names-2.true ∙ c.names-2.ensures q h stands short) refl refl

pub returns-then-names-3 : goal.returns-then-names-3
returns-then-names-3 c = λ q h stands short.
    let n = λ (i : ℕ). names c.args.sealed.now (session_of i h) in
    first_as false false true (n 4) (n 1) (n 2) (n 3) (n 4) (sym c.if-names.false ∙ c.names.ensures q h stands short) (sym c.if-names-2.false ∙ c.names-2.ensures q h stands short) (sym c.if-names-3.true ∙ c.names-3.ensures q h stands short) refl

pub returns-then-names-4 : goal.returns-then-names-4
returns-then-names-4 c = λ q h stands short.
    let n = λ (i : ℕ). names c.args.sealed.now (session_of i h) in
    first_as false false false true (n 1) (n 2) (n 3) (n 4) (sym c.if-names.false ∙ c.names.ensures q h stands short) (sym c.if-names-2.false ∙ c.names-2.ensures q h stands short) (sym c.if-names-3.false ∙ c.names-3.ensures q h stands short) (sym c.if-names-4.true ∙ c.names-4.ensures q h stands short)

pub returns-else-names-4 : goal.returns-else-names-4
returns-else-names-4 c = λ q h stands short.
    let n = λ (i : ℕ). names c.args.sealed.now (session_of i h) in
    first_as false false false false (n 1) (n 2) (n 3) (n 4) (sym c.if-names.false ∙ c.names.ensures q h stands short) (sym c.if-names-2.false ∙ c.names-2.ensures q h stands short) (sym c.if-names-3.false ∙ c.names-3.ensures q h stands short) (sym c.if-names-4.false ∙ c.names-4.ensures q h stands short)
