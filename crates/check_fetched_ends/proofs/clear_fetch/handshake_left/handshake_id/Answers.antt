use Rattle.std.proofs.Common.{sym, ◌∙◌}
use Rattle.check_fetched_laws.proofs.HandshakeNone.{none_at}
use Rattle.check_fetched_ends.proofs.clear_fetch.handshake_left.handshake_id.Goals as goal

pub returns-then-is_begun : goal.returns-then-is_begun
returns-then-is_begun c = λ r h stands few. sym (c.is_begun.ensures r h stands few) ∙ c.if-is_begun.true

pub returns-then-is_begun-2 : goal.returns-then-is_begun-2
returns-then-is_begun-2 c = λ r h stands few. sym (c.is_begun-2.ensures r h stands few) ∙ c.if-is_begun-2.true

pub returns-then-is_begun-3 : goal.returns-then-is_begun-3
returns-then-is_begun-3 c = λ r h stands few. sym (c.is_begun-3.ensures r h stands few) ∙ c.if-is_begun-3.true

pub returns-then-is_begun-4 : goal.returns-then-is_begun-4
returns-then-is_begun-4 c = λ r h stands few. sym (c.is_begun-4.ensures r h stands few) ∙ c.if-is_begun-4.true

pub returns : goal.returns
returns c = λ r h stands few.
    none_at c.args.connection.now r h stands (sym (c.is_begun.ensures r h stands few) ∙ c.if-is_begun.false) (sym (c.is_begun-2.ensures r h stands few) ∙ c.if-is_begun-2.false)
    (sym (c.is_begun-3.ensures r h stands few) ∙ c.if-is_begun-3.false) (sym (c.is_begun-4.ensures r h stands few) ∙ c.if-is_begun-4.false)
