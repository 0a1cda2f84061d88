use Rattle.attest_command.proofs.ReadTexts.{texts_read}
use Rattle.attest_command.proofs.texts.read_texts.Goals as goal

pub returns-in-Ok-read_text_to-clause-texts : goal.returns-in-Ok-read_text_to-clause-texts
returns-in-Ok-read_text_to-clause-texts g c = λ input e.
    let own = texts_read (g.S.Source.remaining c.args.source.now) (g.S.Source.remaining c.read_text.new.source) (g.S.Source.remaining c.read_text_to.new.source)
    c.in-Ok.config.text c.in-Ok.config.before c.in-Ok-read_text_to.policy.text c.in-Ok-read_text_to.policy.before c.in-Ok.ensures.text c.in-Ok-read_text_to.ensures.text input e in
    (own.config_is, own.policy_is, (own.rest, own.left, own.behind))
