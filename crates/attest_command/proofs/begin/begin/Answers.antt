use Rattle.attest_command.proofs.ReadTexts.{is_set}
use Rattle.attest_command.specs.AttestStart.{setting_as}
use Rattle.attest_command.proofs.begin.begin.Goals as goal

pub returns-in-Ok-seed-clause-begun : goal.returns-in-Ok-seed-clause-begun
returns-in-Ok-seed-clause-begun g c =
    let texts = c.in-Ok.texts in
    let read = c.in-Ok.ensures.texts in
    let parsed = c.in-Ok-parse.ensures in
    record {
      set = is_set (g.S.Source.remaining c.args.source.now) texts.config texts.policy c.in-Ok.ensures.within (λ input e. (read input e).0) (λ input e. (read input e).1) (setting_as c.in-Ok-parse.parsed) parsed.0;
      text = texts.config;
      is = parsed.1;
      sound = parsed.2;
      read = λ input e. (read input e).2;
      seed = c.in-Ok-seed.ensures.gives;
    }

pub returns-clause-fault : goal.returns-clause-fault
returns-clause-fault g c =
    let texts = c.in-Ok.texts in
    let read = c.in-Ok.ensures.texts in
    let parsed = c.in-Ok-parse.ensures in (
      c.in-Err-seed.ensures.fault,
      (setting_as c.in-Ok-parse.parsed, is_set (g.S.Source.remaining c.args.source.now) texts.config texts.policy c.in-Ok.ensures.within (λ input e. (read input e).0) (λ input e. (read input e).1) (setting_as c.in-Ok-parse.parsed) parsed.0),
    )
