use Rattle.std.proofs.Common.{subst, sym}
use Rattle.spdm_view.proofs.FilesTold.{told_of_file}
use Rattle.spdm_view.specs.Answer.{IsToldOfFile}
use Rattle.spdm_view.proofs.run.write_file.Goals as goal

pub returns-clause-told : goal.returns-clause-told
returns-clause-told g c = λ input left.
    subst (IsToldOfFile input) (sym c.from_pcap_outcome.ensures)
    (told_of_file input (g.S.Source.remaining c.args.source.now) c.from_pcap.result left c.from_pcap.ensures.parts c.from_pcap.ensures.cause)
