use Rattle.std.proofs.Common.{arith}
use Rattle.std.specs.Prelude.{refl}
use Rattle.negotiate.specs.Reply.{answered_kinds}
use Rattle.negotiate.proofs.FewKinds.{few_kinds}
use Rattle.negotiate.proofs.Answered.{are_tables, four_each}
use Rattle.negotiate.proofs.laws.reply_is_sound.Goals as goal

pub returns : goal.returns
returns c = λ offer choice. record {
  ext_asym = refl;
  ext_asym_few = omega arith;
  ext_hash = refl;
  ext_hash_few = omega arith;
  tables = are_tables choice (answered_kinds offer);
  told = omega (arith, four_each choice (answered_kinds offer), few_kinds offer);
}
