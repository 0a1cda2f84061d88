use Rattle.chunking.proofs.FewChunks.{number_is_bounded}
use Rattle.chunking.proofs.laws.few_chunks.Goals as goal

pub returns-clause-few : goal.returns-clause-few
returns-clause-few c = λ max given chunk none. (number_is_bounded max given chunk none).0

pub returns-clause-counted : goal.returns-clause-counted
returns-clause-counted c = λ max given chunk none. (number_is_bounded max given chunk none).1
