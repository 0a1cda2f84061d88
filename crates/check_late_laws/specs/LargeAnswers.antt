-- The program's representation of a large response that is fetched. This project's own.
use Rattle.std.specs.Prelude.{◌≡◌}
use Rattle.check_late_laws.specs.Fetching.{Fetching, bytes_of, number_of, size_of}
use Rattle.check_late_laws.specs.declared.large_answer.LargeAnswer.{LargeAnswer}

-- It stands for this: the announced length, how many chunks came, and their bytes.
pub record StandsFor (seen : LargeAnswer) (f : Fetching) : Type 0 where
  pub size : seen.size ≡ size_of f
  pub number : seen.number ≡ number_of f
  pub bytes : seen.bytes ≡ bytes_of f
