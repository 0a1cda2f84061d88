-- The chunk of a large response that is awaited in a session.
use Rattle.std.proofs.Common.{◌≡◌, subst, ℕ, List}
use Rattle.chunking.specs.Keeping as keeping
use Rattle.requester_machine.specs.Message.Ask.{AskChunk}
use Rattle.requester_machine.specs.UnderWay.{AreUnderWay}
use Rattle.spdm_grammar.specs.Message.{ChunkMessage}
use Rattle.psk_session.specs.Waiting.{IsBehind, IsGathered, awaited_by}
use Rattle.psk_session.specs.declared.session_request.Awaited.{Awaited}
use Rattle.psk_session.specs.declared.session_request.Awaited.TheVariants as awaited

-- ---- What is awaited.

pub record IsChunk (most : ℕ) (collector : keeping.Kept) (handle number : ℕ) (others : List ChunkMessage) : Type 0 where
  pub gathered : keeping.StandsFor collector others
  pub max : collector.max ≡ most
  pub under : AreUnderWay most handle number others

under_as : (most a b c d : ℕ) (before others : List ChunkMessage) → a ≡ b → c ≡ d → before ≡ others → AreUnderWay most a c before → AreUnderWay most b d others
under_as most a b c d before others e f g u =
    subst (λ (x : ℕ). AreUnderWay most x d others) e (subst (λ (x : ℕ). AreUnderWay most a x others) f (subst (λ (x : List ChunkMessage). AreUnderWay most a c x) g u))

-- Where a chunk is awaited, those before it are in progress, and are what was gathered.
pub chunk_awaited : (most : ℕ) (w : Awaited) (collector : keeping.Kept) (before others : List ChunkMessage) (op handle number : ℕ) → awaited_by w before ≡ AskChunk op handle number others → IsBehind most w before
    → IsGathered most w collector before → IsChunk most collector handle number others
chunk_awaited most (awaited.Chunk its_op its_handle its_number) collector before others op handle number is behind gathered =
    let a : its_handle ≡ handle = cc is in
    let b : its_number ≡ number = cc is in
    let c : before ≡ others = cc is in
    record {
      gathered = subst (λ (x : List ChunkMessage). keeping.StandsFor collector x) c gathered.0;
      max = gathered.1;
      under = under_as most its_handle handle its_number number before others a b c behind;
    }
chunk_awaited most awaited.Data collector before others op handle number is behind gathered = absurd (cc is)
chunk_awaited most awaited.Beat collector before others op handle number is behind gathered = absurd (cc is)
chunk_awaited most (awaited.Update all) collector before others op handle number is behind gathered = absurd (cc is)
chunk_awaited most awaited.Verify collector before others op handle number is behind gathered = absurd (cc is)
chunk_awaited most (awaited.Measure its_op) collector before others op handle number is behind gathered = absurd (cc is)
chunk_awaited most awaited.End collector before others op handle number is behind gathered = absurd (cc is)
