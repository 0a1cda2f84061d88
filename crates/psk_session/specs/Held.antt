-- The contents of inner messages in the program, and what they are to what is awaited.
use Rattle.std.specs.Prelude.{◌≡◌, ℕ, List, Result, Ok, Err}
use Rattle.spdm_grammar.specs.Message.{response_message, chunk_message}
use Rattle.spdm_grammar.specs.declared.told.event.BadReply.{BadReply}
use Rattle.psk_session.specs.Inner.{Contents}
use Rattle.psk_session.specs.Inner.Contents.{Spoken, AppData}
use Rattle.psk_session.specs.Verdict as verdicts
use Rattle.psk_session.specs.declared.inner.Inner.{Inner}
use Rattle.psk_session.specs.declared.inner.Inner.TheVariants.{Message, Data}
use Rattle.psk_session.specs.declared.outcome.Outcome.{Outcome}
use Rattle.psk_session.specs.declared.outcome.Outcome.TheVariants as outcome
use Rattle.psk_session.specs.declared.verdict.Meaning.{Meaning}
use Rattle.psk_session.specs.declared.verdict.Meaning.TheVariants as meaning
use Rattle.psk_session.specs.declared.verdict.Verdict.{Verdict}
use Rattle.psk_session.specs.declared.verdict.Verdict.TheVariants.{Bad, Ended, Answered, Updated, Large}

abbrev pub held : Inner → Contents
held (Message message) = Spoken (response_message message)
held (Data bytes) = AppData bytes.now

-- What was read is what an inner message holds.
abbrev pub Reads : Result Inner BadReply → Result Contents BadReply → Type 0
Reads (Ok inner) contents = contents ≡ Ok (held inner)
Reads (Err fault) contents = contents ≡ Err fault

-- A verdict of the program.
abbrev pub verdict_of : Verdict → verdicts.Verdict
verdict_of (Bad fault) = verdicts.Verdict.Bad fault
verdict_of Ended = verdicts.Verdict.Ended
verdict_of (Answered reply bytes) = verdicts.Verdict.Answered reply bytes.now
verdict_of (Updated all) = verdicts.Verdict.Updated all
verdict_of (Large op handle) = verdicts.Verdict.Large op handle

-- An outcome, whose application data or measurement record were put down as these bytes.
abbrev pub verdict_with : Outcome → (bytes : List ℕ) → verdicts.Verdict
verdict_with (outcome.Bad fault) bytes = verdicts.Verdict.Bad fault
verdict_with outcome.Ended bytes = verdicts.Verdict.Ended
verdict_with (outcome.Answered reply) bytes = verdicts.Verdict.Answered reply bytes
verdict_with (outcome.Updated all) bytes = verdicts.Verdict.Updated all
verdict_with (outcome.Large op handle) bytes = verdicts.Verdict.Large op handle

abbrev pub seen_meaning : Meaning → verdicts.Meaning
seen_meaning (meaning.Done verdict) = verdicts.Meaning.Done (verdict_of verdict)
seen_meaning (meaning.Piece op chunk) = verdicts.Meaning.Piece op (chunk_message chunk)
