use Rattle.std.proofs.Common.{◌≡◌, ◌∙◌, length, refl, ap, sym, subst, arith}
use Rattle.spdm_grammar.specs.Message.{ChunkMessage, chunk_message}
use Rattle.chunking.specs.Collecting.{Collection, accepted_with}
use Rattle.chunking.specs.Collecting.Collection.{Whole}
use Rattle.chunking.specs.Keeping.{Kept, StandsFor, after_chunk, answer_to}
use Rattle.chunking.specs.Lending.{TakesChunk}
use Rattle.chunking.proofs.KeptChunks as law
use Rattle.chunking.proofs.collector.Collector.take.Goals as goal

-- what a step leaves is a collector that was given the chunk
takes : (old new : Kept) (c : ChunkMessage) (answer : Collection) → new ≡ after_chunk old c → answer ≡ answer_to old c → TakesChunk c answer old new
takes old new c answer left told = record {
  max = ap (λ (k : Kept). k.max) left ∙ law.max_kept old c;
  stands = λ accepted before. (
      let P : Kept → Type 0 = λ k. StandsFor k (accepted_with old.max accepted c) in
      subst P (sym left) (law.stands accepted c old before)
      );
  refused = λ fault e. left ∙ law.refused_keeps old c fault (sym told ∙ e);
}

pub returns-in-Whole : goal.returns-in-Whole
returns-in-Whole c =
    let m = chunk_message c.args.chunk in
    let told = ap Whole (c.as_slice.ensures.value ∙ ap (λ (k : Kept). k.bytes) c.self.view_is) ∙ c.in-Whole.ensures.answer in (
      (refl, λ _. tt, takes c.args.self.now _ m _ (c.self.view_is ∙ c.step.ensures.after) told),
      record { answer = λ accepted before. told ∙ law.answers c.args.self.now m accepted before; fits = omega (arith, c.as_slice.ensures.fits, ap length c.as_slice.ensures.value); rests = tt },
    )

pub returns-in-More : goal.returns-in-More
returns-in-More c =
    let m = chunk_message c.args.chunk in (
      (refl, λ _. tt, takes c.args.self.now _ m _ (c.self.view_is ∙ c.step.ensures.after) c.in-More.ensures.answer),
      record { answer = λ accepted before. c.in-More.ensures.answer ∙ law.answers c.args.self.now m accepted before; fits = omega arith; rests = tt },
    )

pub returns-in-Refused : goal.returns-in-Refused
returns-in-Refused c =
    let m = chunk_message c.args.chunk in (
      (refl, λ _. tt, takes c.args.self.now _ m _ (c.self.view_is ∙ c.step.ensures.after) c.in-Refused.ensures.answer),
      record { answer = λ accepted before. c.in-Refused.ensures.answer ∙ law.answers c.args.self.now m accepted before; fits = omega arith; rests = tt },
    )
