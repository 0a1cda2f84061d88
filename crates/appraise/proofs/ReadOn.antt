-- One block more is read.
use Rattle.std.proofs.Common.{◌≡◌, ◌++◌, ℕ, Bool, List, [], ◌∷◌, Option, Some, None, refl, sym, ap, ◌∙◌, append_assoc}
use Rattle.std.specs.List.{AllByRecursion}
use Rattle.std.specs.Option.{option_or}
use Rattle.script_text.specs.declared.texts.rule.Rule.{Rule}
use Rattle.measurements.specs.Blocks.{block_bytes}
use Rattle.appraise.specs.declared.appraisal.Appraisal.{Appraisal}
use Rattle.appraise.specs.Records.{Measured, spec_of, IsBlock, IsFirstBlock, bytes_of}
use Rattle.appraise.specs.Answers.{fault_of}
use Rattle.appraise.specs.Walk.{StandsFor, IsRead, first_fault}
use Rattle.appraise.proofs.FirstFaults.{fault_append}
use Rattle.appraise.proofs.OneReading.{bytes_append}
use Rattle.std.proofs.lemmas.List.{append-nil}

blocks_push : (blocks : List Measured) (block : Measured) → AllByRecursion IsBlock blocks → IsBlock block → AllByRecursion IsBlock (blocks ++ block ∷ [])
blocks_push [] block all is = (is, tt)
blocks_push (x ∷ xs) block all is = (all.0, blocks_push xs block all.1 is)

or_nothing : (a : Option Appraisal) → option_or a None ≡ a
or_nothing None = refl
or_nothing (Some f) = refl

bytes_push : (blocks : List Measured) (block : Measured) (bytes rest behind : List ℕ) → bytes ≡ bytes_of blocks ++ rest
    → rest ≡ block_bytes (spec_of block) ++ behind → bytes ≡ bytes_of (blocks ++ block ∷ []) ++ behind
bytes_push blocks block bytes rest behind e f =
    e ∙ ap (λ (l : List ℕ). bytes_of blocks ++ l) f ∙ sym (append_assoc (bytes_of blocks) (block_bytes (spec_of block)) behind)
    ∙ ap (λ (l : List ℕ). (bytes_of blocks ++ l) ++ behind) (sym (append-nil (block_bytes (spec_of block))))
    ∙ ap (λ (l : List ℕ). l ++ behind) (sym (bytes_append blocks (block ∷ [])))

pub read_on : (rules : List Rule) (bytes : List ℕ) (table table' : List Bool) (fault fault' : Option Appraisal) (rest behind : List ℕ) (block : Measured)
    → IsRead rules bytes table fault rest → IsFirstBlock block behind rest
    → ((blocks : List Measured) → StandsFor table blocks → StandsFor table' (blocks ++ block ∷ []))
    → ((earlier : List Measured) → StandsFor table earlier → fault' ≡ option_or fault (fault_of rules earlier block))
    → IsRead rules bytes table' fault' behind
read_on rules bytes table table' fault fault' rest behind block r first seen is = record {
  blocks = r.blocks ++ block ∷ [];
  are_blocks = blocks_push r.blocks block r.are_blocks first.0;
  bytes_are = bytes_push r.blocks block bytes rest behind r.bytes_are first.1;
  seen = seen r.blocks r.seen;
  fault_is = is r.blocks r.seen ∙ ap (λ (o : Option Appraisal). option_or o (fault_of rules r.blocks block)) r.fault_is
      ∙ ap (option_or (first_fault rules r.blocks)) (sym (or_nothing (fault_of rules r.blocks block)))
      ∙ sym (fault_append rules [] r.blocks (block ∷ []));
}
