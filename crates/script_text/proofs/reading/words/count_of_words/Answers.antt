use Rattle.std.proofs.Common.{◌≡◌, ◌+◌, drop, ap, arith}
use Rattle.script_text.specs.Lines.{count_of_words}
use Rattle.script_text.proofs.LineWords.{count-space, count-no_space}
use Rattle.script_text.proofs.reading.words.count_of_words.Goals as goal

pub words-preserved : goal.words-preserved
words-preserved c =
    let rest = c.words.rest.now in
    let cut = c.split_at.ensures in
    let told = count-space rest c.place_of.result c.in-Some.end c.place_of.ensures c.in-Some.is in
    let same : count_of_words c.split_at.result.1.now ≡ count_of_words (drop (c.in-Some.end + 1) rest) = ap count_of_words cut.back in
    record {
      count = omega (arith, told.1, same, c.words.invariant.count);
      within = omega (arith, cut.back_len, c.words.invariant.within);
    }

pub returns : goal.returns
returns c =
    let one = count-no_space c.words.rest.now c.place_of.result c.place_of.ensures c.in_default.is in
    omega (arith, one, c.words.invariant.count)
