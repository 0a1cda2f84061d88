-- What a place in a line says of the text that is to come. This project's own.
use Rattle.std.specs.Prelude.{ℕ, List, [], ◌++◌, Bool, true, false, drop, take}
use Rattle.frame_stream.specs.Text.{line_of, text_from}
use Rattle.frame_stream.specs.declared.line.LastLine.{LastLine}
use Rattle.frame_stream.specs.declared.line.LastLine.TheVariants.{Go}
use Rattle.frame_stream.specs.declared.line.Place.{Place}
use Rattle.frame_stream.specs.declared.line.Place.TheVariants.{Begins, AfterOne, AfterTwo, AfterThree, Other, Ended}

-- The rest of the text, where these bytes follow: of a line of which the first bytes of the last line were seen it is
-- what follows those.
abbrev pub to_come : LastLine → Place → List ℕ → List ℕ
to_come last Begins bytes = text_from (line_of last) true bytes
to_come last AfterOne bytes = drop 1 (text_from (line_of last) true (take 1 (line_of last) ++ bytes))
to_come last AfterTwo bytes = drop 2 (text_from (line_of last) true (take 2 (line_of last) ++ bytes))
to_come last AfterThree bytes = drop 3 (text_from (line_of last) true (take 3 (line_of last) ++ bytes))
to_come last Other bytes = text_from (line_of last) false bytes
to_come last Ended bytes = []

-- The text goes on at a place: the last line was not seen whole.
abbrev pub goes_on : LastLine → Place → Bool
goes_on last Ended = false
goes_on Go AfterThree = false
goes_on last place = true
