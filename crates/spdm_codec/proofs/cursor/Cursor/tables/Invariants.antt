use Rattle.std.proofs.Common.{◌≡◌, ◌-◌}
use Rattle.spdm_grammar.specs.Reading.{behind_tables}
use Rattle.spdm_codec.specs.Behind.{IsBehind}
use Rattle.spdm_codec.proofs.cursor.Cursor.tables.Given as goal

abbrev pub invariant-loop-i : goal.invariant-loop-i
invariant-loop-i l = record {
  given : behind_tables (l.count - l.i) l.self ≡ behind_tables l.count l.fn.self;
  behind : IsBehind l.fn.self l.self;
  started : l.start ≡ l.fn.self.at;
  kept : l.rest ≡ l.fn.self.rest;
}
