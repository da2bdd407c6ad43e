use Rattle.std.proofs.Common.{◌≡◌, ◌≤◌, ◌+◌, ◌-◌, length, drop}
use Rattle.std.specs.List.{slice_split}
use Rattle.sd_lex.specs.Bytes.{is_newline}
use Rattle.sd_lex.specs.Lines.{numbered, physical_lines}
use Rattle.sd_lex.specs.Layout.{lexed}
use Rattle.sd_lex.specs.LexerState.{whole_of}
use Rattle.sd_lex.proofs.lexing.tokens.Given as goal

-- the lines that are left come behind the tokens so far
abbrev pub invariant-loop-length : goal.invariant-loop-length
invariant-loop-length l = record {
  within : l.from ≤ length l.text;
  few : l.number ≤ l.from + 1;
  few_brackets : l.lexer.brackets ≤ l.from;
  count : l.number + length (slice_split is_newline (drop l.from l.text)) ≡ length (physical_lines l.text) + 1;
  rest : whole_of l.text (length (physical_lines l.text)) l.lexer (numbered l.number l.from (slice_split is_newline (drop l.from l.text))) ≡ lexed l.text;
}

abbrev pub decreases-loop-length : goal.decreases-loop-length
decreases-loop-length l = length l.text - l.from
