use Rattle.std.proofs.Common.{◌≡◌, ◌-◌, ◌+◌, ◌≤◌, length, drop}
use Rattle.sd_lex.specs.Reading.{after}
use Rattle.sd_lex.specs.Line.{tokens_from}
use Rattle.sd_lex.proofs.line.push_line.Given as goal

-- what is left of the line comes behind the tokens so far
abbrev pub invariant-loop-at : goal.invariant-loop-at
invariant-loop-at l = record {
  within : l.at ≤ length l.bytes;
  rest : after l.tokens.items (tokens_from l.number (l.from + l.at) 0 (drop l.at l.bytes)) ≡ after l.initial.tokens.items (tokens_from l.number l.from 0 l.bytes);
}

abbrev pub decreases-loop-at : goal.decreases-loop-at
decreases-loop-at l = length l.bytes - l.at
