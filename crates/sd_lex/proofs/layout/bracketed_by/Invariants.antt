use Rattle.std.proofs.Common.{◌≡◌, ◌≤◌, ◌+◌, take}
use Rattle.sd_lex.specs.Layout.{brackets_after}
use Rattle.sd_lex.proofs.layout.bracketed_by.Given as goal

-- the brackets that are open after the tokens so far
abbrev pub invariant-loop-token : goal.invariant-loop-token
invariant-loop-token l = record {
  few : l.open ≤ l.brackets + l.token-index;
  value : l.open ≡ brackets_after l.text l.brackets (take l.token-index l.tokens);
}
