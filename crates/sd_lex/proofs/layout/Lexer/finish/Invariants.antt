use Rattle.std.proofs.Common.{◌≡◌, ◌++◌, replicate}
use Rattle.sd_lex.specs.Layout.{mark}
use Rattle.sd_lex.specs.declared.token.TokenKind.TheVariants.{Dedent}
use Rattle.sd_lex.proofs.layout.Lexer.finish.Given as goal

-- a mark for each block so far, behind the tokens before the loop
abbrev pub invariant-loop : goal.invariant-loop
invariant-loop l = l.self.tokens.items ≡ l.initial.self.tokens.items ++ replicate l.counter (mark l.end-2.at l.end-2.line Dedent)
