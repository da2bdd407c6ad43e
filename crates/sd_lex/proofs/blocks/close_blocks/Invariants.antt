use Rattle.std.proofs.Common.{◌≡◌, ◌≤◌, ◌-◌, ◌++◌, reverse, replicate, vec_len}
use Rattle.sd_lex.specs.Blocks.{outer}
use Rattle.sd_lex.specs.Layout.{mark}
use Rattle.sd_lex.specs.declared.token.TokenKind.TheVariants.{Dedent}
use Rattle.sd_lex.proofs.blocks.close_blocks.Given as goal

-- the blocks that stay open are those of the blocks so far, and each that closed has its mark
abbrev pub invariant-loop-place : goal.invariant-loop-place
invariant-loop-place l = record {
  same : outer l.width (reverse l.widths.items) ≡ outer l.width (reverse l.initial.widths.items);
  fewer : vec_len l.widths ≤ vec_len l.initial.widths;
  marks : l.tokens.items ≡ l.initial.tokens.items ++ replicate (vec_len l.initial.widths - vec_len l.widths) (mark l.place.at l.place.line Dedent);
}

abbrev pub decreases-loop-place : goal.decreases-loop-place
decreases-loop-place l = vec_len l.widths
