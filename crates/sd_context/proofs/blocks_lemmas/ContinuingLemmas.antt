-- How an `if` goes on behind the branch that is counted.
use Rattle.std.proofs.Common.{◌≡◌, ap, ◌∙◌, ℕ, List, [], ◌∷◌, ◌++◌, map, reverse, arith}
use Rattle.std.proofs.lemmas.Grind.{common_steps}
use Rattle.std.specs.Prelude.{Ok}
use Rattle.sd_line.specs.line.Head.{HeadTree}
use Rattle.sd_context.specs.context.Context.{OpenBlock, Context}
use Rattle.sd_context.specs.context.ContextFold.{open_block_of}
use Rattle.sd_context.specs.declared.context.block.OpenBlock.{OpenBlock as CodeBlock}
use Rattle.sd_context.specs.blocks.Closing.{and_then, left_by}
use Rattle.sd_context.specs.blocks.Continuing.{with_branch_state, continued, next_judged, left}

pub continued_is : (old counted : Context) (about : OpenBlock) (outer : List OpenBlock) (line : ℕ) (head : HeadTree) → with_branch_state old.block old ≡ Ok counted → counted.outer ≡ about ∷ outer → continued line old head ≡ next_judged counted.block line head (left_by about outer counted)
continued_is old counted about outer line head is blocks =
    ap (λ step. and_then step (λ next. next_judged next.block line head (left next.outer next))) is
    ∙ ap (λ all. next_judged counted.block line head (left all counted)) blocks

-- the last block of the list is the first about the innermost one
pub blocks_last : (blocks : List CodeBlock) (last : CodeBlock) → reverse (map open_block_of (blocks ++ last ∷ [])) ≡ open_block_of last ∷ reverse (map open_block_of blocks)
blocks_last blocks last = grind (arith, common_steps)
